use Rattle.std.proofs.Common.{◌++◌, drop, ◌+◌, sym, subst, ◌∙◌}
use Rattle.std.specs.Prelude.{List}
use Rattle.std.proofs.lemmas.List.{at_drop_more}
use Rattle.dx_types.specs.declared.Shown.{Shown}
use Rattle.dx_feed.specs.Lists.{NamesOnce}
use Rattle.dx_feed.proofs.Places.{next_absent}
use Rattle.dx_feed.proofs.listing.Listing.of.Goals as goal

pub push-requires : goal.push-requires
push-requires c =
    let items = c.as_slice-shown-items.result.now in
    let at = at_drop_more (λ (rest : List Shown). c.loop-shown.listing ++ rest) items c.loop-shown.shown-index _ c.loop-shown-test.true in
    next_absent c.loop-shown.listing _ (drop (c.loop-shown.shown-index + 1) items) items (subst NamesOnce (sym c.as_slice-shown-items.ensures) c.requires)
    (sym at ∙ c.loop-shown.invariant)
