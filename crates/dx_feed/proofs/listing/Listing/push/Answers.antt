use Rattle.std.proofs.Common.{rules, ◌≡◌, ◌∷◌, ◌++◌, [], None, ap, ◌∙◌}
use Rattle.std.specs.Prelude.{List}
use Rattle.indexmap.specs.IndexSet.{insert_key}
use Rattle.dx_types.specs.declared.Shown.{Shown}
use Rattle.dx_feed.specs.Lists.{shown_of}
use Rattle.dx_feed.specs.Keys.{is_same_key}
use Rattle.dx_feed.proofs.Places.{pushed_kept}
use Rattle.dx_feed.proofs.listing.Listing.push.Goals as goal

pub invariant_of-self-2 : goal.invariant_of-self-2
invariant_of-self-2 c =
    let absent : shown_of c.self.inside.list c.args.shown.order.id ≡ None =
    ap (λ (list : List Shown). shown_of list c.args.shown.order.id) c.self.view_is ∙ c.requires in
    let added : c.insert.new.self.keys ≡ insert_key is_same_key c.reserve.new.self.keys c.of.result = search rules in
    let joined : c.push.new.self ≡ c.self.inside.list ++ c.args.shown ∷ [] = search rules in
    pushed_kept _ _ _ _ _ _ _ c.self.invariant absent c.reserve.ensures.keys c.of.ensures added joined
