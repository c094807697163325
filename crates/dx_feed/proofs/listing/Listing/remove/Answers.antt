use Rattle.std.proofs.Common.{sym, subst}
use Rattle.std.specs.Prelude.{List}
use Rattle.dx_types.specs.declared.Shown.{Shown}
use Rattle.dx_feed.specs.Keys.{IsPlaceOf}
use Rattle.dx_feed.proofs.Places.{removed_kept}
use Rattle.dx_feed.proofs.listing.Listing.remove.Goals as goal

pub invariant_of-self : goal.invariant_of-self
invariant_of-self c =
    let at : IsPlaceOf c.self.inside.list c.args.id c.in-Some.place =
    subst (λ (list : List Shown). IsPlaceOf list c.args.id c.in-Some.place) (sym c.self.view_is) c.in-Some.ensures in
    removed_kept _ _ _ _ _ _ c.self.invariant at c.remove_at.ensures c.shift_remove_index.ensures.keys
