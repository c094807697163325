use Rattle.std.proofs.Common.{sym, subst}
use Rattle.std.specs.Prelude.{List}
use Rattle.dx_types.specs.declared.Shown.{Shown}
use Rattle.dx_feed.specs.Keys.{IsPlaceOf}
use Rattle.dx_feed.proofs.Places.{left_kept}
use Rattle.dx_feed.proofs.listing.Listing.set_left.Goals as goal

pub invariant_of-self : goal.invariant_of-self
invariant_of-self c =
    let at : IsPlaceOf c.self.inside.list c.args.id c.in-Some.place =
    subst (λ (list : List Shown). IsPlaceOf list c.args.id c.in-Some.place) (sym c.self.view_is) c.in-Some.ensures in
    left_kept _ _ _ _ _ _ c.self.invariant at c.set_left_at.ensures
