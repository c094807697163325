use Rattle.std.proofs.Common.{◌≡◌, subst}
use Rattle.std.specs.Prelude.{MatchOption, None, List}
use Rattle.dx_types.specs.declared.Shown.{Shown}
use Rattle.dx_feed.specs.Lists.{shown_of}
use Rattle.dx_feed.specs.Keys.{IsPlaceOf}
use Rattle.dx_feed.proofs.Places.{found_place}
use Rattle.dx_feed.proofs.listing.Listing.place_of.Goals as goal

pub returns : goal.returns
returns c =
    subst (λ (list : List Shown). MatchOption c.get_index_of.result (shown_of list c.args.id ≡ None) (IsPlaceOf list c.args.id)) c.self.view_is
    (found_place c.self.inside.list c.self.inside.keys.keys c.args.id c.of.result c.get_index_of.result c.self.invariant c.of.ensures c.get_index_of.ensures.index)
