-- The law of changes and of those who follow them.
use Rattle.std.specs.Prelude.{◌≡◌, Bool, List, Ok}
use Rattle.dx_types.specs.declared.Shown.{Shown}
use Rattle.dx_feed.specs.Lists.{NamesOnce, MayFollow}
use Rattle.dx_feed.specs.Changes.{changes}
use Rattle.dx_feed.specs.Following.{follow_all}

-- a list that follows the changes from it to a lawful successor is that successor
abbrev pub ChangesLeadOn : Type 0
ChangesLeadOn = (cleared : Bool) (old now : List Shown) → NamesOnce old → MayFollow cleared old now
    → follow_all (changes cleared old now) old ≡ Ok now
