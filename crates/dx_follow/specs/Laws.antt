-- The law of a feed's lines and of the books that follow them.
use Rattle.std.specs.Prelude.{◌≡◌, ℕ, ◌<◌, ◌≤◌, Bool, List, Ok, length, slice_set}
use Rattle.std.specs.List.{AllByRecursion}
use Rattle.dx_types.specs.declared.Shown.{Shown}
use Rattle.dx_feed.specs.declared.Change.{Change}
use Rattle.dx_feed.specs.Lists.{NamesOnce, MayFollow}
use Rattle.dx_feed.specs.Changes.{changes}
use Rattle.dx_feed.specs.Following.{follow_all}
use Rattle.dx_scenario.specs.Changes.{last_node, HasWidths}
use Rattle.dx_follow.specs.Books.{book_of, follow_lines, lines_of}

-- where a node's book would follow changes to a list, the books follow their lines, and that node's book is the list
abbrev pub LinesLeadOn : Type 0
LinesLeadOn = (books : List (List Shown)) (node : ℕ) (cs : List Change) (now : List Shown) → node ≤ last_node → node < length books
    → AllByRecursion HasWidths cs → follow_all cs (book_of books node) ≡ Ok now → follow_lines (lines_of node cs) books ≡ Ok (slice_set books node now)

-- so books that follow the lines of the changes to a lawful successor of a node's list have that successor
abbrev pub FeedsLeadOn : Type 0
FeedsLeadOn = (books : List (List Shown)) (node : ℕ) (cleared : Bool) (now : List Shown) → node ≤ last_node → node < length books
    → NamesOnce (book_of books node) → MayFollow cleared (book_of books node) now → AllByRecursion HasWidths (changes cleared (book_of books node) now)
    → follow_lines (lines_of node (changes cleared (book_of books node) now)) books ≡ Ok (slice_set books node now)
