-- The books of all nodes, as lists that follow the lines of a feed, and how they are written.
use Rattle.std.specs.Prelude.{ℕ, ◌+◌, if◌then◌else◌, List, [], ◌∷◌, ◌++◌, map, flat_map, replicate, Result, Ok, slice_set}
use Rattle.std.specs.List.{slice_index_or}
use Rattle.std.specs.Fmt.{decimal}
use Rattle.dx_types.specs.declared.Order.{Order}
use Rattle.dx_spec.specs.Step.{◌>>=◌, fail_as}
use Rattle.dx_spec.specs.Orders.{byte_of_kind}
use Rattle.dx_print.specs.Numbers.{spaced}
use Rattle.dx_types.specs.declared.Shown.{Shown}
use Rattle.dx_feed.specs.declared.Change.{Change}
use Rattle.dx_feed.specs.Following.{follow}
use Rattle.dx_scenario.specs.Changes.{change_of, change_text}

-- no order is held of any of the nodes 0 to 15
abbrev pub no_books : List (List Shown)
no_books = replicate 16 []

-- the book of a node
abbrev pub book_of : List (List Shown) → ℕ → List Shown
book_of books node = slice_index_or books node []

-- the book of a node follows a change, or refuses it
unfoldable pub follow_at : List (List Shown) → ℕ → Change → Result (List (List Shown)) ℕ
follow_at books node change = follow (book_of books node) change >>= λ list. Ok (slice_set books node list)

-- the books follow a line; whatever is wrong in it, the place is 0
abbrev pub follow_line : List (List Shown) → List ℕ → Result (List (List Shown)) ℕ
follow_line books line = change_of line >>= λ told. fail_as (λ code. 0) (follow_at books told.0 told.1)

-- they follow lines one after another
abbrev pub follow_lines : List (List ℕ) → List (List Shown) → Result (List (List Shown)) ℕ
follow_lines [] books = Ok books
follow_lines (line ∷ lines) books = follow_line books line >>= follow_lines lines

-- the lines of changes of a node, each without its newline
abbrev pub lines_of : ℕ → List Change → List (List ℕ)
lines_of node changes = map (change_text node) changes

-- the ten numbers of an order: 1 buys and 0 sells
abbrev pub order_numbers : Order → List ℕ
order_numbers o =
    o.id.who.owner ∷ o.id.who.number ∷ o.id.client ∷ o.id.flags ∷ o.id.market ∷ (if o.buy then 1 else 0) ∷ o.size ∷ o.subticks ∷ o.until
    ∷ byte_of_kind o.kind ∷ []

-- the line of a held order: its node, its numbers and what is left of it
abbrev pub held_line : ℕ → Shown → List ℕ
held_line node s = decimal node ++ flat_map spaced (order_numbers s.order) ++ spaced s.left ++ 10 ∷ []

-- the lines of a book
abbrev pub book_lines : ℕ → List Shown → List ℕ
book_lines node list = flat_map (held_line node) list

-- the lines of the books of the nodes from a first one on
abbrev pub books_text : ℕ → List (List Shown) → List ℕ
books_text first [] = []
books_text first (list ∷ books) = book_lines first list ++ books_text (first + 1) books
