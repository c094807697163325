use Rattle.std.proofs.Common.{◌≡◌, ◌++◌, drop}
use Rattle.dx_follow.specs.Books.{book_lines}
use Rattle.dx_follow.proofs.written.push_book.Given as goal

-- what is written so far, and then the orders that are left
abbrev pub invariant-loop-shown : goal.invariant-loop-shown
invariant-loop-shown l = l.out.items ++ book_lines l.node (drop l.shown-index l.book) ≡ l.fn.out.items ++ book_lines l.node l.book
