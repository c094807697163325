use Rattle.std.proofs.Common.{◌≡◌, []}
use Rattle.std.specs.Prelude.{replicate}
use Rattle.dx_follow.proofs.books.Books.new.Given as goal

-- so many books are there, without orders
abbrev pub invariant-loop-node : goal.invariant-loop-node
invariant-loop-node l = l.followers.items ≡ replicate l._node []
