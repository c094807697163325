-- A node has committed a block, and places its orders again in turn.
use Rattle.std.proofs.Common.{◌≡◌, ℕ, suc, Bool, List, ◌∷◌, length, arith, sym, ap, subst, ◌∙◌, Some, Result, Ok, Err}
use Rattle.dx_types.specs.declared.Block.{Block}
use Rattle.dx_types.specs.declared.Bad.{Bad}
use Rattle.dx_node_spec.specs.Node.{Node}
use Rattle.dx_node_spec.specs.Commits.{commit, replay_next, placed_again, after_turns}
use Rattle.dx_speculation.proofs.Replaying.{replaying_places_again}
use Rattle.dx_node.specs.Held.{Held}
use Rattle.dx_node.specs.Standing.{StandsFor, Gives, Becomes}
use Rattle.dx_print.specs.declared.answer.Answer.TheVariants as answers
use Rattle.dx_cluster.specs.Acts.{commit_answer, commit_slot}
use Rattle.dx_cluster.specs.World.{Acts}

-- so many turns are left, behind which the node stands for the one that has placed its whole list
abbrev pub IsUnderWay : Held → Held → ℕ → Type 0
IsUnderWay old now turns = (p : Node) → StandsFor old p → (q : Node) × StandsFor now q × (after_turns turns q ≡ placed_again p)

pub turns_start : (h : Held) (turns : ℕ) → turns ≡ length h.again → IsUnderWay h h turns
turns_start h turns e = λ p st.
    let same : turns ≡ length p.again = e ∙ ap (λ (x : Held). length x.again) st.parts in
    (p, st, ap (λ n. after_turns n p) same ∙ replaying_places_again p (length p.again) (omega arith))

pub turn_done : (old now next : Held) (before turns : ℕ) (more : Bool) → before ≡ suc turns → IsUnderWay old now before → ((q : Node) → StandsFor now q → Becomes next more (replay_next q)) → IsUnderWay old next turns
turn_done old now next before turns more e u f = λ p st.
    let k = u p st in
    ((replay_next k.0).0, (f k.0 k.1).0, sym (ap (λ n. after_turns n k.0) e) ∙ k.2)

pub turns_done : (old now : Held) (turns : ℕ) → turns ≡ 0 → IsUnderWay old now turns → (p : Node) → StandsFor old p → StandsFor now (placed_again p)
turns_done old now turns e u p st = let k = u p st in subst (StandsFor now) (sym (ap (λ n. after_turns n k.0) e) ∙ k.2) k.1

commit_acts : (p : Node) (b : Block) (between new : Held) (results numbers : List ℕ) (r : Result (Node × List ℕ) Bad) → Gives between results r → ((q : Node) → StandsFor between q → StandsFor new (placed_again q)) → numbers ≡ b.height ∷ results
    → StandsFor new (commit_answer p b r).0 × (answers.Good numbers ≡ (commit_answer p b r).1)
commit_acts p b between new results numbers (Ok q) g f e = (f q.0 g.0, ap answers.Good (e ∙ ap (λ rs. b.height ∷ rs) g.1))
commit_acts p b between new results numbers (Err bad) g f e = absurd g

-- the block is committed and the whole list placed
pub committed_acts : (b : Block) (old between new : Held) (results numbers : List ℕ) → ((p : Node) → StandsFor old p → Gives between results (commit p b)) → ((q : Node) → StandsFor between q → StandsFor new (placed_again q)) → numbers ≡ b.height ∷ results
    → Acts (commit_slot (Some b)) old new (answers.Good numbers)
committed_acts b old between new results numbers g f e = λ p st. commit_acts p b between new results numbers (commit p b) (g p st) f e
