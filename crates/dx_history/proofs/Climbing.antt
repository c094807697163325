-- Each good block is one height more, and no height is above the last.
use Rattle.std.proofs.Common.{◌≡◌, ℕ, ◌+◌, ◌≤◌, Bool, true, false, not, ◌||◌, ◌==◌, cond, nat_lt, List, [], ◌∷◌, length, None, Ok, refl, sym, ap, ◌∙◌, arith}
use Rattle.std.proofs.lemmas.Bool.{or_parts, eqb-true, ltb-false}
use Rattle.dx_types.specs.declared.Block.{Block}
use Rattle.dx_types.specs.declared.Genesis.{Genesis}
use Rattle.dx_spec.specs.Step.{fail_as}
use Rattle.dx_spec.specs.Codes.{wrong_height, header_part}
use Rattle.dx_spec.specs.State.{State, genesis_state}
use Rattle.dx_spec.specs.Bounds.{last_moment}
use Rattle.dx_spec.specs.Operations.{ops_step}
use Rattle.dx_spec.specs.Messages.{messages}
use Rattle.dx_spec.specs.Blocks.{bad, check_header, votes_step, prices_step, triggered_by, take_samples, take_funding, end_step, Applied, block_step, fold_from}
use Rattle.dx_spec.proofs.Steps.{ok_same, true_from_not, passed}
use Rattle.dx_spec.proofs.Scripts.{passes, unit_passes, stage_passes}

one_of : (t : Bool) (s u : State) → u.clock.height ≡ s.clock.height → (cond t s u).clock.height ≡ s.clock.height
one_of true s u e = refl
one_of false s u e = e

after_samples : (time : ℕ) (s : State) → (take_samples time s).clock.height ≡ s.clock.height
unfolding take_samples
after_samples time s = one_of (nat_lt time s.clock.sample_next) s _ refl

after_funding : (time : ℕ) (s : State) → (take_funding time s).clock.height ≡ s.clock.height
unfolding take_funding
after_funding time s = one_of (nat_lt time s.clock.funding_next) s _ refl

end_height : (s : State) (height time : ℕ) → (end_step s height time).clock.height ≡ height
unfolding end_step
end_height s height time = after_funding time _ ∙ after_samples time _

header_height : (s : State) (b : Block) → check_header s b ≡ Ok tt → (b.height ≡ s.clock.height + 1) × (b.height ≤ last_moment)
unfolding check_header
header_height s b e =
    let a = passes wrong_height (not (b.height == s.clock.height + 1) || nat_lt last_moment b.height) _ tt e in
    let i = or_parts (not (b.height == s.clock.height + 1)) (nat_lt last_moment b.height) a.0 in
    (eqb-true b.height (s.clock.height + 1) (true_from_not (b.height == s.clock.height + 1) i.0), ltb-false last_moment b.height i.1)

-- a good block is at the next height, which is not above the last, and leaves the state there
pub block_height : (s : State) (b : Block) (r : Applied) → block_step s b ≡ Ok r
    → (b.height ≡ s.clock.height + 1) × ((b.height ≤ last_moment) × (r.0.clock.height ≡ b.height))
unfolding block_step
block_height s b r e =
    let a = unit_passes (fail_as (bad header_part 0) (check_header s b)) _ r e in
    let h = header_height s b (passed (bad header_part 0) (check_header s b) tt a.0) in
    let c = stage_passes (ops_step s b.height b.ops) _ r a.1 in
    let d = stage_passes (votes_step None 0 b.votes (messages c.0 b.time b.msgs).0) _ r c.2 in
    let f = stage_passes (prices_step None 0 b.prices d.0) _ r d.2 in
    let last = ok_same (end_step f.0 b.height b.time, (messages c.0 b.time b.msgs).1, triggered_by f.0 b.height b.time) r f.2 in
    (h.0, (h.1, ap (λ (x : Applied). x.0.clock.height) (sym last) ∙ end_height f.0 b.height b.time))

-- so blocks that are good one after the other are as many as heights
pub fold_height : (s : State) (bs : List Block) (t : State) → fold_from s bs ≡ Ok t → t.clock.height ≡ s.clock.height + length bs
unfolding fold_from
fold_height s [] t e = let same = ap (λ (u : State). u.clock.height) (ok_same s t e) in omega (arith, same)
fold_height s (b ∷ bs) t e =
    let a = stage_passes (block_step s b) (λ after. fold_from after.0 bs) t e in
    let one = block_height s b a.0 a.1 in
    let first = one.0 in
    let last = one.1.1 in
    let rest = fold_height a.0.0 bs t a.2 in
    omega (arith, first, last, rest)

-- and none is above the last one
pub fold_low : (s : State) (bs : List Block) (t : State) → s.clock.height ≤ last_moment → fold_from s bs ≡ Ok t → t.clock.height ≤ last_moment
unfolding fold_from
fold_low s [] t low e = let same = ap (λ (u : State). u.clock.height) (ok_same s t e) in omega (arith, same, low)
fold_low s (b ∷ bs) t low e =
    let a = stage_passes (block_step s b) (λ after. fold_from after.0 bs) t e in
    let one = block_height s b a.0 a.1 in
    let most = one.1.0 in
    let last = one.1.1 in
    fold_low a.0.0 bs t (omega (arith, most, last)) a.2

-- a chain from a genesis has the height of its state, and no more blocks than there are heights
pub chain_height : (g : Genesis) (bs : List Block) (t : State) → fold_from (genesis_state g) bs ≡ Ok t → (t.clock.height ≡ length bs) × (length bs ≤ last_moment)
unfolding genesis_state
chain_height g bs t e =
    let height = fold_height (genesis_state g) bs t e in
    let low = fold_low (genesis_state g) bs t (omega arith) e in
    (omega (arith, height), omega (arith, height, low))
