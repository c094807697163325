-- Good blocks, and others behind them.
use Rattle.std.proofs.Common.{◌≡◌, List, [], ◌∷◌, ◌++◌, Ok, sym, ap, ◌∙◌}
use Rattle.dx_types.specs.declared.Block.{Block}
use Rattle.dx_spec.specs.State.{State}
use Rattle.dx_spec.specs.Blocks.{Applied, block_step, fold_from}
use Rattle.dx_spec.proofs.Steps.{ok_same}
use Rattle.dx_spec.proofs.Scripts.{stage_passes, stage_next}

-- a block that is good behind good ones is the end of their fold
pub fold_more : (s : State) (bs : List Block) (t : State) (b : Block) (r : Applied) → fold_from s bs ≡ Ok t → block_step t b ≡ Ok r
    → fold_from s (bs ++ b ∷ []) ≡ Ok r.0
unfolding fold_from
fold_more s [] t b r e good = stage_next (block_step s b) r (λ after. Ok after.0) (ap (λ (u : State). block_step u b) (ok_same s t e) ∙ good)
fold_more s (x ∷ bs) t b r e good =
    let a = stage_passes (block_step s x) (λ after. fold_from after.0 bs) t e in
    stage_next (block_step s x) a.0 (λ after. fold_from after.0 (bs ++ b ∷ [])) a.1 ∙ fold_more a.0.0 bs t b r a.2 good

-- blocks behind the state to which others lead are blocks behind those others
pub fold_on : (s : State) (first bs : List Block) (t : State) → fold_from s first ≡ Ok t → fold_from t bs ≡ fold_from s (first ++ bs)
unfolding fold_from
fold_on s [] bs t e = ap (λ (u : State). fold_from u bs) (sym (ok_same s t e))
fold_on s (a ∷ rest) bs t e =
    let r = stage_passes (block_step s a) (λ after. fold_from after.0 rest) t e in
    fold_on r.0.0 rest bs t r.2 ∙ sym (stage_next (block_step s a) r.0 (λ after. fold_from after.0 (rest ++ bs)) r.1)
