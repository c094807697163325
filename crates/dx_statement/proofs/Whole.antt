-- The statement of a block, from its parts.
use Rattle.std.proofs.Common.{◌≡◌, ℕ, List, [], ◌++◌, Result, Ok, Err, refl, sym, ap, ◌∙◌, IsOk}
use Rattle.std.specs.Prelude.{is_ok}
use Rattle.dx_types.specs.declared.OrderId.{OrderId}
use Rattle.dx_types.specs.declared.Op.{Op}
use Rattle.dx_types.specs.declared.Msg.{Msg}
use Rattle.dx_types.specs.declared.Block.{Block}
use Rattle.dx_types.specs.declared.Bad.{Bad}
use Rattle.dx_spec.specs.Step.{◌>>=◌, ◌>>◌, fail_as}
use Rattle.dx_spec.specs.Codes.{header_part}
use Rattle.dx_spec.specs.State.{State}
use Rattle.dx_spec.specs.Operations.{ops_step}
use Rattle.dx_spec.specs.Blocks.{bad, check_header, block_step}
use Rattle.dx_lines.specs.declared.lines.Line.{Line}
use Rattle.dx_lines.specs.Lines.{if_good, ops_lines, messages_lines, block_lines, statement_step}
use Rattle.dx_statement.proofs.Goods.{good_stage, good_unit}

passed_header : {B : Type 0} (f : ℕ → Bad) (r : Result (Unit {0}) ℕ) (rest : Result B Bad) → IsOk (fail_as f r >> rest) → r ≡ Ok tt
passed_header f (Ok x) rest h = refl
passed_header f (Err c) rest h = absurd (cc)

-- the header of a good block is good
pub good_header : (s : State) (b : Block) → IsOk (block_step s b) → check_header s b ≡ Ok tt
unfolding block_step
good_header s b h = passed_header (bad header_part 0) (check_header s b) _ h

-- and so are its operations
pub good_operations : (s : State) (b : Block) (ops : List Op) → ops ≡ b.ops → IsOk (block_step s b) → IsOk (ops_step s b.height ops)
unfolding block_step
good_operations s b ops e h =
    ap (λ (xs : List Op). is_ok (ops_step s b.height xs)) e ∙ good_stage (ops_step s b.height b.ops) _ (good_unit (fail_as (bad header_part 0) (check_header s b)) _ h)

-- the lines of the operations, and then those of the messages
pub told_block : (s t : State) (b : Block) (ops : List Op) (msgs : List Msg) (first none told : List Line) → none ≡ [] → ops ≡ b.ops → msgs ≡ b.msgs → ops_step s b.height ops ≡ Ok t
    → first ≡ none ++ ops_lines s b.height ops → told ≡ first ++ messages_lines t b.time msgs → told ≡ block_lines s b
unfolding block_lines
told_block s t b ops msgs first none told n i j e f h =
    h ∙ ap (λ ms. first ++ messages_lines t b.time ms) j ∙ ap (λ ys. ys ++ messages_lines t b.time b.msgs) (f ∙ (λ k. n k ++ ops_lines s b.height (i k)))
    ∙ ap (λ ys. ops_lines s b.height b.ops ++ ys) (sym (ap (λ r. if_good r (λ u. messages_lines u b.time b.msgs)) (ap (ops_step s b.height) (sym i) ∙ e)))

-- the state behind the block, with its lines
pub stated : (s u t : State) (b : Block) (results : List ℕ) (triggered : List OrderId) (lines : List Line) → u ≡ s → lines ≡ block_lines s b → block_step u b ≡ Ok (t, results, triggered)
    → statement_step s b ≡ Ok (t, lines)
unfolding statement_step
stated s u t b results triggered lines i e f =
    ap (λ r. r >>= λ after. Ok (after.0, block_lines s b)) (ap (λ (x : State). block_step x b) (sym i) ∙ f) ∙ ap (λ ls. Ok (t, ls)) (sym e)
