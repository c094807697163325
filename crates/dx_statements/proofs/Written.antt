-- What is written of good blocks, one after the other.
use Rattle.std.proofs.Common.{◌≡◌, ℕ, ◌+◌, ◌<◌, List, [], ◌∷◌, length, drop, get_or, Option, Some, None, Result, Ok, Err, refl, sym, ap, subst, ◌∙◌, arith, IsOk}
use Rattle.std.specs.Prelude.{is_ok}
use Rattle.std.proofs.lemmas.List.{at_drop_more}
use Rattle.std.specs.FinMap as finite
use Rattle.dx_types.specs.declared.Bad.{Bad as BadPart}
use Rattle.dx_types.specs.declared.OrderId.{OrderId}
use Rattle.dx_types.specs.declared.Block.{Block}
use Rattle.dx_types.specs.declared.Genesis.{Genesis}
use Rattle.dx_spec.specs.Step.{◌>>=◌}
use Rattle.dx_spec.specs.State.{State, genesis_state}
use Rattle.dx_spec.specs.Blocks.{block_step, fold_from}
use Rattle.dx_spec.proofs.Scripts.{stage_passes, stage_next}
use Rattle.dx_spec.proofs.Steps.{ok_same}
use Rattle.dx_sound.proofs.Blocks.{moves_on}
use Rattle.dx_operations.specs.Faults.{Refuses}
use Rattle.dx_operations.specs.declared.faults.BlockFault.{BlockFault}
use Rattle.dx_operations.specs.declared.faults.BlockFault.TheVariants.{Bad, NoMemory}
use Rattle.dx_rules.specs.Settled.{IsSettled}
use Rattle.dx_lines.specs.declared.lines.Line.{Line}
use Rattle.dx_lines.specs.Lines.{block_lines, statement_step, statements_from}
use Rattle.dx_books.specs.Books.{Books, SetsLines, CutsLines, cut}
use Rattle.dx_statement.proofs.Goods.{good_stage, good_behind}
use Rattle.dx_statement.proofs.Whole.{good_header}
use Rattle.dx_sound.proofs.Blocks.{next as is_next}
use Rattle.dx_statements.specs.Lists.{place_of, put_lists, PutsLists, SetsLists}
use Rattle.dx_statements.specs.Writing.{WritesBlock, WritesBlocks, WritesStatement}

-- a good block has no fault but want of memory
pub only_memory : {A : Type 0} (r : Result A BadPart) (f : BlockFault) → IsOk r → Refuses f r → f ≡ NoMemory
only_memory r NoMemory h i = refl
only_memory (Ok x) (Bad part) h i = absurd (let e : Ok x ≡ Err part = i in cc)
only_memory (Err b) (Bad part) h i = absurd (cc)

-- a block that is told
record IsTold (s t : State) (b : Block) (lines : List Line) : Type 0 where
  results : List ℕ
  triggered : List OrderId
  done : block_step s b ≡ Ok (t, results, triggered)
  lines_are : block_lines s b ≡ lines

is_told : (s t : State) (b : Block) (lines : List Line) → statement_step s b ≡ Ok (t, lines) → IsTold s t b lines
unfolding statement_step
is_told s t b lines e =
    let a = stage_passes (block_step s b) (λ after. Ok (after.0, block_lines s b)) (t, lines) e in
    let same = ok_same (a.0.0, block_lines s b) (t, lines) a.2 in
    record {
      results = a.0.1;
      triggered = a.0.2;
      done = a.1 ∙ ap (λ (p : State × List Line). Ok (p.0, a.0.1, a.0.2)) same;
      lines_are = ap (λ (p : State × List Line). p.1) same;
    }

-- the heights of a block and of the states beside it
record Heights (s t : State) (b : Block) : Type 0 where
  next : b.height ≡ s.clock.height + 1
  after : t.clock.height ≡ b.height

heights : (s t : State) (b : Block) (lines : List Line) → IsSettled s → statement_step s b ≡ Ok (t, lines) → Heights s t b
heights s t b lines k e =
    let i = is_told s t b lines e in record {
      next = (is_next s b (good_header s b (ap is_ok i.done))).height;
      after = (moves_on s b (t, i.results, i.triggered) k.sound i.done).1;
    }

put_more : (before mid after : Option Books) (node n m k : ℕ) (lines : List Line) (rest : List (List Line)) → n ≡ m → k ≡ n
    → SetsLines before mid (place_of node n) lines → PutsLists mid after node (k + 1) rest → PutsLists before after node m (lines ∷ rest)
put_more None mid after node n m k lines rest i j h l = tt
put_more (Some b) None after node n m k lines rest i j h l = absurd h
put_more (Some b) (Some x) None node n m k lines rest i j h l = absurd l
put_more (Some b) (Some x) (Some y) node n m k lines rest i j h l =
    l ∙ (λ z. put_lists (h z) node ((j ∙ i) z + 1) rest) ∙ ap (λ q. put_lists (finite.insert b (place_of node q) lines) node (m + 1) rest) i

counted : (t u s b n : ℕ) → t ≡ u + n → u ≡ b → b ≡ s + 1 → t ≡ s + (n + 1)
counted t u s b n e f g = omega (arith, e, f, g)

longer : (lines : List Line) (rest : List (List Line)) → length rest + 1 ≡ length (lines ∷ rest)
longer lines rest = omega arith

-- a block, and then those behind it
pub writes_more : (s u t : State) (b : Block) (bs : List Block) (node : ℕ) (before mid after : Option Books) → IsSettled s
    → WritesBlock s u b node before mid → WritesBlocks u t bs node mid after → WritesBlocks s t (b ∷ bs) node before after
unfolding statements_from
writes_more s u t b bs node before mid after k h l =
    let i = is_told s u b h.lines h.told in
    let o = heights s u b h.lines k h.told in
    record {
      lists = h.lines ∷ l.lists;
      told = stage_next (block_step s b) (u, i.results, i.triggered) (λ after. statements_from after.0 bs >>= λ rest. Ok (block_lines s b ∷ rest)) i.done
          ∙ stage_next (statements_from u bs) l.lists (λ rest. Ok (block_lines s b ∷ rest)) l.told ∙ ap (λ x. Ok (x ∷ l.lists)) i.lines_are;
      put = put_more before mid after node b.height (s.clock.height + 1) u.clock.height h.lines l.lists o.next o.after h.set l.put;
      height = counted t.clock.height u.clock.height s.clock.height b.height (length l.lists) l.height o.after o.next ∙ ap (λ n. s.clock.height + n) (longer h.lines l.lists);
    }

put_none : (now : Option Books) (node height : ℕ) → PutsLists now now node height []
put_none None node height = tt
put_none (Some b) node height = refl

none_more : (n : ℕ) → n ≡ n + 0
none_more n = omega arith

-- no block
pub writes_none : (s : State) (bs : List Block) (node : ℕ) (now : Option Books) → bs ≡ [] → WritesBlocks s s bs node now now
unfolding statements_from
writes_none s bs node now e =
    subst (λ bs. WritesBlocks s s bs node now now) (sym e) (record { lists = []; told = refl; put = put_none now node (s.clock.height + 1); height = none_more s.clock.height })

-- the block of a turn is good on the state before it, and those behind it are good on the state after it
pub good_turn : (s : State) (bs : List Block) (i : ℕ) (d : Block) → i < length bs → IsOk (fold_from s (drop i bs)) → IsOk (block_step s (get_or bs i d))
unfolding fold_from
good_turn s bs i d h g =
    good_stage (block_step s (get_or bs i d)) (λ after. fold_from after.0 (drop (i + 1) bs)) (ap is_ok (sym (at_drop_more (fold_from s) bs i d h)) ∙ g)

pub good_rest : (s t : State) (bs : List Block) (i : ℕ) (d : Block) (lines : List Line) → i < length bs → statement_step s (get_or bs i d) ≡ Ok (t, lines) → IsOk (fold_from s (drop i bs))
    → IsOk (fold_from t (drop (i + 1) bs))
unfolding fold_from
good_rest s t bs i d lines h e g =
    let o = is_told s t (get_or bs i d) lines e in
    good_behind (block_step s (get_or bs i d)) (t, o.results, o.triggered) (λ after. fold_from after.0 (drop (i + 1) bs)) o.done (ap is_ok (sym (at_drop_more (fold_from s) bs i d h)) ∙ g)

-- what follows a turn
pub writes_on : (s u : State) (bs : List Block) (i : ℕ) (d : Block) (node : ℕ) (now mid : Option Books) → i < length bs → IsSettled s → WritesBlock s u (get_or bs i d) node now mid
    → (t : State) (after : Option Books) → WritesBlocks u t (drop (i + 1) bs) node mid after → WritesBlocks s t (drop i bs) node now after
writes_on s u bs i d node now mid h k w t after l =
    subst (λ xs. WritesBlocks s t xs node now after) (sym (at_drop_more (λ xs. xs) bs i d h)) (writes_more s u t (get_or bs i d) (drop (i + 1) bs) node now mid after k w l)

set_by : (before first mid after : Option Books) (node n : ℕ) (lists : List (List Line)) → n ≡ length lists → SetsLines before first (place_of node 0) []
    → PutsLists first mid node 1 lists → CutsLines mid after node n → SetsLists before after node lists
set_by None first mid after node n lists e h i j = tt
set_by (Some b) None mid after node n lists e h i j = absurd h
set_by (Some b) (Some x) None after node n lists e h i j = absurd i
set_by (Some b) (Some x) (Some y) None node n lists e h i j = absurd j
set_by (Some b) (Some x) (Some y) (Some z) node n lists e h i j =
    j ∙ (λ k. cut (i k) node (e k)) ∙ ap (λ m. cut (put_lists m node 1 lists) node (length lists)) h

first_height : (g : Genesis) → (genesis_state g).clock.height ≡ 0
unfolding genesis_state
first_height g = refl

from_first : (h n m : ℕ) → h ≡ 0 → m ≡ h + n → m ≡ n
from_first h n m e f = omega (arith, e, f)

-- the list at height 0, those of the blocks, and the cut
pub writes_all : (g : Genesis) (s t : State) (bs : List Block) (node n : ℕ) (before first mid after : Option Books) → s ≡ genesis_state g → n ≡ t.clock.height
    → SetsLines before first (place_of node 0) [] → WritesBlocks s t bs node first mid → CutsLines mid after node n → WritesStatement g bs node before after
writes_all g s t bs node n before first mid after e f h w c =
    let zero : s.clock.height ≡ 0 = ap (λ (u : State). u.clock.height) e ∙ first_height g in
    record {
      lists = w.lists;
      told = ap (λ (u : State). statements_from u bs) (sym e) ∙ w.told;
      set = set_by before first mid after node n w.lists (f ∙ from_first s.clock.height (length w.lists) t.clock.height zero w.height) h
          (subst (λ k. PutsLists first mid node (k + 1) w.lists) zero w.put) c;
    }
