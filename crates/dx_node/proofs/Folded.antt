-- Blocks that are folded over a work of one content, and the work that a node then starts from.
use Rattle.std.proofs.Common.{◌≡◌, ℕ, Option, None, sym, ap, subst, ◌∙◌}
use Rattle.std.specs.Prelude.{List}
use Rattle.std.specs.FinMap.{values}
use Rattle.dx_types.specs.declared.Order.{Order}
use Rattle.dx_spec.specs.State.{State}
use Rattle.dx_io.specs.Rows.{Rows}
use Rattle.dx_rules.specs.Settled.{IsSettled}
use Rattle.dx_work.specs.Lines.{Journal, settled_at, present, committed, aside_of}
use Rattle.dx_node.specs.Starts.{LeadsFrom}

-- a work of one state is settled where the state is
pub one_settled : (w : Journal) (s : State) → w ≡ settled_at s → IsSettled s → IsSettled (present w)
one_settled w s e h = subst IsSettled (sym (ap present e)) h

-- its two contents are one
pub one_content : (w : Journal) (s : State) → w ≡ settled_at s → committed w ≡ present w
one_content w s e = ap committed e ∙ sym (ap present e)

-- and nothing is aside
pub none_aside : (w : Journal) (s : State) → w ≡ settled_at s → aside_of w ≡ None
none_aside w s e = ap aside_of e

-- the blocks lead from the state to the committed content of the work that a node starts with
pub folded_leads : (rows : Option Rows) (node first more : ℕ) (s : State) (w v u : Journal) → w ≡ settled_at s → u ≡ v → committed v ≡ present v
    → LeadsFrom rows node first more (present w) (present v) → LeadsFrom rows node first more s (committed u)
folded_leads rows node first more s w v u e same both l =
    subst (λ (t : State). LeadsFrom rows node first more s t) (sym (ap committed same ∙ both))
    (subst (λ (t : State). LeadsFrom rows node first more t (present v)) (ap present e) l)

-- which is settled
pub folded_settled : (v u : Journal) → u ≡ v → committed v ≡ present v → IsSettled (present v) → IsSettled (committed u)
folded_settled v u same both h = subst IsSettled (sym (ap committed same ∙ both)) h

-- and the present content
pub folded_present : (v u : Journal) → u ≡ v → committed v ≡ present v → present u ≡ committed u
folded_present v u same both = ap present same ∙ sym both ∙ sym (ap committed same)

-- nothing is aside
pub folded_nothing : (v u : Journal) → u ≡ v → aside_of v ≡ None → aside_of u ≡ None
folded_nothing v u same none = ap aside_of same ∙ none

-- and the orders to place are its stateful ones
pub folded_again : (v u : Journal) (again : List Order) → u ≡ v → again ≡ values (committed v).stateful → again ≡ values (committed u).stateful
folded_again v u again same e = e ∙ sym (ap (λ (j : Journal). values (committed j).stateful) same)
