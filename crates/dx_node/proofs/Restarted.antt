-- A node that starts anew: what its type keeps, and the plain node that it then stands for.
use Rattle.std.proofs.Common.{◌≡◌, ℕ, ◌+◌, ◌≤◌, List, [], ◌∷◌, Option, Some, None, Result, Ok, Err, refl, sym, ap, subst, ◌∙◌, arith}
use Rattle.std.specs.Prelude.{length, IfSome, IfErr}
use Rattle.std.specs.Result.{result_unwrap_or}
use Rattle.std.specs.FinMap.{values}
use Rattle.dx_types.specs.declared.Genesis.{Genesis}
use Rattle.dx_types.specs.declared.Block.{Block}
use Rattle.dx_types.specs.declared.Bad.{Bad}
use Rattle.dx_types.specs.declared.Order.{Order}
use Rattle.dx_spec.specs.State.{State, genesis_state}
use Rattle.dx_spec.specs.Bounds.{most_orders}
use Rattle.dx_spec.specs.Genesis.{IsGenesis}
use Rattle.dx_spec.specs.Balance.{Sound}
use Rattle.dx_spec.specs.Blocks.{block_step, fold_from}
use Rattle.dx_spec.proofs.Steps.{ok_same}
use Rattle.dx_spec.proofs.Scripts.{stage_passes}
use Rattle.dx_sound.proofs.Beginning.{Sound-genesis}
use Rattle.dx_sound.proofs.Blocks.{Sound-block_step, moves_on}
use Rattle.dx_io.specs.Rows.{Rows}
use Rattle.dx_accounts.specs.Steady.{IsSteady}
use Rattle.dx_rules.specs.Settled.{IsSettled}
use Rattle.dx_rules.proofs.Blocking.{IsSteady-IsSettled}
use Rattle.dx_history.specs.Chains.{kept}
use Rattle.dx_node_spec.specs.Node.{Node, committed}
use Rattle.dx_node_spec.specs.Commits.{restarted, resumed}
use Rattle.dx_speculation.proofs.Committing.{resuming_is_faithful}
use Rattle.dx_speculation.proofs.Replayable.{resuming_makes_replayable}
use Rattle.dx_node.specs.declared.faults.RestartFault.{RestartFault}
use Rattle.dx_node.specs.Held.{Held, IsKept}
use Rattle.dx_node.specs.Standing.{StandsFor}
use Rattle.dx_node.specs.Starts.{IsUnkept, Begins, IsChainOf, IsBegun, IsAnew}
use Rattle.dx_node.specs.Restarts.{Restarts, RestartRefused, BeginsRows}
use Rattle.dx_node.proofs.Plain.{genesis_same, empty_leads, stand_back, stands_by, plain, kept_by}

-- blocks leave the genesis
pub same_genesis : (s : State) (bs : List Block) (t : State) → Sound s → fold_from s bs ≡ Ok t → t.genesis ≡ s.genesis
unfolding fold_from
same_genesis s [] t h e = ap (λ (u : State). u.genesis) (sym (ok_same s t e))
same_genesis s (b ∷ bs) t h e =
    let a = stage_passes (block_step s b) (λ r. fold_from r.0 bs) t e in
    same_genesis a.0.0 bs t (Sound-block_step s b a.0 h a.1) a.2 ∙ (moves_on s b a.0 h a.1).0

-- the plain node that it stands for
pub stands_begun : (n : Held) (p : Node) (blocks : List Block) → n.committed.genesis ≡ p.genesis → IsAnew p.number n → fold_from (genesis_state p.genesis) blocks ≡ Ok n.committed
    → StandsFor n (restarted p blocks)
unfolding restarted resumed committed
stands_begun n p blocks g a e =
    stands_by n (restarted p blocks) e g
    (empty_leads n.committed n.speculative (n.committed.clock.height + 1) n.queue a.queue a.speculative) a.number_is a.queue a.book a.cancels a.pool a.feed
    (a.again ∙ ap (λ (r : Result State Bad). values (result_unwrap_or r (genesis_state p.genesis)).stateful) (sym e))

stands_anew : (n : Held) (p : Node) (blocks : List Block) → IsGenesis p.genesis → IsAnew p.number n → fold_from (genesis_state p.genesis) blocks ≡ Ok n.committed → StandsFor n (restarted p blocks)
stands_anew n p blocks k a e =
    stands_begun n p blocks (same_genesis (genesis_state p.genesis) blocks n.committed (Sound-genesis p.genesis k) e ∙ genesis_same p.genesis) a e

-- the plain node that it stands for where it starts from a state
pub stands_resumed : (n : Held) (p : Node) (s : State) (blocks : List Block) → Sound s → s.genesis ≡ p.genesis → IsAnew p.number n → fold_from s blocks ≡ Ok n.committed
    → StandsFor n (resumed p s blocks)
unfolding resumed committed
stands_resumed n p s blocks h g a e =
    stands_by n (resumed p s blocks) e (same_genesis s blocks n.committed h e ∙ g)
    (empty_leads n.committed n.speculative (n.committed.clock.height + 1) n.queue a.queue a.speculative) a.number_is a.queue a.book a.cancels a.pool a.feed
    (a.again ∙ ap (λ (r : Result State Bad). values (result_unwrap_or r s).stateful) (sym e))

-- what the type keeps of it
pub kept_anew : (number : ℕ) (n : Held) → IsAnew number n → IsSettled n.committed → IsKept n
unfolding fold_from
kept_anew number n a settled =
    let p = plain n in
    let t = n.committed in
    let own = subst (λ (m : ℕ). IsAnew m n) (sym a.number_is) a in
    kept_by n (resumed p t []) (stands_resumed n p t [] settled.sound refl own refl)
    (resuming_is_faithful p t [] t settled.sound settled.balanced refl) (resuming_makes_replayable p t [] t settled.sound settled.balanced refl)
    settled (subst IsSteady (sym a.speculative) (IsSteady-IsSettled t settled)) (subst (λ (os : List Order). length os ≤ most_orders) (sym a.book) (omega arith))

-- so it starts anew from the rows
pub starts_anew : (rows : Option Rows) (g h n : Held) (p : Node) (height : ℕ) → g ≡ h → IsKept g → IsAnew g.number n → Begins g.committed.genesis (IsChainOf rows g.committed.genesis g.number) n.committed
    → height ≡ n.committed.clock.height → StandsFor h p → Restarts rows p n height
starts_anew rows g h n p height v k a b told st =
    let back = stand_back g h p v st in
    let number : g.number ≡ p.number = ap (λ (x : Held). x.number) back.parts in
    let c : Begins p.genesis (IsChainOf rows p.genesis p.number) n.committed =
    subst (λ (m : ℕ). Begins p.genesis (IsChainOf rows p.genesis m) n.committed) number (subst (λ (of : Genesis). Begins of (IsChainOf rows of g.number) n.committed) back.genesis b) in
    record {
      blocks = c.blocks;
      kept = c.told;
      stands = stands_anew n p c.blocks (subst IsGenesis back.genesis k.settled.genesis) (subst (λ (m : ℕ). IsAnew m n) number a) c.leads;
      told = told;
    }

-- the rows of a node that stands for a plain one are refused as those of that one
pub restart_refused : (rows : Option Rows) (g h : Held) (p : Node) (fault : RestartFault) → g ≡ h
    → IfSome rows (λ r. IsUnkept g.committed.genesis (kept g.committed.genesis r g.number) fault) → StandsFor h p → RestartRefused rows p fault
restart_refused rows g h p fault v k st =
    let back = stand_back g h p v st in
    subst (λ (m : ℕ). IfSome rows (λ r. IsUnkept p.genesis (kept p.genesis r m) fault)) (ap (λ (x : Held). x.number) back.parts)
    (subst (λ (of : Genesis). IfSome rows (λ r. IsUnkept of (kept of r g.number) fault)) back.genesis k)

-- and begun as its
pub restart_begun : (rows after : Option Rows) (g h : Held) (p : Node) → g ≡ h → IsBegun rows after g.committed.genesis g.number → StandsFor h p → BeginsRows rows after p
restart_begun rows after g h p v k st =
    let back = stand_back g h p v st in
    subst (λ (m : ℕ). IsBegun rows after p.genesis m) (ap (λ (x : Held). x.number) back.parts) (subst (λ (of : Genesis). IsBegun rows after of g.number) back.genesis k)

-- what is told of each rows that are known is told of the known ones
pub if_known : {A : Type 0} (P : Rows → RestartFault → Type 0) (rows : Option Rows) (result : Result A RestartFault)
    → ((r : Rows) → rows ≡ Some r → IfErr result (P r)) → IfErr result (λ fault. IfSome rows (λ r. P r fault))
if_known P rows (Ok x) f = tt
if_known P None (Err fault) f = tt
if_known P (Some r) (Err fault) f = f r refl
