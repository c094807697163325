-- The indexes of a queue stay those of its operations.
use Rattle.std.proofs.Common.{◌≡◌, false, cond, List, [], ◌++◌, Some, Result, Ok, OnOk, map, fold, refl, sym, ap, subst, ◌∙◌}
use Rattle.std.specs.Prelude.{flat_map}
use Rattle.std.specs.Map.{lookup}
use Rattle.std.specs.FinMap.{insert, empty, get-insert, get-empty}
use Rattle.std.proofs.lemmas.Cmp.{eq_by_cmp_equiv}
use Rattle.std.proofs.lemmas.List.Sums.{fold-append}
use Rattle.std.proofs.lemmas.List.{map-append}
use Rattle.std.proofs.lemmas.Grind.{flat_map-append}
use Rattle.dx_types.specs.declared.Order.{Order}
use Rattle.dx_types.specs.declared.OrderId.{OrderId}
use Rattle.dx_types.specs.declared.Op.{Op}
use Rattle.dx_types.specs.Keys.{order_id_cmp, order_id_total}
use Rattle.dx_spec.specs.Orders.{is_same_id}
use Rattle.dx_spec.specs.Operations.{Placed}
use Rattle.dx_spec.specs.Blocks.{has_too_many_ops}
use Rattle.dx_node_spec.specs.Queue.{with_placed, placed_by, mentioned, named_by}
use Rattle.indexmap.specs.IndexSet.{insert_key}
use Rattle.dx_queue.specs.declared.key.IdKey.{IdKey}
use Rattle.dx_queue.specs.Keys.{key_to, is_same_key, with_keys, Agrees, IsKept}
use Rattle.dx_queue.proofs.Names.{same_keys, noted_are_named}

-- what holds with a value, where there is one
pub holds_ok : {A E : Type 0} (r : Result A E) (v : A) (P : Type 0) → r ≡ Ok v → OnOk r P → P
holds_ok r v P e h = subst (λ s. OnOk s P) e h

-- entries in which the key of an order has it, and each other key what it had
pub noted : (es fs : List (IdKey × Order)) (o : Order) (k : IdKey) → k ≡ key_to o.id
    → ((q : IdKey) → lookup (is_same_key q) fs ≡ cond (is_same_key k q) (Some o) (lookup (is_same_key q) es))
    → (m : Placed) → Agrees es m → Agrees fs (insert m o.id o)
noted es fs o k is writes m agrees id =
    let before = lookup (is_same_key (key_to id)) es in
    writes (key_to id)
    ∙ ap (λ (j : IdKey). cond (is_same_key j (key_to id)) (Some o) before) is
    ∙ ap (λ b. cond b (Some o) before) (same_keys o.id id ∙ (eq_by_cmp_equiv order_id_total).symm o.id id)
    ∙ ap (λ r. cond (is_same_id id o.id) (Some o) r) (agrees id)
    ∙ sym (get-insert order_id_total m o.id o id)

-- ids that are noted one after another
with_keys-append : (xs ys : List OrderId) (keys : List IdKey) → with_keys keys (xs ++ ys) ≡ with_keys (with_keys keys xs) ys
with_keys-append xs ys keys = ap (fold (insert_key is_same_key) keys) (map-append key_to xs ys) ∙ fold-append (insert_key is_same_key) keys (map key_to xs) (map key_to ys)

-- no operation
pub none_kept : (ops : List Op) (es : List (IdKey × Order)) (ks : List IdKey) → ops ≡ [] → es ≡ [] → ks ≡ [] → IsKept ops es ks
unfolding placed_by named_by
none_kept ops es ks no_op no_entry no_key = subst (λ l. IsKept l es ks) (sym no_op) empty_kept
  where
    empty_kept : IsKept [] es ks
    empty_kept = record {
      within = refl;
      places = λ id. ap (lookup (is_same_key (key_to id))) no_entry ∙ sym (get-empty order_id_cmp id);
      mentions = no_key;
    }

-- more operations
joined_kept : (ops more : List Op) (es fs : List (IdKey × Order)) (ks ls : List IdKey) → IsKept ops es ks → has_too_many_ops (ops ++ more) ≡ false
    → ((m : Placed) → Agrees es m → Agrees fs (fold with_placed m more)) → ls ≡ with_keys ks (flat_map mentioned more)
    → IsKept (ops ++ more) fs ls
unfolding placed_by
joined_kept ops more es fs ks ls kept within agrees named = record {
  within = within;
  places = subst (Agrees fs) (sym (fold-append with_placed empty ops more)) (agrees _ kept.places);
  mentions =
      named ∙ ap (λ keys. with_keys keys (flat_map mentioned more)) (kept.mentions ∙ sym (noted_are_named ops))
      ∙ sym (with_keys-append (flat_map mentioned ops) (flat_map mentioned more) [])
      ∙ ap (with_keys []) (sym (flat_map-append mentioned ops more)) ∙ noted_are_named (ops ++ more);
}

-- the same behind calls that leave the indexes, and that put the operations behind the others
pub more_kept : (ops more both : List Op) (es old_es fs : List (IdKey × Order)) (ks old_ks ls : List IdKey) → IsKept ops old_es old_ks
    → has_too_many_ops (ops ++ more) ≡ false → es ≡ old_es → ks ≡ old_ks → both ≡ ops ++ more
    → ((m : Placed) → Agrees es m → Agrees fs (fold with_placed m more)) → ls ≡ with_keys ks (flat_map mentioned more)
    → IsKept both fs ls
more_kept ops more both es old_es fs ks old_ks ls kept within same_es same_ks joined agrees named =
    let entries : IsKept ops es old_ks = subst (λ e. IsKept ops e old_ks) (sym same_es) kept in
    let keys : IsKept ops es ks = subst (λ k. IsKept ops es k) (sym same_ks) entries in
    subst (λ l. IsKept l fs ls) (sym joined) (joined_kept ops more es fs ks ls keys within agrees named)
