-- A finite map whose values are seen through a function.
use Rattle.std.proofs.Common.{◌≡◌, suc, Bool, true, false, cond, List, [], ◌∷◌, map, length, refl, sym, ap, subst, ◌∙◌}
use Rattle.std.specs.Prelude.{Option, None, Some, option_map}
use Rattle.std.specs.declared.cmp.Ordering.{Ordering}
use Rattle.std.specs.Ordering.{eq_by_cmp}
use Rattle.std.specs.Cmp.{IsTotalOrder}
use Rattle.std.specs.List.Sorted.{IsStrictlySortedBy}
use Rattle.std.specs.Map.{keys_of}
use Rattle.std.specs.FinMap.{FinMap, IsAntisymmetric, get, insert, remove, len, keys, entries, find, same_map, get-entries, get-from_entries, get-insert, get-remove, len-entries}
use Rattle.dx_maps.specs.Tables.{with_values}
use Rattle.dx_maps.proofs.Tables.{entries_in_order}
use Rattle.dx_maps.proofs.Entries.{keys_rise}

choice_seen : {X Y : Type 0} (f : X → Y) (b : Bool) (x y : Option X) → option_map f (cond b x y) ≡ cond b (option_map f x) (option_map f y)
choice_seen f true x y = refl
choice_seen f false x y = refl

module _ {K X Y : Type 0} (R : K → K → Ordering) (f : X → Y) where
  -- entries with their values seen through the function
  abbrev pub seen : List (K × X) → List (K × Y)
  seen es = map {B = K × Y} (λ e. (e.0, f e.1)) es

  find_seen : (q : K) (es : List (K × X)) → find R q (seen es) ≡ option_map f (find R q es)
  find_seen q [] = refl
  find_seen q (e ∷ es) = ap (cond (eq_by_cmp R q e.0) (Some (f e.1))) (find_seen q es) ∙ sym (choice_seen f (eq_by_cmp R q e.0) (Some e.1) (find R q es))

  same_keys : (es : List (K × X)) → keys_of (seen es) ≡ keys_of es
  same_keys [] = refl
  same_keys (e ∷ es) = ap (λ ks. e.0 ∷ ks) (same_keys es)

  same_length : (es : List (K × X)) → length (seen es) ≡ length es
  same_length [] = refl
  same_length (e ∷ es) = ap suc (same_length es)

module _ {K X Y : Type 0} (R : K → K → Ordering) (total : IsTotalOrder R) (f : X → Y) where
  -- what it has at a key
  pub get_seen : (m : FinMap R X) (q : K) → get (with_values f m) q ≡ option_map f (get m q)
  get_seen m q = get-from_entries total (seen R f (entries m)) q ∙ find_seen R f q (entries m) ∙ ap (option_map f) (sym (get-entries m q))

module _ {K X Y : Type 0} (R : K → K → Ordering) (total : IsTotalOrder R) (exact : IsAntisymmetric R) (f : X → Y) where
  -- an insert
  pub insert_seen : (m : FinMap R X) (k : K) (v : X) → with_values f (insert m k v) ≡ insert (with_values f m) k (f v)
  insert_seen m k v = same_map total exact _ _ (λ q.
      get_seen R total f (insert m k v) q ∙ ap (option_map f) (get-insert total m k v q) ∙ choice_seen f (eq_by_cmp R q k) (Some v) (get m q)
      ∙ sym (get-insert total (with_values f m) k (f v) q ∙ ap (cond (eq_by_cmp R q k) (Some (f v))) (get_seen R total f m q)))

  -- a key taken out
  pub remove_seen : (m : FinMap R X) (k : K) → with_values f (remove m k) ≡ remove (with_values f m) k
  remove_seen m k = same_map total exact _ _ (λ q.
      get_seen R total f (remove m k) q ∙ ap (option_map f) (get-remove total m k q) ∙ choice_seen f (eq_by_cmp R q k) None (get m q)
      ∙ sym (get-remove total (with_values f m) k q ∙ ap (cond (eq_by_cmp R q k) None) (get_seen R total f m q)))

  -- its entries
  pub entries_seen : (m : FinMap R X) → entries (with_values f m) ≡ seen R f (entries m)
  entries_seen m = entries_in_order R total exact (seen R f (entries m)) (subst (λ ks. IsStrictlySortedBy R ks) (sym (same_keys R f (entries m))) (keys_rise R m))

  -- its keys
  pub keys_seen : (m : FinMap R X) → keys (with_values f m) ≡ keys m
  keys_seen m = ap keys_of (entries_seen m) ∙ same_keys R f (entries m)

  -- how many keys it has
  pub len_seen : (m : FinMap R X) → len (with_values f m) ≡ len m
  len_seen m = len-entries (with_values f m) ∙ ap length (entries_seen m) ∙ same_length R f (entries m) ∙ sym (len-entries m)
