-- The entries of a table and the finite map that they make, for any key whose order is total.
use Rattle.std.proofs.Common.{◌≡◌, cond, List, [], ◌∷◌, length, true, refl, sym, ap, subst, ◌∙◌, T}
use Rattle.std.specs.Prelude.{Option, None, Some}
use Rattle.std.specs.declared.cmp.Ordering.{Ordering}
use Rattle.std.specs.declared.cmp.Ordering.TheVariants.{Less}
use Rattle.std.specs.Ordering.{eq_by_cmp}
use Rattle.std.specs.Cmp.{IsTotalOrder, eq_by_cmp_equiv}
use Rattle.std.specs.List.{AllByRecursion}
use Rattle.std.specs.List.Sorted.{IsStrictlySortedBy}
use Rattle.std.specs.Map.{lookup, keys_of}
use Rattle.std.specs.BTreeMap.{is_at}
use Rattle.std.specs.FinMap.Entries.{is_sorted, below_all}
use Rattle.std.specs.FinMap.{IsAntisymmetric, get, insert, remove, len, keys, entries, find, from_entries, from_sorted, same_map, get-from_entries, get-from_sorted, entries-from_sorted, get-insert, get-remove, len-entries}

module _ {K X : Type 0} (R : K → K → Ordering) where
  -- the value that a list of entries has at a key
  abbrev pub value_at : List (K × X) → K → Option X
  value_at es q = lookup (is_at (R q)) es

  find_key : (es : List (K × X)) (q : K) → find R q es ≡ value_at es q
  find_key [] q = refl
  find_key (e ∷ es) q = ap (cond (is_at (R q) e.0) (Some e.1)) (find_key es q)

  below_each : (k : K) (es : List (K × X)) → AllByRecursion (λ y. R k y ≡ Less) (keys_of es) → below_all R k es ≡ true
  below_each k [] a = refl
  below_each k (e ∷ es) a = rw (a.0, below_each k es a.1) refl

  -- entries whose keys rise are sorted, as the finite map tests it
  pub sorted_entries : (es : List (K × X)) → IsStrictlySortedBy R (keys_of es) → is_sorted R es ≡ true
  unfolding IsStrictlySortedBy
  sorted_entries [] h = refl
  sorted_entries (e ∷ es) h = rw (below_each e.0 es h.0, sorted_entries es h.1) refl

module _ {K X : Type 0} (R : K → K → Ordering) (total : IsTotalOrder R) where
  -- what the map that the entries make has at a key
  pub get_key : (es : List (K × X)) (q : K) → get (from_entries {R = R} es) q ≡ value_at R es q
  get_key es q = get-from_entries total es q ∙ find_key R es q

module _ {K X : Type 0} (R : K → K → Ordering) (total : IsTotalOrder R) (exact : IsAntisymmetric R) where
  -- entries that have the same value at each key make one map
  pub same_tables : (es fs : List (K × X)) → ((q : K) → value_at R es q ≡ value_at R fs q) → from_entries {R = R} es ≡ from_entries fs
  same_tables es fs h = same_map total exact _ _ (λ q. get_key R total es q ∙ h q ∙ sym (get_key R total fs q))

  -- entries of which one is written make the map with that key inserted
  pub one_written : (es fs : List (K × X)) (k : K) (v : X) → ((q : K) → value_at R fs q ≡ cond (is_at (R k) q) (Some v) (value_at R es q)) → from_entries {R = R} fs ≡ insert (from_entries es) k v
  one_written es fs k v h = same_map total exact _ _ (λ q.
      get_key R total fs q ∙ h q ∙ ap (λ b. cond b (Some v) (value_at R es q)) ((eq_by_cmp_equiv total).symm k q)
      ∙ sym (get-insert total (from_entries es) k v q ∙ ap (cond (eq_by_cmp R q k) (Some v)) (get_key R total es q)))

  -- entries of which one is taken out make the map without that key
  pub one_removed : (es fs : List (K × X)) (k : K) → ((q : K) → value_at R fs q ≡ cond (is_at (R k) q) None (value_at R es q)) → from_entries {R = R} fs ≡ remove (from_entries es) k
  one_removed es fs k h = same_map total exact _ _ (λ q.
      get_key R total fs q ∙ h q ∙ ap (λ b. cond b None (value_at R es q)) ((eq_by_cmp_equiv total).symm k q)
      ∙ sym (get-remove total (from_entries es) k q ∙ ap (cond (eq_by_cmp R q k) None) (get_key R total es q)))

  -- entries in order are the entries of the map that they make
  pub entries_in_order : (es : List (K × X)) → IsStrictlySortedBy R (keys_of es) → entries (from_entries {R = R} es) ≡ es
  entries_in_order es h =
      let s : T (is_sorted R es) = subst T (sym (sorted_entries R es h)) tt in
      ap entries (same_map total exact (from_entries es) (from_sorted es) (λ q. get-from_entries total es q ∙ sym (get-from_sorted R es q s))) ∙ entries-from_sorted R es s

  -- and their keys are its keys
  pub keys_in_order : (es : List (K × X)) → IsStrictlySortedBy R (keys_of es) → keys (from_entries {R = R} es) ≡ keys_of es
  keys_in_order es h = ap keys_of (entries_in_order es h)

  -- and it has as many keys as there are entries
  pub len_in_order : (es : List (K × X)) → IsStrictlySortedBy R (keys_of es) → len (from_entries {R = R} es) ≡ length es
  len_in_order es h = len-entries (from_entries es) ∙ ap length (entries_in_order es h)
