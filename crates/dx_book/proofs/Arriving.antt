-- The places of keys by their numbers of arrival, and the numbers where a key is put behind or taken out.
use Rattle.std.proofs.Common.{◌≡◌, ◌≢◌, ℕ, zero, suc, ◌+◌, ◌<◌, ◌≤◌, ◌==◌, Bool, true, false, not, cond, T, Option, None, Some, List, [], ◌∷◌, ◌++◌, filter, length, get_or, refl, sym, ap, ◌∙◌, subst, arith}
use Rattle.std.specs.Prelude.{nat_lt}
use Rattle.std.specs.List.{remove}
use Rattle.std.specs.declared.cmp.Ordering.TheVariants.{Less, Equal, Greater}
use Rattle.std.specs.Ordering.{eq_by_cmp, is_eq, nat_cmp}
use Rattle.std.specs.Cmp.{nat_cmp_total, IsEquivalence, eq_by_cmp_equiv}
use Rattle.std.specs.FinMap.Entries as rows
use Rattle.std.proofs.lemmas.Bool.{eqb-true}
use Rattle.dx_book.specs.Arrivals.{place_in, number_or_none, number_of, AreFrom, AreUpTo, AreRising, IsNumbered}
use Rattle.dx_book.specs.Orders.{key_exact}
use Rattle.dx_book.specs.Standing.{has, AreDistinct}
use Rattle.dx_book.proofs.Keys.{same_key, key_swap, without_none}

from_at : (f : ℕ → ℕ) (n : ℕ) (ks : List ℕ) (m d : ℕ) → AreFrom f n ks → m < length ks → n ≤ f (get_or ks m d)
from_at f n [] m d a w = absurd (omega arith)
from_at f n (k ∷ ks) zero d a w = a.0
from_at f n (k ∷ ks) (suc m) d a w = from_at f n ks m d a.1 (omega arith)

-- a key with a lower number stands before
pub stands_before : (f : ℕ → ℕ) (keys : List ℕ) (key m d : ℕ) → AreRising f keys → m < length keys → f (get_or keys m d) < f key → m + 1 ≤ place_in key keys
stands_before f [] key m d r w l = absurd (omega arith)
stands_before f (k ∷ ks) key zero d r w l = go (k == key) refl
  where
    go : (b : Bool) → (k == key) ≡ b → 0 + 1 ≤ cond b 0 (suc (place_in key ks))
    go true e = let same : f k ≡ f key = ap f (eqb-true k key e) in absurd (omega (arith, same, l))
    go false e = omega arith
stands_before f (k ∷ ks) key (suc m) d r w l = go (k == key) refl (stands_before f ks key m d r.1 (omega arith) l)
  where
    go : (b : Bool) → (k == key) ≡ b → m + 1 ≤ place_in key ks → suc m + 1 ≤ cond b 0 (suc (place_in key ks))
    go true e more =
        let same : f k ≡ f key = ap f (eqb-true k key e) in
        let up : f k ≤ f (get_or ks m d) = from_at f (f k) ks m d r.0 (omega arith) in
        absurd (omega (arith, same, up, l))
    go false e more = omega (arith, more)

-- behind a key with a lower number
pub passed : (keys : List ℕ) (table : List (ℕ × ℕ)) (key m a b : ℕ) → AreRising (number_of table) keys → m < length keys → a ≡ number_of table (get_or keys m 0) → b ≡ number_of table key → a < b
    → m + 1 ≤ place_in key keys
passed keys table key m a b r w e f l = stands_before (number_of table) keys key m 0 r w (omega (arith, e, f, l))

-- a place is not behind all
pub place_most : (keys : List ℕ) (key : ℕ) → place_in key keys ≤ length keys
place_most [] key = omega arith
place_most (k ∷ ks) key = go (k == key) (place_most ks key)
  where
    go : (b : Bool) → place_in key ks ≤ length ks → cond b 0 (suc (place_in key ks)) ≤ suc (length ks)
    go true more = omega arith
    go false more = omega (arith, more)

-- the place of a held key is one of them
pub place_held : (keys : List ℕ) (key : ℕ) → has key keys ≡ true → place_in key keys < length keys
place_held [] key h = absurd (cc)
place_held (k ∷ ks) key h = go (k == key) h (place_held ks key)
  where
    go : (b : Bool) → cond b true (has key ks) ≡ true → (has key ks ≡ true → place_in key ks < length ks) → cond b 0 (suc (place_in key ks)) < suc (length ks)
    go true h more = omega arith
    go false h more = let less = more h in omega (arith, less)

-- a key's place is not behind one where it stands
pub place_upto : (keys : List ℕ) (key m d : ℕ) → m < length keys → get_or keys m d ≡ key → place_in key keys ≤ m
place_upto [] key m d w e = absurd (omega arith)
place_upto (k ∷ ks) key zero d w e = go (k == key) refl
  where
    go : (b : Bool) → (k == key) ≡ b → cond b 0 (suc (place_in key ks)) ≤ 0
    go true f = omega arith
    go false f = absurd (let g : true ≡ false = sym (ap (λ j. j == key) e ∙ same_key key) ∙ f in cc)
place_upto (k ∷ ks) key (suc m) d w e = go (k == key) (place_upto ks key m d (omega arith) e)
  where
    go : (b : Bool) → place_in key ks ≤ m → cond b 0 (suc (place_in key ks)) ≤ suc m
    go true more = omega arith
    go false more = omega (arith, more)

-- a key's place is behind one where another stands
pub place_past : (keys : List ℕ) (key m d : ℕ) → m < length keys → m ≤ place_in key keys → get_or keys m d ≢ key → m + 1 ≤ place_in key keys
place_past [] key m d w l e = absurd (omega arith)
place_past (k ∷ ks) key zero d w l e = go (k == key) refl
  where
    go : (b : Bool) → (k == key) ≡ b → 0 + 1 ≤ cond b 0 (suc (place_in key ks))
    go true f = absurd (e (eqb-true k key f))
    go false f = omega arith
place_past (k ∷ ks) key (suc m) d w l e = go (k == key) l (λ h. place_past ks key m d (omega arith) h e)
  where
    go : (b : Bool) → suc m ≤ cond b 0 (suc (place_in key ks)) → (m ≤ place_in key ks → m + 1 ≤ place_in key ks) → suc m + 1 ≤ cond b 0 (suc (place_in key ks))
    go true l more = absurd (omega (arith, l))
    go false l more = let up = more (omega (arith, l)) in omega (arith, up)

-- the place of the place's key is that place
pub place_here : (keys : List ℕ) (key m d : ℕ) → m < length keys → m ≤ place_in key keys → get_or keys m d ≡ key → m ≡ place_in key keys
place_here keys key m d w l e = let up = place_upto keys key m d w e in omega (arith, l, up)

-- the keys without the one at its place
pub without_place : (keys : List ℕ) (key : ℕ) → AreDistinct keys → has key keys ≡ true → remove keys (place_in key keys) ≡ filter (λ j. not (j == key)) keys
without_place [] key d h = absurd (cc)
without_place (k ∷ ks) key d h = go (k == key) refl h (without_place ks key d.1)
  where
    go : (b : Bool) → (k == key) ≡ b → cond b true (has key ks) ≡ true → (has key ks ≡ true → remove ks (place_in key ks) ≡ filter (λ j. not (j == key)) ks)
        → remove (k ∷ ks) (cond b 0 (suc (place_in key ks))) ≡ cond (not b) (k ∷ filter (λ j. not (j == key)) ks) (filter (λ j. not (j == key)) ks)
    go true e h more = sym (without_none key ks (ap (λ m. has m ks) (sym (eqb-true k key e)) ∙ d.0))
    go false e h more = ap (λ l. k ∷ l) (more h)

from_put : (f g : ℕ → ℕ) (n k : ℕ) (xs : List ℕ) → AreFrom f n xs → n ≤ g k → has k xs ≡ false → ((j : ℕ) → (j == k) ≡ false → g j ≡ f j) → AreFrom g n (xs ++ k ∷ [])
from_put f g n k [] a h away same = (h, tt)
from_put f g n k (x ∷ xs) a h away same = go (x == k) refl away (λ e. from_put f g n k xs a.1 h e same)
  where
    go : (b : Bool) → (x == k) ≡ b → cond b true (has k xs) ≡ false → (has k xs ≡ false → AreFrom g n (xs ++ k ∷ [])) → AreFrom g n (x ∷ xs ++ k ∷ [])
    go true e away more = absurd (cc)
    go false e away more = (subst (λ v. n ≤ v) (sym (same x e)) a.0, more away)

rising_put : (f g : ℕ → ℕ) (k : ℕ) (keys : List ℕ) → AreRising f keys → AreUpTo f (g k) keys → has k keys ≡ false → ((j : ℕ) → (j == k) ≡ false → g j ≡ f j) → AreRising g (keys ++ k ∷ [])
rising_put f g k [] r u away same = (tt, tt)
rising_put f g k (x ∷ xs) r u away same = go (x == k) refl away (λ e. rising_put f g k xs r.1 u.1 e same)
  where
    go : (b : Bool) → (x == k) ≡ b → cond b true (has k xs) ≡ false → (has k xs ≡ false → AreRising g (xs ++ k ∷ [])) → AreRising g (x ∷ xs ++ k ∷ [])
    go true e away more = absurd (cc)
    go false e away more = (subst (λ v. AreFrom g v (xs ++ k ∷ [])) (sym (same x e)) (from_put f g (f x) k xs r.0 u.0 away same), more away)

upto_put : (f g : ℕ → ℕ) (k n m : ℕ) (keys : List ℕ) → AreUpTo f n keys → n ≤ m → g k ≤ m → has k keys ≡ false → ((j : ℕ) → (j == k) ≡ false → g j ≡ f j) → AreUpTo g m (keys ++ k ∷ [])
upto_put f g k n m [] u l h away same = (h, tt)
upto_put f g k n m (x ∷ xs) u l h away same = go (x == k) refl away (λ e. upto_put f g k n m xs u.1 l h e same)
  where
    go : (b : Bool) → (x == k) ≡ b → cond b true (has k xs) ≡ false → (has k xs ≡ false → AreUpTo g m (xs ++ k ∷ [])) → AreUpTo g m (x ∷ xs ++ k ∷ [])
    go true e away more = absurd (cc)
    go false e away more = let low : f x ≤ n = u.0 in (subst (λ v. v ≤ m) (sym (same x e)) (omega (arith, low, l)), more away)

from_gone : (f g : ℕ → ℕ) (n k : ℕ) (xs : List ℕ) → AreFrom f n xs → ((j : ℕ) → (j == k) ≡ false → g j ≡ f j) → AreFrom g n (filter (λ j. not (j == k)) xs)
from_gone f g n k [] a same = tt
from_gone f g n k (x ∷ xs) a same = go (x == k) refl (from_gone f g n k xs a.1 same)
  where
    go : (b : Bool) → (x == k) ≡ b → AreFrom g n (filter (λ j. not (j == k)) xs) → AreFrom g n (cond (not b) (x ∷ filter (λ j. not (j == k)) xs) (filter (λ j. not (j == k)) xs))
    go true e more = more
    go false e more = (subst (λ v. n ≤ v) (sym (same x e)) a.0, more)

rising_gone : (f g : ℕ → ℕ) (k : ℕ) (keys : List ℕ) → AreRising f keys → ((j : ℕ) → (j == k) ≡ false → g j ≡ f j) → AreRising g (filter (λ j. not (j == k)) keys)
rising_gone f g k [] r same = tt
rising_gone f g k (x ∷ xs) r same = go (x == k) refl (rising_gone f g k xs r.1 same)
  where
    go : (b : Bool) → (x == k) ≡ b → AreRising g (filter (λ j. not (j == k)) xs) → AreRising g (cond (not b) (x ∷ filter (λ j. not (j == k)) xs) (filter (λ j. not (j == k)) xs))
    go true e more = more
    go false e more = (subst (λ v. AreFrom g v (filter (λ j. not (j == k)) xs)) (sym (same x e)) (from_gone f g (f x) k xs r.0 same), more)

upto_gone : (f g : ℕ → ℕ) (n k : ℕ) (xs : List ℕ) → AreUpTo f n xs → ((j : ℕ) → (j == k) ≡ false → g j ≡ f j) → AreUpTo g n (filter (λ j. not (j == k)) xs)
upto_gone f g n k [] a same = tt
upto_gone f g n k (x ∷ xs) a same = go (x == k) refl (upto_gone f g n k xs a.1 same)
  where
    go : (b : Bool) → (x == k) ≡ b → AreUpTo g n (filter (λ j. not (j == k)) xs) → AreUpTo g n (cond (not b) (x ∷ filter (λ j. not (j == k)) xs) (filter (λ j. not (j == k)) xs))
    go true e more = more
    go false e more = (subst (λ v. v ≤ n) (sym (same x e)) a.0, more)

apart : (j k : ℕ) → (j == k) ≡ false → eq_by_cmp nat_cmp j k ≡ false
apart j k e = go (nat_lt j k) (j == k) e
  where
    go : (b c : Bool) → c ≡ false → is_eq (cond b Less (cond c Equal Greater)) ≡ false
    go true c e = refl
    go false true e = absurd (cc)
    go false false e = refl

own : (k : ℕ) → eq_by_cmp nat_cmp k k ≡ true
own k = let l : IsEquivalence (eq_by_cmp nat_cmp) = eq_by_cmp_equiv nat_cmp_total in l.refl k

-- the numbers with a key put behind
pub numbered_put : (keys : List ℕ) (table : List (ℕ × ℕ)) (next last k : ℕ) → IsNumbered keys table next → has k keys ≡ false → next ≤ last → IsNumbered (keys ++ k ∷ []) (rows.put nat_cmp k next table) last
numbered_put keys table next last k n away up = record {
  sorted = rows.is_sorted-put nat_cmp nat_cmp_total k next table n.sorted;
  rising = rising_put (number_of table) (number_of (rows.put nat_cmp k next table)) k keys n.rising (subst (λ v. AreUpTo (number_of table) v keys) (sym mine) n.most) away others;
  most = upto_put (number_of table) (number_of (rows.put nat_cmp k next table)) k next last keys n.most up (subst (λ v. v ≤ last) (sym mine) up) away others;
}
  where
    mine : number_of (rows.put nat_cmp k next table) k ≡ next
    mine = ap number_or_none (rows.find-put nat_cmp nat_cmp_total k k next table ∙ (λ i. cond (own k i) (Some next) (rows.find nat_cmp k table)))

    others : (j : ℕ) → (j == k) ≡ false → number_of (rows.put nat_cmp k next table) j ≡ number_of table j
    others j e = ap number_or_none (rows.find-put nat_cmp nat_cmp_total j k next table ∙ (λ i. cond (apart j k e i) (Some next) (rows.find nat_cmp j table)))

-- the numbers without a key
pub numbered_gone : (keys : List ℕ) (table : List (ℕ × ℕ)) (next k : ℕ) → IsNumbered keys table next
    → IsNumbered (filter (λ j. not (j == k)) keys) (rows.where_key nat_cmp (λ i. not (eq_by_cmp nat_cmp k i)) table) next
numbered_gone keys table next k n = record {
  sorted = rows.is_sorted-where_key nat_cmp _ table n.sorted;
  rising = rising_gone (number_of table) (number_of (rows.where_key nat_cmp (λ i. not (eq_by_cmp nat_cmp k i)) table)) k keys n.rising others;
  most = upto_gone (number_of table) (number_of (rows.where_key nat_cmp (λ i. not (eq_by_cmp nat_cmp k i)) table)) next k keys n.most others;
}
  where
    others : (j : ℕ) → (j == k) ≡ false → number_of (rows.where_key nat_cmp (λ i. not (eq_by_cmp nat_cmp k i)) table) j ≡ number_of table j
    others j e =
        ap number_or_none (rows.find-where_key nat_cmp (λ i. not (eq_by_cmp nat_cmp k i)) j (λ x t. ap (λ i. not (eq_by_cmp nat_cmp k i)) (sym (key_exact j x t))) table
        ∙ (λ i. cond (not (apart k j (key_swap k j ∙ e) i)) (rows.find nat_cmp j table) None))
