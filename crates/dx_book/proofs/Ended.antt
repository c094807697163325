-- The ends that have passed stand side by side.
use Rattle.std.proofs.Common.{◌≡◌, ℕ, ◌<◌, ◌≤◌, ◌==◌, Bool, true, false, not, cond, refl, sym, ◌∙◌, subst, arith}
use Rattle.std.specs.Prelude.{◌&&◌, nat_lt, nat_le}
use Rattle.std.specs.declared.cmp.Ordering.{Ordering}
use Rattle.std.specs.declared.cmp.Ordering.TheVariants.{Less, Equal, Greater}
use Rattle.std.specs.Ordering.{is_gt, nat_cmp, ordering_then, MatchOrdering}
use Rattle.std.specs.Cmp.{ranks}
use Rattle.std.proofs.lemmas.Bool.{eq-eqb, ltb-true, ltb-false, leb-true, leb-false}
use Rattle.dx_book.specs.Expiries.{is_over, start_of_term}
use Rattle.dx_book.specs.Names.{expiry_cmp}
use Rattle.dx_book.specs.declared.names.Expiry.{Expiry}

-- one that comes no later
pub not_later : (x y : ℕ) (o : Ordering) → ordering_then (nat_cmp x y) o ≡ Less → x ≤ y
not_later x y o h = go (nat_cmp x y) (ranks x y) h
  where
    go : (r : Ordering) → MatchOrdering r (x < y) (x ≡ y) (y < x) → ordering_then r o ≡ Less → x ≤ y
    go Less m h = omega (arith, m)
    go Equal m h = omega (arith, m)
    go Greater m h = absurd (cc)

above : (x y : ℕ) → nat_cmp x y ≡ Greater → y < x
above x y e = subst (λ r. MatchOrdering r (x < y) (x ≡ y) (y < x)) e (ranks x y)

-- no end stands before the first one of 0
least : (u x f : ℕ) → ordering_then (nat_cmp 0 u) (nat_cmp x f) ≡ Greater → f < x
least u x f h = go (nat_cmp 0 u) (ranks 0 u) h
  where
    go : (r : Ordering) → MatchOrdering r (0 < u) (0 ≡ u) (u < 0) → ordering_then r (nat_cmp x f) ≡ Greater → f < x
    go Less m h = absurd (cc)
    go Equal m h = above x f h
    go Greater m h = absurd (omega (arith, m))

not_below : (x y h : ℕ) → x ≤ y → nat_lt x h ≡ false → nat_lt y h ≡ false
not_below x y h l e = go (nat_lt y h) refl
  where
    go : (b : Bool) → nat_lt y h ≡ b → b ≡ false
    go true f = let a = ltb-false x h e in let c = ltb-true y h f in absurd (omega (arith, a, c, l))
    go false f = refl

not_upto : (x y h : ℕ) → x ≤ y → nat_le x h ≡ false → nat_le y h ≡ false
not_upto x y h l e = go (nat_le y h) refl
  where
    go : (b : Bool) → nat_le y h ≡ b → b ≡ false
    go true f = let a = leb-false x h e in let c = leb-true y h f in absurd (omega (arith, a, c, l))
    go false f = refl

-- no end before the first of its sort has passed
pub before_start : (short : Bool) (bound : ℕ) (a : Expiry) → expiry_cmp (start_of_term short) a ≡ Greater → is_over short bound a ≡ false
before_start true bound a h = go (a.flags == 0) h
  where
    go : (q : Bool) → ordering_then (nat_cmp 0 (cond q 0 1)) (ordering_then (nat_cmp 0 a.until) (nat_cmp 0 a.flags)) ≡ Greater → (q && nat_lt a.until bound) ≡ false
    go true h = let l = least a.until 0 a.flags h in absurd (omega (arith, l))
    go false h = refl
before_start false bound a h = go (a.flags == 0) refl h
  where
    go : (q : Bool) → (a.flags == 0) ≡ q → ordering_then (nat_cmp 1 (cond q 0 1)) (ordering_then (nat_cmp 0 a.until) (nat_cmp 1 a.flags)) ≡ Greater → (not q && nat_le a.until bound) ≡ false
    go true e h = refl
    go false e h =
        let l = least a.until 1 a.flags h in
        absurd (let f : true ≡ false = sym (eq-eqb a.flags 0 (omega (arith, l))) ∙ e in cc)

-- behind an end of a sort that has not passed none has
pub closed : (short : Bool) (bound : ℕ) (a b : Expiry) → is_gt (expiry_cmp (start_of_term short) a) ≡ false → is_over short bound a ≡ false → expiry_cmp a b ≡ Less → is_over short bound b ≡ false
closed true bound a b g e h = go (a.flags == 0) (b.flags == 0) e h
  where
    go : (p q : Bool) → (p && nat_lt a.until bound) ≡ false → ordering_then (nat_cmp (cond p 0 1) (cond q 0 1)) (ordering_then (nat_cmp a.until b.until) (nat_cmp a.flags b.flags)) ≡ Less → (q && nat_lt b.until bound) ≡ false
    go p false e h = refl
    go true true e h = not_below a.until b.until bound (not_later a.until b.until _ h) e
    go false true e h = absurd (cc)
closed false bound a b g e h = go (a.flags == 0) (b.flags == 0) g e h
  where
    go : (p q : Bool) → is_gt (ordering_then (nat_cmp 1 (cond p 0 1)) (ordering_then (nat_cmp 0 a.until) (nat_cmp 1 a.flags))) ≡ false → (not p && nat_le a.until bound) ≡ false
        → ordering_then (nat_cmp (cond p 0 1) (cond q 0 1)) (ordering_then (nat_cmp a.until b.until) (nat_cmp a.flags b.flags)) ≡ Less → (not q && nat_le b.until bound) ≡ false
    go p true g e h = refl
    go true false g e h = absurd (cc)
    go false false g e h = not_upto a.until b.until bound (not_later a.until b.until _ h) e
