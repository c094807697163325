-- The orders of keys, of levels and of expiries are total, and tell all of them apart.
use Rattle.std.proofs.Common.{◌≡◌, ℕ, Bool, true, false, refl, sym, ap, ◌∙◌}
use Rattle.std.specs.declared.cmp.Ordering.{Ordering}
use Rattle.std.specs.declared.cmp.Ordering.TheVariants.{Less, Equal, Greater}
use Rattle.std.specs.Ordering.{nat_cmp, ordering_then, ordering_reverse}
use Rattle.std.specs.Cmp.{IsTotalOrder, nat_cmp_total}
use Rattle.std.specs.FinMap.{IsAntisymmetric}
use Rattle.std.proofs.lemmas.Cmp.{on_total, then_total}
use Rattle.std.proofs.lemmas.Map.Lookups.{exact_pairs, exact_unsigned}
use Rattle.dx_book.specs.declared.names.Level.{Level}
use Rattle.dx_book.specs.declared.names.Expiry.{Expiry}
use Rattle.dx_book.specs.Names.{term_of, price_cmp, level_cmp, expiry_cmp}

-- a side and a price
abbrev Price : Type 0
Price = Bool × ℕ

abbrev by_price : Price → Price → Ordering
by_price a b = price_cmp a.0 a.1 b.0 b.1

price_antisymm : (b : Bool) (s : ℕ) (c : Bool) (t : ℕ) → price_cmp b s c t ≡ ordering_reverse (price_cmp c t b s)
price_antisymm false s false t = let o : IsTotalOrder nat_cmp = nat_cmp_total in o.antisymm s t
price_antisymm false s true t = refl
price_antisymm true s false t = refl
price_antisymm true s true t = let o : IsTotalOrder nat_cmp = nat_cmp_total in o.antisymm t s

price_trans : (b : Bool) (s : ℕ) (c : Bool) (t : ℕ) (d : Bool) (u : ℕ) → price_cmp b s c t ≡ Less → price_cmp c t d u ≡ Less → price_cmp b s d u ≡ Less
price_trans false s false t false u e f = let o : IsTotalOrder nat_cmp = nat_cmp_total in o.trans s t u e f
price_trans false s false t true u e f = refl
price_trans false s true t false u e f = absurd (cc)
price_trans false s true t true u e f = refl
price_trans true s false t d u e f = absurd (cc)
price_trans true s true t false u e f = absurd (cc)
price_trans true s true t true u e f = let o : IsTotalOrder nat_cmp = nat_cmp_total in o.trans u t s f e

price_congr : (b : Bool) (s : ℕ) (c : Bool) (t : ℕ) (d : Bool) (u : ℕ) → price_cmp b s c t ≡ Equal → price_cmp b s d u ≡ price_cmp c t d u
price_congr false s false t false u e = let o : IsTotalOrder nat_cmp = nat_cmp_total in o.congr s t u e
price_congr false s false t true u e = refl
price_congr false s true t d u e = absurd (cc)
price_congr true s false t d u e = absurd (cc)
price_congr true s true t false u e = refl
price_congr true s true t true u e = let one : t ≡ s = exact_unsigned t s e in ap (λ n. nat_cmp u n) (sym one)

price_total : IsTotalOrder by_price
price_total = record {
  antisymm = λ a b. price_antisymm a.0 a.1 b.0 b.1;
  trans = λ a b c e f. price_trans a.0 a.1 b.0 b.1 c.0 c.1 e f;
  congr = λ a b c e. price_congr a.0 a.1 b.0 b.1 c.0 c.1 e;
}

price_exact : (b : Bool) (s : ℕ) (c : Bool) (t : ℕ) → price_cmp b s c t ≡ Equal → ◌≡◌ {A = Bool × ℕ} (b, s) (c, t)
price_exact false s false t e = ap (λ n. (false, n)) (exact_unsigned s t e)
price_exact false s true t e = absurd (cc)
price_exact true s false t e = absurd (cc)
price_exact true s true t e = ap (λ n. (true, n)) (sym (exact_unsigned t s e))

-- an end, and then the flags
abbrev by_end : (ℕ × ℕ) → (ℕ × ℕ) → Ordering
by_end a b = ordering_then (nat_cmp a.0 b.0) (nat_cmp a.1 b.1)

end_total : IsTotalOrder by_end
end_total = then_total (on_total (λ (a : ℕ × ℕ). a.0) nat_cmp_total) (on_total (λ (a : ℕ × ℕ). a.1) nat_cmp_total)

-- keys that compare alike are one
pub key_exact : IsAntisymmetric nat_cmp
key_exact a b h = exact_unsigned a b h

-- the order of levels is total
pub level_total : IsTotalOrder level_cmp
level_total = then_total (on_total (λ a. a.market) nat_cmp_total) (on_total (λ (a : Level). (a.buy, a.subticks)) price_total)

-- the order of expiries is total
pub expiry_total : IsTotalOrder expiry_cmp
expiry_total = then_total (on_total (λ (a : Expiry). term_of a.flags) nat_cmp_total) (on_total (λ (a : Expiry). (a.until, a.flags)) end_total)

-- levels that compare alike are one
pub level_exact : IsAntisymmetric level_cmp
level_exact a b h =
    ap (λ (p : ℕ × (Bool × ℕ)). record { market = p.0; buy = p.1.0; subticks = p.1.1 })
    (exact_pairs nat_cmp by_price exact_unsigned (λ x y e. price_exact x.0 x.1 y.0 y.1 e) (a.market, (a.buy, a.subticks)) (b.market, (b.buy, b.subticks)) h)

-- expiries that compare alike are one
pub expiry_exact : IsAntisymmetric expiry_cmp
expiry_exact a b h =
    ap (λ (p : ℕ × (ℕ × ℕ)). record { flags = p.1.1; until = p.1.0 })
    (exact_pairs nat_cmp by_end exact_unsigned (λ x y e. exact_pairs nat_cmp nat_cmp exact_unsigned exact_unsigned x y e) (term_of a.flags, (a.until, a.flags)) (term_of b.flags, (b.until, b.flags)) h)
