-- Behind a level that is past a side stands none of the side.
use Rattle.std.proofs.Common.{◌≡◌, ℕ, suc, ◌+◌, ◌<◌, ◌≤◌, ◌==◌, Bool, true, false, not, cond, T, Option, None, Some, List, [], ◌∷◌, drop, get_or, length, refl, sym, ap, ◌∙◌, arith}
use Rattle.std.specs.Prelude.{◌&&◌, ◌||◌, nat_lt, option_map}
use Rattle.std.specs.declared.cmp.Ordering.{Ordering}
use Rattle.std.specs.declared.cmp.Ordering.TheVariants.{Less, Equal, Greater}
use Rattle.std.specs.Ordering.{nat_cmp, ordering_then, MatchOrdering}
use Rattle.std.specs.Cmp.{ranks}
use Rattle.std.specs.FinMap.Entries as rows
use Rattle.std.proofs.lemmas.Bool.{eqb-true, ltb-true}
use Rattle.std.proofs.lemmas.List.{at_drop_more}
use Rattle.dx_spec.specs.Orders.{is_same_side}
use Rattle.dx_book.specs.Levels.{is_behind, is_past, first_level}
use Rattle.dx_book.specs.Names.{price_cmp, level_cmp}
use Rattle.dx_book.specs.Orders.{level_total}
use Rattle.dx_book.specs.declared.names.Level.{Level}
use Rattle.dx_book.specs.declared.ends.Ends.{Ends}
use Rattle.dx_book.proofs.Ended.{not_later}
use Rattle.dx_book.proofs.Picked.{of_side}
use Rattle.dx_book.proofs.Rows.{first, second, less, look, later_rows}

lower : (x y : ℕ) → ordering_then (nat_cmp x y) Greater ≡ Less → x < y
lower x y h = go (nat_cmp x y) (ranks x y) h
  where
    go : (r : Ordering) → MatchOrdering r (x < y) (x ≡ y) (y < x) → ordering_then r Greater ≡ Less → x < y
    go Less m h = m
    go Equal m h = absurd (cc)
    go Greater m h = absurd (cc)

never : (market : ℕ) (buy : Bool) (a b : Level) → is_past market buy a ≡ true → level_cmp a b ≡ Less → (b.market == market && is_same_side buy b.buy) ≡ true → ⊥
never market buy a b p l s = go (nat_lt market a.market) refl (b.market == market) refl p s
  where
    side : (r : Bool) → (a.market == market) ≡ r → (x y z : Bool) → (r && (x && not z)) ≡ true → is_same_side z y ≡ true
        → ordering_then (nat_cmp a.market b.market) (price_cmp x a.subticks y b.subticks) ≡ Less → b.market ≡ market → ⊥
    side false f x y z p s l n = absurd (cc)
    side true f false y z p s l n = absurd (cc)
    side true f true y true p s l n = absurd (cc)
    side true f true true false p s l n = absurd (cc)
    side true f true false false p s l n =
        let up = lower a.market b.market l in
        let m = eqb-true a.market market f in
        absurd (omega (arith, up, m, n))

    go : (q : Bool) → nat_lt market a.market ≡ q → (r : Bool) → (b.market == market) ≡ r → (q || (a.market == market && (a.buy && not buy))) ≡ true → (r && is_same_side buy b.buy) ≡ true → ⊥
    go q f false g p s = absurd (cc)
    go true f true g p s =
        let m = ltb-true market a.market f in
        let n = eqb-true b.market market g in
        let o = not_later a.market b.market _ l in
        absurd (omega (arith, m, n, o))
    go false f true g p s = side (a.market == market) refl a.buy b.buy buy p s l (eqb-true b.market market g)

none_behind : (market : ℕ) (buy : Bool) (price : Option ℕ) (a b : Level) → is_past market buy a ≡ true → level_cmp a b ≡ Less → is_behind market buy price b ≡ false
none_behind market buy price a b p l = go (is_behind market buy price b) refl
  where
    go : (q : Bool) → is_behind market buy price b ≡ q → q ≡ false
    go true e = absurd (never market buy a b p l (of_side market buy price b e))
    go false e = refl

none_found : (test : Level → Bool) (a : Level) (levels : List (Level × Ends)) → T (rows.below_all level_cmp a levels) → ((b : Level) → level_cmp a b ≡ Less → test b ≡ false) → look test levels ≡ None
none_found test a [] l h = refl
none_found test a (r ∷ rs) l h = (λ i. cond (h r.0 (less _ (first _ _ l)) i) (Some r) (look test rs)) ∙ none_found test a rs (second _ _ l) h

-- the levels that are left, from one past the side on
pub seen_past : (market : ℕ) (buy : Bool) (price : Option ℕ) (levels : List (Level × Ends)) (number : ℕ) (d : Level × Ends) (b c : Bool) (whole : Option ℕ)
    → T (rows.is_sorted level_cmp levels) → number < length levels
    → b ≡ is_behind market buy price (get_or levels number d).0 → b ≡ false → c ≡ is_past market buy (get_or levels number d).0 → c ≡ true
    → first_level (is_behind market buy price) (drop number levels) ≡ whole → None ≡ whole
seen_past market buy price levels number d b c whole s w e f g p h =
    sym (at_drop_more (first_level (is_behind market buy price)) levels number d w
    ∙ ap (option_map (λ (row : Level × Ends). row.1.first)) ((λ i. cond ((sym e ∙ f) i) (Some (get_or levels number d)) (look (is_behind market buy price) (drop (number + 1) levels)))
    ∙ ap (λ j. look (is_behind market buy price) (drop j levels)) one
    ∙ none_found (is_behind market buy price) (get_or levels number d).0 (drop (suc number) levels) (later_rows level_cmp level_total levels number d s w) (λ y l. none_behind market buy price (get_or levels number d).0 y (sym g ∙ p) l)))
    ∙ h
  where
    one : number + 1 ≡ suc number
    one = omega arith
