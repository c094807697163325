-- One order of a walk after another.
use Rattle.std.proofs.Common.{◌≡◌, ℕ, suc, ◌+◌, ◌-◌, ◌<◌, ◌≤◌, true, false, ℤ, pos, ◌-ℤ◌, ◌*ℤ◌, unsigned_abs, None, Some, List, [], ◌∷◌, drop, Option, refl, sym, ap, ◌∙◌, arith}
use Rattle.std.specs.Prelude.{int_lt, slice_get}
use Rattle.std.proofs.lemmas.Int.{ints}
use Rattle.dx_types.specs.declared.Order.{Order}
use Rattle.dx_types.specs.declared.MarketInfo.{MarketInfo}
use Rattle.dx_num.specs.Rounding.{ceil_div, ten_up, ten_down}
use Rattle.dx_spec.specs.State.{State}
use Rattle.dx_spec.specs.Margin.{quote}
use Rattle.dx_spec.proofs.Places.{at_all}
use Rattle.dx_node_spec.specs.Book.{left}
use Rattle.dx_node_spec.specs.Votes.{size_or_none, impact_walk}
use Rattle.dx_book.specs.Held.{Held, named}
use Rattle.dx_book.specs.declared.key.OrderKey.{OrderKey}
use Rattle.dx_impact.specs.Ranges.{IsPriced, HasPrices}
use Rattle.dx_book.proofs.Walks.{each_named, from_place}

-- the order of a held key is one of the book
pub priced_at : (b : Held) (key : OrderKey) (o : Order) → HasPrices b.orders → named b key ≡ Some o → IsPriced o
priced_at b key o h e = each_named IsPriced b key o (at_all IsPriced b.orders h) e

passed : (cost rest : ℕ) → cost < rest → int_lt (pos cost) (pos rest) ≡ true
passed cost rest h = grind (arith, ints)

reached : (cost rest : ℕ) → rest ≤ cost → int_lt (pos cost) (pos rest) ≡ false
reached cost rest h = grind (arith, ints)

rest_after : (cost rest : ℕ) → cost < rest → pos rest -ℤ pos cost ≡ pos (rest - cost)
rest_after cost rest h = omega (arith, ints)

one_passed : (s : State) (m : MarketInfo) (o : Order) (os : List Order) (base rest : ℕ) (amount cost : ℕ) → amount ≡ left s o → pos cost ≡ quote m.params o.subticks (left s o) → cost < rest
    → impact_walk s m os (base + amount) (pos (rest - cost)) ≡ impact_walk s m (o ∷ os) base (pos rest)
unfolding impact_walk
one_passed s m o os base rest amount cost e f h =
    let whole : quote m.params o.subticks (left s o) ≡ pos cost = sym f in
    let less : int_lt (quote m.params o.subticks (left s o)) (pos rest) ≡ true = ap (λ z. int_lt z (pos rest)) whole ∙ passed cost rest h in
    let after : pos (rest - cost) ≡ pos rest -ℤ quote m.params o.subticks (left s o) = sym (rest_after cost rest h) ∙ ap (λ z. pos rest -ℤ z) (sym whole) in
    rw less (ap (λ n. impact_walk s m os (base + n) (pos (rest - cost))) e ∙ ap (impact_walk s m os (base + left s o)) after)

one_reached : (s : State) (m : MarketInfo) (o : Order) (os : List Order) (base rest cost : ℕ) → pos cost ≡ quote m.params o.subticks (left s o) → rest ≤ cost
    → size_or_none (base + unsigned_abs (ceil_div (pos rest *ℤ ten_down m.params.conversion) (pos o.subticks *ℤ ten_up m.params.conversion))) ≡ impact_walk s m (o ∷ os) base (pos rest)
unfolding impact_walk
one_reached s m o os base rest cost f h =
    let whole : quote m.params o.subticks (left s o) ≡ pos cost = sym f in
    let less : int_lt (quote m.params o.subticks (left s o)) (pos rest) ≡ false = ap (λ z. int_lt z (pos rest)) whole ∙ reached cost rest h in
    rw less refl

none_gives : (s : State) (m : MarketInfo) (base : ℕ) (rest : ℤ) → None ≡ impact_walk s m [] base rest
unfolding impact_walk
none_gives s m base rest = refl

-- an order that costs less than the rest
pub walk_on : (s : State) (m : MarketInfo) (side : List Order) (k : ℕ) (o : Order) (base rest amount cost : ℕ) (whole : Option ℕ) → slice_get side k ≡ Some o → amount ≡ left s o → pos cost ≡ quote m.params o.subticks (left s o) → cost < rest
    → impact_walk s m (drop k side) base (pos rest) ≡ whole → impact_walk s m (drop (k + 1) side) (base + amount) (pos (rest - cost)) ≡ whole
walk_on s m side k o base rest amount cost whole at e f h made =
    let one_on : k + 1 ≡ suc k = omega arith in
    ap (λ n. impact_walk s m (drop n side) (base + amount) (pos (rest - cost))) one_on
    ∙ one_passed s m o (drop (suc k) side) base rest amount cost e f h
    ∙ ap (λ l. impact_walk s m l base (pos rest)) (sym (from_place side k o at))
    ∙ made

-- one that costs the rest or more
pub walk_ends : (s : State) (m : MarketInfo) (side : List Order) (k : ℕ) (o : Order) (base rest cost : ℕ) (whole : Option ℕ) (last : ℕ) (r : Option ℕ) → slice_get side k ≡ Some o → pos cost ≡ quote m.params o.subticks (left s o) → rest ≤ cost
    → last ≡ unsigned_abs (ceil_div (pos rest *ℤ ten_down m.params.conversion) (pos o.subticks *ℤ ten_up m.params.conversion)) → r ≡ size_or_none (base + last)
    → impact_walk s m (drop k side) base (pos rest) ≡ whole → r ≡ whole
walk_ends s m side k o base rest cost whole last r at f h size answer made =
    answer
    ∙ ap (λ n. size_or_none (base + n)) size
    ∙ one_reached s m o (drop (suc k) side) base rest cost f h
    ∙ ap (λ l. impact_walk s m l base (pos rest)) (sym (from_place side k o at))
    ∙ made

-- no order is left
pub walk_over : (s : State) (m : MarketInfo) (side : List Order) (k : ℕ) (base rest : ℕ) (whole : Option ℕ) → drop k side ≡ [] → impact_walk s m (drop k side) base (pos rest) ≡ whole → None ≡ whole
walk_over s m side k base rest whole e made = none_gives s m base (pos rest) ∙ ap (λ l. impact_walk s m l base (pos rest)) (sym e) ∙ made
