-- When two ids and two orders are one: each is, where the test of the rules says that it is the same.
use Rattle.std.proofs.Common.{◌≡◌, Bool, true, false, ◌&&◌, ◌==◌, refl}
use Rattle.std.specs.Cmp.{IsEquivalence, eq_by_cmp_equiv}
use Rattle.std.proofs.lemmas.Bool.{and_parts, and_from, eqb-true, eq-eqb}
use Rattle.dx_types.specs.Keys.{order_id_cmp, order_id_total, order_id_exact}
use Rattle.dx_types.specs.declared.OrderId.{OrderId}
use Rattle.dx_types.specs.declared.Order.{Order}
use Rattle.dx_types.specs.declared.Kind.{Kind}
use Rattle.dx_types.specs.declared.Kind.TheVariants.{Gtc, Ioc, PostOnly, ReduceIoc}
use Rattle.dx_spec.specs.Orders.{byte_of_kind, is_same_id, is_same_side, is_same_order}
use Rattle.dx_spec.proofs.Entries.{is_key}

-- ids that are tested alike are one
pub one_id : (a b : OrderId) → is_same_id a b ≡ true → a ≡ b
one_id a b e = is_key order_id_cmp order_id_exact a b e

pub own_id : (a : OrderId) → is_same_id a a ≡ true
own_id a = let l : IsEquivalence is_same_id = eq_by_cmp_equiv order_id_total in l.refl a

pub swapped_ids : (a b : OrderId) → is_same_id a b ≡ is_same_id b a
swapped_ids a b = let l : IsEquivalence is_same_id = eq_by_cmp_equiv order_id_total in l.symm a b

same_side : (a b : Bool) → is_same_side a b ≡ true → a ≡ b
same_side true true e = refl
same_side true false e = absurd (cc)
same_side false true e = absurd (cc)
same_side false false e = refl

own_side : (a : Bool) → is_same_side a a ≡ true
own_side true = refl
own_side false = refl

same_kind : (a b : Kind) → (byte_of_kind a == byte_of_kind b) ≡ true → a ≡ b
same_kind Gtc Gtc e = refl
same_kind Gtc Ioc e = absurd (let i : false ≡ true = e in cc)
same_kind Gtc PostOnly e = absurd (let i : false ≡ true = e in cc)
same_kind Ioc Gtc e = absurd (let i : false ≡ true = e in cc)
same_kind Ioc Ioc e = refl
same_kind Ioc PostOnly e = absurd (let i : false ≡ true = e in cc)
same_kind PostOnly Gtc e = absurd (let i : false ≡ true = e in cc)
same_kind PostOnly Ioc e = absurd (let i : false ≡ true = e in cc)
same_kind PostOnly PostOnly e = refl
same_kind Gtc ReduceIoc e = absurd (let i : false ≡ true = e in cc)
same_kind Ioc ReduceIoc e = absurd (let i : false ≡ true = e in cc)
same_kind PostOnly ReduceIoc e = absurd (let i : false ≡ true = e in cc)
same_kind ReduceIoc Gtc e = absurd (let i : false ≡ true = e in cc)
same_kind ReduceIoc Ioc e = absurd (let i : false ≡ true = e in cc)
same_kind ReduceIoc PostOnly e = absurd (let i : false ≡ true = e in cc)
same_kind ReduceIoc ReduceIoc e = refl

-- orders that are tested alike are one
pub one_order : (o p : Order) → is_same_order o p ≡ true → o ≡ p
unfolding is_same_order
one_order o p e =
    let a = and_parts (is_same_id o.id p.id && is_same_side o.buy p.buy && o.size == p.size && o.subticks == p.subticks && o.until == p.until) (byte_of_kind o.kind == byte_of_kind p.kind) e in
    let b = and_parts (is_same_id o.id p.id && is_same_side o.buy p.buy && o.size == p.size && o.subticks == p.subticks) (o.until == p.until) a.0 in
    let c = and_parts (is_same_id o.id p.id && is_same_side o.buy p.buy && o.size == p.size) (o.subticks == p.subticks) b.0 in
    let d = and_parts (is_same_id o.id p.id && is_same_side o.buy p.buy) (o.size == p.size) c.0 in
    let f = and_parts (is_same_id o.id p.id) (is_same_side o.buy p.buy) d.0 in
    let id : o.id ≡ p.id = one_id o.id p.id f.0 in
    let buy : o.buy ≡ p.buy = same_side o.buy p.buy f.1 in
    let size : o.size ≡ p.size = eqb-true o.size p.size d.1 in
    let subticks : o.subticks ≡ p.subticks = eqb-true o.subticks p.subticks c.1 in
    let until : o.until ≡ p.until = eqb-true o.until p.until b.1 in
    let kind : o.kind ≡ p.kind = same_kind o.kind p.kind a.1 in
    λ i. record { id = id i; buy = buy i; size = size i; subticks = subticks i; until = until i; kind = kind i }

pub own_order : (o : Order) → is_same_order o o ≡ true
unfolding is_same_order
own_order o =
    and_from (is_same_id o.id o.id && is_same_side o.buy o.buy && o.size == o.size && o.subticks == o.subticks && o.until == o.until) (byte_of_kind o.kind == byte_of_kind o.kind)
    (and_from (is_same_id o.id o.id && is_same_side o.buy o.buy && o.size == o.size && o.subticks == o.subticks) (o.until == o.until)
    (and_from (is_same_id o.id o.id && is_same_side o.buy o.buy && o.size == o.size) (o.subticks == o.subticks)
    (and_from (is_same_id o.id o.id && is_same_side o.buy o.buy) (o.size == o.size)
    (and_from (is_same_id o.id o.id) (is_same_side o.buy o.buy) (own_id o.id) (own_side o.buy))
    (eq-eqb o.size o.size refl)) (eq-eqb o.subticks o.subticks refl)) (eq-eqb o.until o.until refl)) (eq-eqb (byte_of_kind o.kind) (byte_of_kind o.kind) refl)
