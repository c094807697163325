-- Keys stand for ids, and ids that are noted as they are mentioned stand in the order of first mention.
use Rattle.std.proofs.Common.{◌≡◌, ℕ, Bool, true, false, ◌&&◌, ◌==◌, ◌||◌, cond, List, [], ◌∷◌, ◌++◌, map, refl, sym, ap, ◌∙◌, append_assoc}
use Rattle.std.specs.Prelude.{flat_map}
use Rattle.std.specs.List.{list_any}
use Rattle.std.specs.declared.cmp.Ordering.{Ordering}
use Rattle.std.specs.declared.cmp.Ordering.TheVariants.{Less, Equal, Greater}
use Rattle.std.specs.Ordering.{is_eq, nat_cmp, ordering_then}
use Rattle.std.specs.Cmp.{unsigned_ties}
use Rattle.std.proofs.Math.Bool.{and_assoc}
use Rattle.std.proofs.lemmas.List.{append-nil, map-append}
use Rattle.dx_types.specs.declared.OrderId.{OrderId}
use Rattle.dx_types.specs.declared.Op.{Op}
use Rattle.dx_spec.specs.Orders.{is_same_id}
use Rattle.dx_node_spec.specs.Queue.{mentioned, first_ones, named_by}
use Rattle.indexmap.specs.IndexSet.{insert_key}
use Rattle.dx_queue.specs.Keys.{key_to, is_same_key, with_keys}

-- an order by two parts ties where both tie
both_equal : (p q : Ordering) → is_eq (ordering_then p q) ≡ is_eq p && is_eq q
both_equal Less q = refl
both_equal Equal q = refl
both_equal Greater q = refl

-- two numbers tie and the rest does
both_ties : (x y : ℕ) (rest : Bool) (q : Ordering) → rest ≡ is_eq q → (x == y) && rest ≡ is_eq (ordering_then (nat_cmp x y) q)
both_ties x y rest q e = ap (λ b. b && rest) (unsigned_ties x y) ∙ ap (λ b. is_eq (nat_cmp x y) && b) e ∙ sym (both_equal (nat_cmp x y) q)

-- keys are one where their ids are
pub same_keys : (a b : OrderId) → is_same_key (key_to a) (key_to b) ≡ is_same_id a b
same_keys a b =
    let owner = nat_cmp a.who.owner b.who.owner in
    let number = nat_cmp a.who.number b.who.number in
    let client = nat_cmp a.client b.client in
    let flags = nat_cmp a.flags b.flags in
    let market = nat_cmp a.market b.market in
    let last_two : (a.flags == b.flags) && (a.market == b.market) ≡ is_eq (ordering_then flags market) =
    both_ties a.flags b.flags (a.market == b.market) market (unsigned_ties a.market b.market) in
    let last_three : (a.client == b.client) && ((a.flags == b.flags) && (a.market == b.market)) ≡ is_eq (ordering_then client (ordering_then flags market)) =
    both_ties a.client b.client _ (ordering_then flags market) last_two in
    ap (λ rest. (a.who.owner == b.who.owner) && rest) (ap (λ rest. (a.who.number == b.who.number) && rest) last_three)
    ∙ sym (and_assoc (a.who.owner == b.who.owner) (a.who.number == b.who.number) (is_eq (ordering_then client (ordering_then flags market))))
    ∙ ap (λ first. first && is_eq (ordering_then client (ordering_then flags market))) (both_ties a.who.owner b.who.owner _ number (unsigned_ties a.who.number b.who.number))
    ∙ sym (both_equal (ordering_then owner number) (ordering_then client (ordering_then flags market)))

-- so a key stands among keys where its id stands among ids
any_key : (id : OrderId) (ids : List OrderId) → list_any (is_same_key (key_to id)) (map key_to ids) ≡ list_any (is_same_id id) ids
any_key id [] = refl
any_key id (x ∷ xs) = ap (λ b. b || list_any (is_same_key (key_to id)) (map key_to xs)) (same_keys id x) ∙ ap (λ b. is_same_id id x || b) (any_key id xs)

-- in a list that has one id more
any_last : (id x : OrderId) (ids : List OrderId) → list_any (is_same_id id) (ids ++ x ∷ []) ≡ is_same_id id x || list_any (is_same_id id) ids
any_last id x [] = refl
any_last id x (y ∷ ys) = ap (λ b. is_same_id id y || b) (any_last id x ys) ∙ swapped (is_same_id id y) (is_same_id id x) (list_any (is_same_id id) ys)
  where
    swapped : (a b c : Bool) → a || (b || c) ≡ b || (a || c)
    swapped true true c = refl
    swapped true false c = refl
    swapped false b c = refl

-- the ids that are noted already, and those that were seen, may stand in any order
first_noted : (done seen ids : List OrderId) → ((q : OrderId) → list_any (is_same_id q) done ≡ list_any (is_same_id q) seen)
    → with_keys (map key_to done) ids ≡ map key_to (done ++ first_ones seen ids)
first_noted done seen [] same = ap (map key_to) (sym (append-nil done))
first_noted done seen (id ∷ ids) same = go (list_any (is_same_id id) seen) refl (first_noted done seen ids same) (first_noted (done ++ id ∷ []) (id ∷ seen) ids more)
  where
    more : (q : OrderId) → list_any (is_same_id q) (done ++ id ∷ []) ≡ list_any (is_same_id q) (id ∷ seen)
    more q = any_last q id done ∙ ap (λ b. is_same_id q id || b) (same q)

    noted : insert_key is_same_key (map key_to done) (key_to id) ≡ cond (list_any (is_same_id id) seen) (map key_to done) (map key_to (done ++ id ∷ []))
    noted =
        ap (λ b. cond b (map key_to done) (map key_to done ++ key_to id ∷ [])) (any_key id done ∙ same id)
        ∙ ap (λ l. cond (list_any (is_same_id id) seen) (map key_to done) l) (sym (map-append key_to done (id ∷ [])))

    go : (b : Bool) → list_any (is_same_id id) seen ≡ b
        → with_keys (map key_to done) ids ≡ map key_to (done ++ first_ones seen ids)
        → with_keys (map key_to (done ++ id ∷ [])) ids ≡ map key_to ((done ++ id ∷ []) ++ first_ones (id ∷ seen) ids)
        → with_keys (insert_key is_same_key (map key_to done) (key_to id)) ids ≡ map key_to (done ++ cond b (first_ones seen ids) (id ∷ first_ones (id ∷ seen) ids))
    go true e there new = ap (λ l. with_keys l ids) (noted ∙ ap (λ b. cond b (map key_to done) (map key_to (done ++ id ∷ []))) e) ∙ there
    go false e there new =
        ap (λ l. with_keys l ids) (noted ∙ ap (λ b. cond b (map key_to done) (map key_to (done ++ id ∷ []))) e) ∙ new
        ∙ ap (map key_to) (append_assoc done (id ∷ []) (first_ones (id ∷ seen) ids))

-- the ids that are noted of all operations are those that they name
pub noted_are_named : (ops : List Op) → with_keys [] (flat_map mentioned ops) ≡ map key_to (named_by ops)
unfolding named_by
noted_are_named ops = first_noted [] [] (flat_map mentioned ops) (λ q. refl)
