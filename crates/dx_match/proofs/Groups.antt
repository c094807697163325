-- What the queue gets of a group of fills.
use Rattle.std.proofs.Common.{is_ok, ◌≡◌, ◌<◌, Bool, true, false, cond, not, ◌&&◌, List, [], ◌∷◌, ◌++◌, length, fold, Option, Some, None, Result, Ok, Err, OnOk, refl, sym, ap, ◌∙◌, append_assoc, arith}
use Rattle.std.proofs.lemmas.List.{append-nil}
use Rattle.std.proofs.lemmas.List.Sums.{fold-append}
use Rattle.std.specs.FinMap.{get, insert, empty, get-insert}
use Rattle.dx_types.specs.Keys.{order_id_total}
use Rattle.dx_types.specs.declared.OrderId.{OrderId}
use Rattle.dx_types.specs.declared.Order.{Order}
use Rattle.dx_types.specs.declared.Fill.{Fill}
use Rattle.dx_types.specs.declared.Op.{Op}
use Rattle.dx_types.specs.declared.Op.TheVariants.{Place, Remove}
use Rattle.dx_spec.specs.State.{State, is_short_term}
use Rattle.dx_spec.specs.Orders.{is_same_id}
use Rattle.dx_spec.specs.Operations.{Placed}
use Rattle.dx_spec.specs.Blocks.{has_too_many_ops}
use Rattle.dx_node_spec.specs.Queue.{with_placed, placed_by, holds_order, places}
use Rattle.dx_node_spec.specs.Taking.{Taken, fills_of, makers_in, closed, within_limits}
use Rattle.dx_match.specs.declared.taken.Filled.{Filled}
use Rattle.dx_match.specs.declared.taken.Taker.{Taker}
use Rattle.dx_match.specs.declared.taken.Taking.{Taking}
use Rattle.dx_match.specs.Seen.{group_of, seen}
use Rattle.dx_match.specs.Takers.{takers_of, op_of, closed_for, with_group}

-- an operation that places the id
pub placed_here : (placed : Placed) (op : Op) (o : Order) (id : OrderId) → op ≡ Place o → is_same_id id o.id ≡ true → Some o ≡ get (with_placed placed op) id
placed_here placed op o id e n =
    sym (ap (λ (x : Op). get (with_placed placed x) id) e ∙ get-insert order_id_total placed o.id o id ∙ ap (λ b. cond b (Some o) (get placed id)) n)

-- and one that places another
pub placed_there : (placed : Placed) (op : Op) (o : Order) (id : OrderId) (found : Option Order) → op ≡ Place o → is_same_id id o.id ≡ false → found ≡ get placed id → found ≡ get (with_placed placed op) id
placed_there placed op o id found e n h =
    h ∙ sym (ap (λ (x : Op). get (with_placed placed x) id) e ∙ get-insert order_id_total placed o.id o id ∙ ap (λ b. cond b (Some o) (get placed id)) n)

-- what is placed by operations behind others
pub placed_behind : (queue ops : List Op) → fold with_placed (placed_by queue) ops ≡ placed_by (queue ++ ops)
unfolding placed_by
placed_behind queue ops = sym (fold-append with_placed empty queue ops)

one_more : (queue ops : List Op) (o : Order) → placed_by (queue ++ (ops ++ Place o ∷ [])) ≡ insert (placed_by (queue ++ ops)) o.id o
unfolding placed_by
one_more queue ops o = ap (fold with_placed empty) (sym (append_assoc queue ops (Place o ∷ []))) ∙ fold-append with_placed empty (queue ++ ops) (Place o ∷ [])

-- a Place leads on to those of the orders behind it
pub place_added : (queue ops after : List Op) (o : Order) (rest : List Order) → is_short_term o.id ≡ true → holds_order (placed_by (queue ++ ops)) o ≡ false
    → after ≡ ops ++ Place o ∷ []
    → after ++ places (placed_by (queue ++ after)) rest ≡ ops ++ places (placed_by (queue ++ ops)) (o ∷ rest)
unfolding places
place_added queue ops after o rest short new e =
    ap (λ l. l ++ places (placed_by (queue ++ l)) rest) e
    ∙ ap (λ p. (ops ++ Place o ∷ []) ++ places p rest) (one_more queue ops o)
    ∙ append_assoc ops (Place o ∷ []) (places (insert (placed_by (queue ++ ops)) o.id o) rest)
    ∙ ap (λ b. ops ++ cond b (Place o ∷ places (insert (placed_by (queue ++ ops)) o.id o) rest) (places (placed_by (queue ++ ops)) rest))
    (sym (ap (λ b. b && not (holds_order (placed_by (queue ++ ops)) o)) short ∙ ap not new))

-- the same behind a push
pub place_pushed : {E : Type 0} (queue ops same after : List Op) (o : Order) (short held : Bool) (r : Result (Unit {0}) E) → short ≡ is_short_term o.id → short ≡ true
    → held ≡ holds_order (placed_by (queue ++ same)) o → held ≡ false → same ≡ ops → after ≡ cond (is_ok r) (ops ++ Place o ∷ []) ops
    → (rest : List Order) → OnOk r (after ++ places (placed_by (queue ++ after)) rest ≡ ops ++ places (placed_by (queue ++ ops)) (o ∷ rest))
place_pushed queue ops same after o short held (Ok u) e f g h i j = λ rest.
    place_added queue ops after o rest (sym e ∙ f) (ap (λ l. holds_order (placed_by (queue ++ l)) o) (sym i) ∙ sym g ∙ h) j
place_pushed queue ops same after o short held (Err x) e f g h i j = λ rest. tt

-- a stateful order is passed over
pub place_not_short : (queue ops : List Op) (o : Order) (short : Bool) → short ≡ is_short_term o.id → short ≡ false
    → (rest : List Order) → ops ++ places (placed_by (queue ++ ops)) rest ≡ ops ++ places (placed_by (queue ++ ops)) (o ∷ rest)
unfolding places
place_not_short queue ops o short e f = λ rest.
    ap (λ b. ops ++ cond (b && not (holds_order (placed_by (queue ++ ops)) o)) (Place o ∷ places (insert (placed_by (queue ++ ops)) o.id o) rest) (places (placed_by (queue ++ ops)) rest)) (sym f ∙ e)

not_and : (a : Bool) → (a && false) ≡ false
not_and true = refl
not_and false = refl

-- and so is one that is placed as it is
pub place_held : (queue ops same : List Op) (o : Order) (held : Bool) → held ≡ holds_order (placed_by (queue ++ same)) o → held ≡ true → same ≡ ops
    → (rest : List Order) → ops ++ places (placed_by (queue ++ ops)) rest ≡ ops ++ places (placed_by (queue ++ ops)) (o ∷ rest)
unfolding places
place_held queue ops same o held e f g = λ rest.
    let placed : holds_order (placed_by (queue ++ ops)) o ≡ true = ap (λ l. holds_order (placed_by (queue ++ l)) o) (sym g) ∙ sym e ∙ f in
    ap (λ b. ops ++ cond b (Place o ∷ places (insert (placed_by (queue ++ ops)) o.id o) rest) (places (placed_by (queue ++ ops)) rest))
    (sym (ap (λ b. is_short_term o.id && not b) placed ∙ not_and (is_short_term o.id)))

no_places : (placed : Placed) → places placed [] ≡ []
unfolding places
no_places placed = refl

-- the operations of a group with fills, behind others
group_added : (queue ops placed both after : List Op) (k : Taker) (op : Op) (group : List Filled) (fills : List Fill)
    → placed ++ places (placed_by (queue ++ placed)) (takers_of k) ≡ ops ++ places (placed_by (queue ++ ops)) (makers_in (group_of group) ++ takers_of k)
    → both ++ places (placed_by (queue ++ both)) [] ≡ placed ++ places (placed_by (queue ++ placed)) (takers_of k)
    → fills ≡ fills_of (group_of group) → op ≡ op_of k fills → after ≡ both ++ op ∷ [] → after ≡ with_group queue k ops (group_of group)
unfolding with_group
group_added queue ops placed both after k op group fills e f i n j =
    let all_placed : both ≡ ops ++ places (placed_by (queue ++ ops)) (makers_in (group_of group) ++ takers_of k) =
    sym (append-nil both) ∙ ap (λ l. both ++ l) (sym (no_places (placed_by (queue ++ both)))) ∙ f ∙ e in
    j ∙ ap (λ x. both ++ x ∷ []) (n ∙ ap (op_of k) i) ∙ ap (λ l. l ++ op_of k (fills_of (group_of group)) ∷ []) all_placed

pub group_pushed : {E : Type 0} (queue ops placed both after : List Op) (k : Taker) (op : Op) (group : List Filled) (fills : List Fill) (r : Result (Unit {0}) E)
    → placed ++ places (placed_by (queue ++ placed)) (takers_of k) ≡ ops ++ places (placed_by (queue ++ ops)) (makers_in (group_of group) ++ takers_of k)
    → both ++ places (placed_by (queue ++ both)) [] ≡ placed ++ places (placed_by (queue ++ placed)) (takers_of k)
    → fills ≡ fills_of (group_of group) → op ≡ op_of k fills → after ≡ cond (is_ok r) (both ++ op ∷ []) both → OnOk r (after ≡ with_group queue k ops (group_of group))
group_pushed queue ops placed both after k op group fills (Ok u) e f i n j = group_added queue ops placed both after k op group fills e f i n j
group_pushed queue ops placed both after k op group fills (Err x) e f i n j = tt

-- a taking with other fills that stand in no operation
abbrev with_fills : State → Taking → List Filled → Taken
with_fills s p g = record { state = s; group = group_of g; ops = p.ops; gone = p.gone; filled = p.filled; fills = p.fills; offsets = p.offsets; stop = p.stop; over = p.over }

-- a group with no fill is closed
pub closed_already : (queue : List Op) (k : Taker) (s : State) (p : Taking) → p.group ≡ [] → seen s p ≡ closed_for queue k (seen s p)
unfolding closed
closed_already queue k s p e = ap (with_fills s p) e ∙ sym (ap (λ g. closed_for queue k (with_fills s p g)) e)

with_operations : (queue : List Op) (k : Taker) (s : State) (p : Taking) (g : List Filled) → 0 < length g
    → record { state = s; group = []; ops = with_group queue k p.ops (group_of g); gone = p.gone; filled = p.filled; fills = p.fills; offsets = p.offsets; stop = p.stop; over = p.over }
    ≡ closed_for queue k (with_fills s p g)
unfolding closed with_group
with_operations queue k s p [] h = absurd (omega arith)
with_operations queue k s p (x ∷ xs) h = refl

-- and one with fills becomes operations
pub closes : (queue ops : List Op) (k : Taker) (s : State) (p : Taking) (group same rest : List Filled) → 0 < length p.group → group ≡ p.group → same ≡ group → rest ≡ []
    → ops ≡ with_group queue k p.ops (group_of same)
    → record { state = s; group = group_of rest; ops = ops; gone = p.gone; filled = p.filled; fills = p.fills; offsets = p.offsets; stop = p.stop; over = p.over } ≡ closed_for queue k (seen s p)
closes queue ops k s p group same rest h i l n e =
    ap (λ g. record { state = s; group = group_of g; ops = ops; gone = p.gone; filled = p.filled; fills = p.fills; offsets = p.offsets; stop = p.stop; over = p.over }) n
    ∙ ap (λ x. record { state = s; group = []; ops = x; gone = p.gone; filled = p.filled; fills = p.fills; offsets = p.offsets; stop = p.stop; over = p.over }) (e ∙ ap (λ g. with_group queue k p.ops (group_of g)) (l ∙ i))
    ∙ with_operations queue k s p p.group h

limits_kept : (queue : List Op) (t : Taken) → has_too_many_ops (queue ++ t.ops) ≡ false → within_limits queue t ≡ Some t
unfolding within_limits
limits_kept queue t e = ap (λ b. cond b None (Some t)) e

limits_passed : (queue : List Op) (t : Taken) → has_too_many_ops (queue ++ t.ops) ≡ true → within_limits queue t ≡ None
unfolding within_limits
limits_passed queue t e = ap (λ b. cond b None (Some t)) e

tested : (queue same ops more : List Op) (many b : Bool) → many ≡ has_too_many_ops (same ++ more) → many ≡ b → same ≡ queue → more ≡ ops → has_too_many_ops (queue ++ ops) ≡ b
tested queue same ops more many b e f g h = ap has_too_many_ops (ap (λ l. l ++ ops) (sym g) ∙ ap (λ l. same ++ l) (sym h)) ∙ sym e ∙ f

-- a taking that ends within the limits
pub ends_within : (queue same more : List Op) (s : State) (q : Taking) (many : Bool) → q.group ≡ []
    → many ≡ has_too_many_ops (same ++ more) → many ≡ false → same ≡ queue → more ≡ q.ops
    → within_limits queue (seen s q) ≡ Some (with_fills s q [])
ends_within queue same more s q many n f g h i =
    limits_kept queue (seen s q) (tested queue same q.ops more many false f g h i) ∙ ap (λ l. Some (with_fills s q l)) n

-- and one that would not
pub ends_beyond : (queue same more : List Op) (s : State) (q : Taking) (many : Bool)
    → many ≡ has_too_many_ops (same ++ more) → many ≡ true → same ≡ queue → more ≡ q.ops
    → within_limits queue (seen s q) ≡ None
ends_beyond queue same more s q many f g h i = limits_passed queue (seen s q) (tested queue same q.ops more many true f g h i)

-- the removal of an order behind the group that it closes
pub removal_pushed : {E : Type 0} (queue : List Op) (k : Taker) (id : OrderId) (s t : State) (p q : Taking) (ops : List Op) (r : Result (Unit {0}) E)
    → seen s q ≡ closed_for queue k (seen s p) → ops ≡ cond (is_ok r) (q.ops ++ Remove id ∷ []) q.ops
    → OnOk r (record { state = t; group = group_of q.group; ops = ops; gone = q.gone; filled = q.filled; fills = q.fills; offsets = q.offsets; stop = q.stop; over = q.over }
    ≡ record (closed_for queue k (seen s p)) { state = t; ops = (closed_for queue k (seen s p)).ops ++ Remove id ∷ [] })
removal_pushed queue k id s t p q ops (Ok u) e f =
    ap (λ l. record { state = t; group = group_of q.group; ops = l; gone = q.gone; filled = q.filled; fills = q.fills; offsets = q.offsets; stop = q.stop; over = q.over }) f
    ∙ ap (λ (x : Taken). record x { state = t; ops = x.ops ++ Remove id ∷ [] }) e
removal_pushed queue k id s t p q ops (Err x) e f = tt
