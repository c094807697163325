-- What bytes are read as is the balanced and sound state whose bytes they are.
use Rattle.std.proofs.Common.{◌≡◌, ℕ, zero, suc, Bool, true, false, ◌&&◌, ◌==◌, eqb, cond, List, [], ◌∷◌, length, map, drop, take, Option, Some, None, refl, sym, ap, subst, ◌∙◌, arith}
use Rattle.std.specs.Prelude.{◌≢◌, ◌<◌, ◌^◌, Result, Err, nat_lt}
use Rattle.std.specs.List.{AllByRecursion}
use Rattle.std.specs.declared.cmp.Ordering.{Ordering}
use Rattle.std.specs.Cmp.{IsTotalOrder}
use Rattle.std.specs.Cmp.Lexicographic.{pointwise}
use Rattle.std.specs.FinMap.{IsAntisymmetric, get, from_entries, get-empty}
use Rattle.std.proofs.lemmas.List.{length-map}
use Rattle.dx_types.specs.Keys.{subaccount_cmp, subaccount_total, subaccount_exact, order_id_cmp, order_id_total, order_id_exact}
use Rattle.dx_types.specs.declared.OrderId.{OrderId}
use Rattle.dx_types.specs.declared.Order.{Order}
use Rattle.dx_types.specs.declared.Waiting.{Waiting}
use Rattle.dx_types.specs.declared.Account.{Account}
use Rattle.dx_types.specs.declared.FillRecord.{FillRecord}
use Rattle.dx_types.specs.declared.SubaccountId.{SubaccountId}
use Rattle.dx_types.specs.declared.Genesis.{Genesis}
use Rattle.dx_spec.specs.State.{State}
use Rattle.dx_spec.specs.Genesis.{IsGenesis}
use Rattle.dx_spec.proofs.Entries.{each_inserted}
use Rattle.dx_inspect.specs.Tests.{sound_test}
use Rattle.dx_inspect.proofs.Testing.{and_is, and_has, passes_is_sound, sound_passes}
use Rattle.dx_codec.specs.Genesis.{digest_of}
use Rattle.dx_codec.specs.Blocks.{FitsAccountId, FitsOrderId, FitsOrder, FitsWaiting}
use Rattle.dx_codec.specs.States.{state_bytes, FitsNames, FitsFilledRow}
use Rattle.dx_codec.specs.Reading.{◌>>=◌, read_byte, whole, Fails}
use Rattle.dx_codec.specs.ReadingStates.{read_rows}
use Rattle.dx_codec.specs.Building.{account_entry, filled_entry, order_entry, waiting_entry, built, after_front, after_header, built_as, room_test, shaped, IsStateOf}
use Rattle.dx_codec.specs.declared.fault.CodecFault.{CodecFault}
use Rattle.dx_codec.specs.declared.fault.CodecFault.TheVariants as codec
use Rattle.dx_codec.specs.declared.rows.AccountRow.{AccountRow}
use Rattle.dx_codec.specs.declared.rows.FilledRow.{FilledRow}
use Rattle.dx_codec.specs.declared.rows.StateRows.{StateRows}
use Rattle.dx_codec.proofs.Formats.{goes_on, same_value}
use Rattle.dx_codec.proofs.SameState.{genesis_built}
use Rattle.dx_codec.proofs.Keeping.{few_entries}
use Rattle.dx_codec.proofs.Decoding.{shaped_again, shaped_found}
use Rattle.dx_codec.proofs.Fitting.{state_fits}
use Rattle.dx_codec.proofs.Deciding.{shape_read}
use Rattle.dx_history.specs.Rows.{are_bytes}
use Rattle.dx_history.proofs.Bytewise.{known}
use Rattle.dx_snapshot.specs.States.{balance_test, if_settled, state_in}
use Rattle.dx_snapshot.proofs.Balancing.{passes_is_balanced, balanced_passes}
use Rattle.dx_snapshot.proofs.StateBytes.{state_are}
use Rattle.dx_snapshot.proofs.Taking.{FitsOwner, AllFit, FitNames, whole_fits}

-- ---- the names of a state that is read

-- what holds of each entry that a map is made of holds of what is found at each key
made_of : {K X : Type 0} (R : K → K → Ordering) → IsTotalOrder R → IsAntisymmetric R → (P : K → X → Type 0) (es : List (K × X))
    → AllByRecursion (λ e. P e.0 e.1) es → (q : K) (v : X) → get (from_entries {R = R} es) q ≡ Some v → P q v
made_of R total exact P [] h q v e = absurd (let i : None ≡ Some v = sym (get-empty R q) ∙ e in cc)
made_of R total exact P (x ∷ es) h q v e =
    each_inserted R total exact P (from_entries {R = R} es) x.0 x.1 h.0 (λ k y _ found. made_of R total exact P es h.1 k y found) q v e

accounts_fit : (rows : List AccountRow) → AllFit FitsOwner rows → AllByRecursion (λ e. FitsAccountId e.0) (map {B = SubaccountId × Account} account_entry rows)
accounts_fit [] h = tt
accounts_fit (r ∷ rows) h = (h.0, accounts_fit rows h.1)

records_fit : (rows : List FilledRow) → AllByRecursion FitsFilledRow rows → AllByRecursion (λ e. FitsOrderId e.0 × (e.1.until < 2 ^ 32)) (map {B = OrderId × FillRecord} filled_entry rows)
records_fit [] h = tt
records_fit (r ∷ rows) h = ((h.0.id, h.0.until), records_fit rows h.1)

orders_fit : (os : List Order) → AllByRecursion FitsOrder os → AllByRecursion (λ e. FitsOrderId e.1.id × (e.1.until < 2 ^ 32)) (map {B = OrderId × Order} order_entry os)
orders_fit [] h = tt
orders_fit (o ∷ os) h = ((h.0.id, h.0.until), orders_fit os h.1)

waiting_fit : (ws : List Waiting) → AllByRecursion FitsWaiting ws → AllByRecursion (λ e. FitsOrderId e.1.order.id × (e.1.order.until < 2 ^ 32)) (map {B = OrderId × Waiting} waiting_entry ws)
waiting_fit [] h = tt
waiting_fit (w ∷ ws) h = ((h.0.order.id, h.0.order.until), waiting_fit ws h.1)

-- the names of the state that rows say fit where the rows do
built_fits : (g : Genesis) (r : StateRows) → FitNames r → FitsNames (built g r)
unfolding built
built_fits g r h = record {
  accounts = made_of subaccount_cmp subaccount_total subaccount_exact (λ who a. FitsAccountId who) (map {B = SubaccountId × Account} account_entry r.accounts) (accounts_fit r.accounts h.accounts);
  filled = made_of order_id_cmp order_id_total order_id_exact (λ id x. FitsOrderId id × (x.until < 2 ^ 32)) (map {B = OrderId × FillRecord} filled_entry r.filled) (records_fit r.filled h.filled.1);
  stateful = made_of order_id_cmp order_id_total order_id_exact (λ id o. FitsOrderId o.id × (o.until < 2 ^ 32)) (map {B = OrderId × Order} order_entry r.stateful) (orders_fit r.stateful h.stateful);
  waiting = made_of order_id_cmp order_id_total order_id_exact (λ id w. FitsOrderId w.order.id × (w.order.until < 2 ^ 32)) (map {B = OrderId × Waiting} waiting_entry r.waiting) (waiting_fit r.waiting h.waiting);
  record_count =
      let few = few_entries order_id_cmp order_id_total order_id_exact (map {B = OrderId × FillRecord} filled_entry r.filled) in
      let same = length-map r.filled filled_entry in
      let count = h.filled.0 in
      omega (arith, few, same, count);
}

-- bytes behind others are bytes
dropped : (n : ℕ) (xs : List ℕ) → are_bytes xs ≡ true → are_bytes (drop n xs) ≡ true
dropped zero xs e = e
dropped (suc n) [] e = e
dropped (suc n) (x ∷ xs) e = dropped n xs (and_is (nat_lt x 256) (are_bytes xs) e).1

fronted : (b : Bool) (xs ys : List ℕ) → cond b (Some xs) None ≡ Some ys → xs ≡ ys
fronted true xs ys e = same_value xs ys e
fronted false xs ys e = absurd (cc)

header_dropped : (g : Genesis) (text : List ℕ) (h : ℕ × List ℕ) → after_header g text ≡ Some h → are_bytes text ≡ true → are_bytes h.1 ≡ true
unfolding after_header
header_dropped g [] h e bytes = absurd (cc)
header_dropped g (n ∷ text) h e bytes =
    let front = digest_of g in
    let f = goes_on (after_front front text) (λ rest. Some (n, rest)) h e in
    let made : ℕ × List ℕ = (n, f.0) in
    let d = fronted (pointwise eqb (take (length front) text) front) (drop (length front) text) f.0 f.1 in
    let dropped_so : are_bytes f.0 ≡ true =
    subst (λ xs. are_bytes xs ≡ true) d (dropped (length front) text (and_is (nat_lt n 256) (are_bytes text) bytes).1) in
    subst (λ (x : ℕ × List ℕ). are_bytes x.1 ≡ true) (same_value made h f.2) dropped_so

taken : {A : Type 0} (b c : Bool) (x y : A) → cond b (cond c (Some x) None) None ≡ Some y → x ≡ y
taken true true x y e = same_value x y e
taken true false x y e = absurd (cc)
taken false c x y e = absurd (cc)

names_read : (g : Genesis) (text : List ℕ) (s : State) → are_bytes text ≡ true → shaped g text ≡ Some s → FitsNames s
unfolding shaped built_as
names_read g text s h e =
    let a = goes_on (after_header g text) (λ x. whole (read_rows x.0) x.1 >>= built_as g text) s e in
    let b = goes_on (whole (read_rows a.0.0) a.0.1) (built_as g text) s a.2 in
    let fits = whole_fits a.0.0 a.0.1 b.0 (known a.0.1 (header_dropped g text a.0 a.1 h)) b.1 in
    let same = taken (room_test g b.0) (pointwise eqb (state_bytes (built g b.0)) text) (built g b.0) s b.2 in
    subst FitsNames same (built_fits g b.0 fits)

-- ---- what is read

settled_is : (a b : Bool) (s t : State) → cond (a && b) (Some s) None ≡ Some t → (a ≡ true) × (b ≡ true) × (s ≡ t)
settled_is true true s t e = (refl, refl, same_value s t e)
settled_is true false s t e = absurd (cc)
settled_is false b s t e = absurd (cc)

-- what bytes are read as has them, and is a balanced and sound state of the genesis
pub state_from : (g : Genesis) (bytes : List ℕ) (s : State) → state_in g bytes ≡ Some s → FitsNames s × IsStateOf g s × (bytes ≡ state_bytes s)
unfolding state_in
state_from g bytes s e = go (are_bytes bytes) refl e
  where
    go : (t : Bool) → are_bytes bytes ≡ t → cond t (shaped g bytes >>= if_settled) None ≡ Some s → FitsNames s × IsStateOf g s × (bytes ≡ state_bytes s)
    go false i f = absurd (cc)
    go true i f =
        let a = goes_on (shaped g bytes) if_settled s f in
        let b = settled_is (sound_test a.0) (balance_test a.0) a.0 s a.2 in
        let shape = shape_read g bytes a.0 a.1 in
        let found = shaped_found g bytes a.0 a.1 in
        let of : a.0.genesis ≡ g = subst (λ (x : State). x.genesis ≡ g) (sym found.2) (genesis_built g found.0) in
        let is : IsStateOf g a.0 = record { genesis = of; sound = passes_is_sound a.0 shape b.0; balanced = passes_is_balanced a.0 b.1 } in
        subst (λ (x : State). FitsNames x × IsStateOf g x × (bytes ≡ state_bytes x)) b.2 (names_read g bytes a.0 i a.1, is, found.3)

settled_has : (a b : Bool) (s : State) → a ≡ true → b ≡ true → cond (a && b) (Some s) None ≡ Some s
settled_has a b s e f = ap (λ t. cond t (Some s) None) (and_has a b e f)

-- and the bytes of one are read as it
pub state_again : (g : Genesis) (s : State) → IsGenesis g → FitsNames s → IsStateOf g s → state_in g (state_bytes s) ≡ Some s
unfolding state_in
state_again g s ranges names h =
    let fits = state_fits s (subst IsGenesis (sym h.genesis) ranges) h.sound h.balanced names in
    ap (λ (t : Bool). cond t (shaped g (state_bytes s) >>= if_settled) None) (state_are s).test
    ∙ ap (λ (o : Option State). o >>= if_settled) (shaped_again g s fits h.genesis h.sound)
    ∙ settled_has (sound_test s) (balance_test s) s (sound_passes s h.sound) (balanced_passes s h.balanced)

none_in : (g : Genesis) (bytes : List ℕ) → ((t : State) → FitsNames t → IsStateOf g t → bytes ≢ state_bytes t) → state_in g bytes ≡ None
none_in g bytes none = go (state_in g bytes) refl
  where
    go : (read : Option State) → state_in g bytes ≡ read → state_in g bytes ≡ None
    go None e = e
    go (Some s) e = let t = state_from g bytes s e in absurd (none s t.0 t.1 t.2)

-- a state that is found is the one that is read
pub found_is : (g : Genesis) (bytes : List ℕ) (s t : State) → IsGenesis g → IsStateOf g s × (bytes ≡ state_bytes s) → t ≡ s → FitsNames t → state_in g bytes ≡ Some t
found_is g bytes s t ranges found same names =
    let f = subst (λ (x : State). IsStateOf g x × (bytes ≡ state_bytes x)) (sym same) found in
    ap (state_in g) f.1 ∙ state_again g t ranges names f.0

abbrev failed : CodecFault → Result State CodecFault
failed fault = Err fault

-- and where none is found none is read
pub fault_is : (g : Genesis) (bytes : List ℕ) (fault : CodecFault) → (failed fault ≡ failed codec.Malformed → (t : State) → FitsNames t → IsStateOf g t → bytes ≢ state_bytes t)
    → Fails fault (state_in g bytes)
fault_is g bytes codec.Malformed none = none_in g bytes (none refl)
fault_is g bytes codec.NoMemory none = tt
