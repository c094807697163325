-- A row is read as the state whose snapshot it is.
use Rattle.std.proofs.Common.{◌≡◌, ℕ, ◌+◌, ◌-◌, ◌<◌, Bool, true, false, cond, not, ◌==◌, List, ◌++◌, length, take, drop, Some, refl, sym, ap, subst, ◌∙◌, arith}
use Rattle.std.specs.Prelude.{nat_le, Result, Ok}
use Rattle.std.specs.Str.{bytes_eq}
use Rattle.std.specs.FinMap as map
use Rattle.std.proofs.lemmas.Slice.Eq.{bytes_eq-Decides}
use Rattle.std.proofs.lemmas.Bool.{eqb-true, eq-eqb}
use Rattle.std.proofs.lemmas.Bool.Decides.{nat_tests}
use Rattle.std.proofs.lemmas.List.{take_at, drop_at, length-append, take-append-drop}
use Rattle.sha2.specs.Sha256.{sha256}
use Rattle.sha2.proofs.Facts256.{length-sha256}
use Rattle.dx_types.specs.declared.Genesis.{Genesis}
use Rattle.dx_spec.specs.State.{State}
use Rattle.dx_spec.specs.Genesis.{IsGenesis}
use Rattle.dx_spec.specs.Step.{◌>>=◌}
use Rattle.dx_spec.proofs.Scripts.{passes, some_passes, pass, some_next}
use Rattle.dx_inspect.proofs.Testing.{and_is, and_has}
use Rattle.dx_io.specs.Rows.{Rows}
use Rattle.dx_codec.specs.States.{state_bytes, FitsNames}
use Rattle.dx_codec.specs.Building.{IsStateOf}
use Rattle.dx_history.specs.Rows.{place_of}
use Rattle.dx_history.specs.Chains.{kept}
use Rattle.dx_history.proofs.Growing.{own_row, other_row}
use Rattle.dx_history.proofs.Starting.{other_kept}
use Rattle.dx_snapshot.specs.States.{state_in}
use Rattle.dx_snapshot.specs.Snapshots.{first_number, snapshot_bytes, snapshot_place, front_of, seal_of, is_sealed, Unread, BadDigest, NoState, HasHeight, snapshot_in, snapshot_of, snapshot_at}
use Rattle.dx_snapshot.specs.Laws.{IsSnapshot}
use Rattle.dx_snapshot.proofs.Reading.{state_from, state_again}

-- ---- the seal

size_is : (front : List ℕ) → length (front ++ sha256 front) ≡ length front + 32
size_is front = length-append front (sha256 front) ∙ ap (λ n. length front + n) (length-sha256 front)

front_size : (front : List ℕ) → length (front ++ sha256 front) - 32 ≡ length front
front_size front = let e = size_is front in omega (arith, e)

-- what is before the seal
pub front_again : (front : List ℕ) → front_of (front ++ sha256 front) ≡ front
front_again front = ap (λ n. take n (front ++ sha256 front)) (front_size front) ∙ take_at front (sha256 front) (length front) refl

seal_again : (front : List ℕ) → seal_of (front ++ sha256 front) ≡ sha256 front
seal_again front = ap (λ n. drop n (front ++ sha256 front)) (front_size front) ∙ drop_at front (sha256 front) (length front) refl

long_enough : (front : List ℕ) → nat_le 32 (length (front ++ sha256 front)) ≡ true
long_enough front = let e = size_is front in grind (arith, nat_tests, e)

-- a row of bytes and their SHA-256 is sealed
pub sealed_again : (front : List ℕ) → is_sealed (front ++ sha256 front) ≡ true
unfolding is_sealed
sealed_again front =
    and_has _ _ (long_enough front)
    ((bytes_eq-Decides _ _).1 (seal_again front ∙ ap sha256 (sym (front_again front))))

-- and a sealed row is that of what is before its seal
pub sealed_from : (row : List ℕ) → is_sealed row ≡ true → row ≡ front_of row ++ sha256 (front_of row)
unfolding is_sealed
sealed_from row e =
    let a = and_is (nat_le 32 (length row)) (bytes_eq (seal_of row) (sha256 (front_of row))) e in
    sym (take-append-drop (length row - 32) row) ∙ ap (λ xs. front_of row ++ xs) ((bytes_eq-Decides (seal_of row) (sha256 (front_of row))).0 a.1)

-- ---- rows

not_true : (b : Bool) → not b ≡ false → b ≡ true
not_true true e = refl
not_true false e = absurd (cc)

abbrev found : State → Result State Unread
found s = Ok s

ok_value : (x y : State) → found x ≡ found y → x ≡ y
ok_value x y e = cc

sealed_read : (g : Genesis) (bytes : List ℕ) (s : State) → state_in g bytes ≡ Some s → snapshot_in g s.clock.height (bytes ++ sha256 bytes) ≡ Ok s
unfolding snapshot_in
sealed_read g bytes s e =
    pass BadDigest _ _ (ap not (sealed_again bytes))
    ∙ some_next _ s NoState _ (ap (state_in g) (front_again bytes) ∙ e)
    ∙ pass (HasHeight s.clock.height) _ (Ok s) (ap not (eq-eqb s.clock.height s.clock.height refl))

-- the snapshot of a state is read as it
pub snapshot_again : (g : Genesis) (row : List ℕ) (s : State) → IsGenesis g → IsSnapshot g row s → snapshot_in g s.clock.height row ≡ Ok s
snapshot_again g row s ranges h = ap (snapshot_in g s.clock.height) h.bytes ∙ sealed_read g (state_bytes s) s (state_again g s ranges h.names h.state)

-- and what is read is the state whose snapshot the row is
pub snapshot_from : (g : Genesis) (height : ℕ) (row : List ℕ) (s : State) → snapshot_in g height row ≡ Ok s → IsSnapshot g row s × (s.clock.height ≡ height)
unfolding snapshot_in
snapshot_from g height row s e =
    let a = passes BadDigest (not (is_sealed row)) _ s e in
    let b = some_passes (state_in g (front_of row)) NoState _ s a.1 in
    let c = passes (HasHeight b.0.clock.height) (not (b.0.clock.height == height)) (Ok b.0) s b.2 in
    let d = ok_value b.0 s c.1 in
    let t = state_from g (front_of row) b.0 b.1 in
    let bytes : row ≡ snapshot_bytes b.0 = sealed_from row (not_true (is_sealed row) a.0) ∙ ap (λ xs. xs ++ sha256 xs) t.2 in
    let at : b.0.clock.height ≡ height = eqb-true _ _ (not_true (b.0.clock.height == height) c.0) in
    subst (λ (x : State). IsSnapshot g row x × (x.clock.height ≡ height)) d (record { names = t.0; state = t.1; bytes = bytes }, at)

-- so it is a state of the genesis
pub state_of_row : (g : Genesis) (height : ℕ) (row : List ℕ) (s : State) → snapshot_in g height row ≡ Ok s → IsStateOf g s
state_of_row g height row s e = (snapshot_from g height row s e).0.state

-- what is kept is read
pub kept_again : (rows : Rows) (node : ℕ) (g : Genesis) (s : State) → IsGenesis g → FitsNames s → IsStateOf g s
    → snapshot_at g (map.insert rows (snapshot_place node s.clock.height) (snapshot_bytes s)) node s.clock.height ≡ Ok (Some s)
kept_again rows node g s ranges names state =
    let height = s.clock.height in
    let bytes = snapshot_bytes s in
    let number = first_number + node in
    let row = own_row rows number height bytes height
    ∙ ap (λ (t : Bool). cond t (Some bytes) (map.get rows (place_of number height))) (eq-eqb height height refl) in
    ap (snapshot_of g height) row
    ∙ ap (λ (r : Result State Unread). r >>= λ x. Ok (Some x)) (snapshot_again g bytes s ranges (record { names = names; state = state; bytes = refl }))

apart : (node other : ℕ) → other < 16 → (other == first_number + node) ≡ false
apart node other few = grind (arith, nat_tests, few)

apart_too : (node other : ℕ) → node < 16 → (first_number + other == node) ≡ false
apart_too node other few = grind (arith, nat_tests, few)

-- a snapshot is no row of a chain
pub chains_stay : (rows : Rows) (node other height : ℕ) (bytes : List ℕ) (g : Genesis) → other < 16
    → kept g (map.insert rows (snapshot_place node height) bytes) other ≡ kept g rows other
chains_stay rows node other height bytes g few = other_kept rows (first_number + node) other height bytes g (apart node other few)

-- and a row of a chain is no snapshot
pub snapshots_stay : (rows : Rows) (node other height at : ℕ) (bytes : List ℕ) (g : Genesis) → node < 16
    → snapshot_at g (map.insert rows (place_of node height) bytes) other at ≡ snapshot_at g rows other at
snapshots_stay rows node other height at bytes g few =
    ap (snapshot_of g at) (other_row rows node (first_number + other) height bytes (apart_too node other few) at)
