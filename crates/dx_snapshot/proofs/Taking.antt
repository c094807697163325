-- What is read of bytes has names that fit, and what follows it is bytes.
use Rattle.std.proofs.Common.{◌≡◌, ℕ, zero, suc, ◌^◌, ◌<◌, Bool, true, false, cond, ◌==◌, ℤ, List, [], ◌∷◌, length, Option, Some, None, refl, sym, ap, subst}
use Rattle.std.specs.List.{AllByRecursion}
use Rattle.dx_types.specs.declared.SubaccountId.{SubaccountId}
use Rattle.dx_types.specs.declared.OrderId.{OrderId}
use Rattle.dx_types.specs.declared.Order.{Order}
use Rattle.dx_types.specs.declared.Waiting.{Waiting}
use Rattle.dx_types.specs.declared.Position.{Position}
use Rattle.dx_types.specs.declared.Account.{Account}
use Rattle.dx_types.specs.declared.Clock.{Clock}
use Rattle.dx_types.specs.declared.Funds.{Funds}
use Rattle.dx_codec.specs.Blocks.{FitsAccountId, FitsOrderId, FitsOrder, FitsWaiting, FitsList}
use Rattle.dx_codec.specs.States.{FitsFilledRow}
use Rattle.dx_codec.specs.Reading.{Reader, ◌>>=◌, both, seen_as, picked, many, read_list, read_waiting}
use Rattle.dx_codec.specs.ReadingStates.{read_clock, narrow, read_narrow, read_funds, read_market_row, read_position, few, read_positions, read_account, read_account_row, read_filled_row, read_waiting_part, read_rows}
use Rattle.dx_codec.specs.declared.rows.MarketRow.{MarketRow}
use Rattle.dx_codec.specs.declared.rows.AccountRow.{AccountRow}
use Rattle.dx_codec.specs.declared.rows.FilledRow.{FilledRow}
use Rattle.dx_codec.specs.declared.rows.StateRows.{StateRows}
use Rattle.dx_codec.proofs.Formats.{IsBytes, IsFormat, bytes_behind, goes_on, same_value}
use Rattle.dx_codec.proofs.NumberFormats.{u32_format, u64_format, i32_format, i64_format, i128_format}
use Rattle.dx_codec.proofs.BlockFormats.{account_id_format, order_id_format, order_format, waiting_format, short_list}

-- what a reader takes of bytes has a property, and what it leaves is bytes
record Takes (X : Type 0) (Fits : X → Type 0) (read : Reader X) : Type 0 where
  of : (text : List ℕ) (x : X) (rest : List ℕ) → IsBytes text → read text ≡ Some (x, rest) → Fits x × IsBytes rest

-- no property
abbrev Any : {X : Type 0} → X → Type 0
Any x = Unit {0}

formatted : {X : Type 0} {f : X → List ℕ} {F : X → Type 0} {p : Reader X} → IsFormat X f F p → Takes X F p
formatted {X} {f} a = record {
  of = λ text x rest fits e. let t = a.takes text x rest fits e in (t.1, bytes_behind text (f x) rest t.0 fits);
}

both_take : {X Y : Type 0} {F : X → Type 0} {p : Reader X} {G : Y → Type 0} {q : Reader Y} → Takes X F p → Takes Y G q → Takes (X × Y) (λ z. F z.0 × G z.1) (both p q)
both_take {X} {Y} {F} {p} {G} {q} a b = record {
  of = λ text z rest fits e.
      let m = goes_on (p text) (λ x. q x.1 >>= λ y. Some ((x.0, y.0), y.1)) (z, rest) e in
      let n = goes_on (q m.0.1) (λ y. Some ((m.0.0, y.0), y.1)) (z, rest) m.2 in
      let t = a.of text m.0.0 m.0.1 fits m.1 in
      let u = b.of m.0.1 n.0.0 n.0.1 t.1 n.1 in
      let made : (X × Y) × List ℕ = ((m.0.0, n.0.0), n.0.1) in
      subst (λ (w : (X × Y) × List ℕ). (F w.0.0 × G w.0.1) × IsBytes w.1) (same_value made (z, rest) n.2) ((t.0, u.0), u.1);
}

seen_take : {X Y : Type 0} {F : X → Type 0} {p : Reader X} (to : X → Y) (G : Y → Type 0) → ((x : X) → F x → G (to x)) → Takes X F p → Takes Y G (seen_as to p)
seen_take {X} {Y} {F} {p} to G into a = record {
  of = λ text y rest fits e.
      let m = goes_on (p text) (λ x. Some (to x.0, x.1)) (y, rest) e in
      let t = a.of text m.0.0 m.0.1 fits m.1 in
      let made : Y × List ℕ = (to m.0.0, m.0.1) in
      subst (λ (w : Y × List ℕ). G w.0 × IsBytes w.1) (same_value made (y, rest) m.2) (into m.0.0 t.0, t.1);
}

-- values that some of the others stand for
picked_take : {X Y : Type 0} {F : X → Type 0} {p : Reader X} (pick : X → Option Y) → Takes X F p → Takes Y Any (picked pick p)
picked_take {X} {Y} {F} {p} pick a = record {
  of = λ text y rest fits e.
      let m = goes_on (p text) (λ x. pick x.0 >>= λ z. Some (z, x.1)) (y, rest) e in
      let n = goes_on (pick m.0.0) (λ z. Some (z, m.0.1)) (y, rest) m.2 in
      let t = a.of text m.0.0 m.0.1 fits m.1 in
      let made : Y × List ℕ = (n.0, m.0.1) in
      subst (λ (w : Y × List ℕ). Any w.0 × IsBytes w.1) (same_value made (y, rest) n.2) (tt, t.1);
}

many_take : {X : Type 0} (F : X → Type 0) (p : Reader X) → Takes X F p → (n : ℕ) (text : List ℕ) (xs : List X) (rest : List ℕ)
    → IsBytes text → many p n text ≡ Some (xs, rest) → ((length xs ≡ n) × AllByRecursion F xs) × IsBytes rest
unfolding many
many_take {X} F p a zero text xs rest fits e =
    let made : List X × List ℕ = ([], text) in
    subst (λ (w : List X × List ℕ). ((length w.0 ≡ 0) × AllByRecursion F w.0) × IsBytes w.1) (same_value made (xs, rest) e) ((refl, tt), fits)
many_take {X} F p a (suc n) text xs rest fits e =
    let m = goes_on (p text) (λ x. many p n x.1 >>= λ ys. Some (x.0 ∷ ys.0, ys.1)) (xs, rest) e in
    let k = goes_on (many p n m.0.1) (λ ys. Some (m.0.0 ∷ ys.0, ys.1)) (xs, rest) m.2 in
    let t = a.of text m.0.0 m.0.1 fits m.1 in
    let u = many_take F p a n m.0.1 k.0.0 k.0.1 t.1 k.1 in
    let made : List X × List ℕ = (m.0.0 ∷ k.0.0, k.0.1) in
    subst (λ (w : List X × List ℕ). ((length w.0 ≡ suc n) × AllByRecursion F w.0) × IsBytes w.1) (same_value made (xs, rest) k.2)
    ((ap suc u.0.0, (t.0, u.0.1)), u.1)

-- a list behind how many members it has
list_take : {X : Type 0} {K : ℕ → Type 0} {r : Reader ℕ} {F : X → Type 0} {p : Reader X} → Takes ℕ K r → Takes X F p
    → Takes (List X) (λ xs. K (length xs) × AllByRecursion F xs) (λ text. r text >>= λ n. many p n.0 n.1)
list_take {X} {K} {r} {F} {p} c a = record {
  of = λ text xs rest fits e.
      let m = goes_on (r text) (λ n. many p n.0 n.1) (xs, rest) e in
      let t = c.of text m.0.0 m.0.1 fits m.1 in
      let u = many_take F p a m.0.0 m.0.1 xs rest t.1 m.2 in
      ((subst K (sym u.0.0) t.0, u.0.1), u.1);
}

-- ---- the rows of a state

clock_takes : Takes Clock Any read_clock
unfolding read_clock
clock_takes =
    seen_take (λ (p : ℕ × (ℕ × (ℕ × ℕ))). record { height = p.0; time = p.1.0; sample_next = p.1.1.0; funding_next = p.1.1.1 }) Any (λ p h. tt)
    (both_take (formatted u32_format) (both_take (formatted u32_format) (both_take (formatted u32_format) (formatted u32_format))))

narrow_takes : Takes ℤ Any read_narrow
narrow_takes = picked_take narrow (formatted i128_format)

funds_take : Takes Funds Any read_funds
unfolding read_funds
funds_take =
    seen_take (λ (p : ℤ × (ℤ × (ℤ × (ℤ × (ℤ × ℤ))))). record { paid_in = p.0; paid_out = p.1.0; fees = p.1.1.0; charged = p.1.1.1.0; fee_dust = p.1.1.1.1.0; insurance = p.1.1.1.1.1 })
    Any (λ p h. tt)
    (both_take (formatted i128_format) (both_take (formatted i128_format) (both_take narrow_takes
    (both_take (formatted i128_format) (both_take (formatted i128_format) narrow_takes)))))

market_takes : Takes MarketRow Any read_market_row
unfolding read_market_row
market_takes =
    seen_take (λ (p : ℕ × (ℤ × (ℕ × (ℤ × (ℤ × (List ℤ × List ℤ)))))). record { price = p.0; index = p.1.0; oi = p.1.1.0; fund = p.1.1.1.0; dust = p.1.1.1.1.0; votes = p.1.1.1.1.1.0; samples = p.1.1.1.1.1.1 })
    Any (λ p h. tt)
    (both_take (formatted u64_format) (both_take (formatted i64_format) (both_take (formatted u64_format) (both_take (formatted i64_format)
    (both_take (formatted i128_format) (both_take (formatted (short_list i32_format)) (formatted (short_list i32_format))))))))

position_takes : Takes Position Any read_position
unfolding read_position
position_takes =
    seen_take (λ (p : ℕ × (ℤ × ℤ)). record { market = p.0; size = p.1.0; index = p.1.1 }) Any (λ p h. tt)
    (both_take (formatted u32_format) (both_take (formatted i64_format) (formatted i64_format)))

positions_take : Takes (List Position) Any read_positions
unfolding read_positions
positions_take = picked_take few (list_take (formatted u32_format) position_takes)

account_takes : Takes Account Any read_account
unfolding read_account
account_takes = seen_take (λ (p : ℤ × List Position). record { quote = p.0; positions = record { items = p.1 } }) Any (λ p h. tt) (both_take (formatted i64_format) positions_take)

-- an account's id fits
abbrev pub FitsOwner : AccountRow → Type 0
FitsOwner a = FitsAccountId a.who

account_row_takes : Takes AccountRow FitsOwner read_account_row
unfolding read_account_row
account_row_takes =
    seen_take (λ (p : SubaccountId × Account). record { who = p.0; account = p.1 }) FitsOwner (λ p h. h.0) (both_take (formatted account_id_format) account_takes)

filled_row_takes : Takes FilledRow FitsFilledRow read_filled_row
unfolding read_filled_row
filled_row_takes =
    seen_take (λ (p : OrderId × (ℕ × ℕ)). record { id = p.0; filled = record { amount = p.1.0; until = p.1.1 } }) FitsFilledRow
    (λ p h. record { id = h.0; amount = h.1.0; until = h.1.1 })
    (both_take (formatted order_id_format) (both_take (formatted u64_format) (formatted u32_format)))

-- the members of a list fit
abbrev pub AllFit : {X : Type 0} → (X → Type 0) → List X → Type 0
AllFit F xs = AllByRecursion F xs

waiting_by : (one two : Bool) (text : List ℕ) (ws : List Waiting) (rest : List ℕ) → IsBytes text
    → cond one (Some ([], text)) (cond two (read_list read_waiting text) None) ≡ Some (ws, rest) → AllFit FitsWaiting ws × IsBytes rest
waiting_by true two text ws rest fits e =
    let made : List Waiting × List ℕ = ([], text) in
    subst (λ (w : List Waiting × List ℕ). AllFit FitsWaiting w.0 × IsBytes w.1) (same_value made (ws, rest) e) (tt, fits)
waiting_by false true text ws rest fits e = let t = (formatted (short_list waiting_format)).of text ws rest fits e in (t.0.1, t.1)
waiting_by false false text ws rest fits e = absurd (cc)

waiting_takes : (form : ℕ) → Takes (List Waiting) (AllFit FitsWaiting) (read_waiting_part form)
unfolding read_waiting_part
waiting_takes form = record { of = λ text ws rest fits e. waiting_by (form == 1) (form == 2) text ws rest fits e }

-- the names of rows, the ends of orders and the count of records are of their bytes
pub record FitNames (r : StateRows) : Type 0 where
  pub accounts : AllFit FitsOwner r.accounts
  pub filled : (length r.filled < 2 ^ 64) × AllFit FitsFilledRow r.filled
  pub stateful : AllFit FitsOrder r.stateful
  pub waiting : AllFit FitsWaiting r.waiting

-- those of rows that are read of bytes are
rows_take : (form : ℕ) → Takes StateRows FitNames (read_rows form)
unfolding read_rows
rows_take form =
    seen_take
    (λ (p : Clock × (Funds × (List MarketRow × (List AccountRow × (List FilledRow × (List Order × List Waiting)))))). record {
      clock = p.0;
      funds = p.1.0;
      markets = p.1.1.0;
      accounts = p.1.1.1.0;
      filled = p.1.1.1.1.0;
      stateful = p.1.1.1.1.1.0;
      waiting = p.1.1.1.1.1.1;
    })
    FitNames (λ p h. record { accounts = h.1.1.1.0.1; filled = h.1.1.1.1.0; stateful = h.1.1.1.1.1.0.1; waiting = h.1.1.1.1.1.1 })
    (both_take clock_takes (both_take funds_take (both_take (list_take (formatted u32_format) market_takes) (both_take (list_take (formatted u32_format) account_row_takes)
    (both_take (list_take (formatted u64_format) filled_row_takes) (both_take (formatted (short_list order_format)) (waiting_takes form)))))))

ended : {X : Type 0} (b : Bool) (x y : X) → cond b (Some x) None ≡ Some y → x ≡ y
ended true x y e = same_value x y e
ended false x y e = absurd (cc)

-- what is read as all of a text
pub whole_fits : (form : ℕ) (text : List ℕ) (r : StateRows) → IsBytes text → (read_rows form text >>= λ x. cond (length x.1 == 0) (Some x.0) None) ≡ Some r → FitNames r
whole_fits form text r fits e =
    let m = goes_on (read_rows form text) (λ x. cond (length x.1 == 0) (Some x.0) None) r e in
    subst FitNames (ended (length m.0.1 == 0) m.0.0 r m.2) ((rows_take form).of text m.0.0 m.0.1 fits m.1).0
