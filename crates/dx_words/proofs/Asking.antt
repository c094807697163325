-- What the words ask for, by what a parse of them gives.
use Rattle.std.proofs.Common.{◌≡◌, ◌∙◌, ◌&&◌, ◌<◌, ◌^◌, ℕ, Bool, true, false, List, [], ◌∷◌, length, Option, Some, None, Result, Ok, Err, IfOk, IfErr, refl, sym, ap, subst, nat_lt, inl, inr, lt-ltb, ltb-true, arith}
use Rattle.std.specs.List.{list_all}
use Rattle.std.specs.Option.{option_and_then}
use Rattle.std.specs.Char.{digit_value}
use Rattle.std.specs.Str.Parse.{AllDigits, ParsesUnsigned, digits_value, without_leading_plus}
use Rattle.clap.specs.Words.{App, Text, HasKind, HasMatchesOf, IsAmong, Kinds, ReadsOne, fault_of, first_value, found_of, kind_of, matches_of, one_of, one_text, rows_of, is_simple, FailsBy, is_simple_and_free}
use Rattle.std.specs.Prelude.{codes, option_map}
use Rattle.std.specs.Borrow.{Bor}
use Rattle.clap.specs.ValueTests.{is_numeral}
use Rattle.clap.specs.declared.error.kind.ErrorKind.{ErrorKind}
use Rattle.clap.specs.declared.error.kind.ErrorKind.TheVariants.{OutOfMemory}
use Rattle.clap.specs.declared.error.Error.{Error}
use Rattle.clap.specs.declared.parser.matches.ArgMatches.{ArgMatches}
use Rattle.clap.specs.declared.parser.matches.Found.{Found}
use Rattle.clap.proofs.WalkLemmas.{both, first_value-rows, one_text-rows}
use Rattle.dx_words.specs.declared.words.Words.{Words}
use Rattle.dx_words.specs.Asked.{perpnode, job_named, job_of, number_in, words_in, unless_refused, asked, IsRefused}
use Rattle.std.specs.Option.{ok_or}
use Rattle.dx_words.specs.declared.words.WordsFault.{WordsFault}
use Rattle.dx_words.specs.declared.words.WordsFault.TheVariants.{Usage}

-- ---- numbers

pub digits_pass : (ds : List ℕ) → AllDigits 10 ds → list_all (λ d. nat_lt (digit_value d) 10) ds ≡ true
digits_pass [] h = refl
digits_pass (d ∷ ds) h = rw (lt-ltb (digit_value d) 10 h.0) (digits_pass ds h.1)

digits_from : (ds : List ℕ) → list_all (λ d. nat_lt (digit_value d) 10) ds ≡ true → AllDigits 10 ds
digits_from [] e = tt
digits_from (d ∷ ds) e =
    let parts = both _ _ e in
    (ltb-true _ _ parts.0, digits_from ds parts.1)

-- the test of a number of so many bits
abbrev fits : ℕ → List ℕ → Bool
fits bits ds = is_numeral ds && nat_lt (digits_value 10 ds) (2 ^ bits)

-- what is read of a text is the number that it writes
pub number_read : {E : Type 0} (G : List ℕ → Result ℕ E → Type 0) (bits : ℕ) → ((u : List ℕ) (x : Result ℕ E) → G u x → ParsesUnsigned bits 10 u x)
    → (text : Text) (r : Option ℕ) → ReadsOne G text r → r ≡ number_in bits text
number_read G bits only text (Some n) h =
    let ds = without_leading_plus text in
    let parsed = only text (Ok n) h in
    rw (lt-ltb 0 (length ds) parsed.0.0.0, digits_pass ds parsed.0.0.1, lt-ltb (digits_value 10 ds) (2 ^ bits) parsed.0.1) (ap Some parsed.1)
number_read G bits only text None h = go (fits bits (without_leading_plus text)) refl
  where
    go : (b : Bool) → fits bits (without_leading_plus text) ≡ b → None ≡ number_in bits text
    go false t = rw t refl
    go true t =
        let outer = both _ _ t in
        let inner = both _ _ outer.0 in
        absurd (only text (Err h.0) h.1 ((ltb-true _ _ inner.0, digits_from (without_leading_plus text) inner.1), ltb-true _ _ outer.1))

-- the same of an option of the matches
pub one_read : {E : Type 0} (G : List ℕ → Result ℕ E → Type 0) (bits : ℕ) → ((u : List ℕ) (x : Result ℕ E) → G u x → ParsesUnsigned bits 10 u x)
    → (f : Found) (id : Text) (r : Option ℕ) → (one_text f id ≡ None → r ≡ None) → ((t : Text) → one_text f id ≡ Some t → ReadsOne G t r)
    → r ≡ option_and_then (number_in bits) (one_of id (rows_of f))
one_read G bits only f id r none value = go (one_text f id) refl ∙ ap (option_and_then (number_in bits)) (one_text-rows f id)
  where
    go : (o : Option Text) → one_text f id ≡ o → r ≡ option_and_then (number_in bits) (one_text f id)
    go None e = rw e (none e)
    go (Some t) e = rw e (number_read G bits only t r (value t e))

-- ---- the job

pub job_none : (f : Found) (o : Option (Bor Text)) → option_map (λ s. s.now) o ≡ first_value f (codes "job") → o ≡ None → None ≡ job_of (rows_of f)
job_none f o e none = ap (λ t. option_and_then job_named (option_map (λ s. s.now) t)) (sym none) ∙ ap (option_and_then job_named) (e ∙ first_value-rows f (codes "job"))

pub job_some : (f : Found) (o : Option (Bor Text)) (name : Bor Text) → option_map (λ s. s.now) o ≡ first_value f (codes "job") → o ≡ Some name
    → job_named name.now ≡ job_of (rows_of f)
job_some f o name e some = ap (λ t. option_and_then job_named (option_map (λ s. s.now) t)) (sym some) ∙ ap (option_and_then job_named) (e ∙ first_value-rows f (codes "job"))

-- ---- the command's answer

-- the command takes the words
pub asked_taken : (a : App) (words : List Text) (m : ArgMatches) → a ≡ perpnode → fault_of a words ≡ [] → rows_of (found_of m) ≡ matches_of a words
    → asked words ≡ words_in (rows_of (found_of m))
unfolding asked
asked_taken a words m is none rows =
    ap (λ kinds. unless_refused kinds (words_in (matches_of perpnode words))) (ap (λ b. fault_of b words) (sym is) ∙ none)
    ∙ ap words_in (ap (λ b. matches_of b words) (sym is) ∙ sym rows)

-- the command refuses them
among_refused : (kinds : Kinds) (k : ErrorKind) (w : Option Words) → IsAmong k kinds → unless_refused kinds w ≡ None
among_refused [] k w h = absurd h
among_refused (x ∷ xs) k w h = refl

pub asked_refused : (a : App) (words : List Text) (e : Error) → a ≡ perpnode → HasKind (fault_of a words) e → (kind_of e ≡ OutOfMemory → ⊥) → asked words ≡ None
unfolding asked
asked_refused a words e is (inl memory) other = absurd (other memory)
asked_refused a words e is (inr among) other =
    ap (λ b. unless_refused (fault_of b words) (words_in (matches_of perpnode words))) (sym is)
    ∙ among_refused (fault_of a words) (kind_of e) (words_in (matches_of perpnode words)) among

-- what a parse of the command gives, by its answer
fails_ok : (kinds : Kinds) (r : Result ArgMatches Error) (m : ArgMatches) → r ≡ Ok m → FailsBy kinds r → kinds ≡ []
fails_ok kinds r m ok h =
    let P : Result ArgMatches Error → Type 0 = λ s. FailsBy kinds s in
    let none : P (Ok m) = subst P ok h in
    none

fails_err : (kinds : Kinds) (r : Result ArgMatches Error) (e : Error) → r ≡ Err e → FailsBy kinds r → HasKind kinds e
fails_err kinds r e err h =
    let P : Result ArgMatches Error → Type 0 = λ s. FailsBy kinds s in
    let among : P (Err e) = subst P err h in
    among

if_ok : (P : ArgMatches → Type 0) (r : Result ArgMatches Error) (m : ArgMatches) → r ≡ Ok m → IfOk r P → P m
if_ok P r m ok h =
    let Q : Result ArgMatches Error → Type 0 = λ s. IfOk s P in
    let has : Q (Ok m) = subst Q ok h in
    has

module _ (a : App) (words : List Text) (r : Result ArgMatches Error) (is : a ≡ perpnode) (kinds : is_simple_and_free a ≡ true → FailsBy (fault_of a words) r) where
  free : is_simple_and_free a ≡ true
  unfolding perpnode
  free = ap is_simple_and_free is

  simple : is_simple a ≡ true
  unfolding perpnode
  simple = ap is_simple is

  pub asked_by : (m : ArgMatches) → r ≡ Ok m → IfOk r (HasMatchesOf a words) → asked words ≡ words_in (rows_of (found_of m))
  asked_by m ok matches = asked_taken a words m is (fails_ok (fault_of a words) r m ok (kinds free)) (if_ok (HasMatchesOf a words) r m ok matches simple).0

  pub none_by : (e : Error) → r ≡ Err e → (kind_of e ≡ OutOfMemory → ⊥) → asked words ≡ None
  none_by e err other = asked_refused a words e is (fails_err (fault_of a words) r e err (kinds free)) other

  some_kind : (ks : Kinds) (k : ErrorKind) → IsAmong k ks → 0 < length ks
  some_kind [] k h = absurd h
  some_kind (x ∷ xs) k h = omega arith

  by_kind : (e : Error) → HasKind (fault_of a words) e → (kind_of e ≡ OutOfMemory → ⊥) → 0 < length (fault_of a words)
  by_kind e (inl memory) other = absurd (other memory)
  by_kind e (inr among) other = some_kind (fault_of a words) (kind_of e) among

  -- the command refuses the words
  pub refused_by : (e : Error) → r ≡ Err e → (kind_of e ≡ OutOfMemory → ⊥) → IsRefused words
  unfolding IsRefused
  refused_by e err other =
      let P : App → Type 0 = λ b. 0 < length (fault_of b words) in
      inl (subst P is (by_kind e (fails_err (fault_of a words) r e err (kinds free)) other))

  -- the command takes them, and no job has their name
  pub nameless_by : (m : ArgMatches) → r ≡ Ok m → IfOk r (HasMatchesOf a words) → job_of (rows_of (found_of m)) ≡ None → IsRefused words
  unfolding IsRefused
  nameless_by m ok matches none =
      inr (ap job_of (ap (λ b. matches_of b words) (sym is) ∙ sym (if_ok (HasMatchesOf a words) r m ok matches simple).0) ∙ none)

-- ---- the answer

ok_case : (o : Option Words) → IfOk (ok_or o Usage) (λ w. o ≡ Some w)
ok_case (Some w) = refl
ok_case None = tt

err_case : (o : Option Words) → IfErr (ok_or o Usage) (λ fault. o ≡ None)
err_case (Some w) = tt
err_case None = refl

pub read_ok : (a o : Option Words) (r : Result Words WordsFault) → a ≡ o → r ≡ ok_or o Usage → IfOk r (λ w. a ≡ Some w)
read_ok a o r same is =
    let P : Result Words WordsFault → Type 0 = λ s. IfOk s (λ w. a ≡ Some w) in
    let Q : Option Words → Type 0 = λ x. IfOk (ok_or o Usage) (λ w. x ≡ Some w) in
    subst P (sym is) (subst Q (sym same) (ok_case o))

pub read_err : (o : Option Words) (r : Result Words WordsFault) (X : Type 0) → r ≡ ok_or o Usage → (o ≡ None → X) → IfErr r (λ fault. fault ≡ Usage → X)
read_err o r X is f =
    let P : Result Words WordsFault → Type 0 = λ s. IfErr s (λ fault. fault ≡ Usage → X) in
    subst P (sym is) (go o f)
  where
    go : (o : Option Words) → (o ≡ None → X) → IfErr (ok_or o Usage) (λ fault. fault ≡ Usage → X)
    go (Some w) f = tt
    go None f = λ e. f refl
