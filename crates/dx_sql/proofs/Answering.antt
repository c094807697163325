-- From what the statements came to, to what a keeper answers.
use Rattle.std.proofs.Common.{◌≡◌, false, Option, Some, None, is_some, Result, Ok, Err, IfOk, OnOk, OnErr, sym, subst, refl, true≢false}
use Rattle.sqlite.specs.declared.error.Error.{Error}
use Rattle.dx_io.specs.declared.keeper.KeepError.{KeepError}
use Rattle.dx_sql.specs.Faults.{answer_of}

pub none_by : {A : Type 0} (o : Option A) → is_some o ≡ false → o ≡ None
none_by None e = refl
none_by (Some x) e = absurd (true≢false e)

pub ok_is : {T : Type 0} (r : Result T Error) (x : T) (P : Type 0) → r ≡ Ok x → OnOk r P → P
ok_is r x P e h = subst (λ a. OnOk a P) e h

pub if_more : {T E : Type 0} (r : Result T E) (P Q : T → Type 0) → IfOk r P → ((x : T) → P x → Q x) → IfOk r Q
if_more (Ok x) P Q h f = f x h
if_more (Err e) P Q h f = tt

-- what holds where the disk is clean, of a good answer
pub answered_on_ok : {T : Type 0} (r : Result T Error) (a : Result T KeepError) (C P Q : Type 0) → a ≡ answer_of r → (C → OnOk r P) → ((C → P) → Q) → OnOk a Q
answered_on_ok (Ok x) a C P Q e h f = subst (λ b. OnOk b Q) (sym e) (f h)
answered_on_ok (Err x) a C P Q e h f = subst (λ b. OnOk b Q) (sym e) tt

pub answered_if_ok : {T : Type 0} (r : Result T Error) (a : Result T KeepError) (C : Type 0) (P Q : T → Type 0) → a ≡ answer_of r → (C → IfOk r P) → ((x : T) → (C → P x) → Q x) → IfOk a Q
answered_if_ok (Ok x) a C P Q e h f = subst (λ b. IfOk b Q) (sym e) (f x h)
answered_if_ok (Err x) a C P Q e h f = subst (λ b. IfOk b Q) (sym e) tt

pub answered_on_err : {T : Type 0} (r : Result T Error) (a : Result T KeepError) (P Q : Type 0) → a ≡ answer_of r → OnErr r P → (P → Q) → OnErr a Q
answered_on_err (Ok x) a P Q e h f = subst (λ b. OnErr b Q) (sym e) tt
answered_on_err (Err x) a P Q e h f = subst (λ b. OnErr b Q) (sym e) (f h)
