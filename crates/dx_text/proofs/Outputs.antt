-- Known bytes that grow piece by piece, and those that are read piece by piece.
use Rattle.std.proofs.Common.{◌≡◌, ◌+◌, ℕ, List, [], ◌++◌, take, drop, refl, sym, ap, subst, ◌∙◌, append_assoc, append-nil, Option, Some, None}
use Rattle.std.proofs.Math.Seq.{take-add}
use Rattle.std.specs.Io.KnownBytes.{Appends, Consumes, Keeps}
use Rattle.dx_text.specs.Output.{AppendsFront}
use Rattle.dx_text.specs.Lines.{rest_of}
use Rattle.dx_text.specs.Reading.{IsInput}

pub appends_nothing : (before : Option (List ℕ)) → Appends before before []
appends_nothing None = tt
appends_nothing (Some xs) = sym (append-nil xs)

pub appends_then : (a b c : Option (List ℕ)) (xs ys : List ℕ) → Appends a b xs → Appends b c ys → Appends a c (xs ++ ys)
appends_then None b c xs ys p q = tt
appends_then (Some w) None c xs ys p q = absurd p
appends_then (Some w) (Some v) None xs ys p q = absurd q
appends_then (Some w) (Some v) (Some u) xs ys p q = q ∙ ap (λ zs. zs ++ ys) p ∙ append_assoc w xs ys

pub appends_piece : (a b c : Option (List ℕ)) (bytes rest : List ℕ) (at n : ℕ) → Appends a b (take at bytes) → Appends b c (take n rest) → rest ≡ drop at bytes → Appends a c (take (at + n) bytes)
appends_piece a b c bytes rest at n p q e =
    let whole : take at bytes ++ take n rest ≡ take (at + n) bytes = ap (λ r. take at bytes ++ take n r) e ∙ sym (take-add at n bytes) in
    subst (λ zs. Appends a c zs) whole (appends_then a b c (take at bytes) (take n rest) p q)

-- nothing is a front of all bytes
pub keeps_front : (before now : Option (List ℕ)) (bytes : List ℕ) → Keeps before now → AppendsFront before now bytes
keeps_front None now bytes k = ([], tt, (bytes, refl))
keeps_front (Some xs) None bytes k = absurd k
keeps_front (Some xs) (Some ys) bytes k = ([], k ∙ sym (append-nil xs), (bytes, refl))

pub nothing_front : (before : Option (List ℕ)) (bytes : List ℕ) → AppendsFront before before bytes
nothing_front before bytes = ([], appends_nothing before, (bytes, refl))

-- a front of the first bytes is a front of all
pub front_more : (before now : Option (List ℕ)) (text more : List ℕ) → AppendsFront before now text → AppendsFront before now (text ++ more)
front_more before now text more f = (f.0, f.1, (f.2.0 ++ more, sym (append_assoc f.0 f.2.0 more) ∙ ap (λ xs. xs ++ more) f.2.1))

pub consumes_nothing : (left : Option (List ℕ)) → Consumes left left []
consumes_nothing None = tt
consumes_nothing (Some xs) = refl

pub consumes_then : (a b c : Option (List ℕ)) (xs ys : List ℕ) → Consumes a b xs → Consumes b c ys → Consumes a c (xs ++ ys)
consumes_then None b c xs ys p q = tt
consumes_then (Some w) None c xs ys p q = absurd p
consumes_then (Some w) (Some v) None xs ys p q = absurd q
consumes_then (Some w) (Some v) (Some u) xs ys p q = p ∙ ap (λ zs. xs ++ zs) q ∙ sym (append_assoc xs ys u)

-- what is left is an input
pub rest_is_input : (left : Option (List ℕ)) → IsInput left (rest_of left)
rest_is_input None = tt
rest_is_input (Some xs) = refl

-- what was read, and then an input of what is left, is an input
pub read_is_input : (before left : Option (List ℕ)) (got input : List ℕ) → Consumes before left got → IsInput left input → IsInput before (got ++ input)
read_is_input None left got input c i = tt
read_is_input (Some xs) None got input c i = absurd c
read_is_input (Some xs) (Some ys) got input c i = ap (λ zs. got ++ zs) i ∙ sym c
