-- A byte behind so many newlines, and how many lines there are then.
use Rattle.std.proofs.Common.{◌≡◌, ◌<◌, ◌≤◌, ◌+◌, ◌==◌, ◌↔◌, ℕ, zero, suc, Bool, true, false, cond, List, [], ◌∷◌, ◌++◌, length, map, refl, ap, subst, ◌∙◌, arith, length-append}
use Rattle.std.proofs.lemmas.List.{length-map}
use Rattle.std.proofs.lemmas.List.Sums.{sum_by-cons}
use Rattle.dx_scenario.specs.Genesis.{genesis_of}
use Rattle.dx_scenario.specs.Events.{event_of}
use Rattle.dx_text.specs.Lines.{Input, newline, newlines_in, cut, with_byte}
use Rattle.dx_app.specs.Causes.{fault_of, count_of, cut_fault, event_faults, line_faults, faults, FollowsNewlines}

-- one for a newline
abbrev one_at : ℕ → ℕ
one_at b = cond (b == newline) 1 0

-- how many lines there are, with the one that has no newline
abbrev lines_in : List (List ℕ) → List ℕ → ℕ
lines_in lines tail = length lines + length (cut_fault tail)

abbrev line_count : Input → ℕ
line_count input = lines_in input.lines input.tail

-- an input, and a byte before it, which is a newline or not
abbrev cut_more : Bool → ℕ → Input → Input
cut_more true b rest = record { lines = [] ∷ rest.lines; tail = rest.tail }
cut_more false b rest = with_byte b rest.lines rest.tail

cut_is : (b : ℕ) (bytes : List ℕ) → cut (b ∷ bytes) ≡ cut_more (b == newline) b (cut bytes)
cut_is b bytes =
    elim (b == newline) as (λ t. cond t (record { lines = [] ∷ (cut bytes).lines; tail = (cut bytes).tail }) (with_byte b (cut bytes).lines (cut bytes).tail) ≡ cut_more t b (cut bytes)) [ true ↦ refl | false ↦ refl ]

newlines_next : (b : ℕ) (front : List ℕ) → newlines_in (b ∷ front) ≡ one_at b + newlines_in front
newlines_next b front = sum_by-cons (λ x. cond (x == newline) 1 0) b front

-- one more byte takes away no line
with_byte_least : (b : ℕ) (lines : List (List ℕ)) (tail : List ℕ) → lines_in lines tail ≤ line_count (with_byte b lines tail)
with_byte_least b [] [] = omega arith
with_byte_least b [] (x ∷ xs) = omega arith
with_byte_least b (line ∷ lines) tail = omega arith

with_byte_some : (b : ℕ) (lines : List (List ℕ)) (tail : List ℕ) → 0 < line_count (with_byte b lines tail)
with_byte_some b [] tail = omega arith
with_byte_some b (line ∷ lines) tail = omega arith

-- one more byte makes no second line
with_byte_most : (b m : ℕ) (lines : List (List ℕ)) (tail : List ℕ) → suc m < line_count (with_byte b lines tail) → suc m < lines_in lines tail
with_byte_most b m [] tail h = absurd (omega (arith, h))
with_byte_most b m (line ∷ lines) tail h = h

some_line : (t : Bool) (b : ℕ) (rest : Input) → 0 < line_count (cut_more t b rest)
some_line true b rest = omega arith
some_line false b rest = with_byte_some b rest.lines rest.tail

more_lines : (t : Bool) (b k : ℕ) (rest : Input) → k < line_count rest → cond t 1 0 + k < line_count (cut_more t b rest)
more_lines true b k rest h = omega (arith, h)
more_lines false b k rest h = omega (arith, h, with_byte_least b rest.lines rest.tail)

some_cut : (bytes : List ℕ) → 0 < length bytes → 0 < line_count (cut bytes)
some_cut [] h = absurd (omega (arith, h))
some_cut (b ∷ bytes) h = rw (cut_is b bytes) (some_line (b == newline) b (cut bytes))

-- where a byte follows, there are more lines than newlines before it
newlines_below : (front rest : List ℕ) → 0 < length rest → newlines_in front < line_count (cut (front ++ rest))
newlines_below [] rest h = some_cut rest h
newlines_below (b ∷ front) rest h =
    let k : one_at b + newlines_in front < line_count (cut_more (b == newline) b (cut (front ++ rest))) = more_lines (b == newline) b (newlines_in front) (cut (front ++ rest)) (newlines_below front rest h) in
    let c : line_count (cut (b ∷ (front ++ rest))) ≡ line_count (cut_more (b == newline) b (cut (front ++ rest))) = ap line_count (cut_is b (front ++ rest)) in
    omega (arith, k, c, newlines_next b front)

with_front : (m k b : ℕ) (bytes : List ℕ) → one_at b + m ≡ k → FollowsNewlines m bytes → FollowsNewlines k (b ∷ bytes)
with_front m k b bytes e f = record {
  front = b ∷ f.front;
  rest = f.rest;
  joined = ap (λ xs. b ∷ xs) f.joined;
  count = newlines_next b f.front ∙ ap (λ c. one_at b + c) f.count ∙ e;
  more = f.more;
}

front_next : (t : Bool) (m b : ℕ) (bytes : List ℕ) → (b == newline) ≡ t → suc m < line_count (cut_more t b (cut bytes)) → (m < line_count (cut bytes) → FollowsNewlines m bytes) → (suc m < line_count (cut bytes) → FollowsNewlines (suc m) bytes)
    → FollowsNewlines (suc m) (b ∷ bytes)
front_next true m b bytes e h here on = with_front m (suc m) b bytes (rw e (omega arith)) (here (omega (arith, h)))
front_next false m b bytes e h here on = with_front (suc m) (suc m) b bytes (rw e (omega arith)) (on (with_byte_most b m (cut bytes).lines (cut bytes).tail h))

-- where there are more lines than so many newlines, a byte follows so many newlines
front_of : (n : ℕ) (input : List ℕ) → n < line_count (cut input) → FollowsNewlines n input
front_of n [] h = absurd (omega (arith, h))
front_of zero (b ∷ bytes) h = record { front = []; rest = b ∷ bytes; joined = refl; count = refl; more = omega arith }
front_of (suc m) (b ∷ bytes) h =
    let k : suc m < line_count (cut_more (b == newline) b (cut bytes)) = subst (λ c. suc m < line_count c) (cut_is b bytes) h in
    front_next (b == newline) m b bytes refl k (λ less. front_of m bytes less) (λ less. front_of (suc m) bytes less)

cut_fault_small : (tail : List ℕ) → length (cut_fault tail) ≤ 1
cut_fault_small [] = omega arith
cut_fault_small (b ∷ bytes) = omega arith

fault_count : (nodes : ℕ) (lines : List (List ℕ)) (tail : List ℕ) → length (event_faults nodes lines tail) ≡ lines_in lines tail
fault_count nodes lines tail = length-append (map (λ line. fault_of line (event_of nodes line)) lines) (cut_fault tail) ∙ ap (λ k. k + length (cut_fault tail)) (length-map lines (λ line. fault_of line (event_of nodes line)))

faults_over : (limit : ℕ) (lines : List (List ℕ)) (tail : List ℕ) → 0 < limit → limit < length (line_faults lines tail) → limit < lines_in lines tail
faults_over limit [] tail some h = absurd (omega (arith, some, h))
faults_over limit (line ∷ lines) tail some h = omega (arith, h, fault_count (count_of (genesis_of line)) lines tail)

lines_over : (limit : ℕ) (lines : List (List ℕ)) (tail : List ℕ) → 0 < limit → limit < lines_in lines tail → limit < length (line_faults lines tail)
lines_over limit [] tail some h = absurd (omega (arith, some, h, cut_fault_small tail))
lines_over limit (line ∷ lines) tail some h = omega (arith, h, fault_count (count_of (genesis_of line)) lines tail)

-- a byte follows so many newlines exactly where there are more lines
pub follows_limit : (limit : ℕ) (input : List ℕ) → 0 < limit → FollowsNewlines limit input ↔ (limit < length (faults input))
follows_limit limit input some = (
  λ f.
      let below : newlines_in f.front < line_count (cut (f.front ++ f.rest)) = newlines_below f.front f.rest f.more in
      lines_over limit (cut input).lines (cut input).tail some (subst (λ n. n < line_count (cut input)) f.count (subst (λ bytes. newlines_in f.front < line_count (cut bytes)) f.joined below)),
  λ h. front_of limit input (faults_over limit (cut input).lines (cut input).tail some h),
)
