-- Books that follow the lines of changes do what the changes do.
use Rattle.std.proofs.Common.{◌≡◌, ℕ, zero, suc, ◌<◌, ◌≤◌, List, [], ◌∷◌, length, Result, Ok, refl, sym, ap, subst, ◌∙◌}
use Rattle.std.specs.Prelude.{slice_set}
use Rattle.std.proofs.lemmas.List.{get_or-set_same, set-get_or, length-set}
use Rattle.dx_spec.specs.Step.{◌>>=◌, fail_as}
use Rattle.dx_spec.proofs.Scripts.{stage_next, stage_passes}
use Rattle.dx_types.specs.declared.Shown.{Shown}
use Rattle.dx_feed.specs.declared.Change.{Change}
use Rattle.dx_feed.specs.Changes.{changes}
use Rattle.dx_feed.specs.Following.{follow, follow_all}
use Rattle.dx_feed.proofs.Following.{changes_lead_on}
use Rattle.dx_scenario.specs.Changes.{last_node, change_of, change_text, HasWidths}
use Rattle.dx_scenario.proofs.Rereading.{changes_are_read}
use Rattle.dx_follow.specs.Books.{book_of, follow_at, follow_line, follow_lines, lines_of}
use Rattle.dx_follow.specs.Laws.{LinesLeadOn, FeedsLeadOn}

-- of two writes at a place the later one counts
set_twice : (books : List (List Shown)) (node : ℕ) (a b : List Shown) → slice_set (slice_set books node a) node b ≡ slice_set books node b
set_twice [] node a b = refl
set_twice (x ∷ xs) zero a b = refl
set_twice (x ∷ xs) (suc node) a b = ap (λ l. x ∷ l) (set_twice xs node a b)

-- the line of a change that a node's book takes
line_taken : (books : List (List Shown)) (node : ℕ) (c : Change) (list : List Shown) → node ≤ last_node → HasWidths c → follow (book_of books node) c ≡ Ok list
    → follow_line books (change_text node c) ≡ Ok (slice_set books node list)
unfolding follow_at
line_taken books node c list l w e =
    stage_next (change_of (change_text node c)) (node, c) _ (changes_are_read node c l w)
    ∙ ap (λ (r : Result (List Shown) ℕ). fail_as (λ code. 0) (r >>= λ now. Ok (slice_set books node now))) e

pub lines_lead_on : LinesLeadOn
lines_lead_on books node [] now l within w e =
    let same : book_of books node ≡ now = cc in
    ap Ok (sym (ap (slice_set books node) (sym same) ∙ set-get_or books node []))
lines_lead_on books node (c ∷ cs) now l within w e =
    let first = stage_passes (follow (book_of books node) c) (follow_all cs) now e in
    let next : List (List Shown) = slice_set books node first.0 in
    let there : node < length next = subst (λ n. node < n) (sym (length-set books node first.0)) within in
    let own : book_of next node ≡ first.0 = get_or-set_same books node first.0 [] within in
    let rest = lines_lead_on next node cs now l there w.1 (ap (follow_all cs) own ∙ first.2) in
    stage_next (follow_line books (change_text node c)) next (follow_lines (lines_of node cs)) (line_taken books node c first.0 l w.0 first.1)
    ∙ rest ∙ ap Ok (set_twice books node first.0 now)

pub feeds_lead_on : FeedsLeadOn
feeds_lead_on books node cleared now l within once may w =
    lines_lead_on books node (changes cleared (book_of books node) now) now l within w (changes_lead_on cleared (book_of books node) now once may)
