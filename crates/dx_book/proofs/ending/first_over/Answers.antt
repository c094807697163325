use Rattle.std.proofs.Common.{length, drop, ap, sym, ◌∙◌, subst, T}
use Rattle.std.specs.FinMap.Entries.{is_sorted}
use Rattle.dx_book.specs.Arrivals.{earliest}
use Rattle.dx_book.specs.Expiries.{is_over, start_of_term}
use Rattle.dx_book.specs.Names.{expiry_cmp}
use Rattle.dx_book.specs.Tables.{places_below}
use Rattle.dx_book.proofs.Ended.{before_start, closed}
use Rattle.dx_book.proofs.Expired.{none_before, seen_over, seen_all, all_seen}
use Rattle.dx_book.proofs.ending.first_over.Goals as goal

pub loop-number-init : goal.loop-number-init
loop-number-init c =
    let keys = c.as_slice-keys.result.now in
    let table = c.as_slice-expiries.result.now in
    ap (λ k. earliest (is_over c.args.short_term c.args.bound) keys (drop k table) (length keys))
    (c.place_of-number.ensures ∙ ap (λ n. places_below expiry_cmp n table) c.start_of_term.ensures)
    ∙ none_before (is_over c.args.short_term c.args.bound) keys table (length keys) (start_of_term c.args.short_term) (before_start c.args.short_term c.args.bound)
    ∙ (λ i. earliest (is_over c.args.short_term c.args.bound) (c.as_slice-keys.ensures.value i) (c.as_slice-expiries.ensures.value i) (length (c.as_slice-keys.ensures.value i)))

pub returns-then-not-is_over : goal.returns-then-not-is_over
returns-then-not-is_over c =
    let table = c.as_slice-expiries.result.now in
    seen_all (is_over c.args.short_term c.args.bound) c.as_slice-keys.result.now table c.loop-number.place c.loop-number.number _ (start_of_term c.args.short_term) c.place_of-number.result c.is_over.result _
    (closed c.args.short_term c.args.bound)
    (subst (λ t. T (is_sorted expiry_cmp t)) (sym c.as_slice-expiries.ensures.value) c.requires.sorted.expiries) c.loop-number-test.true
    (c.place_of-number.ensures ∙ ap (λ n. places_below expiry_cmp n table) c.start_of_term.ensures) c.loop-number.auto.number c.is_over.ensures c.if-not-is_over.true c.loop-number.invariant

pub loop-number-preserved : goal.loop-number-preserved
loop-number-preserved c =
    seen_over (is_over c.args.short_term c.args.bound) c.as_slice-keys.result.now c.as_slice-expiries.result.now c.loop-number.place c.loop-number.number _ c.is_over.result c.place_of_key.result c.lower-place.result _
    c.loop-number-test.true c.is_over.ensures c.if-not-is_over.false c.place_of_key.ensures c.lower-place.ensures c.loop-number.invariant

pub returns : goal.returns
returns c = all_seen (is_over c.args.short_term c.args.bound) c.as_slice-keys.result.now c.as_slice-expiries.result.now c.loop-number.place c.loop-number.number _ c.loop-number-test.false c.loop-number.invariant
