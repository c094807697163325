use Rattle.std.proofs.Common.{ap, ◌∙◌}
use Rattle.dx_node_spec.specs.Taking.{Taken}
use Rattle.dx_match.specs.Seen.{seen}
use Rattle.dx_match.proofs.Markets.{swept_parts}
use Rattle.dx_match.proofs.Standing.{keeps_on}
use Rattle.dx_match.proofs.sweeping.sweep_parts.Goals as goal

pub liquidate_all-requires-clause-filled : goal.liquidate_all-requires-clause-filled
liquidate_all-requires-clause-filled g c = ap (λ (t : Taken). t.filled) (c.start-taking.ensures.nothing (g.L.Ledger.content c.args.ledger.now))

pub liquidate_all-requires-clause-fills : goal.liquidate_all-requires-clause-fills
liquidate_all-requires-clause-fills g c = ap (λ (t : Taken). t.fills) (c.start-taking.ensures.nothing (g.L.Ledger.content c.args.ledger.now))

pub delever_all-requires-clause-offsets : goal.delever_all-requires-clause-offsets
delever_all-requires-clause-offsets g c = c.in_ok-liquidate_all.ensures.offsets ∙ ap (λ (t : Taken). t.offsets) (c.start-taking.ensures.nothing (g.L.Ledger.content c.args.ledger.now))

pub returns-clause-ok : goal.returns-clause-ok
returns-clause-ok g c =
    let s = g.L.Ledger.content c.args.ledger.now in
    let t = g.L.Ledger.content c.liquidate_all.new.ledger in
    let u = g.L.Ledger.content c.delever_all.new.ledger in
    swept_parts s t c.args.book.now.orders c.args.queue.now c.args.who (seen s c.start-taking.result) (seen t c.liquidate_all.new.taking) (seen u c.delever_all.new.taking) c.in_ok-liquidate_all.ensures.kept.base
    (c.start-taking.ensures.nothing s) c.in_ok-liquidate_all.ensures.ok c.in_ok-delever_all.ensures.ok

pub returns-clause-kept : goal.returns-clause-kept
returns-clause-kept g c =
    let s = g.L.Ledger.content c.args.ledger.now in
    let t = g.L.Ledger.content c.liquidate_all.new.ledger in
    let u = g.L.Ledger.content c.delever_all.new.ledger in
    keeps_on _ _ _ s t u (λ id n. n) (λ id n. n) c.in_ok-liquidate_all.ensures.kept c.in_ok-delever_all.ensures.kept
