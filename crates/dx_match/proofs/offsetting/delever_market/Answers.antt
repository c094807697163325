use Rattle.std.proofs.Common.{refl}
use Rattle.dx_accounts.proofs.Settled.{then_ok}
use Rattle.dx_match.proofs.Offsets.{market_offset, few_done, few_offsets}
use Rattle.dx_match.proofs.offsetting.delever_market.Goals as goal

pub add_offsets-requires : goal.add_offsets-requires
add_offsets-requires g c =
    let s = g.L.Ledger.content c.args.ledger.now in
    few_done s c.args.market _ c.in_ok-others.others c.as_slice.result.now c.offset_all.new.offsets.done c.new.result c.args.taking.now.offsets c.requires.steady c.in_ok-others.ensures c.as_slice.ensures c.new.ensures c.in_ok-offset_all.ensures.count c.requires.offsets

pub returns-clause-ok : goal.returns-clause-ok
returns-clause-ok g c =
    let s = g.L.Ledger.content c.args.ledger.now in
    let t = g.L.Ledger.content c.offset_all.new.ledger in
    then_ok _ _ c.add_offsets.result
    (λ e. market_offset c.args.who c.args.market s t c.args.taking.now _ c.in_ok-others.others c.as_slice.result.now _ c.offset_all.new.offsets c.is_long.result c.is_long.ensures c.in_ok-others.ensures c.as_slice.ensures c.new.ensures refl c.in_ok-offset_all.ensures.ok e)
    (c.add_offsets.ensures.ok s t)

pub returns-clause-offsets : goal.returns-clause-offsets
returns-clause-offsets g c =
    let s = g.L.Ledger.content c.args.ledger.now in
    then_ok _ _ c.add_offsets.result
    (λ e. few_offsets s c.args.market _ c.in_ok-others.others c.as_slice.result.now c.offset_all.new.offsets.done c.new.result c.args.taking.now.offsets _ c.requires.steady c.in_ok-others.ensures c.as_slice.ensures c.new.ensures c.in_ok-offset_all.ensures.count e)
    c.add_offsets.ensures.count
