use Rattle.std.proofs.Common.{sym, ◌∙◌}
use Rattle.dx_accounts.proofs.Coverage.{steady_markets}
use Rattle.dx_match.proofs.Risks.{sized_read, covered_settled, risk_is, settles_surely}
use Rattle.dx_match.proofs.settling.settled_risk.Goals as goal

pub settled-requires : goal.settled-requires
settled-requires g c = sized_read (g.L.Ledger.content c.args.ledger.now) c.args.who c.account_of-account.result c.account_of-account.ensures c.requires.steady

pub risk_at-requires-clause-markets : goal.risk_at-requires-clause-markets
risk_at-requires-clause-markets g c = steady_markets (g.L.Ledger.content c.args.ledger.now) c.requires.steady

pub risk_at-requires-clause-covered : goal.risk_at-requires-clause-covered
risk_at-requires-clause-covered g c =
    covered_settled (g.L.Ledger.content c.args.ledger.now) c.args.who c.account_of-account.result c.account_of-account.ensures c.in-Some.after c.requires.steady (sym c.settled.ensures ∙ c.in-Some.is)

pub returns : goal.returns
returns g c =
    risk_is (g.L.Ledger.content c.args.ledger.now) c.args.who c.account_of-account.result c.account_of-account.ensures c.in-Some.after c.risk_at.result (sym c.settled.ensures ∙ c.in-Some.is) c.risk_at.ensures

pub unreachable-requires : goal.unreachable-requires
unreachable-requires g c = settles_surely (g.L.Ledger.content c.args.ledger.now) c.args.who c.account_of-account.result c.account_of-account.ensures c.requires.settles (sym c.settled.ensures ∙ c.in-None.is)
