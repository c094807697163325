use Rattle.std.proofs.Common.{refl}
use Rattle.dx_app.specs.Transcript.{self_told}
use Rattle.dx_app.proofs.Generated.{summed}
use Rattle.dx_app.proofs.own_run.self_run.Goals as goal

pub returns-clause-said : goal.returns-clause-said
returns-clause-said g c = λ rows.
    c.write_done.ensures.said (self_told c.args.seed c.args.events rows)
    (summed c.args.seed c.args.events c.line_count.result c.in-Some.digest c.in-Ok.text _ rows c.line_count.ensures c.in-Some.ensures c.in-Ok.ensures c.as_slice.ensures) refl
