use Rattle.std.proofs.lemmas.Result.{MatchResult-weaker}
use Rattle.dx_app.proofs.program.greet.Goals as goal

pub returns-clause-fails : goal.returns-clause-fails
returns-clause-fails g c = MatchResult-weaker c.write_text.result c.write_text.ensures.written (λ _ _. tt) (λ s front. front.1)
