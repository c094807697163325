use Rattle.std.proofs.Common.{◌≡◌, ◌∙◌, false, refl, rules}
use Rattle.std.specs.FinMap as map
use Rattle.dx_app.specs.Runs.{is_fault}
use Rattle.dx_app.proofs.Generated.{hashed}
use Rattle.dx_app.proofs.own_run.digest_of_run.Goals as goal

pub returns : goal.returns
returns c =
    let plain : is_fault c.answer_all-status.result ≡ false = search rules in
    c.digest.ensures
    ∙ hashed c.args.seed c.args.events _ _ _ _ _ c.answer_all-status.result _ (c.answer_all-status.ensures.said map.empty c.new-keeper.ensures.rows)
    c.new.ensures.lines c.new-source.ensures.left c.new-sink.ensures.written refl plain
