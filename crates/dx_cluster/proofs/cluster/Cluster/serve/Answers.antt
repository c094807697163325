use Rattle.std.proofs.Common.{◌≡◌, sym, subst, IfErr}
use Rattle.std.proofs.lemmas.Result.{err_from_is_err_and}
use Rattle.dx_scenario.specs.Events.{word_of}
use Rattle.dx_print.specs.declared.words.Word.{Word}
use Rattle.dx_cluster.specs.declared.fault.StartFault.{StartFault}
use Rattle.dx_cluster.specs.World.{acted, step, HasStepped, Breaks}
use Rattle.dx_cluster.proofs.Worlds.{has_stepped, breaks_at}
use Rattle.dx_cluster.proofs.Beginning.{err_told, err_follows}
use Rattle.dx_cluster.proofs.cluster.Cluster.serve.Goals as goal

pub returns-in_err-answer-clause-breaks : goal.returns-in_err-answer-clause-breaks
returns-in_err-answer-clause-breaks g c =
    let rows = g.K.Keeper.rows c.answer.new.keeper in
    let why : StartFault = c.in_err-answer.field-0.0 in
    let p = err_from_is_err_and c.from_residual.result c.from_residual.ensures.1 in
    let h : IfErr c.from_residual.result (λ fault. fault ≡ why) = err_told c.from_residual.result p.0 (λ fault. fault ≡ why) p.1 p.2 in
    err_follows _ _ c.from_residual.result
    (λ fault same w st k. breaks_at w (word_of c.args.event) (acted w c.args.event) rows fault (subst (Breaks w (acted w c.args.event) rows) (sym same) (c.in_err-answer.ensures.breaks w st k))) h

pub returns-clause-done : goal.returns-clause-done
returns-clause-done g c = λ w st k.
    let rows = g.K.Keeper.rows c.answer.new.keeper in
    subst (λ (word : Word). HasStepped (step w c.args.event) c.answer.new.self (record { word = word; answer = c.in_ok-answer.answer }) rows) (sym c.word-word.ensures)
    (has_stepped (acted w c.args.event) (word_of c.args.event) c.answer.new.self c.in_ok-answer.answer rows (c.in_ok-answer.ensures.done w st k))
