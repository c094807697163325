use Rattle.std.proofs.Common.{ℕ, List, Some, refl, sym, subst, ◌∙◌, arith}
use Rattle.dx_app.specs.Transcript.{scenario}
use Rattle.dx_app.specs.Causes.{IsGoodScenario, IsWhole}
use Rattle.scenarios.proofs.gathered.answer_surely.Goals as goal

pub returns : goal.returns
returns c = λ good.
    let whole = c.replay_all.ensures.complete c.args.keeper.now refl (λ input is. subst (IsGoodScenario c.args.keeper.now) (sym (is ∙ c.new-source.ensures.bytes)) good)
    (λ rose. omega (arith, rose)) (λ rose. omega (arith, rose)) (λ rose. omega (arith, rose)) in
    subst (λ (items : List ℕ). IsWhole (scenario c.args.keeper.now) (Some items) (Some c.args.sink.now) (Some c.replay_all.new.sink) (Some c.replay_all.new.keeper) c.replay_all.result) c.new-source.ensures.bytes whole
