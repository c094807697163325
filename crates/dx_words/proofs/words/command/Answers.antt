use Rattle.std.proofs.Common.{◌≡◌, ◌∙◌, true, codes, ap, ap₂}
use Rattle.std.proofs.lemmas.Result.{IfOk-weaker}
use Rattle.clap.specs.Words.{App, app_of, new_app, with_rule}
use Rattle.clap.specs.Simple.{app_of_fields, on_top}
use Rattle.dx_words.specs.Asked.{job_rule, seed_rule, perpnode}
use Rattle.dx_words.proofs.Options.{same_args, same_groups, same_locals, options_added}
use Rattle.dx_words.proofs.words.command.Goals as goal

-- the command before its options
abbrev unnamed : App
unnamed = on_top (λ s. record s { no_binary_name = true }) (new_app (codes "perpnode"))

pub returns-clause-app : goal.returns-clause-app
unfolding perpnode
returns-clause-app c =
    let named : app_of c.no_binary_name.result ≡ unnamed =
    ap app_of_fields c.no_binary_name.ensures ∙ ap (on_top (λ s. record s { no_binary_name = true })) c.new.ensures.app in
    let job : app_of c.in_ok-arg.field-0 ≡ with_rule unnamed job_rule =
    c.in_ok-arg.ensures.shape c.job_arg.ensures.local ∙ ap₂ with_rule named c.job_arg.ensures.rule in
    let seed : app_of c.in_ok-arg-2.field-0 ≡ with_rule (with_rule unnamed job_rule) seed_rule =
    c.in_ok-arg-2.ensures.shape c.seed_arg.ensures.local ∙ ap₂ with_rule job c.seed_arg.ensures.rule in
    IfOk-weaker c.arg-3.result _ _ (λ command added. added.shape c.events_arg.ensures.local ∙ ap₂ with_rule seed c.events_arg.ensures.rule) c.arg-3.ensures

pub returns-clause-options : goal.returns-clause-options
returns-clause-options c =
    let bare = c.no_binary_name.result in
    let no_args = same_args c.new.result bare c.no_binary_name.ensures c.new.ensures.empty.0 in
    let no_groups = same_groups c.new.result bare c.no_binary_name.ensures c.new.ensures.empty.1 in
    let no_globals = same_locals c.new.result bare c.no_binary_name.ensures c.new.ensures.local in
    IfOk-weaker c.arg-3.result _ _
    (λ command added. options_added bare c.in_ok-arg.field-0 c.in_ok-arg-2.field-0 command c.job_arg.result c.seed_arg.result c.events_arg.result
    no_args no_groups no_globals c.in_ok-arg.ensures c.in_ok-arg-2.ensures added c.job_arg.ensures.local c.seed_arg.ensures.local c.events_arg.ensures.local
    c.job_arg.ensures.named c.job_arg.ensures.plain c.seed_arg.ensures.option c.events_arg.ensures.option)
    c.arg-3.ensures
