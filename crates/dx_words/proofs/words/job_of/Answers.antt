use Rattle.std.proofs.Common.{◌≡◌, ◌∙◌, Some, None, rules}
use Rattle.clap.specs.Words.{found_of}
use Rattle.dx_words.proofs.Asking.{job_none, job_some}
use Rattle.dx_words.proofs.words.job_of.Goals as goal

pub returns-in_err-get_str : goal.returns-in_err-get_str
returns-in_err-get_str c =
    let none : c.get_str.result ≡ None = search rules in
    let left : c.from_residual.result ≡ None = search rules in
    left ∙ job_none (found_of c.args.matches.now) c.get_str.result c.get_str.ensures none

pub returns : goal.returns
returns c =
    let some : c.get_str.result ≡ Some c.in_ok-get_str.field-0 = search rules in
    c.job_named.ensures ∙ job_some (found_of c.args.matches.now) c.get_str.result c.in_ok-get_str.field-0 c.get_str.ensures some
