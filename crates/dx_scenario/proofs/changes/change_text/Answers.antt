use Rattle.dx_scenario.proofs.Rereading.{text_written, text_read}
use Rattle.dx_scenario.proofs.changes.change_text.Goals as goal

pub returns-clause-text : goal.returns-clause-text
returns-clause-text c = text_written c.args.node c.args.change.now _ c.to_string.result c.in_ok-value.ensures c.to_string.ensures.text

pub returns-clause-reads_back : goal.returns-clause-reads_back
returns-clause-reads_back c =
    text_read c.args.node c.args.change.now c.to_string.result c.has_widths.ensures
    (text_written c.args.node c.args.change.now _ c.to_string.result c.in_ok-value.ensures c.to_string.ensures.text)
