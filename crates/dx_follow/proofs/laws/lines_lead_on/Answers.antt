use Rattle.dx_follow.proofs.Leading.{lines_lead_on}
use Rattle.dx_follow.proofs.laws.lines_lead_on.Goals as goal

pub returns : goal.returns
returns c = lines_lead_on
