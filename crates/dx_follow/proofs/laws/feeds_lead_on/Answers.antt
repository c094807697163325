use Rattle.dx_follow.proofs.Leading.{feeds_lead_on}
use Rattle.dx_follow.proofs.laws.feeds_lead_on.Goals as goal

pub returns : goal.returns
returns c = feeds_lead_on
