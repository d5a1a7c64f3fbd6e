use Rattle.conncheck.proofs.OneReply.{one_reply}
use Rattle.conncheck.proofs.laws.replies_are_one.Goals as goal

pub returns : goal.returns
returns c = one_reply
