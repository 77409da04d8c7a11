use Rattle.rad_access.proofs.Rejected.{rejected_none, refused_same}
use Rattle.rad_access.proofs.reject_laws.rejected_replies_have_messages_and_what_reject_adds.Goals as goal

pub returns : goal.returns
returns c = record {
  others = λ policies dict server begun attr other never is. rejected_none policies dict server attr other never begun is;
  nothing = λ policies dict server rejected reply same. refused_same policies dict server rejected reply same;
}
