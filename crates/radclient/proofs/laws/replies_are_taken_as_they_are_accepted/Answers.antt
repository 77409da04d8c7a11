use Rattle.radclient.proofs.Accepting.{accepted_no, accepted_yes}
use Rattle.radclient.proofs.laws.replies_are_taken_as_they_are_accepted.Goals as goal

pub returns : goal.returns
returns c = λ request reply secret. (accepted_yes request reply secret, accepted_no request reply secret)
