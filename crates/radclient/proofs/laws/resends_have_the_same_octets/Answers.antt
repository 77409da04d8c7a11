use Rattle.radclient.proofs.Resends.{tried_same}
use Rattle.radclient.proofs.laws.resends_have_the_same_octets.Goals as goal

pub returns : goal.returns
returns c = λ asked request lines tries ending come. tried_same asked request lines tries ending come.taken come.heard come.words
