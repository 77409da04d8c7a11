use Rattle.radclient.proofs.Ranges.{words_yes}
use Rattle.radclient.proofs.laws.words_ask_within_their_ranges.Goals as goal

pub returns : goal.returns
returns c = λ words line is. words_yes words line is
