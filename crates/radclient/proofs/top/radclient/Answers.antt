use Rattle.radclient.proofs.top.radclient.Goals as goal

pub returns : goal.returns
returns g c = record { ends = (c.run_words.result, c.number.ensures, c.run_words.ensures) }
