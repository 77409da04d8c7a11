use Rattle.rad_conf.proofs.SpelledWords.{word_read, word_found}
use Rattle.rad_conf.proofs.laws.words_are_read_as_they_are_spelled.Goals as goal

pub returns-clause-read : goal.returns-clause-read
returns-clause-read c = λ growth text rest one spelled. word_read growth spelled

pub returns-clause-spelled : goal.returns-clause-spelled
returns-clause-spelled c = λ growth text rest one read. word_found growth one rest text read
