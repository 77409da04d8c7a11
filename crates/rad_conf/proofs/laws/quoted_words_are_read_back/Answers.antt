use Rattle.rad_conf.proofs.Quoted.{reads_single, reads_double}
use Rattle.rad_conf.proofs.laws.quoted_words_are_read_back.Goals as goal

pub returns-clause-single : goal.returns-clause-single
returns-clause-single c = reads_single

pub returns-clause-double : goal.returns-clause-double
returns-clause-double c = reads_double
