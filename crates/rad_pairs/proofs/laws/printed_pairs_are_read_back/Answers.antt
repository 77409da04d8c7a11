use Rattle.rad_pairs.proofs.ReadBack.{read_back, lines_back}
use Rattle.rad_pairs.proofs.laws.printed_pairs_are_read_back.Goals as goal

pub returns-clause-pair : goal.returns-clause-pair
returns-clause-pair c pair fits = read_back pair c.args.dict.now c.each_name_means_one_thing.ensures fits

pub returns-clause-lines : goal.returns-clause-lines
returns-clause-lines c pairs fits = lines_back pairs c.args.dict.now c.each_name_means_one_thing.ensures fits
