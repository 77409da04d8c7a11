use Rattle.rad_args.proofs.Written.{own_again, next_again, no_value_again, end_again}
use Rattle.rad_args.proofs.laws.values_are_read_as_they_are_written.Goals as goal

pub returns-clause-own_word : goal.returns-clause-own_word
returns-clause-own_word c = own_again

pub returns-clause-next_word : goal.returns-clause-next_word
returns-clause-next_word c = next_again

pub returns-clause-no_value : goal.returns-clause-no_value
returns-clause-no_value c = no_value_again

pub returns-clause-at_end : goal.returns-clause-at_end
returns-clause-at_end c = end_again
