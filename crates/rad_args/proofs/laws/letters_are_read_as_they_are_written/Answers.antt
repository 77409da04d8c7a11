use Rattle.rad_args.proofs.Written.{letter_again, joined_again, plain_again, behind_again, unknown_again}
use Rattle.rad_args.proofs.laws.letters_are_read_as_they_are_written.Goals as goal

pub returns-clause-letter : goal.returns-clause-letter
returns-clause-letter c = letter_again

pub returns-clause-joined : goal.returns-clause-joined
returns-clause-joined c = joined_again

pub returns-clause-plain : goal.returns-clause-plain
returns-clause-plain c = plain_again

pub returns-clause-behind : goal.returns-clause-behind
returns-clause-behind c = behind_again

pub returns-clause-unknown : goal.returns-clause-unknown
returns-clause-unknown c = unknown_again
