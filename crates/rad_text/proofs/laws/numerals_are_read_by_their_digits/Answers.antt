use Rattle.rad_text.proofs.NumeralLaws.{numeral_read}
use Rattle.rad_text.proofs.laws.numerals_are_read_by_their_digits.Goals as goal

pub returns : goal.returns
returns c = λ radix text long all. numeral_read radix text long all
