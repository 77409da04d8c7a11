use Rattle.rad_text.proofs.AddressLaws.{address_again}
use Rattle.rad_text.proofs.laws.addresses_are_read_back.Goals as goal

pub returns : goal.returns
returns c = λ address lt. address_again address lt
