use Rattle.std.proofs.Common.{arith, rules}
use Rattle.rad_packet.proofs.AttributeLists.{is_split}
use Rattle.rad_packet.proofs.attributes.split_front.Goals as goal

pub returns-clause-found : goal.returns-clause-found
returns-clause-found c =
    let octets = c.args.octets.now in
    rw (c.split_at-2.ensures.back, c.split_at.ensures.front, c.split_at.ensures.back)
    (is_split octets c.from-size.result (search rules) (omega (arith, c.type_inv.octets 1)) (omega arith) (omega arith))
