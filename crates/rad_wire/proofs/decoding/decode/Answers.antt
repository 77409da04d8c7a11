use Rattle.std.proofs.Common.{List, drop, ap, sym, ◌∙◌}
use Rattle.std.specs.List.{flat_map}
use Rattle.rad_value.specs.PairLists.{no_pairs}
use Rattle.rad_packet.specs.Packet.{Attribute}
use Rattle.rad_wire.specs.Pairs.{attribute_pairs, pairs_of, requested}
use Rattle.rad_packet.proofs.AttributeLists.{packet_reading}
use Rattle.rad_wire.proofs.AttributePairs.{few_pairs}
use Rattle.rad_wire.proofs.PairWalks.{MakesPairs-more, MakesPairs-end}
use Rattle.rad_wire.proofs.decoding.decode.Goals as goal

pub loop-front-preserved : goal.loop-front-preserved
loop-front-preserved c =
    let front = c.in-Some.front in
    let packet = c.args.packet.now.octets.now in
    let secret = c.args.secret.now in
    let dict = c.args.dict.now in
    MakesPairs-more (attribute_pairs packet secret dict) no_pairs c.loop-front.lists c.push_attribute_pairs.new.lists (drop 20 packet) c.loop-front.rest.now front.rest.now front.octets.now front.value.now front.kind
    (few_pairs packet secret dict front.kind front.value.now) c.loop-front.invariant c.in-Some.ensures.found c.in_ok-push_attribute_pairs.ensures

pub returns : goal.returns
unfolding pairs_of
returns c =
    let packet = c.args.packet.now.octets.now in
    let pairs = attribute_pairs packet c.args.secret.now c.args.dict.now in
    let all = c.requires.well_formed.0 in
    let read = packet_reading all packet c.requires.well_formed.1 in
    MakesPairs-end pairs no_pairs c.loop-front.lists (drop 20 packet) c.loop-front.rest.now c.loop-front.invariant c.in_default.ensures.none all c.requires.well_formed.1.rest
    ∙ ap (λ (x : List Attribute). requested (flat_map pairs x)) (sym read)
