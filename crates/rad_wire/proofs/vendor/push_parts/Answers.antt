use Rattle.std.proofs.Common.{List, ◌++◌, ap, ◌∙◌, arith}
use Rattle.std.proofs.lemmas.List.Concat.{flat_map_single}
use Rattle.rad_value.specs.declared.edits.ListName.TheVariants.{Request}
use Rattle.rad_value.specs.declared.values.Pair.{Pair}
use Rattle.rad_value.specs.PairLists.{with_list}
use Rattle.rad_packet.specs.Packet.{Attribute}
use Rattle.rad_wire.specs.Pairs.{of_vendor, pair_of}
use Rattle.rad_wire.proofs.PairWalks.{MakesPairs-start, MakesPairs-more, MakesPairs-end, vendor_part}
use Rattle.rad_wire.proofs.vendor.push_parts.Goals as goal

pub loop-front-init : goal.loop-front-init
loop-front-init c = MakesPairs-start (vendor_part c.args.vendor c.args.dict.now) c.args.lists.now c.args.parts.now

pub loop-front-preserved : goal.loop-front-preserved
loop-front-preserved c =
    let front = c.in-Some.front in
    let part = vendor_part c.args.vendor c.args.dict.now in
    MakesPairs-more part c.args.lists.now c.loop-front.lists c.push.new.self c.args.parts.now c.loop-front.rest.now front.rest.now front.octets.now front.value.now front.kind
    (omega arith) c.loop-front.invariant c.in-Some.ensures.found
    (rw (c.in_ok-value.ensures, c.kind_of.ensures, c.from.ensures) at c.in_ok-push.ensures.ok)

pub returns : goal.returns
returns c = λ all h.
    MakesPairs-end (vendor_part c.args.vendor c.args.dict.now) c.args.lists.now c.loop-front.lists c.args.parts.now c.loop-front.rest.now c.loop-front.invariant c.in_default.ensures.none all h
    ∙ ap (λ (made : List Pair). with_list c.args.lists.now Request (c.args.lists.now.request ++ made))
    (flat_map_single (λ (p : Attribute). pair_of (of_vendor c.args.vendor p.kind) p.value c.args.dict.now) all)
