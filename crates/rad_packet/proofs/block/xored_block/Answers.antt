use Rattle.std.proofs.Common.{arith, ◌<◌, ◌≢◌, length, below_more, get_or-set_other, get_or-set_same}
use Rattle.std.proofs.lemmas.List.{length-set}
use Rattle.rad_packet.proofs.HiddenBlocks.{is_xored}
use Rattle.rad_packet.proofs.block.xored_block.Goals as goal

pub loop-i-preserved : goal.loop-i-preserved
loop-i-preserved c =
    let lt : c.loop-i.i < length c.loop-i.octets = omega (arith, c.loop-i.invariant.long) in
    record {
      long = rw length-set c.loop-i.invariant.long;
      each = below_more _ _
          (λ k h. let ne : k ≢ c.loop-i.i = omega arith in rw get_or-set_other (c.loop-i.invariant.each k h))
          (rw get_or-set_same);
    }

pub returns : goal.returns
returns c =
    is_xored c.args.block.now c.args.digest.now c.loop-i.octets (omega (arith, c.loop-i.invariant.long)) (omega arith)
    (λ i h. c.loop-i.invariant.each i (omega arith))
