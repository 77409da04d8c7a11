use Rattle.std.proofs.Common.{refl, arith}
use Rattle.std.proofs.lemmas.List.{get_or-replicate}
use Rattle.rad_packet.proofs.KeyBlocks.{is_zero_filled}
use Rattle.rad_packet.proofs.hmac.zero_filled.Goals as goal

pub loop-i-init : goal.loop-i-init
loop-i-init c = record {
  long = refl;
  front = λ k h. omega (arith, h);
  back = λ k low high. get_or-replicate 64 k 0 0 high;
}

pub returns : goal.returns
returns c =
    is_zero_filled c.args.octets.now c.loop-i.block c.requires c.loop-i.invariant.long
    (λ i h. c.loop-i.invariant.front i (omega (arith, h, c.loop-i-test.false)))
    (λ i low high. c.loop-i.invariant.back i (omega (arith, low, c.loop-i.auto.i-end)) high)
