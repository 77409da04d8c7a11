use Rattle.std.proofs.Common.{◌≡◌, ◌<◌, length, rules}
use Rattle.rad_packet.proofs.HiddenBlocks.{Reveals-more, Reveals-end}
use Rattle.rad_packet.proofs.block.reveal_blocks.Goals as goal

pub loop-rest-preserved : goal.loop-rest-preserved
loop-rest-preserved c =
    let some : 0 < length c.loop-rest.rest.now = search rules in
    rw (c.block_digest-digest.ensures, c.in_ok-extend_from_slice.ensures.items, c.xored_block.ensures, c.split_at.ensures.front, c.split_at.ensures.back)
    (Reveals-more c.args.secret.now c.args.first c.args.hidden.now c.loop-rest.digest c.loop-rest.rest.now c.loop-rest.revealed.items some c.loop-rest.invariant)

pub returns : goal.returns
returns c =
    let none : length c.loop-rest.rest.now ≡ 0 = search rules in
    Reveals-end c.args.secret.now c.args.first c.args.hidden.now c.loop-rest.digest c.loop-rest.rest.now c.loop-rest.revealed.items none c.loop-rest.invariant
