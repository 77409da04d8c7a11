use Rattle.std.proofs.Common.{ℕ, ◌<◌, length, take, drop, map, get_or, sym, ap, arith}
use Rattle.std.specs.Prelude.{bit_xor}
use Rattle.std.proofs.lemmas.Grind.{get_or_default_zero}
use Rattle.std.proofs.lemmas.List.{length-append, length-map, length-take, length-drop}
use Rattle.std.proofs.lemmas.List.Edits.{map_over_more}
use Rattle.rad_packet.proofs.hmac.xored_with.Goals as goal

pub loop-i-preserved : goal.loop-i-preserved
loop-i-preserved c =
    let f : ℕ → ℕ = λ (octet : ℕ). bit_xor octet c.args.pad in
    let block = c.args.block.now in
    let octets = c.loop-i.octets in
    let i = c.loop-i.i in
    let within : i < length block = omega (arith, c.loop-i-test.true, c.told-block) in
    let long : i < length octets =
    omega (arith, within, ap length c.loop-i.invariant, length-append (map f (take i block)) (drop i block), length-map (take i block) f, length-take i block, length-drop i block) in
    map_over_more f block octets i (get_or octets i 0) within c.loop-i.invariant
    (sym (get_or_default_zero octets i (get_or octets i 0) long))
