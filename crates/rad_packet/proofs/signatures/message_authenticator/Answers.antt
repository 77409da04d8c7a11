use Rattle.std.proofs.Common.{ap, ◌++◌, List, ℕ, ◌≡◌, sym, ◌∙◌, subst, append_assoc, map}
use Rattle.std.specs.List.{flat_map}
use Rattle.md5.specs.Md5.{Holds}
use Rattle.rad_packet.specs.Hmac.{xored_with}
use Rattle.rad_packet.specs.Packet.{AreAttributes, attributes_of, spelled}
use Rattle.rad_packet.specs.Signatures.{zeroed}
use Rattle.rad_packet.proofs.Intact.{own_attributes}
use Rattle.rad_packet.proofs.signatures.message_authenticator.Goals as goal

pub returns : goal.returns
returns c =
    let packet = c.args.packet.now in
    let head = c.split_at.result.0.now in
    let authenticator = c.args.authenticator.now in
    let body = flat_map spelled (map zeroed (attributes_of packet)) in
    let own = subst (λ (x : List ℕ). AreAttributes (attributes_of packet) x) (sym c.split_at-2.ensures.back) (own_attributes packet c.requires) in
    let inner = xored_with 0x36 c.key_block-key.result in
    let begun = c.update-2.ensures (inner ++ head) (c.update.ensures inner c.inner_digest-inner.ensures) in
    let fed = c.update_zeroed.ensures ((inner ++ head) ++ authenticator) (attributes_of packet) begun own in
    let joined : ((inner ++ head) ++ authenticator) ++ body ≡ inner ++ ((head ++ authenticator) ++ body) =
    ap (λ (x : List ℕ). x ++ body) (append_assoc inner head authenticator) ∙ append_assoc inner (head ++ authenticator) body in
    let held = subst (λ (x : List ℕ). Holds c.update_zeroed.new.hasher x) joined fed in
    rw (c.key_block-key.ensures, c.split_at.ensures.front) at (c.outer_digest.ensures ((head ++ authenticator) ++ body) held)
