use Rattle.std.specs.Prelude.{◌⊎◌, ◌==◌}
use Rattle.std.proofs.Common.{◌≡◌, false, [], ◌∷◌, sym, ◌∙◌, inl, inr}
use Rattle.std.proofs.lemmas.Bool.{ne_eqb}
use Rattle.rad_words.specs.declared.attributes.AttrId.{AttrId}
use Rattle.rad_words.specs.declared.attributes.Space.TheVariants.{Standard}
use Rattle.rad_packet.specs.Packet.{code_of}
use Rattle.rad_wire.specs.Pairs.{attribute_pairs}
use Rattle.rad_wire.proofs.AttributePairs.{attribute, of_vendors, of_password, of_others}
use Rattle.rad_wire.proofs.decoding.push_attribute_pairs.Goals as goal
use Rattle.rad_wire.proofs.decoding.push_attribute_pairs.Goals.{
  then-front-eq-USER_PASSWORD+then-packet-eq-ACCESS_REQUEST+in_ok-value,
  else-front-eq-USER_PASSWORD+in_ok-value-2,
  else-front-eq-USER_PASSWORD-via-then-front-eq-USER_PASSWORD+else-packet-eq-ACCESS_REQUEST,
  else-front-eq-USER_PASSWORD-via-else-front-eq-USER_PASSWORD,
}

pub returns-then-front-eq-VENDOR_SPECIFIC : goal.returns-then-front-eq-VENDOR_SPECIFIC
returns-then-front-eq-VENDOR_SPECIFIC c =
    let front = c.args.front.now in
    rw (of_vendors c.args.packet.now.octets.now c.args.secret.now c.args.dict.now front.kind front.value.now c.if-front-eq-VENDOR_SPECIFIC.true)
    c.push_vendor_pairs.ensures

pub returns : goal.returns
returns c =
    let packet = c.args.packet.now.octets.now in
    let secret = c.args.secret.now in
    let dict = c.args.dict.now in
    let kind = c.args.front.now.kind in
    let value = c.args.front.now.value.now in
    let other = c.if-front-eq-VENDOR_SPECIFIC.false in
    let attr : AttrId = record { space = Standard; number = c.from.result } in
    let made : attribute_pairs packet secret dict (attribute kind value) ≡ record { attr = attr; value = c.if-front-eq-USER_PASSWORD.value } ∷ [] =
    elim c.if-front-eq-USER_PASSWORD.branch [
      | then-front-eq-USER_PASSWORD+then-packet-eq-ACCESS_REQUEST+in_ok-value w ↦
          let found = of_password packet secret dict kind value w.if-front-eq-USER_PASSWORD.true (sym c.requires.checked.code ∙ w.if-packet-eq-ACCESS_REQUEST.true) in
          rw (w.value-is, w.in_ok-value.ensures, w.authenticator.ensures.value, c.from.ensures) found
      | else-front-eq-USER_PASSWORD+in_ok-value-2 w ↦
          let plain : ((kind == 2) ≡ false) ⊎ ((code_of packet == 1) ≡ false) =
          elim w.else-front-eq-USER_PASSWORD.branch [
            | else-front-eq-USER_PASSWORD-via-then-front-eq-USER_PASSWORD+else-packet-eq-ACCESS_REQUEST w' ↦
                inr (ne_eqb (code_of packet) 1 (λ is. w'.if-packet-eq-ACCESS_REQUEST.false (c.requires.checked.code ∙ is)))
            | else-front-eq-USER_PASSWORD-via-else-front-eq-USER_PASSWORD w' ↦ inl (ne_eqb kind 2 w'.if-front-eq-USER_PASSWORD.false)
          ] in
          rw (w.value-is, w.in_ok-value-2.ensures, w.kind_of.ensures, c.from.ensures) (of_others packet secret dict kind value other plain)
    ] in
    rw made c.push.ensures.ok
