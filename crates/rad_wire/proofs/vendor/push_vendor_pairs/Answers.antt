use Rattle.std.proofs.Common.{◌≡◌, ◌+◌, ◌++◌, ℕ, List, [], drop, map, sym, ap, ◌∙◌, arith}
use Rattle.std.specs.Int.{w32, from_be_bytes}
use Rattle.std.proofs.lemmas.List.{get_or-drop}
use Rattle.std.proofs.lemmas.Result.{on_ok_weaker}
use Rattle.rad_value.specs.declared.edits.ListName.TheVariants.{Request}
use Rattle.rad_value.specs.declared.values.Pair.{Pair}
use Rattle.rad_value.specs.PairLists.{with_list}
use Rattle.rad_packet.specs.Packet.{Attribute, AreAttributes}
use Rattle.rad_wire.specs.Pairs.{of_vendor, pair_of, vendor_of, vendor_parts}
use Rattle.rad_wire.proofs.VendorParts.{AreOctets, no_parts_read, nothing_behind, pairs_of_parts}
use Rattle.rad_wire.proofs.vendor.push_vendor_pairs.Goals as goal
use Rattle.rad_wire.proofs.vendor.push_vendor_pairs.Goals.{then-octets-gt-VENDOR_ID+else-are_attributes, else-octets-gt-VENDOR_ID}

pub returns-then-are_attributes : goal.returns-then-are_attributes
returns-then-are_attributes c =
    let octets = c.args.octets.now in
    let lists = c.args.lists.now in
    let dict = c.args.dict.now in
    let vendor : c.number_of.result ≡ vendor_of octets = c.number_of.ensures ∙ ap (from_be_bytes w32) c.split_at.ensures.front in
    let found = c.if-are_attributes.ensures.yes in
    let parts : AreAttributes found.0 (drop 4 octets) = rw c.split_at.ensures.back at found.1 in
    let pairs_by : ℕ → List Pair = λ vendor. map (λ (p : Attribute). pair_of (of_vendor vendor p.kind) p.value dict) found.0 in
    on_ok_weaker c.push_parts.result (λ made.
    made found.0 found.1
    ∙ ap (λ (pairs : List Pair). with_list lists Request (lists.request ++ pairs))
    (ap pairs_by vendor ∙ sym (pairs_of_parts octets dict found.0 parts c.if-octets-gt-VENDOR_ID.true))) c.push_parts.ensures

pub returns : goal.returns
returns c =
    let octets = c.args.octets.now in
    let below : AreOctets (drop 4 octets) = λ i. omega (arith, get_or-drop 4 octets i 0, c.type_inv.octets (4 + i)) in
    let none : vendor_parts octets ≡ [] =
    elim c.if-octets-gt-VENDOR_ID.branch [
      | then-octets-gt-VENDOR_ID+else-are_attributes w ↦
          no_parts_read octets below (rw w.split_at.ensures.back at w.if-are_attributes.ensures.no)
      | else-octets-gt-VENDOR_ID w ↦ nothing_behind octets w.if-octets-gt-VENDOR_ID.false
    ] in
    rw none (rw c.in_ok-of.ensures at c.push.ensures.ok)
