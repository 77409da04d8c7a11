-- The test for replies that are accepted.
use Rattle.std.proofs.Common.{◌≡◌, ℕ, ◌≤◌, Bool, true, false, not, Result, Ok, Err, is_ok, OnOk, IfErr, ◌&&◌, ◌||◌, List, [], ◌∷◌, length, drop, refl, sym, ap, ◌∙◌, inl, inr}
use Rattle.std.specs.Prelude.{◌==◌, nat_le}
use Rattle.std.specs.List.{flat_map, list_all, AllByRecursion}
use Rattle.std.specs.Str.{bytes_eq}
use Rattle.std.proofs.lemmas.Bool.{and_from, and_parts, eqb-true, eq-eqb, leb-true, le-leb, false_from_ne_true}
use Rattle.std.proofs.lemmas.Slice.Eq.{bytes_eq-Decides}
use Rattle.rad_packet.specs.Packet.{Attribute, IsWellFormed, attributes_of, authenticator_of, code_of, id_of, length_of, packet_of, spelled}
use Rattle.rad_packet.specs.Signatures.{IsIntact, digest_with, message_authenticator, message_authenticators}
use Rattle.rad_packet.proofs.Intact.{own_attributes, right_intact}
use Rattle.rad_wire.specs.declared.reply_fault.ReplyFault.{ReplyFault}
use Rattle.rad_wire.specs.Accepts.{Accepts, IsFirstFault, is_reply_code}
use Rattle.rad_wire.proofs.Answering.{fault_without_accepted}
use Rattle.radclient.specs.Judging.{is_packet, vouch, is_accepted}

fit_yes : (all : List Attribute) → list_all (λ (a : Attribute). nat_le (length a.value) 253) all ≡ true → AllByRecursion (λ (a : Attribute). length a.value ≤ 253) all
fit_yes [] passes = tt
fit_yes (a ∷ all) passes =
    let parts = and_parts (nat_le (length a.value) 253) (list_all (λ (b : Attribute). nat_le (length b.value) 253) all) passes in
    (leb-true (length a.value) 253 parts.0, fit_yes all parts.1)

fit_no : (all : List Attribute) → AllByRecursion (λ (a : Attribute). length a.value ≤ 253) all → list_all (λ (a : Attribute). nat_le (length a.value) 253) all ≡ true
fit_no [] fit = refl
fit_no (a ∷ all) fit =
    and_from (nat_le (length a.value) 253) (list_all (λ (b : Attribute). nat_le (length b.value) 253) all)
    (le-leb (length a.value) 253 fit.0) (fit_no all fit.1)

packet_yes : (octets : List ℕ) → is_packet octets ≡ true → IsWellFormed octets
packet_yes octets passes =
    let spells = bytes_eq (flat_map spelled (attributes_of octets)) (drop 20 octets) in
    let fits = list_all (λ (a : Attribute). nat_le (length a.value) 253) (attributes_of octets) in
    let header = nat_le 20 (length octets) in
    let limit = nat_le (length octets) 4096 in
    let counted = length_of octets == length octets in
    let four = and_parts (header && limit && counted && spells) fits passes in
    let three = and_parts (header && limit && counted) spells four.0 in
    let two = and_parts (header && limit) counted three.0 in
    let one = and_parts header limit two.0 in (
      attributes_of octets,
      record {
        header = leb-true 20 (length octets) one.0;
        limit = leb-true (length octets) 4096 one.1;
        counted = eqb-true (length_of octets) (length octets) two.1;
        rest = record {
          joined = sym ((bytes_eq-Decides (flat_map spelled (attributes_of octets)) (drop 20 octets)).0 three.1);
          fit = fit_yes (attributes_of octets) four.1;
        };
      },
    )

packet_no : (octets : List ℕ) → IsWellFormed octets → is_packet octets ≡ true
packet_no octets well =
    let own = own_attributes octets well in
    let spells = bytes_eq (flat_map spelled (attributes_of octets)) (drop 20 octets) in
    let fits = list_all (λ (a : Attribute). nat_le (length a.value) 253) (attributes_of octets) in
    let header = nat_le 20 (length octets) in
    let limit = nat_le (length octets) 4096 in
    let counted = length_of octets == length octets in
    and_from (header && limit && counted && spells) fits
    (and_from (header && limit && counted) spells
    (and_from (header && limit) counted
    (and_from header limit (le-leb 20 (length octets) well.1.header) (le-leb (length octets) 4096 well.1.limit))
    (eq-eqb (length_of octets) (length octets) well.1.counted))
    ((bytes_eq-Decides (flat_map spelled (attributes_of octets)) (drop 20 octets)).1 (sym own.joined)))
    (fit_no (attributes_of octets) own.fit)

vouch_yes : (packet authenticator secret : List ℕ) (found : List Attribute) → message_authenticators packet ≡ found
    → vouch (message_authenticator packet authenticator secret) found ≡ true → IsIntact packet authenticator secret
vouch_yes packet authenticator secret [] are passes = inl are
vouch_yes packet authenticator secret (attribute ∷ []) are passes =
    right_intact packet authenticator secret attribute are ((bytes_eq-Decides attribute.value (message_authenticator packet authenticator secret)).0 passes)
vouch_yes packet authenticator secret (attribute ∷ second ∷ more) are passes = cc

vouch_no : (packet authenticator secret : List ℕ) → IsIntact packet authenticator secret
    → vouch (message_authenticator packet authenticator secret) (message_authenticators packet) ≡ true
vouch_no packet authenticator secret (inl none) = ap (vouch (message_authenticator packet authenticator secret)) none
vouch_no packet authenticator secret (inr one) =
    ap (vouch (message_authenticator packet authenticator secret)) one
    ∙ (bytes_eq-Decides (message_authenticator packet authenticator secret) (message_authenticator packet authenticator secret)).1 refl

when_one : (code : ℕ) (b : Bool) → (not (code == 1) || b) ≡ true → code ≡ 1 → b ≡ true
when_one code b passes is = rw is at passes

not_or : (a b : Bool) → (a ≡ true → b ≡ true) → (not a || b) ≡ true
not_or true b when = when refl
not_or false b when = refl

pub accepted_yes : (request reply secret : List ℕ) → is_accepted request reply secret ≡ true → Accepts request reply secret
unfolding is_accepted
accepted_yes request reply secret passes =
    let packet = packet_of reply in
    let asked = authenticator_of request in
    let well = is_packet packet in
    let coded = is_reply_code (code_of request) (code_of reply) in
    let same = id_of reply == id_of request in
    let signed = bytes_eq (authenticator_of packet) (digest_with packet asked secret) in
    let vouched = vouch (message_authenticator packet asked secret) (message_authenticators packet) in
    let four = and_parts (well && coded && same && signed) (not (code_of request == 1) || vouched) passes in
    let three = and_parts (well && coded && same) signed four.0 in
    let two = and_parts (well && coded) same three.0 in
    let one = and_parts well coded two.0 in
    record {
      packet = packet_yes packet one.0;
      code = one.1;
      id = eqb-true (id_of reply) (id_of request) two.1;
      signed = (bytes_eq-Decides (authenticator_of packet) (digest_with packet asked secret)).0 three.1;
      intact = λ access. vouch_yes packet asked secret (message_authenticators packet) refl (when_one (code_of request) vouched four.1 access);
    }

pub accepted_no : (request reply secret : List ℕ) → Accepts request reply secret → is_accepted request reply secret ≡ true
unfolding is_accepted
accepted_no request reply secret h =
    let packet = packet_of reply in
    let asked = authenticator_of request in
    let well = is_packet packet in
    let coded = is_reply_code (code_of request) (code_of reply) in
    let same = id_of reply == id_of request in
    let signed = bytes_eq (authenticator_of packet) (digest_with packet asked secret) in
    let vouched = vouch (message_authenticator packet asked secret) (message_authenticators packet) in
    and_from (well && coded && same && signed) (not (code_of request == 1) || vouched)
    (and_from (well && coded && same) signed
    (and_from (well && coded) same
    (and_from well coded (packet_no packet h.packet) h.code)
    (eq-eqb (id_of reply) (id_of request) h.id))
    ((bytes_eq-Decides (authenticator_of packet) (digest_with packet asked secret)).1 h.signed))
    (not_or (code_of request == 1) vouched (λ access. vouch_no packet asked secret (h.intact (eqb-true (code_of request) 1 access))))

pub refused_no : (fault : ReplyFault) (request reply secret : List ℕ) → IsFirstFault fault request reply secret → is_accepted request reply secret ≡ false
refused_no fault request reply secret first =
    false_from_ne_true (is_accepted request reply secret) (λ passes. fault_without_accepted fault request reply secret first (accepted_yes request reply secret passes))

-- what the code answers is what the test says
pub answers_test : (result : Result ℕ ReplyFault) (request reply secret : List ℕ) → OnOk result (Accepts request reply secret)
    → IfErr result (λ fault. IsFirstFault fault request reply secret) → is_ok result ≡ is_accepted request reply secret
answers_test (Ok code) request reply secret accepted refused = sym (accepted_no request reply secret accepted)
answers_test (Err fault) request reply secret accepted refused = sym (refused_no fault request reply secret refused)
