-- What an Access-Request carries is decoded again.
use Rattle.std.proofs.Common.{◌≡◌, ◌≢◌, ℕ, ◌≤◌, true, false, not, cond, ◌%◌, List, [], ◌∷◌, ◌++◌, length, take, drop, filter, refl, sym, ap, ◌∙◌, subst, inl, inr, arith}
use Rattle.std.specs.Prelude.{◌==◌, All}
use Rattle.std.specs.Int.{w32, to_be_bytes}
use Rattle.std.specs.List.{flat_map}
use Rattle.std.proofs.lemmas.Bool.{cases_eq, eq-eqb, le-leb, le-ltb, lt-ltb, ne_eqb}
use Rattle.std.proofs.lemmas.Grind.{flat_map-append}
use Rattle.std.proofs.lemmas.List.{append-nil, take_all}
use Rattle.std.proofs.lemmas.List.Elements.{All-head, All-tail}
use Rattle.std.proofs.lemmas.Nat.{from_be_bytes-to_be_bytes_4}
use Rattle.rad_words.specs.declared.attributes.Space.{Space}
use Rattle.rad_words.specs.declared.attributes.Space.TheVariants.{Standard, Vendor, Internal}
use Rattle.rad_words.specs.declared.attributes.AttrId.{AttrId}
use Rattle.rad_value.specs.declared.values.Pair.{Pair}
use Rattle.rad_value.specs.declared.values.Value.{Value}
use Rattle.rad_value.specs.declared.values.Value.TheVariants as values
use Rattle.rad_dict.specs.Definitions.{Definitions}
use Rattle.rad_packet.specs.Packet.{Attribute, AreAttributes, IsPacket, authenticator_of, code_of, spelled}
use Rattle.rad_packet.specs.Hiding.{IsHiddenLength, hidden, is_hidden_length}
use Rattle.rad_packet.specs.Signatures.{of_kind}
use Rattle.rad_packet.proofs.AttributeLists.{packet_reading}
use Rattle.rad_packet.proofs.HidingUndone.{hidden-has_length, hidden-undone}
use Rattle.rad_wire.specs.Pairs.{attribute_pairs, of_vendor, pair_of, pairs_of, password_of, standard, vendor_of, vendor_pairs}
use Rattle.rad_wire.specs.Values.{octets_of}
use Rattle.rad_wire.specs.Carried.{IsAsked, IsPassword}
use Rattle.rad_wire.specs.Request.{Frame, asked_for, asked_value, challenge_of, frame_of, is_signature, request_attributes, request_octets, signed_once}
use Rattle.rad_wire.proofs.Answering.{made_code, packet_authenticator, without-append}
use Rattle.rad_wire.proofs.AttributePairs.{attribute, of_others, of_password, of_vendors}
use Rattle.rad_wire.proofs.RepliesDecoded.{pair_again, without_parts}
use Rattle.rad_wire.proofs.Requests.{body_size, mac_of, request_access, request_made}
use Rattle.rad_wire.proofs.VendorParts.{parts_read}

abbrev pub access_frame : ℕ → List ℕ → List ℕ → List ℕ → Frame
access_frame id authenticator secret challenge = record {
  code = 1;
  id = id;
  authenticator = authenticator;
  secret = secret;
  challenge = challenge;
}

-- ---- one pair

abbrev pub AskedAgain : Frame → List ℕ → List ℕ → Definitions → Pair → Type 0
AskedAgain frame packet secret dict pair = flat_map (attribute_pairs packet secret dict) (asked_for frame pair) ≡ pair ∷ []

hides : (count : ℕ) → IsHiddenLength count → is_hidden_length count ≡ true
hides count h = rw (lt-ltb 0 count h.some, le-leb count 128 h.limit, eq-eqb (count % 16) 0 h.whole) refl

asked_plain : (id number : ℕ) (authenticator secret challenge octets : List ℕ) → number ≢ 2 → (number ≡ 3 → length octets ≡ 17)
    → asked_value (access_frame id authenticator secret challenge) number octets ≡ octets
asked_plain id number authenticator secret challenge octets other chap =
    rw (ne_eqb number 2 other)
    (elim (cases_eq number 3) [
      | inl is ↦ rw (eq-eqb number 3 is, eq-eqb (length octets) 17 (chap is)) refl
      | inr apart ↦ rw (ne_eqb number 3 apart) refl
    ])

-- a password that was hidden is revealed
password_again : (packet secret authenticator : List ℕ) (dict : Definitions) (id : ℕ) (challenge : List ℕ) (value : Value) → IsPassword value
    → code_of packet ≡ 1 → authenticator_of packet ≡ authenticator
    → attribute_pairs packet secret dict (attribute 2 (take 253 (asked_value (access_frame id authenticator secret challenge) 2 (octets_of value))))
    ≡ record { attr = standard 2; value = value } ∷ []
password_again packet secret authenticator dict id challenge (values.Text text) h access same =
    let sent = hidden text secret authenticator in
    let long = hidden-has_length text secret authenticator h.0 in
    let whole : take 253 sent ≡ sent = take_all 253 sent (omega (arith, long.limit)) in
    let again : password_of sent secret authenticator ≡ values.Text text =
    rw (hides (length sent) long) (ap values.Text (hidden-undone text secret authenticator h.1)) in
    ap (λ (octets : List ℕ). attribute_pairs packet secret dict (attribute 2 octets)) whole
    ∙ of_password packet secret dict 2 sent refl access
    ∙ ap (λ (a : List ℕ). record { attr = standard 2; value = password_of sent secret a } ∷ []) same
    ∙ ap (λ (v : Value). record { attr = standard 2; value = v } ∷ []) again
password_again packet secret authenticator dict id challenge (values.Octets octets) h access same = absurd h
password_again packet secret authenticator dict id challenge (values.Addr address) h access same = absurd h
password_again packet secret authenticator dict id challenge (values.Number number) h access same = absurd h
password_again packet secret authenticator dict id challenge (values.Date seconds) h access same = absurd h
password_again packet secret authenticator dict id challenge (values.Byte number) h access same = absurd h
password_again packet secret authenticator dict id challenge (values.Short number) h access same = absurd h

other_number : (number wanted : ℕ) → number ≢ wanted → standard number ≢ standard wanted
other_number number wanted other same = other (ap (λ (attr : AttrId). attr.number) same)

standard_asked : (packet secret authenticator : List ℕ) (dict : Definitions) (id : ℕ) (challenge : List ℕ) (number : ℕ) (value : Value)
    → IsAsked dict (record { attr = standard number; value = value }) → code_of packet ≡ 1 → authenticator_of packet ≡ authenticator
    → AskedAgain (access_frame id authenticator secret challenge) packet secret dict (record { attr = standard number; value = value })
unfolding asked_for
standard_asked packet secret authenticator dict id challenge number value h access same =
    let frame = access_frame id authenticator secret challenge in
    let octets = octets_of value in
    let f = attribute_pairs packet secret dict in
    let a = attribute number (take 253 (asked_value frame number octets)) in
    let found : f a ≡ record { attr = standard number; value = value } ∷ [] =
    elim (cases_eq number 2) [
      | inl is ↦
          ap (λ (n : ℕ). f (attribute n (take 253 (asked_value frame n octets)))) is
          ∙ password_again packet secret authenticator dict id challenge value (h.password (ap standard is)) access same
          ∙ ap (λ (n : ℕ). record { attr = standard n; value = value } ∷ []) (sym is)
      | inr other ↦
          let plain : take 253 (asked_value frame number octets) ≡ octets =
          ap (take 253) (asked_plain id number authenticator secret challenge octets other (λ is. h.chap (ap standard is))) ∙ take_all 253 octets h.uncut in
          ap (λ (v : List ℕ). f (attribute number v)) plain
          ∙ elim (cases_eq number 26) [
            | inl is ↦
                of_vendors packet secret dict number octets is
                ∙ without_parts octets value dict (h.plain (ap standard is)) refl
                ∙ ap (λ (n : ℕ). record { attr = standard n; value = value } ∷ []) (sym is)
            | inr apart ↦
                of_others packet secret dict number octets apart (inl (ne_eqb number 2 other))
                ∙ ap (λ (p : Pair). p ∷ []) (pair_again (standard number) value octets dict h.range (h.kind (other_number number 2 other)) refl)
          ]
    ] in
    rw (le-ltb 255 number h.number) (append-nil (f a) ∙ found)

vendor_asked : (frame : Frame) (packet secret : List ℕ) (dict : Definitions) (vendor number : ℕ) (value : Value)
    → IsAsked dict (record { attr = of_vendor vendor number; value = value })
    → AskedAgain frame packet secret dict (record { attr = of_vendor vendor number; value = value })
unfolding asked_for
vendor_asked frame packet secret dict vendor number value h =
    let octets = take 247 (octets_of value) in
    let same : octets ≡ octets_of value = take_all 247 (octets_of value) h.uncut.0 in
    let part = attribute number octets in
    let inside = to_be_bytes w32 vendor ++ spelled part in
    let a = attribute 26 inside in
    let f = attribute_pairs packet secret dict in
    let parts : AreAttributes (part ∷ []) (drop 4 inside) = record {
      joined = sym (append-nil (spelled part));
      fit = (omega (arith, ap length same, h.uncut.0), tt);
    } in
    let read = parts_read (part ∷ []) inside parts in
    let vendor_is : vendor_of inside ≡ vendor = from_be_bytes-to_be_bytes_4 vendor h.uncut.1 in
    let kind = h.kind (λ e. let spaces : Vendor vendor ≡ Standard = ap (λ (attr : AttrId). attr.space) e in cc) in
    let found : f a ≡ record { attr = of_vendor vendor number; value = value } ∷ [] =
    of_vendors packet secret dict 26 inside refl
    ∙ ap (vendor_pairs inside dict) read
    ∙ ap (λ (v : ℕ). pair_of (of_vendor v number) octets dict ∷ []) vendor_is
    ∙ ap (λ (p : Pair). p ∷ []) (pair_again (of_vendor vendor number) value octets dict h.range kind same) in
    rw (le-ltb 255 number h.number) (append-nil (f a) ∙ found)

one_asked : (packet secret authenticator : List ℕ) (dict : Definitions) (id : ℕ) (challenge : List ℕ) (space : Space) (number : ℕ) (value : Value)
    → IsAsked dict (record { attr = record { space = space; number = number }; value = value }) → code_of packet ≡ 1 → authenticator_of packet ≡ authenticator
    → AskedAgain (access_frame id authenticator secret challenge) packet secret dict (record { attr = record { space = space; number = number }; value = value })
one_asked packet secret authenticator dict id challenge Standard number value h access same =
    standard_asked packet secret authenticator dict id challenge number value h access same
one_asked packet secret authenticator dict id challenge (Vendor vendor) number value h access same =
    vendor_asked (access_frame id authenticator secret challenge) packet secret dict vendor number value h
one_asked packet secret authenticator dict id challenge Internal number value h access same = absurd h.uncut

all_asked : (packet secret authenticator : List ℕ) (dict : Definitions) (id : ℕ) (challenge : List ℕ) (pairs : List Pair) → All (IsAsked dict) pairs
    → code_of packet ≡ 1 → authenticator_of packet ≡ authenticator
    → flat_map (attribute_pairs packet secret dict) (flat_map (asked_for (access_frame id authenticator secret challenge)) pairs) ≡ pairs
all_asked packet secret authenticator dict id challenge [] h access same = refl
all_asked packet secret authenticator dict id challenge (pair ∷ pairs) h access same =
    let frame = access_frame id authenticator secret challenge in
    let f = attribute_pairs packet secret dict in
    let first = one_asked packet secret authenticator dict id challenge pair.attr.space pair.attr.number pair.value (All-head (IsAsked dict) pair pairs h) access same in
    flat_map-append f (asked_for frame pair) (flat_map (asked_for frame) pairs)
    ∙ ap (λ (x : List Pair). x ++ flat_map f (flat_map (asked_for frame) pairs)) first
    ∙ ap (λ (x : List Pair). pair ∷ x) (all_asked packet secret authenticator dict id challenge pairs (All-tail (IsAsked dict) pair pairs h) access same)

-- ---- no Message-Authenticator

asked_without : (frame : Frame) (dict : Definitions) (space : Space) (number : ℕ) (value : Value)
    → IsAsked dict (record { attr = record { space = space; number = number }; value = value })
    → of_kind 80 (asked_for frame (record { attr = record { space = space; number = number }; value = value })) ≡ []
unfolding asked_for
asked_without frame dict Standard number value h =
    let other : number ≢ 80 = λ is. h.other (ap standard is) in
    rw (le-ltb 255 number h.number, ne_eqb number 80 other) refl
asked_without frame dict (Vendor vendor) number value h = rw (le-ltb 255 number h.number) refl
asked_without frame dict Internal number value h = refl

all_without : (frame : Frame) (dict : Definitions) (pairs : List Pair) → All (IsAsked dict) pairs
    → of_kind 80 (flat_map (asked_for frame) pairs) ≡ []
all_without frame dict [] h = refl
all_without frame dict (pair ∷ pairs) h =
    without-append (asked_for frame pair) (flat_map (asked_for frame) pairs)
    (asked_without frame dict pair.attr.space pair.attr.number pair.value (All-head (IsAsked dict) pair pairs h))
    (all_without frame dict pairs (All-tail (IsAsked dict) pair pairs h))

once_without : (value : List ℕ) (attributes : List Attribute) → of_kind 80 attributes ≡ [] → signed_once 1 value attributes ≡ attributes
once_without value [] none = refl
once_without value (a ∷ attributes) none =
    let own : Attribute = record { kind = 80; value = value } in
    let others = filter (λ (x : Attribute). not (is_signature 1 x)) attributes in
    (elim (a.kind == 80) as (λ b. cond b (a ∷ of_kind 80 attributes) (of_kind 80 attributes) ≡ [] → cond b (own ∷ others) (a ∷ signed_once 1 value attributes) ≡ a ∷ attributes) [
      | true ↦ λ h. cc
      | false ↦ λ h. ap (λ (list : List Attribute). a ∷ list) (once_without value attributes h)
    ]) none

-- ---- the request

pub request_again : (id : ℕ) (authenticator : List ℕ) (pairs : List Pair) (secret : List ℕ) (dict : Definitions) → length authenticator ≡ 16
    → length (request_octets 1 id authenticator pairs secret) ≤ 4096 → All (IsAsked dict) pairs
    → pairs_of (request_octets 1 id authenticator pairs secret) secret dict ≡ pairs
unfolding pairs_of
request_again id authenticator pairs secret dict long limit asked =
    let challenge = challenge_of pairs authenticator in
    let frame = frame_of 1 id authenticator pairs secret in
    let mac = mac_of frame pairs in
    let request = request_octets 1 id authenticator pairs secret in
    let f = attribute_pairs request secret dict in
    let made = request_made frame pairs long in
    let short : body_size frame pairs ≤ 4076 = omega (arith, limit, made.long) in
    let packet : IsPacket (request_attributes frame pairs mac) request = made.packet short in
    let same : authenticator_of request ≡ authenticator =
    subst (λ (octets : List ℕ). authenticator_of octets ≡ authenticator) (request_access frame pairs refl)
    (packet_authenticator 1 id authenticator (request_attributes frame pairs mac) long) in
    ap (flat_map f) (packet_reading (request_attributes frame pairs mac) request packet)
    ∙ ap (flat_map f) (once_without mac (flat_map (asked_for frame) pairs) (all_without frame dict pairs asked))
    ∙ all_asked request secret authenticator dict id challenge pairs asked (made_code 1 id authenticator pairs secret) same
