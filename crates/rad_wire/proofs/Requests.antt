-- Requests: a header, and the attributes of pairs, signed.
use Rattle.std.proofs.Common.{◌≡◌, ℕ, ◌+◌, ◌≤◌, Bool, true, false, not, cond, List, [], ◌∷◌, length, take, filter, replicate, refl, arith}
use Rattle.std.specs.Prelude.{◌==◌, nat_lt}
use Rattle.std.specs.List.{flat_map, AllByRecursion}
use Rattle.std.proofs.lemmas.Bool.{eq-eqb, ne_eqb}
use Rattle.std.proofs.lemmas.List.{drop_at, length-append, length-take}
use Rattle.std.proofs.lemmas.List.Elements.{All-filter, All-from_recursion, recursion_from_All}
use Rattle.md5.proofs.StandardFacts.{length-md5}
use Rattle.rad_words.specs.declared.attributes.Space.{Space}
use Rattle.rad_words.specs.declared.attributes.Space.TheVariants.{Standard, Vendor, Internal}
use Rattle.rad_value.specs.declared.values.Pair.{Pair}
use Rattle.rad_packet.specs.Packet.{Attribute, IsPacket, spelled}
use Rattle.rad_packet.specs.Signatures.{accounting_authenticator, message_authenticator}
use Rattle.rad_packet.proofs.Intact.{right_length}
use Rattle.rad_wire.specs.Request.{Frame, asked_attributes, asked_for, asked_value, is_signature, packet_octets, request_attributes, request_of, signed_once, unsigned_request}
use Rattle.rad_wire.specs.Values.{octets_of}
use Rattle.rad_wire.proofs.Replies.{Fits, joined_fit, one_fits, sent_fit}

-- ---- each attribute fits

asked_fit : (frame : Frame) (space : Space) (number : ℕ) (octets : List ℕ) → AllByRecursion Fits (asked_attributes frame space number octets)
asked_fit frame Standard number octets =
    one_fits (nat_lt 255 number) (record { kind = number; value = take 253 (asked_value frame number octets) })
    (omega (arith, length-take 253 (asked_value frame number octets)))
asked_fit frame (Vendor vendor) number octets = sent_fit (Vendor vendor) number octets
asked_fit frame Internal number octets = tt

all_asked_fit : (frame : Frame) (pairs : List Pair) → AllByRecursion Fits (flat_map (asked_for frame) pairs)
unfolding asked_for
all_asked_fit frame [] = tt
all_asked_fit frame (pair ∷ pairs) =
    joined_fit (asked_for frame pair) (flat_map (asked_for frame) pairs)
    (asked_fit frame pair.attr.space pair.attr.number (octets_of pair.value)) (all_asked_fit frame pairs)

filter_fit : (q : Attribute → Bool) (attributes : List Attribute) → AllByRecursion Fits attributes → AllByRecursion Fits (filter q attributes)
filter_fit q attributes h = recursion_from_All Fits _ (All-filter q Fits attributes (All-from_recursion Fits attributes h))

once_fit : (code : ℕ) (value : List ℕ) (attributes : List Attribute) → length value ≡ 16 → AllByRecursion Fits attributes
    → AllByRecursion Fits (signed_once code value attributes)
once_fit code value [] long h = tt
once_fit code value (a ∷ attributes) long h =
    let q : Attribute → Bool = λ (x : Attribute). not (is_signature code x) in
    elim (is_signature code a) as (λ b. AllByRecursion Fits (cond b (record { kind = 80; value = value } ∷ filter q attributes) (a ∷ signed_once code value attributes))) [
      | true ↦ (omega (arith, long), filter_fit q attributes h.1)
      | false ↦ (h.0, once_fit code value attributes long h.1)
    ]

pub request_fit : (frame : Frame) (pairs : List Pair) (value : List ℕ) → length value ≡ 16
    → AllByRecursion Fits (request_attributes frame pairs value)
request_fit frame pairs value long = once_fit frame.code value (flat_map (asked_for frame) pairs) long (all_asked_fit frame pairs)

-- ---- packets

pub packet_length : (code id : ℕ) (authenticator : List ℕ) (attributes : List Attribute) → length authenticator ≡ 16
    → length (packet_octets code id authenticator attributes) ≡ 20 + length (flat_map spelled attributes)
packet_length code id authenticator attributes long =
    omega (arith, length-append authenticator (flat_map spelled attributes), long)

pub packet_is : (code id : ℕ) (authenticator : List ℕ) (attributes : List Attribute) → length authenticator ≡ 16
    → length (flat_map spelled attributes) ≤ 4076 → AllByRecursion Fits attributes
    → IsPacket attributes (packet_octets code id authenticator attributes)
packet_is code id authenticator attributes long short fit =
    let size = packet_length code id authenticator attributes long in
    record {
      header = omega (arith, size);
      limit = omega (arith, size, short);
      counted = omega (arith, size, short);
      rest = record { joined = drop_at authenticator (flat_map spelled attributes) 16 long; fit = fit };
    }

-- ---- signed

once_length : (code : ℕ) (value other : List ℕ) (attributes : List Attribute) → length value ≡ length other
    → length (flat_map spelled (signed_once code value attributes)) ≡ length (flat_map spelled (signed_once code other attributes))
once_length code value other [] same = refl
once_length code value other (a ∷ attributes) same =
    let q : Attribute → Bool = λ (x : Attribute). not (is_signature code x) in
    let one : Attribute = record { kind = 80; value = value } in
    let two : Attribute = record { kind = 80; value = other } in
    elim (is_signature code a) as (λ b. length (flat_map spelled (cond b (one ∷ filter q attributes) (a ∷ signed_once code value attributes)))
    ≡ length (flat_map spelled (cond b (two ∷ filter q attributes) (a ∷ signed_once code other attributes)))) [
      | true ↦ omega (arith, same, length-append value (flat_map spelled (filter q attributes)), length-append other (flat_map spelled (filter q attributes)))
      | false ↦
          omega (arith, once_length code value other attributes same, length-append (spelled a) (flat_map spelled (signed_once code value attributes)), length-append (spelled a) (flat_map spelled (signed_once code other attributes)))
    ]

abbrev pub zeros : List ℕ
zeros = replicate 16 0

abbrev pub mac_of : Frame → List Pair → List ℕ
mac_of frame pairs = message_authenticator (unsigned_request frame pairs) frame.authenticator frame.secret

pub mac_size : (frame : Frame) (pairs : List Pair) → length (mac_of frame pairs) ≡ 16
mac_size frame pairs = right_length (unsigned_request frame pairs) frame.authenticator frame.secret

pub signed_size : (frame : Frame) (pairs : List Pair)
    → length (flat_map spelled (request_attributes frame pairs (mac_of frame pairs)))
    ≡ length (flat_map spelled (request_attributes frame pairs zeros))
signed_size frame pairs = once_length frame.code (mac_of frame pairs) zeros (flat_map (asked_for frame) pairs) (mac_size frame pairs)

pub digest_size : (packet secret : List ℕ) → length (accounting_authenticator packet secret) ≡ 16
digest_size packet secret = length-md5 _

pub request_access : (frame : Frame) (pairs : List Pair) → frame.code ≡ 1
    → packet_octets frame.code frame.id frame.authenticator (request_attributes frame pairs (mac_of frame pairs)) ≡ request_of frame pairs
unfolding request_of
request_access frame pairs is = rw (eq-eqb frame.code 1 is) refl

pub request_accounting : (frame : Frame) (pairs : List Pair) → frame.code ≡ 4
    → packet_octets frame.code frame.id (accounting_authenticator (unsigned_request frame pairs) frame.secret) (request_attributes frame pairs zeros)
    ≡ request_of frame pairs
unfolding request_of
request_accounting frame pairs is = rw (ne_eqb frame.code 1 (λ one. omega (arith, is, one)), eq-eqb frame.code 4 is) refl

pub request_other : (frame : Frame) (pairs : List Pair) → ¬ (frame.code ≡ 1) → ¬ (frame.code ≡ 4)
    → unsigned_request frame pairs ≡ request_of frame pairs
unfolding request_of
request_other frame pairs first fourth = rw (ne_eqb frame.code 1 first, ne_eqb frame.code 4 fourth) refl

-- a packet with these attributes, whose octets are short
pub record IsMade (request : List ℕ) (attributes : List Attribute) (size : ℕ) : Type 0 where
  pub long : length request ≡ 20 + size
  pub packet : size ≤ 4076 → IsPacket attributes request

made : (code id : ℕ) (authenticator : List ℕ) (attributes : List Attribute) (size : ℕ) → length authenticator ≡ 16
    → length (flat_map spelled attributes) ≡ size → AllByRecursion Fits attributes
    → IsMade (packet_octets code id authenticator attributes) attributes size
made code id authenticator attributes size long same fit = record {
  long = omega (arith, packet_length code id authenticator attributes long, same);
  packet = λ short. packet_is code id authenticator attributes long (omega (arith, same, short)) fit;
}

abbrev pub body_size : Frame → List Pair → ℕ
body_size frame pairs = length (flat_map spelled (request_attributes frame pairs zeros))

pub unsigned_made : (frame : Frame) (pairs : List Pair) → length frame.authenticator ≡ 16
    → IsMade (unsigned_request frame pairs) (request_attributes frame pairs zeros) (body_size frame pairs)
unsigned_made frame pairs long =
    made frame.code frame.id frame.authenticator (request_attributes frame pairs zeros) (body_size frame pairs) long refl
    (request_fit frame pairs zeros refl)

-- the attributes of a finished request
abbrev pub finished_attributes : Frame → List Pair → List Attribute
finished_attributes frame pairs = request_attributes frame pairs (cond (frame.code == 1) (mac_of frame pairs) zeros)

pub request_made : (frame : Frame) (pairs : List Pair) → length frame.authenticator ≡ 16
    → IsMade (request_of frame pairs) (finished_attributes frame pairs) (body_size frame pairs)
unfolding request_of
request_made frame pairs long =
    elim (frame.code == 1) as (λ b. IsMade
    (cond b (packet_octets frame.code frame.id frame.authenticator (request_attributes frame pairs (mac_of frame pairs)))
    (cond (frame.code == 4) (packet_octets frame.code frame.id (accounting_authenticator (unsigned_request frame pairs) frame.secret) (request_attributes frame pairs zeros)) (unsigned_request frame pairs)))
    (request_attributes frame pairs (cond b (mac_of frame pairs) zeros)) (body_size frame pairs)) [
      | true ↦
          made frame.code frame.id frame.authenticator (request_attributes frame pairs (mac_of frame pairs)) (body_size frame pairs) long
          (signed_size frame pairs) (request_fit frame pairs (mac_of frame pairs) (mac_size frame pairs))
      | false ↦
          elim (frame.code == 4) as (λ b. IsMade (cond b (packet_octets frame.code frame.id (accounting_authenticator (unsigned_request frame pairs) frame.secret) (request_attributes frame pairs zeros)) (unsigned_request frame pairs))
          (request_attributes frame pairs zeros) (body_size frame pairs)) [
            | true ↦
                made frame.code frame.id (accounting_authenticator (unsigned_request frame pairs) frame.secret) (request_attributes frame pairs zeros) (body_size frame pairs)
                (digest_size (unsigned_request frame pairs) frame.secret) refl (request_fit frame pairs zeros refl)
            | false ↦ unsigned_made frame pairs long
          ]
    ]
