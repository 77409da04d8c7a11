-- Replies: the attributes of pairs that fit, then the request's Proxy-States, behind a header that is signed.
use Rattle.std.proofs.Common.{◌≡◌, ℕ, ◌+◌, ◌-◌, ◌≤◌, Bool, true, false, cond, List, [], ◌∷◌, ◌++◌, length, take, drop, refl, sym, ap, ◌∙◌, arith}
use Rattle.std.specs.Prelude.{◌==◌, nat_lt}
use Rattle.std.specs.Int.{w32, to_be_bytes}
use Rattle.std.specs.List.{flat_map, AllByRecursion}
use Rattle.std.proofs.lemmas.Bool.{ltb-false}
use Rattle.std.proofs.lemmas.Grind.{flat_map-append}
use Rattle.std.proofs.lemmas.List.{append-nil, append_assoc, take_at, drop_at, length-append, length-drop, length-take}
use Rattle.std.proofs.lemmas.List.Elements.{All-filter, All-from_recursion, recursion_from_All}
use Rattle.md5.proofs.StandardFacts.{length-md5}
use Rattle.rad_words.specs.declared.attributes.Space.{Space}
use Rattle.rad_words.specs.declared.attributes.Space.TheVariants.{Standard, Vendor, Internal}
use Rattle.rad_value.specs.declared.values.Pair.{Pair}
use Rattle.rad_packet.specs.Packet.{Attribute, AreAttributes, IsPacket, IsWellFormed, authenticator_of, code_of, id_of, spelled}
use Rattle.rad_packet.specs.Octets.{proxy_states, reply_head, response_authenticator, signed_reply}
use Rattle.rad_wire.specs.Reply.{attributes_for, fitting, is_left_out, proxy_state_attributes, reply_attributes, reply_octets, room_beside, sent_attributes}
use Rattle.rad_wire.specs.Values.{octets_of}
use Rattle.rad_packet.proofs.AttributeLists.{packet_reading}
use Rattle.rad_wire.proofs.Fitting.{pairs_written, taken}
use Rattle.rad_wire.proofs.ProxyStates.{states_short}

-- ---- a packet that was signed

pub signed_length : (code id : ℕ) (authenticator body secret : List ℕ)
    → length (signed_reply code id authenticator body secret) ≡ 20 + length body
signed_length code id authenticator body secret =
    let digest = response_authenticator code id authenticator body secret in
    omega (arith, length-append digest body, length-md5 (reply_head code id body ++ authenticator ++ body ++ secret))

pub signed_rest : (code id : ℕ) (authenticator body secret : List ℕ)
    → drop 20 (signed_reply code id authenticator body secret) ≡ body
signed_rest code id authenticator body secret =
    drop_at (response_authenticator code id authenticator body secret) body 16 (length-md5 (reply_head code id body ++ authenticator ++ body ++ secret))

pub signed_authenticator : (code id : ℕ) (authenticator body secret : List ℕ)
    → authenticator_of (signed_reply code id authenticator body secret) ≡ response_authenticator code id authenticator body secret
signed_authenticator code id authenticator body secret =
    take_at (response_authenticator code id authenticator body secret) body 16 (length-md5 (reply_head code id body ++ authenticator ++ body ++ secret))

pub signed_packet : (attributes : List Attribute) (code id : ℕ) (authenticator body secret : List ℕ) → length body ≤ 4076
    → AreAttributes attributes body → IsPacket attributes (signed_reply code id authenticator body secret)
signed_packet attributes code id authenticator body secret short rest =
    let long = signed_length code id authenticator body secret in
    record {
      header = omega (arith, long);
      limit = omega (arith, long);
      counted = omega (arith, long);
      rest = rw signed_rest rest;
    }

-- ---- the request's part

abbrev pub Fits : Attribute → Type 0
Fits a = length a.value ≤ 253

states_fit : (request : List ℕ) → IsWellFormed request → AllByRecursion Fits (proxy_state_attributes request)
states_fit request well =
    let all = well.0 in
    let packet = well.1 in
    let read = packet_reading all request packet in
    rw read (recursion_from_All Fits _ (All-filter (λ (a : Attribute). a.kind == 33) Fits all (All-from_recursion Fits all packet.rest.fit)))

-- ---- the pairs' part

pub joined_fit : (attributes others : List Attribute) → AllByRecursion Fits attributes → AllByRecursion Fits others
    → AllByRecursion Fits (attributes ++ others)
joined_fit [] others h k = k
joined_fit (a ∷ attributes) others h k = (h.0, joined_fit attributes others h.1 k)

pub one_fits : (b : Bool) (a : Attribute) → Fits a → AllByRecursion Fits (cond b [] (a ∷ []))
one_fits true a fits = tt
one_fits false a fits = (fits, tt)

pub sent_fit : (space : Space) (number : ℕ) (octets : List ℕ) → AllByRecursion Fits (sent_attributes space number octets)
sent_fit Standard number octets =
    one_fits (is_left_out number) (record { kind = number; value = take 253 octets }) (omega (arith, length-take 253 octets))
sent_fit (Vendor vendor) number octets =
    one_fits (nat_lt 255 number) (record { kind = 26; value = to_be_bytes w32 vendor ++ spelled (record { kind = number; value = take 247 octets }) })
    (omega (arith, length-take 247 octets))
sent_fit Internal number octets = tt

all_fit : (pairs : List Pair) → AllByRecursion Fits (flat_map attributes_for pairs)
unfolding attributes_for
all_fit [] = tt
all_fit (pair ∷ pairs) =
    joined_fit (attributes_for pair) (flat_map attributes_for pairs) (sent_fit pair.attr.space pair.attr.number (octets_of pair.value)) (all_fit pairs)

either_fit : (b : Bool) (a : Attribute) (others : List Attribute) → Fits a → AllByRecursion Fits others
    → AllByRecursion Fits (cond b [] (a ∷ others))
either_fit true a others fits all = tt
either_fit false a others fits all = (fits, all)

fitting_fit : (attributes : List Attribute) (room : ℕ) → AllByRecursion Fits attributes → AllByRecursion Fits (fitting room attributes)
unfolding fitting
fitting_fit [] room h = tt
fitting_fit (a ∷ attributes) room h =
    either_fit (nat_lt room (length (spelled a))) a (fitting (room - length (spelled a)) attributes) h.0
    (fitting_fit attributes (room - length (spelled a)) h.1)

either_taken : (b : Bool) (a : Attribute) (others : List Attribute) (room : ℕ) → (b ≡ false → length (spelled a) ≤ room)
    → taken others ≤ room - length (spelled a) → taken (cond b [] (a ∷ others)) ≤ room
either_taken true a others room fits rest = omega arith
either_taken false a others room fits rest =
    omega (arith, fits refl, length-append (spelled a) (flat_map spelled others))

pub fitting_length : (attributes : List Attribute) (room : ℕ) → taken (fitting room attributes) ≤ room
unfolding fitting
fitting_length [] room = omega arith
fitting_length (a ∷ attributes) room =
    either_taken (nat_lt room (length (spelled a))) a (fitting (room - length (spelled a)) attributes) room
    (λ fits. ltb-false room (length (spelled a)) fits) (fitting_length attributes (room - length (spelled a)))

-- ---- the reply

-- the octets of a reply's attributes
pub reply_body : (pairs : List Pair) (request : List ℕ)
    → flat_map spelled (reply_attributes pairs request) ≡ pairs_written (room_beside request) pairs ++ proxy_states request
unfolding reply_attributes
reply_body pairs request =
    flat_map-append spelled (fitting (room_beside request) (flat_map attributes_for pairs)) (proxy_state_attributes request)

body_short : (pairs : List Pair) (request : List ℕ) → IsWellFormed request
    → length (flat_map spelled (reply_attributes pairs request)) ≤ 4076
body_short pairs request well =
    let written = pairs_written (room_beside request) pairs in
    rw reply_body
    (omega (arith, length-append written (proxy_states request), fitting_length (flat_map attributes_for pairs) (room_beside request), states_short request well))

body_fits : (pairs : List Pair) (request : List ℕ) → IsWellFormed request → AllByRecursion Fits (reply_attributes pairs request)
unfolding reply_attributes
body_fits pairs request well =
    joined_fit (fitting (room_beside request) (flat_map attributes_for pairs)) (proxy_state_attributes request)
    (fitting_fit (flat_map attributes_for pairs) (room_beside request) (all_fit pairs)) (states_fit request well)

pub reply_packet : (code : ℕ) (pairs : List Pair) (request secret : List ℕ) → IsWellFormed request
    → IsPacket (reply_attributes pairs request) (reply_octets code pairs request secret)
unfolding reply_octets
reply_packet code pairs request secret well =
    signed_packet (reply_attributes pairs request) code (id_of request) (authenticator_of request) (flat_map spelled (reply_attributes pairs request)) secret
    (body_short pairs request well)
    (record { joined = refl; fit = body_fits pairs request well })

pub reply_signed : (code : ℕ) (pairs : List Pair) (request secret : List ℕ)
    → authenticator_of (reply_octets code pairs request secret)
    ≡ response_authenticator code (id_of request) (authenticator_of request) (drop 20 (reply_octets code pairs request secret)) secret
unfolding reply_octets
reply_signed code pairs request secret =
    let body = flat_map spelled (reply_attributes pairs request) in
    rw (signed_rest code (id_of request) (authenticator_of request) body secret)
    (signed_authenticator code (id_of request) (authenticator_of request) body secret)

-- ---- written in place

-- the octets of a reply before they are signed: the request's Authenticator stands in their place
pub record IsUnsigned (code id : ℕ) (authenticator body octets : List ℕ) : Type 0 where
  pub head : octets ≡ code ∷ id ∷ 0 ∷ 0 ∷ (authenticator ++ body)
  pub long : length authenticator ≡ 16

pub unsigned_length : (code id : ℕ) (authenticator body octets : List ℕ) → IsUnsigned code id authenticator body octets
    → length octets ≡ 20 + length body
unsigned_length code id authenticator body octets h =
    omega (arith, ap length h.head, length-append authenticator body, h.long)

pub signed_in_place : (code id : ℕ) (authenticator body octets secret : List ℕ) → IsUnsigned code id authenticator body octets
    → signed_reply (code_of octets) (id_of octets) (authenticator_of octets) (drop 20 octets) secret
    ≡ signed_reply code id authenticator body secret
signed_in_place code id authenticator body octets secret h =
    rw (h.head, take_at authenticator body 16 h.long, drop_at authenticator body 16 h.long) refl

pub IsUnsigned-more : (code id : ℕ) (authenticator body more octets after : List ℕ) → IsUnsigned code id authenticator body octets
    → after ≡ octets ++ more → IsUnsigned code id authenticator (body ++ more) after
IsUnsigned-more code id authenticator body more octets after h e = record {
  head = e ∙ ap (λ (x : List ℕ). x ++ more) h.head
      ∙ ap (λ (x : List ℕ). code ∷ id ∷ 0 ∷ 0 ∷ x) (append_assoc authenticator body more);
  long = h.long;
}

-- what was written before it is signed: the header, the pairs that fit, and the Proxy-States
pub reply_unsigned : (code id count : ℕ) (pairs : List Pair) (request begun paired whole : List ℕ) → IsWellFormed request
    → id ≡ id_of request → count ≡ length (proxy_states request)
    → begun ≡ (code ∷ id ∷ 0 ∷ 0 ∷ []) ++ authenticator_of request
    → paired ≡ begun ++ pairs_written ((4096 - count) - length begun) pairs → whole ≡ paired ++ proxy_states request
    → IsUnsigned code (id_of request) (authenticator_of request) (flat_map spelled (reply_attributes pairs request)) whole
reply_unsigned code id count pairs request begun paired whole well same_id counted begins pairs_then states_then =
    let authenticator = authenticator_of request in
    let long : length authenticator ≡ 16 =
    omega (arith, well.1.header, length-take 16 (drop 4 request), length-drop 4 request) in
    let start : IsUnsigned code (id_of request) authenticator [] begun = record {
      head = begins ∙ ap (λ (i : ℕ). code ∷ i ∷ 0 ∷ 0 ∷ authenticator) same_id
          ∙ ap (λ (x : List ℕ). code ∷ id_of request ∷ 0 ∷ 0 ∷ x) (sym (append-nil authenticator));
      long = long;
    } in
    let room : (4096 - count) - length begun ≡ room_beside request =
    omega (arith, counted, unsigned_length code (id_of request) authenticator [] begun start) in
    let written = pairs_written (room_beside request) pairs in
    let then_pairs : paired ≡ begun ++ written = pairs_then ∙ ap (λ (r : ℕ). begun ++ pairs_written r pairs) room in
    let with_pairs = IsUnsigned-more code (id_of request) authenticator [] written begun paired start then_pairs in
    let with_states = IsUnsigned-more code (id_of request) authenticator written (proxy_states request) paired whole with_pairs states_then in
    rw reply_body with_states

-- a reply before it is signed is as long as after
pub unsigned_limit : (code : ℕ) (pairs : List Pair) (request whole : List ℕ) → IsWellFormed request
    → IsUnsigned code (id_of request) (authenticator_of request) (flat_map spelled (reply_attributes pairs request)) whole
    → length whole ≤ 4096
unsigned_limit code pairs request whole well h =
    omega (arith, body_short pairs request well, unsigned_length code (id_of request) (authenticator_of request) (flat_map spelled (reply_attributes pairs request)) whole h)

pub reply_in_place : (code : ℕ) (pairs : List Pair) (request whole secret : List ℕ)
    → IsUnsigned code (id_of request) (authenticator_of request) (flat_map spelled (reply_attributes pairs request)) whole
    → signed_reply (code_of whole) (id_of whole) (authenticator_of whole) (drop 20 whole) secret ≡ reply_octets code pairs request secret
unfolding reply_octets
reply_in_place code pairs request whole secret h =
    signed_in_place code (id_of request) (authenticator_of request) (flat_map spelled (reply_attributes pairs request)) whole secret h
