-- Replies that are accepted, and requests that are signed.
use Rattle.std.proofs.Common.{◌≡◌, ℕ, ◌≤◌, ◌+◌, ◌-◌, ◌/◌, ◌%◌, Bool, true, false, not, cond, ◌||◌, List, [], ◌∷◌, ◌++◌, length, take, drop, filter, map, refl, sym, ap, ◌∙◌, subst, inl, inr, arith}
use Rattle.std.specs.Prelude.{◌==◌, ◌⊎◌, IsTrue, nat_lt}
use Rattle.std.specs.Int.{w32, to_be_bytes}
use Rattle.std.specs.List.{flat_map}
use Rattle.md5.specs.Md5.{md5}
use Rattle.std.proofs.lemmas.Bool.{eqb-true, ne_eqb}
use Rattle.std.proofs.lemmas.List.{take_all, take_at, drop_at}
use Rattle.std.proofs.lemmas.List.Elements.{filter-append}
use Rattle.rad_words.specs.declared.attributes.Space.{Space}
use Rattle.rad_words.specs.declared.attributes.Space.TheVariants.{Standard, Vendor, Internal}
use Rattle.rad_value.specs.declared.values.Pair.{Pair}
use Rattle.rad_packet.specs.Packet.{Attribute, IsPacket, IsWellFormed, attributes_of, authenticator_of, code_of, id_of, packet_of, spelled}
use Rattle.rad_packet.specs.Octets.{reply_head, response_authenticator}
use Rattle.rad_packet.specs.Signatures.{IsIntact, accounting_authenticator, digest_with, message_authenticator, message_authenticators, of_kind, zeroed}
use Rattle.rad_packet.proofs.AttributeLists.{packet_reading}
use Rattle.rad_packet.proofs.Datagrams.{HasLength-from}
use Rattle.rad_packet.proofs.Intact.{intact_untampered, right_signed}
use Rattle.rad_wire.specs.declared.reply_fault.ReplyFault.{ReplyFault}
use Rattle.rad_wire.specs.declared.reply_fault.ReplyFault.TheVariants.{Short, BadLength, WrongCode, WrongId, BadAttribute, BadAuthenticator, BadMessageAuthenticator}
use Rattle.rad_wire.specs.Accepts.{Accepts, FaultHolds, IsFirstFault, is_reply_code}
use Rattle.rad_wire.specs.Reply.{attributes_for, fitting, is_left_out, proxy_state_attributes, reply_attributes, reply_octets, room_beside, sent_attributes}
use Rattle.rad_wire.specs.Values.{octets_of}
use Rattle.rad_value.proofs.EditLaws.{nothing-left}
use Rattle.rad_wire.specs.Request.{Frame, asked_for, frame_of, is_signature, packet_octets, request_attributes, request_octets, request_of, signed_once, unsigned_request}
use Rattle.rad_wire.proofs.Replies.{reply_packet, reply_signed}
use Rattle.rad_wire.proofs.Requests.{body_size, digest_size, mac_of, request_access, request_accounting, request_made, signed_size, unsigned_made, zeros}

-- ---- no fault

pub accepted_without_fault : (fault : ReplyFault) (request reply secret : List ℕ) → Accepts request reply secret
    → ¬ FaultHolds fault request reply secret
accepted_without_fault Short request reply secret h fault =
    let size = HasLength-from reply h.packet.0 h.packet.1 in
    omega (arith, size.header, size.there, fault)
accepted_without_fault BadLength request reply secret h (inl below) =
    omega (arith, (HasLength-from reply h.packet.0 h.packet.1).header, below)
accepted_without_fault BadLength request reply secret h (inr (inl above)) =
    omega (arith, (HasLength-from reply h.packet.0 h.packet.1).limit, above)
accepted_without_fault BadLength request reply secret h (inr (inr past)) =
    omega (arith, (HasLength-from reply h.packet.0 h.packet.1).there, past)
accepted_without_fault WrongCode request reply secret h fault = fault h.code
accepted_without_fault WrongId request reply secret h fault = fault h.id
accepted_without_fault BadAttribute request reply secret h fault = fault h.packet.0 h.packet.1.rest
accepted_without_fault BadAuthenticator request reply secret h fault = fault h.signed
accepted_without_fault BadMessageAuthenticator request reply secret h fault =
    intact_untampered (packet_of reply) (authenticator_of request) secret (h.intact fault.0) fault.1

pub fault_without_accepted : (fault : ReplyFault) (request reply secret : List ℕ) → IsFirstFault fault request reply secret
    → ¬ Accepts request reply secret
fault_without_accepted fault request reply secret first h = accepted_without_fault fault request reply secret h first.holds

-- ---- a reply has no Message-Authenticator

pub without-append : (xs ys : List Attribute) → of_kind 80 xs ≡ [] → of_kind 80 ys ≡ [] → of_kind 80 (xs ++ ys) ≡ []
without-append xs ys none more =
    filter-append (λ (a : Attribute). a.kind == 80) xs ys
    ∙ ap (λ (list : List Attribute). list ++ of_kind 80 ys) none ∙ more

last_false : (a b c d e : Bool) → (a || b || c || d || e) ≡ false → e ≡ false
last_false true b c d e h = let no_way : true ≡ false = h in cc
last_false false true c d e h = let no_way : true ≡ false = h in cc
last_false false false true d e h = let no_way : true ≡ false = h in cc
last_false false false false true e h = let no_way : true ≡ false = h in cc
last_false false false false false e h = h

sent_without : (space : Space) (number : ℕ) (octets : List ℕ) → of_kind 80 (sent_attributes space number octets) ≡ []
sent_without Standard number octets =
    (elim (is_left_out number) as (λ b. is_left_out number ≡ b → of_kind 80 (cond b [] (record { kind = number; value = take 253 octets } ∷ [])) ≡ []) [
      | true ↦ λ is. refl
      | false ↦ λ is.
          let other = last_false (nat_lt 255 number) (number == 2) (number == 3) (number == 33) (number == 80) is in
          rw other refl
    ]) refl
sent_without (Vendor vendor) number octets =
    elim (nat_lt 255 number) as (λ b. of_kind 80 (cond b [] (record { kind = 26; value = to_be_bytes w32 vendor ++ spelled (record { kind = number; value = take 247 octets }) } ∷ [])) ≡ []) [
      | true ↦ refl
      | false ↦ refl
    ]
sent_without Internal number octets = refl

pairs_without : (pairs : List Pair) → of_kind 80 (flat_map attributes_for pairs) ≡ []
unfolding attributes_for
pairs_without [] = refl
pairs_without (pair ∷ pairs) =
    without-append (attributes_for pair) (flat_map attributes_for pairs)
    (sent_without pair.attr.space pair.attr.number (octets_of pair.value)) (pairs_without pairs)

first_without : (a : Attribute) (list : List Attribute) → of_kind 80 (a ∷ list) ≡ [] → ((a.kind == 80) ≡ false) × (of_kind 80 list ≡ [])
first_without a list none =
    (elim (a.kind == 80) as (λ b. cond b (a ∷ of_kind 80 list) (of_kind 80 list) ≡ [] → (b ≡ false) × (of_kind 80 list ≡ [])) [
      | true ↦ λ h. (cc, cc)
      | false ↦ λ h. (refl, h)
    ]) none

fitting_without : (attributes : List Attribute) (room : ℕ) → of_kind 80 attributes ≡ [] → of_kind 80 (fitting room attributes) ≡ []
unfolding fitting
fitting_without [] room none = refl
fitting_without (a ∷ attributes) room none =
    let parts = first_without a attributes none in
    elim (nat_lt room (length (spelled a))) as (λ b. of_kind 80 (cond b [] (a ∷ fitting (room - length (spelled a)) attributes)) ≡ []) [
      | true ↦ refl
      | false ↦ rw parts.0 (fitting_without attributes (room - length (spelled a)) parts.1)
    ]

states_without : (attributes : List Attribute) → of_kind 80 (filter (λ (a : Attribute). a.kind == 33) attributes) ≡ []
states_without [] = refl
states_without (a ∷ attributes) =
    (elim (a.kind == 33) as (λ b. (a.kind == 33) ≡ b → of_kind 80 (cond b (a ∷ filter (λ (x : Attribute). x.kind == 33) attributes) (filter (λ (x : Attribute). x.kind == 33) attributes)) ≡ []) [
      | true ↦ λ is. rw (ne_eqb a.kind 80 (λ other. omega (arith, other, eqb-true a.kind 33 is))) (states_without attributes)
      | false ↦ λ is. states_without attributes
    ]) refl

reply_without : (pairs : List Pair) (request : List ℕ) → of_kind 80 (reply_attributes pairs request) ≡ []
unfolding reply_attributes
reply_without pairs request =
    without-append (fitting (room_beside request) (flat_map attributes_for pairs)) (proxy_state_attributes request)
    (fitting_without (flat_map attributes_for pairs) (room_beside request) (pairs_without pairs)) (states_without (attributes_of request))

-- ---- a server's reply

reply_whole : (code : ℕ) (pairs : List Pair) (request secret : List ℕ) → IsWellFormed request
    → packet_of (reply_octets code pairs request secret) ≡ reply_octets code pairs request secret
reply_whole code pairs request secret well =
    let reply = reply_octets code pairs request secret in
    let packet = reply_packet code pairs request secret well in
    ap (λ (n : ℕ). take n reply) packet.counted ∙ take_all (length reply) reply (omega arith)

reply_code : (code : ℕ) (pairs : List Pair) (request secret : List ℕ) → code_of (reply_octets code pairs request secret) ≡ code
unfolding reply_octets
reply_code code pairs request secret = refl

reply_id : (code : ℕ) (pairs : List Pair) (request secret : List ℕ) → id_of (reply_octets code pairs request secret) ≡ id_of request
unfolding reply_octets
reply_id code pairs request secret = refl

-- the reply's head is that of its body
reply_head_is : (code : ℕ) (pairs : List Pair) (request secret : List ℕ)
    → take 4 (reply_octets code pairs request secret)
    ≡ reply_head code (id_of request) (flat_map spelled (reply_attributes pairs request))
unfolding reply_octets
reply_head_is code pairs request secret = refl

pub reply_accepted : (code : ℕ) (pairs : List Pair) (request secret : List ℕ) → IsWellFormed request
    → IsTrue (is_reply_code (code_of request) code) → Accepts request (reply_octets code pairs request secret) secret
reply_accepted code pairs request secret well answers =
    let reply = reply_octets code pairs request secret in
    let packet = reply_packet code pairs request secret well in
    let whole = reply_whole code pairs request secret well in
    let body = flat_map spelled (reply_attributes pairs request) in
    let rest : drop 20 reply ≡ body = packet.rest.joined in
    let digest : digest_with reply (authenticator_of request) secret ≡ response_authenticator code (id_of request) (authenticator_of request) (drop 20 reply) secret =
    ap (λ (head : List ℕ). md5 (head ++ authenticator_of request ++ drop 20 reply ++ secret))
    (reply_head_is code pairs request secret ∙ ap (reply_head code (id_of request)) (sym rest)) in
    let none : message_authenticators reply ≡ [] =
    ap (of_kind 80) (packet_reading (reply_attributes pairs request) reply packet) ∙ reply_without pairs request in
    record {
      packet = rw whole (reply_attributes pairs request, packet);
      code = rw reply_code answers;
      id = reply_id code pairs request secret;
      signed = rw whole (reply_signed code pairs request secret ∙ sym digest);
      intact = λ access. rw whole (inl none);
    }

-- ---- a request that was made

packet_rest : (code id : ℕ) (authenticator : List ℕ) (attributes : List Attribute) → length authenticator ≡ 16
    → drop 20 (packet_octets code id authenticator attributes) ≡ flat_map spelled attributes
packet_rest code id authenticator attributes long = drop_at authenticator (flat_map spelled attributes) 16 long

pub packet_authenticator : (code id : ℕ) (authenticator : List ℕ) (attributes : List Attribute) → length authenticator ≡ 16
    → authenticator_of (packet_octets code id authenticator attributes) ≡ authenticator
packet_authenticator code id authenticator attributes long = take_at authenticator (flat_map spelled attributes) 16 long

-- the digest of an Accounting-Request doesn't depend on what stands in its place
digest_apart : (code id : ℕ) (one other : List ℕ) (attributes : List Attribute) (secret : List ℕ) → length one ≡ 16 → length other ≡ 16
    → accounting_authenticator (packet_octets code id one attributes) secret
    ≡ accounting_authenticator (packet_octets code id other attributes) secret
digest_apart code id one other attributes secret long same =
    let head = reply_head code id (flat_map spelled attributes) in
    ap (λ (rest : List ℕ). md5 (head ++ zeros ++ rest ++ secret))
    (packet_rest code id one attributes long ∙ sym (packet_rest code id other attributes same))

pub accounting_signed : (id : ℕ) (authenticator : List ℕ) (pairs : List Pair) (secret : List ℕ) → length authenticator ≡ 16
    → authenticator_of (request_octets 4 id authenticator pairs secret)
    ≡ accounting_authenticator (request_octets 4 id authenticator pairs secret) secret
accounting_signed id authenticator pairs secret long =
    let frame = frame_of 4 id authenticator pairs secret in
    let attributes = request_attributes frame pairs zeros in
    let unsigned = unsigned_request frame pairs in
    let digest = accounting_authenticator unsigned secret in
    let size = digest_size unsigned secret in
    subst (λ (request : List ℕ). authenticator_of request ≡ accounting_authenticator request secret)
    (request_accounting frame pairs refl)
    (packet_authenticator 4 id digest attributes size ∙ digest_apart 4 id authenticator digest attributes secret long size)

once_kinds : (value : List ℕ) (attributes : List Attribute)
    → (of_kind 80 (signed_once 1 value attributes) ≡ [])
    ⊎ (of_kind 80 (signed_once 1 value attributes) ≡ record { kind = 80; value = value } ∷ [])
once_kinds value [] = inl refl
once_kinds value (a ∷ attributes) =
    let own : Attribute = record { kind = 80; value = value } in
    let others = filter (λ (x : Attribute). not (is_signature 1 x)) attributes in
    (elim (a.kind == 80) as (λ b. (a.kind == 80) ≡ b → (of_kind 80 (cond b (own ∷ others) (a ∷ signed_once 1 value attributes)) ≡ [])
    ⊎ (of_kind 80 (cond b (own ∷ others) (a ∷ signed_once 1 value attributes)) ≡ own ∷ [])) [
      | true ↦ λ is. inr (ap (λ (list : List Attribute). own ∷ list) (nothing-left (λ (x : Attribute). x.kind == 80) attributes))
      | false ↦ λ is. rw is (once_kinds value attributes)
    ]) refl

once_zeroed : (code : ℕ) (value other : List ℕ) (attributes : List Attribute)
    → map zeroed (signed_once code value attributes) ≡ map zeroed (signed_once code other attributes)
once_zeroed code value other [] = refl
once_zeroed code value other (a ∷ attributes) =
    let others = filter (λ (x : Attribute). not (is_signature code x)) attributes in
    let one : Attribute = record { kind = 80; value = value } in
    let two : Attribute = record { kind = 80; value = other } in
    elim (is_signature code a) as (λ b. map zeroed (cond b (one ∷ others) (a ∷ signed_once code value attributes)) ≡ map zeroed (cond b (two ∷ others) (a ∷ signed_once code other attributes))) [
      | true ↦ refl
      | false ↦ ap (λ (list : List Attribute). zeroed a ∷ list) (once_zeroed code value other attributes)
    ]

pub access_signed : (id : ℕ) (authenticator : List ℕ) (pairs : List Pair) (secret : List ℕ) → length authenticator ≡ 16
    → length (request_octets 1 id authenticator pairs secret) ≤ 4096
    → IsIntact (request_octets 1 id authenticator pairs secret) (authenticator_of (request_octets 1 id authenticator pairs secret)) secret
access_signed id authenticator pairs secret long limit =
    let frame = frame_of 1 id authenticator pairs secret in
    let all = flat_map (asked_for frame) pairs in
    let mac = mac_of frame pairs in
    let attributes = request_attributes frame pairs mac in
    let request = packet_octets 1 id authenticator attributes in
    let made = request_made frame pairs long in
    let short : body_size frame pairs ≤ 4076 = omega (arith, limit, made.long) in
    let packet : IsPacket attributes request = subst (λ (octets : List ℕ). IsPacket attributes octets) (sym (request_access frame pairs refl)) (made.packet short) in
    let unsigned = (unsigned_made frame pairs long).packet short in
    let heads : take 4 request ≡ take 4 (unsigned_request frame pairs) =
    ap (λ (n : ℕ). 1 ∷ id ∷ ((20 + n) / 256) ∷ ((20 + n) % 256) ∷ []) (signed_size frame pairs) in
    let right : message_authenticator request authenticator secret ≡ mac =
    right_signed request (unsigned_request frame pairs) attributes (request_attributes frame pairs zeros) authenticator secret packet unsigned heads (once_zeroed 1 mac zeros all) in
    let read : message_authenticators request ≡ of_kind 80 attributes = ap (of_kind 80) (packet_reading attributes request packet) in
    let intact : IsIntact request authenticator secret =
    elim (once_kinds mac all) [
      | inl none ↦ inl (read ∙ none)
      | inr one ↦ inr (read ∙ one ∙ ap (λ (v : List ℕ). record { kind = 80; value = v } ∷ []) (sym right))
    ] in
    subst (λ (octets : List ℕ). IsIntact octets (authenticator_of octets) secret) (request_access frame pairs refl)
    (subst (λ (a : List ℕ). IsIntact request a secret) (sym (packet_authenticator 1 id authenticator attributes long)) intact)

made_head : (frame : Frame) (pairs : List Pair) → (code_of (request_of frame pairs) ≡ frame.code) × (id_of (request_of frame pairs) ≡ frame.id)
unfolding request_of
made_head frame pairs =
    elim (frame.code == 1) as (λ b. (code_of (cond b (packet_octets frame.code frame.id frame.authenticator (request_attributes frame pairs (mac_of frame pairs)))
    (cond (frame.code == 4) (packet_octets frame.code frame.id (accounting_authenticator (unsigned_request frame pairs) frame.secret) (request_attributes frame pairs zeros)) (unsigned_request frame pairs))) ≡ frame.code)
    × (id_of (cond b (packet_octets frame.code frame.id frame.authenticator (request_attributes frame pairs (mac_of frame pairs)))
    (cond (frame.code == 4) (packet_octets frame.code frame.id (accounting_authenticator (unsigned_request frame pairs) frame.secret) (request_attributes frame pairs zeros)) (unsigned_request frame pairs))) ≡ frame.id)) [
      | true ↦ (refl, refl)
      | false ↦
          elim (frame.code == 4) as (λ b. (code_of (cond b (packet_octets frame.code frame.id (accounting_authenticator (unsigned_request frame pairs) frame.secret) (request_attributes frame pairs zeros)) (unsigned_request frame pairs)) ≡ frame.code)
          × (id_of (cond b (packet_octets frame.code frame.id (accounting_authenticator (unsigned_request frame pairs) frame.secret) (request_attributes frame pairs zeros)) (unsigned_request frame pairs)) ≡ frame.id)) [
            | true ↦ (refl, refl)
            | false ↦ (refl, refl)
          ]
    ]

pub made_code : (code id : ℕ) (authenticator : List ℕ) (pairs : List Pair) (secret : List ℕ)
    → code_of (request_octets code id authenticator pairs secret) ≡ code
made_code code id authenticator pairs secret = (made_head (frame_of code id authenticator pairs secret) pairs).0

pub made_id : (code id : ℕ) (authenticator : List ℕ) (pairs : List Pair) (secret : List ℕ)
    → id_of (request_octets code id authenticator pairs secret) ≡ id
made_id code id authenticator pairs secret = (made_head (frame_of code id authenticator pairs secret) pairs).1
