use Rattle.std.proofs.Common.{◌≡◌, ◌≤◌, ℕ, List, ◌++◌, length, ap, ◌∙◌, arith, rules}
use Rattle.std.specs.List.{flat_map}
use Rattle.rad_packet.specs.Octets.{reply_head}
use Rattle.rad_packet.specs.Packet.{spelled}
use Rattle.rad_packet.specs.Signatures.{accounting_authenticator, message_authenticator}
use Rattle.rad_wire.specs.Draft.{frame_in}
use Rattle.rad_wire.specs.Request.{request_attributes, unsigned_request}
use Rattle.rad_wire.proofs.Requests.{body_size, mac_of, request_access, request_accounting, request_other, signed_size, unsigned_made, zeros}
use Rattle.rad_wire.proofs.request.signed.Goals as goal

pub message_authenticator-value-requires : goal.message_authenticator-value-requires
message_authenticator-value-requires c =
    let frame = frame_in c.args.asking.now in
    let pairs = c.args.lists.now.request in
    let made = unsigned_made frame pairs c.requires.authenticator in
    let short : body_size frame pairs ≤ 4076 = omega (arith, ap length c.requires.attributes, c.requires.limit) in
    (request_attributes frame pairs zeros, rw (c.as_slice.ensures.value, c.requires.unsigned) (made.packet short))

pub packet-requires : goal.packet-requires
packet-requires c =
    let frame = frame_in c.args.asking.now in
    let pairs = c.args.lists.now.request in
    let mac : c.message_authenticator-value.result ≡ mac_of frame pairs =
    c.message_authenticator-value.ensures
    ∙ ap (λ (x : List ℕ). message_authenticator x frame.authenticator frame.secret) (c.as_slice.ensures.value ∙ c.requires.unsigned) in
    let body = c.as_slice-in-1.ensures.value ∙ c.in_ok-attributes-in-1.ensures.octets
    ∙ ap (λ (value : List ℕ). flat_map spelled (request_attributes frame pairs value)) mac in
    omega (arith, ap length body, signed_size frame pairs, c.requires.limit, ap length c.requires.attributes)

pub accounting_authenticator-digest-requires : goal.accounting_authenticator-digest-requires
accounting_authenticator-digest-requires c =
    let made = unsigned_made (frame_in c.args.asking.now) c.args.lists.now.request c.requires.authenticator in
    omega (arith, made.long, ap length (c.as_slice-in-4.ensures.value ∙ c.requires.unsigned))

pub returns-in_ok-packet-in-1-clause-octets : goal.returns-in_ok-packet-in-1-clause-octets
returns-in_ok-packet-in-1-clause-octets c =
    let frame = frame_in c.args.asking.now in
    let pairs = c.args.lists.now.request in
    let mac : c.message_authenticator-value.result ≡ mac_of frame pairs =
    c.message_authenticator-value.ensures
    ∙ ap (λ (x : List ℕ). message_authenticator x frame.authenticator frame.secret) (c.as_slice.ensures.value ∙ c.requires.unsigned) in
    let body = c.as_slice-in-1.ensures.value ∙ c.in_ok-attributes-in-1.ensures.octets
    ∙ ap (λ (value : List ℕ). flat_map spelled (request_attributes frame pairs value)) mac in
    c.in_ok-packet-in-1.ensures
    ∙ ap (λ (x : List ℕ). reply_head frame.code frame.id x ++ frame.authenticator ++ x) body
    ∙ request_access frame pairs c.in-1.is

pub returns-in_ok-packet-in-4-clause-octets : goal.returns-in_ok-packet-in-4-clause-octets
returns-in_ok-packet-in-4-clause-octets c =
    let frame = frame_in c.args.asking.now in
    let pairs = c.args.lists.now.request in
    let digest = c.accounting_authenticator-digest.ensures
    ∙ ap (λ (x : List ℕ). accounting_authenticator x frame.secret) (c.as_slice-in-4.ensures.value ∙ c.requires.unsigned) in
    c.in_ok-packet-in-4.ensures
    ∙ ap (λ (d : List ℕ). reply_head frame.code frame.id c.args.attributes.now ++ d ++ c.args.attributes.now) digest
    ∙ ap (λ (x : List ℕ). reply_head frame.code frame.id x ++ accounting_authenticator (unsigned_request frame pairs) frame.secret ++ x) c.requires.attributes
    ∙ request_accounting frame pairs c.in-4.is

pub returns-in_default-clause-octets : goal.returns-in_default-clause-octets
returns-in_default-clause-octets c =
    c.requires.unsigned ∙ request_other (frame_in c.args.asking.now) c.args.lists.now.request (λ is. search rules) (λ is. search rules)
