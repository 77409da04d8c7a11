use Rattle.std.proofs.Common.{◌≡◌, ◌≤◌, ◌+◌, length, ap, ◌∙◌, arith}
use Rattle.rad_packet.specs.Hiding.{carried}
use Rattle.rad_wire.specs.Request.{challenge_of, frame_of, request_octets}
use Rattle.rad_wire.proofs.Requests.{body_size, finished_attributes, request_made}
use Rattle.rad_wire.proofs.request.request_bytes.Goals as goal

pub returns-then-length-gt-LONGEST_PACKET-clause-refused : goal.returns-then-length-gt-LONGEST_PACKET-clause-refused
returns-then-length-gt-LONGEST_PACKET-clause-refused c =
    let pairs = c.args.lists.now.request in
    let authenticator = c.args.authenticator.now in
    let frame = frame_of c.args.code c.args.id authenticator pairs c.args.secret.now in
    let challenge : c.as_slice.result.now ≡ challenge_of pairs authenticator = c.as_slice.ensures ∙ c.in_ok-challenge.ensures in
    let body = rw challenge at c.in_ok-attributes.ensures.octets in
    let made = request_made frame pairs c.told-authenticator in
    let long : 20 + c.len-length.result ≡ length (request_octets c.args.code c.args.id authenticator pairs c.args.secret.now) =
    omega (arith, c.len-length.ensures, ap length body, made.long) in
    (c.in_ok-attributes.ensures.short, omega (arith, long, c.if-length-gt-LONGEST_PACKET.true), c.carried.ensures ∙ ap carried long)

pub returns-clause-well_formed : goal.returns-clause-well_formed
returns-clause-well_formed c =
    let pairs = c.args.lists.now.request in
    let authenticator = c.args.authenticator.now in
    let frame = frame_of c.args.code c.args.id authenticator pairs c.args.secret.now in
    let challenge : c.as_slice.result.now ≡ challenge_of pairs authenticator = c.as_slice.ensures ∙ c.in_ok-challenge.ensures in
    let body = rw challenge at c.in_ok-attributes.ensures.octets in
    let made = request_made frame pairs c.told-authenticator in
    let short : body_size frame pairs ≤ 4076 = omega (arith, c.len-length.ensures, ap length body, c.if-length-gt-LONGEST_PACKET.false) in
    (finished_attributes frame pairs, rw (c.from_vec.ensures, c.in_ok-signed.ensures.octets, challenge) (made.packet short))
