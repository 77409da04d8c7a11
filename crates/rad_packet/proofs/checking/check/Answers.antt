use Rattle.rad_packet.proofs.Datagrams.{wrong_authenticator_first, wrong_message_authenticator_first}
use Rattle.rad_packet.proofs.checking.check.Goals as goal

pub returns-in-Auth-2-clause-dropped : goal.returns-in-Auth-2-clause-dropped
returns-in-Auth-2-clause-dropped c =
    let packet = c.in_ok-packet.ensures in
    rw c.in-Some.is
    (wrong_message_authenticator_first c.args.bytes.now c.in-Some.client.now c.args.kind c.in-Auth.is packet.code
    (rw packet.packet.0 at packet.checked.well_formed)
    (rw (c.authenticator.ensures.value, packet.packet.0, c.as_slice-secret.ensures) at (c.if-is_intact.ensures.no)))

pub returns-in-Acct-2-clause-dropped : goal.returns-in-Acct-2-clause-dropped
returns-in-Acct-2-clause-dropped c =
    let packet = c.in_ok-packet.ensures in
    rw c.in-Some.is
    (wrong_authenticator_first c.args.bytes.now c.in-Some.client.now c.args.kind c.in-Acct.is packet.code
    (rw packet.packet.0 at packet.checked.well_formed)
    (rw (packet.packet.0, c.as_slice-secret.ensures) at (c.if-is_accounting_signed.ensures.no)))
