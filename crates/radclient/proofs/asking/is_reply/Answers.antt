use Rattle.std.proofs.Common.{◌≡◌, ◌&&◌, Bool, true, sym, ap, ◌∙◌}
use Rattle.radclient.specs.Judging.{is_accepted, is_peer}
use Rattle.radclient.proofs.Accepting.{answers_test}
use Rattle.radclient.proofs.asking.is_reply.Goals as goal

pub returns-then-eq : goal.returns-then-eq
returns-then-eq c =
    let asked = c.args.asked.now in
    let request = c.args.request.now in
    let octets = c.args.octets.now in
    let from : is_peer c.args.from asked.server ≡ true = sym c.eq.ensures ∙ c.if-eq.true in
    c.is_ok.ensures.value
    ∙ answers_test c.accepts_reply.result request octets c.as_slice.result.now c.accepts_reply.ensures.accepted c.accepts_reply.ensures.refused
    ∙ ap (is_accepted request octets) c.as_slice.ensures
    ∙ ap (λ (b : Bool). b && is_accepted request octets asked.secret) (sym from)
