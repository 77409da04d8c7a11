use Rattle.std.proofs.Common.{refl, ap, subst, ◌∙◌}
use Rattle.rad_dict.specs.Definitions.{Definitions}
use Rattle.mod_base.specs.Reaching.{Reaches}
use Rattle.rad_wire.specs.Pairs.{pairs_of, requested}
use Rattle.rad_policy.specs.Seen.{arrived_of}
use Rattle.rad_access.specs.Decided.{decided}
use Rattle.rad_site.specs.BareWorld.{bare_state}
use Rattle.rad_site.specs.Site.{Site}
use Rattle.rad_site.proofs.Requests.{answers_by}
use Rattle.rad_site.proofs.generation.Generation.answer.Goals as goal

pub returns-clause-outcome : goal.returns-clause-outcome
returns-clause-outcome c =
    let site = c.args.self.now in
    let packet = c.in-Ok.request.octets.now in
    let secret = c.secret-secret.result.now in
    let w0 = bare_state c.new-world.result in
    let w1 = bare_state c.decide.new.world in
    let verdict = c.in_ok-verdict.verdict in
    let reached = subst (λ (s : Site). Reaches c.new-scope.result w0 (decided s.policies s.dict c.args.arrival.now.server.now) c.decide.new.scope w1 (λ x. (x, verdict))) c.self.view_is c.in_ok-verdict.ensures.ok in
    answers_by site (arrived_of c.args.arrival.now) packet secret c.in_ok-lists.lists c.new-scope.result c.decide.new.scope w0 w1 c.args.moment c.args.luck c.authenticator_of-authenticator.result verdict c.reply_to.result
    c.in-Ok.ensures.packet.0 c.secret-secret.ensures
    (c.in_ok-lists.ensures ∙ ap (λ (d : Definitions). requested (pairs_of packet secret d)) (ap (λ (s : Site). s.dict) c.self.view_is))
    c.new-scope.ensures.fresh c.new-scope.ensures.given c.authenticator_of-authenticator.ensures refl
    reached c.reply_to.ensures.reply
