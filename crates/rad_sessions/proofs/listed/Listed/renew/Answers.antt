use Rattle.std.proofs.Common.{sym, ◌∙◌, arith}
use Rattle.rad_sessions.proofs.Sizes.{renewed_grows_nothing, on_ok}
use Rattle.rad_sessions.proofs.listed.Listed.renew.Goals as goal

pub returns-in-Some-clause-length : goal.returns-in-Some-clause-length
returns-in-Some-clause-length c =
    let none = renewed_grows_nothing (c.args.nas, c.args.port) c.args.framed c.args.self.now c.in-Some.session (sym c.in_ok-session.ensures ∙ c.in-Some.is) in
    on_ok c.begin.result (λ by. omega (arith, by, none)) c.begin.ensures.grown
