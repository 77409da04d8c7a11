use Rattle.std.proofs.Common.{ℕ, map, ap, ◌∙◌}
use Rattle.std.specs.Arc.{arc_value}
use Rattle.rad_sessions.specs.Parts.{found_in}
use Rattle.rad_sessions.proofs.Parting.{found_again}
use Rattle.rad_sessions.proofs.parts.Parts.at.Goals as goal

pub returns : goal.returns
returns c =
    let place : ℕ × ℕ = (c.args.nas, c.args.port) in
    rw (← c.self.view_is)
    (c.found_in.ensures ∙ ap (λ l. found_in place (map arc_value l)) c.as_slice.ensures.value ∙ found_again place (map arc_value c.self.inside.parts.items) c.self.invariant)
