use Rattle.std.proofs.Common.{map, length, ap, ◌∙◌, arith}
use Rattle.std.specs.Arc.{arc_value}
use Rattle.rad_sessions.specs.Parts.{lengths}
use Rattle.rad_sessions.proofs.Merging.{lengths_again}
use Rattle.rad_sessions.proofs.parts.Parts.len.Goals as goal

pub lengths-requires : goal.lengths-requires
lengths-requires c =
    let all = ap (λ l. lengths (map arc_value l)) c.as_slice.ensures.value ∙ lengths_again (map arc_value c.self.inside.parts.items) c.self.invariant ∙ ap length c.self.view_is in
    omega (arith, all, c.requires)

pub returns : goal.returns
returns c = c.lengths.ensures ∙ ap (λ l. lengths (map arc_value l)) c.as_slice.ensures.value ∙ lengths_again (map arc_value c.self.inside.parts.items) c.self.invariant ∙ ap length c.self.view_is
