use Rattle.std.proofs.Common.{rules, ◌≡◌, [], ◌∙◌}
use Rattle.rad_turn.specs.Sides.{view}
use Rattle.rad_turn.proofs.Having.{out_is, empty_is}
use Rattle.rad_turn.proofs.Ending.{closes}
use Rattle.rad_turn.proofs.desk.Desk.close.Goals as goal

pub returns-clause-closed : goal.returns-clause-closed
returns-clause-closed g c =
    let seat = c.args.seat in
    let none_out : seat.out.items ≡ [] = empty_is seat.out.items (search rules) in
    let alone : (view seat).out ≡ [] = out_is seat.place.me.0 seat.idle ∙ (seat.others ∙ none_out) in
    (alone, closes g.S.Stands.stands g.S.Stands.origin g.S.Stands.by _ seat.place.me.0 seat.idle _ _ _ c.requires.first alone c.close_with-closed.ensures.values.2 c.take-value.ensures.value)
