use Rattle.std.proofs.Common.{sym, subst}
use Rattle.rad_turn.specs.Sides.{AreOf}
use Rattle.turns_cases.proofs.Owning.{owned_more}
use Rattle.turns_cases.proofs.office.put_in.Goals as goal

pub returns : goal.returns
returns c = record { owns = subst (λ seats. AreOf c.args.desk.now seats) (sym c.in_ok-push.ensures.items) (owned_more c.args.desk.now c.args.others.now.items c.args.seat c.requires.owns c.requires.own) }
