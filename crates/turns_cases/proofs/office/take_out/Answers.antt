use Rattle.std.proofs.Common.{sym, subst}
use Rattle.rad_turn.specs.Sides.{IsOf, AreOf}
use Rattle.turns_cases.proofs.Owning.{owned_at, owned_less}
use Rattle.turns_cases.proofs.office.take_out.Goals as goal

pub returns : goal.returns
returns c = let t = c.remove.ensures in record {
  own = subst (λ seat. IsOf c.args.desk.now seat) (sym t.value) (owned_at c.args.desk.now c.args.others.now.items c.args.at _ c.requires.there c.requires.owns);
  owns = subst (λ seats. AreOf c.args.desk.now seats) (sym t.items) (owned_less c.args.desk.now c.args.others.now.items c.args.at c.requires.owns);
}
