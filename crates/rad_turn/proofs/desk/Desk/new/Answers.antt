use Rattle.std.proofs.Common.{rules, ◌≡◌, [], ◌∷◌}
use Rattle.rad_turn.proofs.Ending.{opens}
use Rattle.rad_turn.proofs.desk.Desk.new.Goals as goal

pub new-requires : goal.new-requires
new-requires g c =
    let about : c.of-about.result.value ≡ c.args.value = search rules in
    let slots : c.push.new.self.items ≡ c.args.value ∷ [] = search rules in
    rw (about, slots) (opens g.S.Stands.stands g.S.Stands.origin g.S.Stands.by c.args.value (g.S.Stands.beginning c.args.value) c.requires.stands)
