use Rattle.std.proofs.Common.{rules}
use Rattle.rad_turn.proofs.Turning.{gives_made}
use Rattle.rad_turn.proofs.desk.Desk.give.Goals as goal

pub fetch_add-requires : goal.fetch_add-requires
fetch_add-requires g c = (search rules, search rules, gives_made g.S.Stands.stands g.S.Stands.origin g.S.Stands.by _ _ _ _ _ _ c.requires.made)
