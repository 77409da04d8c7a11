use Rattle.std.proofs.Common.{map}
use Rattle.rad_words.specs.Names.{row_of}
use Rattle.rad_words.proofs.Inverse.{answered_name}
use Rattle.rad_words.proofs.names.Names.name.Goals as goal

pub returns-clause-inverse : goal.returns-clause-inverse
returns-clause-inverse g c =
    answered_name (map row_of c.self.inside.rows.now) c.args.self.now c.args.number c.name_in.result c.self.view_is c.self.invariant.1 c.name_in.ensures
