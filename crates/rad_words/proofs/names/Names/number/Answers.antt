use Rattle.std.proofs.Common.{map}
use Rattle.rad_words.specs.Names.{row_of}
use Rattle.rad_words.proofs.Inverse.{answered_number}
use Rattle.rad_words.proofs.names.Names.number.Goals as goal

pub returns-clause-inverse : goal.returns-clause-inverse
returns-clause-inverse g c =
    answered_number (map row_of c.self.inside.rows.now) c.args.self.now c.args.name.now c.number_in.result c.self.view_is c.self.invariant.1 c.number_in.ensures
