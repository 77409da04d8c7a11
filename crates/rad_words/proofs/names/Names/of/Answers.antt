use Rattle.std.proofs.Common.{map}
use Rattle.rad_words.specs.Names.{row_of}
use Rattle.rad_words.proofs.Inverse.{are_inverse}
use Rattle.rad_words.proofs.names.Names.of.Goals as goal

pub returns-clause-inverse : goal.returns-clause-inverse
returns-clause-inverse g c = are_inverse (map row_of c.args.rows.now) c.requires.differ
