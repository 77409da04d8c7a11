use Rattle.rad_edge.proofs.Listings.{names_ascend, names_are_whole}
use Rattle.rad_edge.proofs.laws.folders_are_listed_whole_and_in_order.Goals as goal

pub returns-clause-whole : goal.returns-clause-whole
returns-clause-whole c = names_are_whole

pub returns-clause-ordered : goal.returns-clause-ordered
returns-clause-ordered c = names_ascend
