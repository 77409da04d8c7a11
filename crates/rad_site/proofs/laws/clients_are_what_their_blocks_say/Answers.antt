use Rattle.rad_site.proofs.ClientLaw.{said_by_blocks, are_new}
use Rattle.rad_site.proofs.laws.clients_are_what_their_blocks_say.Goals as goal

pub returns-clause-said : goal.returns-clause-said
returns-clause-said c = said_by_blocks

pub returns-clause-new : goal.returns-clause-new
returns-clause-new c = are_new
