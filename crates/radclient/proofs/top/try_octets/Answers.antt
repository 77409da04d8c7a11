use Rattle.std.proofs.Common.{refl}
use Rattle.radclient.specs.Program.{Hungry}
use Rattle.radclient.proofs.top.try_octets.Goals as goal

pub returns-in-Err : goal.returns-in-Err
returns-in-Err g c = Hungry refl
