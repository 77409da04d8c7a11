use Rattle.std.proofs.Common.{List, ℕ, inr, subst}
use Rattle.radclient.specs.Program.{Read}
use Rattle.radclient.proofs.top.read_file.Goals as goal

pub returns-in-Ok : goal.returns-in-Ok
returns-in-Ok g c =
    subst (λ (path : List ℕ). Read path (g.F.Files.told c.args.files.now) (g.F.Files.told c.read_path.new.files) (g.F.Files.faults c.args.files.now) (g.F.Files.faults c.read_path.new.files) c.read_path.result)
    c.in-Ok.ensures.cases.0 c.read_path.ensures

pub returns-in-Err : goal.returns-in-Err
returns-in-Err g c = inr (inr c.in-Err.ensures.cases.0)
