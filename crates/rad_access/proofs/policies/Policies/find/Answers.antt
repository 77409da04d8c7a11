use Rattle.std.specs.Prelude.{IfSome}
use Rattle.std.specs.Option.{option_copied}
use Rattle.std.proofs.Common.{subst}
use Rattle.rad_access.specs.Access.{HasStatements}
use Rattle.rad_access.specs.Policies.{Policies}
use Rattle.rad_access.proofs.Running.{stands_if}
use Rattle.rad_access.proofs.policies.Policies.find.Goals as goal

pub returns-in-Some-clause-stands : goal.returns-in-Some-clause-stands
returns-in-Some-clause-stands c =
    subst (λ (p : Policies). IfSome c.find.result (HasStatements p.table)) c.self.view_is
    (stands_if c.self.inside.table c.in-Some.number c.args.section (option_copied c.args.sub) c.find.result c.find.ensures)
