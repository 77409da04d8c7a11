use Rattle.rad_site.proofs.Served.{served_by}
use Rattle.rad_site.proofs.build.policies.policies_in.Goals as goal

pub invariant_of-result : goal.invariant_of-result
invariant_of-result c =
    served_by c.args.conf.now c.args.dict.now c.modules.inside.instances c.modules.inside.stack c.in_ok-sections.sections c.in_ok-table.table
    c.modules.invariant.in_step c.in_ok-sections.ensures c.in_ok-table.ensures
