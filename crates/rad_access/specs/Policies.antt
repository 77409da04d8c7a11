-- The policies of a site: its modules by their instance numbers, and the table of its servers' sections, which call them.
-- After the manual pages radiusd.conf(5) and unlang(5).
use Rattle.std.specs.Prelude.{List}
use Rattle.unlang_tree.specs.declared.policies.ServerTree.{ServerTree}
use Rattle.rad_modules.specs.declared.site_module.SiteModule.{SiteModule}

-- The modules, by number, and the servers with their sections.
pub record Policies : Type 0 where
  pub stack : List SiteModule
  pub table : List ServerTree
