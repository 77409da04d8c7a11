-- Where the names of a section's statements are looked up. This project's own.
use Rattle.std.specs.Prelude.{List}
use Rattle.rad_conf.specs.declared.tree.Node.{Node}
use Rattle.rad_dict.specs.Definitions.{Definitions}
use Rattle.unlang_tree.specs.declared.site.SiteRef.{SiteRef}
use Rattle.unlang_tree.specs.Instances.{Instance}

-- The nodes at the top of the configuration, in which policies are written, the dictionary, and the instances.
pub record Site : Type 0 where
  pub root : List Node
  pub dict : Definitions
  pub instances : List Instance

-- What is lent stands for this.
abbrev pub site_of : SiteRef → Site
site_of lent = record { root = lent.root.now; dict = lent.dict.now; instances = lent.instances.now }
