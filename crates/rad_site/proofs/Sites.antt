-- A site behind the clients that were read.
use Rattle.std.proofs.Common.{◌≡◌, ℕ, List, Option, Result, Ok, sym, ap}
use Rattle.rad_outside.specs.Files.{FilesTold}
use Rattle.rad_dict.specs.Definitions.{Definitions}
use Rattle.rad_conf.specs.declared.tree.Node.{Node}
use Rattle.rad_packet.specs.declared.client.Client.{Client}
use Rattle.rad_build.specs.declared.settings.Settings.{Settings}
use Rattle.rad_build.specs.declared.fault.BuildFault.{BuildFault}
use Rattle.rad_site.specs.Site.{Site}
use Rattle.rad_build.specs.Nodes.{◌>>=◌}
use Rattle.rad_build.specs.Sources.{FindsIn}
use Rattle.rad_build.specs.ModulesBlock.{modules_in}
use Rattle.rad_site.specs.Built.{front_in, site_behind, site_of}
use Rattle.rad_build.proofs.Finding.{FindsIn-same}

pub behind_clients : (folder : List ℕ) (dict : Definitions) (nodes : List Node) (front : Settings × List Client) (answer : Result Site BuildFault) (a b : Option FilesTold) → front_in nodes ≡ Ok front
    → FindsIn folder (λ sources. modules_in sources dict nodes >>= λ modules. site_behind dict front modules nodes) answer a b → FindsIn folder (λ sources. site_of sources dict nodes) answer a b
unfolding site_of
behind_clients folder dict nodes front answer a b is =
    FindsIn-same folder (λ sources. modules_in sources dict nodes >>= λ modules. site_behind dict front modules nodes) (λ sources. site_of sources dict nodes) answer a b
    (λ sources. sym (ap (λ (r : Result (Settings × List Client) BuildFault). r >>= λ c. modules_in sources dict nodes >>= λ modules. site_behind dict c modules nodes) is))
