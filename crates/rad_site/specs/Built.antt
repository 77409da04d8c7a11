-- What a site's folder is built to: a generation, or the first fault. The file is after the manual page radiusd.conf(5);
-- which items are built is this project's own.
use Rattle.std.specs.Prelude.{ℕ, Bool, [], ◌∷◌, ◌++◌, ◌||◌, List, length, nat_le, Some, None, Result, Ok, codes, if◌then◌else◌}
use Rattle.std.specs.Option.{is_some}
use Rattle.std.specs.List.{find}
use Rattle.rad_outside.specs.declared.files.Place.{Place}
use Rattle.rad_outside.specs.Files.{octets_at}
use Rattle.rad_dict.specs.Definitions.{Definitions}
use Rattle.rad_dict.specs.Base.{base_definitions}
use Rattle.rad_dict.specs.Includes.{dict_of}
use Rattle.rad_conf.specs.declared.tree.Node.{Node}
use Rattle.rad_conf.specs.Conf.{conf_at, path_of}
use Rattle.rad_policy.specs.Policy.{Sources}
use Rattle.rad_packet.specs.declared.client.Client.{Client}
use Rattle.rad_clients.specs.Networks.{is_of}
use Rattle.unlang_tree.specs.Policies.{policies_of}
use Rattle.rad_build.specs.declared.servers.Listener.{Listener}
use Rattle.rad_build.specs.declared.fault.BuildFault.{BuildFault}
use Rattle.rad_site.specs.Site.{Site}
use Rattle.rad_build.specs.Nodes.{◌>>=◌, refused, bad_setting, formed, after_each}
use Rattle.rad_build.specs.Items.{is_block}
use Rattle.rad_build.specs.ConfFault.{of_conf}
use Rattle.rad_build.specs.DictFault.{of_dict}
use Rattle.rad_build.specs.ClientBlock.{client_at}
use Rattle.rad_build.specs.declared.settings.Settings.{Settings}
use Rattle.rad_build.specs.Settings.{settings_in}
use Rattle.rad_build.specs.TreeFault.{of_tree}
use Rattle.rad_build.specs.Modules.{Modules}
use Rattle.rad_build.specs.ModulesBlock.{modules_in}
use Rattle.rad_build.specs.ServerBlocks.{servers_in}
use Rattle.rad_access.specs.Policies.{Policies}

-- The configuration's file, and the place that stands for it as a whole.
abbrev pub conf_name : List ℕ
conf_name = codes "radiusd.conf"

-- The dictionary's file.
abbrev pub dict_name : List ℕ
dict_name = codes "dictionary"

-- The place of what the whole configuration lacks: line 0.
abbrev pub whole_conf : Place
whole_conf = record { file = conf_name; line = 0 }

-- The most clients of a site.
abbrev pub most_clients : ℕ
most_clients = 4096

-- A block of a client.
abbrev pub is_client : Node → Bool
is_client = is_block (codes "client")

-- Blocks at the top that aren't built and would change what the site means: that of the control wire.
abbrev pub is_unbuilt : Node → Bool
is_unbuilt = is_block (codes "control")

-- At the top stands no block that isn't built. Other settings and blocks are passed over.
abbrev pub none_unbuilt : List Node → Result (Unit {0}) BuildFault
none_unbuilt nodes = elim (find is_unbuilt nodes) [ None ↦ Ok tt | Some node ↦ refused node.place ]

-- The clients with one more. Another one of the same network, or one beyond the most, is refused by its name.
unfoldable pub with_client : List Client → Node → Result (List Client) BuildFault
with_client known node = do
  client ← client_at node
  if is_some (find (is_of client.bits client.addr) known) || nat_le most_clients (length known) then bad_setting node.place client.name else Ok (known ++ client ∷ [])

-- The clients after one more item of the top: one that is no client is passed over.
abbrev pub with_item : List Client → Node → Result (List Client) BuildFault
with_item known node = if is_client node then with_client known node else Ok known

-- The clients of a whole configuration, in order.
unfoldable pub clients_in : List Node → Result (List Client) BuildFault
clients_in nodes = do
  all_built ← none_unbuilt nodes
  after_each with_item [] nodes

-- The policies of a configuration with these modules: the sections of its servers, whose calls are of them.
unfoldable pub policies_in : Definitions → Modules → List Node → Result Policies BuildFault
policies_in dict modules nodes = of_tree (policies_of nodes dict modules.instances) >>= λ table. Ok (record { stack = modules.stack; table = table })

-- What stands before the modules: the settings, and then the clients.
unfoldable pub front_in : List Node → Result (Settings × List Client) BuildFault
front_in nodes = do
  settings ← settings_in nodes
  clients ← clients_in nodes
  Ok (settings, clients)

-- The site with this dictionary, these settings and clients, these policies and this listener.
abbrev pub site_with : Definitions → Settings × List Client → Policies × Listener → Site
site_with dict front parts = record {
  dict = dict;
  settings = front.0;
  clients = front.1;
  policies = parts.0;
  server = parts.1.server;
  at = parts.1.at;
}

-- The policies of a configuration with these modules, and its listener: first the servers' own settings, then what stands in
-- their sections. A configuration without a listener is refused last of all.
unfoldable pub parts_in : Definitions → Modules → List Node → Result (Policies × Listener) BuildFault
parts_in dict modules nodes = do
  servers ← servers_in nodes
  policies ← policies_in dict modules nodes
  listener ← formed whole_conf (codes "listen") servers.listener
  Ok (policies, listener)

-- The site behind its modules.
unfoldable pub site_behind : Definitions → Settings × List Client → Modules → List Node → Result Site BuildFault
site_behind dict front modules nodes = parts_in dict modules nodes >>= λ parts. Ok (site_with dict front parts)

-- The site of a whole configuration with this dictionary: its settings, its clients, its modules with their files, and its servers with
-- their policies.
unfoldable pub site_of : Sources → Definitions → List Node → Result Site BuildFault
site_of sources dict nodes = do
  front ← front_in nodes
  modules ← modules_in sources dict nodes
  site_behind dict front modules nodes

-- The dictionary of a site: its file `dictionary`, and the base alone where that is missing.
unfoldable pub dict_at : Sources → Result Definitions BuildFault
dict_at sources = elim (octets_at (path_of sources.folder dict_name) sources.files) [
  | None ↦ Ok base_definitions
  | Some text ↦ of_dict (dict_of (path_of sources.folder dict_name) sources.files)
]

-- The site of the configuration in its folder. A fault of the file itself comes first, and then one of the dictionary.
abbrev pub built : Sources → Result Site BuildFault
built sources = do
  nodes ← of_conf (conf_at sources.folder conf_name sources.files)
  dict ← dict_at sources
  site_of sources dict nodes
