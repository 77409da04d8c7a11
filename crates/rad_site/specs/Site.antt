-- A generation of a site: its clients, its policies and its listener, after FreeRADIUS' radiusd.conf(5).
use Rattle.std.specs.Prelude.{ℕ, List}
use Rattle.rad_outside.specs.declared.listen.Peer.{Peer}
use Rattle.rad_dict.specs.Definitions.{Definitions}
use Rattle.rad_packet.specs.declared.client.Client.{Client}
use Rattle.rad_build.specs.declared.settings.Settings.{Settings}
use Rattle.rad_access.specs.Policies.{Policies}

-- The dictionary, the settings, the clients in order, the modules with the sections of the servers that call them, and the listener: the
-- name of its server, and where it is bound.
pub record Site : Type 0 where
  pub dict : Definitions
  pub settings : Settings
  pub clients : List Client
  pub policies : Policies
  pub server : List ℕ
  pub at : Peer
