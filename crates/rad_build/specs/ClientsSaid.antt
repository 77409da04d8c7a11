-- What a site's clients are, in the words of their blocks. After the manual page radiusd.conf(5).
use Rattle.std.specs.Prelude.{ℕ, ◌≡◌, List, Option, None, find, codes}
use Rattle.std.specs.Option.{option_map, option_and_then}
use Rattle.rad_conf.specs.declared.tree.Node.{Node}
use Rattle.rad_packet.specs.declared.client.Client.{Client}
use Rattle.rad_clients.specs.declared.written.Network.{Network}
use Rattle.rad_clients.specs.Networks.{is_of}
use Rattle.rad_clients.specs.Written.{network_of}
use Rattle.rad_build.specs.Items.{setting_of, pair_named, named_block}
use Rattle.rad_build.specs.ClientBlock.{secret_value}

-- What a pair sets its name to, by `=` or `:=`, where the value has the form.
abbrev pub set_to : {A : Type 0} → (List ℕ → Option A) → Node → Option A
set_to form node = option_and_then (λ (setting : List ℕ × List ℕ). form setting.1) (setting_of node)

-- What the first pair of a name among items sets it to.
abbrev pub set_in : {A : Type 0} → (List ℕ → Option A) → List ℕ → List Node → Option A
set_in form name items = option_and_then (set_to form) (pair_named name items)

-- The client of a name, a network and a secret.
abbrev pub client_of_parts : List ℕ → Network → List ℕ → Client
client_of_parts name network secret = record { name = name; addr = network.addr; bits = network.bits; secret = secret }

-- The client of a name and of the items of its block: of the network of the first `ipaddr`, by the first `secret`.
abbrev pub client_by : List ℕ × List Node → Option Client
client_by block =
    option_and_then (λ (network : Network). option_map (client_of_parts block.0 network) (set_in secret_value (codes "secret") block.1))
    (set_in network_of (codes "ipaddr") block.1)

-- The client that a block says there is.
abbrev pub said_client : Node → Option Client
said_client node = option_and_then client_by (named_block node)

-- A client is of another network than those that stand.
abbrev pub IsOfAnother : List Client → Client → Type 0
IsOfAnother known one = find (is_of one.bits one.addr) known ≡ None
