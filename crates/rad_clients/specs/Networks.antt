-- Networks of clients, and the client of an address. After the section on clients of the manual page radiusd.conf(5); prefixes as in
-- RFC 4632 section 3.1.
use Rattle.std.specs.Prelude.{ℕ, ◌≡◌, ◌≤◌, zero, suc, ◌+◌, ◌*◌, ◌-◌, ◌/◌, ◌^◌, ◌==◌, ◌&&◌, Bool, List, Option}
use Rattle.std.specs.List.{find, Contains}
use Rattle.std.specs.Option.{option_or}
use Rattle.rad_packet.specs.declared.client.Client.{Client}

-- The first bits of an address of 32 bits, as a number.
abbrev pub network : ℕ → ℕ → ℕ
network bits addr = addr / 2 ^ (32 - bits)

-- An address is in a client's network where their first bits are the same.
abbrev pub HasAddress : Client → ℕ → Type 0
HasAddress client addr = network client.bits client.addr ≡ network client.bits addr

-- A client that is the network of so many bits that has the address.
abbrev pub is_of : ℕ → ℕ → Client → Bool
is_of bits addr client = client.bits == bits && network bits client.addr == network bits addr

-- The first client with the longest prefix, of at most so many bits, whose network has the address.
unfoldable pub nearest_of : ℕ → ℕ → List Client → Option Client
nearest_of zero addr clients = find (is_of 0 addr) clients
nearest_of (suc bits) addr clients = option_or (find (is_of (suc bits) addr) clients) (nearest_of bits addr clients)

-- The client of an address.
abbrev pub client_of : ℕ → List Client → Option Client
client_of addr clients = nearest_of 32 addr clients

-- A client is an address's: its network has the address, and no client whose network has it has a longer prefix.
pub record IsNearest (client : Client) (addr : ℕ) (clients : List Client) : Type 0 where
  pub there : Contains clients client
  pub has : HasAddress client addr
  pub longest : (other : Client) → Contains clients other → HasAddress other addr → other.bits ≤ client.bits

-- The key of a network, below 2 ^ 38: no two networks have one.
abbrev pub network_key : ℕ → ℕ → ℕ
network_key bits addr = bits * 4294967296 + network bits addr

-- The key of a client's network.
abbrev pub key_of : Client → ℕ
key_of client = network_key client.bits client.addr
