-- Networks as they are written, `a.b.c.d` or `a.b.c.d/bits`. After the section on clients of the manual page radiusd.conf(5).
use Rattle.std.specs.Prelude.{ℕ, ◌+◌, ◌==◌, List, length, take, drop, nat_le, Option, Some, None, if◌then◌else◌}
use Rattle.std.specs.List.{position}
use Rattle.std.specs.Option.{option_map}
use Rattle.rad_text.specs.Find.{◌>>=◌}
use Rattle.rad_text.specs.Numerals.{number_of}
use Rattle.rad_text.specs.Addresses.{address_of}
use Rattle.rad_clients.specs.declared.written.Network.{Network}

-- The length of a prefix: 1 to 10 decimal digits, 32 at most.
abbrev pub bits_of : List ℕ → Option ℕ
bits_of text = if nat_le (length text) 10 then (number_of 10 text >>= λ bits. if nat_le bits 32 then Some bits else None) else None

-- The network of an address all of whose bits count.
abbrev pub whole_network : List ℕ → Option Network
whole_network text = option_map (λ (addr : ℕ). record { addr = addr; bits = 32 }) (address_of text)

-- The network of an address and of what stands behind its slash.
abbrev pub network_with : List ℕ → List ℕ → Option Network
network_with front behind = do
  addr ← address_of front
  bits ← bits_of behind
  Some (record { addr = addr; bits = bits })

-- The network that a text is.
unfoldable pub network_of : List ℕ → Option Network
network_of text = elim (position (λ (c : ℕ). c == 47) text) [
  | None ↦ whole_network text
  | Some slash ↦ network_with (take slash text) (drop (slash + 1) text)
]
