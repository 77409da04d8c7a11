-- Attributes written at the end of octets, where they fit. This project's own.
use Rattle.std.specs.Prelude.{ℕ, ◌≡◌, ◌+◌, Bool, nat_le, if◌then◌else◌, List, ◌++◌, length}
use Rattle.std.specs.List.{flat_map}
use Rattle.rad_packet.specs.Packet.{Attribute, spelled}

-- These attributes were written at the end of octets if they fit up to this limit, and whether they did.
pub record IsAppended (limit : ℕ) (before after : List ℕ) (attributes : List Attribute) (fit : Bool) : Type 0 where
  pub fit_is : fit ≡ nat_le (length before + length (flat_map spelled attributes)) limit
  pub after_is : after ≡ (if fit then before ++ flat_map spelled attributes else before)
