-- Where pairs stand among nodes, by the keys of their names, so that the last pair of a name is found without a look at the others.
-- This project's own; names go by the hash of Fowler, Noll and Vo, with a sum.
use Rattle.std.specs.Prelude.{ℕ, suc, ◌+◌, ◌*◌, ◌^◌, ◌%◌, Bool, false, ◌==◌, List, [], ◌∷◌, Option, Some, None, option_map, if◌then◌else◌}
use Rattle.rad_conf.specs.declared.tree.Node.{Node}
use Rattle.rad_conf.specs.declared.tree.Item.{out-Item}
use Rattle.rad_conf.specs.declared.tree.Item.TheOpen as level

-- A key that goes on with an octet.
unfoldable pub key_with : ℕ → ℕ → ℕ
key_with key octet = (key * 1099511628211 + octet) % 2 ^ 64

-- A key that goes on with octets.
unfoldable pub octets_key : ℕ → List ℕ → ℕ
octets_key key [] = key
octets_key key (octet ∷ octets) = octets_key (key_with key octet) octets

-- The key of a name.
abbrev pub key_of : List ℕ → ℕ
key_of name = octets_key 0 name

-- The key of a pair's name.
abbrev pub pair_key : Node → Option ℕ
pair_key node = elim (out-Item node.item) [
  | level.Pair left operator right ↦ Some (key_of left.text)
  | level.Name word ↦ None
  | level.Block kind called body ↦ None
]

-- Whether a pair has a name of this key.
abbrev pub is_key : ℕ → Option ℕ → Bool
is_key key None = false
is_key key (Some one) = one == key

-- The last of two, or else the first.
abbrev pub later : Option ℕ → Option ℕ → Option ℕ
later first None = first
later first (Some place) = Some place

-- The place of the last pair whose name has this key, counted from 0.
unfoldable pub last_place : ℕ → List Node → Option ℕ
last_place key [] = None
last_place key (node ∷ nodes) = later (if is_key key (pair_key node) then Some 0 else None) (option_map suc (last_place key nodes))
