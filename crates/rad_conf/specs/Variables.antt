-- The variables of a configuration: the values of the pairs that were read before. After the manual page radiusd.conf(5).
use Rattle.std.specs.Prelude.{ℕ, Bool, true, false, ◌==◌, List, [], ◌∷◌, ◌++◌, reverse, Option, Some, None, if◌then◌else◌}
use Rattle.std.specs.Str.{bytes_eq}
use Rattle.rad_conf.specs.declared.tree.Node.{Node}
use Rattle.rad_conf.specs.declared.tree.Item.{out-Item}
use Rattle.rad_conf.specs.declared.tree.Item.TheOpen as level
use Rattle.rad_conf.specs.declared.growth.Open.{Open}
use Rattle.rad_conf.specs.declared.growth.Growth.{Growth}

-- The first of two, or else the second.
abbrev pub or_else : {A : Type 0} → Option A → Option A → Option A
or_else None second = second
or_else (Some x) second = Some x

-- The value of a pair of this name. Names are exact.
abbrev pub pair_value : List ℕ → Node → Option (List ℕ)
pair_value name node = elim (out-Item node.item) [
  | level.Pair left operator right ↦ if bytes_eq left.text name then Some right.text else None
  | level.Name word ↦ None
  | level.Block kind called body ↦ None
]

-- The value of the first pair of this name among these nodes.
unfoldable pub first_value : List ℕ → List Node → Option (List ℕ)
first_value name [] = None
first_value name (node ∷ nodes) = or_else (pair_value name node) (first_value name nodes)

-- The value of the last pair of this name among these nodes.
abbrev pub last_value : List ℕ → List Node → Option (List ℕ)
last_value name nodes = first_value name (reverse nodes)

-- The value of the nearest pair of this name: in a block so far, else in the blocks around it, the innermost first, before what is
-- open in each.
unfoldable pub nearest_value : List ℕ → List Node → List Open → Option (List ℕ)
nearest_value name nodes [] = last_value name nodes
nearest_value name nodes (block ∷ outer) = or_else (last_value name nodes) (nearest_value name block.before outer)

-- The nodes of a block of this kind.
abbrev pub body_of_kind : List ℕ → Node → List Node
body_of_kind wanted node = elim (out-Item node.item) [
  | level.Pair left operator right ↦ []
  | level.Name word ↦ []
  | level.Block kind called body ↦ if bytes_eq kind.text wanted then body else []
]

-- All that stands in blocks of this kind, in order.
unfoldable pub within : List ℕ → List Node → List Node
within kind [] = []
within kind (node ∷ nodes) = body_of_kind kind node ++ within kind nodes

-- What stands so far right in the block around these open blocks, the outermost first: before the first of them, or these nodes of
-- the innermost block where none is left.
abbrev pub level_of : List Open → List Node → List Node
level_of [] last = last
level_of (block ∷ inner) last = block.before

-- What stands in blocks of a kind, among nodes and the open block behind them, which counts with what stands in it so far.
abbrev pub inside : List ℕ → List Node → List Node → List Open → List Node × List Open
inside kind last nodes [] = (within kind nodes, [])
inside kind last nodes (block ∷ inner) =
    if bytes_eq block.kind.text kind then (within kind nodes ++ level_of inner last, inner) else (within kind nodes, [])

-- The value of the last pair whose name stands behind the last dot, in blocks of the kinds that stand before it, parted by dots.
unfoldable pub value_from : List ℕ → List ℕ → List Node → List Node × List Open → Option (List ℕ)
value_from part [] last seen = last_value part seen.0
value_from part (c ∷ name) last seen =
    if c == 46 then value_from [] name last (inside part last seen.0 seen.1) else value_from (part ++ c ∷ []) name last seen

-- Whether a name has a dot.
unfoldable pub has_dot : List ℕ → Bool
has_dot [] = false
has_dot (c ∷ name) = if c == 46 then true else has_dot name

-- The value of a variable: a name with dots is looked up from the top.
abbrev pub value_of : Growth → List ℕ → Option (List ℕ)
value_of growth name =
    if has_dot name then value_from [] name growth.nodes (level_of growth.opens growth.nodes, growth.opens) else nearest_value name growth.nodes (reverse growth.opens)
