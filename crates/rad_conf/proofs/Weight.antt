-- How many nodes a list of trees has: what falls while it is taken apart.
use Rattle.std.proofs.Common.{◌≡◌, ℕ, suc, ◌+◌, ◌<◌, List, [], ◌∷◌, ◌++◌, map, Some, ap, ◌∙◌, arith}
use Rattle.rad_conf.specs.declared.tree.Node.{Node}
use Rattle.rad_conf.specs.declared.tree.Item.{Item, out-Item}
use Rattle.rad_conf.specs.declared.tree.Item.TheOpen.{Item-F, Node-F}
use Rattle.rad_conf.specs.declared.tree.Item.TheOpen as level
use Rattle.rad_conf.specs.declared.tree.Item.TheFolds.{map-Item, fold-Item, fold-Node, fold_out-Item, fold_out-Node}
use Rattle.rad_conf.specs.Tree.{Layer, layer_body, body_of}

abbrev sum_of : List ℕ → ℕ
sum_of [] = 0
sum_of (n ∷ ns) = n + sum_of ns

abbrev item_step : Item-F ℕ ℕ → ℕ
item_step (level.Pair left operator right) = 0
item_step (level.Name word) = 0
item_step (level.Block kind name weights) = sum_of weights

abbrev node_step : Node-F ℕ ℕ → ℕ
node_step n = suc n.item

abbrev item_weight : Item → ℕ
item_weight = fold-Item ℕ ℕ item_step node_step

abbrev node_weight : Node → ℕ
node_weight = fold-Node ℕ ℕ item_step node_step

abbrev pub weight : List Node → ℕ
weight nodes = sum_of (map node_weight nodes)

node_weight-is : (n : Node) → node_weight n ≡ suc (item_weight n.item)
node_weight-is n = fold_out-Node ℕ ℕ item_step node_step n

layer_weight : (layer : Layer) (body : List Node) → layer_body layer ≡ Some body → item_step (map-Item Item Node ℕ ℕ item_weight node_weight layer) ≡ weight body
layer_weight (level.Pair left operator right) body e = absurd cc
layer_weight (level.Name word) body e = absurd cc
layer_weight (level.Block kind name nodes) body e = let same : nodes ≡ body = cc in ap weight same

pub weight-body : (n : Node) (body : List Node) → body_of n.item ≡ Some body → node_weight n ≡ suc (weight body)
weight-body n body e =
    node_weight-is n ∙ ap suc (fold_out-Item ℕ ℕ item_step node_step n.item ∙ layer_weight (out-Item n.item) body e)

weight-append : (xs ys : List Node) → weight (xs ++ ys) ≡ weight xs + weight ys
weight-append [] ys = omega arith
weight-append (x ∷ xs) ys = omega (arith, weight-append xs ys)

-- A node is taken from the end, and its body is put there.
pub weight-opened : (xs : List Node) (n : Node) (body : List Node) → body_of n.item ≡ Some body → weight (xs ++ body) < weight (xs ++ n ∷ [])
weight-opened xs n body e = omega (arith, weight-append xs body, weight-append xs (n ∷ []), weight-body n body e)

-- A node is taken from the end.
pub weight-popped : (xs : List Node) (n : Node) → weight xs < weight (xs ++ n ∷ [])
weight-popped xs n = omega (arith, weight-append xs (n ∷ []), node_weight-is n)
