-- How deep a statement stands among blocks and policies. This project's own, but for what is said of the limits.
use Rattle.std.specs.Prelude.{ℕ, ◌-◌, List, [], ◌∷◌}
use Rattle.unlang_tree.specs.declared.depth.DepthRef.{DepthRef}
use Rattle.unlang_tree.specs.Readings.{most_levels}

-- How many more blocks may be opened within one another, and the names of the policies that are open, the last one first.
pub record Depth : Type 0 where
  pub levels : ℕ
  pub entered : List (List ℕ)

-- What is lent stands for this.
abbrev pub depth_of : DepthRef → Depth
depth_of lent = record { levels = lent.levels; entered = lent.entered.now }

-- Directly in a section.
abbrev pub at_the_top : Depth
at_the_top = record { levels = most_levels; entered = [] }

-- Within one block more.
abbrev pub in_a_block : Depth → Depth
in_a_block depth = record { levels = depth.levels - 1; entered = depth.entered }

-- Within a policy of this name. The call of a policy is no block.
abbrev pub in_a_policy : Depth → List ℕ → Depth
in_a_policy depth name = record { levels = depth.levels; entered = name ∷ depth.entered }
