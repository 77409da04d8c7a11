-- Which arm of an `if` is taken, after unlang(5): the first whose condition holds. The conditions are tried in order, each in the
-- scope that the one before it left, and none behind the first that holds.
use Rattle.std.specs.Prelude.{◌≡◌, Bool, true, false, List, [], ◌∷◌, map, Option, Some, None}
use Rattle.rad_value.specs.declared.scope.Scope.{Scope}
use Rattle.rad_dict.specs.Definitions.{Definitions}
use Rattle.unlang_cond.specs.Trees.{Tree, holds}
use Rattle.unlang_tree.specs.declared.statement.Arm.{Arm, out-Arm}

-- What an arm asks of a scope: whether it is taken, and the scope behind its question.
abbrev pub Test : Type 0
Test = Scope → Bool × Scope

-- An arm asks its condition, which sees the last code of the section's run so far and may set the captures. `else` asks nothing.
abbrev pub asks : Definitions → Option Tree → Test
asks dict None scope = (true, scope)
asks dict (Some condition) scope = holds condition scope dict

-- An arm that is taken, in the scope that its question left; where it isn't, those behind it.
abbrev pub met_or : {X : Type 0} → X → (Scope → Option X × Scope) → Bool × Scope → Option X × Scope
met_or arm others (true, scope) = (Some arm, scope)
met_or arm others (false, scope) = others scope

-- The first arm that is taken, if one is, and the scope behind the questions up to its own.
abbrev pub first_met : {X : Type 0} → List (Test × X) → Scope → Option X × Scope
first_met [] scope = (None, scope)
first_met (arm ∷ arms) scope = met_or arm.1 (first_met arms) (arm.0 scope)

-- An arm with what it asks.
abbrev pub asking : Definitions → Arm → Test × Arm
asking dict arm = (asks dict (out-Arm arm).condition, arm)

-- The arm of an `if` that is taken, if one is, and the scope behind the questions.
abbrev pub taken_of : Definitions → List Arm → Scope → Option Arm × Scope
taken_of dict arms = first_met (map (asking dict) arms)
