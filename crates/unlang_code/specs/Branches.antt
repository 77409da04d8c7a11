-- The arms of an `if` of which none is taken, after unlang(5): for the law of what an `if` runs.
use Rattle.std.specs.Prelude.{◌≡◌, false, List, [], ◌∷◌}
use Rattle.rad_value.specs.declared.scope.Scope.{Scope}
use Rattle.rad_dict.specs.Definitions.{Definitions}
use Rattle.unlang_tree.specs.declared.statement.Arm.{Arm, out-Arm}
use Rattle.unlang_code.specs.Choosing.{asks}

-- None of these arms is taken: each asks in its turn, in the scope that the one before it left, and its condition doesn't hold.
abbrev pub NoneHolds : Definitions → List Arm → Scope → Scope → Type 0
NoneHolds dict [] before now = now ≡ before
NoneHolds dict (arm ∷ arms) before now = (between : Scope) × (asks dict (out-Arm arm).condition before ≡ (false, between)) × NoneHolds dict arms between now
