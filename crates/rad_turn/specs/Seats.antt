-- A seat's view, where the seat has one.
use Rattle.std.specs.Prelude.{◌≡◌, ℕ, Bool, true, false, not, ◌&&◌, List, [], Option, Some, None}
use mathlib.Core.Path.{sym}
use mathlib.Core.Bool.{true≢false}
use Rattle.rad_turn.specs.declared.view.View.{View}

-- a seat that does nothing at the moment: it doesn't hold the value, and takes in no other seat
abbrev pub is_idle : {E O B : Type 0} → Option (View E O B) → Bool
is_idle None = false
is_idle (Some v) = not v.holds && not v.joins

-- the name of a seat that knows something
abbrev pub name_of : {E O B : Type 0} → Option (View E O B) → ℕ
name_of None = 0
name_of (Some v) = v.name

-- the names out at a seat that knows something
abbrev pub out_of : {E O B : Type 0} → Option (View E O B) → List ℕ
out_of None = []
out_of (Some v) = v.out

-- what an idle seat knows
abbrev pub view_of : {E O B : Type 0} → (known : Option (View E O B)) → is_idle known ≡ true → View E O B
view_of None idle = absurd (true≢false (sym idle))
view_of (Some v) idle = v
