-- What clauses see of a seat and a desk.
use Rattle.std.specs.Prelude.{◌≡◌, List, [], ◌∷◌, ⊤}
use Rattle.std.specs.Coded.{Coded-set, ×_prop, Unit-prop}
use Rattle.atomic_table.specs.Seated.{table_id_coded}
use Rattle.rad_turn.specs.declared.stands.Stands.{Ghosts}
use Rattle.rad_turn.specs.declared.view.View.{View}
use Rattle.rad_turn.specs.declared.seat.Seat.{Seat}
use Rattle.rad_turn.specs.declared.desk.Desk.{Desk}
use Rattle.rad_turn.specs.Seats.{view_of}

-- what the seat knows
abbrev pub view : {S E O B : Type 0} {g : Ghosts S E O B} → Seat S E O B g → View E O B
view seat = view_of seat.place.me.0 seat.idle

-- the seat is this desk's
abbrev pub IsOf : {S E O B : Type 0} {g : Ghosts S E O B} → Desk S E O B → Seat S E O B g → Type 0
IsOf desk seat = seat.place.table_id ≡ desk.table.shared.table_id

-- that a seat is a desk's has at most one proof, so a struct that keeps both may have it as a ghost field
pub IsOf-prop : {S E O B : Type 0} {g : Ghosts S E O B} (desk : Desk S E O B) (seat : Seat S E O B g) → IsProp (IsOf desk seat)
IsOf-prop desk seat = Coded-set table_id_coded seat.place.table_id desk.table.shared.table_id

-- so are these seats
abbrev pub AreOf : {S E O B : Type 0} {g : Ghosts S E O B} → Desk S E O B → List (Seat S E O B g) → Type 0
AreOf desk [] = ⊤
AreOf desk (seat ∷ seats) = IsOf desk seat × AreOf desk seats

-- There is one way at most in which seats are those of a desk.
pub AreOf-prop : {S E O B : Type 0} {g : Ghosts S E O B} (desk : Desk S E O B) (seats : List (Seat S E O B g)) → IsProp (AreOf desk seats)
AreOf-prop desk [] = Unit-prop
AreOf-prop desk (seat ∷ seats) = ×_prop (IsOf-prop desk seat) (AreOf-prop desk seats)
