-- Lists of seats of one desk.
use Rattle.std.proofs.Common.{ℕ, zero, suc, ◌<◌, List, [], ◌∷◌, ◌++◌, length, get_or, remove, arith}
use Rattle.rad_turn.specs.declared.stands.Stands.{Ghosts}
use Rattle.rad_turn.specs.declared.seat.Seat.{Seat}
use Rattle.rad_turn.specs.declared.desk.Desk.{Desk}
use Rattle.rad_turn.specs.Sides.{IsOf, AreOf}

module _ {S E O B : Type 0} {g : Ghosts S E O B} (desk : Desk S E O B) where
  pub owned_more : (xs : List (Seat S E O B g)) (x : Seat S E O B g) → AreOf desk xs → IsOf desk x → AreOf desk (xs ++ x ∷ [])
  owned_more [] x all own = (own, tt)
  owned_more (y ∷ ys) x all own = (all.0, owned_more ys x all.1 own)

  pub owned_at : (xs : List (Seat S E O B g)) (k : ℕ) (d : Seat S E O B g) → k < length xs → AreOf desk xs → IsOf desk (get_or xs k d)
  owned_at [] k d inside all = absurd (omega arith)
  owned_at (y ∷ ys) zero d inside all = all.0
  owned_at (y ∷ ys) (suc k) d inside all = owned_at ys k d (omega arith) all.1

  pub owned_less : (xs : List (Seat S E O B g)) (k : ℕ) → AreOf desk xs → AreOf desk (remove xs k)
  owned_less [] zero all = tt
  owned_less [] (suc k) all = tt
  owned_less (y ∷ ys) zero all = all.1
  owned_less (y ∷ ys) (suc k) all = (all.0, owned_less ys k all.1)
