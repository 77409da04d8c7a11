-- What a split and a join leave.
use Rattle.std.specs.Prelude.{◌≡◌, ℕ, ◌⊎◌, []}
use mathlib.Core.List.{IsPrefix}
use Rattle.rad_turn.specs.declared.view.View.{View}
use Rattle.rad_turn.specs.Names.{IsLeastFree, with_name, without_name}
use Rattle.rad_turn.specs.Views.{entries_of, Learns}

-- the first seat is as it was, but for one name more that is out: the least positive one that wasn't. The new seat has it, and has seen as much
pub record Parts {E O B : Type 0} (v w new : View E O B) : Type 0 where
  pub least : IsLeastFree new.name v.out
  pub out : w.out ≡ with_name new.name v.out
  pub name : w.name ≡ v.name
  pub seen : w.seen ≡ v.seen
  pub origin : w.origin ≡ v.origin
  pub beginning : w.beginning ≡ v.beginning
  pub new_out : new.out ≡ []
  pub new_seen : new.seen ≡ v.seen
  pub new_origin : new.origin ≡ v.origin
  pub new_beginning : new.beginning ≡ v.beginning

-- the first seat has seen what either had and nothing but that, and all entries of the joined name, which isn't out any more
pub record Joins {E O B : Type 0} (by : E → ℕ) (v other w : View E O B) : Type 0 where
  pub learns : Learns by v w.seen
  pub told : IsPrefix other.seen w.seen
  pub either : (w.seen ≡ v.seen) ⊎ (w.seen ≡ other.seen)
  pub entries : entries_of by other.name w.seen ≡ entries_of by other.name other.seen
  pub out : w.out ≡ without_name other.name v.out
  pub name : w.name ≡ v.name
  pub origin : w.origin ≡ v.origin
  pub beginning : w.beginning ≡ v.beginning
