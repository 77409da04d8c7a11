-- The rule of a desk's table. Its one word is twice the length of the history where the desk is free, and one more where it is taken. Its one slot is the value.
use Rattle.std.specs.Prelude.{◌≡◌, ◌≢◌, ℕ, ◌+◌, ◌*◌, ◌^◌, ◌<◌, ◌≤◌, true, false, List, [], ◌∷◌, length, ◌⊎◌, Option, Some}
use mathlib.Core.Option.{none, some}
use mathlib.Core.List.{IsPrefix}
use lib.ListN.{get_elem?}
use Rattle.atomic_table.specs.Table.{State}
use Rattle.rad_turn.specs.declared.view.View.{View}
use Rattle.rad_turn.specs.Names.{is_out, is_rising}
use Rattle.rad_turn.specs.Views.{entries_of, Stood}

-- the seat at this place has this view; a seat that was joined into the first one has none
abbrev pub Sits : {E O B : Type 0} → List (Option (View E O B)) → ℕ → View E O B → Type 0
Sits views place v = get_elem? views place ≡ some (Some v)

-- what a seat has seen is a beginning of the history, with every entry of its own name.
-- The first seat, at place 0, has the names of the others, and has seen every entry of a name that isn't out
pub record Fits {E O B : Type 0} (by : E → ℕ) (log : List E) (out : List ℕ) (o : O) (b : B) (place : ℕ) (v : View E O B) : Type 0 where
  pub seen : IsPrefix v.seen log
  pub mine : entries_of by v.name log ≡ entries_of by v.name v.seen
  pub origin : v.origin ≡ o
  pub beginning : v.beginning ≡ b
  pub first : place ≡ 0 → (v.name ≡ 0) × (v.out ≡ out) × ((k : ℕ) → is_out k out ≡ false → entries_of by k log ≡ entries_of by k v.seen)
  pub other : place ≢ 0 → is_out v.name out ≡ true

-- the first seat takes in another one, which is gone: it was told all that this one had seen
pub record Joining {E O B : Type 0} (by : E → ℕ) (log : List E) (views : List (Option (View E O B))) (v : View E O B) : Type 0 where
  pub told : IsPrefix v.told log
  pub all : entries_of by v.guest log ≡ entries_of by v.guest v.told
  pub gone : (place : ℕ) (u : View E O B) → Sits views place u → u.name ≢ v.guest

-- the desk is free: the value is home and stands for the history, and no seat holds it
pub record IsFree {S E O B : Type 0} (stands : S → List E → Type 0) (origin : S → O) (log : List E) (o : O) (s : State S (Option (View E O B))) : Type 0 where
  pub word : s.words ≡ (2 * length log) ∷ []
  pub value : S
  pub home : s.homes ≡ some value ∷ []
  pub stood : Stood stands origin o log value
  pub idle : (place : ℕ) (v : View E O B) → Sits s.views place v → v.holds ≡ false

-- the desk is taken: exactly one seat holds the value, and has seen the whole history
pub record IsTaken {S E O B : Type 0} (log : List E) (s : State S (Option (View E O B))) : Type 0 where
  pub word : s.words ≡ (2 * length log + 1) ∷ []
  pub short : length log < 2 ^ 62
  pub away : s.homes ≡ none ∷ []
  pub holder : ℕ
  pub view : View E O B
  pub sits : Sits s.views holder view
  pub holds : view.holds ≡ true
  pub whole : view.seen ≡ log
  pub alone : (place : ℕ) (v : View E O B) → Sits s.views place v → v.holds ≡ true → place ≡ holder

-- The rule: all that was seen are beginnings of one history of at most 2^62 entries, each seat has its own name, and the desk is free or taken
pub record Kept {S E O B : Type 0} (stands : S → List E → Type 0) (origin : S → O) (by : E → ℕ) (s : State S (Option (View E O B))) : Type 0 where
  pub log : List E
  pub out : List ℕ
  pub from : O
  pub beginning : B
  pub short : length log ≤ 2 ^ 62
  pub rising : is_rising 0 out ≡ true
  pub each : (place : ℕ) (v : View E O B) → Sits s.views place v → Fits by log out from beginning place v
  pub apart : (i j : ℕ) (v w : View E O B) → Sits s.views i v → Sits s.views j w → v.name ≡ w.name → i ≡ j
  pub joining : (v : View E O B) → Sits s.views 0 v → v.joins ≡ true → Joining by log s.views v
  pub desk : IsFree stands origin log from s ⊎ IsTaken log s
