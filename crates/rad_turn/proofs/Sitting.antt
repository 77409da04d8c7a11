-- Seats whose view changes, and what a seat learns.
use Rattle.std.proofs.Common.{◌≡◌, ◌≢◌, ℕ, zero, suc, Bool, true, false, not, List, [], ◌∷◌, ◌++◌, set, All, Option, Some, None, sym, refl, ap, ◌∙◌, subst, ⊎_elim, arith, true≢false, unwrap_or}
use Rattle.std.proofs.lemmas.List.{append-nil}
use mathlib.Core.Option.{some, some-injective, some-ne-none}
use mathlib.Core.Logic.{dite}
use mathlib.Core.List.{IsPrefix}
use native.Mathlib.Decide.{ℕ_discrete}
use lib.ListN.{get_elem?}
use Rattle.atomic_table.specs.Table.{Me}
use Rattle.atomic_table.proofs.Lists.{at_set}
use Rattle.rad_turn.specs.declared.view.View.{View}
use Rattle.rad_turn.specs.Names.{is_out, is_rising}
use Rattle.rad_turn.specs.Views.{entries_of, Learns}
use Rattle.rad_turn.specs.Seats.{is_idle}
use Rattle.rad_turn.specs.Kept.{Sits, Fits, Joining}
use Rattle.rad_turn.proofs.Lists.{behind_none, all_out, alone_sees, low_not_out, and_left, and_right, not_on}

-- an element that is set stands there
pub set_at : {A : Type 0} (l : List A) (i : ℕ) (a b : A) → get_elem? l i ≡ some b → get_elem? (set l i a) i ≡ some a
set_at [] i a b e = absurd (some-ne-none b (sym e))
set_at (x ∷ xs) zero a b e = refl
set_at (x ∷ xs) (suc i) a b e = set_at xs i a b e

module _ {E O B : Type 0} where
  pub some_is : (v w : View E O B) → Some v ≡ Some w → v ≡ w
  some_is v w e = ap (λ (o : Option (View E O B)). unwrap_or o v) e

  pub one_seat : (views : List (Option (View E O B))) (i : ℕ) (v w : View E O B) → Sits views i v → Sits views i w → v ≡ w
  one_seat views i v w at at' = some_is v w (some-injective (Some v) (Some w) (sym at ∙ at'))

  -- what holds of a changed view, and of the others as they were, holds of all
  pub each_set : (P : ℕ → View E O B → Type 0) (views : List (Option (View E O B))) (id : ℕ) (w : View E O B) → P id w → ((i : ℕ) (v : View E O B) → i ≢ id → Sits views i v → P i v)
      → (i : ℕ) (v : View E O B) → Sits (set views id (Some w)) i v → P i v
  each_set P views id w mine others i v at = ⊎_elim
      (λ (t : (i ≡ id) × (Some w ≡ Some v)). subst (λ (z : ℕ × View E O B). P z.0 z.1) (λ k. (sym t.0 k, some_is w v t.1 k)) mine)
      (λ (t : (i ≢ id) × (get_elem? views i ≡ some (Some v))). others i v t.0 t.1)
      (at_set views id i (Some w) (Some v) at)

  -- a changed view has its name from before
  pub named_before : (views : List (Option (View E O B))) (id : ℕ) (v w : View E O B) → Sits views id v → w.name ≡ v.name → (i : ℕ) (u : View E O B) → Sits (set views id (Some w)) i u
      → (u' : View E O B) × Sits views i u' × (u.name ≡ u'.name)
  named_before views id v w at same i u at' = each_set (λ i u. (u' : View E O B) × Sits views i u' × (u.name ≡ u'.name)) views id w (v, at, same) (λ i u _ there. (u, there, refl)) i u at'

  pub apart_set : (views : List (Option (View E O B))) (id : ℕ) (v w : View E O B) → Sits views id v → w.name ≡ v.name
      → ((i j : ℕ) (v w : View E O B) → Sits views i v → Sits views j w → v.name ≡ w.name → i ≡ j)
      → (i j : ℕ) (x y : View E O B) → Sits (set views id (Some w)) i x → Sits (set views id (Some w)) j y → x.name ≡ y.name → i ≡ j
  apart_set views id v w at same apart i j x y atx aty e =
      let a = named_before views id v w at same i x atx in
      let b = named_before views id v w at same j y aty in
      apart i j a.0 b.0 a.1 b.1 (sym a.2 ∙ (e ∙ b.2))

  -- the seat with the name 0 is the first one
  pub first_place : (by : E → ℕ) (log : List E) (out : List ℕ) (o : O) (b : B) (place : ℕ) (v : View E O B) → is_rising 0 out ≡ true → Fits by log out o b place v → v.name ≡ 0 → place ≡ 0
  first_place by log out o b place v up f is = dite (ℕ_discrete place 0) (λ e. e)
      (λ ne. absurd (true≢false (sym (f.other ne) ∙ (ap (λ k. is_out k out) is ∙ low_not_out 0 0 out (omega arith) up))))

  -- what a seat learns from the whole history
  pub learns : (by : E → ℕ) (log : List E) (out : List ℕ) (o : O) (b : B) (place : ℕ) (v : View E O B) → is_rising 0 out ≡ true → Fits by log out o b place v → Learns by v log
  learns by log out o b place v up f =
      let between : List E = f.seen.0 in let is : v.seen ++ between ≡ log = f.seen.1 in
      let others : v.name ≡ 0 → All (λ e. is_out (by e) v.out ≡ true) between = λ named. let first = f.first (first_place by log out o b place v up f named) in
      all_out by v.out between (λ k free. behind_none by k v.seen between (ap (entries_of by k) is ∙ first.2 k (sym (ap (is_out k) first.1) ∙ free))) in record {
        between = between;
        is = sym is;
        mine = f.mine;
        others = others;
        alone = λ named none. alone_sees by v.out v.seen between log (sym is) (others named) none;
      }

  -- a seat that has seen the whole history
  pub fits_whole : (by : E → ℕ) (log : List E) (out : List ℕ) (o : O) (b : B) (place : ℕ) (v : View E O B) (holds : Bool) → Fits by log out o b place v → Fits by log out o b place (record v { seen = log; holds = holds })
  fits_whole by log out o b place v holds f = record {
    seen = ([], append-nil log);
    mine = refl;
    origin = f.origin;
    beginning = f.beginning;
    first = λ e. let first = f.first e in (first.0, first.1, (λ k free. refl));
    other = f.other;
  }

  -- a step of a seat that keeps its name, its guest and what it was told, while the history grows by entries of its own name
  pub joining_set : (by : E → ℕ) (log log' : List E) (views : List (Option (View E O B))) (id : ℕ) (v w : View E O B) → Sits views id v → w.name ≡ v.name → w.joins ≡ v.joins → w.guest ≡ v.guest → w.told ≡ v.told
      → ((k : ℕ) → k ≢ v.name → entries_of by k log' ≡ entries_of by k log) → ((told : List E) → IsPrefix told log → IsPrefix told log')
      → ((u : View E O B) → Sits views 0 u → u.joins ≡ true → Joining by log views u) → (u : View E O B) → Sits (set views id (Some w)) 0 u → u.joins ≡ true → Joining by log' (set views id (Some w)) u
  joining_set by log log' views id v w at named flags guests tells others longer before u there on =
      let old = each_set (λ i u. (u' : View E O B) × Sits views i u' × (u.guest ≡ u'.guest) × (u.told ≡ u'.told) × (u.joins ≡ u'.joins)) views id w (v, at, guests, tells, flags) (λ i u _ there. (u, there, refl, refl, refl)) 0 u there in
      let was : Joining by log views old.0 = before old.0 old.1 (sym old.4 ∙ on) in record {
        told = subst (λ (t : List E). IsPrefix t log') (sym old.3) (longer old.0.told was.told);
        all = ap (λ (k : ℕ). entries_of by k log') old.2 ∙ (others old.0.guest (λ is. was.gone id v at (sym is)) ∙ (was.all ∙ (λ i. entries_of by (sym old.2 i) (sym old.3 i))));
        gone = λ i x sits. let b = named_before views id v w at named i x sits in λ is. was.gone i b.0 b.1 (sym b.2 ∙ (is ∙ old.2));
      }

  -- a seat that is idle has a view
  pub at_idle : {S : Type 0} (F : Me S (Option (View E O B)) → Type 0) → ((v : View E O B) (c : List (ℕ × S)) → v.holds ≡ false → v.joins ≡ false → F (Some v, c)) → (me : Me S (Option (View E O B))) → is_idle me.0 ≡ true → F me
  at_idle {S} F go me idle = of me.0 me.1 idle
    where
      of : (k : Option (View E O B)) (c : List (ℕ × S)) → is_idle k ≡ true → F (k, c)
      of None c h = absurd (true≢false (sym h))
      of (Some v) c h = go v c (not_on v.holds (and_left (not v.holds) (not v.joins) h)) (not_on v.joins (and_right (not v.holds) (not v.joins) h))
