-- The rule at a desk's beginning and end.
use Rattle.std.proofs.Common.{◌≡◌, ℕ, zero, suc, true, false, not, List, [], ◌∷◌, ◌++◌, Option, Some, None, sym, refl, ap, ◌∙◌, subst, inl, ⊎_elim, arith, true≢false, eq-eqb, cond}
use Rattle.std.proofs.lemmas.List.{append-nil}
use mathlib.Core.Option.{none, some, some-injective, some-ne-none}
use mathlib.Core.Logic.{dite}
use native.Mathlib.Decide.{ℕ_discrete}
use lib.ListN.{get_elem?}
use Rattle.atomic_table.specs.Table.{State, opening, Final, Seen}
use Rattle.rad_turn.specs.declared.view.View.{View}
use Rattle.rad_turn.specs.Names.{is_out}
use Rattle.rad_turn.specs.Seats.{is_idle, view_of}
use Rattle.rad_turn.specs.Views.{entries_of, beginner, Stood}
use Rattle.rad_turn.specs.Kept.{Sits, Fits, IsFree, IsTaken, Kept}
use Rattle.rad_turn.proofs.Lists.{behind_none, not_nil, not_on, and_left}
use Rattle.rad_turn.proofs.Sitting.{one_seat, first_place, some_is}

-- where no name has an entry, there is none
pub no_entries : {E : Type 0} (by : E → ℕ) (es : List E) → ((k : ℕ) → entries_of by k es ≡ []) → es ≡ []
no_entries by [] none_of = refl
no_entries by (e ∷ es) none_of = absurd (not_nil e (entries_of by (by e) es) (ap (λ b. cond b (e ∷ entries_of by (by e) es) (entries_of by (by e) es)) (sym (eq-eqb (by e) (by e) refl)) ∙ none_of (by e)))

module _ {E O B : Type 0} where
  -- in a list of one view it is the first seat's
  one_view : (x v : View E O B) (place : ℕ) → Sits (Some x ∷ []) place v → (place ≡ 0) × (x ≡ v)
  one_view x v zero at = (refl, some_is x v (some-injective (Some x) (Some v) at))
  one_view x v (suc place) at = absurd (some-ne-none (Some v) (sym at))

module _ {S E O B : Type 0} (stands : S → List E → Type 0) (origin : S → O) (by : E → ℕ) where
  pub opens : (value : S) (b : B) → stands value [] → Kept stands origin by (opening (0 ∷ []) (value ∷ []) (Some (beginner (origin value) b)))
  opens value b state = record {
    log = [];
    out = [];
    from = origin value;
    beginning = b;
    short = omega arith;
    rising = refl;
    each = λ place v at. let one = one_view (beginner (origin value) b) v place at in
        subst (λ (z : ℕ × View E O B). Fits by [] [] (origin value) b z.0 z.1) (λ i. (sym one.0 i, one.1 i)) record {
          seen = ([], refl);
          mine = refl;
          origin = refl;
          beginning = refl;
          first = λ _. (refl, refl, λ k free. refl);
          other = λ ne. absurd (ne refl);
        };
    apart = λ i j v w ati atj e. (one_view (beginner (origin value) b) v i ati).0 ∙ sym (one_view (beginner (origin value) b) w j atj).0;
    joining = λ v at on. absurd (true≢false (sym on ∙ ap (λ (u : View E O B). u.joins) (sym (one_view (beginner (origin value) b) v 0 at).1)));
    desk = inl (record {
      word = refl;
      value = value;
      home = refl;
      stood = record { state = state; whence = refl };
      idle = λ place v at. ap (λ (u : View E O B). u.holds) (sym (one_view (beginner (origin value) b) v place at).1);
    });
  }

  -- where no other seat is out, the first seat has seen the whole history
  whole : (s : State S (Option (View E O B))) (r : Kept stands origin by s) (id : ℕ) (v : View E O B) → Sits s.views id v → v.name ≡ 0 → v.out ≡ [] → v.seen ≡ r.log
  whole s r id v at first_one alone =
      let f = r.each id v at in
      let first = f.first (first_place by r.log r.out r.from r.beginning id v r.rising f first_one) in
      let between : List E = f.seen.0 in
      let nothing : between ≡ [] = no_entries by between (λ k. behind_none by k v.seen between (ap (entries_of by k) f.seen.1 ∙ first.2 k (ap (is_out k) (sym first.1 ∙ alone)))) in
      sym (append-nil v.seen) ∙ (ap (λ (l : List E). v.seen ++ l) (sym nothing) ∙ f.seen.1)

  -- and no seat holds the value
  nobody : (s : State S (Option (View E O B))) (r : Kept stands origin by s) (taken : IsTaken r.log s) (id : ℕ) (v : View E O B) → Sits s.views id v → v.name ≡ 0 → v.out ≡ [] → v.holds ≡ false → ⊥
  nobody s r taken id v at first_one alone off =
      let f = r.each id v at in
      let here : id ≡ 0 = first_place by r.log r.out r.from r.beginning id v r.rising f first_one in
      let first = f.first here in
      dite (ℕ_discrete taken.holder 0)
      (λ e. let same : v ≡ taken.view = one_seat s.views id v taken.view at (subst (λ (i : ℕ). Sits s.views i taken.view) (e ∙ sym here) taken.sits) in
      true≢false (sym taken.holds ∙ (ap (λ (u : View E O B). u.holds) (sym same) ∙ off)))
      (λ ne. true≢false (sym ((r.each taken.holder taken.view taken.sits).other ne) ∙ ap (is_out taken.view.name) (sym first.1 ∙ alone)))

  closes_at : (id : ℕ) (v : View E O B) (words : List ℕ) (xs : List S) (y : S) → v.name ≡ 0 → v.out ≡ [] → v.holds ≡ false → Final (Seen (Kept stands origin by) id (Some v)) words xs → get_elem? xs 0 ≡ some y
      → Stood stands origin v.origin v.seen y
  closes_at id v words xs y first_one alone off last there = let s = last.0 in let r = last.1.0 in let at = last.1.1 in ⊎_elim
      (λ (free : IsFree stands origin r.log r.from s).
      let same : free.value ≡ y = some-injective free.value y (sym (last.4 0 free.value (ap (λ (h : List (mathlib.Core.Option.Option S)). get_elem? h 0) free.home)) ∙ there) in
      subst (λ (z : S × List E). Stood stands origin v.origin z.1 z.0) (λ i. (same i, sym (whole s r id v at first_one alone) i))
      record { state = free.stood.state; whence = free.stood.whence ∙ sym (r.each id v at).origin })
      (λ (taken : IsTaken r.log s). absurd (nobody s r taken id v at first_one alone off))
      r.desk

  pub closes : (id : ℕ) (k : Option (View E O B)) (h : is_idle k ≡ true) (words : List ℕ) (xs : List S) (y : S) → (view_of k h).name ≡ 0 → (view_of k h).out ≡ [] → Final (Seen (Kept stands origin by) id k) words xs → get_elem? xs 0 ≡ some y
      → Stood stands origin (view_of k h).origin (view_of k h).seen y
  closes id None h words xs y first_one alone last there = absurd (true≢false (sym h))
  closes id (Some v) h words xs y first_one alone last there = closes_at id v words xs y first_one alone (not_on v.holds (and_left (not v.holds) (not v.joins) h)) last there
