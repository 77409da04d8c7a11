-- A split and a join, put together.
use Rattle.std.proofs.Common.{◌≡◌, ℕ, true, false, not, List, [], Option, Some, None, sym, refl, ap, ◌∙◌, subst, true≢false}
use mathlib.Core.Option.{none}
use Rattle.atomic_table.specs.Table.{Me, step, Allows, Splits, Joins as JoinsAt}
use Rattle.rad_turn.specs.declared.view.View.{View}
use Rattle.rad_turn.specs.Names.{is_rising, least_free, with_name, without_name}
use Rattle.rad_turn.specs.Seats.{is_idle, view_of, name_of, out_of}
use Rattle.rad_turn.specs.Kept.{Kept}
use Rattle.rad_turn.specs.Told.{cut_left, cut_right, glued, Takes, TakesIn, settled}
use Rattle.rad_turn.specs.Seated.{Parts, Joins}
use Rattle.rad_turn.proofs.Lists.{and_left, and_right, not_on}
use Rattle.rad_turn.proofs.Naming.{least_is, both_true}
use Rattle.rad_turn.proofs.Seating.{cuts, glues, settles}
use Rattle.rad_turn.proofs.Having.{view_is}

module _ {E O B : Type 0} where
  off_of : (v : View E O B) → is_idle (Some v) ≡ true → v.holds ≡ false
  off_of v h = not_on v.holds (and_left (not v.holds) (not v.joins) h)

  alone_of : (v : View E O B) → is_idle (Some v) ≡ true → v.joins ≡ false
  alone_of v h = not_on v.joins (and_right (not v.holds) (not v.joins) h)

  -- the first seat after a split
  pub cut_keeps : {S : Type 0} (k : Option (View E O B)) (slots : List (ℕ × S)) (m : Me S (Option (View E O B))) → is_idle k ≡ true → m ≡ (cut_left k, slots)
      → (is_idle m.0 ≡ true) × (m.1 ≡ slots) × (name_of m.0 ≡ name_of k) × (out_of m.0 ≡ with_name (least_free (out_of k)) (out_of k))
  cut_keeps {S} None slots m h is = absurd (true≢false (sym h))
  cut_keeps {S} (Some v) slots m h is = (
    ap (λ (m : Me S (Option (View E O B))). is_idle m.0) is ∙ h,
    ap (λ (m : Me S (Option (View E O B))). m.1) is,
    ap (λ (m : Me S (Option (View E O B))). name_of m.0) is,
    ap (λ (m : Me S (Option (View E O B))). out_of m.0) is,
  )

  pub parts : (k left right : Option (View E O B)) (h : is_idle k ≡ true) (hl : is_idle left ≡ true) (hr : is_idle right ≡ true) → left ≡ cut_left k → right ≡ cut_right k → is_rising 0 (out_of k) ≡ true
      → Parts (view_of k h) (view_of left hl) (view_of right hr)
  parts None left right h hl hr isl isr up = absurd (true≢false (sym h))
  parts (Some v) left right h hl hr isl isr up =
      let name : ℕ = least_free v.out in
      let w : View E O B = record v { out = with_name name v.out } in
      let x : View E O B = record v { name = name; out = []; holds = false; joins = false; guest = 0; told = [] } in
      subst (λ (z : View E O B × View E O B). Parts v z.0 z.1) (λ i. (sym (view_is left hl w isl) i, sym (view_is right hr x isr) i)) record {
        least = least_is v.out up;
        out = refl;
        name = refl;
        seen = refl;
        origin = refl;
        beginning = refl;
        new_out = refl;
        new_seen = refl;
        new_origin = refl;
        new_beginning = refl;
      }

  -- the first seat after a join
  pub join_leaves : {S : Type 0} (by : E → ℕ) (k l : Option (View E O B)) (hk : is_idle k ≡ true) (hl : is_idle l ≡ true) (slots : List (ℕ × S)) (m1 m2 : Me S (Option (View E O B))) → m1 ≡ (glued k l, slots)
      → ((v : View E O B) → m1.0 ≡ Some v → v.joins ≡ true → TakesIn {S = S} by v m1.1 m2)
      → (is_idle m2.0 ≡ true) × (m2.1 ≡ slots) × (name_of m2.0 ≡ name_of k) × (out_of m2.0 ≡ without_name (name_of l) (out_of k)) × ((h : is_idle m2.0 ≡ true) → Joins by (view_of k hk) (view_of l hl) (view_of m2.0 h))
  join_leaves {S} by None l hk hl slots m1 m2 is told = absurd (true≢false (sym hk))
  join_leaves {S} by (Some v) None hk hl slots m1 m2 is told = absurd (true≢false (sym hl))
  join_leaves {S} by (Some v) (Some w) hk hl slots m1 m2 is told =
      let u : View E O B = record v { joins = true; guest = w.name; told = w.seen } in
      let t = told u (ap (λ (m : Me S (Option (View E O B))). m.0) is) refl in
      let last : View E O B = record u { seen = t.0; out = without_name w.name v.out; joins = false } in
      let takes : Takes by u w.name w.seen t.0 = t.2 in
      let knows : m2.0 ≡ Some last = ap (λ (m : Me S (Option (View E O B))). m.0) t.1 in (
        ap is_idle knows ∙ both_true (not v.holds) true (and_left (not v.holds) (not v.joins) hk) refl,
        ap (λ (m : Me S (Option (View E O B))). m.1) t.1 ∙ ap (λ (m : Me S (Option (View E O B))). m.1) is,
        ap name_of knows,
        ap out_of knows,
        λ h. subst (λ (z : View E O B). Joins by v w z) (sym (view_is m2.0 h last knows)) record {
          learns = record { between = takes.learns.between; is = takes.learns.is; mine = takes.learns.mine; others = takes.learns.others; alone = takes.learns.alone };
          told = takes.told_all;
          either = takes.either;
          entries = takes.entries;
          out = refl;
          name = refl;
          origin = refl;
          beginning = refl;
        },
      )

module _ {S E O B : Type 0} (stands : S → List E → Type 0) (origin : S → O) (by : E → ℕ) where
  pub cuts_idle : (id : ℕ) (k : Option (View E O B)) (h : is_idle k ≡ true) → (view_of k h).name ≡ 0 → Splits {S = S} (Kept stands origin by) id k (cut_left k) (cut_right k)
  cuts_idle id None h named = absurd (true≢false (sym h))
  cuts_idle id (Some v) h named = cuts stands origin by id v (off_of v h) (alone_of v h) named

  pub glues_idle : (id other : ℕ) (k l : Option (View E O B)) (hk : is_idle k ≡ true) → is_idle l ≡ true → (view_of k hk).name ≡ 0 → JoinsAt {S = S} (Kept stands origin by) id k other l (glued k l) None
  glues_idle id other None l hk hl named = absurd (true≢false (sym hk))
  glues_idle id other (Some v) None hk hl named = absurd (true≢false (sym hl))
  glues_idle id other (Some v) (Some w) hk hl named = glues stands origin by id other v w (off_of v hk) named (off_of w hl)

  pub settles_glued : (slots id : ℕ) (k l : Option (View E O B)) (c : List (ℕ × S)) (m : Me S (Option (View E O B))) (hk : is_idle k ≡ true) → is_idle l ≡ true → (view_of k hk).name ≡ 0 → m ≡ (glued k l, c)
      → Allows (Kept stands origin by) slots id m 0 (λ x. x) (settled {S = S} {E = E} {O = O} {B = B} by (step slots 0 0 0 none) m)
  settles_glued slots id None l c m hk hl named is = absurd (true≢false (sym hk))
  settles_glued slots id (Some v) None c m hk hl named is = absurd (true≢false (sym hl))
  settles_glued slots id (Some v) (Some w) c m hk hl named is =
      subst (λ (m : Me S (Option (View E O B))). Allows (Kept stands origin by) slots id m 0 (λ x. x) (settled {S = S} {E = E} {O = O} {B = B} by (step slots 0 0 0 none) m)) (sym is)
      (settles stands origin by slots id (record v { joins = true; guest = w.name; told = w.seen }) c (off_of v hk) named refl)
