-- Seats that come and go keep the rule.
use Rattle.std.proofs.Common.{◌≡◌, ◌≢◌, ℕ, zero, suc, Bool, true, false, List, [], ◌∷◌, ◌++◌, length, set, All, Option, Some, None, sym, refl, ap, ◌∙◌, subst, inl, inr, ⊎_elim, ◌⊎◌, arith, true≢false}
use mathlib.Core.Option.{none, some, some-injective, some-ne-none}
use mathlib.Core.Logic.{dite}
use mathlib.Core.List.{IsPrefix}
use native.Mathlib.Decide.{ℕ_discrete, dec_le}
use lib.ListN.{get_elem?}
use lib.Seq.{set-get_or}
use Rattle.atomic_table.specs.Table.{State, step, keeps, Allows, Splits, Joins}
use Rattle.atomic_table.proofs.Lists.{at_set, set_else, at_longer}
use Rattle.rad_turn.specs.declared.view.View.{View}
use Rattle.rad_turn.specs.Names.{is_out, least_free, with_name, without_name, IsLeastFree}
use Rattle.rad_turn.specs.Views.{entries_of}
use Rattle.rad_turn.specs.Kept.{Sits, Fits, Joining, IsFree, IsTaken, Kept}
use Rattle.rad_turn.specs.Told.{cut_left, cut_right, glued, Takes, TakesIn, settled}
use Rattle.rad_turn.proofs.Lists.{not_true, behind_none, all_out, alone_sees, squeeze, prefix_self, prefix_shorter}
use Rattle.rad_turn.proofs.Naming.{least_is, with_keeps, with_has, with_rising, without_out, without_rising}
use Rattle.rad_turn.proofs.Sitting.{some_is, one_seat, each_set, named_before, apart_set, first_place}

module _ {E O B : Type 0} where
  pub sits_none : (views : List (Option (View E O B))) (gone i : ℕ) (u : View E O B) → Sits (set views gone None) i u → (i ≢ gone) × Sits views i u
  sits_none views gone i u at = ⊎_elim
      (λ (t : (i ≡ gone) × (None ≡ Some u)). absurd (no_view t.1))
      (λ (t : (i ≢ gone) × (get_elem? views i ≡ some (Some u))). t)
      (at_set views gone i None (Some u) at)
    where
      is_there : Option (View E O B) → Bool
      is_there None = false
      is_there (Some v) = true

      no_view : None ≡ Some u → ⊥
      no_view e = true≢false (sym (ap is_there e))

  -- a seat of a longer list is one of the shorter, or the last
  pub sits_more : (views : List (Option (View E O B))) (x : View E O B) (i : ℕ) (u : View E O B) → Sits (views ++ Some x ∷ []) i u → Sits views i u ⊎ ((i ≡ length views) × (x ≡ u))
  sits_more [] x zero u at = inr (refl, some_is x u (some-injective (Some x) (Some u) at))
  sits_more [] x (suc i) u at = absurd (some-ne-none (Some u) (sym at))
  sits_more (y ∷ ys) x zero u at = inl at
  sits_more (y ∷ ys) x (suc i) u at = ⊎_elim (λ (t : Sits ys i u). inl t) (λ (t : (i ≡ length ys) × (x ≡ u)). inr (ap suc t.0, t.1)) (sits_more ys x i u at)

  pub some_length : (views : List (Option (View E O B))) (i : ℕ) (v w : View E O B) → Sits views i v → 0 ≡ length (set views i (Some w)) → ⊥
  some_length [] i v w at e = some-ne-none (Some v) (sym at)
  some_length (y ∷ ys) zero v w at e = omega arith
  some_length (y ∷ ys) (suc i) v w at e = omega arith

module _ {S E O B : Type 0} (stands : S → List E → Type 0) (origin : S → O) (by : E → ℕ) where
  -- where the same seat holds the value, the desk is as it was
  same_desk : (log : List E) (from : O) (s : State S (Option (View E O B))) (views : List (Option (View E O B)))
      → ((i : ℕ) (u : View E O B) → Sits views i u → u.holds ≡ true → Sits s.views i u) → ((i : ℕ) (u : View E O B) → Sits s.views i u → u.holds ≡ true → Sits views i u)
      → IsFree stands origin log from s ⊎ IsTaken log s → IsFree stands origin log from record { words = s.words; homes = s.homes; views = views } ⊎ IsTaken log record { words = s.words; homes = s.homes; views = views }
  same_desk log from s views back forth desk = ⊎_elim
      (λ (free : IsFree stands origin log from s). inl (record {
        word = free.word;
        value = free.value;
        home = free.home;
        stood = free.stood;
        idle = λ i u at. not_true u.holds (λ on. true≢false (sym on ∙ free.idle i u (back i u at on)));
      }))
      (λ (taken : IsTaken log s). inr (record {
        word = taken.word;
        short = taken.short;
        away = taken.away;
        holder = taken.holder;
        view = taken.view;
        sits = forth taken.holder taken.view taken.sits taken.holds;
        holds = taken.holds;
        whole = taken.whole;
        alone = λ i u at on. taken.alone i u (back i u at on) on;
      }))
      desk

  back_set : (views : List (Option (View E O B))) (id : ℕ) (w : View E O B) → w.holds ≡ false → (i : ℕ) (u : View E O B) → Sits (set views id (Some w)) i u → u.holds ≡ true → Sits views i u
  back_set views id w off = each_set (λ i u. u.holds ≡ true → Sits views i u) views id w (λ on. absurd (true≢false (sym on ∙ off))) (λ i u _ there _. there)

  forth_set : (views : List (Option (View E O B))) (id : ℕ) (v w : View E O B) → Sits views id v → v.holds ≡ false → (i : ℕ) (u : View E O B) → Sits views i u → u.holds ≡ true → Sits (set views id (Some w)) i u
  forth_set views id v w at off i u there on =
      set_else views id i (Some w) (λ e. true≢false (sym on ∙ (ap (λ (x : View E O B). x.holds) (one_seat views id u v (subst (λ (j : ℕ). Sits views j u) e there) at) ∙ off))) ∙ there

  module _ (s : State S (Option (View E O B))) (r : Kept stands origin by s) (id : ℕ) (v : View E O B) (at : Sits s.views id v) (off : v.holds ≡ false) (named : v.name ≡ 0) where
    here : id ≡ 0
    here = first_place by r.log r.out r.from r.beginning id v r.rising (r.each id v at) named

    -- the first seat has seen what it had and what it was told
    settles_at : (on : v.joins ≡ true) (seen : List E) → IsPrefix v.seen seen → IsPrefix v.told seen → IsPrefix seen r.log
        → Kept stands origin by record { words = s.words; homes = s.homes; views = set s.views id (Some (record v { seen = seen; out = without_name v.guest v.out; joins = false })) }
    settles_at on seen mine told within =
        let w : View E O B = record v { seen = seen; out = without_name v.guest v.out; joins = false } in
        let f = r.each id v at in let first = f.first here in
        let joining = r.joining v (subst (λ (i : ℕ). Sits s.views i v) here at) on in
        let out : List ℕ = without_name v.guest r.out in record {
          log = r.log;
          out = out;
          from = r.from;
          beginning = r.beginning;
          short = r.short;
          rising = without_rising 0 v.guest r.out r.rising;
          each = each_set (Fits by r.log out r.from r.beginning) s.views id w
              (record {
                seen = within;
                mine = squeeze by v.name v.seen seen r.log mine within f.mine;
                origin = f.origin;
                beginning = f.beginning;
                first = λ _. (
                  first.0,
                  ap (without_name v.guest) first.1,
                  λ k free. dite (ℕ_discrete k v.guest)
                      (λ is. subst (λ (k : ℕ). entries_of by k r.log ≡ entries_of by k seen) (sym is) (squeeze by v.guest v.told seen r.log told within joining.all))
                      (λ ne. squeeze by k v.seen seen r.log mine within (first.2 k (sym (without_out k v.guest r.out ne) ∙ free))),
                );
                other = λ ne. absurd (ne here);
              })
              (λ i u ne there. let g = r.each i u there in record {
                seen = g.seen;
                mine = g.mine;
                origin = g.origin;
                beginning = g.beginning;
                first = λ z. absurd (ne (z ∙ sym here));
                other = λ nz. without_out u.name v.guest r.out (joining.gone i u there) ∙ g.other nz;
              });
          apart = apart_set s.views id v w at refl r.apart;
          joining = λ u sits on. each_set (λ i u. i ≡ 0 → u.joins ≡ true → Joining by r.log (set s.views id (Some w)) u) s.views id w (λ _ on. absurd (true≢false (sym on))) (λ i u ne there z. absurd (ne (z ∙ sym here))) 0 u sits refl on;
          desk = same_desk r.log r.from s (set s.views id (Some w)) (back_set s.views id w off) (forth_set s.views id v w at off) r.desk;
        }

    takes_at : (on : v.joins ≡ true) (seen : List E) → IsPrefix v.seen seen → IsPrefix v.told seen → IsPrefix seen r.log → (seen ≡ v.seen) ⊎ (seen ≡ v.told) → Takes by v v.guest v.told seen
    takes_at on seen mine told within either =
        let f = r.each id v at in let first = f.first here in
        let joining = r.joining v (subst (λ (i : ℕ). Sits s.views i v) here at) on in
        let of_both : (k : ℕ) (xs : List E) → IsPrefix xs seen → entries_of by k r.log ≡ entries_of by k xs → entries_of by k seen ≡ entries_of by k xs = λ k xs p e. sym (squeeze by k xs seen r.log p within e) ∙ e in
        let others : All (λ e. is_out (by e) v.out ≡ true) mine.0 = all_out by v.out mine.0 (λ k free. behind_none by k v.seen mine.0 (ap (entries_of by k) mine.1 ∙ of_both k v.seen mine (first.2 k (sym (ap (is_out k) first.1) ∙ free)))) in record {
          learns = record {
            between = mine.0;
            is = sym mine.1;
            mine = of_both v.name v.seen mine f.mine;
            others = λ _. others;
            alone = λ _ none. alone_sees by v.out v.seen mine.0 seen (sym mine.1) others none;
          };
          told_all = told;
          either = either;
          entries = of_both v.guest v.told told joining.all;
        }

  -- the longer of what the first seat had and what it was told
  abbrev pub Settled : State S (Option (View E O B)) → ℕ → View E O B → Type 0
  Settled s id v = (seen : List E) × Kept stands origin by record { words = s.words; homes = s.homes; views = set s.views id (Some (record v { seen = seen; out = without_name v.guest v.out; joins = false })) } × Takes by v v.guest v.told seen

  settle : (s : State S (Option (View E O B))) (r : Kept stands origin by s) (id : ℕ) (v : View E O B) → Sits s.views id v → v.holds ≡ false → v.name ≡ 0 → v.joins ≡ true → Settled s id v
  settle s r id v at off named on =
      let f = r.each id v at in
      let joining = r.joining v (subst (λ (i : ℕ). Sits s.views i v) (here s r id v at off named) at) on in
      dite (dec_le (length v.told) (length v.seen))
      (λ less. let told = prefix_shorter v.told v.seen r.log joining.told f.seen less in
      (v.seen, settles_at s r id v at off named on v.seen (prefix_self v.seen) told f.seen, takes_at s r id v at off named on v.seen (prefix_self v.seen) told f.seen (inl refl)))
      (λ more. let mine = prefix_shorter v.seen v.told r.log f.seen joining.told (omega arith) in
      (v.told, settles_at s r id v at off named on v.told mine (prefix_self v.told) joining.told, takes_at s r id v at off named on v.told mine (prefix_self v.told) joining.told (inr refl)))

  pub settles : (slots id : ℕ) (v : View E O B) (c : List (ℕ × S)) → v.holds ≡ false → v.name ≡ 0 → v.joins ≡ true
      → Allows (Kept stands origin by) slots id (Some v, c) 0 (λ x. x) (settled {S = S} {E = E} {O = O} {B = B} by (step slots 0 0 0 none) (Some v, c))
  settles slots id v c off named on s r wide at small =
      let t = settle s r id v at off named on in
      let w : View E O B = record v { seen = t.0; out = without_name v.guest v.out; joins = false } in (
        Some w,
        keeps,
        tt,
        subst (λ (x : List ℕ). Kept stands origin by record { words = x; homes = s.homes; views = set s.views id (Some w) }) (sym (set-get_or s.words 0 0)) t.1,
        λ u is _. subst (λ (u : View E O B). TakesIn {S = S} by u c (Some w, c)) (some_is v u is) (t.0, refl, t.2),
      )

  pub glues : (id other : ℕ) (v w : View E O B) → v.holds ≡ false → v.name ≡ 0 → w.holds ≡ false
      → Joins {S = S} (Kept stands origin by) id (Some v) other (Some w) (glued (Some v) (Some w)) None
  glues id other v w off named away s r at ne there =
      let v' : View E O B = record v { joins = true; guest = w.name; told = w.seen } in
      let first_here : id ≡ 0 = here s r id v at off named in
      let atw : Sits s.views other w = sym (set_else s.views id other (Some v') ne) ∙ there in
      let f = r.each id v at in let g = r.each other w atw in
      let views : List (Option (View E O B)) = set s.views id (Some v') in record {
        log = r.log;
        out = r.out;
        from = r.from;
        beginning = r.beginning;
        short = r.short;
        rising = r.rising;
        each = λ i u sits. each_set (Fits by r.log r.out r.from r.beginning) s.views id v'
            (record { seen = f.seen; mine = f.mine; origin = f.origin; beginning = f.beginning; first = f.first; other = f.other })
            (λ i u _ at. r.each i u at) i u (sits_none views other i u sits).1;
        apart = λ i j x y ati atj e. apart_set s.views id v v' at refl r.apart i j x y (sits_none views other i x ati).1 (sits_none views other j y atj).1 e;
        joining = λ u sits on. each_set (λ i u. i ≡ 0 → u.joins ≡ true → Joining by r.log (set views other None) u) s.views id v'
            (λ _ _. record {
              told = g.seen;
              all = g.mine;
              gone = λ i x sits is. let n = sits_none views other i x sits in let b = named_before s.views id v v' at refl i x n.1 in n.0 (r.apart i other b.0 w b.1 atw (sym b.2 ∙ is));
            })
            (λ i u not_first _ z. absurd (not_first (z ∙ sym first_here))) 0 u (sits_none views other 0 u sits).1 refl on;
        desk = same_desk r.log r.from s (set views other None)
            (λ i u sits on. back_set s.views id v' off i u (sits_none views other i u sits).1 on)
            (λ i u sits on. set_else views other i None (λ e. true≢false (sym on ∙ (ap (λ (x : View E O B). x.holds) (one_seat s.views other u w (subst (λ (j : ℕ). Sits s.views j u) e sits) atw) ∙ away))) ∙ forth_set s.views id v v' at off i u sits on)
            r.desk;
      }

  pub cuts : (id : ℕ) (v : View E O B) → v.holds ≡ false → v.joins ≡ false → v.name ≡ 0 → Splits {S = S} (Kept stands origin by) id (Some v) (cut_left (Some v)) (cut_right (Some v))
  cuts id v off alone named s r at =
      let name : ℕ = least_free v.out in
      let w : View E O B = record v { out = with_name name v.out } in
      let x : View E O B = record v { name = name; out = []; holds = false; joins = false; guest = 0; told = [] } in
      let first_here : id ≡ 0 = here s r id v at off named in
      let f = r.each id v at in let first = f.first first_here in
      let views : List (Option (View E O B)) = set s.views id (Some w) in
      let out : List ℕ = with_name name r.out in
      let least : IsLeastFree name r.out = subst (λ (o : List ℕ). IsLeastFree (least_free o) r.out) (sym first.1) (least_is r.out r.rising) in
      let free_before : (k : ℕ) → is_out k out ≡ false → is_out k r.out ≡ false = λ k free. not_true (is_out k r.out) (λ on. true≢false (sym (with_keeps k name r.out on) ∙ free)) in
      let positive = least.positive in
      let known : (i : ℕ) (u : View E O B) → Sits views i u → u.name ≢ name =
      each_set (λ i u. u.name ≢ name) s.views id w (λ e. let z : v.name ≡ 0 = named in omega (arith, e, z))
      (λ i u ne there e. true≢false (sym ((r.each i u there).other (λ z. ne (z ∙ sym first_here))) ∙ (ap (λ (k : ℕ). is_out k r.out) e ∙ least.free))) in record {
        log = r.log;
        out = out;
        from = r.from;
        beginning = r.beginning;
        short = r.short;
        rising = with_rising 0 name r.out r.rising positive least.free;
        each = λ i u sits. ⊎_elim
            (λ (t : Sits views i u). each_set (Fits by r.log out r.from r.beginning) s.views id w
            (record {
              seen = f.seen;
              mine = f.mine;
              origin = f.origin;
              beginning = f.beginning;
              first = λ _. (first.0, ap (with_name name) first.1, λ k free. first.2 k (free_before k free));
              other = λ ne. absurd (ne first_here);
            })
            (λ i u ne there. let g = r.each i u there in record {
              seen = g.seen;
              mine = g.mine;
              origin = g.origin;
              beginning = g.beginning;
              first = λ z. absurd (ne (z ∙ sym first_here));
              other = λ nz. with_keeps u.name name r.out (g.other nz);
            })
            i u t)
            (λ (t : (i ≡ length views) × (x ≡ u)). subst (λ (z : View E O B). Fits by r.log out r.from r.beginning i z) t.1 record {
              seen = f.seen;
              mine = first.2 name least.free;
              origin = f.origin;
              beginning = f.beginning;
              first = λ z. absurd (some_length s.views id v w at (sym z ∙ t.0));
              other = λ _. with_has name r.out;
            })
            (sits_more views x i u sits);
        apart = λ i j y z aty atz e. ⊎_elim
            (λ (a : Sits views i y). ⊎_elim
            (λ (b : Sits views j z). apart_set s.views id v w at refl r.apart i j y z a b e)
            (λ (b : (j ≡ length views) × (x ≡ z)). absurd (known i y a (e ∙ ap (λ (q : View E O B). q.name) (sym b.1))))
            (sits_more views x j z atz))
            (λ (a : (i ≡ length views) × (x ≡ y)). ⊎_elim
            (λ (b : Sits views j z). absurd (known j z b (sym e ∙ ap (λ (q : View E O B). q.name) (sym a.1))))
            (λ (b : (j ≡ length views) × (x ≡ z)). a.0 ∙ sym b.0)
            (sits_more views x j z atz))
            (sits_more views x i y aty);
        joining = λ u sits on. ⊎_elim
            (λ (t : Sits views 0 u). absurd (true≢false (sym on ∙ each_set (λ i u. i ≡ 0 → u.joins ≡ false) s.views id w (λ _. alone) (λ i u ne _ z. absurd (ne (z ∙ sym first_here))) 0 u t refl)))
            (λ (t : (0 ≡ length views) × (x ≡ u)). absurd (some_length s.views id v w at t.0))
            (sits_more views x 0 u sits);
        desk = same_desk r.log r.from s (views ++ Some x ∷ [])
            (λ i u sits on. ⊎_elim (λ (t : Sits views i u). back_set s.views id w off i u t on) (λ (t : (i ≡ length views) × (x ≡ u)). absurd (true≢false (sym on ∙ ap (λ (q : View E O B). q.holds) (sym t.1)))) (sits_more views x i u sits))
            (λ i u sits on. at_longer views (Some x ∷ []) i (Some u) (forth_set s.views id v w at off i u sits on))
            r.desk;
      }
