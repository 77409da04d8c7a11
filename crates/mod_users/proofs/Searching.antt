-- The entries of a key, found by the places of their names.
use Rattle.std.proofs.Common.{◌≡◌, ℕ, zero, suc, ◌<◌, ◌≤◌, Bool, true, false, cond, eqb, List, [], ◌∷◌, map, drop, Option, Some, None, codes, refl, sym, ap, subst, ◌∙◌, arith, rules, eq-eqb}
use Rattle.std.specs.Prelude.{nat_lt}
use Rattle.std.specs.List.{slice_get}
use Rattle.std.specs.Str.{bytes_eq}
use Rattle.std.proofs.lemmas.Bool.{true≢false}
use Rattle.std.proofs.lemmas.Slice.Eq.{bytes_eq-Decides}
use Rattle.rad_index.specs.Places.{places_from, places_of}
use Rattle.rad_value.specs.declared.values.Pair.{Pair}
use Rattle.rad_value.specs.PairLists.{PairLists}
use Rattle.rad_dict.specs.Definitions.{Definitions}
use Rattle.rad_words.specs.declared.codes.Code.{Code}
use Rattle.mod_users.specs.declared.entry.Entry.{Entry}
use Rattle.mod_users.specs.declared.search.Next.{Next}
use Rattle.mod_users.specs.declared.search.Next.TheVariants as next
use Rattle.mod_users.specs.Fits.{fits}
use Rattle.mod_users.specs.Files.{code_of, outcome, files_done}
use Rattle.mod_users.specs.Search.{name_key, entry_key, default_key, next_place, entry_tried}
use Rattle.mod_users.proofs.Outcomes.{after_next, outcome-cons, outcome-passed}

-- ---- the first of two places

lt-true : (a b : ℕ) → a < b → nat_lt a b ≡ true
lt-true a b e = search rules

lt-false : (a b : ℕ) → b ≤ a → nat_lt a b ≡ false
lt-false a b e = search rules

abbrev Above : ℕ → List ℕ → Type 0
Above place [] = Unit {0}
Above place (y ∷ ys) = place < y

first_left : (from : ℕ) (xs ys : List ℕ) → Above from ys → next_place (from ∷ xs) ys ≡ Some (from, xs, ys)
first_left from xs [] above = refl
first_left from xs (y ∷ ys) above = rw (lt-true from y above) refl

first_right : (from : ℕ) (xs ys : List ℕ) → Above from xs → next_place xs (from ∷ ys) ≡ Some (from, xs, ys)
first_right from [] ys above = refl
first_right from (x ∷ xs) ys above = rw (lt-false x from (omega (arith, above)), lt-true from x above) refl

first_both : (from : ℕ) (xs ys : List ℕ) → next_place (from ∷ xs) (from ∷ ys) ≡ Some (from, xs, ys)
first_both from xs ys = rw (lt-false from from (omega arith)) refl

above_weaker : (from : ℕ) (ys : List ℕ) → Above (suc from) ys → Above from ys
above_weaker from [] above = tt
above_weaker from (y ∷ ys) above = omega (arith, above)

-- places stand at or behind the first
all_above : (from key : ℕ) (keys : List ℕ) → Above from (places_from (suc from) key keys)
all_above from key [] = tt
all_above from key (one ∷ keys) =
    elim (eqb one key) as (λ b. Above from (cond b (suc from ∷ places_from (suc (suc from)) key keys) (places_from (suc (suc from)) key keys))) [
      | true ↦ omega arith
      | false ↦ above_weaker from (places_from (suc (suc from)) key keys) (all_above (suc from) key keys)
    ]

-- ---- names and their keys

same_key : (name other : List ℕ) → bytes_eq name other ≡ true → name_key name ≡ name_key other
same_key name other e = ap name_key ((bytes_eq-Decides name other).0 e)

never : (b : Bool) (name other : List ℕ) → eqb (name_key name) (name_key other) ≡ false → bytes_eq name other ≡ b → b ≡ false
never true name other apart e = absurd (true≢false (sym (eq-eqb (name_key name) (name_key other) (same_key name other e)) ∙ apart))
never false name other apart e = refl

not_for : (entry : Entry) (key : List ℕ) (pairs : List Pair) (dict : Definitions) → eqb (entry_key entry) (name_key key) ≡ false → eqb (entry_key entry) default_key ≡ false → fits entry key pairs dict ≡ false
unfolding fits
not_for entry key pairs dict named others =
    let by_default : bytes_eq entry.name (codes "DEFAULT") ≡ false = never (bytes_eq entry.name (codes "DEFAULT")) entry.name (codes "DEFAULT") others refl in
    let by_name : bytes_eq entry.name key ≡ false = never (bytes_eq entry.name key) entry.name key named refl in
    rw (by_default, by_name) refl

-- ---- rows by their places

at_front : {X : Type 0} (xs : List X) (n : ℕ) (x : X) (more : List X) → drop n xs ≡ x ∷ more → (slice_get xs n ≡ Some x) × (drop (suc n) xs ≡ more)
at_front [] zero x more e = (cc, cc)
at_front [] (suc n) x more e = (cc, cc)
at_front (y ∷ xs) zero x more e = (cc, cc)
at_front (y ∷ xs) (suc n) x more e = at_front xs n x more e

module _ (rows : List Entry) (key : List ℕ) (dict : Definitions) where
  -- The places of these rows, the first of which stands at this place, that are of the key's name or of DEFAULT.
  abbrev pub named_at : ℕ → List Entry → List ℕ
  named_at from left = places_from from (name_key key) (map entry_key left)

  abbrev pub others_at : ℕ → List Entry → List ℕ
  others_at from left = places_from from default_key (map entry_key left)

  -- The entry at a place is the first of those that are left which may match.
  pub record IsFirst (left : List Entry) (place : ℕ) (named others : List ℕ) : Type 0 where
    pub entry : Entry
    pub more : List Entry
    pub at : slice_get rows place ≡ Some entry
    pub here : drop (suc place) rows ≡ more
    pub named_are : named ≡ named_at (suc place) more
    pub others_are : others ≡ others_at (suc place) more
    pub same : (found : Bool) (lists : PairLists) → outcome found left key dict lists ≡ outcome found (entry ∷ more) key dict lists

  abbrev IsNext : List Entry → Option (ℕ × List ℕ × List ℕ) → Type 0
  IsNext left None = (found : Bool) (lists : PairLists) → outcome found left key dict lists ≡ (lists, code_of found true)
  IsNext left (Some found) = IsFirst left found.0 found.1 found.2

  found_here : (from : ℕ) (entry : Entry) (more : List Entry) → drop from rows ≡ entry ∷ more → IsNext (entry ∷ more) (Some (from, named_at (suc from) more, others_at (suc from) more))
  found_here from entry more here =
      let front = at_front rows from entry more here in record {
        entry = entry;
        more = more;
        at = front.0;
        here = front.1;
        named_are = refl;
        others_are = refl;
        same = λ found lists. refl;
      }

  passed_by : (entry : Entry) (more : List Entry) (next : Option (ℕ × List ℕ × List ℕ)) → ((pairs : List Pair) → fits entry key pairs dict ≡ false) → IsNext more next → IsNext (entry ∷ more) next
  passed_by entry more None fails is = λ found lists. outcome-passed found entry more key dict lists (fails lists.request) ∙ is found lists
  passed_by entry more (Some found) fails is = record {
    entry = is.entry;
    more = is.more;
    at = is.at;
    here = is.here;
    named_are = is.named_are;
    others_are = is.others_are;
    same = λ any lists. outcome-passed any entry more key dict lists (fails lists.request) ∙ is.same any lists;
  }

  by_keys : (from : ℕ) (entry : Entry) (more : List Entry) (named others : Bool) → eqb (entry_key entry) (name_key key) ≡ named → eqb (entry_key entry) default_key ≡ others → drop from rows ≡ entry ∷ more
      → IsNext more (next_place (named_at (suc from) more) (others_at (suc from) more))
      → IsNext (entry ∷ more) (next_place (cond named (from ∷ named_at (suc from) more) (named_at (suc from) more)) (cond others (from ∷ others_at (suc from) more) (others_at (suc from) more)))
  by_keys from entry more true true e f here later = subst (IsNext (entry ∷ more)) (sym (first_both from (named_at (suc from) more) (others_at (suc from) more))) (found_here from entry more here)
  by_keys from entry more true false e f here later =
      subst (IsNext (entry ∷ more)) (sym (first_left from (named_at (suc from) more) (others_at (suc from) more) (all_above from default_key (map entry_key more)))) (found_here from entry more here)
  by_keys from entry more false true e f here later =
      subst (IsNext (entry ∷ more)) (sym (first_right from (named_at (suc from) more) (others_at (suc from) more) (all_above from (name_key key) (map entry_key more)))) (found_here from entry more here)
  by_keys from entry more false false e f here later = passed_by entry more (next_place (named_at (suc from) more) (others_at (suc from) more)) (λ pairs. not_for entry key pairs dict e f) later

  or_none : (found : Bool) (lists : PairLists) → outcome found [] key dict lists ≡ (lists, code_of found true)
  or_none true lists = refl
  or_none false lists = refl

  next_is : (left : List Entry) (from : ℕ) → drop from rows ≡ left → IsNext left (next_place (named_at from left) (others_at from left))
  next_is [] from here = or_none
  next_is (entry ∷ more) from here =
      by_keys from entry more (eqb (entry_key entry) (name_key key)) (eqb (entry_key entry) default_key) refl refl here (next_is more (suc from) (at_front rows from entry more here).1)

  -- What is left of a run: the rows from a place on, and the places of those that may match.
  pub record Left (named others : List ℕ) (found : Bool) (lists : PairLists) (total : PairLists × Code) : Type 0 where
    pub from : ℕ
    pub left : List Entry
    pub here : drop from rows ≡ left
    pub named_are : named ≡ named_at from left
    pub others_are : others ≡ others_at from left
    pub same : outcome found left key dict lists ≡ total

  first_of : (named others : List ℕ) (next : Option (ℕ × List ℕ × List ℕ)) (found : Bool) (lists : PairLists) (total : PairLists × Code) → next_place named others ≡ next → (left : Left named others found lists total) → IsNext left.left next
  first_of named others next found lists total e left =
      subst (IsNext left.left) (ap (λ xs. next_place xs (others_at left.from left.left)) (sym left.named_are) ∙ ap (next_place named) (sym left.others_are) ∙ e) (next_is left.left left.from left.here)

  -- Where no place is left, no entry is.
  pub ends : (named others : List ℕ) (found : Bool) (lists : PairLists) (total : PairLists × Code) → next_place named others ≡ None → Left named others found lists total → (lists, code_of found true) ≡ total
  ends named others found lists total e left = sym (first_of named others None found lists total e left found lists) ∙ left.same

  -- The entry at the next place is there.
  pub is_there : (named others : List ℕ) (place : ℕ) (xs ys : List ℕ) (found : Bool) (lists : PairLists) (total : PairLists × Code) → next_place named others ≡ Some (place, xs, ys) → Left named others found lists total → slice_get rows place ≡ None → ⊥
  is_there named others place xs ys found lists total e left none =
      let first = first_of named others (Some (place, xs, ys)) found lists total e left in
      let at = first.at in cc

  -- What is left behind that entry.
  pub record Behind (place : ℕ) (xs ys : List ℕ) (found : Bool) (total : PairLists × Code) (new : PairLists × Next) : Type 0 where
    pub more : List Entry
    pub here : drop (suc place) rows ≡ more
    pub named_are : xs ≡ named_at (suc place) more
    pub others_are : ys ≡ others_at (suc place) more
    pub same : after_next found more key dict new ≡ total

  pub behind : (named others : List ℕ) (place : ℕ) (xs ys : List ℕ) (found : Bool) (lists : PairLists) (total : PairLists × Code) (entry : Entry) (new : PairLists × Next) → next_place named others ≡ Some (place, xs, ys) → Left named others found lists total
      → slice_get rows place ≡ Some entry → new ≡ entry_tried entry key dict lists → Behind place xs ys found total new
  behind named others place xs ys found lists total entry new e left at tried =
      let first = first_of named others (Some (place, xs, ys)) found lists total e left in
      let there = first.at in
      let same_row : first.entry ≡ entry = cc in record {
        more = first.more;
        here = first.here;
        named_are = first.named_are;
        others_are = first.others_are;
        same = ap (after_next found first.more key dict) tried
            ∙ sym (outcome-cons found entry first.more key dict lists)
            ∙ ap (λ (r : Entry). outcome found (r ∷ first.more) key dict lists) (sym same_row)
            ∙ sym (first.same found lists)
            ∙ left.same;
      }

  pub starts : (named others : List ℕ) (lists : PairLists) (total : PairLists × Code) → named ≡ named_at 0 rows → others ≡ others_at 0 rows → outcome false rows key dict lists ≡ total → Left named others false lists total
  starts named others lists total e f same = record { from = 0; left = rows; here = refl; named_are = e; others_are = f; same = same }

  -- The search ends behind that entry.
  pub ended : (place : ℕ) (xs ys : List ℕ) (found : Bool) (lists : PairLists) (n : Next) (c : Code) (total : PairLists × Code) → n ≡ next.Ends c → Behind place xs ys found total (lists, n) → (lists, c) ≡ total
  ended place xs ys found lists n c total e back = ap (λ (one : Next). after_next found back.more key dict (lists, one)) (sym e) ∙ back.same

  -- A entry that was passed, or that matched and falls through, has the others behind it.
  pub goes_by : (place : ℕ) (xs ys : List ℕ) (found : Bool) (lists : PairLists) (n : Next) (total : PairLists × Code) → n ≡ next.Passed → Behind place xs ys found total (lists, n) → Left xs ys found lists total
  goes_by place xs ys found lists n total e back = record {
    from = suc place;
    left = back.more;
    here = back.here;
    named_are = back.named_are;
    others_are = back.others_are;
    same = ap (λ (one : Next). after_next found back.more key dict (lists, one)) (sym e) ∙ back.same;
  }

  pub goes_on : (place : ℕ) (xs ys : List ℕ) (found : Bool) (lists : PairLists) (n : Next) (total : PairLists × Code) → n ≡ next.Through → Behind place xs ys found total (lists, n) → Left xs ys true lists total
  goes_on place xs ys found lists n total e back = record {
    from = suc place;
    left = back.more;
    here = back.here;
    named_are = back.named_are;
    others_are = back.others_are;
    same = ap (λ (one : Next). after_next found back.more key dict (lists, one)) (sym e) ∙ back.same;
  }

-- The places that an index has.
pub places_start : (key value : ℕ) (keys places : List ℕ) (rows : List Entry) → places ≡ places_of key keys → key ≡ value → keys ≡ map entry_key rows → places ≡ places_from 0 value (map entry_key rows)
unfolding places_of
places_start key value keys places rows e f g = e ∙ ap (λ k. places_from 0 k keys) f ∙ ap (places_from 0 value) g

-- The run of users, from their rows.
pub run_of : (users rows : List Entry) (key : List ℕ) (dict : Definitions) (lists : PairLists) → rows ≡ users → outcome false rows key dict lists ≡ files_done users key dict lists
unfolding files_done
run_of users rows key dict lists e = ap (λ rs. outcome false rs key dict lists) e
