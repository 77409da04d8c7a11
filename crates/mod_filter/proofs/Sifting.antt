-- A list is sifted from its front, by taking out each pair that doesn't stay and all that are equal to it.
use Rattle.std.specs.Prelude.{slice_get}
use Rattle.std.specs.List.{AllByRecursion}
use Rattle.std.specs.Option.{option_map_or}
use Rattle.std.specs.Ordering.{nat_cmp}
use Rattle.std.specs.Cmp.Lexicographic.{slice_cmp}
use Rattle.std.specs.declared.cmp.Ordering.{Ordering}
use Rattle.std.specs.declared.cmp.Ordering.TheVariants.{Less, Equal, Greater}
use Rattle.std.proofs.Common.{◌≡◌, ℕ, zero, suc, ◌+◌, ◌-◌, ◌<◌, ◌≤◌, Bool, true, false, not, cond, ◌&&◌, List, [], ◌∷◌, length, take, filter, Option, Some, None, refl, sym, ap, subst, ◌∙◌, arith, add-one}
use Rattle.std.proofs.lemmas.List.{length-take}
use Rattle.std.proofs.lemmas.Cmp.{nat_cmp_total, nat_list_cmp_total, tied_itself}
use Rattle.std.proofs.lemmas.Map.Lookups.{exact_bytes, exact_unsigned}
use Rattle.rad_words.specs.declared.attributes.AttrId.{AttrId}
use Rattle.rad_value.specs.declared.edits.ListName.{ListName}
use Rattle.rad_value.specs.declared.edits.ListName.TheVariants.{Request, Reply, Control}
use Rattle.rad_value.specs.declared.values.Pair.{Pair}
use Rattle.rad_value.specs.declared.values.Value.{Value}
use Rattle.rad_value.specs.declared.values.Value.TheVariants as value
use Rattle.rad_value.specs.declared.comparison.Cmp.TheVariants.{Eq}
use Rattle.rad_value.specs.Comparison.{is_equal, holds}
use Rattle.rad_value.specs.Edit.{is_equal_pair}
use Rattle.rad_value.specs.Pairs.{is_of}
use Rattle.rad_value.specs.PairLists.{PairLists, list_of, with_list}
use Rattle.rad_value.proofs.EditLaws.{is_of-own}
use Rattle.rad_dict.proofs.Lookups.{same_attr_is}
use Rattle.mod_base.proofs.Frames.{filter_within}
use Rattle.mod_filter.specs.Sieve.{sifted, without_pair, without_at}

-- ---- lists

module _ {X : Type 0} (keeps : X → Bool) where
  abbrev pub AreKept : List X → Type 0
  AreKept xs = AllByRecursion (λ x. keeps x ≡ true) xs

  -- where all stay, the list does
  pub all_stay : (xs : List X) → AreKept xs → filter keeps xs ≡ xs
  all_stay [] all = refl
  all_stay (x ∷ xs) all = rw (all.0) (ap (λ (l : List X). x ∷ l) (all_stay xs all.1))

  -- one more stays
  pub one_more : (xs : List X) (n : ℕ) (x : X) → slice_get xs n ≡ Some x → keeps x ≡ true → AreKept (take n xs) → AreKept (take (suc n) xs)
  one_more [] n x at is all = cc
  one_more (y ∷ xs) zero x at is all =
      let same : y ≡ x = cc in (ap keeps same ∙ is, tt)
  one_more (y ∷ xs) (suc n) x at is all = (all.0, one_more xs n x at is all.1)

  module _ (others : X → Bool) (within : (x : X) → keeps x ≡ true → others x ≡ true) where
    -- what is taken out behind a front that stays leaves the front
    pub front_stays : (xs : List X) (n : ℕ) → n ≤ length xs → AreKept (take n xs) → take n (filter others xs) ≡ take n xs
    front_stays xs zero le all = refl
    front_stays [] (suc n) le all = absurd (omega (arith, le))
    front_stays (x ∷ xs) (suc n) le all = rw (within x all.0) (ap (λ (l : List X). x ∷ l) (front_stays xs n (omega (arith, le)) all.1))

  -- a filter takes no more than there is
  pub no_longer : (others : X → Bool) (xs : List X) → length (filter others xs) ≤ length xs
  no_longer others [] = omega arith
  no_longer others (x ∷ xs) =
      elim (others x) as (λ b. length (cond b (x ∷ filter others xs) (filter others xs)) ≤ suc (length xs)) [
        | true ↦ let le = no_longer others xs in omega (arith, le)
        | false ↦ let le = no_longer others xs in omega (arith, le)
      ]

  -- and less, where one leaves
  pub shorter : (others : X → Bool) (xs : List X) (n : ℕ) (x : X) → slice_get xs n ≡ Some x → others x ≡ false → length (filter others xs) < length xs
  shorter others [] n x at leaves = cc
  shorter others (y ∷ xs) zero x at leaves =
      let same : y ≡ x = cc in
      let out : others y ≡ false = ap others same ∙ leaves in
      let le = no_longer others xs in
      rw out (omega (arith, le))
  shorter others (y ∷ xs) (suc n) x at leaves =
      elim (others y) as (λ b. length (cond b (y ∷ filter others xs) (filter others xs)) < suc (length xs)) [
        | true ↦ let lt = shorter others xs n x at leaves in omega (arith, lt)
        | false ↦ let lt = shorter others xs n x at leaves in omega (arith, lt)
      ]

-- ---- equal pairs are the same

holds_equal : (o : Ordering) → holds Eq o ≡ true → o ≡ Equal
holds_equal Less is = absurd (cc)
holds_equal Equal is = refl
holds_equal Greater is = absurd (cc)

same_value : (a b : Value) → is_equal a b ≡ true → a ≡ b
same_value (value.Text a) (value.Text b) is = ap value.Text (exact_bytes a b (holds_equal (slice_cmp nat_cmp a b) is))
same_value (value.Text a) (value.Octets b) is = absurd (cc)
same_value (value.Text a) (value.Addr b) is = absurd (cc)
same_value (value.Text a) (value.Number b) is = absurd (cc)
same_value (value.Text a) (value.Date b) is = absurd (cc)
same_value (value.Text a) (value.Byte b) is = absurd (cc)
same_value (value.Text a) (value.Short b) is = absurd (cc)
same_value (value.Octets a) (value.Text b) is = absurd (cc)
same_value (value.Octets a) (value.Octets b) is = ap value.Octets (exact_bytes a b (holds_equal (slice_cmp nat_cmp a b) is))
same_value (value.Octets a) (value.Addr b) is = absurd (cc)
same_value (value.Octets a) (value.Number b) is = absurd (cc)
same_value (value.Octets a) (value.Date b) is = absurd (cc)
same_value (value.Octets a) (value.Byte b) is = absurd (cc)
same_value (value.Octets a) (value.Short b) is = absurd (cc)
same_value (value.Addr a) (value.Text b) is = absurd (cc)
same_value (value.Addr a) (value.Octets b) is = absurd (cc)
same_value (value.Addr a) (value.Addr b) is = ap value.Addr (exact_unsigned a b (holds_equal (nat_cmp a b) is))
same_value (value.Addr a) (value.Number b) is = absurd (cc)
same_value (value.Addr a) (value.Date b) is = absurd (cc)
same_value (value.Addr a) (value.Byte b) is = absurd (cc)
same_value (value.Addr a) (value.Short b) is = absurd (cc)
same_value (value.Number a) (value.Text b) is = absurd (cc)
same_value (value.Number a) (value.Octets b) is = absurd (cc)
same_value (value.Number a) (value.Addr b) is = absurd (cc)
same_value (value.Number a) (value.Number b) is = ap value.Number (exact_unsigned a b (holds_equal (nat_cmp a b) is))
same_value (value.Number a) (value.Date b) is = absurd (cc)
same_value (value.Number a) (value.Byte b) is = absurd (cc)
same_value (value.Number a) (value.Short b) is = absurd (cc)
same_value (value.Date a) (value.Text b) is = absurd (cc)
same_value (value.Date a) (value.Octets b) is = absurd (cc)
same_value (value.Date a) (value.Addr b) is = absurd (cc)
same_value (value.Date a) (value.Number b) is = absurd (cc)
same_value (value.Date a) (value.Date b) is = ap value.Date (exact_unsigned a b (holds_equal (nat_cmp a b) is))
same_value (value.Date a) (value.Byte b) is = absurd (cc)
same_value (value.Date a) (value.Short b) is = absurd (cc)
same_value (value.Byte a) (value.Text b) is = absurd (cc)
same_value (value.Byte a) (value.Octets b) is = absurd (cc)
same_value (value.Byte a) (value.Addr b) is = absurd (cc)
same_value (value.Byte a) (value.Number b) is = absurd (cc)
same_value (value.Byte a) (value.Date b) is = absurd (cc)
same_value (value.Byte a) (value.Byte b) is = ap value.Byte (exact_unsigned a b (holds_equal (nat_cmp a b) is))
same_value (value.Byte a) (value.Short b) is = absurd (cc)
same_value (value.Short a) (value.Text b) is = absurd (cc)
same_value (value.Short a) (value.Octets b) is = absurd (cc)
same_value (value.Short a) (value.Addr b) is = absurd (cc)
same_value (value.Short a) (value.Number b) is = absurd (cc)
same_value (value.Short a) (value.Date b) is = absurd (cc)
same_value (value.Short a) (value.Byte b) is = absurd (cc)
same_value (value.Short a) (value.Short b) is = ap value.Short (exact_unsigned a b (holds_equal (nat_cmp a b) is))

is_itself : (a : Value) → is_equal a a ≡ true
is_itself (value.Text a) = rw (tied_itself nat_list_cmp_total a) refl
is_itself (value.Octets a) = rw (tied_itself nat_list_cmp_total a) refl
is_itself (value.Addr a) = rw (tied_itself nat_cmp_total a) refl
is_itself (value.Number a) = rw (tied_itself nat_cmp_total a) refl
is_itself (value.Date a) = rw (tied_itself nat_cmp_total a) refl
is_itself (value.Byte a) = rw (tied_itself nat_cmp_total a) refl
is_itself (value.Short a) = rw (tied_itself nat_cmp_total a) refl

both_true : (a b : Bool) → (a && b) ≡ true → (a ≡ true) × (b ≡ true)
both_true true b is = (refl, is)
both_true false b is = absurd (cc)

same_pair : (x p : Pair) → is_equal_pair x p ≡ true → p ≡ x
same_pair x p is =
    let both = both_true (is_of x.attr p) (is_equal p.value x.value) is in
    let attr = same_attr_is p.attr x.attr both.0 in
    let value = same_value p.value x.value both.1 in
    ap (λ (a : AttrId). let one : Pair = record { attr = a; value = p.value } in one) attr
    ∙ ap (λ (v : Value). let one : Pair = record { attr = x.attr; value = v } in one) value

equal_to_itself : (x : Pair) → is_equal_pair x x ≡ true
equal_to_itself x = rw (is_of-own x, is_itself x.value) refl

-- ---- the list that is sifted

module _ (keeps : Pair → Bool) where
  abbrev others : Pair → Pair → Bool
  others x p = not (is_equal_pair x p)

  by_equal : (x p : Pair) (b : Bool) → keeps x ≡ false → keeps p ≡ true → is_equal_pair x p ≡ b → not b ≡ true
  by_equal x p true leaves stays is = absurd (let same = same_pair x p is in let no : keeps p ≡ false = ap keeps same ∙ leaves in cc)
  by_equal x p false leaves stays is = refl

  -- What was sifted of a list, up to a place.
  pub record Sifted (list : ListName) (before now : PairLists) (n : ℕ) : Type 0 where
    pub within : n ≤ length (list_of now list)
    pub front : AreKept keeps (take n (list_of now list))
    pub same : sifted keeps list now ≡ sifted keeps list before

  whole_list : (list : ListName) (lists : PairLists) → with_list lists list (list_of lists list) ≡ lists
  whole_list Request lists = refl
  whole_list Reply lists = refl
  whole_list Control lists = refl

  take_all : {X : Type 0} (xs : List X) (n : ℕ) → length xs ≤ n → take n xs ≡ xs
  take_all [] zero le = refl
  take_all [] (suc n) le = refl
  take_all (x ∷ xs) zero le = absurd (omega (arith, le))
  take_all (x ∷ xs) (suc n) le = ap (λ (l : List _). x ∷ l) (take_all xs n (omega (arith, le)))

  pub begins : (list : ListName) (lists : PairLists) → Sifted list lists lists 0
  begins list lists = record { within = omega arith; front = tt; same = refl }

  -- Where the place is the end, the list is sifted.
  pub ends : (list : ListName) (before now : PairLists) (n : ℕ) → Sifted list before now n → length (list_of now list) ≤ n → now ≡ sifted keeps list before
  ends list before now n so_far past =
      let xs = list_of now list in
      let all : AreKept keeps xs = subst (AreKept keeps) (take_all xs n past) so_far.front in
      sym (whole_list list now) ∙ ap (with_list now list) (sym (all_stay keeps xs all)) ∙ so_far.same

  -- The pair of the place stays.
  pub goes_on : (list : ListName) (before now : PairLists) (n : ℕ) (x : Pair) → Sifted list before now n → slice_get (list_of now list) n ≡ Some x → keeps x ≡ true → n < length (list_of now list) → Sifted list before now (n + 1)
  goes_on list before now n x so_far at stays lt =
      record {
        within = omega (arith, lt);
        front = simp add-one (one_more keeps (list_of now list) n x at stays so_far.front);
        same = so_far.same;
      }

  list_with : (list : ListName) (lists : PairLists) (pairs : List Pair) → list_of (with_list lists list pairs) list ≡ pairs
  list_with Request lists pairs = refl
  list_with Reply lists pairs = refl
  list_with Control lists pairs = refl

  with_twice : (list : ListName) (lists : PairLists) (first second : List Pair) → with_list (with_list lists list first) list second ≡ with_list lists list second
  with_twice Request lists first second = refl
  with_twice Reply lists first second = refl
  with_twice Control lists first second = refl

  -- The lists without a pair that leaves.
  pub record IsShorter (list : ListName) (before now new : PairLists) (n : ℕ) : Type 0 where
    pub less : length (list_of new list) < length (list_of now list)
    pub still : Sifted list before new n

  pub leaves : (list : ListName) (before now new : PairLists) (n : ℕ) (x : Pair) → Sifted list before now n → slice_get (list_of now list) n ≡ Some x → keeps x ≡ false → new ≡ without_at list n now → IsShorter list before now new n
  leaves list before now new n x so_far at out done =
      let xs = list_of now list in
      let q = others x in
      let ys = filter q xs in
      let within : (p : Pair) → keeps p ≡ true → q p ≡ true = λ p stays. by_equal x p (is_equal_pair x p) out stays refl in
      let is : new ≡ with_list now list ys = done ∙ ap (without_pair list now) at in
      let list_is : list_of new list ≡ ys = ap (λ (l : PairLists). list_of l list) is ∙ list_with list now ys in
      let lt : length ys < length xs = shorter keeps q xs n x at (ap not (equal_to_itself x)) in
      let front : take n ys ≡ take n xs = front_stays keeps q within xs n so_far.within so_far.front in
      let short : n ≤ length ys = taken n ys xs front so_far.within in
      record {
        less = rw list_is lt;
        still = record {
          within = rw list_is short;
          front = rw list_is (subst (AreKept keeps) (sym front) so_far.front);
          same =
              ap (sifted keeps list) is
              ∙ with_twice list now ys (filter keeps (list_of (with_list now list ys) list))
              ∙ ap (λ (l : List Pair). with_list now list (filter keeps l)) (list_with list now ys)
              ∙ ap (with_list now list) (sym (filter_within keeps q within xs))
              ∙ so_far.same;
        };
      }
    where
      taken : (n : ℕ) (ys xs : List Pair) → take n ys ≡ take n xs → n ≤ length xs → n ≤ length ys
      taken n ys xs is le = omega (arith, length-take n ys, length-take n xs, ap length is, le)

  -- the pair of a place leaves, where it doesn't stay
  pub removed : (list : ListName) (before now new : PairLists) (n : ℕ) (stays : Bool) → stays ≡ option_map_or keeps (slice_get (list_of now list) n) true → stays ≡ false → Sifted list before now n → new ≡ without_at list n now
      → IsShorter list before now new n
  removed list before now new n stays is fails so_far done = by_pair (slice_get (list_of now list) n) refl (sym is ∙ fails) where
    by_pair : (pair : Option Pair) → slice_get (list_of now list) n ≡ pair → option_map_or keeps pair true ≡ false → IsShorter list before now new n
    by_pair None at none = absurd (cc)
    by_pair (Some x) at none = leaves list before now new n x so_far at none done
