-- In a table whose names differ and whose numbers differ the two look-ups are inverse.
use Rattle.std.proofs.Common.{◌≡◌, ℕ, Bool, true, false, cond, not, ◌&&◌, ◌||◌, eqb, List, [], ◌∷◌, Option, Some, None, option_map, IfSome, IsTrue, refl, ap, subst, ◌∙◌, sym, eq-eqb}
use Rattle.std.specs.List.{find, list_any}
use Rattle.std.specs.Borrow.{Bor}
use Rattle.std.specs.Option.{option_copied}
use Rattle.std.specs.Str.{str_to_ascii_lowercase, str_eq_ignore_ascii_case}
use Rattle.std.proofs.lemmas.Bool.{false≢true, eqb-true}
use Rattle.std.proofs.lemmas.Slice.Eq.{bytes_eq-Decides}
use Rattle.rad_words.specs.Names.{Row, is_named, is_numbered, number_in, name_in, names_differ, numbers_differ, differ, IsNamedIn, AreInverse}

or_true : (a : Bool) → (a || true) ≡ true
or_true true = refl
or_true false = refl

and_left : (a b : Bool) → (a && b) ≡ true → a ≡ true
and_left true b e = refl
and_left false b e = e

and_right : (a b : Bool) → (a && b) ≡ true → b ≡ true
and_right true b e = e
and_right false b e = absurd (false≢true e)

is_false : (a : Bool) → not a ≡ true → a ≡ false
is_false true e = absurd (false≢true e)
is_false false e = refl

same_name : (name : List ℕ) → str_eq_ignore_ascii_case name name ≡ true
same_name name = (bytes_eq-Decides (str_to_ascii_lowercase name) (str_to_ascii_lowercase name)).1 refl

-- The number of a name stands in a row, and so does the name of a number.
number_stands : (rows : List Row) (name : List ℕ) (number : ℕ) → number_in rows name ≡ Some number → list_any (is_numbered number) rows ≡ true
number_stands [] name number e = absurd cc
number_stands (row ∷ rows) name number e = by_case (λ later. number_stands rows name number later) (is_named name row) e where
  by_case : (number_in rows name ≡ Some number → list_any (is_numbered number) rows ≡ true) → (b : Bool)
      → option_map (λ (one : Row). one.number) (cond b (Some row) (find (is_named name) rows)) ≡ Some number → (eqb row.number number || list_any (is_numbered number) rows) ≡ true
  by_case more true here = let same : eqb row.number number ≡ true = eq-eqb row.number number cc in rw same refl
  by_case more false later = rw (more later) (or_true (eqb row.number number))

name_stands : (rows : List Row) (test : Row → Bool) (number : ℕ) (name : List ℕ) → ((one : Row) → one.name ≡ name → test one ≡ true) → name_in rows number ≡ Some name → list_any test rows ≡ true
name_stands [] test number name fits e = absurd cc
name_stands (row ∷ rows) test number name fits e = by_case (λ later. name_stands rows test number name fits later) (is_numbered number row) e where
  by_case : (name_in rows number ≡ Some name → list_any test rows ≡ true) → (b : Bool)
      → option_map (λ (one : Row). one.name) (cond b (Some row) (find (is_numbered number) rows)) ≡ Some name → (test row || list_any test rows) ≡ true
  by_case more true here = let same : test row ≡ true = fits row cc in rw same refl
  by_case more false later = rw (more later) (or_true (test row))

-- A row is passed by.
passed_number : (row : Row) (rows : List Row) (number : ℕ) → not (list_any (is_numbered row.number) rows) ≡ true → list_any (is_numbered number) rows ≡ true → is_numbered number row ≡ false
passed_number row rows number apart stands = by_case (is_numbered number row) refl where
  by_case : (b : Bool) → is_numbered number row ≡ b → is_numbered number row ≡ false
  by_case true e =
      let same : row.number ≡ number = eqb-true row.number number e in
      absurd (false≢true (sym (is_false (list_any (is_numbered row.number) rows) apart) ∙ ap (λ n. list_any (is_numbered n) rows) same ∙ stands))
  by_case false e = e

passed_name : (row : Row) (rows : List Row) (number : ℕ) (name : List ℕ) → not (list_any (λ (other : Row). is_named other.name row) rows) ≡ true → name_in rows number ≡ Some name → is_named name row ≡ false
passed_name row rows number name apart at = by_case (is_named name row) refl where
  by_case : (b : Bool) → is_named name row ≡ b → is_named name row ≡ false
  by_case true e =
      let stands = name_stands rows (λ (other : Row). is_named other.name row) number name (λ one same. ap (λ other. is_named other row) same ∙ e) at in
      absurd (false≢true (sym (is_false (list_any (λ (other : Row). is_named other.name row) rows) apart) ∙ stands))
  by_case false e = e

-- The name of a name's number is the name, case aside.
abbrev Again : List Row → List ℕ → ℕ → Type 0
Again rows name number = (found : List ℕ) × (name_in rows number ≡ Some found) × (str_eq_ignore_ascii_case found name ≡ true)

named_again : (rows : List Row) (name : List ℕ) (number : ℕ) → numbers_differ rows ≡ true → number_in rows name ≡ Some number → Again rows name number
named_again [] name number apart e = absurd cc
named_again (row ∷ rows) name number apart e = by_case (λ differ later. named_again rows name number differ later) (is_named name row) refl e where
  by_case : (numbers_differ rows ≡ true → number_in rows name ≡ Some number → Again rows name number) → (b : Bool) → is_named name row ≡ b
      → option_map (λ (one : Row). one.number) (cond b (Some row) (find (is_named name) rows)) ≡ Some number → Again (row ∷ rows) name number
  by_case more true is here =
      let same : eqb row.number number ≡ true = eq-eqb row.number number cc in
      (row.name, rw same refl, is)
  by_case more false is later =
      let own = and_left (not (list_any (is_numbered row.number) rows)) (numbers_differ rows) apart in
      let again = more (and_right (not (list_any (is_numbered row.number) rows)) (numbers_differ rows) apart) later in
      let passed = passed_number row rows number own (number_stands rows name number later) in
      (again.0, ap (λ b. option_map (λ (one : Row). one.name) (cond b (Some row) (find (is_numbered number) rows))) passed ∙ again.1, again.2)

-- The number of a number's name is the number.
numbered_again : (rows : List Row) (number : ℕ) (name : List ℕ) → names_differ rows ≡ true → name_in rows number ≡ Some name → number_in rows name ≡ Some number
numbered_again [] number name apart e = absurd cc
numbered_again (row ∷ rows) number name apart e = by_case (λ differ later. numbered_again rows number name differ later) (is_numbered number row) refl e where
  by_case : (names_differ rows ≡ true → name_in rows number ≡ Some name → number_in rows name ≡ Some number) → (b : Bool) → is_numbered number row ≡ b
      → option_map (λ (one : Row). one.name) (cond b (Some row) (find (is_numbered number) rows)) ≡ Some name → number_in (row ∷ rows) name ≡ Some number
  by_case more true is here =
      let same : row.name ≡ name = cc in
      let its : is_named name row ≡ true = ap (λ other. str_eq_ignore_ascii_case row.name other) (sym same) ∙ same_name row.name in
      rw its (ap (λ n. Some n) (eqb-true row.number number is))
  by_case more false is later =
      let apart_here = not (list_any (λ (other : Row). is_named other.name row) rows) in
      let again = more (and_right apart_here (names_differ rows) apart) later in
      let passed = passed_name row rows number name (and_left apart_here (names_differ rows) apart) later in
      ap (λ b. option_map (λ (one : Row). one.number) (cond b (Some row) (find (is_named name) rows))) passed ∙ again

if_some : {A : Type 0} (P : A → Type 0) (o : Option A) → ((x : A) → o ≡ Some x → P x) → IfSome o P
if_some P None f = tt
if_some P (Some x) f = f x refl

some_is : {A : Type 0} (P : A → Type 0) (o : Option A) (x : A) → o ≡ Some x → P x → IfSome o P
some_is P o x e p = rw e p

pub is_named_in : (rows : List Row) (name : List ℕ) (number : ℕ) → IsTrue (differ rows) → number_in rows name ≡ Some number → IsNamedIn rows number name
is_named_in rows name number apart e =
    let again = named_again rows name number (and_right (names_differ rows) (numbers_differ rows) apart) e in
    some_is (λ (found : List ℕ). IsTrue (str_eq_ignore_ascii_case found name)) (name_in rows number) again.0 again.1 again.2

pub is_number_in : (rows : List Row) (number : ℕ) (name : List ℕ) → IsTrue (differ rows) → name_in rows number ≡ Some name → number_in rows name ≡ Some number
is_number_in rows number name apart e = numbered_again rows number name (and_left (names_differ rows) (numbers_differ rows) apart) e

pub are_inverse : (rows : List Row) → IsTrue (differ rows) → AreInverse rows
are_inverse rows apart = record {
  of_name = λ name. if_some (λ (number : ℕ). IsNamedIn rows number name) (number_in rows name) (λ number e. is_named_in rows name number apart e);
  of_number = λ number. if_some (λ (name : List ℕ). number_in rows name ≡ Some number) (name_in rows number) (λ name e. is_number_in rows number name apart e);
}

-- The same of what a look-up answered.
pub answered_number : (rows told : List Row) (name : List ℕ) (answer : Option ℕ) → rows ≡ told → IsTrue (differ rows) → answer ≡ number_in rows name → IfSome answer (λ (number : ℕ). IsNamedIn told number name)
answered_number rows told name answer same apart e =
    let P : List Row → Type 0 = λ all. IfSome answer (λ (number : ℕ). IsNamedIn all number name) in
    subst P same (if_some (λ (number : ℕ). IsNamedIn rows number name) answer (λ number here. is_named_in rows name number apart (sym e ∙ here)))

pub answered_name : (rows told : List Row) (number : ℕ) (answer : Option (Bor (List ℕ))) → rows ≡ told → IsTrue (differ rows) → option_copied answer ≡ name_in rows number
    → IfSome answer (λ (name : Bor (List ℕ)). number_in told name.now ≡ Some number)
answered_name rows told number answer same apart e =
    let P : List Row → Type 0 = λ all. IfSome answer (λ (name : Bor (List ℕ)). number_in all name.now ≡ Some number) in
    subst P same (if_some (λ (name : Bor (List ℕ)). number_in rows name.now ≡ Some number) answer (λ name here. is_number_in rows number name.now apart (sym e ∙ ap option_copied here)))
