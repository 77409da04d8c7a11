-- The base is a dictionary: what is asked of its rows is computed over all of them.
use Rattle.std.proofs.Common.{◌≡◌, ℕ, zero, suc, ◌<◌, Bool, true, false, not, ◌&&◌, List, [], ◌∷◌, length, None, refl, sym, ap, subst, ◌∙◌, arith}
use Rattle.std.specs.Prelude.{slice_index_or}
use Rattle.std.specs.Option.{is_none}
use Rattle.std.specs.List.{Contains, find}
use Rattle.std.specs.Str.{str_eq_ignore_ascii_case}
use Rattle.std.proofs.lemmas.Bool.{true≢false, and_from, and_parts}
use Rattle.std.proofs.lemmas.Option.{none-some}
use Rattle.rad_words.specs.Attribute.{same_attr}
use Rattle.rad_dict.specs.declared.definitions.AttrDef.{AttrDef}
use Rattle.rad_dict.specs.declared.definitions.ValueDef.{ValueDef}
use Rattle.rad_dict.specs.Base.{base_definitions}
use Rattle.rad_dict.specs.BaseAttributes.{standard_attrs, internal_attrs, base_attrs}
use Rattle.rad_dict.specs.BaseValues.{base_values}
use Rattle.rad_dict.specs.NameForms.{is_name, is_attr_name, is_value_name}
use Rattle.rad_dict.specs.EveryDictionary.{IsDictionary}
use Rattle.rad_index.proofs.Finds.{find_finds}
use Rattle.rad_dict.proofs.Lookups.{same_turned, same_attr_itself, same_attr_is}

-- Each row fits.
all_fit : {T : Type 0} (p : T → Bool) (xs : List T) → find (λ x. not (p x)) xs ≡ None → (x : T) → Contains xs x → p x ≡ true
all_fit p xs none x here = go (p x) refl where
  go : (b : Bool) → p x ≡ b → p x ≡ true
  go true e = e
  go false e = let found = find_finds (λ y. not (p y)) xs x here (ap not e) in absurd (none-some found.0 (sym none ∙ found.1))

-- No row is taken for a later one.
all_differ : {T : Type 0} → (T → T → Bool) → List T → Bool
all_differ same [] = true
all_differ same (x ∷ xs) = is_none (find (same x) xs) && all_differ same xs

none_same : {T : Type 0} (same : T → T → Bool) (x : T) (xs : List T) → is_none (find (same x) xs) ≡ true → (y : T) → Contains xs y → same x y ≡ true → ⊥
none_same same x xs none y here is =
    let found = find_finds (same x) xs y here is in
    true≢false (sym none ∙ ap is_none found.1)

one_at : {T : Type 0} (same : T → T → Bool) → ((a b : T) → same a b ≡ true → same b a ≡ true) → (x : T) (xs : List T) → is_none (find (same x) xs) ≡ true → (a b : T) → same a b ≡ true
    → (Contains xs a → Contains xs b → a ≡ b) → (k : ℕ) → k < length (x ∷ xs) → slice_index_or (x ∷ xs) k a ≡ a → (l : ℕ) → l < length (x ∷ xs) → slice_index_or (x ∷ xs) l b ≡ b → a ≡ b
one_at same turned x xs none a b is later zero lt e zero mt f = sym e ∙ f
one_at same turned x xs none a b is later zero lt e (suc l) mt f = absurd (none_same same x xs none b (l, omega (arith, mt), f) (subst (λ t. same t b ≡ true) (sym e) is))
one_at same turned x xs none a b is later (suc k) lt e zero mt f = absurd (none_same same x xs none a (k, omega (arith, lt), e) (subst (λ t. same t a ≡ true) (sym f) (turned a b is)))
one_at same turned x xs none a b is later (suc k) lt e (suc l) mt f = later (k, omega (arith, lt), e) (l, omega (arith, mt), f)

one_of : {T : Type 0} (same : T → T → Bool) → ((a b : T) → same a b ≡ true → same b a ≡ true) → (xs : List T) → all_differ same xs ≡ true → (a b : T) → Contains xs a → Contains xs b → same a b ≡ true → a ≡ b
unfolding all_differ
one_of same turned [] differ a b here there is = absurd (omega (arith, here.1))
one_of same turned (x ∷ xs) differ a b here there is =
    let parts = and_parts (is_none (find (same x) xs)) (all_differ same xs) differ in
    one_at same turned x xs parts.0 a b is (λ p q. one_of same turned xs parts.1 a b p q is) here.0 here.1 here.2 there.0 there.1 there.2

abbrev same_name : AttrDef → AttrDef → Bool
same_name row other = str_eq_ignore_ascii_case row.name other.name

abbrev same_value : ValueDef → ValueDef → Bool
same_value row other = same_attr row.attr other.attr && str_eq_ignore_ascii_case row.name other.name

value_turned : (a b : ValueDef) → same_value a b ≡ true → same_value b a ≡ true
value_turned a b e =
    let parts = and_parts (same_attr a.attr b.attr) (str_eq_ignore_ascii_case a.name b.name) e in
    and_from _ _ (ap (λ attr. same_attr attr a.attr) (sym (same_attr_is a.attr b.attr parts.0)) ∙ same_attr_itself a.attr) (same_turned a.name b.name parts.1)

attr_forms : find (λ (row : AttrDef). not (is_attr_name row.name)) base_attrs ≡ None
unfolding standard_attrs internal_attrs is_attr_name is_name
attr_forms = refl

attrs_differ : all_differ same_name base_attrs ≡ true
unfolding standard_attrs internal_attrs all_differ
attrs_differ = refl

value_forms : find (λ (row : ValueDef). not (is_value_name row.name)) base_values ≡ None
unfolding base_values is_value_name is_name
value_forms = refl

values_differ : all_differ same_value base_values ≡ true
unfolding base_values all_differ
values_differ = refl

pub base_is : IsDictionary base_definitions
unfolding standard_attrs internal_attrs base_values
base_is = record {
  base_first = refl;
  base_values_first = refl;
  attr_names = all_fit (λ (row : AttrDef). is_attr_name row.name) base_attrs attr_forms;
  one_attr = λ row other here there same. one_of same_name (λ a b e. same_turned a.name b.name e) base_attrs attrs_differ row other here there same;
  value_names = all_fit (λ (row : ValueDef). is_value_name row.name) base_values value_forms;
  one_value = λ row other here there attr same.
      one_of same_value value_turned base_values values_differ row other here there (and_from _ _ (ap (λ a. same_attr a other.attr) attr ∙ same_attr_itself other.attr) same);
}
