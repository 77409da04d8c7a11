-- A dictionary with one row more, whose name stands for nothing yet, is a dictionary.
use Rattle.std.proofs.Common.{◌≡◌, ℕ, zero, suc, ◌<◌, ◌⊎◌, inl, inr, true, List, [], ◌∷◌, ◌++◌, length, take, Option, Some, None, IsTrue, refl, sym, ap, subst, ◌∙◌, arith}
use Rattle.std.specs.Prelude.{slice_index_or}
use Rattle.std.specs.Option.{option_map}
use Rattle.std.specs.List.{Contains, find}
use Rattle.std.specs.Str.{str_eq_ignore_ascii_case}
use Rattle.std.proofs.lemmas.Bool.{and_from}
use Rattle.std.proofs.lemmas.Option.{none-some}
use Rattle.std.proofs.lemmas.List.Elements.{Contains-append_cases}
use Rattle.rad_words.specs.Attribute.{same_attr}
use Rattle.rad_dict.specs.declared.definitions.AttrDef.{AttrDef}
use Rattle.rad_dict.specs.declared.definitions.ValueDef.{ValueDef}
use Rattle.rad_dict.specs.Definitions.{Definitions, attr_named, is_name_of, number_of}
use Rattle.rad_dict.specs.NameForms.{is_attr_name, is_value_name}
use Rattle.rad_dict.specs.BaseAttributes.{base_attrs}
use Rattle.rad_dict.specs.BaseValues.{base_values}
use Rattle.rad_dict.specs.EveryDictionary.{BeginsWith, IsSameName, IsDictionary}
use Rattle.rad_index.proofs.Finds.{find_finds}
use Rattle.rad_dict.proofs.Lookups.{same_turned, same_attr_itself}

begins_longer : {T : Type 0} (first whole more : List T) → BeginsWith first whole → BeginsWith first (whole ++ more)
begins_longer [] whole more e = refl
begins_longer (c ∷ first) [] more e = absurd cc
begins_longer (c ∷ first) (d ∷ whole) more e =
    let head : d ≡ c = cc in
    let tail : take (length first) whole ≡ first = cc in
    ap (λ x. x ∷ take (length first) (whole ++ more)) head ∙ ap (λ xs. c ∷ xs) (begins_longer first whole more tail)

only_at : {T : Type 0} (y x : T) (k : ℕ) → k < 1 → slice_index_or (y ∷ []) k x ≡ x → y ≡ x
only_at y x zero lt is = is
only_at y x (suc k) lt is = absurd (omega (arith, lt))

-- A row is one of those before, or the last.
before_or_last : {T : Type 0} (xs : List T) (y x : T) → Contains (xs ++ y ∷ []) x → Contains xs x ⊎ (y ≡ x)
before_or_last xs y x here = elim (Contains-append_cases xs (y ∷ []) x here) [
  | inl before ↦ inl before
  | inr last ↦ inr (only_at y x last.0 last.1 last.2)
]

all_longer : {T : Type 0} (P : T → Type 0) (xs : List T) (y : T) → ((x : T) → Contains xs x → P x) → P y → (x : T) → Contains (xs ++ y ∷ []) x → P x
all_longer P xs y all last x here = elim (before_or_last xs y x here) [ inl before ↦ all x before | inr same ↦ subst P same last ]

-- Rows that are taken for one another are one, with a last one that is taken for none before it.
one_longer : {T : Type 0} (Same : T → T → Type 0) (xs : List T) (y : T) → ((a b : T) → Same a b → Same b a) → ((a b : T) → Contains xs a → Contains xs b → Same a b → a ≡ b)
    → ((a : T) → Contains xs a → Same a y → ⊥) → (a b : T) → Contains (xs ++ y ∷ []) a → Contains (xs ++ y ∷ []) b → Same a b → a ≡ b
one_longer Same xs y turned one new a b here there same = go (before_or_last xs y a here) (before_or_last xs y b there) where
  go : Contains xs a ⊎ (y ≡ a) → Contains xs b ⊎ (y ≡ b) → a ≡ b
  go (inl p) (inl q) = one a b p q same
  go (inl p) (inr f) = absurd (new a p (subst (λ t. Same a t) (sym f) same))
  go (inr e) (inl q) = absurd (new b q (turned y b (subst (λ t. Same t b) (sym e) same)))
  go (inr e) (inr f) = sym e ∙ f

-- A row of a name that stands for nothing isn't there.
no_attr : (name : List ℕ) (dict : Definitions) → attr_named name dict ≡ None → (row : AttrDef) → Contains dict.attrs row → IsSameName row.name name → ⊥
no_attr name dict none row here same =
    let found = find_finds (λ (r : AttrDef). str_eq_ignore_ascii_case r.name name) dict.attrs row here same in
    none-some found.0 (sym none ∙ found.1)

not_found : {T : Type 0} (number : T → ℕ) (o : Option T) (x : T) → option_map number o ≡ None → o ≡ Some x → ⊥
not_found number None x e is = none-some x is
not_found number (Some y) x e is = absurd cc

abbrev SameValue : ValueDef → ValueDef → Type 0
SameValue row other = (row.attr ≡ other.attr) × IsSameName row.name other.name

no_value : (def : ValueDef) (dict : Definitions) → number_of def.attr def.name dict ≡ None → (row : ValueDef) → Contains dict.values row → SameValue row def → ⊥
no_value def dict none row here same =
    let fits : same_attr row.attr def.attr ≡ true = ap (λ attr. same_attr attr def.attr) same.0 ∙ same_attr_itself def.attr in
    let found = find_finds (is_name_of def.attr def.name) dict.values row here (and_from _ _ fits same.1) in
    not_found (λ (r : ValueDef). r.number) (find (is_name_of def.attr def.name) dict.values) found.0 none found.1

pub attr_more : (dict : Definitions) (def : AttrDef) → IsDictionary dict → IsTrue (is_attr_name def.name) → attr_named def.name dict ≡ None → IsDictionary (record { attrs = dict.attrs ++ def ∷ []; values = dict.values })
attr_more dict def is form new = record {
  base_first = begins_longer base_attrs dict.attrs (def ∷ []) is.base_first;
  base_values_first = is.base_values_first;
  attr_names = all_longer (λ (row : AttrDef). IsTrue (is_attr_name row.name)) dict.attrs def is.attr_names form;
  one_attr = one_longer (λ (row other : AttrDef). IsSameName row.name other.name) dict.attrs def (λ a b same. same_turned a.name b.name same) is.one_attr (no_attr def.name dict new);
  value_names = is.value_names;
  one_value = is.one_value;
}

pub value_more : (dict : Definitions) (def : ValueDef) → IsDictionary dict → IsTrue (is_value_name def.name) → number_of def.attr def.name dict ≡ None → IsDictionary (record { attrs = dict.attrs; values = dict.values ++ def ∷ [] })
value_more dict def is form new = record {
  base_first = is.base_first;
  base_values_first = begins_longer base_values dict.values (def ∷ []) is.base_values_first;
  attr_names = is.attr_names;
  one_attr = is.one_attr;
  value_names = all_longer (λ (row : ValueDef). IsTrue (is_value_name row.name)) dict.values def is.value_names form;
  one_value = λ row other here there attr same.
      one_longer SameValue dict.values def (λ a b both. (sym both.0, same_turned a.name b.name both.1)) (λ a b p q both. is.one_value a b p q both.0 both.1) (no_value def dict new) row other here there (attr, same);
}
