-- Names and attributes that are the same.
use Rattle.std.proofs.Common.{◌≡◌, ℕ, zero, suc, ◌<◌, Bool, true, false, cond, eqb, List, [], ◌∷◌, length, map, take, Some, refl, sym, ap, ◌∙◌, eq-eqb, arith}
use Rattle.std.specs.Prelude.{slice_index_or}
use Rattle.std.specs.List.{Contains, find}
use Rattle.std.specs.Str.{str_eq_ignore_ascii_case}
use Rattle.std.specs.Char.{to_ascii_lowercase}
use Rattle.std.proofs.lemmas.Bool.{true≢false, and_parts, and_from, eqb-true}
use Rattle.std.proofs.lemmas.Slice.Eq.{bytes_eq-Decides}
use Rattle.std.proofs.lemmas.List.{take-map}
use Rattle.rad_words.specs.declared.attributes.AttrId.{AttrId}
use Rattle.rad_words.specs.declared.attributes.Space.{Space}
use Rattle.rad_words.specs.declared.attributes.Space.TheVariants.{Standard, Vendor, Internal}
use Rattle.rad_words.specs.Attribute.{same_space, same_attr}

-- Names that are one, case aside.
pub same_lower : (a b : List ℕ) → str_eq_ignore_ascii_case a b ≡ true → map to_ascii_lowercase a ≡ map to_ascii_lowercase b
same_lower a b e = (bytes_eq-Decides (map to_ascii_lowercase a) (map to_ascii_lowercase b)).0 e

pub lower_same : (a b : List ℕ) → map to_ascii_lowercase a ≡ map to_ascii_lowercase b → str_eq_ignore_ascii_case a b ≡ true
lower_same a b e = (bytes_eq-Decides (map to_ascii_lowercase a) (map to_ascii_lowercase b)).1 e

pub same_itself : (a : List ℕ) → str_eq_ignore_ascii_case a a ≡ true
same_itself a = lower_same a a refl

pub same_begin : (n : ℕ) (a b : List ℕ) → str_eq_ignore_ascii_case a b ≡ true → str_eq_ignore_ascii_case (take n a) (take n b) ≡ true
same_begin n a b e =
    lower_same (take n a) (take n b) (sym (take-map to_ascii_lowercase n a) ∙ ap (take n) (same_lower a b e) ∙ take-map to_ascii_lowercase n b)

pub same_turned : (a b : List ℕ) → str_eq_ignore_ascii_case a b ≡ true → str_eq_ignore_ascii_case b a ≡ true
same_turned a b e = lower_same b a (sym (same_lower a b e))

-- Attributes that are one.
same_space_is : (s t : Space) → same_space s t ≡ true → s ≡ t
same_space_is Standard Standard e = refl
same_space_is Standard (Vendor w) e = absurd cc
same_space_is Standard Internal e = absurd cc
same_space_is (Vendor v) Standard e = absurd cc
same_space_is (Vendor v) (Vendor w) e = ap Vendor (eqb-true v w e)
same_space_is (Vendor v) Internal e = absurd cc
same_space_is Internal Standard e = absurd cc
same_space_is Internal (Vendor w) e = absurd cc
same_space_is Internal Internal e = refl

abbrev pub attr_id : Space → ℕ → AttrId
attr_id space number = record { space = space; number = number }

pub same_attr_is : (a b : AttrId) → same_attr a b ≡ true → a ≡ b
same_attr_is a b e =
    let parts = and_parts (same_space a.space b.space) (eqb a.number b.number) e in
    ap (λ (s : Space). attr_id s a.number) (same_space_is a.space b.space parts.0) ∙ ap (attr_id b.space) (eqb-true a.number b.number parts.1)

same_space_itself : (s : Space) → same_space s s ≡ true
same_space_itself Standard = refl
same_space_itself (Vendor v) = eq-eqb v v refl
same_space_itself Internal = refl

pub same_attr_itself : (a : AttrId) → same_attr a a ≡ true
same_attr_itself a = and_from _ _ (same_space_itself a.space) (eq-eqb a.number a.number refl)
