-- Values that are printed and read again.
use Rattle.std.proofs.Common.{◌≡◌, ℕ, ◌^◌, ◌<◌, ◌≤◌, true, false, eqb, List, [], ◌∷◌, map, Option, Some, None, refl, sym, ap, subst, ◌∙◌, arith}
use Rattle.std.specs.Prelude.{slice_index}
use Rattle.std.specs.Option.{option_map}
use Rattle.std.specs.List.{find}
use Rattle.std.specs.Char.{is_ascii_digit, to_ascii_lowercase}
use Rattle.std.specs.Str.{str_eq_ignore_ascii_case, all_ascii_digits}
use Rattle.std.specs.Str.Parse.{AllDigits}
use Rattle.std.specs.Fmt.{decimal}
use Rattle.std.proofs.lemmas.Bool.{true≢false, cond-true, cond-false, lt-ltb, le-leb, and_from, and_parts, and_right, eqb-true}
use Rattle.std.proofs.lemmas.Bool.Decides.{nat_tests}
use Rattle.std.proofs.lemmas.Fmt.{decimal_is_IsNumeral}
use Rattle.rad_words.specs.declared.attributes.AttrId.{AttrId}
use Rattle.rad_words.specs.Attribute.{same_attr}
use Rattle.rad_value.specs.declared.values.Value.{Value}
use Rattle.rad_value.specs.declared.values.Value.TheVariants as value
use Rattle.rad_dict.specs.declared.definitions.ValueDef.{ValueDef}
use Rattle.rad_dict.specs.Definitions.{Definitions, is_name_of, is_number_of, name_of, number_of}
use Rattle.rad_text.specs.Find.{◌>>=◌}
use Rattle.rad_text.specs.Numerals.{numeral_of}
use Rattle.rad_pairs.specs.ValueText.{number_text, value_text}
use Rattle.rad_pairs.specs.ValueReading.{number_in, byte_of, short_of, value_of}
use Rattle.rad_dict.specs.EveryDictionary.{IsDictionary}
use Rattle.rad_value.specs.Kinds.{kind_of_value}
use Rattle.rad_pairs.specs.ReadingBack.{InRange}
use Rattle.rad_index.proofs.Finds.{find_fits, find_finds}
use Rattle.rad_dict.proofs.Lookups.{same_itself, same_lower, same_attr_is}
use Rattle.rad_text.proofs.Decimals.{number_again}
use Rattle.rad_text.proofs.AddressLaws.{address_again}
use Rattle.rad_pairs.proofs.Names.{IsName, value_name_is, decimal_name}
use Rattle.rad_text.proofs.NumeralLaws.{digit_range, numeral_again}
use Rattle.rad_pairs.proofs.Hexadecimals.{octets_again, hexadecimal_name}
use Rattle.rad_pairs.proofs.Addresses.{address_name}

-- A name that is the same as digits, case aside, is those digits.
same_digit : (c d : ℕ) → (48 ≤ d) × (d < 58) → to_ascii_lowercase c ≡ to_ascii_lowercase d → c ≡ d
same_digit c d range e = grind (arith, nat_tests)

all_digits : (name digits : List ℕ) → AllDigits 10 digits → map to_ascii_lowercase name ≡ map to_ascii_lowercase digits → all_ascii_digits name ≡ true
all_digits [] digits all e = refl
all_digits (c ∷ name) [] all e = absurd cc
all_digits (c ∷ name) (d ∷ digits) all e =
    let first : to_ascii_lowercase c ≡ to_ascii_lowercase d = cc in
    let rest : map to_ascii_lowercase name ≡ map to_ascii_lowercase digits = cc in
    let range = digit_range d all.0 in
    let same = same_digit c d range first in
    and_from (is_ascii_digit c) (all_ascii_digits name) (rw same (and_from _ _ (le-leb 48 d range.0) (le-leb d 57 (omega (arith, range.1))))) (all_digits name digits all.1 rest)

-- The name of a value is read as its number.
row_named : (name : List ℕ) (found : Option ValueDef) → option_map (λ (r : ValueDef). r.name) found ≡ Some name → (row : ValueDef) × (found ≡ Some row) × (row.name ≡ name)
row_named name None e = absurd cc
row_named name (Some row) e = (row, refl, cc)

name_again : (attr : AttrId) (n : ℕ) (name : List ℕ) (dict : Definitions) → IsDictionary dict → name_of attr n dict ≡ Some name → IsName name × (number_of attr name dict ≡ Some n)
name_again attr n name dict plain e =
    let row = row_named name (find (is_number_of attr n) dict.values) e in
    let here = find_fits (is_number_of attr n) dict.values row.0 row.1 in
    let fits = and_parts (same_attr row.0.attr attr) (eqb row.0.number n) here.1 in
    let other = find_finds (is_name_of attr row.0.name) dict.values row.0 here.0 (and_from _ _ fits.0 (same_itself row.0.name)) in
    let there = find_fits (is_name_of attr row.0.name) dict.values other.0 other.1 in
    let parts = and_parts (same_attr other.0.attr attr) (str_eq_ignore_ascii_case other.0.name row.0.name) there.1 in
    let number : other.0.number ≡ n = ap (λ (r : ValueDef). r.number) (plain.one_value other.0 row.0 there.0 here.0 (same_attr_is other.0.attr attr parts.0 ∙ sym (same_attr_is row.0.attr attr fits.0)) parts.1) ∙ eqb-true row.0.number n fits.1 in
    subst (λ (w : List ℕ). IsName w × (number_of attr w dict ≡ Some n)) row.2
    ((value_name_is row.0.name (plain.value_names row.0 here.0)).0, ap (option_map (λ (r : ValueDef). r.number)) other.1 ∙ ap Some number)

-- Digits are no value's name.
digits_unnamed : (attr : AttrId) (n : ℕ) (dict : Definitions) → IsDictionary dict → n < 2 ^ 32 → (found : Option ValueDef) → find (is_name_of attr (decimal n)) dict.values ≡ found → found ≡ None
digits_unnamed attr n dict plain lt None e = refl
digits_unnamed attr n dict plain lt (Some row) e =
    let here = find_fits (is_name_of attr (decimal n)) dict.values row e in
    let same = (and_parts (same_attr row.attr attr) (str_eq_ignore_ascii_case row.name (decimal n)) here.1).1 in
    let digits = all_digits row.name (decimal n) (decimal_is_IsNumeral n (omega arith)).0.1 (same_lower row.name (decimal n) same) in
    absurd (true≢false (sym digits ∙ (value_name_is row.name (plain.value_names row here.0)).1))

decimal_again : (attr : AttrId) (n : ℕ) (dict : Definitions) → IsDictionary dict → n < 2 ^ 32 → number_in attr (decimal n) dict ≡ Some n
unfolding number_in
decimal_again attr n dict plain lt = rw (digits_unnamed attr n dict plain lt (find (is_name_of attr (decimal n)) dict.values) refl, number_in) (numeral_again n lt)

number_named : (attr : AttrId) (n : ℕ) (name : List ℕ) (dict : Definitions) → number_of attr name dict ≡ Some n → number_in attr name dict ≡ Some n
unfolding number_in
number_named attr n name dict e = rw (e, number_in) refl

-- A number in its text.
pub number_back : (attr : AttrId) (n : ℕ) (dict : Definitions) → IsDictionary dict → n < 2 ^ 32 → IsName (number_text attr n dict) × (number_in attr (number_text attr n dict) dict ≡ Some n)
unfolding number_text
number_back attr n dict plain lt = go (name_of attr n dict) refl where
  go : (found : Option (List ℕ)) → name_of attr n dict ≡ found
      → IsName (elim found [ Some name ↦ name | None ↦ decimal n ]) × (number_in attr (elim found [ Some name ↦ name | None ↦ decimal n ]) dict ≡ Some n)
  go (Some name) is = let read = name_again attr n name dict plain is in (read.0, number_named attr n name dict read.1)
  go None is = (decimal_name n lt, decimal_again attr n dict plain lt)

byte_again : (n : ℕ) → n < 2 ^ 8 → byte_of n ≡ Some (value.Byte n)
byte_again n lt = cond-true _ _ _ (lt-ltb n 256 lt)

short_again : (n : ℕ) → n < 2 ^ 16 → short_of n ≡ Some (value.Short n)
short_again n lt = cond-true _ _ _ (lt-ltb n 65536 lt)

-- Texts alone stand in quotes.
abbrev pub IsNoText : Value → Type 0
IsNoText (value.Text text) = ⊥
IsNoText (value.Octets octets) = Unit {0}
IsNoText (value.Addr address) = Unit {0}
IsNoText (value.Number number) = Unit {0}
IsNoText (value.Date seconds) = Unit {0}
IsNoText (value.Byte number) = Unit {0}
IsNoText (value.Short number) = Unit {0}

-- The text of a value, but of a text, is read as that value.
pub value_again : (attr : AttrId) (v : Value) (dict : Definitions) → IsDictionary dict → InRange v → IsNoText v → IsName (value_text attr v dict) × (value_of (kind_of_value v) attr (value_text attr v dict) dict ≡ Some v)
value_again attr (value.Text text) dict plain range none = absurd none
value_again attr (value.Octets octets) dict plain range none = (hexadecimal_name octets range, ap (λ (o : List ℕ). Some (value.Octets o)) (octets_again octets range))
value_again attr (value.Addr address) dict plain range none = (address_name address range, ap (option_map value.Addr) (address_again address range))
value_again attr (value.Number number) dict plain range none =
    let read = number_back attr number dict plain range in
    (read.0, ap (option_map value.Number) read.1)
value_again attr (value.Date seconds) dict plain range none = (decimal_name seconds range, ap (option_map value.Date) (number_again seconds range))
value_again attr (value.Byte number) dict plain range none =
    let read = number_back attr number dict plain (omega (arith, range)) in
    (read.0, ap (λ (o : Option ℕ). o >>= byte_of) read.1 ∙ byte_again number range)
value_again attr (value.Short number) dict plain range none =
    let read = number_back attr number dict plain (omega (arith, range)) in
    (read.0, ap (λ (o : Option ℕ). o >>= short_of) read.1 ∙ short_again number range)
