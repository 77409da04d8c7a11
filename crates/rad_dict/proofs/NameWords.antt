-- Names as words of a text: all of their octets are name octets, and so are those of decimal numbers.
use Rattle.std.proofs.Common.{◌≡◌, ℕ, ◌<◌, ◌^◌, Bool, true, false, eqb, List, [], ◌∷◌, ◌++◌, length, nat_lt, IsTrue, refl, sym, ap, ◌∙◌, arith}
use Rattle.std.specs.List.{list_all}
use Rattle.std.specs.Char.{digit_value}
use Rattle.std.specs.Fmt.{decimal}
use Rattle.std.specs.Str.Parse.{AllDigits}
use Rattle.std.proofs.lemmas.Bool.{true≢false, le-leb, ne_eqb, ltb-true, and_from, and_parts, or_from}
use Rattle.std.proofs.lemmas.Fmt.{decimal_is_IsNumeral}
use Rattle.std.proofs.lemmas.List.Folds.{list_all-append}
use Rattle.rad_text.proofs.NumeralLaws.{digit_range}
use Rattle.rad_text.proofs.LineEnds.{ends_line, ends_none, has_line_end}
use Rattle.rad_dict.specs.NameForms.{is_name_octet, is_name}

abbrev pub are_name_octets : List ℕ → Bool
are_name_octets octets = list_all is_name_octet octets

-- A name has one such octet or more, and no other.
abbrev pub IsName : List ℕ → Type 0
IsName name = (0 < length name) × IsTrue (are_name_octets name)

pub name_is : (name : List ℕ) → is_name name ≡ true → IsName name
unfolding is_name
name_is name e = let parts = and_parts (nat_lt 0 (length name)) (are_name_octets name) e in (ltb-true 0 (length name) parts.0, parts.1)

-- An octet of a name is no other sign.
pub is_not : (c sign : ℕ) → is_name_octet c ≡ true → is_name_octet sign ≡ false → eqb c sign ≡ false
is_not c sign name other = ne_eqb c sign (λ e. true≢false (sym name ∙ ap is_name_octet e ∙ other))

pub joined : (a b : List ℕ) → are_name_octets a ≡ true → are_name_octets b ≡ true → are_name_octets (a ++ b) ≡ true
joined a b first second = list_all-append is_name_octet a b ∙ and_from (are_name_octets a) (are_name_octets b) first second

-- Digits are name octets.
digit_named : (c : ℕ) → digit_value c < 10 → is_name_octet c ≡ true
digit_named c lt =
    let range = digit_range c lt in
    rw (le-leb 48 c range.0, le-leb c 57 (omega (arith, range.1))) refl

digits_named : (digits : List ℕ) → AllDigits 10 digits → are_name_octets digits ≡ true
digits_named [] all = refl
digits_named (c ∷ digits) all = and_from (is_name_octet c) (are_name_octets digits) (digit_named c all.0) (digits_named digits all.1)

pub decimal_octets : (n : ℕ) → n < 2 ^ 32 → are_name_octets (decimal n) ≡ true
decimal_octets n lt = digits_named (decimal n) (decimal_is_IsNumeral n (omega arith)).0.1

pub decimal_name : (n : ℕ) → n < 2 ^ 32 → IsName (decimal n)
decimal_name n lt = ((decimal_is_IsNumeral n (omega arith)).0.0, decimal_octets n lt)

-- No name octet ends a line.
pub none_in_name : (name : List ℕ) → are_name_octets name ≡ true → has_line_end name ≡ false
none_in_name [] all = refl
none_in_name (c ∷ name) all =
    let parts = and_parts (is_name_octet c) (are_name_octets name) all in
    or_from (ends_line c) (has_line_end name) (ends_none c (λ e. true≢false (sym parts.0 ∙ ap is_name_octet e)) (λ e. true≢false (sym parts.0 ∙ ap is_name_octet e))) (none_in_name name parts.1)
