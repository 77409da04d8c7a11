-- The texts of values and of pairs as they are printed, after radclient(1) and dictionary(5) of FreeRADIUS; the
-- spelling of what has no name, `Attr-N` and `Attr-26.V.N`, and the escapes are this project's own.
use Rattle.std.specs.Prelude.{ℕ, ◌+◌, ◌/◌, ◌%◌, ◌||◌, ◌==◌, List, [], ◌∷◌, ◌++◌, Some, None, codes, if◌then◌else◌}
use Rattle.std.specs.Int.{is_in_range}
use Rattle.std.specs.List.{flat_map}
use Rattle.std.specs.Char.{digit_char}
use Rattle.std.specs.Fmt.{decimal}
use Rattle.rad_words.specs.declared.attributes.AttrId.{AttrId}
use Rattle.rad_words.specs.declared.attributes.Space.{Space}
use Rattle.rad_words.specs.declared.attributes.Space.TheVariants.{Standard, Vendor, Internal}
use Rattle.rad_value.specs.declared.values.Value.{Value}
use Rattle.rad_value.specs.declared.values.Value.TheVariants as value
use Rattle.rad_value.specs.declared.values.Pair.{Pair}
use Rattle.rad_dict.specs.Definitions.{Definitions, definition_of, name_of}
use Rattle.rad_text.specs.Addresses.{dotted}

-- An octet in double quotes: a quote and a backslash behind a backslash, and what isn't printable ASCII as three
-- octal digits behind one.
abbrev pub escaped : ℕ → List ℕ
escaped c =
    if c == 34 || c == 92 then 92 ∷ c ∷ []
    else (if is_in_range 32 126 c then c ∷ [] else 92 ∷ (48 + c / 64) ∷ (48 + c / 8 % 8) ∷ (48 + c % 8) ∷ [])

-- A text in double quotes.
unfoldable pub quoted : List ℕ → List ℕ
quoted text = 34 ∷ (flat_map escaped text ++ 34 ∷ [])

-- An octet as two lower-case digits.
abbrev pub two_digits : ℕ → List ℕ
two_digits c = digit_char (c / 16) ∷ digit_char (c % 16) ∷ []

-- Octets behind `0x`.
unfoldable pub hexadecimal : List ℕ → List ℕ
hexadecimal octets = 48 ∷ 120 ∷ flat_map two_digits octets

-- A number by its name, where this value of the attribute has one.
unfoldable pub number_text : AttrId → ℕ → Definitions → List ℕ
number_text attr number dict = elim (name_of attr number dict) [ Some name ↦ name | None ↦ decimal number ]

-- The text of an attribute's value.
abbrev pub value_text : AttrId → Value → Definitions → List ℕ
value_text attr (value.Text text) dict = quoted text
value_text attr (value.Octets octets) dict = hexadecimal octets
value_text attr (value.Addr address) dict = dotted address
value_text attr (value.Number number) dict = number_text attr number dict
value_text attr (value.Date seconds) dict = decimal seconds
value_text attr (value.Byte number) dict = number_text attr number dict
value_text attr (value.Short number) dict = number_text attr number dict

-- The text of an attribute's value in an expansion: a text as it stands, every other value as in a pair. After unlang(5).
abbrev pub plain_text : AttrId → Value → Definitions → List ℕ
plain_text attr (value.Text text) dict = text
plain_text attr (value.Octets octets) dict = hexadecimal octets
plain_text attr (value.Addr address) dict = dotted address
plain_text attr (value.Number number) dict = number_text attr number dict
plain_text attr (value.Date seconds) dict = decimal seconds
plain_text attr (value.Byte number) dict = number_text attr number dict
plain_text attr (value.Short number) dict = number_text attr number dict

-- An attribute by its space and number.
unfoldable pub numbered_text : Space → ℕ → List ℕ
numbered_text Standard number = codes "Attr-" ++ decimal number
numbered_text (Vendor vendor) number = codes "Attr-26." ++ (decimal vendor ++ 46 ∷ decimal number)
numbered_text Internal number = codes "Attr-" ++ decimal number

-- An attribute by the name of its first definition, where it has one.
unfoldable pub attr_text : AttrId → Definitions → List ℕ
attr_text attr dict = elim (definition_of attr dict) [ Some row ↦ row.name | None ↦ numbered_text attr.space attr.number ]

-- `NAME = VALUE`
abbrev pub pair_text : Pair → Definitions → List ℕ
pair_text pair dict = attr_text pair.attr dict ++ (codes " = " ++ value_text pair.attr pair.value dict)
