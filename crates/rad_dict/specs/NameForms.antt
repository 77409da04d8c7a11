-- The form of names that dictionary files allow. After the manual page dictionary(5) of FreeRADIUS; the octets of a name, and
-- that `Attr-` is kept for attributes without a name, are this project's own.
use Rattle.std.specs.Prelude.{ℕ, Bool, not, ◌&&◌, ◌||◌, ◌==◌, List, take, length, nat_lt, codes}
use Rattle.std.specs.Char.{is_ascii_alphanumeric}
use Rattle.std.specs.List.{list_all}
use Rattle.std.specs.Str.{str_eq_ignore_ascii_case, all_ascii_digits}
use Rattle.rad_text.specs.Numerals.{is_hexadecimal}

-- An ASCII letter, a digit, `-`, `_`, `.`, `/` or `+`.
abbrev pub is_name_octet : ℕ → Bool
is_name_octet c = is_ascii_alphanumeric c || c == 45 || c == 95 || c == 46 || c == 47 || c == 43

-- A name has one such octet or more, and no other.
unfoldable pub is_name : List ℕ → Bool
is_name name = nat_lt 0 (length name) && list_all is_name_octet name

-- The name of an attribute doesn't begin with `Attr-`, in any case.
unfoldable pub is_attr_name : List ℕ → Bool
is_attr_name name = is_name name && not (str_eq_ignore_ascii_case (take 5 name) (codes "Attr-"))

-- The name of a value isn't all digits and doesn't begin with `0x`.
unfoldable pub is_value_name : List ℕ → Bool
is_value_name name = is_name name && not (all_ascii_digits name) && not (is_hexadecimal name)
