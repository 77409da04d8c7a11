-- Numbers, addresses and ports as settings have them. After the manual page radiusd.conf(5).
use Rattle.std.specs.Prelude.{ℕ, List, Option, Some, None, length, nat_le, codes, if◌then◌else◌}
use Rattle.std.specs.Str.{bytes_eq}
use Rattle.rad_text.specs.Numerals.{number_of}
use Rattle.rad_text.specs.Addresses.{address_of}

-- Where it is in a range.
abbrev pub between : ℕ → ℕ → ℕ → Option ℕ
between least most number = if nat_le least number then (if nat_le number most then Some number else None) else None

-- A number of 1 to 10 decimal digits in a range.
unfoldable pub number_between : ℕ → ℕ → List ℕ → Option ℕ
number_between least most text =
    if nat_le (length text) 10 then (elim (number_of 10 text) [ None ↦ None | Some number ↦ between least most number ]) else None

-- A port: 0 to 65,535.
abbrev pub port_of : List ℕ → Option ℕ
port_of text = number_between 0 65535 text

-- An address to bind to: four decimal parts, or `*` for every address.
unfoldable pub bound_address : List ℕ → Option ℕ
bound_address text = if bytes_eq text (codes "*") then Some 0 else address_of text
