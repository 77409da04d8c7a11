-- Names of instances that are those of the return codes, after the manual page unlang(5).
use Rattle.std.specs.Prelude.{ℕ, Bool, false, List, Option, Some, None}
use Rattle.std.specs.Str.{bytes_eq}
use Rattle.rad_words.specs.declared.codes.Code.{Code}
use Rattle.rad_words.specs.Codes.{code_name, code_named}

-- Whether a name is that of a code, where there is one, octet by octet.
abbrev pub is_exactly : List ℕ → Option Code → Bool
is_exactly name None = false
is_exactly name (Some one) = bytes_eq name (code_name one)

-- Whether a name is that of a return code, octet by octet.
abbrev pub is_code_name : List ℕ → Bool
is_code_name name = is_exactly name (code_named name)
