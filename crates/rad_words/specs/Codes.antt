-- The return codes by their names, after the manual page unlang(5).
use Rattle.std.specs.Prelude.{ℕ, List, [], ◌∷◌, find, Option, codes}
use Rattle.std.specs.Str.{str_eq_ignore_ascii_case}
use Rattle.rad_words.specs.declared.codes.Code.{Code}
use Rattle.rad_words.specs.declared.codes.Code.TheVariants as code

-- The name of a return code.
abbrev pub code_name : Code → List ℕ
code_name code.Reject = codes "reject"
code_name code.Fail = codes "fail"
code_name code.Ok = codes "ok"
code_name code.Handled = codes "handled"
code_name code.Invalid = codes "invalid"
code_name code.Userlock = codes "userlock"
code_name code.Notfound = codes "notfound"
code_name code.Noop = codes "noop"
code_name code.Updated = codes "updated"

-- The nine return codes.
abbrev pub all_codes : List Code
all_codes = code.Reject ∷ code.Fail ∷ code.Ok ∷ code.Handled ∷ code.Invalid ∷ code.Userlock ∷ code.Notfound ∷ code.Noop ∷ code.Updated ∷ []

-- The return code of a name. Names are compared without regard to ASCII case.
abbrev pub code_named : List ℕ → Option Code
code_named name = find (λ (one : Code). str_eq_ignore_ascii_case name (code_name one)) all_codes
