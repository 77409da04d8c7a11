-- The names of the return codes are read back.
use Rattle.std.proofs.Common.{◌≡◌, Some, refl}
use Rattle.rad_words.specs.declared.codes.Code.{Code}
use Rattle.rad_words.specs.declared.codes.Code.TheVariants as code
use Rattle.rad_words.specs.Codes.{code_name, code_named}

pub codes_are_read : (one : Code) → code_named (code_name one) ≡ Some one
codes_are_read code.Reject = refl
codes_are_read code.Fail = refl
codes_are_read code.Ok = refl
codes_are_read code.Handled = refl
codes_are_read code.Invalid = refl
codes_are_read code.Userlock = refl
codes_are_read code.Notfound = refl
codes_are_read code.Noop = refl
codes_are_read code.Updated = refl
