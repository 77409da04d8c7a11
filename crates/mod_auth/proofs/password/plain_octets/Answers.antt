use Rattle.std.specs.Prelude.{IfOk, OnOk, Option, Some, None, Result, Ok, Err}
use Rattle.std.proofs.Common.{◌≡◌, ◌≢◌, ◌⊎◌, inl, inr, ℕ, List, true, sym, ap, ◌∙◌}
use Rattle.std.specs.List.{list_all}
use Rattle.std.specs.Char.{is_ascii_hexdigit}
use Rattle.hex.specs.Hex.{decode_of}
use Rattle.hex.specs.declared.error.FromHexError.{FromHexError}
use Rattle.hex.specs.declared.error.FromHexError.TheVariants.{OutOfMemory}
use Rattle.rad_outside.specs.declared.fault.NoMemory.{NoMemory}
use Rattle.mod_auth.specs.Password.{plain_octets}
use Rattle.mod_auth.proofs.Digests.{of_digits}
use Rattle.mod_auth.proofs.password.plain_octets.Goals as goal

none_spelled : (value : List ℕ) (fault : FromHexError) → list_all is_ascii_hexdigit value ≡ true → (fault ≡ OutOfMemory) ⊎ (decode_of value ≡ Err fault)
    → (result : Result (Option (List ℕ)) NoMemory) → IfOk result (λ octets. octets ≡ None) → OnOk result (fault ≢ OutOfMemory) → IfOk result (λ octets. octets ≡ plain_octets value)
none_spelled value fault digits (inl is) (Ok octets) none cause = absurd (cause is)
none_spelled value fault digits (inr is) (Ok octets) none cause = none ∙ of_digits value (Err fault) digits is
none_spelled value fault digits why (Err lack) none cause = tt

pub returns-in-Ok : goal.returns-in-Ok
returns-in-Ok c = ap Some c.from_vec.ensures ∙ of_digits c.args.value.now (Ok c.in-Ok.octets.items) (sym c.is_digits.ensures ∙ c.if-not-is_digits.false) c.in-Ok.ensures.ok

pub returns-in-Err : goal.returns-in-Err
returns-in-Err c = none_spelled c.args.value.now c.in-Err.fault (sym c.is_digits.ensures ∙ c.if-not-is_digits.false) c.in-Err.ensures.err c.refused.result c.refused.ensures.none c.refused.ensures.cause
