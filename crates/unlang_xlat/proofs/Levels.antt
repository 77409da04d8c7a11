-- Parts in braces, a level deeper.
use Rattle.std.proofs.Common.{◌≡◌, ℕ, zero, suc, ◌-◌, ◌<◌, true, false, List, length, drop, Err, refl, ◌∙◌, arith}
use Rattle.rad_dict.specs.Definitions.{Definitions}
use Rattle.unlang_xlat.specs.declared.fault.Wrong.TheVariants.{BadExpansion}
use Rattle.unlang_xlat.specs.Reading.{begins_part, alternative_at, named_at, body_at, braced}

pub no_level : (dict : Definitions) (levels : ℕ) (text : List ℕ) → levels ≡ 0 → braced dict levels text ≡ Err (BadExpansion (length text))
unfolding braced
no_level dict zero text e = refl
no_level dict (suc levels) text e = absurd (omega arith)

level_down : (dict : Definitions) (levels : ℕ) (text body : List ℕ) → 0 < levels → body ≡ drop 2 text → braced dict levels text ≡ body_at (braced dict (levels - 1)) dict (length text) body
unfolding braced
level_down dict zero text body some e = absurd (omega arith)
level_down dict (suc levels) text body some e =
    let down : suc levels - 1 ≡ levels = omega arith in
    rw (down, e) refl

pub first_side : (dict : Definitions) (levels : ℕ) (text body : List ℕ) → 0 < levels → body ≡ drop 2 text → begins_part body ≡ true
    → braced dict levels text ≡ alternative_at (braced dict (levels - 1)) (length text) body
first_side dict levels text body some e test = level_down dict levels text body some e ∙ (rw test refl)

pub named_side : (dict : Definitions) (levels : ℕ) (text body : List ℕ) → 0 < levels → body ≡ drop 2 text → begins_part body ≡ false
    → braced dict levels text ≡ named_at (braced dict (levels - 1)) (length text) body dict
named_side dict levels text body some e test = level_down dict levels text body some e ∙ (rw test refl)
