-- The folder of a site as text.
use Rattle.std.proofs.Common.{◌≡◌, ℕ, Bool, true, false, List, Some, None, refl, sym, ap, ◌∙◌}
use Rattle.std.specs.Str.{IsUtf8, is_utf8}
use Rattle.std.proofs.lemmas.Bool.{cond-true, cond-false}
use Rattle.std.proofs.lemmas.Str.{IsUtf8-from_is_utf8, is_utf8-from_IsUtf8}
use Rattle.radiusd.specs.Words.{folder_of}

-- a value that is text is the folder
pub text_is_folder : (value text : List ℕ) → text ≡ value → IsUtf8 value → Some text ≡ folder_of (Some value)
text_is_folder value text same good = ap Some same ∙ sym (cond-true _ _ _ (is_utf8-from_IsUtf8 value good))

-- a value that is no text is none
pub other_is_none : (value : List ℕ) → ¬ (IsUtf8 value) → None ≡ folder_of (Some value)
other_is_none value bad = sym (cond-false _ _ _ (is_bad (is_utf8 value) refl)) where
  is_bad : (b : Bool) → is_utf8 value ≡ b → is_utf8 value ≡ false
  is_bad true e = absurd (bad (IsUtf8-from_is_utf8 value e))
  is_bad false e = e
