-- A prefix that a text has, by the octets that were cut off.
use Rattle.std.proofs.Common.{◌≡◌, ℕ, min, true, false, List, length, take, drop, Some, None, refl, ap, ◌∙◌}
use Rattle.std.specs.Str.{str_eq_ignore_ascii_case}
use Rattle.std.proofs.lemmas.List.{take_min, drop_min}
use Rattle.unlang_reference.specs.Reading.{after_prefix}

pub has_prefix : (prefix text front back : List ℕ) (n : ℕ) → n ≡ min (length prefix) (length text) → front ≡ take n text → back ≡ drop n text
    → str_eq_ignore_ascii_case front prefix ≡ true → Some back ≡ after_prefix prefix text
unfolding after_prefix
has_prefix prefix text front back n e f b same =
    let whole : front ≡ take (length prefix) text = f ∙ ap (λ k. take k text) e ∙ take_min (length prefix) text in
    let test : str_eq_ignore_ascii_case (take (length prefix) text) prefix ≡ true = rw (← whole) same in
    rw test (ap Some (b ∙ ap (λ k. drop k text) e ∙ drop_min (length prefix) text))

pub has_none : (prefix text front : List ℕ) (n : ℕ) → n ≡ min (length prefix) (length text) → front ≡ take n text
    → str_eq_ignore_ascii_case front prefix ≡ false → None ≡ after_prefix prefix text
unfolding after_prefix
has_none prefix text front n e f other =
    let whole : front ≡ take (length prefix) text = f ∙ ap (λ k. take k text) e ∙ take_min (length prefix) text in
    let test : str_eq_ignore_ascii_case (take (length prefix) text) prefix ≡ false = rw (← whole) other in
    rw test refl
