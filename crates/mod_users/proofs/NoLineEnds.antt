-- Printed texts have no line end, so that each is a line.
use Rattle.std.proofs.Common.{◌≡◌, ℕ, ◌+◌, ◌/◌, ◌%◌, Bool, true, false, cond, ◌||◌, eqb, List, [], ◌∷◌, refl, sym, ap, ◌∙◌, arith}
use Rattle.std.specs.Int.{is_in_range}
use Rattle.std.specs.List.{flat_map}
use Rattle.std.proofs.lemmas.Bool.{true≢false, or_from}
use Rattle.rad_words.specs.declared.attributes.AttrId.{AttrId}
use Rattle.rad_value.specs.declared.values.Value.{Value}
use Rattle.rad_value.specs.declared.values.Value.TheVariants as value
use Rattle.rad_dict.specs.Definitions.{Definitions}
use Rattle.rad_pairs.specs.ValueText.{escaped, quoted, value_text}
use Rattle.rad_dict.specs.EveryDictionary.{IsDictionary}
use Rattle.rad_pairs.specs.ReadingBack.{InRange}
use Rattle.rad_pairs.proofs.Values.{IsNoText, value_again}
use Rattle.rad_text.proofs.LineEnds.{ends_line, ends_none, has_line_end, none_joined}
use Rattle.rad_dict.proofs.NameWords.{none_in_name}

-- No octet of an escape is one: the octet itself, where it is a quote, a backslash or printable, and octal digits.
escaped_by : (sign printable : Bool) (c : ℕ) → (sign ≡ true → ends_line c ≡ false) → (printable ≡ true → ends_line c ≡ false)
    → has_line_end (cond sign (92 ∷ c ∷ []) (cond printable (c ∷ []) (92 ∷ (48 + c / 64) ∷ (48 + c / 8 % 8) ∷ (48 + c % 8) ∷ []))) ≡ false
escaped_by true printable c by_sign by_range = or_from (ends_line c) false (by_sign refl) refl
escaped_by false true c by_sign by_range = or_from (ends_line c) false (by_range refl) refl
escaped_by false false c by_sign by_range =
    let no_digit : (n : ℕ) → ends_line (48 + n) ≡ false = λ n. ends_none (48 + n) (λ e. omega arith) (λ e. omega arith) in
    or_from (ends_line (48 + c / 64)) (has_line_end ((48 + c / 8 % 8) ∷ (48 + c % 8) ∷ [])) (no_digit (c / 64))
    (or_from (ends_line (48 + c / 8 % 8)) (has_line_end ((48 + c % 8) ∷ [])) (no_digit (c / 8 % 8)) (or_from (ends_line (48 + c % 8)) false (no_digit (c % 8)) refl))

none_escaped : (c : ℕ) → has_line_end (escaped c) ≡ false
none_escaped c =
    escaped_by (eqb c 34 || eqb c 92) (is_in_range 32 126 c) c
    (λ sign. ends_none c (λ e. true≢false (sym sign ∙ ap (λ k. eqb k 34 || eqb k 92) e)) (λ e. true≢false (sym sign ∙ ap (λ k. eqb k 34 || eqb k 92) e)))
    (λ printable. ends_none c (λ e. true≢false (sym printable ∙ ap (λ k. is_in_range 32 126 k) e)) (λ e. true≢false (sym printable ∙ ap (λ k. is_in_range 32 126 k) e)))

none_in_octets : (text : List ℕ) → has_line_end (flat_map escaped text) ≡ false
none_in_octets [] = refl
none_in_octets (c ∷ text) = none_joined (escaped c) (flat_map escaped text) (none_escaped c) (none_in_octets text)

pub none_quoted : (text : List ℕ) → has_line_end (quoted text) ≡ false
unfolding quoted
none_quoted text = none_joined (flat_map escaped text) (34 ∷ []) (none_in_octets text) refl

none_in_bare : (attr : AttrId) (v : Value) (dict : Definitions) → IsDictionary dict → InRange v → IsNoText v → has_line_end (value_text attr v dict) ≡ false
none_in_bare attr v dict plain range bare = none_in_name (value_text attr v dict) (value_again attr v dict plain range bare).0.1

pub none_in_value : (attr : AttrId) (v : Value) (dict : Definitions) → IsDictionary dict → InRange v → has_line_end (value_text attr v dict) ≡ false
none_in_value attr (value.Text text) dict plain range = none_quoted text
none_in_value attr (value.Octets octets) dict plain range = none_in_bare attr (value.Octets octets) dict plain range tt
none_in_value attr (value.Addr address) dict plain range = none_in_bare attr (value.Addr address) dict plain range tt
none_in_value attr (value.Number number) dict plain range = none_in_bare attr (value.Number number) dict plain range tt
none_in_value attr (value.Date seconds) dict plain range = none_in_bare attr (value.Date seconds) dict plain range tt
none_in_value attr (value.Byte number) dict plain range = none_in_bare attr (value.Byte number) dict plain range tt
none_in_value attr (value.Short number) dict plain range = none_in_bare attr (value.Short number) dict plain range tt
