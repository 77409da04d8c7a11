-- Patterns as `regex` compiles them, and as its grammar reads them.
use Rattle.std.specs.Str.{is_utf8}
use Rattle.std.specs.Prelude.{nat_le, IfSome, IsSomeAnd}
use Rattle.std.proofs.Common.{◌≡◌, ◌≢◌, IsUtf8, ℕ, ◌<◌, ◌≤◌, Bool, true, false, ◌&&◌, List, length, get_or, Option, Some, None, Result, Ok, Err, is_some, refl, sym, ap, subst, ◌∙◌, inl, inr, rules, arith}
use Rattle.std.specs.Result.{IfOk}
use Rattle.std.proofs.lemmas.Bool.{false_from_ne_true}
use Rattle.std.proofs.lemmas.Str.{IsUtf8-from_is_utf8, is_utf8-from_IsUtf8}
use Rattle.regex_syntax.specs.Brackets.{Nested}
use Rattle.regex_syntax.specs.Grammar.{Names, group_count}
use Rattle.regex_syntax.specs.declared.error.ErrorKind.{ErrorKind}
use Rattle.regex_syntax.specs.declared.error.ErrorKind.TheVariants.{OutOfMemory}
use Rattle.regex.specs.declared.bytes.regex.Regex.{Regex}
use Rattle.regex.specs.Names.{names_of}
use Rattle.regex.specs.Patterns.{Re, SameCaptures, Reads, Refuses, find}
use Rattle.regex.specs.Bytes.{regex_source, regex_config, regex_pattern}
use Rattle.regex.specs.declared.pattern.Pattern.{Pattern}
use Rattle.rad_outside.specs.declared.fault.NoMemory.{NoMemory}
use Rattle.regex.proofs.ForCallers.{is_match_alike}
use Rattle.mod_users.specs.Patterns.{pattern_config, reading_of, is_within, is_accepted, is_seen, is_found_in, IsRegexOf, IsBuilt, IsCompiled, IsAnswerTo, IsReady}

le_true : (a b : ℕ) → a ≤ b → nat_le a b ≡ true
le_true a b e = search rules

le_false : (a b : ℕ) → b < a → nat_le a b ≡ false
le_false a b e = search rules

-- ---- what is refused

too_deep : (o : Option (Nested Re × Names)) → IfSome o (λ (re, _). 250 < re.depth) → is_within o ≡ false
too_deep None deep = refl
too_deep (Some reading) deep = le_false reading.0.depth 250 deep

pub not_within : (source : List ℕ) (kind : ErrorKind) → Refuses pattern_config source kind → kind ≢ OutOfMemory → is_within (reading_of source) ≡ false
unfolding Refuses
not_within source kind (inl memory) other = absurd (other memory)
not_within source kind (inr (inl none)) other = ap is_within none
not_within source kind (inr (inr deep)) other = too_deep (reading_of source) deep.1

pub not_utf8 : (source : List ℕ) → ¬ IsUtf8 source → is_accepted source ≡ false
unfolding is_accepted
not_utf8 source never = ap (λ (b : Bool). b && is_within (reading_of source)) (false_from_ne_true (is_utf8 source) (λ is. never (IsUtf8-from_is_utf8 source is)))

and_false : (b : Bool) → (b && false) ≡ false
and_false true = refl
and_false false = refl

pub not_read : (source : List ℕ) → is_within (reading_of source) ≡ false → is_accepted source ≡ false
unfolding is_accepted
not_read source unread = ap (λ (b : Bool). is_utf8 source && b) unread ∙ and_false (is_utf8 source)

pub answered : (source : List ℕ) (result : Result (Option Regex) NoMemory) → IsUtf8 source → IfOk result (IsBuilt source) → IfOk result (IsAnswerTo source)
answered source (Ok (Some regex)) text is = record { text = text; regex_is = is }
answered source (Ok None) text is = not_read source is
answered source (Err error) text is = tt

-- ---- what is compiled

module _ (regex : Regex) where
  -- The regex matches as a reading of its text does.
  abbrev Alike : Option (Nested Re × Names) → Type 0
  Alike o = IsSomeAnd o (λ (re, found). (re.depth ≤ 250) × SameCaptures (regex_pattern regex) re.value × (names_of regex.pattern.names.items ≡ found) × (group_count (regex_pattern regex) ≤ length (names_of regex.pattern.names.items)))

  alike : (source : List ℕ) → IsRegexOf source regex → Alike (reading_of source)
  unfolding Reads
  alike source is = rw (is.source_is, is.config_is) at is.read

  within : (o : Option (Nested Re × Names)) → Alike o → is_within o ≡ true
  within None is = absurd is
  within (Some reading) is = le_true reading.0.depth 250 is.0

  seen : (o : Option (Nested Re × Names)) (text : List ℕ) → ((k : ℕ) → get_or text k 0 < 256) → Alike o → is_some (find (regex_pattern regex) text 0) ≡ is_seen o text
  seen None text bytes is = absurd is
  seen (Some reading) text bytes is = is_match_alike is.1 text bytes false 0

pub compiled_accepted : (source : List ℕ) (regex : Regex) → IsCompiled source regex → is_accepted source ≡ true
unfolding is_accepted
compiled_accepted source regex is = rw (is_utf8-from_IsUtf8 source is.text, within regex (reading_of source) (alike regex source is.regex_is)) refl

pub compiled_found : (source : List ℕ) (regex : Regex) (text : List ℕ) → ((k : ℕ) → get_or text k 0 < 256) → IsCompiled source regex → is_some (find (regex_pattern regex) text 0) ≡ is_found_in source text
unfolding is_found_in
compiled_found source regex text bytes is = seen regex (reading_of source) text bytes (alike regex source is.regex_is)

-- A pattern that is compiled is that of its text.
pub ready_source : (o : Option (List ℕ)) (regex : Regex) → IsReady o (Some regex) → IsCompiled (regex_source regex) regex × (o ≡ Some (regex_source regex))
ready_source None regex ready = absurd (cc)
ready_source (Some source) regex ready =
    (subst (λ (s : List ℕ). IsCompiled s regex) (sym ready.regex_is.source_is) ready, ap (λ (s : List ℕ). Some s) (sym ready.regex_is.source_is))

pub none_ready : (o : Option (List ℕ)) → IsReady o None → o ≡ None
none_ready None ready = refl
none_ready (Some source) ready = absurd ready
