-- What a compiled pattern finds in a text of octets is what the grammar reads in its own text.
use Rattle.std.proofs.Common.{◌≡◌, ℕ, zero, suc, ◌*◌, ◌+◌, ◌<◌, ◌≤◌, All, get_or, IsSomeAnd, cond, List, map, length, Option, Some, None, refl, sym, ap, ◌∙◌, subst, Fits, w8, arith}
use Rattle.std.proofs.lemmas.List.{length-map}
use Rattle.std.proofs.lemmas.List.Elements.{All-from_get_or}
use Rattle.std.specs.Prelude.{nat_lt, string_bytes}
use Rattle.std.specs.Option.{option_map, option_and_then}
use Rattle.regex.specs.declared.bytes.regex.Regex.{Regex}
use Rattle.regex.specs.Patterns.{Config, Re, Match, SameCaptures, Reads, find}
use Rattle.regex.specs.Bytes.{regex_pattern, regex_source, regex_names, group_count}
use Rattle.regex.specs.Writes.{both}
use Rattle.regex_syntax.specs.Brackets.{Nested}
use Rattle.regex_syntax.specs.Grammar.{Names}
use Rattle.regex_syntax.specs.Grammar as grammar
use Rattle.regex_syntax.proofs.CapturesLemmas.{spans, find_alike}
use Rattle.unlang_cond.specs.Patterns.{config_of, expression_of, is_insensitive, IsOfText, IsReadable}
use Rattle.unlang_cond.specs.Looks.{cut_out, nine, group_span, captured, looked, looked_for}

-- What is seen of a match: its start, its end, and what each slot was given.
abbrev Seen : Type 0
Seen = ℕ × ℕ × (ℕ → Option ℕ)

abbrev span_seen : Seen → ℕ → Option (ℕ × ℕ)
span_seen s zero = Some (s.0, s.1)
span_seen s (suc n) = both (s.2 (2 * suc n)) (s.2 (2 * suc n + 1))

abbrev captured_seen : ℕ → List ℕ → Seen → List (Option (List ℕ))
captured_seen groups text s = map (λ n. option_and_then (cut_out text) (cond (nat_lt n groups) (span_seen s n) None)) nine

by_seen : (groups : ℕ) (text : List ℕ) (o : Option Match) → option_map (captured groups text) o ≡ option_map (captured_seen groups text) (option_map spans o)
unfolding group_span
by_seen groups text None = refl
by_seen groups text (Some m) = refl

-- Expressions that match alike are found alike.
looked_alike : (groups : ℕ) (a b : Re) → SameCaptures a b → (text : List ℕ) → All (λ x. x < 256) text → looked groups a text ≡ looked groups b text
unfolding looked
looked_alike groups a b same text octets =
    by_seen groups text (find a text 0) ∙ ap (option_map (captured_seen groups text)) (find_alike a b same text octets 0) ∙ sym (by_seen groups text (find b text 0))

-- The octets of a text.
pub octets_of : (text : List ℕ) → ((i : ℕ) → Fits w8 (get_or text i 0)) → All (λ x. x < 256) text
octets_of text fits = All-from_get_or (λ x. x < 256) text 0 (λ i within. omega (arith, fits i))

module _ (regex : Regex) (is : IsOfText regex) where
  reads : Reads (config_of (is_insensitive regex)) (regex_source regex) regex.pattern.program.hir (regex_names regex)
  reads = subst (λ (c : Config). Reads c (regex_source regex) regex.pattern.program.hir (regex_names regex)) is.config_is is.read

  groups_are : (names : Names) → regex_names regex ≡ names → group_count regex ≡ length names
  groups_are names e = omega (arith, regex.pattern.names.ok.0, length-map regex.pattern.names.items (option_map string_bytes), ap length e)

  abbrev IsFor : Nested Re × Names → Type 0
  IsFor found =
      (found.0.depth ≤ 250) × SameCaptures (regex_pattern regex) found.0.value × (regex_names regex ≡ found.1) × (grammar.group_count (regex_pattern regex) ≤ length (regex_names regex))

  module _ (text : List ℕ) (octets : All (λ x. x < 256) text) where
    by_reading : (o : Option (Nested Re × Names)) → IsSomeAnd o IsFor → looked (group_count regex) (regex_pattern regex) text ≡ option_and_then (λ (re, names). looked (length names) re.value text) o
    by_reading None h = absurd h
    by_reading (Some found) h =
        looked_alike (group_count regex) (regex_pattern regex) found.0.value h.1 text octets
        ∙ ap (λ n. looked n found.0.value text) (groups_are found.1 h.2)

    -- The pattern finds what its text says.
    pub looked_by_text : looked (group_count regex) (regex_pattern regex) text ≡ looked_for (regex_source regex) (is_insensitive regex) text
    unfolding looked_for Reads
    looked_by_text = by_reading (expression_of (regex_source regex) (is_insensitive regex)) reads

  by_depth : (o : Option (Nested Re × Names)) → IsSomeAnd o IsFor → IsSomeAnd o (λ (re, names). re.depth ≤ 250)
  by_depth None h = absurd h
  by_depth (Some found) h = h.0

  -- The pattern's text can be read.
  pub text_readable : IsReadable (regex_source regex) (is_insensitive regex)
  unfolding Reads
  text_readable = by_depth (expression_of (regex_source regex) (is_insensitive regex)) reads
