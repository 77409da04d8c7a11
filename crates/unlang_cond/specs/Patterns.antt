-- Patterns, by the regular expressions of the crate `regex` over bytes, with its defaults: what one means is what its grammar
-- reads in the text. That a pattern has no `%{` is this project's own.
use Rattle.std.specs.Prelude.{◌≡◌, ◌≤◌, nat_le, ℕ, Bool, false, not, ◌&&◌, ◌||◌, ◌==◌, List, [], ◌∷◌, slice_index, Option, Some, None, IsSomeAnd, IsUtf8, chars}
use Rattle.std.specs.Str.{is_utf8}
use Rattle.regex.specs.declared.bytes.regex.Regex.{Regex}
use Rattle.regex.specs.Patterns.{Config, Re, default_config}
use Rattle.regex.specs.Bytes.{regex_config, IsReadFromSource}
use Rattle.regex_syntax.specs.Brackets.{Nested}
use Rattle.regex_syntax.specs.Grammar.{Names, read}
use Rattle.unlang_cond.specs.declared.atom.Pattern.{Pattern}

-- `%{` stands in the text.
unfoldable pub has_expansion : List ℕ → Bool
has_expansion [] = false
has_expansion (c ∷ rest) = (c == 37 && slice_index rest 0 == 123) || has_expansion rest

-- The options of a pattern: the defaults of patterns over bytes, and whether letters match in either case.
abbrev pub config_of : Bool → Config
config_of insensitive = record default_config { utf8 = false; flags = record default_config.flags { case_insensitive = insensitive } }

-- The regular expression that a text writes where letters match in either case, or don't: with how deep it nests, and the names
-- of its groups, the whole among them. None where the text writes none.
abbrev pub expression_of : List ℕ → Bool → Option (Nested Re × Names)
expression_of source insensitive = read (config_of insensitive) (chars source)

-- The text writes one that nests no deeper than `regex` allows.
abbrev pub IsReadable : List ℕ → Bool → Type 0
IsReadable source insensitive = IsSomeAnd (expression_of source insensitive) (λ (re, names). re.depth ≤ default_config.nest_limit)

-- What was read nests no deeper than that.
abbrev pub is_within : Option (Nested Re × Names) → Bool
is_within None = false
is_within (Some reading) = nat_le reading.0.depth default_config.nest_limit

-- A pattern is accepted where it contains no `%{`, is UTF-8, and writes a regular expression that nests no deeper than that.
unfoldable pub is_accepted : List ℕ → Bool → Bool
is_accepted source insensitive = not (has_expansion source) && is_utf8 source && is_within (expression_of source insensitive)

-- Whether letters match in either case in a compiled pattern.
abbrev pub is_insensitive : Regex → Bool
is_insensitive regex = (regex_config regex).flags.case_insensitive

-- A compiled pattern is what the grammar reads in its text, under the options of a pattern.
pub record IsOfText (regex : Regex) : Type 0 where
  pub config_is : regex_config regex ≡ config_of (is_insensitive regex)
  pub read : IsReadFromSource regex

-- What `regex` answers for a text: a compiled pattern that is known by its text and its options, or none.
abbrev pub IsBuilt : List ℕ → Bool → Option (List ℕ × Bool) → Type 0
IsBuilt source insensitive (Some compiled) = (compiled ≡ (source, insensitive)) × IsReadable source insensitive
IsBuilt source insensitive None = is_within (expression_of source insensitive) ≡ false

-- A pattern is refused where it isn't accepted.
abbrev pub IsRefused : Pattern → Type 0
IsRefused pattern = is_accepted pattern.source pattern.insensitive ≡ false

-- One that is taken contains no `%{`, is UTF-8, and writes a regular expression.
pub record IsTaken (pattern : Pattern) : Type 0 where
  pub plain : has_expansion pattern.source ≡ false
  pub text : IsUtf8 pattern.source
  pub readable : IsReadable pattern.source pattern.insensitive

-- The pattern is taken and compiled, or it is refused, as its text says.
abbrev pub IsAnswerTo : Pattern → Option (List ℕ × Bool) → Type 0
IsAnswerTo pattern (Some compiled) = (compiled ≡ (pattern.source, pattern.insensitive)) × IsTaken pattern
IsAnswerTo pattern None = IsRefused pattern
