-- The patterns of `=~` and `!~`, by the regular expressions of the crate `regex` over bytes, with its defaults: what one
-- means is what its grammar reads in the text. After users(5).
use Rattle.std.specs.Prelude.{◌≡◌, ℕ, Bool, true, false, not, ◌&&◌, nat_le, List, Option, Some, None, is_some, chars, IsUtf8, if◌then◌else◌}
use Rattle.std.specs.Str.{is_utf8}
use Rattle.regex_syntax.specs.Brackets.{Nested}
use Rattle.regex_syntax.specs.Grammar.{Names, read}
use Rattle.regex.specs.declared.bytes.regex.Regex.{Regex}
use Rattle.regex.specs.Patterns.{Re, Config, default_config, find}
use Rattle.regex.specs.Bytes.{regex_source, regex_config, IsReadFromSource}
use Rattle.rad_value.specs.declared.values.Value.{Value}
use Rattle.rad_value.specs.declared.values.Value.TheVariants as value
use Rattle.rad_pairs.specs.declared.items.Item.{Item}
use Rattle.rad_pairs.specs.declared.items.PairOp.{PairOp}
use Rattle.rad_pairs.specs.declared.items.PairOp.TheVariants as op

-- The operators that look for a pattern.
abbrev pub is_look : PairOp → Bool
is_look op.Eq = false
is_look op.Set = false
is_look op.Append = false
is_look op.Equal = false
is_look op.Differs = false
is_look op.Lt = false
is_look op.Le = false
is_look op.Gt = false
is_look op.Ge = false
is_look op.Match = true
is_look op.NoMatch = true
is_look op.Any = false
is_look op.None = false

-- The pattern of a value, where it is a text.
abbrev pub pattern_in : Bool → Value → Option (List ℕ)
pattern_in look (value.Text text) = if look then Some text else None
pattern_in look (value.Octets octets) = None
pattern_in look (value.Addr address) = None
pattern_in look (value.Number number) = None
pattern_in look (value.Date seconds) = None
pattern_in look (value.Byte number) = None
pattern_in look (value.Short number) = None

-- The pattern of an item, where it looks for one.
abbrev pub pattern_of : Item → Option (List ℕ)
pattern_of item = pattern_in (is_look item.op) item.value

-- The options of a pattern: the defaults of patterns over bytes.
abbrev pub pattern_config : Config
pattern_config = record default_config { utf8 = false }

-- What the grammar of `regex` reads in a text: what the pattern stands for, and how deep it is nested.
abbrev pub reading_of : List ℕ → Option (Nested Re × Names)
reading_of source = read pattern_config (chars source)

-- A pattern is read, and is nested no deeper than 250 levels.
abbrev pub is_within : Option (Nested Re × Names) → Bool
is_within None = false
is_within (Some reading) = nat_le reading.0.depth 250

-- A pattern is accepted where it is UTF-8 and the grammar reads it.
unfoldable pub is_accepted : List ℕ → Bool
is_accepted source = is_utf8 source && is_within (reading_of source)

-- What was read matches in a text.
abbrev pub is_seen : Option (Nested Re × Names) → List ℕ → Bool
is_seen None text = false
is_seen (Some reading) text = is_some (find reading.0.value text 0)

-- A pattern matches in a text.
unfoldable pub is_found_in : List ℕ → List ℕ → Bool
is_found_in source text = is_seen (reading_of source) text

-- The compiled pattern is what the grammar reads in the text.
pub record IsRegexOf (source : List ℕ) (regex : Regex) : Type 0 where
  pub source_is : regex_source regex ≡ source
  pub config_is : regex_config regex ≡ pattern_config
  pub read : IsReadFromSource regex

-- What `regex` answers for a text.
abbrev pub IsBuilt : List ℕ → Option Regex → Type 0
IsBuilt source (Some regex) = IsRegexOf source regex
IsBuilt source None = is_within (reading_of source) ≡ false

-- A pattern is accepted and compiled where it is UTF-8, and `regex` reads it.
pub record IsCompiled (source : List ℕ) (regex : Regex) : Type 0 where
  pub text : IsUtf8 source
  pub regex_is : IsRegexOf source regex

-- What is answered for a pattern.
abbrev pub IsAnswerTo : List ℕ → Option Regex → Type 0
IsAnswerTo source (Some regex) = IsCompiled source regex
IsAnswerTo source None = is_accepted source ≡ false

-- The pattern of an item is refused, where it has one.
abbrev pub is_refused : Option (List ℕ) → Bool
is_refused None = false
is_refused (Some source) = not (is_accepted source)

-- The pattern of an item is compiled, where it has one.
abbrev pub IsReady : Option (List ℕ) → Option Regex → Type 0
IsReady None regex = regex ≡ None
IsReady (Some source) None = ⊥
IsReady (Some source) (Some regex) = IsCompiled source regex
