-- The steps of a condition: its tokens, each with its pattern compiled, or the refusal of a pattern. This project's own.
use Rattle.std.specs.Prelude.{◌≡◌, ℕ, Bool, List, [], ◌∷◌, map, Option, Some, None, if◌then◌else◌}
use Rattle.rad_text.specs.declared.read.ReadError.{ReadError}
use Rattle.rad_text.specs.declared.read.ReadError.TheVariants as errors
use Rattle.unlang_cond.specs.declared.atom.Pattern.{Pattern}
use Rattle.unlang_cond.specs.declared.atom.Atom.{Atom}
use Rattle.unlang_cond.specs.declared.atom.Atom.TheVariants as atom
use Rattle.unlang_cond.specs.declared.atom.Token.{Token}
use Rattle.unlang_cond.specs.declared.atom.Token.TheVariants as token
use Rattle.unlang_cond.specs.declared.groups.Step.{Step}
use Rattle.unlang_cond.specs.Patterns.{IsTaken, is_accepted}

-- The tokens of steps.
abbrev pub tokens_in : List Step → List Token
tokens_in steps = map (λ (step : Step). step.token) steps

-- The pattern of an atom and of a token, if it looks for one.
abbrev pub pattern_of_atom : Atom → Option Pattern
pattern_of_atom (atom.Constant constant) = None
pattern_of_atom (atom.Returned c) = None
pattern_of_atom (atom.Present s) = None
pattern_of_atom (atom.Values reference cmp o) = None
pattern_of_atom (atom.Texts left cmp right) = None
pattern_of_atom (atom.Look s negative pattern) = Some pattern

-- The pattern of a token, if it looks for one.
abbrev pub pattern_in : Token → Option Pattern
pattern_in token.Not = None
pattern_in token.Open = None
pattern_in token.Close = None
pattern_in token.And = None
pattern_in token.Or = None
pattern_in (token.Atom a) = pattern_of_atom a

-- A pattern is compiled where there is one.
abbrev pub IsReady : Option Pattern → Option (List ℕ × Bool) → Type 0
IsReady None compiled = compiled ≡ None
IsReady (Some pattern) None = ⊥
IsReady (Some pattern) (Some compiled) = (compiled ≡ (pattern.source, pattern.insensitive)) × IsTaken pattern

-- A step has this token, with its pattern compiled.
pub record IsReadyStep (t : Token) (step : Step) : Type 0 where
  pub token_is : step.token ≡ t
  pub ready : IsReady (pattern_in t) step.pattern

-- Each step has its pattern compiled.
abbrev pub AreReady : List Step → Type 0
AreReady [] = Unit {0}
AreReady (step ∷ steps) = IsReadyStep step.token step × AreReady steps

-- A pattern is taken where there is one.
abbrev pub IsFit : Option Pattern → Type 0
IsFit None = Unit {0}
IsFit (Some pattern) = IsTaken pattern

-- Each pattern of tokens is taken.
abbrev pub AreFit : List Token → Type 0
AreFit [] = Unit {0}
AreFit (t ∷ tokens) = IsFit (pattern_in t) × AreFit tokens

-- The steps of these tokens, with each pattern compiled.
pub record AreSteps (tokens : List Token) (steps : List Step) : Type 0 where
  pub same : tokens_in steps ≡ tokens
  pub ready : AreReady steps

-- How many octets are left from a pattern on, where there is one that is refused.
abbrev pub refused_left : Option Pattern → Option ℕ
refused_left None = None
refused_left (Some pattern) = if is_accepted pattern.source pattern.insensitive then None else Some pattern.left

-- The first of two, where it is there.
abbrev pub earlier : Option ℕ → Option ℕ → Option ℕ
earlier None later = later
earlier (Some left) later = Some left

-- How many octets are left from the first pattern of tokens on that is refused.
unfoldable pub first_refused : List Token → Option ℕ
first_refused [] = None
first_refused (t ∷ tokens) = earlier (refused_left (pattern_in t)) (first_refused tokens)

-- A pattern is refused there, unless memory ran out.
abbrev pub RefusedBy : ReadError ℕ → Option Pattern → Type 0
RefusedBy errors.NoMemory pattern = Unit {0}
RefusedBy (errors.Wrong left) pattern = refused_left pattern ≡ Some left

-- The first of the tokens' patterns that is refused is refused there, unless memory ran out.
abbrev pub RefusedIn : ReadError ℕ → List Token → Type 0
RefusedIn errors.NoMemory tokens = Unit {0}
RefusedIn (errors.Wrong left) tokens = first_refused tokens ≡ Some left
