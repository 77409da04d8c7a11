-- Patterns that are refused among the tokens of a condition.
use Rattle.std.proofs.Common.{◌≡◌, ◌≢◌, ◌<◌, ◌≤◌, ℕ, Bool, true, false, not, ◌&&◌, List, [], ◌∷◌, ◌++◌, Option, Some, None, Result, Ok, Err, refl, sym, ap, subst, ◌∙◌, inl, inr, rules, if◌then◌else◌}
use Rattle.std.specs.Result.{IfOk}
use Rattle.rad_outside.specs.declared.fault.NoMemory.{NoMemory}
use Rattle.std.specs.Prelude.{◌⊎◌, nat_le, IsUtf8, IfSome, IsSomeAnd}
use Rattle.std.specs.Str.{is_utf8}
use Rattle.std.proofs.lemmas.Bool.{false_from_ne_true}
use Rattle.std.proofs.lemmas.Str.{IsUtf8-from_is_utf8, is_utf8-from_IsUtf8}
use Rattle.regex.specs.Patterns.{Re, Refuses as RefusesText}
use Rattle.regex_syntax.specs.Brackets.{Nested}
use Rattle.regex_syntax.specs.Grammar.{Names}
use Rattle.regex_syntax.specs.declared.error.ErrorKind.{ErrorKind}
use Rattle.regex_syntax.specs.declared.error.ErrorKind.TheVariants.{OutOfMemory}
use Rattle.unlang_cond.specs.declared.atom.Pattern.{Pattern}
use Rattle.unlang_cond.specs.declared.atom.Token.{Token}
use Rattle.unlang_cond.specs.Patterns.{has_expansion, config_of, expression_of, IsReadable, is_within, is_accepted, IsBuilt, IsTaken, IsRefused, IsAnswerTo}
use Rattle.unlang_cond.specs.Steps.{pattern_in, IsFit, AreFit, refused_left, earlier, first_refused}

le_true : (a b : ℕ) → a ≤ b → nat_le a b ≡ true
le_true a b e = search rules

le_false : (a b : ℕ) → b < a → nat_le a b ≡ false
le_false a b e = search rules

too_deep : (o : Option (Nested Re × Names)) → IfSome o (λ (re, names). 250 < re.depth) → is_within o ≡ false
too_deep None deep = refl
too_deep (Some reading) deep = le_false reading.0.depth 250 deep

-- a text that the parser refuses writes no expression, or one that nests too deep
pub not_within : (source : List ℕ) (insensitive : Bool) (kind : ErrorKind) → RefusesText (config_of insensitive) source kind → kind ≢ OutOfMemory → is_within (expression_of source insensitive) ≡ false
unfolding RefusesText
not_within source insensitive kind (inl memory) other = absurd (other memory)
not_within source insensitive kind (inr (inl none)) other = ap is_within none
not_within source insensitive kind (inr (inr deep)) other = too_deep (expression_of source insensitive) deep.1

second : (a b c : Bool) → b ≡ false → (not a && b && c) ≡ false
second true b c e = refl
second false true c e = absurd cc
second false false c e = refl

third : (a b c : Bool) → c ≡ false → (not a && b && c) ≡ false
third true b c e = refl
third false false c e = refl
third false true c e = e

pub expands : (source : List ℕ) (insensitive : Bool) → has_expansion source ≡ true → is_accepted source insensitive ≡ false
unfolding is_accepted
expands source insensitive e = rw e refl

pub no_text : (source : List ℕ) (insensitive : Bool) → ¬ IsUtf8 source → is_accepted source insensitive ≡ false
unfolding is_accepted
no_text source insensitive never =
    second (has_expansion source) (is_utf8 source) (is_within (expression_of source insensitive)) (false_from_ne_true (is_utf8 source) (λ is. never (IsUtf8-from_is_utf8 source is)))

pub no_expression : (source : List ℕ) (insensitive : Bool) → is_within (expression_of source insensitive) ≡ false → is_accepted source insensitive ≡ false
unfolding is_accepted
no_expression source insensitive e = third (has_expansion source) (is_utf8 source) (is_within (expression_of source insensitive)) e

pub answered : (pattern : Pattern) (source : List ℕ) (result : Result (Option (List ℕ × Bool)) NoMemory) → has_expansion pattern.source ≡ false → source ≡ pattern.source → IsUtf8 pattern.source
    → IfOk result (IsBuilt source pattern.insensitive) → IfOk result (IsAnswerTo pattern)
answered pattern source (Ok (Some compiled)) plain same text is =
    (is.0 ∙ ap (λ (s : List ℕ). (s, pattern.insensitive)) same, record { plain = plain; text = text; readable = subst (λ (s : List ℕ). IsReadable s pattern.insensitive) same is.1 })
answered pattern source (Ok None) plain same text is =
    no_expression pattern.source pattern.insensitive (ap (λ (s : List ℕ). is_within (expression_of s pattern.insensitive)) (sym same) ∙ is)
answered pattern source (Err error) plain same text is = tt

within : (o : Option (Nested Re × Names)) → IsSomeAnd o (λ (re, names). re.depth ≤ 250) → is_within o ≡ true
within None is = absurd is
within (Some reading) is = le_true reading.0.depth 250 is

-- a pattern that is taken is accepted
taken_accepted : (pattern : Pattern) → IsTaken pattern → is_accepted pattern.source pattern.insensitive ≡ true
unfolding is_accepted
taken_accepted pattern taken = rw (taken.plain, is_utf8-from_IsUtf8 pattern.source taken.text, within (expression_of pattern.source pattern.insensitive) taken.readable) refl

fit_left : (pattern : Option Pattern) → IsFit pattern → refused_left pattern ≡ None
fit_left None fit = refl
fit_left (Some pattern) fit = rw (taken_accepted pattern fit) refl

-- no pattern is refused among those that are taken, nor before them
pub none_refused : (tokens : List Token) → AreFit tokens → first_refused tokens ≡ None
unfolding first_refused
none_refused [] fit = refl
none_refused (t ∷ tokens) fit = rw (fit_left (pattern_in t) fit.0) (none_refused tokens fit.1)

pub refused_behind : (front back : List Token) → AreFit front → first_refused (front ++ back) ≡ first_refused back
unfolding first_refused
refused_behind [] back fit = refl
refused_behind (t ∷ front) back fit = rw (fit_left (pattern_in t) fit.0) (refused_behind front back fit.1)

pub refused_first : (t : Token) (back : List Token) (left : ℕ) → refused_left (pattern_in t) ≡ Some left → first_refused (t ∷ back) ≡ Some left
unfolding first_refused
refused_first t back left e = rw e refl

-- a pattern from which on so many octets are left is refused
abbrev pub Refuses : Option Pattern → ℕ → Type 0
Refuses None left = ⊥
Refuses (Some pattern) left = (pattern.left ≡ left) × IsRefused pattern

-- one of the tokens has such a pattern
abbrev pub RefusesAt : List Token → ℕ → Type 0
RefusesAt [] left = ⊥
RefusesAt (t ∷ tokens) left = Refuses (pattern_in t) left ⊎ RefusesAt tokens left

by_test : (accepted : Bool) (pattern : Pattern) (left : ℕ) → accepted ≡ is_accepted pattern.source pattern.insensitive → (if accepted then None else Some pattern.left) ≡ Some left → Refuses (Some pattern) left
by_test true pattern left same e = absurd cc
by_test false pattern left same e = (cc, sym same)

refuses_by : (pattern : Option Pattern) (left : ℕ) → refused_left pattern ≡ Some left → Refuses pattern left
refuses_by None left e = absurd cc
refuses_by (Some pattern) left e = by_test (is_accepted pattern.source pattern.insensitive) pattern left refl e

refuses_either : (t : Token) (tokens : List Token) (left : ℕ) (here : Option ℕ) → here ≡ refused_left (pattern_in t) → ((left : ℕ) → first_refused tokens ≡ Some left → RefusesAt tokens left)
    → earlier here (first_refused tokens) ≡ Some left → RefusesAt (t ∷ tokens) left
refuses_either t tokens left None same later e = inr (later left e)
refuses_either t tokens left (Some other) same later e = inl (refuses_by (pattern_in t) left (sym same ∙ e))

pub refused_among : (tokens : List Token) (left : ℕ) → first_refused tokens ≡ Some left → RefusesAt tokens left
unfolding first_refused
refused_among [] left e = absurd cc
refused_among (t ∷ tokens) left e = refuses_either t tokens left (refused_left (pattern_in t)) refl (refused_among tokens) e
