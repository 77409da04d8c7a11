-- How words are spelled in octets. After the manual page radiusd.conf(5), apart from how they are read.
use Rattle.std.specs.Prelude.{◌≡◌, ℕ, ◌+◌, ◌-◌, Bool, true, false, ◌&&◌, ◌||◌, not, ◌==◌, List, [], ◌∷◌, ◌++◌, Option, Some, None, Ok, codes, if◌then◌else◌}
use Rattle.rad_conf.specs.declared.tree.Quote.TheVariants.{Bare, Single, Double}
use Rattle.rad_conf.specs.declared.tree.Word.{Word}
use Rattle.rad_conf.specs.declared.spelling.Spelling.{Spelling}
use Rattle.rad_conf.specs.declared.spelling.Spelling.TheVariants as spelling
use Rattle.rad_conf.specs.declared.growth.Growth.{Growth}
use Rattle.rad_conf.specs.Grammar.{word}
use Rattle.rad_conf.specs.Variables.{value_of}
use Rattle.rad_conf.specs.Words.{escape_of, has_escapes, has_variables, word_at}

-- Whether a text begins with these octets.
unfoldable pub begins_with : List ℕ → List ℕ → Bool
begins_with [] text = true
begins_with (c ∷ start) [] = false
begins_with (c ∷ start) (d ∷ text) = if c == d then begins_with start text else false

-- The first of these with which a text begins.
unfoldable pub first_of : List (List ℕ) → List ℕ → Option (List ℕ)
first_of [] text = None
first_of (start ∷ starts) text = if begins_with start text then Some start else first_of starts text

-- The fourteen operators, the longer ones first.
abbrev pub operators : List (List ℕ)
operators =
    codes ":=" ∷ codes "+=" ∷ codes "-=" ∷ codes "==" ∷ codes "!=" ∷ codes "<=" ∷ codes ">=" ∷ codes "=~" ∷ codes "!~" ∷ codes "=*" ∷ codes "!*"
    ∷ codes "=" ∷ codes "<" ∷ codes ">" ∷ []

-- The longest operator with which a text begins.
abbrev pub operator_of : List ℕ → Option (List ℕ)
operator_of text = first_of operators text

-- The octets that no bare word has: blanks, line ends, commas, braces, `#`, quotes, `=`, `<` and `>`.
unfoldable pub parts_words : ℕ → Bool
parts_words c =
    c == 32 || c == 9 || c == 10 || c == 44 || c == 123 || c == 125 || c == 35 || c == 34 || c == 39 || c == 61 || c == 60 || c == 62

-- Whether something was found.
abbrev pub is_there : Option (List ℕ) → Bool
is_there None = false
is_there (Some text) = true

-- Whether a bare word ends before a text: before one of these octets, an operator, and the text's end.
unfoldable pub ends_word : List ℕ → Bool
ends_word [] = true
ends_word (c ∷ rest) = parts_words c || is_there (operator_of (c ∷ rest))

-- Whether the braces of a text on one line match, behind so many that are open.
unfoldable pub has_matching : ℕ → List ℕ → Bool
has_matching depth [] = depth == 0
has_matching depth (c ∷ text) =
    if c == 10 then false
    else (if c == 123 then has_matching (depth + 1) text
    else (if c == 125 then (if depth == 0 then false else has_matching (depth - 1) text)
    else has_matching depth text))

-- What is written in braces on one line, with matching ones inside, and what follows it.
abbrev pub in_braces : List ℕ → List ℕ → List ℕ
in_braces inner rest = 123 ∷ (inner ++ 125 ∷ rest)

-- No `{..}` stands at the front.
abbrev pub HasNoBraces : List ℕ → Type 0
HasNoBraces text = (inner rest : List ℕ) → has_matching 0 inner ≡ true → text ≡ in_braces inner rest → ⊥

-- Whether an octet and braces behind it are one: `${..}` and `%{..}`.
unfoldable pub takes_braces : ℕ → Bool
takes_braces c = c == 36 || c == 37

-- Which octets are a bare word where this text follows it: single octets up to where a word ends, and, with all that stands in them,
-- `[#]`, `${..}` and `%{..}`.
pub data IsBare (rest : List ℕ) : List ℕ → Type 0 where
  ends : ends_word rest ≡ true → IsBare rest []
  octet : (c : ℕ) (raw : List ℕ) → ends_word (c ∷ (raw ++ rest)) ≡ false → begins_with (codes "[#]") (c ∷ (raw ++ rest)) ≡ false → (takes_braces c ≡ true → HasNoBraces (raw ++ rest))
      → IsBare rest raw → IsBare rest (c ∷ raw)
  count : (raw : List ℕ) → IsBare rest raw → IsBare rest (91 ∷ 35 ∷ 93 ∷ raw)
  braces : (c : ℕ) (inner raw : List ℕ) → takes_braces c ≡ true → has_matching 0 inner ≡ true → IsBare rest raw → IsBare rest (c ∷ in_braces inner raw)

-- Whether octets stand within a pair of quotes: on one line, and with no quote but behind a backslash, which may itself stand behind
-- one.
unfoldable pub is_quoted : ℕ → Bool → List ℕ → Bool
is_quoted quote escaped [] = not escaped
is_quoted quote escaped (c ∷ raw) =
    if c == 10 then false else (if c == quote && not escaped then false else is_quoted quote (c == 92 && not escaped) raw)

-- No `${..}` stands at the front.
abbrev pub HasNoVariable : List ℕ → Type 0
HasNoVariable text = (name rest : List ℕ) → has_matching 0 name ≡ true → text ≡ 36 ∷ in_braces name rest → ⊥

-- Which text octets spell, by the values of variables: each octet stands for itself, but for escapes and for variables.
pub data IsSpelled (value : List ℕ → Option (List ℕ)) (how : Spelling) : List ℕ → List ℕ → Type 0 where
  nothing : IsSpelled value how [] []
  octet : (c : ℕ) (raw text : List ℕ) → (has_escapes how ≡ true → (c == 92) ≡ false) → (has_variables how ≡ true → HasNoVariable (c ∷ raw)) → IsSpelled value how raw text
      → IsSpelled value how (c ∷ raw) (c ∷ text)
  escape : (c : ℕ) (raw text : List ℕ) → has_escapes how ≡ true → IsSpelled value how raw text → IsSpelled value how (92 ∷ c ∷ raw) (escape_of how c ++ text)
  variable : (name raw found text : List ℕ) → has_variables how ≡ true → has_matching 0 name ≡ true → value name ≡ Some found → IsSpelled value how raw text
      → IsSpelled value how (36 ∷ in_braces name raw) (found ++ text)

-- Which word stands at the front of a text, and what follows it.
pub data IsWord (value : List ℕ → Option (List ℕ)) : List ℕ → Word → List ℕ → Type 0 where
  bare : (c : ℕ) (raw text rest : List ℕ) → IsBare rest (c ∷ raw) → IsSpelled value spelling.Plain (c ∷ raw) text → IsWord value ((c ∷ raw) ++ rest) (word Bare text) rest
  single : (raw text rest : List ℕ) → is_quoted 39 false raw ≡ true → IsSpelled value spelling.Single raw text → IsWord value (39 ∷ (raw ++ 39 ∷ rest)) (word Single text) rest
  double : (raw text rest : List ℕ) → is_quoted 34 false raw ≡ true → IsSpelled value spelling.Double raw text → IsWord value (34 ∷ (raw ++ 34 ∷ rest)) (word Double text) rest

-- What is spelled as a word is read as that word, whatever follows it.
abbrev pub ReadsWords : Type 0
ReadsWords = (growth : Growth) (text rest : List ℕ) (one : Word) → IsWord (value_of growth) text one rest → word_at growth text ≡ Ok (one, rest)

-- What is read as a word is spelled so.
abbrev pub SpellsWords : Type 0
SpellsWords = (growth : Growth) (text rest : List ℕ) (one : Word) → word_at growth text ≡ Ok (one, rest) → IsWord (value_of growth) text one rest
