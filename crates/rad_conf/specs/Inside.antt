-- How conditions are spelled in octets, from a `(` to its matching `)`. After the manual page unlang(5), apart from how they are
-- read.
use Rattle.std.specs.Prelude.{◌≡◌, ℕ, ◌+◌, ◌-◌, Bool, true, false, ◌&&◌, ◌||◌, ◌==◌, List, [], ◌∷◌, ◌++◌, Option, Some, None, if◌then◌else◌}
use Rattle.rad_text.specs.Blanks.{is_blank}
use Rattle.rad_conf.specs.declared.spelling.Spelling.TheVariants as spelling
use Rattle.rad_conf.specs.Spelling.{operator_of, has_matching, in_braces, HasNoVariable, is_quoted, IsSpelled}

-- How many parentheses are open behind an octet.
abbrev pub open_after : ℕ → ℕ → ℕ
open_after c depth = if c == 40 then depth + 1 else (if c == 41 then depth - 1 else depth)

-- Whether an operator stands there that has two octets.
abbrev pub is_long : Option (List ℕ) → Bool
is_long None = false
is_long (Some []) = false
is_long (Some (c ∷ [])) = false
is_long (Some (c ∷ d ∷ more)) = true

-- An octet that stands for itself: no quote, no `)` that closes the outermost `(`, no slash that begins a pattern, and nothing that
-- begins an operator of two octets or a variable.
pub record IsOther (depth : ℕ) (awaits : Bool) (c : ℕ) (rest : List ℕ) : Type 0 where
  pub unquoted : (c == 34 || c == 39) ≡ false
  pub inside : (c == 41 && depth == 1) ≡ false
  pub pattern : (raw more : List ℕ) → (c == 47 && awaits) ≡ true → is_quoted 47 false raw ≡ true → rest ≡ raw ++ 47 ∷ more → ⊥
  pub operator : is_long (operator_of (c ∷ rest)) ≡ false
  pub variable : HasNoVariable (c ∷ rest)

-- Which condition a text spells from within so many open parentheses on, perhaps where a pattern may begin; how many lines end in
-- it; and what follows it. Quotes and patterns stay as they are, and variables are replaced but in single quotes and patterns. A
-- pattern may begin behind `=~` and `!~` and blanks after them.
pub data IsInside (value : List ℕ → Option (List ℕ)) : ℕ → Bool → List ℕ → List ℕ → ℕ → List ℕ → Type 0 where
  closes : (awaits : Bool) (rest : List ℕ) → IsInside value 1 awaits (41 ∷ rest) (41 ∷ []) 0 rest
  double : (depth lines : ℕ) (awaits : Bool) (raw kept text condition rest : List ℕ) → is_quoted 34 false raw ≡ true → IsSpelled value spelling.Kept raw kept
      → IsInside value depth false text condition lines rest → IsInside value depth awaits (34 ∷ (raw ++ 34 ∷ text)) (34 ∷ (kept ++ 34 ∷ condition)) lines rest
  single : (depth lines : ℕ) (awaits : Bool) (raw text condition rest : List ℕ) → is_quoted 39 false raw ≡ true
      → IsInside value depth false text condition lines rest → IsInside value depth awaits (39 ∷ (raw ++ 39 ∷ text)) (39 ∷ (raw ++ 39 ∷ condition)) lines rest
  pattern : (depth lines : ℕ) (raw text condition rest : List ℕ) → is_quoted 47 false raw ≡ true
      → IsInside value depth false text condition lines rest → IsInside value depth true (47 ∷ (raw ++ 47 ∷ text)) (47 ∷ (raw ++ 47 ∷ condition)) lines rest
  variable : (depth lines : ℕ) (awaits : Bool) (name found text condition rest : List ℕ) → has_matching 0 name ≡ true → value name ≡ Some found
      → IsInside value depth false text condition lines rest → IsInside value depth awaits (36 ∷ in_braces name text) (found ++ condition) lines rest
  operator : (depth lines c d : ℕ) (awaits : Bool) (text condition rest : List ℕ) → operator_of (c ∷ d ∷ text) ≡ Some (c ∷ d ∷ [])
      → IsInside value depth (d == 126) text condition lines rest → IsInside value depth awaits (c ∷ d ∷ text) (c ∷ d ∷ condition) lines rest
  octet : (depth lines c : ℕ) (awaits : Bool) (text condition rest : List ℕ) → IsOther depth awaits c text
      → IsInside value (open_after c depth) (is_blank c && awaits) text condition lines rest → IsInside value depth awaits (c ∷ text) (c ∷ condition) (if c == 10 then lines + 1 else lines) rest

-- Which condition a text spells, from a `(` to its matching `)`; how many lines end in it; and what follows it.
pub data IsCondition (value : List ℕ → Option (List ℕ)) : List ℕ → List ℕ → ℕ → List ℕ → Type 0 where
  opened : (lines : ℕ) (text condition rest : List ℕ) → IsInside value 1 false text condition lines rest → IsCondition value (40 ∷ text) (40 ∷ condition) lines rest
