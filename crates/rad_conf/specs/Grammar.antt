-- How words are written, apart from how they are read. After the manual page radiusd.conf(5).
use Rattle.std.specs.Prelude.{◌≡◌, ℕ, Bool, true, false, ◌||◌, ◌==◌, List, [], ◌∷◌, ◌++◌, Ok, if◌then◌else◌}
use Rattle.rad_conf.specs.declared.tree.Quote.{Quote}
use Rattle.rad_conf.specs.declared.tree.Quote.TheVariants.{Single, Double}
use Rattle.rad_conf.specs.declared.tree.Word.{Word}
use Rattle.rad_conf.specs.declared.growth.Growth.{Growth}
use Rattle.rad_conf.specs.Words.{word_at}

-- Whether an octet stands nowhere in a text.
unfoldable pub lacks : ℕ → List ℕ → Bool
lacks octet [] = true
lacks octet (c ∷ text) = if c == octet then false else lacks octet text

-- A text between single quotes: a backslash stands before each `'` and each `\`, and all else stands for itself.
unfoldable pub in_single : List ℕ → List ℕ
in_single [] = []
in_single (c ∷ text) = if c == 39 || c == 92 then 92 ∷ (c ∷ in_single text) else c ∷ in_single text

-- An octet between double quotes: `\"` and `\\`, and `\n`, `\r` and `\t` for a newline, a carriage return and a tab; all else stands for
-- itself.
unfoldable pub double_octet : ℕ → List ℕ
double_octet c =
    if c == 34 || c == 92 then 92 ∷ (c ∷ [])
    else (if c == 10 then 92 ∷ (110 ∷ [])
    else (if c == 13 then 92 ∷ (114 ∷ [])
    else (if c == 9 then 92 ∷ (116 ∷ [])
    else c ∷ [])))

-- A text between double quotes.
unfoldable pub in_double : List ℕ → List ℕ
in_double [] = []
in_double (c ∷ text) = double_octet c ++ in_double text

-- A word with these quotes and this text.
abbrev pub word : Quote → List ℕ → Word
word quote text = record { quote = quote; text = text }

-- What is written in single quotes so is read: each text without a newline, whatever follows it.
abbrev pub ReadsSingle : Type 0
ReadsSingle = (growth : Growth) (text rest : List ℕ) → lacks 10 text ≡ true
    → word_at growth (39 ∷ (in_single text ++ 39 ∷ rest)) ≡ Ok (word Single text, rest)

-- What is written in double quotes so is read: each text without a `$`, which could begin a variable.
abbrev pub ReadsDouble : Type 0
ReadsDouble = (growth : Growth) (text rest : List ℕ) → lacks 36 text ≡ true
    → word_at growth (34 ∷ (in_double text ++ 34 ∷ rest)) ≡ Ok (word Double text, rest)
