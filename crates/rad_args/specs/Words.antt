-- The words of a command line: letters behind a hyphen, some of them with a value, and plain words. After the utility
-- conventions of POSIX (XBD 12.2), with this project's own rule for `=`.
use Rattle.std.specs.Prelude.{ℕ, Bool, true, false, not, ◌&&◌, ◌||◌, ◌==◌, List, [], ◌∷◌, ◌++◌, Option, Some, None, if◌then◌else◌}
use Rattle.std.specs.Option.{option_map}
use Rattle.std.specs.List.{list_any}
use Rattle.std.specs.Str.{bytes_eq}
use Rattle.rad_text.specs.Find.{◌>>=◌}
use Rattle.rad_args.specs.declared.item.Item.{Item}
use Rattle.rad_args.specs.declared.item.Item.TheVariants.{Letter, Valued, Plain}
use Rattle.rad_args.specs.declared.reading.Reading.{Reading}
use Rattle.rad_args.specs.declared.reading.Reading.TheVariants.{Letters, Value, Plainly}

-- The letter is one of these.
abbrev pub is_in : ℕ → List ℕ → Bool
is_in letter letters = list_any (λ other. other == letter) letters

-- A hyphen stands at the front.
abbrev pub begins_with_hyphen : List ℕ → Bool
begins_with_hyphen [] = false
begins_with_hyphen (c ∷ rest) = c == 45

-- A hyphen alone.
abbrev pub is_hyphen : List ℕ → Bool
is_hyphen word = bytes_eq word (45 ∷ [])

-- A word that may be a letter's value as the next word: a hyphen alone, or without a hyphen at its front.
abbrev pub is_value : List ℕ → Bool
is_value word = is_hyphen word || not (begins_with_hyphen word)

-- A value in its letter's own word: one `=` at its front doesn't belong to it.
abbrev pub without_equals : List ℕ → List ℕ
without_equals [] = []
without_equals (c ∷ rest) = if c == 61 then rest else c ∷ rest

-- A letter with a value, and what follows the letter in its word: that is the value, or else the next word is to be it.
abbrev pub valued : ℕ → List ℕ → Reading × List Item
valued letter [] = (Value letter, [])
valued letter (c ∷ rest) = (Letters, Valued letter (without_equals (c ∷ rest)) ∷ [])

-- Items in front of what is found.
abbrev pub in_front : List Item → Option (Reading × List Item) → Option (Reading × List Item)
in_front before found = option_map (λ (f : Reading × List Item). (f.0, before ++ f.1)) found

-- The last of joined letters, and what follows it in its word; a letter that has no value is refused.
abbrev pub last_letter : List ℕ → ℕ → List ℕ → Option (Reading × List Item)
last_letter options letter text = if is_in letter options then Some (valued letter text) else None

-- The letters that are joined behind a hyphen: letters without a value, and one with a value may follow them. Any other
-- letter is refused.
unfoldable pub joined : List ℕ → List ℕ → List ℕ → Option (Reading × List Item)
joined flags options [] = Some (Letters, [])
joined flags options (c ∷ rest) =
    if is_in c flags then in_front (Letter c ∷ []) (joined flags options rest) else last_letter options c rest

-- A word without its first octet.
abbrev pub behind_first : List ℕ → List ℕ
behind_first [] = []
behind_first (c ∷ rest) = rest

-- What a word is where letters may stand: `--` ends the letters, a hyphen with letters behind it is letters, and each other
-- word is plain, a hyphen alone too.
unfoldable pub letters_or_plain : List ℕ → List ℕ → List ℕ → Option (Reading × List Item)
letters_or_plain flags options word =
    if is_value word then Some (Letters, Plain word ∷ [])
    else (if bytes_eq word (45 ∷ 45 ∷ []) then Some (Plainly, []) else joined flags options (behind_first word))

-- What a word is by what was read before it. As the value of a letter it must be one; behind `--` it is plain.
abbrev pub read_word : List ℕ → List ℕ → Reading → List ℕ → Option (Reading × List Item)
read_word flags options Letters word = letters_or_plain flags options word
read_word flags options (Value letter) word = if is_value word then Some (Letters, Valued letter word ∷ []) else None
read_word flags options Plainly word = Some (Plainly, Plain word ∷ [])

-- The words end where no letter wants its value.
abbrev pub may_end : Reading → Bool
may_end Letters = true
may_end (Value letter) = false
may_end Plainly = true

-- The items of words, in order, by what was read before them; or none, where a word is refused or a letter lacks its value.
unfoldable pub read_words : List ℕ → List ℕ → Reading → List (List ℕ) → Option (List Item)
read_words flags options reading [] = if may_end reading then Some [] else None
read_words flags options reading (word ∷ words) = do
  found ← read_word flags options reading word
  option_map (λ (items : List Item). found.1 ++ items) (read_words flags options found.0 words)

-- The letter stands among the items.
abbrev pub is_letter : ℕ → Item → Bool
is_letter letter (Letter other) = other == letter
is_letter letter (Valued other value) = other == letter
is_letter letter (Plain word) = false

-- A letter was given, with a value or without.
abbrev pub has_letter : ℕ → List Item → Bool
has_letter letter items = list_any (is_letter letter) items

-- The item's letter stands among the items, too.
abbrev pub is_again : Item → List Item → Bool
is_again (Letter letter) items = has_letter letter items
is_again (Valued letter value) items = has_letter letter items
is_again (Plain word) items = false

-- No letter stands twice.
unfoldable pub are_once : List Item → Bool
are_once [] = true
are_once (item ∷ items) = not (is_again item items) && are_once items

-- The items, where no letter stands twice.
abbrev pub if_once : List Item → Option (List Item)
if_once items = if are_once items then Some items else None

-- The items of a command line. The first word is the program's name, whatever it is; without it there is no command line.
unfoldable pub arguments : List ℕ → List ℕ → List (List ℕ) → Option (List Item)
arguments flags options [] = None
arguments flags options (name ∷ words) = read_words flags options Letters words >>= if_once
