-- The mark at the front of a text: passed signs, line ends, closing braces, whole items, heads of blocks and includes. After the
-- manual page radiusd.conf(5).
use Rattle.std.specs.Prelude.{ℕ, Bool, true, false, ◌&&◌, ◌||◌, List, [], take, drop, Some, None, Result, Ok, Err, codes, if◌then◌else◌}
use Rattle.std.specs.Str.{bytes_eq, str_eq_ignore_ascii_case}
use Rattle.rad_text.specs.Read.{◌>>=◌}
use Rattle.rad_text.specs.Blanks.{after_blanks}
use Rattle.rad_conf.specs.declared.sign.Sign.{Sign}
use Rattle.rad_conf.specs.declared.sign.Sign.TheVariants as sign
use Rattle.rad_conf.specs.declared.fault.Wrong.{Wrong}
use Rattle.rad_conf.specs.declared.fault.Wrong.TheVariants.{Stray}
use Rattle.rad_conf.specs.declared.tree.Quote.{Quote}
use Rattle.rad_conf.specs.declared.tree.Quote.TheVariants.{Bare, Single, Double}
use Rattle.rad_conf.specs.declared.tree.Word.{Word}
use Rattle.rad_conf.specs.declared.tree.Item.TheVariants as item
use Rattle.rad_conf.specs.declared.mark.Mark.{Mark}
use Rattle.rad_conf.specs.declared.mark.Mark.TheVariants as mark
use Rattle.rad_conf.specs.declared.item.Keyword.{Keyword}
use Rattle.rad_conf.specs.declared.item.Keyword.TheVariants as keyword
use Rattle.rad_conf.specs.declared.growth.Growth.{Growth}
use Rattle.rad_conf.specs.Signs.{sign_at, is_open, ends_item}
use Rattle.rad_conf.specs.Words.{bare_text, bare_len, word_at, after_comment, is_condition}
use Rattle.rad_conf.specs.Conditions.{condition_at}

-- A bare word of this text.
abbrev pub bare : List ℕ → Word
bare text = record { quote = Bare; text = text }

-- Behind the right word of a pair, and behind the path of an include, the item ends.
abbrev pub ended_at : Mark → List ℕ → Result (Mark × List ℕ) Wrong
ended_at whole text = if ends_item (sign_at text) then Ok (whole, text) else Err Stray

-- Behind these operators the right word may be missing.
unfoldable pub stands_alone : List ℕ → Bool
stands_alone operator = bytes_eq operator (codes "=*") || bytes_eq operator (codes "!*")

-- A pair from behind its operator on.
unfoldable pub pair_at : Growth → Word → List ℕ → List ℕ → Result (Mark × List ℕ) Wrong
pair_at growth left operator text =
    if stands_alone operator && ends_item (sign_at (after_blanks text))
    then Ok (mark.Whole (item.Pair left operator (bare [])), after_blanks text)
    else word_at growth (after_blanks text) >>= (λ (right : Word × List ℕ). ended_at (mark.Whole (item.Pair left operator right.0)) (after_blanks right.1))

-- Behind a block's name stands its brace.
abbrev pub opened_at : Word → Word → ℕ → List ℕ → Result (Mark × List ℕ) Wrong
opened_at kind name lines text = if is_open (sign_at text) then Ok (mark.Opens kind (Some name) lines, drop 1 text) else Err Stray

-- A block from its name on.
unfoldable pub block_at : Growth → Word → List ℕ → Result (Mark × List ℕ) Wrong
block_at growth kind text = word_at growth text >>= (λ (name : Word × List ℕ). opened_at kind name.0 0 (after_blanks name.1))

-- A name alone is a bare word.
abbrev pub named : Word → Quote → List ℕ → Result (Mark × List ℕ) Wrong
named first Bare text = Ok (mark.Whole (item.Name first), text)
named first Single text = Err Stray
named first Double text = Err Stray

-- An item from behind its first word on: a pair, a block with or without a name, or a name alone.
abbrev pub item_by : Growth → Sign → Word → List ℕ → Result (Mark × List ℕ) Wrong
item_by growth sign.End first text = named first first.quote text
item_by growth sign.Blank first text = Err Stray
item_by growth sign.LineEnd first text = named first first.quote text
item_by growth sign.Comma first text = named first first.quote text
item_by growth sign.Open first text = Ok (mark.Opens first None 0, drop 1 text)
item_by growth sign.Close first text = named first first.quote text
item_by growth sign.Comment first text = named first first.quote text
item_by growth sign.Double first text = block_at growth first text
item_by growth sign.Single first text = block_at growth first text
item_by growth (sign.Operator len) first text = pair_at growth first (take len text) (drop len text)
item_by growth (sign.Bare len) first text = block_at growth first text

-- An item whose first word is no keyword.
unfoldable pub plain_item : Growth → List ℕ → Result (Mark × List ℕ) Wrong
plain_item growth text = word_at growth text >>= (λ (first : Word × List ℕ). item_by growth (sign_at (after_blanks first.1)) first.0 (after_blanks first.1))

-- A block from behind its kind on whose name is a condition.
unfoldable pub condition_item : Growth → List ℕ → List ℕ → Result (Mark × List ℕ) Wrong
condition_item growth kind text = condition_at growth text >>= (λ (condition : List ℕ × ℕ × List ℕ). opened_at (bare kind) (bare condition.0) condition.1 (after_blanks condition.2))

-- An include from behind its keyword on.
unfoldable pub include_item : Growth → Bool → List ℕ → Result (Mark × List ℕ) Wrong
include_item growth optional text = word_at growth text >>= (λ (path : Word × List ℕ). ended_at (mark.Includes optional path.0.text) (after_blanks path.1))

-- What a bare word begins, as it is written. Keywords are read without regard to ASCII case.
unfoldable pub keyword_of : List ℕ → Keyword
keyword_of word =
    if is_condition word then keyword.Condition
    else (if str_eq_ignore_ascii_case word (codes "$INCLUDE") then keyword.Include
    else (if str_eq_ignore_ascii_case word (codes "$-INCLUDE") then keyword.TryInclude
    else keyword.Plain))

-- What an item is by the keyword that its bare word is.
abbrev pub item_of : Growth → Keyword → List ℕ → Result (Mark × List ℕ) Wrong
item_of growth keyword.Condition text = condition_item growth (bare_text text) (after_blanks (drop (bare_len 0 text) text))
item_of growth keyword.Include text = include_item growth false (after_blanks (drop (bare_len 0 text) text))
item_of growth keyword.TryInclude text = include_item growth true (after_blanks (drop (bare_len 0 text) text))
item_of growth keyword.Plain text = plain_item growth text

-- An item that isn't a block, up to its end, or a block up to its opening brace.
unfoldable pub item_at : Growth → List ℕ → Result (Mark × List ℕ) Wrong
item_at growth text = item_of growth (keyword_of (bare_text text)) text

-- The mark of a sign at the front of a text.
abbrev pub mark_by : Growth → Sign → List ℕ → Result (Mark × List ℕ) Wrong
mark_by growth sign.End text = item_at growth text
mark_by growth sign.Blank text = Ok (mark.Passed, drop 1 text)
mark_by growth sign.LineEnd text = Ok (mark.NextLine, drop 1 text)
mark_by growth sign.Comma text = Ok (mark.Passed, drop 1 text)
mark_by growth sign.Open text = item_at growth text
mark_by growth sign.Close text = Ok (mark.Closes, drop 1 text)
mark_by growth sign.Comment text = Ok (mark.Passed, after_comment (drop 1 text))
mark_by growth sign.Double text = item_at growth text
mark_by growth sign.Single text = item_at growth text
mark_by growth (sign.Operator len) text = item_at growth text
mark_by growth (sign.Bare len) text = item_at growth text

-- The mark at the front of a text, and what follows it.
unfoldable pub mark_at : Growth → List ℕ → Result (Mark × List ℕ) Wrong
mark_at growth text = mark_by growth (sign_at text) text

-- How many lines end in a mark.
abbrev pub lines_in : Mark → ℕ
lines_in mark.Passed = 0
lines_in mark.NextLine = 1
lines_in mark.Closes = 0
lines_in (mark.Whole whole) = 0
lines_in (mark.Opens kind name lines) = lines
lines_in (mark.Includes optional path) = 0
