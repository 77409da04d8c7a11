-- The parts of an item of a users file: its operator and its value, and the comments that may stand behind it. After
-- users(5).
use Rattle.std.specs.Prelude.{ℕ, Bool, false, ◌&&◌, ◌||◌, ◌==◌, List, [], slice_index, Option, Some, None, if◌then◌else◌}
use Rattle.rad_words.specs.declared.attributes.Space.{Space}
use Rattle.rad_value.specs.declared.values.Value.{Value}
use Rattle.rad_dict.specs.Definitions.{Definitions}
use Rattle.rad_text.specs.Blanks.{is_blank, after_blanks}
use Rattle.rad_text.specs.Find.{◌>>=◌}
use Rattle.rad_pairs.specs.declared.items.PairOp.{PairOp}
use Rattle.rad_pairs.specs.declared.attr_reading.AttrKind.{AttrKind}
use Rattle.rad_pairs.specs.Words.{word_at}
use Rattle.rad_pairs.specs.PairParts.{operator_of, is_missing, value_behind, separated}
use Rattle.mod_users.specs.declared.form.Form.{Form}
use Rattle.mod_users.specs.Forms.{takes}

-- A number sign stands at the front.
abbrev pub begins_comment : List ℕ → Bool
begins_comment text = slice_index text 0 == 35

-- A blank stands at the front.
abbrev pub is_behind_blank : List ℕ → Bool
is_behind_blank text = is_blank (slice_index text 0)

-- What follows the blanks at the front, up to the line's end: nothing where a comment begins there, behind a blank, or
-- behind what else a comment may stand.
unfoldable pub solid : Bool → List ℕ → List ℕ
solid parted text = if (parted || is_behind_blank text) && begins_comment (after_blanks text) then [] else after_blanks text

-- An operator that an item may have there.
abbrev pub operator_taken : Form → Space → PairOp × List ℕ → Option (PairOp × List ℕ)
operator_taken form space op = if takes form space op.0 then Some op else None

-- The operator of an item at the front, where it may have it there, and what follows it.
unfoldable pub operator_at : Form → Space → List ℕ → Option (PairOp × List ℕ)
operator_at form space text = operator_of text >>= operator_taken form space

-- The value at the front, and what follows its item.
unfoldable pub value_at : PairOp → AttrKind → List ℕ → Definitions → Option (Value × List ℕ)
value_at op attr text dict = do
  word ← word_at text
  value ← value_behind op attr (if is_missing text then None else Some word.0) dict
  rest ← separated (solid false word.1)
  Some (value, rest)
