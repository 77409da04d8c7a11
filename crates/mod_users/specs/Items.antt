-- The items of a line of a users file, each with the place of its value, up to the first that is wrong. After users(5);
-- that an item's faults are looked for in the order of its parts is this project's own.
use Rattle.std.specs.Prelude.{ℕ, ◌+◌, ◌-◌, Bool, true, false, List, [], ◌∷◌, length, take, drop, Option, Some, None, Result, Ok, Err}
use Rattle.rad_dict.specs.Definitions.{Definitions}
use Rattle.rad_text.specs.declared.spots.Spot.{Spot}
use Rattle.rad_text.specs.Blanks.{after_blanks}
use Rattle.rad_text.specs.Spots.{capped}
use Rattle.rad_text.specs.Read.{◌>>=◌, found}
use Rattle.rad_text.specs.Parts.{parts_of}
use Rattle.rad_pairs.specs.AttrNames.{named}
use Rattle.rad_pairs.specs.Words.{name_len}
use Rattle.mod_users.specs.declared.form.Form.{Form}
use Rattle.mod_users.specs.declared.placed.Placed.{Placed}
use Rattle.mod_users.specs.declared.fault.Wrong.{Wrong}
use Rattle.mod_users.specs.declared.fault.Wrong.TheVariants.{UnknownAttr, BadOperator, BadValue}
use Rattle.mod_users.specs.declared.fault.LineFault.{LineFault}
use Rattle.mod_users.specs.declared.fault.LineFault.TheVariants as fault
use Rattle.mod_users.specs.declared.items.Seen.{Seen}
use Rattle.mod_users.specs.ItemParts.{solid, operator_at, value_at}

-- An item with how many octets are left from its value on, and what follows it. Each fault is at its place: the name, the
-- name's end, the value.
unfoldable pub item_at : Form → List ℕ → Definitions → Result (Seen × List ℕ) Wrong
item_at form text dict = do
  attr ← found (UnknownAttr (length text)) (named (take (name_len text) text) dict)
  op ← found (BadOperator (length (drop (name_len text) text))) (operator_at form attr.id.space (after_blanks (drop (name_len text) text)))
  value ← found (BadValue (length (after_blanks op.1))) (value_at op.0 attr (solid false op.1) dict)
  Ok (record { item = record { attr = attr.id; op = op.0; value = value.0 }; left = length (after_blanks op.1) }, value.1)

-- An item, and the next one from its front on.
abbrev pub part_at : Form → Definitions → List ℕ → Result (Seen × List ℕ) Wrong
part_at form dict text = item_at form text dict >>= λ read. Ok (read.0, solid true read.1)

-- The spot in a line, of this number and so many octets, from which on so many are left.
abbrev pub spot_in : ℕ → ℕ → ℕ → Spot
spot_in number width left = record { line = number; column = capped (width - left + 1) }

-- What is wrong, with its spot.
abbrev pub fault_in : ℕ → ℕ → Wrong → LineFault
fault_in number width (UnknownAttr left) = fault.UnknownAttr (spot_in number width left)
fault_in number width (BadOperator left) = fault.BadOperator (spot_in number width left)
fault_in number width (BadValue left) = fault.BadValue (spot_in number width left)

-- An item with its spot.
abbrev pub placed : ℕ → ℕ → Seen → Placed
placed number width seen = record { item = seen.item; spot = spot_in number width seen.left }

-- The items of parts, in order, up to the first part that is wrong.
abbrev pub listed : ℕ → ℕ → List (Result Seen Wrong) → List Placed × Option LineFault
listed number width [] = ([], None)
listed number width (Ok seen ∷ parts) = (placed number width seen ∷ (listed number width parts).0, (listed number width parts).1)
listed number width (Err wrong ∷ parts) = ([], Some (fault_in number width wrong))

-- The items of what is left of a line, of this number and so many octets. A comment may begin directly at its front where
-- that is said.
unfoldable pub items_of : Form → Bool → ℕ → ℕ → List ℕ → Definitions → List Placed × Option LineFault
items_of form parted number width text dict = listed number width (parts_of (part_at form dict) (BadValue 0) (solid parted text))
