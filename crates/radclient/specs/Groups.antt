-- The groups of pairs in a file: radclient(1) of FreeRADIUS. Lines with nothing but blanks part them.
use Rattle.std.specs.Prelude.{ℕ, ◌+◌, ◌-◌, ◌^◌, ◌==◌, Bool, true, false, min, List, [], ◌∷◌, ◌++◌, length, nat_lt, nat_le, Result, Ok, Err, if◌then◌else◌}
use Rattle.rad_text.specs.Blanks.{after_blanks}
use Rattle.rad_text.specs.Lines.{lines_of}
use Rattle.rad_text.specs.declared.read.ReadError.{ReadError}
use Rattle.rad_text.specs.declared.read.ReadError.TheVariants.{NoMemory, Wrong}
use Rattle.rad_text.specs.Read.{◌>>=◌}
use Rattle.rad_value.specs.declared.edits.ListName.TheVariants.{Request}
use Rattle.rad_value.specs.PairLists.{PairLists, no_pairs, with_list}
use Rattle.rad_dict.specs.Base.{base_definitions}
use Rattle.rad_pairs.specs.declared.fault.PairFault.{PairFault}
use Rattle.rad_pairs.specs.declared.fault.PairFault.TheVariants as fault
use Rattle.rad_pairs.specs.declared.items.Item.{Item}
use Rattle.rad_pairs.specs.PlainItems.{plain_items_of}
use Rattle.radclient.specs.declared.fault.LineFault.{LineFault}
use Rattle.radclient.specs.declared.fault.Reason.{Reason}
use Rattle.radclient.specs.declared.fault.Reason.TheVariants as reason

-- The pairs of a group with one more. 2^31 are kept at most: no packet is made of as many, whatever they are.
abbrev pub added : PairLists → Item → PairLists
added pairs item =
    if nat_lt (length pairs.request) 2147483648
    then with_list pairs Request (pairs.request ++ record { attr = item.attr; value = item.value } ∷ [])
    else pairs

-- The pairs of a group with those of items, in order.
unfoldable pub with_items : PairLists → List Item → PairLists
with_items pairs [] = pairs
with_items pairs (item ∷ items) = with_items (added pairs item) items

-- Why a line's pairs can't be read. A text is never short of memory.
abbrev pub reason_of : PairFault → Reason
reason_of (fault.UnknownAttr spot) = reason.UnknownAttr
reason_of (fault.BadOperator spot) = reason.BadOperator
reason_of (fault.BadValue spot) = reason.BadValue
reason_of fault.NoMemory = reason.BadValue

-- The same as the error of a reading.
abbrev pub error_of : PairFault → ReadError Reason
error_of (fault.UnknownAttr spot) = Wrong reason.UnknownAttr
error_of (fault.BadOperator spot) = Wrong reason.BadOperator
error_of (fault.BadValue spot) = Wrong reason.BadValue
error_of fault.NoMemory = NoMemory

-- The pairs of a group with what was read of a line.
abbrev pub with_read : PairLists → Result (List Item) PairFault → Result PairLists Reason
with_read pairs (Ok items) = Ok (with_items pairs items)
with_read pairs (Err wrong) = Err (reason_of wrong)

-- The pairs of a group with those of a line, where only `=` is taken.
abbrev pub with_line : PairLists → List ℕ → Result PairLists Reason
with_line pairs text = with_read pairs (plain_items_of text base_definitions)

-- A line has nothing but blanks.
abbrev pub is_empty : List ℕ → Bool
is_empty text = length (after_blanks text) == 0

-- How far a file was read: the groups that were closed, whether one is open, its pairs, and the number of the next line.
pub record Reading : Type 0 where
  pub groups : List PairLists
  pub is_open : Bool
  pub pairs : PairLists
  pub line : ℕ

-- Nothing was read yet.
abbrev pub unread : Reading
unread = record { groups = []; is_open = false; pairs = no_pairs; line = 1 }

-- The group that is open is closed.
abbrev pub closed : Reading → Reading
closed reading = if reading.is_open
    then record { groups = reading.groups ++ reading.pairs ∷ []; is_open = false; pairs = no_pairs; line = reading.line }
    else reading

-- The number of the line behind this one. It stands still at the end of its 32 bits.
abbrev pub next_line : ℕ → ℕ
next_line line = min (line + 1) (2 ^ 32 - 1)

-- What is wrong with a line, or what it gives.
abbrev pub at_line : ℕ → Result PairLists Reason → Result PairLists LineFault
at_line line (Ok pairs) = Ok pairs
at_line line (Err wrong) = Err (record { line = line; reason = wrong })

-- A line of pairs goes to the open group.
abbrev pub taken : Reading → List ℕ → Result Reading LineFault
taken reading text = do
  pairs ← at_line reading.line (with_line reading.pairs text)
  Ok (record { groups = reading.groups; is_open = true; pairs = pairs; line = next_line reading.line })

-- No group may be opened behind 4,096.
abbrev pub is_one_too_many : Reading → Bool
is_one_too_many reading = if reading.is_open then false else nat_le 4096 (length reading.groups)

-- An empty line closes the open group.
abbrev pub passed : Reading → Reading
passed reading = record (closed reading) { line = next_line reading.line }

-- One line more: an empty one closes the open group, and any other belongs to it, or opens one.
unfoldable pub line_read : Reading → List ℕ → Result Reading LineFault
line_read reading text =
    if is_empty text then Ok (passed reading)
    else (if is_one_too_many reading then Err (record { line = reading.line; reason = reason.TooMany })
    else taken reading text)

-- Lines, one after another, up to the first that is wrong.
unfoldable pub lines_read : Reading → List (List ℕ) → Result Reading LineFault
lines_read reading [] = Ok reading
lines_read reading (text ∷ more) = line_read reading text >>= λ next. lines_read next more

-- The groups of a file, or the first line that is wrong.
unfoldable pub groups_of : List ℕ → Result (List PairLists) LineFault
groups_of text = lines_read unread (lines_of text) >>= λ reading. Ok (closed reading).groups
