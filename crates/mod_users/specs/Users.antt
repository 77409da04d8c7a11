-- The users of a users file, or its first fault: a pattern that is refused, or else what is wrong first. After users(5).
use Rattle.std.specs.Prelude.{ℕ, Bool, true, false, List, map, Option, Some, None, Result, Ok, Err}
use Rattle.rad_text.specs.declared.spots.Spot.{Spot}
use Rattle.rad_dict.specs.Definitions.{Definitions}
use Rattle.mod_users.specs.declared.entry.Entry.{Entry}
use Rattle.mod_users.specs.declared.form.Form.{Form}
use Rattle.mod_users.specs.declared.fault.UsersFault.{UsersFault}
use Rattle.mod_users.specs.declared.fault.UsersFault.TheVariants as fault
use Rattle.mod_users.specs.declared.fault.LineFault.{LineFault}
use Rattle.mod_users.specs.declared.fault.LineFault.TheVariants as line
use Rattle.mod_users.specs.Reading.{Read, drafts_of}
use Rattle.mod_users.specs.Rows.{entry_of, all_placed, first_refused}

-- The fault of a users file that a line has.
abbrev pub fault_of : LineFault → UsersFault
fault_of (line.UnknownAttr spot) = fault.UnknownAttr spot
fault_of (line.BadOperator spot) = fault.BadOperator spot
fault_of (line.BadValue spot) = fault.BadValue spot
fault_of (line.BadEntry spot) = fault.BadEntry spot

-- The entries of a text that has no fault, or what is wrong.
abbrev pub without_patterns : Read → Result (List Entry) UsersFault
without_patterns read = elim read.1 [
  | None ↦ Ok (map entry_of read.0)
  | Some wrong ↦ Err (fault_of wrong)
]

-- The same, where the first pattern that is refused, if any, stands at this spot: before any other fault.
abbrev pub with_patterns : Read → Option Spot → Result (List Entry) UsersFault
with_patterns read None = without_patterns read
with_patterns read (Some spot) = Err (fault.BadPattern spot)

-- The entries of a text whose reply items stand in this form, or its first fault.
unfoldable pub users_of_text : Form → List ℕ → Definitions → Result (List Entry) UsersFault
users_of_text form text dict = with_patterns (drafts_of form text dict) (first_refused (all_placed (drafts_of form text dict).0))

-- A fault that says something of a text: want of memory says nothing.
abbrev pub says : UsersFault → Bool
says (fault.UnknownAttr spot) = true
says (fault.BadOperator spot) = true
says (fault.BadValue spot) = true
says (fault.BadPattern spot) = true
says (fault.BadEntry spot) = true
says fault.NoMemory = false
