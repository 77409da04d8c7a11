-- What one line of a dictionary file does: it makes something known, or includes a file. After the manual page dictionary(5) of
-- FreeRADIUS.
use Rattle.std.specs.Prelude.{ℕ, List, Option, Some, None, Result, Ok, Err}
use Rattle.rad_outside.specs.declared.files.Place.{Place}
use Rattle.rad_text.specs.Paths.{beside, place_at}
use Rattle.rad_dict.specs.declared.fault.DictFault.{DictFault}
use Rattle.rad_dict.specs.declared.fault.DictFault.TheVariants as fault
use Rattle.rad_dict.specs.declared.fault.Wrong.{Wrong}
use Rattle.rad_dict.specs.declared.fault.Wrong.TheVariants as wrong
use Rattle.rad_dict.specs.declared.reading.Reading.{Reading}
use Rattle.rad_dict.specs.declared.step.Step.{Step}
use Rattle.rad_dict.specs.declared.step.Step.TheVariants as step
use Rattle.rad_dict.specs.Lines.{Line, states, includes, line_at}
use Rattle.rad_dict.specs.Readings.{after}

-- The fault of what is wrong at a place.
abbrev pub fault_of : Place → Wrong → DictFault
fault_of place wrong.BadLine = fault.BadLine place
fault_of place wrong.UnknownVendor = fault.UnknownVendor place
fault_of place wrong.Taken = fault.Taken place

-- The step of what is known after a statement, or its fault.
abbrev pub stepped : Place → Result Reading Wrong → Result Step DictFault
stepped place (Ok reading) = Ok (step.Goes reading)
stepped place (Err wrong) = Err (fault_of place wrong)

-- What a line of a file does: it makes something known, or includes a file.
abbrev pub step_by : List ℕ → ℕ → Reading → Option Line → Result Step DictFault
step_by file line reading None = Err (fault.BadLine (place_at file line))
step_by file line reading (Some (states statement)) = stepped (place_at file line) (after statement reading)
step_by file line reading (Some (includes path)) = Ok (step.Includes (place_at file line) (beside file path) reading)

-- The same of a line as it is written.
unfoldable pub step_of : List ℕ → ℕ → Reading → List ℕ → Result Step DictFault
step_of file line reading text = step_by file line reading (line_at text)
