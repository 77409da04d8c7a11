-- Dictionary files that are read, with the files that they include. After the manual page dictionary(5) of FreeRADIUS; the
-- limits, and the order of faults, are this project's own.
use Rattle.std.specs.Prelude.{ℕ, zero, suc, ◌+◌, List, [], ◌∷◌, length, Option, Some, None, Result, Ok, Err, nat_lt, if◌then◌else◌}
use Rattle.std.specs.Str.{is_utf8}
use Rattle.rad_outside.specs.declared.files.Place.{Place}
use Rattle.rad_outside.specs.Files.{File, octets_at}
use Rattle.rad_dict.specs.declared.fault.DictFault.{DictFault}
use Rattle.rad_dict.specs.declared.fault.DictFault.TheVariants as fault
use Rattle.rad_dict.specs.declared.reading.Reading.{Reading}
use Rattle.rad_dict.specs.declared.step.Step.{Step}
use Rattle.rad_dict.specs.declared.step.Step.TheVariants as step
use Rattle.rad_dict.specs.Definitions.{Definitions}
use Rattle.rad_text.specs.Read.{◌>>=◌}
use Rattle.rad_text.specs.Lines.{lines_of}
use Rattle.rad_text.specs.Paths.{folder, last_part, joined, place_at}
use Rattle.rad_dict.specs.Steps.{step_of}
use Rattle.rad_dict.specs.FirstReading.{first_reading}

-- The octets of a file. One whose path isn't UTF-8 isn't there.
unfoldable pub found_at : List ℕ → List File → Option (List ℕ)
found_at path files = if is_utf8 path then octets_at path files else None

-- How an included file is read: by the place of its line, and its path.
abbrev pub Include : Type 0
Include = Place → List ℕ → Reading → Result Reading DictFault

-- What is known after a step, with the file that it includes.
abbrev pub went : Include → Step → Result Reading DictFault
went include (step.Goes reading) = Ok reading
went include (step.Includes place file reading) = include place file reading

-- At a file's end no vendor may be present.
unfoldable pub ended : List ℕ → Reading → Result Reading DictFault
ended file reading = elim reading.present [
  | None ↦ Ok reading
  | Some vendor ↦ Err (fault.BadLine (place_at file 0))
]

-- What is known after these lines of a file, the first of which has this number.
unfoldable pub lines_read : Include → List ℕ → ℕ → Reading → List (List ℕ) → Result Reading DictFault
lines_read include file line reading [] = ended file reading
lines_read include file line reading (text ∷ lines) = do
  one ← step_of file line reading text
  next ← went include one
  lines_read include file (line + 1) next lines

-- All files together have 4 MiB at most.
unfoldable pub counted : List ℕ → List ℕ → Reading → Result Reading DictFault
counted file text reading =
    if nat_lt 4194304 (reading.octets + length text) then Err (fault.TooLong (place_at file 0)) else Ok (record reading { octets = reading.octets + length text })

-- What is known after a file with this text.
unfoldable pub text_read : Include → List ℕ → List ℕ → Reading → Result Reading DictFault
text_read include file text reading = do
  more ← counted file text reading
  lines_read include file 1 more (lines_of text)

-- The text that was found, or that the file isn't there.
abbrev pub text_of : Place → Option (List ℕ) → Result (List ℕ) DictFault
text_of place None = Err (fault.Missing place)
text_of place (Some text) = Ok text

-- The text of an included file, so many levels above the deepest, by the place of its line and its path below a folder.
unfoldable pub source_at : ℕ → List File → List ℕ → Place → List ℕ → Result (List ℕ) DictFault
source_at zero files root place file = Err (fault.TooDeep place)
source_at (suc left) files root place file = text_of place (found_at (joined root file) files)

-- What is known after an included file, so many levels above the deepest.
unfoldable pub include_read : List File → List ℕ → ℕ → Include
include_read files root zero place file reading = Err (fault.TooDeep place)
include_read files root (suc left) place file reading = do
  text ← source_at (suc left) files root place file
  text_read (include_read files root left) file text reading

-- The dictionary of what is known.
abbrev pub dict_read : Result Reading DictFault → Result Definitions DictFault
dict_read (Ok reading) = Ok reading.dict
dict_read (Err e) = Err e

-- The dictionary of the file at a path, with includes sixteen deep, by its text.
abbrev pub dict_from : List ℕ → List File → Option (List ℕ) → Result Definitions DictFault
dict_from path files None = Err (fault.Missing (place_at (last_part path) 0))
dict_from path files (Some text) = dict_read (text_read (include_read files (folder path) 16) (last_part path) text first_reading)

-- The dictionary of the file at a path.
unfoldable pub dict_of : List ℕ → List File → Result Definitions DictFault
dict_of path files = dict_from path files (octets_at path files)
