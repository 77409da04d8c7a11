-- Statements that are written as the lines of a dictionary file, and what they make known, one after another. After the
-- manual page dictionary(5) of FreeRADIUS.
use Rattle.std.specs.Prelude.{ℕ, ◌+◌, ◌^◌, ◌<◌, Bool, List, [], ◌∷◌, ◌++◌, Result, Ok, Err, IsTrue, codes, if◌then◌else◌}
use Rattle.std.specs.List.{flat_map, AllByRecursion}
use Rattle.std.specs.Fmt.{decimal}
use Rattle.rad_words.specs.declared.attributes.Kind.{Kind}
use Rattle.rad_words.specs.declared.attributes.Kind.TheVariants.{Text, Octets, Addr, Number, Date, Byte, Short}
use Rattle.rad_text.specs.Paths.{place_at}
use Rattle.rad_dict.specs.declared.fault.DictFault.{DictFault}
use Rattle.rad_dict.specs.declared.reading.Reading.{Reading}
use Rattle.rad_dict.specs.NameForms.{is_name, is_attr_name, is_value_name}
use Rattle.rad_dict.specs.Lines.{Statement, nothing, attribute, value, vendor, begins, ends}
use Rattle.rad_dict.specs.Readings.{after}
use Rattle.rad_dict.specs.Steps.{fault_of}
use Rattle.rad_dict.specs.Includes.{ended}

-- The word of a kind.
abbrev pub kind_text : Kind → List ℕ
kind_text Text = codes "string"
kind_text Octets = codes "octets"
kind_text Addr = codes "ipaddr"
kind_text Number = codes "integer"
kind_text Date = codes "date"
kind_text Byte = codes "byte"
kind_text Short = codes "short"

-- The line of a statement: its keyword and its words, each behind a blank.
abbrev pub line_text : Statement → List ℕ
line_text nothing = []
line_text (attribute name number kind) = codes "ATTRIBUTE" ++ 32 ∷ (name ++ 32 ∷ (decimal number ++ 32 ∷ kind_text kind))
line_text (value attr name number) = codes "VALUE" ++ 32 ∷ (attr ++ 32 ∷ (name ++ 32 ∷ decimal number))
line_text (vendor name number) = codes "VENDOR" ++ 32 ∷ (name ++ 32 ∷ decimal number)
line_text (begins name) = codes "BEGIN-VENDOR" ++ 32 ∷ name
line_text (ends name) = codes "END-VENDOR" ++ 32 ∷ name

-- A line's end: a newline, with a carriage return before it or without one.
abbrev pub line_end : Bool → List ℕ
line_end returns = if returns then 13 ∷ 10 ∷ [] else 10 ∷ []

-- The text of statements, each on a line of its own.
abbrev pub lines_text : Bool → List Statement → List ℕ
lines_text returns statements = flat_map (λ (one : Statement). line_text one ++ line_end returns) statements

-- A statement that can be written: its names are of their form, and its number has 32 bits.
abbrev pub IsWritable : Statement → Type 0
IsWritable nothing = Unit {0}
IsWritable (attribute name number kind) = IsTrue (is_attr_name name) × (number < 2 ^ 32)
IsWritable (value attr name number) = IsTrue (is_name attr) × IsTrue (is_value_name name) × (number < 2 ^ 32)
IsWritable (vendor name number) = IsTrue (is_name name) × (number < 2 ^ 32)
IsWritable (begins name) = IsTrue (is_name name)
IsWritable (ends name) = IsTrue (is_name name)

-- All of the statements can be written.
abbrev pub AreWritable : List Statement → Type 0
AreWritable statements = AllByRecursion IsWritable statements

-- What is known after a file's statements, the first of which stands on this line, and after the file's end; or the first
-- that can't stand, by its line.
abbrev pub statements_read : List ℕ → ℕ → Reading → List Statement → Result Reading DictFault
statements_read file line reading [] = ended file reading
statements_read file line reading (one ∷ more) = elim (after one reading) [
  | Ok next ↦ statements_read file (line + 1) next more
  | Err wrong ↦ Err (fault_of (place_at file line) wrong)
]
