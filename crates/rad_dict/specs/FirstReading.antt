-- What is known before any line of a dictionary file: the base, and no vendor. This project's own.
use Rattle.std.specs.Prelude.{ℕ, [], None}
use Rattle.rad_dict.specs.declared.reading.Reading.{Reading}
use Rattle.rad_dict.specs.Base.{base_definitions}

-- The same, with so many octets to be read.
abbrev pub reading_of : ℕ → Reading
reading_of octets = record { dict = base_definitions; vendors = []; present = None; octets = octets }

-- The same before any octet is read.
abbrev pub first_reading : Reading
first_reading = reading_of 0
