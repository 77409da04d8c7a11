-- What a reading answers, beside what is said of its text. This project's own.
use Rattle.std.specs.Prelude.{◌≡◌, Result, Ok, Err}
use Rattle.rad_conf.specs.declared.fault.ConfFault.{ConfFault}
use Rattle.rad_conf.specs.declared.fault.ConfFault.TheVariants as fault

-- The fault of the files is the one that is said. A read fault and want of memory say nothing of them.
abbrev pub IsFault : {Y : Type 0} → Result Y ConfFault → ConfFault → Type 0
IsFault said (fault.Unclosed place) = said ≡ Err (fault.Unclosed place)
IsFault said (fault.Stray place) = said ≡ Err (fault.Stray place)
IsFault said (fault.BadQuote place) = said ≡ Err (fault.BadQuote place)
IsFault said (fault.NoVariable place) = said ≡ Err (fault.NoVariable place)
IsFault said (fault.TooDeep place) = said ≡ Err (fault.TooDeep place)
IsFault said (fault.Missing place) = said ≡ Err (fault.Missing place)
IsFault said (fault.TooLong place) = said ≡ Err (fault.TooLong place)
IsFault said fault.ReadFault = Unit {0}
IsFault said fault.NoMemory = Unit {0}

-- The answer is the value or the fault that is said of the files.
abbrev pub IsAnswer : {Y : Type 0} → Result Y ConfFault → Result Y ConfFault → Type 0
IsAnswer said (Ok tree) = said ≡ Ok tree
IsAnswer said (Err wrong) = IsFault said wrong

-- A fault of a text is the one that is said, or want of memory for its place.
abbrev pub IsTextFault : ConfFault → ConfFault → Type 0
IsTextFault said (fault.Unclosed place) = said ≡ fault.Unclosed place
IsTextFault said (fault.Stray place) = said ≡ fault.Stray place
IsTextFault said (fault.BadQuote place) = said ≡ fault.BadQuote place
IsTextFault said (fault.NoVariable place) = said ≡ fault.NoVariable place
IsTextFault said (fault.TooDeep place) = said ≡ fault.TooDeep place
IsTextFault said (fault.Missing place) = said ≡ fault.Missing place
IsTextFault said (fault.TooLong place) = said ≡ fault.TooLong place
IsTextFault said fault.ReadFault = ⊥
IsTextFault said fault.NoMemory = Unit {0}

-- The fault of a step is the one that is said. A step reads no file, so that it has no read fault.
abbrev pub Stops : {Y : Type 0} → Result Y ConfFault → ConfFault → Type 0
Stops (Ok next) wrong = wrong ≡ fault.NoMemory
Stops (Err said) wrong = IsTextFault said wrong

-- A step makes the value that is said, or answers the fault that is said.
abbrev pub Steps : {Y : Type 0} → Result Y ConfFault → Y → Result (Unit {0}) ConfFault → Type 0
Steps said now (Ok done) = said ≡ Ok now
Steps said now (Err wrong) = Stops said wrong

-- A reading of files makes the value that is said, or answers the fault that is said.
abbrev pub Reads : {Y : Type 0} → Result Y ConfFault → Y → Result (Unit {0}) ConfFault → Type 0
Reads said now (Ok done) = said ≡ Ok now
Reads said now (Err wrong) = IsFault said wrong

-- What a text's reading answered, seen by view, is the value or the fault that is said, or want of memory.
abbrev pub IsTextAnswer : {X Y : Type 0} → (X → Y) → Result Y ConfFault → Result X ConfFault → Type 0
IsTextAnswer view said (Ok x) = said ≡ Ok (view x)
IsTextAnswer view said (Err wrong) = Stops said wrong
