-- Readings that give a value or the first fault, whatever the faults are, and code that does what they say. This
-- project's own.
use Rattle.std.specs.Prelude.{◌≡◌, ℕ, List, Option, Some, None, Result, Ok, Err}
use Rattle.rad_text.specs.declared.read.ReadError.{ReadError}
use Rattle.rad_text.specs.declared.read.ReadError.TheVariants.{NoMemory, Wrong}

-- What reading the front of a text gives: a value and the rest of the text, or what is wrong.
abbrev pub Read : Type 0 → Type 0 → Type 0
Read A F = Result (A × List ℕ) F

-- One reading after another, up to the first that is wrong.
infixl 10 ◌>>=◌
-- One reading and then the next: the first fault ends it.
abbrev pub ◌>>=◌ : {A B F : Type 0} → Result A F → (A → Result B F) → Result B F
(Ok x) >>= f = f x
(Err fault) >>= f = Err fault

-- What was found, or what is wrong where nothing was.
abbrev pub found : {A F : Type 0} → F → Option A → Result A F
found fault None = Err fault
found fault (Some x) = Ok x

-- An error says what is wrong, and that this is what the reading gives; want of memory says nothing of it.
abbrev pub Fails : {A F : Type 0} → ReadError F → Result A F → Type 0
Fails NoMemory read = Unit {0}
Fails (Wrong fault) read = read ≡ Err fault

-- What a function returned, seen by view, is what the reading gives, unless memory ran out.
abbrev pub Gives : {X A F : Type 0} → (X → A) → Result X (ReadError F) → Result A F → Type 0
Gives view (Ok x) read = read ≡ Ok (view x)
Gives view (Err error) read = Fails error read
