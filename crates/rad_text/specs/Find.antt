-- Readings that find a value or nothing, and code that does what they say. This project's own.
use Rattle.std.specs.Prelude.{◌≡◌, Option, Some, None, Result, Ok, Err}
use Rattle.rad_text.specs.declared.read.ReadError.{ReadError}
use Rattle.rad_text.specs.declared.read.ReadError.TheVariants.{NoMemory, Wrong}

-- One reading after another, up to the first that finds nothing.
infixl 10 ◌>>=◌
-- One value and then the next: where nothing is found there is nothing behind it.
abbrev pub ◌>>=◌ : {A B : Type 0} → Option A → (A → Option B) → Option B
None >>= f = None
(Some x) >>= f = f x

-- An error says that nothing is found; want of memory says nothing of it.
abbrev pub FindsNone : {A F : Type 0} → ReadError F → Option A → Type 0
FindsNone NoMemory read = Unit {0}
FindsNone (Wrong fault) read = read ≡ None

-- What a function returned, seen by view, is what the reading finds, unless memory ran out.
abbrev pub Finds : {X A F : Type 0} → (X → A) → Result X (ReadError F) → Option A → Type 0
Finds view (Ok x) read = read ≡ Some (view x)
Finds view (Err error) read = FindsNone error read
