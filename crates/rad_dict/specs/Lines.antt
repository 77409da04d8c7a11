-- The lines of a dictionary file, by their words: what a line states, or the file that it includes. Keywords and kinds are
-- read without regard to ASCII case. After the manual page dictionary(5) of FreeRADIUS.
use Rattle.std.specs.Prelude.{ℕ, Bool, ◌&&◌, List, Option, Some, None, IsTrue, codes, if◌then◌else◌}
use Rattle.std.specs.Str.{str_eq_ignore_ascii_case}
use Prim.Native.String.{String}
use Rattle.rad_words.specs.declared.attributes.Kind.{Kind}
use Rattle.rad_words.specs.declared.attributes.Kind.TheVariants.{Text, Octets, Addr, Number, Date, Byte, Short}
use Rattle.rad_dict.specs.declared.line.Line as read
use Rattle.rad_dict.specs.declared.line.Line.TheVariants as line
use Rattle.rad_dict.specs.declared.line.Statement as said
use Rattle.rad_dict.specs.declared.line.Statement.TheVariants as statement
use Rattle.rad_dict.specs.LineWords.{word_at, is_ended, last_at}
use Rattle.rad_text.specs.Find.{◌>>=◌}
use Rattle.rad_text.specs.Numerals.{numeral_of}
use Rattle.rad_dict.specs.NameForms.{is_attr_name, is_value_name}

-- What a line states: nothing; an attribute by name, number and kind; a value by its attribute's name, its own name and its
-- number; a vendor by name and number; the vendor by name whose attributes begin or end.
pub data Statement : Type 0 where
  nothing : Statement
  attribute : List ℕ → ℕ → Kind → Statement
  value : List ℕ → List ℕ → ℕ → Statement
  vendor : List ℕ → ℕ → Statement
  begins : List ℕ → Statement
  ends : List ℕ → Statement

-- A line states something, or includes the file of a path.
pub data Line : Type 0 where
  states : Statement → Line
  includes : List ℕ → Line

-- The name that a statement gives to an attribute or a value is of its form.
abbrev pub IsWellNamed : Statement → Type 0
IsWellNamed nothing = Unit {0}
IsWellNamed (attribute name number kind) = IsTrue (is_attr_name name)
IsWellNamed (value attr name number) = IsTrue (is_value_name name)
IsWellNamed (vendor name number) = Unit {0}
IsWellNamed (begins name) = Unit {0}
IsWellNamed (ends name) = Unit {0}

-- The same of a line, where it states something.
abbrev pub IsWellNamedLine : Line → Type 0
IsWellNamedLine (states one) = IsWellNamed one
IsWellNamedLine (includes path) = Unit {0}

-- A statement as it was read.
abbrev pub statement_of : said.Statement → Statement
statement_of statement.Nothing = nothing
statement_of (statement.Attribute name number kind) = attribute name.now number kind
statement_of (statement.Value attr name number) = value attr.now name.now number
statement_of (statement.Vendor name number) = vendor name.now number
statement_of (statement.Begin name) = begins name.now
statement_of (statement.End name) = ends name.now

-- A line as it was read.
abbrev pub line_of : read.Line → Line
line_of (line.States one) = states (statement_of one)
line_of (line.Include path) = includes path.now

-- A word is this one, case aside.
abbrev pub is_word : List ℕ → String → Bool
is_word word text = str_eq_ignore_ascii_case word (codes text)

-- The kind that a word names; any other word names octets.
unfoldable pub kind_of : List ℕ → Kind
kind_of word =
    if is_word word "string" then Text
    else (if is_word word "ipaddr" then Addr
    else (if is_word word "integer" then Number
    else (if is_word word "date" then Date
    else (if is_word word "byte" then Byte
    else (if is_word word "short" then Short else Octets)))))

-- An attribute with a flag is octets.
abbrev pub kind_with : Bool → Kind → Kind
kind_with flagged kind = if flagged then Octets else kind

-- `ATTRIBUTE name number kind [flags]`, from behind its keyword on, as are the others.
unfoldable pub attribute_at : List ℕ → Option Statement
attribute_at text = do
  name ← word_at text
  number ← word_at name.1
  of_name ← numeral_of number.0
  kind ← word_at number.1
  flagged ← last_at kind.1
  if is_attr_name name.0 then Some (attribute name.0 of_name (kind_with flagged (kind_of kind.0))) else None

-- `VALUE attribute name number`
unfoldable pub value_at : List ℕ → Option Statement
value_at text = do
  attr ← word_at text
  name ← word_at attr.1
  number ← word_at name.1
  of_name ← numeral_of number.0
  if is_value_name name.0 && is_ended number.1 then Some (value attr.0 name.0 of_name) else None

-- `VENDOR name number [format]`, whose format is passed over.
unfoldable pub vendor_at : List ℕ → Option Statement
vendor_at text = do
  name ← word_at text
  number ← word_at name.1
  of_name ← numeral_of number.0
  format ← last_at number.1
  Some (vendor name.0 of_name)

-- One word, and nothing behind it.
unfoldable pub only_word : List ℕ → Option (List ℕ)
only_word text = do
  word ← word_at text
  if is_ended word.1 then Some word.0 else None

-- A line that states something, where it states anything.
abbrev pub stating : Option Statement → Option Line
stating None = None
stating (Some one) = Some (states one)

-- The line of a keyword, from behind it on; none where it is bad.
unfoldable pub keyword_line : List ℕ → List ℕ → Option Line
keyword_line keyword text =
    if is_word keyword "ATTRIBUTE" then stating (attribute_at text)
    else (if is_word keyword "VALUE" then stating (value_at text)
    else (if is_word keyword "VENDOR" then stating (vendor_at text)
    else (if is_word keyword "BEGIN-VENDOR" then only_word text >>= (λ (name : List ℕ). Some (states (begins name)))
    else (if is_word keyword "END-VENDOR" then only_word text >>= (λ (name : List ℕ). Some (states (ends name)))
    else (if is_word keyword "$INCLUDE" then only_word text >>= (λ (path : List ℕ). Some (includes path)) else None)))))

-- A line of a file; none where it is bad.
unfoldable pub line_at : List ℕ → Option Line
line_at text = elim (word_at text) [
  | None ↦ Some (states nothing)
  | Some first ↦ keyword_line first.0 first.1
]
