-- A table of names and numbers: what is looked up in it, and when no two of its rows are taken for one another. Names are
-- compared without regard to ASCII case, after dictionary(5) of FreeRADIUS.
use Rattle.std.specs.Prelude.{◌≡◌, ℕ, Bool, true, not, ◌&&◌, ◌==◌, List, [], ◌∷◌, Option, Some, option_map, find, IfSome, IsTrue}
use Rattle.std.specs.List.{list_any}
use Rattle.std.specs.Str.{str_eq_ignore_ascii_case}
use Rattle.std.specs.Borrow.{Bor}

-- A name and its number.
pub record Row : Type 0 where
  pub name : List ℕ
  pub number : ℕ

-- A row of a table as it is seen.
abbrev pub row_of : Bor (List ℕ) × ℕ → Row
row_of row = record { name = row.0.now; number = row.1 }

-- Whether a row has this name, without regard to ASCII case.
abbrev pub is_named : List ℕ → Row → Bool
is_named name row = str_eq_ignore_ascii_case row.name name

-- Whether a row has this number.
abbrev pub is_numbered : ℕ → Row → Bool
is_numbered number row = row.number == number

-- The number of a name, by the first row that has it.
abbrev pub number_in : List Row → List ℕ → Option ℕ
number_in rows name = option_map (λ (row : Row). row.number) (find (is_named name) rows)

-- The name of a number, by the first row that has it.
abbrev pub name_in : List Row → ℕ → Option (List ℕ)
name_in rows number = option_map (λ (row : Row). row.name) (find (is_numbered number) rows)

-- No two rows have one name, without regard to ASCII case.
abbrev pub names_differ : List Row → Bool
names_differ [] = true
names_differ (row ∷ rows) = not (list_any (λ (other : Row). is_named other.name row) rows) && names_differ rows

-- No two rows have one number.
abbrev pub numbers_differ : List Row → Bool
numbers_differ [] = true
numbers_differ (row ∷ rows) = not (list_any (is_numbered row.number) rows) && numbers_differ rows

-- No two rows have one name or one number.
abbrev pub differ : List Row → Bool
differ rows = names_differ rows && numbers_differ rows

-- The name of this number is this name, case aside.
abbrev pub IsNamedIn : List Row → ℕ → List ℕ → Type 0
IsNamedIn rows number name = IfSome (name_in rows number) (λ (found : List ℕ). IsTrue (str_eq_ignore_ascii_case found name))

-- The two look-ups are inverse: where a name has a number, that number's name is the name, case aside, and where a number has
-- a name, that name's number is the number.
pub record AreInverse (rows : List Row) : Type 0 where
  pub of_name : (name : List ℕ) → IfSome (number_in rows name) (λ (number : ℕ). IsNamedIn rows number name)
  pub of_number : (number : ℕ) → IfSome (name_in rows number) (λ (name : List ℕ). number_in rows name ≡ Some number)
