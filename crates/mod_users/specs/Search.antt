-- The places at which entries of a key may stand, found by keys of names. This project's own; names go by the hash of
-- Fowler, Noll and Vo, with a sum.
use Rattle.std.specs.Prelude.{ℕ, ◌+◌, ◌*◌, ◌^◌, ◌%◌, Bool, true, false, List, [], ◌∷◌, nat_lt, Option, Some, None, codes, if◌then◌else◌}
use Rattle.rad_words.specs.declared.codes.Code.TheVariants as code
use Rattle.rad_value.specs.PairLists.{PairLists}
use Rattle.rad_dict.specs.Definitions.{Definitions}
use Rattle.mod_users.specs.declared.entry.Entry.{Entry}
use Rattle.mod_users.specs.declared.row.Row.{Row}
use Rattle.mod_users.specs.declared.search.Next.{Next}
use Rattle.mod_users.specs.declared.search.Next.TheVariants as next
use Rattle.mod_users.specs.Fits.{fits}
use Rattle.mod_users.specs.Files.{entry_edits, falls_through, all_tried}

-- A key that goes on with a number.
unfoldable pub key_with : ℕ → ℕ → ℕ
key_with key number = (key * 1099511628211 + number) % 2 ^ 64

-- A key that goes on with octets.
unfoldable pub octets_key : ℕ → List ℕ → ℕ
octets_key key [] = key
octets_key key (octet ∷ octets) = octets_key (key_with key octet) octets

-- The key of a name.
abbrev pub name_key : List ℕ → ℕ
name_key name = octets_key 0 name

-- The key of an entry's name.
abbrev pub entry_key : Entry → ℕ
entry_key entry = name_key entry.name

-- The same of an entry with its patterns.
abbrev pub row_key : Row → ℕ
row_key row = entry_key row.entry

-- The key of the name DEFAULT.
abbrev pub default_key : ℕ
default_key = name_key (codes "DEFAULT")

-- The first of the places of two ascending lists, and what is left of them.
abbrev pub next_place : List ℕ → List ℕ → Option (ℕ × List ℕ × List ℕ)
next_place [] [] = None
next_place (x ∷ xs) [] = Some (x, xs, [])
next_place [] (y ∷ ys) = Some (y, [], ys)
next_place (x ∷ xs) (y ∷ ys) =
    if nat_lt x y then Some (x, xs, y ∷ ys) else (if nat_lt y x then Some (y, x ∷ xs, ys) else Some (x, xs, ys))

-- What comes behind an entry that matched: all its edits were done, or a list was full.
abbrev pub after_entry : Entry → PairLists × Bool → PairLists × Next
after_entry entry after = elim after.1 [
  | true ↦ (after.0, if falls_through entry then next.Through else next.Ends code.Ok)
  | false ↦ (after.0, next.Ends code.Fail)
]

-- The lists after an entry is tried, and what comes next.
unfoldable pub entry_tried : Entry → List ℕ → Definitions → PairLists → PairLists × Next
entry_tried entry key dict lists =
    if fits entry key lists.request dict then after_entry entry (all_tried lists (entry_edits entry)) else (lists, next.Passed)
