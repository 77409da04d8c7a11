-- Entries with their patterns compiled, and the first pattern of a users file that is refused. This project's own.
use Rattle.std.specs.Prelude.{◌≡◌, ℕ, slice_get, unwrap_or, List, [], ◌∷◌, ◌++◌, map, Option, Some, None, if◌then◌else◌}
use Rattle.std.specs.List.{AllByRecursion}
use Rattle.regex.specs.declared.bytes.regex.Regex.{Regex}
use Rattle.rad_text.specs.declared.spots.Spot.{Spot}
use Rattle.rad_text.specs.declared.read.ReadError.{ReadError}
use Rattle.rad_text.specs.declared.read.ReadError.TheVariants as errors
use Rattle.rad_pairs.specs.declared.items.Item.{Item}
use Rattle.mod_users.specs.declared.placed.Placed.{Placed}
use Rattle.mod_users.specs.declared.draft.Draft.{Draft}
use Rattle.mod_users.specs.declared.entry.Entry.{Entry}
use Rattle.mod_users.specs.declared.row.Row.{Row}
use Rattle.mod_users.specs.Patterns.{pattern_of, is_refused, IsReady}

-- The compiled pattern of this place, where there is one.
abbrev pub regex_at : List (Option Regex) → ℕ → Option Regex
regex_at regexes n = unwrap_or (slice_get regexes n) None

-- Items without their spots.
abbrev pub items_in : List Placed → List Item
items_in placed = map (λ (one : Placed). one.item) placed

-- The entry that was read.
abbrev pub entry_of : Draft → Entry
entry_of draft = record { name = draft.name; checks = items_in draft.checks; replies = items_in draft.replies; line = draft.line }

-- The entries of rows.
abbrev pub entries_in : List Row → List Entry
entries_in rows = map (λ (row : Row). row.entry) rows

-- For each item there is its pattern, compiled, where it has one.
abbrev pub AreReady : List Item → List (Option Regex) → Type 0
AreReady [] [] = Unit {0}
AreReady [] (regex ∷ regexes) = ⊥
AreReady (item ∷ items) [] = ⊥
AreReady (item ∷ items) (regex ∷ regexes) = IsReady (pattern_of item) regex × AreReady items regexes

-- The items that were placed, with their patterns.
pub record IsReadyOf (placed : List Placed) (items : List Item) (regexes : List (Option Regex)) : Type 0 where
  pub same : items ≡ items_in placed
  pub ready : AreReady items regexes

-- The entry that was read, with its patterns.
pub record IsRowOf (draft : Draft) (row : Row) : Type 0 where
  pub entry : row.entry ≡ entry_of draft
  pub checks : AreReady row.entry.checks row.checks.items
  pub replies : AreReady row.entry.replies row.replies.items

-- The entries that were read, in order, with their patterns.
abbrev pub AreRows : List Draft → List Row → Type 0
AreRows [] [] = Unit {0}
AreRows [] (row ∷ rows) = ⊥
AreRows (draft ∷ drafts) [] = ⊥
AreRows (draft ∷ drafts) (row ∷ rows) = IsRowOf draft row × AreRows drafts rows

-- The items of an entry, and of all entries, in reading order.
abbrev pub placed_in : Draft → List Placed
placed_in draft = draft.checks ++ draft.replies

-- The items of all entries, in reading order.
abbrev pub all_placed : List Draft → List Placed
all_placed [] = []
all_placed (draft ∷ drafts) = placed_in draft ++ all_placed drafts

-- The spot of the first of these items whose pattern is refused.
abbrev pub first_refused : List Placed → Option Spot
first_refused [] = None
first_refused (placed ∷ others) = if is_refused (pattern_of placed.item) then Some placed.spot else first_refused others

-- An error says which of these items' patterns is refused first; want of memory says nothing.
abbrev pub RefusedIn : ReadError Spot → List Placed → Type 0
RefusedIn errors.NoMemory placed = Unit {0}
RefusedIn (errors.Wrong spot) placed = first_refused placed ≡ Some spot

-- The patterns of an entry's items are compiled.
pub record IsReadyRow (row : Row) : Type 0 where
  pub checks : AreReady row.entry.checks row.checks.items
  pub replies : AreReady row.entry.replies row.replies.items

-- So are those of all entries.
abbrev pub AreReadyRows : List Row → Type 0
AreReadyRows rows = AllByRecursion IsReadyRow rows
