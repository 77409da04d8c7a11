-- The groups of a file as whoever writes it speaks of them: radclient(1) of FreeRADIUS. Nothing here follows the reader's steps.
use Rattle.std.specs.Prelude.{ℕ, ◌≡◌, ◌+◌, ◌-◌, ◌^◌, ◌≤◌, ◌⊎◌, true, false, min, List, [], ◌∷◌, ◌++◌, length, map, take, Result, Ok, Err}
use Rattle.std.specs.List.{AllByRecursion, flat_map, slice_split}
use Rattle.rad_dict.specs.Base.{base_definitions}
use Rattle.rad_value.specs.declared.values.Pair.{Pair}
use Rattle.rad_pairs.specs.declared.fault.PairFault.{PairFault}
use Rattle.rad_pairs.specs.declared.items.Item.{Item}
use Rattle.rad_pairs.specs.PlainItems.{plain_items_of}
use Rattle.radclient.specs.declared.fault.LineFault.{LineFault}
use Rattle.radclient.specs.declared.fault.Reason.{Reason}
use Rattle.radclient.specs.declared.fault.Reason.TheVariants as reason
use Rattle.radclient.specs.Groups.{is_empty, reason_of}

-- The pair of an item.
abbrev pub pair_of : Item → Pair
pair_of item = record { attr = item.attr; value = item.value }

-- The pairs that were read, where they could be.
abbrev pub pairs_read : Result (List Item) PairFault → List Pair
pairs_read (Ok items) = map pair_of items
pairs_read (Err wrong) = []

-- The pairs of a line, where it can be read.
abbrev pub pairs_of_line : List ℕ → List Pair
pairs_of_line line = pairs_read (plain_items_of line base_definitions)

-- The pairs of lines, one line after another. 2^31 are kept at most: no packet is made of as many, whatever they are.
abbrev pub pairs_of_lines : List (List ℕ) → List Pair
pairs_of_lines lines = take 2147483648 (flat_map pairs_of_line lines)

-- The parts that have a line.
unfoldable pub filled : List (List (List ℕ)) → List (List (List ℕ))
filled [] = []
filled ([] ∷ parts) = filled parts
filled ((line ∷ lines) ∷ parts) = (line ∷ lines) ∷ filled parts

-- Lines, parted at those that have nothing but blanks, where the parts without a line are left out.
abbrev pub parted : List (List ℕ) → List (List (List ℕ))
parted lines = filled (slice_split is_empty lines)

-- A line is right: it has nothing but blanks, or it is read as pairs of which each has the operator `=`.
abbrev pub IsRight : List ℕ → Type 0
IsRight line = (is_empty line ≡ true) ⊎ ((items : List Item) × (plain_items_of line base_definitions ≡ Ok items))

-- The last of these lines has nothing but blanks.
pub record EndsEmpty (lines : List (List ℕ)) : Type 0 where
  pub before : List (List ℕ)
  pub last : List ℕ
  pub split : lines ≡ before ++ last ∷ []
  pub empty : is_empty last ≡ true

-- A line behind these begins a group: there is none before it, or the last one has nothing but blanks.
abbrev pub EndsGroup : List (List ℕ) → Type 0
EndsGroup front = (front ≡ []) ⊎ EndsEmpty front

-- A line can't be read, for this reason.
abbrev pub IsMisread : Reason → List ℕ → Type 0
IsMisread why line = (wrong : PairFault) × (plain_items_of line base_definitions ≡ Err wrong) × (reason_of wrong ≡ why)

-- What is wrong with a line behind others: it begins the 4,097th group, or it can't be read.
abbrev pub IsWrong : Reason → List (List ℕ) → List ℕ → Type 0
IsWrong reason.TooMany front line = EndsGroup front × (4096 ≤ length (parted front))
IsWrong reason.UnknownAttr front line = IsMisread reason.UnknownAttr line
IsWrong reason.BadOperator front line = IsMisread reason.BadOperator line
IsWrong reason.BadValue front line = IsMisread reason.BadValue line

-- The fault is that of a line which is wrong, by its number from 1 on, and each line before it is right. The number stands still
-- at the end of its 32 bits.
pub record IsFirstWrong (lines : List (List ℕ)) (fault : LineFault) : Type 0 where
  pub front : List (List ℕ)
  pub line : List ℕ
  pub back : List (List ℕ)
  pub split : lines ≡ front ++ line ∷ back
  pub number : fault.line ≡ min (length front + 1) (2 ^ 32 - 1)
  pub right : AllByRecursion IsRight front
  pub filled : is_empty line ≡ false
  pub wrong : IsWrong fault.reason front line
