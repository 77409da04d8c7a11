-- The entries of a users file, line by line, up to its first fault. That a pattern is tried is said elsewhere. After
-- users(5).
use Rattle.std.specs.Prelude.{ℕ, ◌+◌, Bool, true, List, [], ◌∷◌, ◌++◌, length, Option, Some, None, if◌then◌else◌}
use Rattle.rad_dict.specs.Definitions.{Definitions}
use Rattle.mod_users.specs.declared.form.Form.{Form}
use Rattle.mod_users.specs.declared.form.Form.TheVariants.{Check}
use Rattle.mod_users.specs.declared.placed.Placed.{Placed}
use Rattle.mod_users.specs.declared.draft.Draft.{Draft}
use Rattle.mod_users.specs.declared.fault.LineFault.{LineFault}
use Rattle.mod_users.specs.declared.fault.LineFault.TheVariants as fault
use Rattle.mod_users.specs.Lines.{lines_of, is_passed, is_indented, head_of}
use Rattle.mod_users.specs.Items.{items_of}

-- The entries that were read, and the first fault, where there is one.
abbrev pub Read : Type 0
Read = List Draft × Option LineFault

-- An entry with these reply items behind its own.
abbrev pub with_replies : List Placed → Draft → Draft
with_replies items draft = record draft { replies = draft.replies ++ items }

-- The fault of a line that may not stand there, or whose name has an open quote.
abbrev pub bad_entry : ℕ → LineFault
bad_entry number = fault.BadEntry (record { line = number; column = 1 })

-- The items of an indented line go to the last entry, which has to be there.
abbrev pub replied : ℕ → List Placed × Option LineFault → List Draft → Read
replied number items [] = ([], Some (bad_entry number))
replied number items (draft ∷ []) = (with_replies items.0 draft ∷ [], items.1)
replied number items (draft ∷ other ∷ drafts) = (draft ∷ (replied number items (other ∷ drafts)).0, (replied number items (other ∷ drafts)).1)

-- An entry begins, whose name has to be there.
abbrev pub begun : ℕ → ℕ → List Draft → Definitions → Option (List ℕ × Bool × List ℕ) → Read
begun number width drafts dict None = (drafts, Some (bad_entry number))
begun number width drafts dict (Some head) =
    let items = items_of Check head.1 number width head.2 dict in
    (drafts ++ record { name = head.0; checks = items.0; replies = []; line = number } ∷ [], items.1)

-- The entries after a line of this number.
unfoldable pub after_line : Form → ℕ → List Draft → List ℕ → Definitions → Read
after_line form number drafts line dict =
    if is_passed line then (drafts, None)
    else (if is_indented line then replied number (items_of form true number (length line) line dict) drafts
    else begun number (length line) drafts dict (head_of line))

-- The entries of these lines behind those that stand above, the first line having this number.
unfoldable pub after_lines : Form → ℕ → List Draft → List (List ℕ) → Definitions → Read
after_lines form number drafts [] dict = (drafts, None)
after_lines form number drafts (line ∷ lines) dict = elim (after_line form number drafts line dict).1 [
  | Some wrong ↦ after_line form number drafts line dict
  | None ↦ after_lines form (number + 1) (after_line form number drafts line dict).0 lines dict
]

-- The entries of a whole text, whose reply items stand in this form. Lines count from 1.
unfoldable pub drafts_of : Form → List ℕ → Definitions → Read
drafts_of form text dict = after_lines form 1 [] (lines_of text) dict
