-- The pairs of a text that takes `=` alone, after radclient(1): another operator is wrong, whatever stands behind it.
use Rattle.std.specs.Prelude.{ℕ, Bool, true, false, List, length, take, drop, Option, Some, None, Result, Ok, Err, if◌then◌else◌}
use Rattle.rad_dict.specs.Definitions.{Definitions}
use Rattle.rad_text.specs.Find.{◌>>=◌}
use Rattle.rad_text.specs.Blanks.{after_blanks}
use Rattle.rad_text.specs.Parts.{parts_of}
use Rattle.rad_pairs.specs.declared.items.Item.{Item}
use Rattle.rad_pairs.specs.declared.items.PairOp.{PairOp}
use Rattle.rad_pairs.specs.declared.items.PairOp.TheVariants as op
use Rattle.rad_pairs.specs.declared.operators.Taking.{Taking}
use Rattle.rad_pairs.specs.declared.operators.Taking.TheVariants.{Every, Plain}
use Rattle.rad_pairs.specs.declared.fault.PairFault.{PairFault}
use Rattle.rad_pairs.specs.declared.fault.Wrong.{Wrong}
use Rattle.rad_pairs.specs.declared.fault.Wrong.TheVariants.{BadOperator, BadValue}
use Rattle.rad_pairs.specs.AttrNames.{named}
use Rattle.rad_pairs.specs.Words.{name_len}
use Rattle.rad_pairs.specs.PairParts.{operator_of}
use Rattle.rad_pairs.specs.Items.{part_at, listed, placed}

-- The operator is `=`.
abbrev pub is_plain : PairOp → Bool
is_plain op.Eq = true
is_plain op.Set = false
is_plain op.Append = false
is_plain op.Equal = false
is_plain op.Differs = false
is_plain op.Lt = false
is_plain op.Le = false
is_plain op.Gt = false
is_plain op.Ge = false
is_plain op.Match = false
is_plain op.NoMatch = false
is_plain op.Any = false
is_plain op.None = false

-- What is wrong with the pair at the front: behind the name of an attribute stands another operator, at the name's end.
unfoldable pub other_operator : List ℕ → Definitions → Option Wrong
other_operator text dict = do
  attr ← named (take (name_len text) text) dict
  operator ← operator_of (after_blanks (drop (name_len text) text))
  if is_plain operator.0 then None else Some (BadOperator (length (drop (name_len text) text)))

-- A part of the text: one whose pair has another operator is wrong for that, before its value is looked at.
unfoldable pub plain_part_at : List ℕ → Definitions → Result (Option Item × List ℕ) Wrong
plain_part_at text dict = elim (other_operator (after_blanks text) dict) [ Some wrong ↦ Err wrong | None ↦ part_at text dict ]

-- A part of a text that takes every operator, or `=` alone.
abbrev pub part_taking : Taking → Definitions → List ℕ → Result (Option Item × List ℕ) Wrong
part_taking Every dict text = part_at text dict
part_taking Plain dict text = plain_part_at text dict

-- The pairs of a whole text that takes these operators, or its first fault.
abbrev pub items_taking : Taking → List ℕ → Definitions → Result (List Item) PairFault
items_taking taking text dict = placed text (listed (parts_of (part_taking taking dict) (BadValue 0) text))

-- The pairs of a whole text that takes `=` alone, or its first fault.
unfoldable pub plain_items_of : List ℕ → Definitions → Result (List Item) PairFault
plain_items_of text dict = items_taking Plain text dict
