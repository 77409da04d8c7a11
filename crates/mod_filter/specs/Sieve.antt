-- A list of which the pairs stay that pass a test. This project's own, after FreeRADIUS' rlm_attr_filter(5).
use Rattle.std.specs.Prelude.{ℕ, Bool, List, filter, slice_get, Option, Some, None}
use Rattle.rad_value.specs.declared.values.Pair.{Pair}
use Rattle.rad_value.specs.declared.edits.Edit.{Edit}
use Rattle.rad_value.specs.declared.edits.EditOp.TheVariants.{Remove}
use Rattle.rad_value.specs.declared.edits.ListName.{ListName}
use Rattle.rad_value.specs.Edit.{lists_edited}
use Rattle.rad_value.specs.PairLists.{PairLists, list_of, with_list}

-- The three lists, of one of which the pairs that pass a test stay, in order.
abbrev pub sifted : (Pair → Bool) → ListName → PairLists → PairLists
sifted keeps list lists = with_list lists list (filter keeps (list_of lists list))

-- The edit that takes a pair out of a list, and all that are equal to it.
abbrev pub without : ListName → Pair → Edit
without list pair = record { list = list; attr = pair.attr; op = Remove; value = pair.value }

-- The lists without a pair of one of them, and all that are equal to it, where there is a pair.
abbrev pub without_pair : ListName → PairLists → Option Pair → PairLists
without_pair list lists None = lists
without_pair list lists (Some pair) = lists_edited lists (without list pair)

-- The lists without the pair of a place in one of them, and all that are equal to it.
abbrev pub without_at : ListName → ℕ → PairLists → PairLists
without_at list n lists = without_pair list lists (slice_get (list_of lists list) n)
