-- What an edit makes of a list of pairs, one equation for each operator of unlang(5), 'update': `=`, `:=`, `+=`, `-=`, `!*`
-- and `==`. That `:=` keeps the place of the first pair, that a value of another kind differs, and that a list takes no
-- pair by an edit once it has 512, are this project's own.
use Rattle.std.specs.Prelude.{◌≡◌, ◌≤◌, ℕ, Bool, true, false, not, ◌&&◌, nat_le, IsTrue, if◌then◌else◌, List, [], ◌∷◌, ◌++◌, length, filter, Option, Some, None}
use Rattle.std.specs.List.{list_any, before_first, after_first}
use Rattle.rad_words.specs.declared.attributes.AttrId.{AttrId}
use Rattle.rad_value.specs.declared.values.Pair.{Pair}
use Rattle.rad_value.specs.declared.edits.Edit.{Edit}
use Rattle.rad_value.specs.declared.edits.EditOp.{EditOp}
use Rattle.rad_value.specs.declared.edits.EditOp.TheVariants.{AddIfNone, Set, Append, Remove, RemoveAll, Keep}
use Rattle.rad_value.specs.Comparison.{is_equal}
use Rattle.rad_value.specs.Pairs.{is_of}
use Rattle.rad_value.specs.PairLists.{PairLists, list_of, with_list}

-- Whether a list has a pair of this attribute.
abbrev pub has_attr : AttrId → List Pair → Bool
has_attr attr pairs = list_any (is_of attr) pairs

-- The pair that an edit writes.
abbrev pub pair_of : Edit → Pair
pair_of edit = record { attr = edit.attr; value = edit.value }

-- Whether a pair is of the other's attribute and has an equal value; of the attribute and a value that differs.
abbrev pub is_equal_pair : Pair → Pair → Bool
is_equal_pair wanted pair = is_of wanted.attr pair && is_equal pair.value wanted.value

-- A pair of the wanted one's attribute with another value.
abbrev pub is_other_pair : Pair → Pair → Bool
is_other_pair wanted pair = is_of wanted.attr pair && not (is_equal pair.value wanted.value)

-- The list after an edit by this operator with this pair (unlang(5), 'update').
abbrev pub edited_by : EditOp → Pair → List Pair → List Pair
-- at the tail, where there is none of its attribute
edited_by AddIfNone pair pairs = if has_attr pair.attr pairs then pairs else pairs ++ pair ∷ []
-- in the place of the first of its attribute, or at the tail; the attribute's other pairs leave
edited_by Set pair pairs =
    before_first (is_of pair.attr) pairs ++ pair ∷ filter (λ p. not (is_of pair.attr p)) (after_first (is_of pair.attr) pairs)
-- at the tail
edited_by Append pair pairs = pairs ++ pair ∷ []
-- without the attribute's pairs of an equal value
edited_by Remove pair pairs = filter (λ p. not (is_equal_pair pair p)) pairs
-- without the attribute's pairs
edited_by RemoveAll pair pairs = filter (λ p. not (is_of pair.attr p)) pairs
-- without the attribute's pairs of another value
edited_by Keep pair pairs = filter (λ p. not (is_other_pair pair p)) pairs

-- The list after an edit.
abbrev pub edited : List Pair → Edit → List Pair
edited pairs edit = edited_by edit.op (pair_of edit) pairs

-- Whether an edit by this operator adds a pair to the list: where it has none of the attribute, or always. One that takes
-- pairs away adds none.
abbrev pub adds : EditOp → AttrId → List Pair → Bool
adds AddIfNone attr pairs = not (has_attr attr pairs)
adds Set attr pairs = not (has_attr attr pairs)
adds Append attr pairs = true
adds Remove attr pairs = false
adds RemoveAll attr pairs = false
adds Keep attr pairs = false

-- The edit would add a pair to a list of n pairs, which are 512 or more.
abbrev pub IsFull : EditOp → AttrId → List Pair → ℕ → Type 0
IsFull op attr pairs n = (n ≡ length pairs) × (512 ≤ n) × IsTrue (adds op attr pairs)

-- The three lists after an edit: the one that it names is edited, the others stay.
abbrev pub lists_edited : PairLists → Edit → PairLists
lists_edited lists edit = with_list lists edit.list (edited (list_of lists edit.list) edit)

-- The list that the edit names is full for it: it has n pairs, and one more would come.
abbrev pub IsFullFor : PairLists → Edit → ℕ → Type 0
IsFullFor lists edit n = IsFull edit.op edit.attr (list_of lists edit.list) n

-- Whether the list is full for an edit by this operator: it has 512 pairs or more, and one more would come.
abbrev pub is_full : EditOp → AttrId → List Pair → Bool
is_full op attr pairs = nat_le 512 (length pairs) && adds op attr pairs

-- The three lists after an edit, or none where the list that it names is full for it.
unfoldable pub tried : PairLists → Edit → Option PairLists
tried lists edit =
    if is_full edit.op edit.attr (list_of lists edit.list) then None else Some (lists_edited lists edit)
