-- What the module `files` does in authorize: the check items and the reply items of the entries that match are done to the
-- control list and the reply list. After users(5) and the manual page rlm_files(5); that it stops at a full list is this
-- project's own.
use Rattle.std.specs.Prelude.{ℕ, Bool, true, false, not, ◌&&◌, ◌||◌, List, [], ◌∷◌, ◌++◌, Option, Some, None, filter_map, codes, if◌then◌else◌}
use Rattle.std.specs.Option.{option_map}
use Rattle.std.specs.List.{list_any}
use Rattle.std.specs.Str.{str_eq_ignore_ascii_case}
use Rattle.rad_words.specs.declared.attributes.AttrId.{AttrId}
use Rattle.rad_words.specs.declared.attributes.Space.TheVariants.{Internal}
use Rattle.rad_words.specs.Attribute.{same_attr}
use Rattle.rad_words.specs.declared.codes.Code.{Code}
use Rattle.rad_words.specs.declared.codes.Code.TheVariants as code
use Rattle.rad_value.specs.declared.values.Value.{Value}
use Rattle.rad_value.specs.declared.values.Value.TheVariants as value
use Rattle.rad_value.specs.declared.edits.Edit.{Edit}
use Rattle.rad_value.specs.declared.edits.EditOp.{EditOp}
use Rattle.rad_value.specs.declared.edits.EditOp.TheVariants as edit
use Rattle.rad_value.specs.declared.edits.ListName.{ListName}
use Rattle.rad_value.specs.declared.edits.ListName.TheVariants.{Reply, Control}
use Rattle.rad_value.specs.PairLists.{PairLists, same_list}
use Rattle.rad_value.specs.Edit.{tried}
use Rattle.rad_dict.specs.Definitions.{Definitions}
use Rattle.rad_pairs.specs.declared.items.Item.{Item}
use Rattle.rad_pairs.specs.declared.items.PairOp.{PairOp}
use Rattle.rad_pairs.specs.declared.items.PairOp.TheVariants as op
use Rattle.mod_users.specs.declared.entry.Entry.{Entry}
use Rattle.mod_users.specs.Fits.{fits}

-- The internal attribute Fall-Through.
abbrev pub fall_through : AttrId
fall_through = record { space = Internal; number = 9 }

-- An item of Fall-Through.
abbrev pub is_fall_through : Item → Bool
is_fall_through item = same_attr item.attr fall_through

-- The operator `=`.
abbrev pub is_equals : PairOp → Bool
is_equals op.Eq = true
is_equals op.Set = false
is_equals op.Append = false
is_equals op.Equal = false
is_equals op.Differs = false
is_equals op.Lt = false
is_equals op.Le = false
is_equals op.Gt = false
is_equals op.Ge = false
is_equals op.Match = false
is_equals op.NoMatch = false
is_equals op.Any = false
is_equals op.None = false

-- The text `Yes`, in any case.
abbrev pub is_yes : Value → Bool
is_yes (value.Text text) = str_eq_ignore_ascii_case text (codes "Yes")
is_yes (value.Octets octets) = false
is_yes (value.Addr address) = false
is_yes (value.Number number) = false
is_yes (value.Date seconds) = false
is_yes (value.Byte number) = false
is_yes (value.Short number) = false

-- The item `Fall-Through = Yes`.
abbrev pub goes_through : Item → Bool
goes_through item = is_fall_through item && is_equals item.op && is_yes item.value

-- The search goes on behind an entry where it has the reply item `Fall-Through = Yes`.
abbrev pub falls_through : Entry → Bool
falls_through entry = list_any goes_through entry.replies

-- The edit that an operator stands for. The others compare, and edit nothing.
abbrev pub edit_op : PairOp → Option EditOp
edit_op op.Eq = Some edit.AddIfNone
edit_op op.Set = Some edit.Set
edit_op op.Append = Some edit.Append
edit_op op.Equal = None
edit_op op.Differs = None
edit_op op.Lt = None
edit_op op.Le = None
edit_op op.Gt = None
edit_op op.Ge = None
edit_op op.Match = None
edit_op op.NoMatch = None
edit_op op.Any = None
edit_op op.None = None

-- The edit of a list that an item stands for, if it isn't one of Fall-Through, which goes to no list.
abbrev pub edit_of : ListName → Item → Option Edit
edit_of list item =
    if is_fall_through item then None
    else option_map (λ (o : EditOp). record { list = list; attr = item.attr; op = o; value = item.value }) (edit_op item.op)

-- The edits of a list that items stand for, in their order.
abbrev pub edits_of : ListName → List Item → List Edit
edits_of list items = filter_map (edit_of list) items

-- The edits of an entry, in the order in which they are done: those of the control list, and then those of the reply list.
abbrev pub entry_edits : Entry → List Edit
entry_edits entry = edits_of Control entry.checks ++ edits_of Reply entry.replies

-- The edits of entries, in order.
abbrev pub all_edits : List Entry → List Edit
all_edits [] = []
all_edits (entry ∷ entries) = entry_edits entry ++ all_edits entries

-- The lists after these edits, up to the first whose list is full for it; and whether none was.
abbrev pub all_tried : PairLists → List Edit → PairLists × Bool
all_tried lists [] = (lists, true)
all_tried lists (edit ∷ edits) = elim (tried lists edit) [
  | None ↦ (lists, false)
  | Some more ↦ all_tried more edits
]

-- The entries of a users file that match a request of this key, each tried in the lists that those before it left, up to the
-- first without `Fall-Through = Yes`.
abbrev pub entries : List Entry → List ℕ → Definitions → PairLists → List Entry
entries [] key dict lists = []
entries (entry ∷ users) key dict lists =
    if fits entry key lists.request dict
    then entry ∷ (if falls_through entry then entries users key dict (all_tried lists (entry_edits entry)).0 else [])
    else entries users key dict lists

-- The code of a run in which an entry matched or not, and all edits were done or not.
abbrev pub code_of : Bool → Bool → Code
code_of false done = code.Noop
code_of true true = code.Ok
code_of true false = code.Fail

-- There is an entry.
abbrev pub has_any : List Entry → Bool
has_any [] = false
has_any (entry ∷ entries) = true

-- The lists and the code after these entries, where one matched before or not.
abbrev pub done_by : Bool → List Entry → PairLists → PairLists × Code
done_by found matched lists =
    ((all_tried lists (all_edits matched)).0, code_of (found || has_any matched) (all_tried lists (all_edits matched)).1)

-- The same after the entries that match.
abbrev pub outcome : Bool → List Entry → List ℕ → Definitions → PairLists → PairLists × Code
outcome found users key dict lists = done_by found (entries users key dict lists) lists

-- The lists and the code that the module `files` makes of these lists, with these users, for this key.
unfoldable pub files_done : List Entry → List ℕ → Definitions → PairLists → PairLists × Code
files_done users key dict lists = outcome false users key dict lists

-- An edit is of this list and attribute.
abbrev pub edits_that : ListName → AttrId → Edit → Bool
edits_that list attr edit = same_list edit.list list && same_attr edit.attr attr

-- An entry edits this attribute of this list.
abbrev pub entry_edits_that : ListName → AttrId → Entry → Bool
entry_edits_that list attr entry = list_any (edits_that list attr) (entry_edits entry)

-- The frame of the module: the control items of its check items, and the reply items of its replies.
unfoldable pub frame : List Entry → ListName → AttrId → Bool
frame users list attr = list_any (entry_edits_that list attr) users
