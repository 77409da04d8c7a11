-- Entries that are written as a users file: each a line with its name in double quotes and its check items, and an indented
-- line with its reply items, every item with a comma behind it. After users(5).
use Rattle.std.specs.Prelude.{◌≡◌, ℕ, ◌+◌, true, List, [], ◌∷◌, ◌++◌, map, Some, None, codes}
use Rattle.std.specs.List.{AllByRecursion}
use Rattle.rad_words.specs.declared.attributes.Kind.{Kind}
use Rattle.rad_value.specs.declared.values.Value.TheVariants as value
use Rattle.rad_value.specs.Kinds.{kind_of_value}
use Rattle.rad_dict.specs.Definitions.{Definitions}
use Rattle.rad_pairs.specs.declared.items.Item.{Item}
use Rattle.rad_pairs.specs.declared.items.PairOp.{PairOp}
use Rattle.rad_pairs.specs.declared.items.PairOp.TheVariants as op
use Rattle.rad_pairs.specs.ValueText.{quoted, attr_text, value_text}
use Rattle.rad_pairs.specs.ReadingBack.{AreOctets, InRange, IsSpace, kind_of}
use Rattle.mod_users.specs.declared.entry.Entry.{Entry}
use Rattle.mod_users.specs.declared.form.Form.{Form}
use Rattle.mod_users.specs.declared.form.Form.TheVariants.{Check}
use Rattle.mod_users.specs.Forms.{takes}
use Rattle.mod_users.specs.Reading.{Read}
use Rattle.mod_users.specs.Rows.{entry_of}

-- The text of an operator.
abbrev pub op_text : PairOp → List ℕ
op_text op.Eq = codes "="
op_text op.Set = codes ":="
op_text op.Append = codes "+="
op_text op.Equal = codes "=="
op_text op.Differs = codes "!="
op_text op.Lt = codes "<"
op_text op.Le = codes "<="
op_text op.Gt = codes ">"
op_text op.Ge = codes ">="
op_text op.Match = codes "=~"
op_text op.NoMatch = codes "!~"
op_text op.Any = codes "=*"
op_text op.None = codes "!*"

-- The text of a value behind an operator: none behind `=*` and `!*`.
abbrev pub value_written : PairOp → Item → Definitions → List ℕ
value_written op.Eq item dict = value_text item.attr item.value dict
value_written op.Set item dict = value_text item.attr item.value dict
value_written op.Append item dict = value_text item.attr item.value dict
value_written op.Equal item dict = value_text item.attr item.value dict
value_written op.Differs item dict = value_text item.attr item.value dict
value_written op.Lt item dict = value_text item.attr item.value dict
value_written op.Le item dict = value_text item.attr item.value dict
value_written op.Gt item dict = value_text item.attr item.value dict
value_written op.Ge item dict = value_text item.attr item.value dict
value_written op.Match item dict = value_text item.attr item.value dict
value_written op.NoMatch item dict = value_text item.attr item.value dict
value_written op.Any item dict = []
value_written op.None item dict = []

-- The text of an item.
abbrev pub item_text : Item → Definitions → List ℕ
item_text item dict = attr_text item.attr dict ++ 32 ∷ (op_text item.op ++ 32 ∷ value_written item.op item dict)

-- The texts of items, each behind a blank and with a comma behind it.
abbrev pub items_text : List Item → Definitions → List ℕ
items_text [] dict = []
items_text (item ∷ items) dict = 32 ∷ (item_text item dict ++ 44 ∷ items_text items dict)

-- The first line of an entry, and the second.
abbrev pub head_text : Entry → Definitions → List ℕ
head_text entry dict = quoted entry.name ++ items_text entry.checks dict

-- The line of an entry's reply items.
abbrev pub replies_text : Entry → Definitions → List ℕ
replies_text entry dict = 9 ∷ items_text entry.replies dict

-- The text of entries.
abbrev pub entries_text : List Entry → Definitions → List ℕ
entries_text [] dict = []
entries_text (entry ∷ entries) dict = head_text entry dict ++ 10 ∷ (replies_text entry dict ++ 10 ∷ entries_text entries dict)

-- The entries as they stand in their text, the first on this line.
abbrev pub numbered : ℕ → List Entry → List Entry
numbered number [] = []
numbered number (entry ∷ entries) = record entry { line = number } ∷ numbered (number + 1 + 1) entries

-- A value that is read for its attribute: of its kind, and in the range of its type.
pub record IsOfKind (item : Item) (dict : Definitions) : Type 0 where
  pub kind : kind_of item.attr dict ≡ Some (kind_of_value item.value)
  pub range : InRange item.value

-- A pattern of an attribute of any kind.
pub record IsPattern (item : Item) (dict : Definitions) : Type 0 where
  pub attr_kind : Kind
  pub kind : kind_of item.attr dict ≡ Some attr_kind
  pub source : List ℕ
  pub text : item.value ≡ value.Text source
  pub range : AreOctets source

-- An attribute of any kind, without a value.
pub record IsBare (item : Item) (dict : Definitions) : Type 0 where
  pub attr_kind : Kind
  pub kind : kind_of item.attr dict ≡ Some attr_kind
  pub empty : item.value ≡ value.Text []

-- The value fits behind the operator.
abbrev pub FitsBehind : PairOp → Item → Definitions → Type 0
FitsBehind op.Eq item dict = IsOfKind item dict
FitsBehind op.Set item dict = IsOfKind item dict
FitsBehind op.Append item dict = IsOfKind item dict
FitsBehind op.Equal item dict = IsOfKind item dict
FitsBehind op.Differs item dict = IsOfKind item dict
FitsBehind op.Lt item dict = IsOfKind item dict
FitsBehind op.Le item dict = IsOfKind item dict
FitsBehind op.Gt item dict = IsOfKind item dict
FitsBehind op.Ge item dict = IsOfKind item dict
FitsBehind op.Match item dict = IsPattern item dict
FitsBehind op.NoMatch item dict = IsPattern item dict
FitsBehind op.Any item dict = IsBare item dict
FitsBehind op.None item dict = IsBare item dict

-- An item that can be written there.
pub record IsWritableItem (form : Form) (dict : Definitions) (item : Item) : Type 0 where
  pub taken : takes form item.attr.space item.op ≡ true
  pub space : IsSpace item.attr.space
  pub value : FitsBehind item.op item dict

-- An entry that can be written, in a file whose reply items stand in this form.
pub record IsWritable (form : Form) (dict : Definitions) (entry : Entry) : Type 0 where
  pub name : AreOctets entry.name
  pub checks : AllByRecursion (λ (item : Item). IsWritableItem Check dict item) entry.checks
  pub replies : AllByRecursion (λ (item : Item). IsWritableItem form dict item) entry.replies

-- All of the entries can be written.
abbrev pub AreWritable : Form → Definitions → List Entry → Type 0
AreWritable form dict entries = AllByRecursion (λ (entry : Entry). IsWritable form dict entry) entries

-- What was read are these entries, and no fault.
pub record AreBack (entries : List Entry) (read : Read) : Type 0 where
  pub same : map entry_of read.0 ≡ entries
  pub whole : read.1 ≡ None
