-- What updates make of the lists, line by line, after unlang(5). That the first line that can't be done ends an update, and that
-- the lines before it stay, is this project's own.
use Rattle.std.specs.Prelude.{◌≡◌, ℕ, Bool, true, false, List, [], ◌∷◌, Option, Some, None, slice_get, if◌then◌else◌}
use Rattle.rad_words.specs.declared.attributes.AttrId.{AttrId}
use Rattle.rad_value.specs.declared.values.Value.{Value}
use Rattle.rad_value.specs.declared.scope.Scope.{Scope}
use Rattle.rad_value.specs.declared.edits.Edit.{Edit}
use Rattle.rad_value.specs.Edit.{tried}
use Rattle.rad_value.specs.Kinds.{kind_of_value}
use Rattle.rad_value.specs.PairLists.{PairLists}
use Rattle.rad_dict.specs.Definitions.{Definitions}
use Rattle.rad_dict.specs.Readings.{same_kind}
use Rattle.rad_pairs.specs.declared.attr_reading.AttrKind.{AttrKind}
use Rattle.rad_pairs.specs.ValueReading.{value_of}
use Rattle.rad_pairs.specs.ValueText.{plain_text}
use Rattle.unlang_reference.specs.declared.reference.Reference.{Reference}
use Rattle.unlang_reference.specs.Values.{values_of}
use Rattle.unlang_xlat.specs.Texts.{expanded}
use Rattle.unlang_tree.specs.declared.update.Line.{Line}
use Rattle.unlang_tree.specs.declared.update.Right.{Right}
use Rattle.unlang_tree.specs.declared.update.Right.TheVariants as right
use Rattle.unlang_code.specs.declared.update.Said.{Said}
use Rattle.unlang_code.specs.declared.update.Said.TheVariants as said

-- The scope with these lists.
abbrev pub with_lists : PairLists → Scope → Scope
with_lists lists scope = record scope { lists = lists }

-- A text, read as a value of an attribute.
abbrev pub read : Option Value → Said
read None = said.Unreadable
read (Some v) = said.Value v

-- A text, read as a value of an attribute under a dictionary.
abbrev pub read_as : AttrKind → List ℕ → Definitions → Said
read_as attr text dict = read (value_of attr.kind attr.id text dict)

-- A value of an attribute as one of another: itself where it is of that one's kind, else what its text is read as.
abbrev pub converted : AttrId → AttrKind → Value → Definitions → Said
converted from attr v dict =
    if same_kind (kind_of_value v) attr.kind then said.Value v else read_as attr (plain_text from v dict) dict

-- A reference's first value as one of the attribute, where it names any.
abbrev pub first_as : AttrId → AttrKind → Option Value → Definitions → Said
first_as from attr None dict = said.Nothing
first_as from attr (Some v) dict = converted from attr v dict

-- What a reference gives as a value of an attribute: the first value that it names.
abbrev pub referred : Reference → AttrKind → PairLists → Definitions → Said
referred reference attr lists dict = first_as reference.attr.id attr (slice_get (values_of reference lists) 0) dict

-- What a right side comes to in a scope: a value of the line's attribute, no value, or a text that can't be read as one.
abbrev pub said_by : Definitions → AttrKind → Right → Scope → Said
said_by dict attr (right.Value v) scope = said.Value v
said_by dict attr (right.Reference reference) scope = referred reference attr scope.lists dict
said_by dict attr (right.Expansion parts) scope = read_as attr (expanded scope dict parts) dict

-- The edit of a line with this value.
abbrev pub edit_of : Line → Value → Edit
edit_of line v = record { list = line.list; attr = line.attr.id; op = line.op; value = v }

-- The scope behind an edit that leaves these lists, and that it was done; or the scope as it was, where a list is full for it.
abbrev pub tried_to : Option PairLists → Scope → Scope × Bool
tried_to None scope = (scope, false)
tried_to (Some lists) scope = (with_lists lists scope, true)

-- The scope behind a line whose right side came to this, and whether the line was done. Without a value it does nothing.
abbrev pub done_with : Line → Said → Scope → Scope × Bool
done_with line (said.Value v) scope = tried_to (tried scope.lists (edit_of line v)) scope
done_with line said.Nothing scope = (scope, true)
done_with line said.Unreadable scope = (scope, false)

-- The scope behind a line, and whether it was done.
abbrev pub line_done : Definitions → Line → Scope → Scope × Bool
line_done dict line scope = done_with line (said_by dict line.attr line.right scope) scope

-- What follows a line that was done; nothing follows one that wasn't.
abbrev pub then_rest : (Scope → Scope × Bool) → Bool → Scope → Scope × Bool
then_rest rest true scope = rest scope
then_rest rest false scope = (scope, false)

-- The scope behind lines in order, and whether all were done.
abbrev pub lines_done : Definitions → List Line → Scope → Scope × Bool
lines_done dict [] scope = (scope, true)
lines_done dict (line ∷ lines) scope = then_rest (lines_done dict lines) (line_done dict line scope).1 (line_done dict line scope).0

-- A line left this scope and this answer.
abbrev pub IsTriedTo : Option PairLists → Scope → Scope → Bool → Type 0
IsTriedTo None before now done = (now ≡ before) × (done ≡ false)
IsTriedTo (Some lists) before now done = (now ≡ with_lists lists before) × (done ≡ true)

-- A line whose right side came to this left this scope and this answer.
abbrev pub IsDoneWith : Line → Said → Scope → Scope → Bool → Type 0
IsDoneWith line (said.Value v) before now done = IsTriedTo (tried before.lists (edit_of line v)) before now done
IsDoneWith line said.Nothing before now done = (now ≡ before) × (done ≡ true)
IsDoneWith line said.Unreadable before now done = (now ≡ before) × (done ≡ false)

-- A line left this scope and this answer.
abbrev pub IsLineDone : Definitions → Line → Scope → Scope → Bool → Type 0
IsLineDone dict line before now done = IsDoneWith line (said_by dict line.attr line.right before) before now done
