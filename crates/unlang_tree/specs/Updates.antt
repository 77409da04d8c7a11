-- Updates of lists, `update list { lines }`, after the manual page unlang(5). That a line's faults are found from its left to its
-- right, and that what stands behind `!*` is passed over, are this project's own.
use Rattle.std.specs.Prelude.{ℕ, Bool, true, false, ◌==◌, List, [], ◌∷◌, ◌++◌, drop, take, length, slice_index, Option, Some, None, unwrap_or, Result, Ok, Err, codes, if◌then◌else◌}
use Rattle.std.specs.Option.{option_map}
use Rattle.std.specs.Str.{bytes_eq, str_eq_ignore_ascii_case}
use Rattle.rad_outside.specs.declared.files.Place.{Place}
use Rattle.rad_conf.specs.declared.tree.Quote.{Quote}
use Rattle.rad_conf.specs.declared.tree.Quote.TheVariants.{Bare, Single, Double}
use Rattle.rad_conf.specs.declared.tree.Word.{Word}
use Rattle.rad_conf.specs.declared.tree.Node.{Node}
use Rattle.rad_conf.specs.declared.tree.Item.{out-Item}
use Rattle.rad_conf.specs.declared.tree.Item.TheOpen as level
use Rattle.rad_value.specs.declared.values.Value.TheVariants as value
use Rattle.rad_value.specs.declared.edits.ListName.{ListName}
use Rattle.rad_value.specs.declared.edits.ListName.TheVariants as list
use Rattle.rad_value.specs.declared.edits.EditOp.{EditOp}
use Rattle.rad_value.specs.declared.edits.EditOp.TheVariants as op
use Rattle.rad_dict.specs.Definitions.{Definitions}
use Rattle.rad_pairs.specs.declared.attr_reading.AttrKind.{AttrKind}
use Rattle.rad_pairs.specs.ValueReading.{value_of}
use Rattle.rad_text.specs.Read.{◌>>=◌, found}
use Rattle.unlang_reference.specs.declared.reference.Reference.{Reference}
use Rattle.unlang_reference.specs.declared.reference.Which.{Which}
use Rattle.unlang_reference.specs.declared.reference.Which.TheVariants.{Nth, All, Count}
use Rattle.unlang_reference.specs.declared.reading.NoReference.{NoReference}
use Rattle.unlang_reference.specs.Reading.{reference_of, named_alone}
use Rattle.unlang_xlat.specs.declared.part.Part.{Part}
use Rattle.unlang_xlat.specs.declared.fault.XlatFault.{XlatFault}
use Rattle.unlang_xlat.specs.Faults.{parsed}
use Rattle.unlang_tree.specs.declared.fault.TreeFault.{TreeFault}
use Rattle.unlang_tree.specs.declared.fault.TreeFault.TheVariants as fault
use Rattle.unlang_tree.specs.declared.update.Right.{Right}
use Rattle.unlang_tree.specs.declared.update.Right.TheVariants as right
use Rattle.unlang_tree.specs.declared.update.Line.{Line}
use Rattle.unlang_tree.specs.Readings.{one_more, one_deeper, after_each}

-- The list of a name.
unfoldable pub list_named : List ℕ → Option ListName
list_named word =
    if str_eq_ignore_ascii_case word (codes "request") then Some list.Request
    else (if str_eq_ignore_ascii_case word (codes "reply") then Some list.Reply
    else (if str_eq_ignore_ascii_case word (codes "control") then Some list.Control
    else None))

-- A line's left side without the `&` that may stand before it.
abbrev pub without_ampersand : List ℕ → List ℕ
without_ampersand text = if slice_index text 0 == 38 then drop 1 text else text

-- Whether a text begins with a prefix, case aside.
abbrev pub begins_with : List ℕ → List ℕ → Bool
begins_with prefix text = str_eq_ignore_ascii_case (take (length prefix) text) prefix

-- The list that a left side names before its attribute.
unfoldable pub list_in : List ℕ → Option ListName
list_in text =
    if begins_with (codes "request:") text then Some list.Request
    else (if begins_with (codes "reply:") text then Some list.Reply
    else (if begins_with (codes "control:") text then Some list.Control
    else None))

-- The list and the attribute of a left side, `[list:]Attr`: where it names no list, that of its block. A place behind the name
-- is none of an attribute's.
unfoldable pub left_of : Definitions → ListName → List ℕ → Option (ListName × AttrKind)
left_of dict block text = option_map (λ (reference : Reference). (unwrap_or (list_in text) block, reference.attr)) (named_alone text dict)

-- The same at the line's place.
unfoldable pub left_at : Definitions → ListName → Place → List ℕ → Result (ListName × AttrKind) TreeFault
left_at dict block place text = found (fault.BadUpdate place) (left_of dict block (without_ampersand text))

-- The edit that an operator stands for.
unfoldable pub operator_of : List ℕ → Option EditOp
operator_of text =
    if bytes_eq text (codes "=") then Some op.AddIfNone
    else (if bytes_eq text (codes ":=") then Some op.Set
    else (if bytes_eq text (codes "+=") then Some op.Append
    else (if bytes_eq text (codes "-=") then Some op.Remove
    else (if bytes_eq text (codes "!*") then Some op.RemoveAll
    else (if bytes_eq text (codes "==") then Some op.Keep
    else None)))))

-- The operator of a line.
unfoldable pub operator_at : Place → List ℕ → Result EditOp TreeFault
operator_at place text = found (fault.BadUpdate place) (operator_of text)

-- The operator takes an attribute's values away, whatever they are.
abbrev pub clears : EditOp → Bool
clears op.AddIfNone = false
clears op.Set = false
clears op.Append = false
clears op.Remove = false
clears op.RemoveAll = true
clears op.Keep = false

-- A reference means the number of an attribute's values.
abbrev pub is_count : Which → Bool
is_count (Nth n) = false
is_count All = false
is_count Count = true

-- A literal, read as a value of the line's attribute.
unfoldable pub literal_at : Definitions → Place → AttrKind → List ℕ → Result Right TreeFault
literal_at dict place attr text = found (fault.BadUpdate place) (option_map right.Value (value_of attr.kind attr.id text dict))

-- A reference that was read, which doesn't mean a number of values.
abbrev pub referred : Place → Result Reference NoReference → Result Right TreeFault
referred place (Ok reference) = if is_count reference.which then Err (fault.BadUpdate place) else Ok (right.Reference reference)
referred place (Err wrong) = Err (fault.BadUpdate place)

-- A reference, from behind its `&` on.
unfoldable pub reference_at : Definitions → Place → List ℕ → Result Right TreeFault
reference_at dict place text = referred place (reference_of text dict)

-- An expansion that was read; whatever is wrong with its text, it is told at the line.
abbrev pub expansion_read : Place → Result (List Part) XlatFault → Result Right TreeFault
expansion_read place (Ok parts) = Ok (right.Expansion parts)
expansion_read place (Err wrong) = Err (fault.BadExpansion place)

-- An expansion.
unfoldable pub expansion_at : Definitions → Place → List ℕ → Result Right TreeFault
expansion_at dict place text = expansion_read place (parsed text dict)

-- A bare word: a reference behind `&`, else a literal.
unfoldable pub bare_at : Definitions → Place → AttrKind → List ℕ → Result Right TreeFault
bare_at dict place attr text =
    if slice_index text 0 == 38 then reference_at dict place (drop 1 text) else literal_at dict place attr text

-- What a right word says, by its quotes: a double-quoted text is an expansion, a single-quoted one a literal.
abbrev pub quoted_at : Definitions → Place → AttrKind → Quote → List ℕ → Result Right TreeFault
quoted_at dict place attr Bare text = bare_at dict place attr text
quoted_at dict place attr Single text = literal_at dict place attr text
quoted_at dict place attr Double text = expansion_at dict place text

-- The right side of a line. Behind `!*` it is passed over, and an empty text stands for it.
unfoldable pub right_at : Definitions → Place → EditOp → AttrKind → Word → Result Right TreeFault
right_at dict place operator attr word =
    if clears operator then Ok (right.Value (value.Text [])) else quoted_at dict place attr word.quote word.text

-- The line of a node, which is a pair, in the block of a list.
unfoldable pub line_at : Definitions → ListName → Node → Result Line TreeFault
line_at dict block node = elim (out-Item node.item) [
  | level.Pair left operator word ↦ (do
    named ← left_at dict block node.place left.text
    edit ← operator_at node.place operator
    said ← right_at dict node.place edit named.1 word
    Ok (record { list = named.0; attr = named.1; op = edit; right = said }))
  | level.Name word ↦ Err (fault.BadUpdate node.place)
  | level.Block kind name body ↦ Err (fault.BadUpdate node.place)
]

-- The lines with that of one more node.
unfoldable pub with_line : Definitions → ListName → List Line → Node → Result (List Line) TreeFault
with_line dict block lines node = line_at dict block node >>= λ line. Ok (lines ++ line ∷ [])

-- The lines of a block's nodes, in order.
abbrev pub lines_of : Definitions → ListName → List Node → Result (List Line) TreeFault
lines_of dict block nodes = after_each (with_line dict block) [] nodes

-- The list of an update, which is named behind the word.
unfoldable pub list_at : Place → Option Word → Result ListName TreeFault
list_at place None = Err (fault.BadUpdate place)
list_at place (Some word) = found (fault.BadUpdate place) (list_named word.text)

-- The lines of an update, where so many more blocks may be opened and the server has room for so many statements more. What is
-- wrong with the block itself stands at its place, and so comes before what is wrong with its lines.
unfoldable pub update_at : Definitions → ℕ → ℕ → Place → Option Word → List Node → Result (List Line) TreeFault
update_at dict levels room place name nodes = do
  block ← list_at place name
  opened ← one_deeper levels place
  counted ← one_more room place
  lines_of dict block nodes
