-- The statements of a section, with blocks and policies within one another: `group`, `redundant`, `load-balance`,
-- `redundant-load-balance`, `if` with its `elsif` and `else`, and the calls of policies. After the manual page unlang(5). What stands within a statement is read
-- by a reader that is handed in.
use Rattle.std.specs.Prelude.{ℕ, zero, suc, Bool, true, false, ◌&&◌, ◌-◌, List, [], ◌∷◌, Option, option_map, Some, None, Result, Ok, Err, codes, if◌then◌else◌}
use Rattle.std.specs.Str.{str_eq_ignore_ascii_case}
use Rattle.rad_outside.specs.declared.files.Place.{Place}
use Rattle.rad_conf.specs.declared.tree.Word.{Word}
use Rattle.rad_conf.specs.declared.tree.Node.{Node}
use Rattle.rad_conf.specs.declared.tree.Item.{out-Item}
use Rattle.rad_conf.specs.declared.tree.Item.TheOpen as level
use Rattle.rad_words.specs.declared.sections.Section.{Section}
use Rattle.rad_text.specs.Read.{◌>>=◌}
use Rattle.unlang_tree.specs.declared.fault.TreeFault.{TreeFault}
use Rattle.unlang_tree.specs.declared.fault.TreeFault.TheVariants as fault
use Rattle.unlang_cond.specs.Trees.{Tree}
use Rattle.unlang_tree.specs.declared.statement.Arm.{roll-Arm}
use Rattle.unlang_tree.specs.declared.statement.Group.{roll-Group}
use Rattle.unlang_tree.specs.declared.statement.GroupForm.{GroupForm}
use Rattle.unlang_tree.specs.declared.statement.GroupForm.TheVariants as form
use Rattle.unlang_tree.specs.declared.statement.Override.{Override}
use Rattle.unlang_tree.specs.declared.statement.Statement.{Statement}
use Rattle.unlang_tree.specs.declared.statement.StatementKind.{StatementKind}
use Rattle.unlang_tree.specs.declared.statement.StatementKind.TheVariants as kinds
use Rattle.unlang_tree.specs.declared.statements.Counted.{Counted}
use Rattle.unlang_tree.specs.declared.groups.Members.{Members}
use Rattle.unlang_tree.specs.declared.words.ArmWord.{ArmWord}
use Rattle.unlang_tree.specs.Sites.{Site}
use Rattle.unlang_tree.specs.Readings.{one_more, one_deeper, most_statements, after_each}
use Rattle.unlang_tree.specs.Words.{is_one_of, form_named, later_blocks}
use Rattle.unlang_tree.specs.Calls.{kind_of, body_of, not_open}
use Rattle.unlang_tree.specs.Arms.{arm_of, condition_at, is_last_open, not_stray, with_next}
use Rattle.unlang_tree.specs.Actions.{with_override, overrides_of}
use Rattle.unlang_tree.specs.Statements.{with_room, word_at, is_pair, call_block_at, update_statement}
use Rattle.unlang_tree.specs.PolicyCalls.{policy_called, braces_at}
use Rattle.unlang_tree.specs.Depths.{Depth, at_the_top, in_a_block, in_a_policy}

-- How the nodes within a statement are read, by how deep they stand, the statement's place and form, and the actions that it
-- has already, where the server has room for so many more statements.
abbrev pub Opener : Type 0
Opener = Depth → Place → GroupForm → List Override → ℕ → List Node → Result Members TreeFault

-- A block that opens nothing and calls no policy: an update, a statement that isn't built yet, or the call of an instance.
unfoldable pub plain_block : Site → Section → ℕ → ℕ → Place → List ℕ → Option Word → List Node → Result (Option Counted) TreeFault
plain_block site section levels room place kind name body =
    if str_eq_ignore_ascii_case kind (codes "update") then update_statement site levels room place name body
    else (if is_one_of later_blocks kind then Err (fault.NotBuilt place)
    else call_block_at site section levels room place kind name body)

-- A statement that opens nothing and calls no policy; none where it counts as not written. A pair is none.
unfoldable pub plain_statement : Site → Section → ℕ → ℕ → Node → Result (Option Counted) TreeFault
plain_statement site section levels room node = elim (out-Item node.item) [
  | level.Pair left operator right ↦ Err (fault.BadAction node.place)
  | level.Name word ↦ word_at site section room node.place word.text
  | level.Block kind name body ↦ plain_block site section levels room node.place kind.text name body
]

-- The form and the nodes of a block of statements. The name that may stand on it is passed over.
abbrev pub group_block : Node → Option (GroupForm × List Node)
group_block node = elim (out-Item node.item) [
  | level.Pair left operator right ↦ None
  | level.Name word ↦ None
  | level.Block kind name body ↦ option_map (λ form. (form, body)) (form_named kind.text)
]

-- The block of statements of what was read.
abbrev pub group_of : GroupForm → Members → StatementKind
group_of form members = kinds.Group (roll-Group (record { form = form; overrides = members.overrides; statements = members.statements }))

-- A block of statements: it is one statement, and its own statements count too.
unfoldable pub group_at : Opener → Depth → ℕ → Place → GroupForm → List Node → Result Counted TreeFault
group_at opener depth room place form body = do
  deeper ← one_deeper depth.levels place
  done ← one_more room place
  members ← opener (in_a_block depth) place form [] (room - 1) body
  Ok (with_room members.room place (group_of form members))

-- The call of a policy: its statements are read where it is called, in the calling section. It is one statement, and the
-- policy's statements count too. A policy within itself is refused before anything else that is wrong with the call.
unfoldable pub policy_call : Opener → Depth → ℕ → Node → Node → Result Counted TreeFault
policy_call opener depth room node policy = do
  fresh ← not_open depth.entered node.place (kind_of policy)
  braced ← braces_at node depth.levels
  done ← one_more room node.place
  overrides ← overrides_of (body_of node)
  members ← opener (in_a_policy depth (kind_of policy)) node.place form.Policy overrides (room - 1) (body_of policy)
  Ok (with_room members.room node.place (group_of form.Policy members))

-- The `if` of one arm that was read: what it asks, and what stands in it.
abbrev pub if_of : Option Tree → List Statement → StatementKind
if_of condition statements = kinds.If (roll-Arm (record { condition = condition; statements = statements }) ∷ [])

-- An arm, as an `if` of its own: it is one statement, and its own statements count too. As in a policy, no pair may stand in it.
unfoldable pub arm_at : Opener → Site → Depth → ℕ → ArmWord → Node → Result Counted TreeFault
arm_at opener site depth room word node = do
  condition ← condition_at site.dict word node
  deeper ← one_deeper depth.levels node.place
  done ← one_more room node.place
  members ← opener (in_a_block depth) node.place form.Policy [] (room - 1) (body_of node)
  Ok (with_room members.room node.place (if_of condition members.statements))

-- A statement that opens no block of statements: an arm, or one that opens nothing.
abbrev pub arm_or_plain : Opener → Site → Section → Depth → ℕ → Node → Option ArmWord → Result (Option Counted) TreeFault
arm_or_plain opener site where_it_stands depth room node None = plain_statement site where_it_stands depth.levels room node
arm_or_plain opener site where_it_stands depth room node (Some word) = arm_at opener site depth room word node >>= λ one. Ok (Some one)

-- A statement that opens no policy: a block of statements, an arm, or one that opens nothing.
abbrev pub block_or_plain : Opener → Site → Section → Depth → ℕ → Node → Option (GroupForm × List Node) → Result (Option Counted) TreeFault
block_or_plain opener site where_it_stands depth room node None = arm_or_plain opener site where_it_stands depth room node (arm_of node)
block_or_plain opener site where_it_stands depth room node (Some block) = group_at opener depth room node.place block.0 block.1 >>= λ one. Ok (Some one)

-- A statement, by the policy that it calls, if it calls one.
abbrev pub called_or_not : Opener → Site → Section → Depth → ℕ → Node → Option Node → Result (Option Counted) TreeFault
called_or_not opener site where_it_stands depth room node None = block_or_plain opener site where_it_stands depth room node (group_block node)
called_or_not opener site where_it_stands depth room node (Some policy) = policy_call opener depth room node policy >>= λ one. Ok (Some one)

-- The statement of a node at a depth, where the server has room for so many more statements; none where it counts as not
-- written.
unfoldable pub statement_by : Opener → Site → Section → Depth → ℕ → Node → Result (Option Counted) TreeFault
statement_by opener site section depth room node =
    called_or_not opener site section depth room node (policy_called site.root section node)

-- What was read, with what a node reads as, where it counts as written: one more statement, or more arms of the last one.
abbrev pub and_also : Members → Node → Option Counted → Members
and_also members node None = members
and_also members node (Some one) =
    record { overrides = members.overrides; statements = with_next members.statements node one.statement; room = one.room }

-- What was read, with an action of the block's own.
unfoldable pub with_own_action : Members → Node → Result Members TreeFault
with_own_action members node =
    with_override members.overrides node
    >>= λ overrides. Ok (record { overrides = overrides; statements = members.statements; room = members.room })

-- Whether a pair among the nodes of such a statement is an action of its own: a block's, but not a policy's.
abbrev pub has_own_actions : GroupForm → Bool
has_own_actions form.Group = true
has_own_actions form.Redundant = true
has_own_actions form.LoadBalance = true
has_own_actions form.RedundantLoadBalance = true
has_own_actions form.Policy = false

-- What was read of what stands within a statement of a form, with one more node of it.
unfoldable pub with_member : Opener → Site → Section → Depth → GroupForm → Members → Node → Result Members TreeFault
with_member opener site section depth form members node =
    if has_own_actions form && is_pair node then with_own_action members node
    else (do
      placed ← not_stray (is_last_open members.statements) node
      one ← statement_by opener site section depth members.room node
      Ok (and_also members node one))

-- Nothing was read yet but these actions, and the server has room for so many statements more.
abbrev pub begun : List Override → ℕ → Members
begun overrides room = record { overrides = overrides; statements = []; room = room }

-- What stands within a statement, where so many statements more may stand within one another. Each of them is one of those
-- that the server has room for, so there are never more.
unfoldable pub opened_at : Site → Section → ℕ → Opener
opened_at site where_it_stands zero depth place form overrides room body = Err (fault.TooMany place)
opened_at site where_it_stands (suc within) depth place form overrides room body =
    after_each (with_member (opened_at site where_it_stands within) site where_it_stands depth form) (begun overrides room) body

-- The statement of a node directly in a section, where the server has room for so many more.
abbrev pub statement_at : Site → Section → ℕ → Node → Result (Option Counted) TreeFault
statement_at site section room node = statement_by (opened_at site section most_statements) site section at_the_top room node

-- The statements with that of one more node.
unfoldable pub with_statement : Site → Section → Members → Node → Result Members TreeFault
with_statement site section members node = do
  placed ← not_stray (is_last_open members.statements) node
  one ← statement_at site section members.room node
  Ok (and_also members node one)

-- The statements of a section's nodes, in order, and how many more the server has room for. A section has no actions of its own.
abbrev pub members_of : Site → Section → ℕ → List Node → Result Members TreeFault
members_of site section room nodes = after_each (with_statement site section) (begun [] room) nodes

-- The statements of a section's nodes, in order.
abbrev pub statements_of : Site → Section → ℕ → List Node → Result (List Statement) TreeFault
statements_of site section room nodes = members_of site section room nodes >>= λ members. Ok members.statements
