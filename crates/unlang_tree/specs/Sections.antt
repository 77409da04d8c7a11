-- The sections of a virtual server, and the subsections of authenticate and post-auth. After the manual pages radiusd.conf(5)
-- and unlang(5).
use Rattle.std.specs.Prelude.{ℕ, Bool, false, List, [], ◌∷◌, ◌++◌, Option, Some, None, option_map, Result, Ok, codes, if◌then◌else◌}
use Rattle.std.specs.Str.{str_eq_ignore_ascii_case}
use Rattle.rad_conf.specs.declared.tree.Node.{Node}
use Rattle.rad_conf.specs.declared.tree.Item.{out-Item}
use Rattle.rad_conf.specs.declared.tree.Item.TheOpen as level
use Rattle.rad_words.specs.declared.sections.Section.{Section}
use Rattle.rad_words.specs.declared.sections.Section.TheVariants as section
use Rattle.rad_text.specs.Read.{◌>>=◌}
use Rattle.unlang_tree.specs.declared.fault.TreeFault.{TreeFault}
use Rattle.unlang_tree.specs.declared.statement.Group.{out-Group}
use Rattle.unlang_tree.specs.declared.statement.GroupForm.{GroupForm}
use Rattle.unlang_tree.specs.declared.statement.GroupForm.TheVariants as form
use Rattle.unlang_tree.specs.declared.statement.Statement.{Statement}
use Rattle.unlang_tree.specs.declared.statement.StatementKind.{StatementKind, out-StatementKind}
use Rattle.unlang_tree.specs.declared.statement.StatementKind.TheOpen as opened
use Rattle.unlang_tree.specs.declared.policies.Subsection.{Subsection}
use Rattle.unlang_tree.specs.declared.policies.ServerTree.{ServerTree}
use Rattle.unlang_tree.specs.declared.subsections.Parts.{Parts}
use Rattle.unlang_tree.specs.declared.servers.Known.{Known}
use Rattle.unlang_tree.specs.Sites.{Site}
use Rattle.unlang_tree.specs.Readings.{most_statements, after_each}
use Rattle.unlang_tree.specs.Words.{section_of}
use Rattle.unlang_tree.specs.Calls.{called_name}
use Rattle.unlang_tree.specs.declared.statements.Counted.{Counted}
use Rattle.unlang_tree.specs.Arms.{is_open, not_stray, with_next}
use Rattle.unlang_tree.specs.Groups.{statement_at, members_of}

-- The word that begins a subsection of a section; nothing where it has none.
abbrev pub subsection_word : Section → List ℕ
subsection_word section.Authorize = []
subsection_word section.Authenticate = codes "Auth-Type"
subsection_word section.Session = []
subsection_word section.Preacct = []
subsection_word section.Accounting = []
subsection_word section.PostAuth = codes "Post-Auth-Type"

-- Whether a block's kind begins a subsection of a section.
abbrev pub is_subsection : Section → List ℕ → Bool
is_subsection where_it_stands kind = str_eq_ignore_ascii_case kind (subsection_word where_it_stands)

-- The name and the nodes of a subsection, `Auth-Type NAME { .. }` in authenticate and `Post-Auth-Type NAME { .. }` in post-auth.
abbrev pub subsection_block : Section → Node → Option (List ℕ × List Node)
subsection_block where_it_stands node = elim (out-Item node.item) [
  | level.Pair left operator right ↦ None
  | level.Name word ↦ None
  | level.Block kind None body ↦ None
  | level.Block kind (Some name) body ↦ if is_subsection where_it_stands kind.text then Some (name.text, body) else None
]

-- The subsections with one more, whose statements are these nodes. No `elsif` or `else` may follow.
unfoldable pub with_subsection : Site → Section → Parts → List ℕ → List Node → Result Parts TreeFault
with_subsection site where_it_stands known name body =
    members_of site where_it_stands known.room body
    >>= λ members. Ok (record {
      statements = known.statements;
      subsections = known.subsections ++ record { name = name; statements = members.statements } ∷ [];
      room = members.room;
      may_go_on = false;
    })

-- The name that an item calls, where it is a call.
abbrev pub name_called : Node → Option (List ℕ)
name_called node = elim (out-Item node.item) [
  | level.Pair left operator right ↦ None
  | level.Name word ↦ Some (called_name word.text)
  | level.Block kind name body ↦ Some (called_name kind.text)
]

-- A call of a policy has its name too; another block of statements stands for no subsection.
abbrev pub policy_name : Node → GroupForm → Option (List ℕ)
policy_name node form.Group = None
policy_name node form.Redundant = None
policy_name node form.LoadBalance = None
policy_name node form.RedundantLoadBalance = None
policy_name node form.Policy = name_called node

-- The name of the subsection that a plain call directly in authenticate stands for: a call `x` is `Auth-Type x { x }`.
abbrev pub own_name : Node → StatementKind → Option (List ℕ)
own_name node kind = elim (out-StatementKind kind) [
  | opened.Call call ↦ name_called node
  | opened.Group group ↦ policy_name node (out-Group group).form
  | opened.Return ↦ None
  | opened.Update lines ↦ None
  | opened.If arms ↦ None
]

-- The subsections with a call that stands for one. Another statement is counted, and is never run.
abbrev pub with_call : Option (List ℕ) → Statement → List Subsection → List Subsection
with_call None statement subsections = subsections
with_call (Some name) statement subsections = subsections ++ record { name = name; statements = statement ∷ [] } ∷ []

-- The parts with a statement that runs with the section, or more arms of the last one.
abbrev pub with_run : Node → Parts → Counted → Parts
with_run node known one = record {
  statements = with_next known.statements node one.statement;
  subsections = known.subsections;
  room = one.room;
  may_go_on = is_open one.statement;
}

-- The parts with a statement directly in authenticate.
abbrev pub with_own : Node → Parts → Counted → Parts
with_own node known one = record {
  statements = known.statements;
  subsections = with_call (own_name node one.statement.kind) one.statement known.subsections;
  room = one.room;
  may_go_on = is_open one.statement;
}

-- The parts with a statement directly in a section, where it counts as written.
abbrev pub with_written : Section → Node → Parts → Counted → Parts
with_written section.Authorize node known one = with_run node known one
with_written section.Authenticate node known one = with_own node known one
with_written section.Session node known one = with_run node known one
with_written section.Preacct node known one = with_run node known one
with_written section.Accounting node known one = with_run node known one
with_written section.PostAuth node known one = with_run node known one

-- The parts with what a node directly in a section reads as.
abbrev pub with_one : Section → Node → Parts → Option Counted → Parts
with_one where_it_stands node known None = known
with_one where_it_stands node known (Some one) = with_written where_it_stands node known one

-- What is known of a section after one more of its nodes: a subsection, or a statement.
unfoldable pub with_part : Site → Section → Parts → Node → Result Parts TreeFault
with_part site where_it_stands known node = elim (subsection_block where_it_stands node) [
  | Some block ↦ with_subsection site where_it_stands known block.0 block.1
  | None ↦ not_stray known.may_go_on node >>= λ placed. statement_at site where_it_stands known.room node >>= λ one. Ok (with_one where_it_stands node known one)
]

-- What is known of a section by its nodes.
abbrev pub parts_of : Site → Section → ℕ → List Node → Result Parts TreeFault
parts_of site where_it_stands room body =
    after_each (with_part site where_it_stands) (record { statements = []; subsections = []; room = room; may_go_on = false }) body

-- The section and the nodes of a server's item, which is a block of that section's name.
abbrev pub section_block : Node → Option (Section × List Node)
section_block node = elim (out-Item node.item) [
  | level.Pair left operator right ↦ None
  | level.Name word ↦ None
  | level.Block kind name body ↦ option_map (λ found. (found, body)) (section_of kind.text)
]

-- What is known of a server after one more section. Of authenticate the subsections alone are run.
unfoldable pub with_section : Site → Known → Section → List Node → Result Known TreeFault
with_section site known where_it_stands body =
    parts_of site where_it_stands known.room body
    >>= λ parts. Ok (record {
      sections = known.sections ++ record { section = where_it_stands; statements = parts.statements; subsections = parts.subsections } ∷ [];
      room = parts.room;
    })

-- The same after one more item. What is no section is passed over.
unfoldable pub with_item : Site → Known → Node → Result Known TreeFault
with_item site known node = elim (section_block node) [
  | None ↦ Ok known
  | Some block ↦ with_section site known block.0 block.1
]

-- The server of a name, with these items.
unfoldable pub server_of : Site → List ℕ → List Node → Result ServerTree TreeFault
server_of site name items =
    after_each (with_item site) (record { sections = []; room = most_statements }) items
    >>= λ known. Ok (record { name = name; sections = known.sections })
