-- What holds of each call among the statements of policies, each in the section in which it stands. This project's own.
use Rattle.std.specs.Prelude.{◌≡◌, Bool, true, List, [], ◌∷◌, ◌++◌}
use Rattle.std.specs.List.{AllByRecursion, flat_map}
use Rattle.rad_words.specs.declared.sections.Section.{Section}
use Rattle.unlang_tree.specs.declared.statement.Call.{Call}
use Rattle.unlang_tree.specs.declared.statement.Statement.{Statement}
use Rattle.unlang_tree.specs.declared.statement.StatementKind.{StatementKind}
use Rattle.unlang_tree.specs.declared.statement.StatementKind.TheOpen.{StatementKind-F, Group-F, Arm-F, Statement-F}
use Rattle.unlang_tree.specs.declared.statement.StatementKind.TheOpen as level
use Rattle.unlang_tree.specs.declared.statement.StatementKind.TheFolds.{fold-StatementKind, fold-Statement}
use Rattle.unlang_tree.specs.declared.policies.Subsection.{Subsection}
use Rattle.unlang_tree.specs.declared.policies.SectionTree.{SectionTree}
use Rattle.unlang_tree.specs.declared.policies.ServerTree.{ServerTree}
use Rattle.unlang_tree.specs.Instances.{Instance}
use Rattle.unlang_tree.specs.Calls.{can_be_called}

-- The calls of lists, one after the other.
abbrev pub joined : List (List Call) → List Call
joined [] = []
joined (calls ∷ more) = calls ++ joined more

-- The calls of a statement, those of the statements in it already known.
abbrev pub kind_step : StatementKind-F (List Call) (List Call) (List Call) (List Call) → List Call
kind_step (level.Call call) = call ∷ []
kind_step (level.Group group) = group
kind_step level.Return = []
kind_step (level.Update lines) = []
kind_step (level.If arms) = joined arms

abbrev pub group_step : Group-F (List Call) (List Call) (List Call) (List Call) → List Call
group_step group = joined group.statements

abbrev pub arm_step : Arm-F (List Call) (List Call) (List Call) (List Call) → List Call
arm_step arm = joined arm.statements

abbrev pub statement_step : Statement-F (List Call) (List Call) (List Call) (List Call) → List Call
statement_step statement = statement.kind

-- The calls of a statement, those of the blocks in it too, in order.
abbrev pub calls_in_kind : StatementKind → List Call
calls_in_kind = fold-StatementKind (List Call) (List Call) (List Call) (List Call) kind_step arm_step group_step statement_step

-- The calls of a statement with its place, in order.
abbrev pub calls_in : Statement → List Call
calls_in = fold-Statement (List Call) (List Call) (List Call) (List Call) kind_step arm_step group_step statement_step

-- The calls of statements, in order.
abbrev pub calls_of : List Statement → List Call
calls_of statements = flat_map calls_in statements

-- It holds of each call of statements that stand in a section.
abbrev pub EachCall : (Section → Call → Type 0) → Section → List Statement → Type 0
EachCall holds section statements = AllByRecursion (holds section) (calls_of statements)

-- It holds of each call of a section's subsections.
abbrev pub EachCallWithin : (Section → Call → Type 0) → Section → List Subsection → Type 0
EachCallWithin holds section subsections = AllByRecursion (λ (sub : Subsection). EachCall holds section sub.statements) subsections

-- It holds of each call of sections.
abbrev pub EachCallIn : (Section → Call → Type 0) → SectionTree → Type 0
EachCallIn holds tree = EachCall holds tree.section tree.statements × EachCallWithin holds tree.section tree.subsections

-- It holds of each call of each of these sections.
abbrev pub EachCallOfSections : (Section → Call → Type 0) → List SectionTree → Type 0
EachCallOfSections holds sections = AllByRecursion (EachCallIn holds) sections

-- It holds of each call of servers.
abbrev pub EachCallOf : (Section → Call → Type 0) → List ServerTree → Type 0
EachCallOf holds servers = AllByRecursion (λ (server : ServerTree). EachCallOfSections holds server.sections) servers

-- The instance that a call names is there and has a method for the section.
abbrev pub IsMet : List Instance → Section → Call → Type 0
IsMet instances section call = can_be_called instances section call.instance ≡ true

-- A call passes a test of calls in their sections.
abbrev pub Passes : (Section → Call → Bool) → Section → Call → Type 0
Passes test section call = test section call ≡ true
