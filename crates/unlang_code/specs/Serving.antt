-- When a stack of modules serves the sections of policies. This project's own.
use Rattle.std.specs.Prelude.{◌≡◌, true, List, slice_get, Some}
use Rattle.rad_words.specs.declared.sections.Section.{Section}
use Rattle.mod_base.specs.Methods.{has_method}
use Rattle.mod_base.specs.Meaning.{Meaning}
use Rattle.unlang_tree.specs.declared.statement.Call.{Call}
use Rattle.unlang_tree.specs.declared.statement.Statement.{Statement}
use Rattle.unlang_tree.specs.declared.policies.ServerTree.{ServerTree}
use Rattle.unlang_tree.specs.EachCall.{EachCall}
use Rattle.unlang_code.specs.declared.section_id.SectionId.{SectionId}
use Rattle.unlang_code.specs.Sections.{statements_of}

-- The module that a call names is there and has a method for the section.
abbrev pub IsServed : {M : Type 0} → Meaning M → List M → Section → Call → Type 0
IsServed {M} meaning stack section call = (m : M) × (slice_get stack call.instance ≡ Some m) × (has_method (meaning.methods m) section ≡ true)

-- Each call of statements is served, those of the blocks in them too.
abbrev pub AreServed : {M : Type 0} → Meaning M → List M → Section → List Statement → Type 0
AreServed meaning stack section statements = EachCall (IsServed meaning stack) section statements

-- Each call of each section of the servers is served, each by a method for the section in which it stands.
abbrev pub Serves : {M : Type 0} → Meaning M → List M → List ServerTree → Type 0
Serves meaning stack servers = (id : SectionId) (statements : List Statement) → statements_of servers id ≡ Some statements → AreServed meaning stack id.section statements
