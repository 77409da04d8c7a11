-- What a rejected request's reply can have: its messages, and what Post-Auth-Type REJECT adds. This project's own, after
-- FreeRADIUS.
use Rattle.std.specs.Prelude.{ℕ, ◌≡◌, Bool, false, ◌&&◌, List, Option, Some, None, slice_get}
use Rattle.rad_words.specs.declared.attributes.AttrId.{AttrId}
use Rattle.rad_words.specs.Attribute.{same_attr}
use Rattle.rad_value.specs.declared.edits.ListName.TheVariants.{Reply}
use Rattle.rad_value.specs.declared.values.Pair.{Pair}
use Rattle.rad_value.specs.PairLists.{with_list, same_list}
use Rattle.mod_base.specs.Situation.{Situation}
use Rattle.mod_lists.specs.Done.{with_lists}
use Rattle.mod_filter.specs.Module.{users_of, filter_writes}
use Rattle.unlang_tree.specs.declared.statement.Statement.{Statement}
use Rattle.unlang_tree.specs.declared.update.Line.{Line}
use Rattle.unlang_code.specs.declared.section_id.SectionId.{SectionId}
use Rattle.unlang_code.specs.Leaves.{Leaf, Calls, Edits, EachLeaf}
use Rattle.unlang_code.specs.Sections.{statements_of}
use Rattle.rad_modules.specs.declared.site_module.SiteModule.{SiteModule}
use Rattle.rad_modules.specs.declared.site_module.SiteModule.TheVariants as site
use Rattle.rad_modules.specs.SiteModules.{edits_of}
use Rattle.rad_access.specs.Policies.{Policies}
use Rattle.rad_access.specs.Decided.{reject_of}

-- A module can add pairs of an attribute to the reply list: a filter by an item `:=` alone.
abbrev pub module_adds : AttrId → SiteModule → Bool
module_adds attr (site.Always m) = false
module_adds attr (site.Files m) = edits_of (site.Files m) Reply attr
module_adds attr (site.Pap m) = edits_of (site.Pap m) Reply attr
module_adds attr (site.Chap m) = edits_of (site.Chap m) Reply attr
module_adds attr (site.Realm m) = edits_of (site.Realm m) Reply attr
module_adds attr (site.Filter m) = filter_writes (users_of m) attr

-- So can a call of it.
abbrev pub call_adds : AttrId → Option SiteModule → Bool
call_adds attr None = false
call_adds attr (Some m) = module_adds attr m

-- A line of an update names an attribute of the reply list.
abbrev pub line_names : AttrId → Line → Bool
line_names attr line = same_list line.list Reply && same_attr attr line.attr.id

-- A statement that does something by itself can add pairs of an attribute to the reply list: a call, or a line of an update.
abbrev pub leaf_adds : List SiteModule → AttrId → Leaf → Bool
leaf_adds stack attr (Calls call) = call_adds attr (slice_get stack call.instance)
leaf_adds stack attr (Edits line) = line_names attr line

-- Nothing in a server's Post-Auth-Type REJECT, where it has it, can add pairs of an attribute to the reply list.
abbrev pub RejectNeverAdds : Policies → List ℕ → AttrId → Type 0
RejectNeverAdds policies server attr = (id : SectionId) (statements : List Statement) → reject_of policies server ≡ Some id → statements_of policies.table id ≡ Some statements
    → EachLeaf (λ leaf. leaf_adds policies.stack attr leaf ≡ false) statements

-- The situation with another reply list.
abbrev pub with_reply : List Pair → Situation → Situation
with_reply reply s = record s { scope = with_lists s.scope (with_list s.scope.lists Reply reply) }
