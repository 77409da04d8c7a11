-- What a server must have so that passwords, or answers to challenges, alone let requests in. This project's own, after
-- FreeRADIUS' rlm_pap(5) and rlm_chap(5).
use Rattle.std.specs.Prelude.{ℕ, ◌≡◌, ◌≢◌, ◌⊎◌, Bool, true, false, ◌&&◌, List, [], ◌∷◌, Option, Some, None, slice_get, codes}
use Rattle.std.specs.Str.{str_eq_ignore_ascii_case}
use Rattle.rad_words.specs.declared.codes.Code.TheVariants as code
use Rattle.rad_words.specs.Attribute.{same_attr}
use Rattle.rad_value.specs.declared.edits.Edit.{Edit}
use Rattle.rad_value.specs.declared.edits.ListName.TheVariants.{Control}
use Rattle.rad_value.specs.declared.values.Value.{Value}
use Rattle.rad_value.specs.Pairs.{text_of}
use Rattle.rad_words.specs.declared.sections.Section.TheVariants.{Authorize, Authenticate}
use Rattle.mod_users.specs.Module as files
use Rattle.unlang_tree.specs.declared.statement.Call.{Call}
use Rattle.unlang_tree.specs.declared.update.Line.{Line}
use Rattle.unlang_tree.specs.declared.update.Right.{Right}
use Rattle.unlang_tree.specs.declared.update.Right.TheVariants as right
use Rattle.unlang_tree.specs.declared.statement.Statement.{Statement}
use Rattle.unlang_code.specs.declared.section_id.SectionId.{SectionId}
use Rattle.rad_value.specs.PairLists.{same_list}
use Rattle.unlang_code.specs.Leaves.{Leaf, Calls, Edits, EachLeaf}
use Rattle.unlang_code.specs.Sections.{statements_of}
use Rattle.rad_modules.specs.declared.site_module.SiteModule.{SiteModule}
use Rattle.rad_modules.specs.declared.site_module.SiteModule.TheVariants as site
use Rattle.rad_access.specs.Attributes.{auth_type}
use Rattle.rad_access.specs.Policies.{Policies}
use Rattle.rad_access.specs.Access.{section_named}

-- `Accept`, in any case of its ASCII letters.
abbrev pub is_accept : List ℕ → Bool
is_accept name = str_eq_ignore_ascii_case name (codes "Accept")

-- A value that is this text.
abbrev pub is_accept_value : Value → Bool
is_accept_value value = elim (text_of value) [ None ↦ false | Some text ↦ is_accept text ]

-- An edit can bring Auth-Type to `Accept`.
abbrev pub edit_accepts : Edit → Bool
edit_accepts edit = same_list edit.list Control && same_attr auth_type edit.attr && is_accept_value edit.value

-- A right side of a line can come to `Accept`: a value that is it, and whatever isn't known before the line is done.
abbrev pub right_accepts : Right → Bool
right_accepts (right.Value value) = is_accept_value value
right_accepts (right.Reference reference) = true
right_accepts (right.Expansion parts) = true

-- A line of an update can bring Auth-Type to `Accept`.
abbrev pub line_accepts : Line → Bool
line_accepts line = same_list line.list Control && same_attr auth_type line.attr.id && right_accepts line.right

-- A module can bring Auth-Type to `Accept`: one whose users' items name Auth-Type, and one that sets it to its own name, where
-- that is so. A filter leaves the control list alone.
abbrev pub module_accepts : SiteModule → Bool
module_accepts (site.Always m) = false
module_accepts (site.Files m) = files.edits m Control auth_type
module_accepts (site.Pap m) = is_accept m.name
module_accepts (site.Chap m) = is_accept m.name
module_accepts (site.Realm m) = false
module_accepts (site.Filter m) = false

-- So can a call of it.
abbrev pub call_accepts : Option SiteModule → Bool
call_accepts None = false
call_accepts (Some m) = module_accepts m

-- So can a statement that does something by itself: a call, or a line of an update.
abbrev pub leaf_accepts : List SiteModule → Leaf → Bool
leaf_accepts stack (Calls call) = call_accepts (slice_get stack call.instance)
leaf_accepts stack (Edits line) = line_accepts line

-- Nothing among these statements can.
abbrev pub NeverAccept : List SiteModule → List Statement → Type 0
NeverAccept stack statements = EachLeaf (λ leaf. leaf_accepts stack leaf ≡ false) statements

-- A module is an instance of `pap`.
abbrev pub IsPap : SiteModule → Type 0
IsPap (site.Always m) = ⊥
IsPap (site.Files m) = ⊥
IsPap (site.Pap m) = Unit {0}
IsPap (site.Chap m) = ⊥
IsPap (site.Realm m) = ⊥
IsPap (site.Filter m) = ⊥

-- A module is an instance of `chap`.
abbrev pub IsChap : SiteModule → Type 0
IsChap (site.Always m) = ⊥
IsChap (site.Files m) = ⊥
IsChap (site.Pap m) = ⊥
IsChap (site.Chap m) = Unit {0}
IsChap (site.Realm m) = ⊥
IsChap (site.Filter m) = ⊥

-- A module is an instance of `pap` or of `chap`.
abbrev pub IsPapOrChap : SiteModule → Type 0
IsPapOrChap m = IsPap m ⊎ IsChap m

-- A module never answers ok, and changes nothing: `always` of another code.
abbrev pub NeverOk : SiteModule → Type 0
NeverOk (site.Always m) = m.code ≢ code.Ok
NeverOk (site.Files m) = ⊥
NeverOk (site.Pap m) = ⊥
NeverOk (site.Chap m) = ⊥
NeverOk (site.Realm m) = ⊥
NeverOk (site.Filter m) = ⊥

-- A leaf is a call of a module of this kind, or of one that never answers ok.
abbrev pub CallsOnly : (SiteModule → Type 0) → List SiteModule → Leaf → Type 0
CallsOnly IsOfKind stack (Calls call) = (called : SiteModule) × (slice_get stack call.instance ≡ Some called) × (IsOfKind called ⊎ NeverOk called)
CallsOnly IsOfKind stack (Edits line) = ⊥

-- Modules of this kind are all that is called, in blocks at any depth and with whatever actions, beside those that never answer
-- ok, and nothing is updated.
abbrev pub OnlyCalls : (SiteModule → Type 0) → List SiteModule → List Statement → Type 0
OnlyCalls IsOfKind stack statements = EachLeaf (CallsOnly IsOfKind stack) statements

-- Modules of this kind alone let requests to a server in: nothing in its section authorize can bring Auth-Type to `Accept`, and
-- each subsection of authenticate only calls them.
pub record LetsInBy (IsOfKind : SiteModule → Type 0) (policies : Policies) (server : List ℕ) : Type 0 where
  pub never_accepts : (id : SectionId) (statements : List Statement) → section_named policies.table server Authorize None ≡ Some id
      → statements_of policies.table id ≡ Some statements → NeverAccept policies.stack statements
  pub only : (name : List ℕ) (id : SectionId) (statements : List Statement) → section_named policies.table server Authenticate (Some name) ≡ Some id
      → statements_of policies.table id ≡ Some statements → OnlyCalls IsOfKind policies.stack statements

-- Passwords alone let requests to a server in.
abbrev pub ChecksPasswords : Policies → List ℕ → Type 0
ChecksPasswords = LetsInBy IsPap

-- Answers to challenges alone let requests to a server in.
abbrev pub ChecksChallenges : Policies → List ℕ → Type 0
ChecksChallenges = LetsInBy IsChap

-- Passwords and answers to challenges let requests to a server in, and nothing else.
abbrev pub ChecksEither : Policies → List ℕ → Type 0
ChecksEither = LetsInBy IsPapOrChap
