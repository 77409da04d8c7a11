-- Whether an access request is let in: authorize and authenticate. This project's own, after FreeRADIUS.
use Rattle.std.specs.Prelude.{ℕ, ◌≡◌, true, Bool, List, [], ◌∷◌, Option, Some, None, Result, Ok, Err, IsSome, ok_or, codes, if◌then◌else◌}
use Rattle.std.specs.Option.{option_and_then, is_some}
use Rattle.std.specs.Str.{str_eq_ignore_ascii_case}
use Rattle.rad_outside.specs.Moments.{IsInTime}
use Rattle.rad_words.specs.declared.codes.Code.{Code}
use Rattle.rad_words.specs.declared.codes.Code.TheVariants as code
use Rattle.rad_words.specs.declared.sections.Section.{Section}
use Rattle.rad_words.specs.declared.sections.Section.TheVariants.{Authorize, Authenticate}
use Rattle.rad_value.specs.declared.scope.Scope.{Scope}
use Rattle.rad_value.specs.Pairs.{first_text}
use Rattle.rad_dict.specs.Definitions.{Definitions}
use Rattle.rad_world.specs.World.{WorldState}
use Rattle.mod_base.specs.Situation.{Situation}
use Rattle.unlang_tree.specs.declared.policies.ServerTree.{ServerTree}
use Rattle.unlang_code.specs.declared.section_id.SectionId.{SectionId}
use Rattle.unlang_code.specs.Sections.{server_of, found, statements_of}
use Rattle.unlang_code.specs.Run.{section_of}
use Rattle.rad_access.specs.declared.verdict.Verdict.{Verdict}
use Rattle.rad_access.specs.declared.verdict.Verdict.TheVariants as verdict
use Rattle.rad_access.specs.Attributes.{auth_type}
use Rattle.rad_modules.specs.SiteModules.{site_module}
use Rattle.rad_access.specs.Policies.{Policies}

-- What authorize decides by its code: none where the request goes on.
abbrev pub after_authorize : Code → Option Verdict
after_authorize code.Reject = Some verdict.Reject
after_authorize code.Fail = Some verdict.Reject
after_authorize code.Ok = None
after_authorize code.Handled = Some verdict.Withhold
after_authorize code.Invalid = Some verdict.Reject
after_authorize code.Userlock = Some verdict.Reject
after_authorize code.Notfound = None
after_authorize code.Noop = None
after_authorize code.Updated = None

-- What authenticate decides by its code.
abbrev pub after_authenticate : Code → Verdict
after_authenticate code.Reject = verdict.Reject
after_authenticate code.Fail = verdict.Reject
after_authenticate code.Ok = verdict.Accept
after_authenticate code.Handled = verdict.Withhold
after_authenticate code.Invalid = verdict.Reject
after_authenticate code.Userlock = verdict.Reject
after_authenticate code.Notfound = verdict.Reject
after_authenticate code.Noop = verdict.Reject
after_authenticate code.Updated = verdict.Reject

-- Whether there is a server of this name.
abbrev pub has_server : List ServerTree → List ℕ → Bool
has_server table name = is_some (server_of table name)

-- The section of a kind in the server of a name, or its subsection of a name.
unfoldable pub section_named : List ServerTree → List ℕ → Section → Option (List ℕ) → Option SectionId
section_named table server kind sub = option_and_then (λ (number : ℕ). found table number kind sub) (server_of table server)

-- The section is one of the table's.
abbrev pub HasStatements : List ServerTree → SectionId → Type 0
HasStatements table id = IsSome (statements_of table id)

-- Where an Auth-Type leads: `Accept` accepts and `Reject` rejects, in any case of their ASCII letters; another name
-- leads through the server's subsection of that name. Without an Auth-Type, or without that subsection, the request is
-- rejected.
abbrev pub route_of : List ServerTree → List ℕ → Option (List ℕ) → Result SectionId Verdict
route_of table server None = Err verdict.Reject
route_of table server (Some name) =
    if str_eq_ignore_ascii_case name (codes "Accept") then Err verdict.Accept
    else (if str_eq_ignore_ascii_case name (codes "Reject") then Err verdict.Reject
    else ok_or (section_named table server Authenticate (Some name)) verdict.Reject)

-- The verdict to which an Auth-Type leads, and reject where it leads through a subsection, which decides then.
abbrev pub verdict_by : Result SectionId Verdict → Verdict
verdict_by (Ok id) = verdict.Reject
verdict_by (Err verdict) = verdict

-- What is decided already, and reject where nothing is.
abbrev pub settled : Option Verdict → Verdict
settled None = verdict.Reject
settled (Some verdict) = verdict

-- The situation after a section, and its code.
abbrev pub done_in : Policies → Definitions → SectionId → Situation → Situation × Code
done_in policies dict id = section_of site_module policies.stack dict policies.table id

-- What is decided by authorize, where the server has it: without it the request goes on.
abbrev pub authorized_by : Policies → Definitions → Option SectionId → Situation → Situation × Option Verdict
authorized_by policies dict None s = (s, None)
authorized_by policies dict (Some id) s = let done = done_in policies dict id s in (done.0, after_authorize done.1)

-- What is decided by the section authorize of a server.
abbrev pub authorized : Policies → Definitions → List ℕ → Situation → Situation × Option Verdict
authorized policies dict server s = authorized_by policies dict (section_named policies.table server Authorize None) s

-- What is decided where an Auth-Type leads, by the code of the subsection.
abbrev pub decided_there : Policies → Definitions → Result SectionId Verdict → Situation → Situation × Verdict
decided_there policies dict (Err verdict) s = (s, verdict)
decided_there policies dict (Ok id) s = let done = done_in policies dict id s in (done.0, after_authenticate done.1)

-- The first Auth-Type of the control list decides.
abbrev pub authenticated : Policies → Definitions → List ℕ → Situation → Situation × Verdict
authenticated policies dict server s =
    decided_there policies dict (route_of policies.table server (first_text auth_type s.scope.lists.control)) s

-- What is decided behind authorize.
abbrev pub decided_behind : Policies → Definitions → List ℕ → Option Verdict → Situation → Situation × Verdict
decided_behind policies dict server (Some verdict) s = (s, verdict)
decided_behind policies dict server None s = authenticated policies dict server s

-- The situation behind authenticate, and whether the request was let in: authorize runs, and then authenticate where the
-- request goes on.
unfoldable pub let_in : Policies → Definitions → List ℕ → Situation → Situation × Verdict
let_in policies dict server s =
    let done = authorized policies dict server s in decided_behind policies dict server done.1 done.0

-- A section may be run: its moment is in time, and its world takes changes.
pub record IsReady (scope : Scope) (world : WorldState) : Type 0 where
  pub in_time : IsInTime scope.moment
  pub changes : world.takes_changes ≡ true
