-- Sections are run, one after another, as they are decided.
use Rattle.std.specs.Prelude.{IfSome, IfOk, OnOk}
use Rattle.std.specs.Option.{is_none}
use Rattle.std.proofs.Common.{◌≡◌, ℕ, Bool, true, false, List, [], ◌++◌, Option, Some, None, Result, Ok, Err, sym, ap, subst, ◌∙◌}
use Rattle.rad_words.specs.declared.codes.Code.{Code}
use Rattle.rad_words.specs.declared.sections.Section.{Section}
use Rattle.rad_words.specs.declared.sections.Section.TheVariants.{Authorize}
use Rattle.rad_value.specs.declared.scope.Scope.{Scope}
use Rattle.rad_value.specs.Pairs.{first_text}
use Rattle.rad_dict.specs.Definitions.{Definitions}
use Rattle.rad_world.specs.Effects.{Effect, answers_of}
use Rattle.rad_world.specs.World.{WorldState}
use Rattle.mod_base.specs.Situation.{Situation, situation_in}
use Rattle.mod_base.specs.Reaching.{Reaches}
use Rattle.mod_base.proofs.Reached.{reaches_start, reaches_then, reaches_joined}
use Rattle.unlang_tree.specs.declared.policies.ServerTree.{ServerTree}
use Rattle.unlang_code.specs.declared.section_id.SectionId.{SectionId}
use Rattle.unlang_code.specs.Sections.{found}
use Rattle.unlang_code.proofs.Finding.{found_stands}
use Rattle.rad_access.specs.declared.verdict.Verdict.{Verdict}
use Rattle.rad_access.specs.Attributes.{auth_type}
use Rattle.rad_access.specs.Policies.{Policies}
use Rattle.rad_modules.specs.SiteModules.{site_module}
use Rattle.rad_modules.specs.SiteLaws.{site_module_lawful}
use Rattle.rad_access.specs.Access.{section_named, HasStatements, route_of, verdict_by, settled, done_in, after_authorize, after_authenticate, authorized_by, authorized, decided_there, authenticated, decided_behind, let_in, IsReady}
use Rattle.rad_access.proofs.Moments.{section_keeps_moment}

-- what was found has statements
pub stands_if : (table : List ServerTree) (number : ℕ) (kind : Section) (sub : Option (List ℕ)) (result : Option SectionId) → result ≡ found table number kind sub → IfSome result (HasStatements table)
stands_if table number kind sub None is = tt
stands_if table number kind sub (Some id) is = found_stands table number kind sub id (sym is)

-- a meaning that is the same where a run began is as good
pub reaches_from : {A : Type 0} (s0 s1 : Scope) (w0 w1 : WorldState) (meaning other left : Situation → A) → ((later : List Bool) (earlier : List Effect) → other (situation_in s0 w0 later earlier) ≡ meaning (situation_in s0 w0 later earlier))
    → Reaches s0 w0 meaning s1 w1 left → Reaches s0 w0 other s1 w1 left
reaches_from s0 s1 w0 w1 meaning other left before a = record {
  added = a.added;
  gains = a.gains;
  same = λ later earlier. before (answers_of a.added ++ later) earlier ∙ a.same later earlier;
}

module _ (policies : Policies) (dict : Definitions) where
  -- behind a section everything is ready for another
  pub ready_behind : (id : SectionId) (s0 s1 : Scope) (w0 w1 : WorldState) (answer : Code) → Reaches s0 w0 (done_in policies dict id) s1 w1 (λ s. (s, answer)) → IsReady s0 w0 → IsReady s1 w1
  ready_behind id s0 s1 w0 w1 answer reached ready =
      let s = situation_in s0 w0 (answers_of reached.added ++ []) [] in
      let same : s1.moment ≡ s0.moment =
      ap (λ (d : Situation × Code). d.0.scope.moment) (sym (reached.same [] [])) ∙ section_keeps_moment site_module site_module_lawful policies.stack dict policies.table id s in record {
        in_time = rw same ready.in_time;
        changes = reached.gains.takes_changes ∙ ready.changes;
      }

  pub without_authorize : (server : List ℕ) (s0 : Scope) (w0 : WorldState) → section_named policies.table server Authorize None ≡ None → Reaches s0 w0 (authorized policies dict server) s0 w0 (λ s. (s, None))
  without_authorize server s0 w0 is =
      reaches_from s0 s0 w0 w0 (λ s. (s, None)) (authorized policies dict server) (λ s. (s, None))
      (λ later earlier. ap (λ o. authorized_by policies dict o (situation_in s0 w0 later earlier)) is)
      (reaches_start s0 w0 (λ s. (s, None)))

  pub with_authorize : (server : List ℕ) (id : SectionId) (s0 s1 : Scope) (w0 w1 : WorldState) (answer : Code) → section_named policies.table server Authorize None ≡ Some id
      → Reaches s0 w0 (done_in policies dict id) s1 w1 (λ s. (s, answer)) → Reaches s0 w0 (authorized policies dict server) s1 w1 (λ s. (s, after_authorize answer))
  with_authorize server id s0 s1 w0 w1 answer is reached =
      let more : Situation × Code → Situation × Option Verdict = λ d. (d.0, after_authorize d.1) in
      reaches_from s0 s1 w0 w1 (λ s. more (done_in policies dict id s)) (authorized policies dict server) (λ s. (s, after_authorize answer))
      (λ later earlier. ap (λ o. authorized_by policies dict o (situation_in s0 w0 later earlier)) is)
      (reaches_then s0 s1 w0 w1 (done_in policies dict id) (λ s. (s, answer)) more reached)

  pub by_verdict : (server : List ℕ) (verdict : Verdict) (s0 : Scope) (w0 : WorldState) → route_of policies.table server (first_text auth_type s0.lists.control) ≡ Err verdict
      → Reaches s0 w0 (authenticated policies dict server) s0 w0 (λ s. (s, verdict))
  by_verdict server verdict s0 w0 is =
      reaches_from s0 s0 w0 w0 (λ s. (s, verdict)) (authenticated policies dict server) (λ s. (s, verdict))
      (λ later earlier. ap (λ r. decided_there policies dict r (situation_in s0 w0 later earlier)) is)
      (reaches_start s0 w0 (λ s. (s, verdict)))

  pub by_subsection : (server : List ℕ) (id : SectionId) (s0 s1 : Scope) (w0 w1 : WorldState) (answer : Code) → route_of policies.table server (first_text auth_type s0.lists.control) ≡ Ok id
      → Reaches s0 w0 (done_in policies dict id) s1 w1 (λ s. (s, answer)) → Reaches s0 w0 (authenticated policies dict server) s1 w1 (λ s. (s, after_authenticate answer))
  by_subsection server id s0 s1 w0 w1 answer is reached =
      let more : Situation × Code → Situation × Verdict = λ d. (d.0, after_authenticate d.1) in
      reaches_from s0 s1 w0 w1 (λ s. more (done_in policies dict id s)) (authenticated policies dict server) (λ s. (s, after_authenticate answer))
      (λ later earlier. ap (λ r. decided_there policies dict r (situation_in s0 w0 later earlier)) is)
      (reaches_then s0 s1 w0 w1 (done_in policies dict id) (λ s. (s, answer)) more reached)

  behind_authorize : (server : List ℕ) (s0 s1 : Scope) (w0 w1 : WorldState) (decided_so_far : Option Verdict) → Reaches s0 w0 (authorized policies dict server) s1 w1 (λ s. (s, decided_so_far))
      → Reaches s0 w0 (let_in policies dict server) s1 w1 (decided_behind policies dict server decided_so_far)
  unfolding let_in
  behind_authorize server s0 s1 w0 w1 decided_so_far reached =
      reaches_then s0 s1 w0 w1 (authorized policies dict server) (λ s. (s, decided_so_far)) (λ d. decided_behind policies dict server d.1 d.0) reached

  pub let_in_at_once : (server : List ℕ) (verdict : Verdict) (s0 s1 : Scope) (w0 w1 : WorldState) → Reaches s0 w0 (authorized policies dict server) s1 w1 (λ s. (s, Some verdict))
      → Reaches s0 w0 (let_in policies dict server) s1 w1 (λ s. (s, verdict))
  let_in_at_once server verdict s0 s1 w0 w1 reached = behind_authorize server s0 s1 w0 w1 (Some verdict) reached

  pub let_in_later : (server : List ℕ) (verdict : Verdict) (s0 s1 s2 : Scope) (w0 w1 w2 : WorldState) → Reaches s0 w0 (authorized policies dict server) s1 w1 (λ s. (s, None))
      → Reaches s1 w1 (authenticated policies dict server) s2 w2 (λ s. (s, verdict)) → Reaches s0 w0 (let_in policies dict server) s2 w2 (λ s. (s, verdict))
  let_in_later server verdict s0 s1 s2 w0 w1 w2 first second =
      reaches_joined s0 s1 s2 w0 w1 w2 (let_in policies dict server) (authenticated policies dict server) (λ s. (s, verdict))
      (behind_authorize server s0 s1 w0 w1 None first) second

pub if_ok : {T E : Type 0} {P Q : T → Type 0} (result : Result T E) → ((value : T) → P value → Q value) → IfOk result P → IfOk result Q
if_ok (Ok value) more p = more value p
if_ok (Err fault) more p = tt

-- the same of what was answered
pub ready_behind_ok : {E : Type 0} (policies : Policies) (dict : Definitions) (id : SectionId) (s0 s1 : Scope) (w0 w1 : WorldState) (result : Result Code E) → IfOk result (λ answer. Reaches s0 w0 (done_in policies dict id) s1 w1 (λ s. (s, answer))) → IsReady s0 w0 → OnOk result (IsReady s1 w1)
ready_behind_ok policies dict id s0 s1 w0 w1 (Ok answer) reached ready = ready_behind policies dict id s0 s1 w0 w1 answer reached ready
ready_behind_ok policies dict id s0 s1 w0 w1 (Err fault) reached ready = tt

-- authorize decided already, or authenticate decides
pub let_in_now : (policies : Policies) (dict : Definitions) (server : List ℕ) (s0 s1 : Scope) (w0 w1 : WorldState) (so_far : Option Verdict) (verdict : Verdict) → false ≡ is_none so_far → verdict ≡ settled so_far
    → Reaches s0 w0 (authorized policies dict server) s1 w1 (λ s. (s, so_far)) → Reaches s0 w0 (let_in policies dict server) s1 w1 (λ s. (s, verdict))
let_in_now policies dict server s0 s1 w0 w1 None verdict is same reached = absurd (cc)
let_in_now policies dict server s0 s1 w0 w1 (Some answer) verdict is same reached =
    subst (λ (v : Verdict). Reaches s0 w0 (let_in policies dict server) s1 w1 (λ s. (s, v))) (sym same) (let_in_at_once policies dict server answer s0 s1 w0 w1 reached)

pub let_in_then : {E : Type 0} (policies : Policies) (dict : Definitions) (server : List ℕ) (s0 s1 s2 : Scope) (w0 w1 w2 : WorldState) (so_far : Option Verdict) (result : Result Verdict E) → true ≡ is_none so_far
    → Reaches s0 w0 (authorized policies dict server) s1 w1 (λ s. (s, so_far))
    → IfOk result (λ verdict. Reaches s1 w1 (authenticated policies dict server) s2 w2 (λ s. (s, verdict))) → IfOk result (λ verdict. Reaches s0 w0 (let_in policies dict server) s2 w2 (λ s. (s, verdict)))
let_in_then policies dict server s0 s1 s2 w0 w1 w2 None result is first second = if_ok result (λ verdict later. let_in_later policies dict server verdict s0 s1 s2 w0 w1 w2 first later) second
let_in_then policies dict server s0 s1 s2 w0 w1 w2 (Some answer) result is first second = absurd (cc)

-- an Auth-Type that leads to a verdict
pub by_verdict_of : {x : Verdict} (policies : Policies) (dict : Definitions) (server : List ℕ) (route : Result SectionId Verdict) (verdict : Verdict) (s0 : Scope) (w0 : WorldState)
    → route ≡ route_of policies.table server (first_text auth_type s0.lists.control) → route ≡ Err x → verdict ≡ verdict_by route
    → Reaches s0 w0 (authenticated policies dict server) s0 w0 (λ s. (s, verdict))
by_verdict_of {x = x} policies dict server route verdict s0 w0 leads is same =
    subst (λ (v : Verdict). Reaches s0 w0 (authenticated policies dict server) s0 w0 (λ s. (s, v))) (sym (same ∙ ap verdict_by is))
    (by_verdict policies dict server x s0 w0 (sym leads ∙ is))
