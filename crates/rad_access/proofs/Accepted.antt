-- An accepted request was let in: what runs behind authenticate lets none in.
use Rattle.std.proofs.Common.{◌≡◌, ℕ, List, [], Option, Some, None, refl}
use Rattle.rad_words.specs.declared.codes.Code.{Code}
use Rattle.rad_words.specs.declared.codes.Code.TheVariants as code
use Rattle.rad_value.specs.PairLists.{PairLists}
use Rattle.rad_dict.specs.Definitions.{Definitions}
use Rattle.mod_base.specs.Situation.{Situation}
use Rattle.unlang_code.specs.declared.section_id.SectionId.{SectionId}
use Rattle.rad_modules.specs.declared.site_module.SiteModule.{SiteModule}
use Rattle.rad_access.specs.declared.verdict.Verdict.{Verdict}
use Rattle.rad_access.specs.declared.verdict.Verdict.TheVariants as verdict
use Rattle.rad_access.specs.Access.{authorized, done_in, let_in}
use Rattle.rad_access.specs.Decided.{after_reject, reject_of, refused_by, with_messages, behind_let_in, decided}
use Rattle.rad_access.specs.Passwords.{LetsInBy}
use Rattle.rad_access.specs.Policies.{Policies}
use Rattle.rad_access.proofs.PasswordsChecked.{accepted_has}
use Rattle.rad_access.proofs.Vouching.{Stays, Shows}

-- By its code Post-Auth-Type REJECT never accepts.
never_accepts : (answer : Code) → after_reject answer ≡ verdict.Accept → ⊥
never_accepts code.Reject is = cc
never_accepts code.Fail is = cc
never_accepts code.Ok is = cc
never_accepts code.Handled is = cc
never_accepts code.Invalid is = cc
never_accepts code.Userlock is = cc
never_accepts code.Notfound is = cc
never_accepts code.Noop is = cc
never_accepts code.Updated is = cc

module _ (policies : Policies) (dict : Definitions) (server : List ℕ) where
  refused_stays : (id : Option SectionId) (s : Situation) → (refused_by policies dict id s).1 ≡ verdict.Accept → ⊥
  refused_stays None s is = cc
  refused_stays (Some id) s is = never_accepts (done_in policies dict id s).1 is

  -- What is accepted behind authenticate was let in.
  pub accepted_behind : (so_far : Verdict) (s : Situation) → (behind_let_in policies dict server so_far s).1 ≡ verdict.Accept → so_far ≡ verdict.Accept
  accepted_behind verdict.Accept s is = refl
  accepted_behind verdict.Reject s is = absurd (refused_stays (reject_of policies server) (with_messages s) is)
  accepted_behind verdict.Withhold s is = absurd (cc)

  -- An accepted request was let in.
  pub was_let_in : (s : Situation) → (decided policies dict server s).1 ≡ verdict.Accept → (let_in policies dict server s).1 ≡ verdict.Accept
  unfolding decided
  was_let_in s is = accepted_behind (let_in policies dict server s).1 (let_in policies dict server s).0 is

-- An accepted request has what the modules of authenticate ask for, behind authorize.
pub accepted_shows : (policies : Policies) (dict : Definitions) (IsOfKind : SiteModule → Type 0) (Has : List ℕ → PairLists → Type 0) → Stays dict IsOfKind → Shows dict IsOfKind Has → (server : List ℕ) → LetsInBy IsOfKind policies server
    → (s : Situation) → s.scope.lists.control ≡ [] → (decided policies dict server s).1 ≡ verdict.Accept
    → Has (authorized policies dict server s).0.scope.authenticator (authorized policies dict server s).0.scope.lists
accepted_shows policies dict IsOfKind Has stays shows server checks s empty is =
    accepted_has policies dict IsOfKind Has stays shows server checks s empty (was_let_in policies dict server s is)
