-- An accepted request has what the modules of authenticate ask for: the password that is known, or the answer to the challenge.
use Rattle.std.specs.Prelude.{ok_or, slice_get, unwrap_or}
use Rattle.std.specs.Option.{option_map, option_and_then}
use Rattle.std.specs.Str.{str_eq_ignore_ascii_case}
use Rattle.std.proofs.Common.{◌≡◌, ◌⊎◌, inl, inr, ℕ, Bool, true, false, cond, List, [], ◌∷◌, Option, Some, None, Result, Ok, Err, codes, refl, sym, ap, subst, ◌∙◌}
use Rattle.rad_words.specs.declared.codes.Code.{Code}
use Rattle.rad_words.specs.declared.codes.Code.TheVariants as code
use Rattle.rad_words.specs.declared.sections.Section.{Section}
use Rattle.rad_words.specs.declared.sections.Section.TheVariants.{Authorize, Authenticate}
use Rattle.rad_value.specs.Pairs.{first_text}
use Rattle.rad_value.specs.PairLists.{PairLists}
use Rattle.rad_value.specs.declared.values.Pair.{Pair}
use Rattle.rad_dict.specs.Definitions.{Definitions}
use Rattle.mod_base.specs.Situation.{Situation}
use Rattle.mod_auth.specs.LetsIn.{KnowsThePassword, HasTheDigest}
use Rattle.mod_auth.proofs.LetIn.{pap_lets_in, chap_lets_in}
use Rattle.unlang_tree.specs.declared.statement.Statement.{Statement}
use Rattle.unlang_tree.specs.declared.policies.SectionTree.{SectionTree}
use Rattle.unlang_tree.specs.declared.policies.ServerTree.{ServerTree}
use Rattle.unlang_code.specs.declared.section_id.SectionId.{SectionId}
use Rattle.unlang_code.specs.Leaves.{EachLeaf, LeafKeeps, leaves_of}
use Rattle.unlang_code.specs.Run.{section_done}
use Rattle.unlang_code.specs.Sections.{server_of, subsection_of, section_in, found, statements_of}
use Rattle.unlang_code.proofs.Keeping.{section_keeps}
use Rattle.rad_modules.specs.declared.site_module.SiteModule.{SiteModule}
use Rattle.rad_modules.specs.declared.site_module.SiteModule.TheVariants as site
use Rattle.rad_access.specs.declared.verdict.Verdict.{Verdict}
use Rattle.rad_access.specs.declared.verdict.Verdict.TheVariants as verdict
use Rattle.rad_access.specs.Access.{after_authorize, after_authenticate, section_named, route_of, done_in, authorized_by, authorized, decided_there, decided_behind, let_in}
use Rattle.rad_access.specs.Attributes.{auth_type}
use Rattle.rad_access.specs.Passwords.{is_accept, NeverAccept, IsPap, IsChap, IsPapOrChap, LetsInBy}
use Rattle.rad_access.specs.Policies.{Policies}
use Rattle.rad_modules.specs.SiteModules.{site_module}
use Rattle.rad_access.proofs.AuthTypes.{Never, leaves_never, first_is_other}
use Rattle.rad_access.proofs.Vouching.{Alike, HasIn, Stays, Shows, section_has}

-- By its code authorize never accepts.
never_at_once : (answer : Code) → after_authorize answer ≡ Some verdict.Accept → ⊥
never_at_once code.Reject is = cc
never_at_once code.Fail is = cc
never_at_once code.Ok is = cc
never_at_once code.Handled is = cc
never_at_once code.Invalid is = cc
never_at_once code.Userlock is = cc
never_at_once code.Notfound is = cc
never_at_once code.Noop is = cc
never_at_once code.Updated is = cc

module _ (policies : Policies) (dict : Definitions) (IsOfKind : SiteModule → Type 0) (Has : List ℕ → PairLists → Type 0) (stays : Stays dict IsOfKind) (shows : Shows dict IsOfKind Has) where
  abbrev HasHere : Situation → Type 0
  HasHere s = HasIn Has s

  found_kind : (section : Option SectionTree) (server : ℕ) (kind : Section) (name : List ℕ) (id : SectionId)
      → option_and_then (λ (tree : SectionTree). option_map (λ number. let one : SectionId = record { server = server; section = kind; sub = Some number } in one) (subsection_of tree.subsections name)) section ≡ Some id → id.section ≡ kind
  found_kind None server kind name id is = absurd (cc)
  found_kind (Some tree) server kind name id is = by_number (subsection_of tree.subsections name) is where
    by_number : (number : Option ℕ) → option_map (λ n. let one : SectionId = record { server = server; section = kind; sub = Some n } in one) number ≡ Some id → id.section ≡ kind
    by_number None same = absurd (cc)
    by_number (Some n) same = cc

  named_kind : (server : Option ℕ) (kind : Section) (name : List ℕ) (id : SectionId) → option_and_then (λ (number : ℕ). found policies.table number kind (Some name)) server ≡ Some id → id.section ≡ kind
  unfolding found
  named_kind None kind name id is = absurd (cc)
  named_kind (Some number) kind name id is = found_kind (section_in policies.table number kind) number kind name id is

  module _ (server : List ℕ) (checks : LetsInBy IsOfKind policies server) where
    by_statements : (name : List ℕ) (id : SectionId) (statements : Option (List Statement)) (s : Situation) → section_named policies.table server Authenticate (Some name) ≡ Some id → statements_of policies.table id ≡ statements
        → after_authenticate (section_done site_module policies.stack dict Authenticate (unwrap_or statements []) s).1 ≡ verdict.Accept → HasHere s
    by_statements name id None s named at is = absurd (cc)
    by_statements name id (Some statements) s named at is = section_has policies.stack dict IsOfKind Has stays shows statements s (checks.only name id statements named at) is

    by_section : (name : List ℕ) (id : SectionId) (s : Situation) → section_named policies.table server Authenticate (Some name) ≡ Some id → after_authenticate (done_in policies dict id s).1 ≡ verdict.Accept
        → HasHere s
    unfolding section_named
    by_section name id s named is =
        by_statements name id (statements_of policies.table id) s named refl
        (subst (λ (kind : Section). after_authenticate (section_done site_module policies.stack dict kind (unwrap_or (statements_of policies.table id) []) s).1 ≡ verdict.Accept)
        (named_kind (server_of policies.table server) Authenticate name id named) is)

    by_id : (name : List ℕ) (id : Option SectionId) (s : Situation) → section_named policies.table server Authenticate (Some name) ≡ id → (decided_there policies dict (ok_or id verdict.Reject) s).1 ≡ verdict.Accept
        → HasHere s
    by_id name None s named is = absurd (cc)
    by_id name (Some id) s named is = by_section name id s named is

    by_tests : (name : List ℕ) (accepts rejects : Bool) (s : Situation) → accepts ≡ false
        → (decided_there policies dict (cond accepts (Err verdict.Accept) (cond rejects (Err verdict.Reject) (ok_or (section_named policies.table server Authenticate (Some name)) verdict.Reject))) s).1 ≡ verdict.Accept
        → HasHere s
    by_tests name true rejects s other is = absurd (cc)
    by_tests name false true s other is = absurd (cc)
    by_tests name false false s other is = by_id name (section_named policies.table server Authenticate (Some name)) s refl is

    by_name : (named : Option (List ℕ)) (s : Situation) → ((name : List ℕ) → named ≡ Some name → is_accept name ≡ false)
        → (decided_there policies dict (route_of policies.table server named) s).1 ≡ verdict.Accept → HasHere s
    by_name None s other is = absurd (cc)
    by_name (Some name) s other is = by_tests name (str_eq_ignore_ascii_case name (codes "Accept")) (str_eq_ignore_ascii_case name (codes "Reject")) s (other name refl) is

    behind : (so_far : Option Verdict) (s : Situation) → (so_far ≡ Some verdict.Accept → ⊥) → Never s.scope.lists → (decided_behind policies dict server so_far s).1 ≡ verdict.Accept → HasHere s
    behind (Some answer) s never all is = absurd (never (ap (λ (v : Verdict). Some v) is))
    behind None s never all is = by_name (first_text auth_type s.scope.lists.control) s (λ name named. first_is_other s.scope.lists name all named) is

    -- what authorize leaves
    leaves_other : (id : SectionId) (statements : Option (List Statement)) → section_named policies.table server Authorize None ≡ Some id → statements_of policies.table id ≡ statements
        → EachLeaf (LeafKeeps Never site_module policies.stack dict id.section) (unwrap_or statements [])
    leaves_other id None named at = tt
    leaves_other id (Some statements) named at = leaves_never policies.stack dict id.section (leaves_of statements) (checks.never_accepts id statements named at)

    authorize_other : (id : Option SectionId) (s : Situation) → section_named policies.table server Authorize None ≡ id → Never s.scope.lists
        → Never (authorized_by policies dict id s).0.scope.lists × ((authorized_by policies dict id s).1 ≡ Some verdict.Accept → ⊥)
    authorize_other None s named all = (all, λ is. cc)
    authorize_other (Some id) s named all = (
      section_keeps Never site_module policies.stack dict id.section (unwrap_or (statements_of policies.table id) []) (leaves_other id (statements_of policies.table id) named refl) s all,
      never_at_once (done_in policies dict id s).1,
    )

    -- A request that was let in has it, behind authorize.
    pub accepted_has : (s : Situation) → s.scope.lists.control ≡ [] → (let_in policies dict server s).1 ≡ verdict.Accept → HasHere (authorized policies dict server s).0
    unfolding let_in
    accepted_has s empty is =
        let done = authorized policies dict server s in
        let begins : Never s.scope.lists = rw empty tt in
        let kept = authorize_other (section_named policies.table server Authorize None) s refl begins in
        behind done.1 done.0 kept.1 kept.0 is

-- What `pap` and `chap` ask for.
abbrev pub Knows : List ℕ → PairLists → Type 0
Knows authenticator lists = KnowsThePassword lists

abbrev pub KnowsOrHas : List ℕ → PairLists → Type 0
KnowsOrHas authenticator lists = KnowsThePassword lists ⊎ HasTheDigest authenticator lists

pub pap_shows : (dict : Definitions) → Shows dict IsPap Knows
pap_shows dict (site.Always m) s is_pap is = absurd is_pap
pap_shows dict (site.Files m) s is_pap is = absurd is_pap
pap_shows dict (site.Pap m) s is_pap is = (pap_lets_in s.scope.lists).0 is
pap_shows dict (site.Chap m) s is_pap is = absurd is_pap
pap_shows dict (site.Realm m) s is_pap is = absurd is_pap
pap_shows dict (site.Filter m) s is_pap is = absurd is_pap

pub chap_shows : (dict : Definitions) → Shows dict IsChap HasTheDigest
chap_shows dict (site.Always m) s is_chap is = absurd is_chap
chap_shows dict (site.Files m) s is_chap is = absurd is_chap
chap_shows dict (site.Pap m) s is_chap is = absurd is_chap
chap_shows dict (site.Chap m) s is_chap is = (chap_lets_in s.scope.authenticator s.scope.lists).0 is
chap_shows dict (site.Realm m) s is_chap is = absurd is_chap
chap_shows dict (site.Filter m) s is_chap is = absurd is_chap

pub either_shows : (dict : Definitions) → Shows dict IsPapOrChap KnowsOrHas
either_shows dict m s (inl is_pap) is = inl (pap_shows dict m s is_pap is)
either_shows dict m s (inr is_chap) is = inr (chap_shows dict m s is_chap is)

-- In authenticate neither changes anything.
pub pap_stays : (dict : Definitions) → Stays dict IsPap
pap_stays dict (site.Always m) s is_pap = absurd is_pap
pap_stays dict (site.Files m) s is_pap = absurd is_pap
pap_stays dict (site.Pap m) s is_pap = record { lists = refl; authenticator = refl }
pap_stays dict (site.Chap m) s is_pap = absurd is_pap
pap_stays dict (site.Realm m) s is_pap = absurd is_pap
pap_stays dict (site.Filter m) s is_pap = absurd is_pap

pub chap_stays : (dict : Definitions) → Stays dict IsChap
chap_stays dict (site.Always m) s is_chap = absurd is_chap
chap_stays dict (site.Files m) s is_chap = absurd is_chap
chap_stays dict (site.Pap m) s is_chap = absurd is_chap
chap_stays dict (site.Chap m) s is_chap = record { lists = refl; authenticator = refl }
chap_stays dict (site.Realm m) s is_chap = absurd is_chap
chap_stays dict (site.Filter m) s is_chap = absurd is_chap

pub either_stays : (dict : Definitions) → Stays dict IsPapOrChap
either_stays dict m s (inl is_pap) = pap_stays dict m s is_pap
either_stays dict m s (inr is_chap) = chap_stays dict m s is_chap
