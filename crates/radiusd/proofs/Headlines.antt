-- The headline of a run, from what its parts left.
use Rattle.std.proofs.Common.{ℕ, ◌≡◌, ◌⊎◌, ◌≤◌, ◌++◌, List, [], ◌∷◌, Bool, true, Option, None, Ok, length, inl, inr, refl, ap, sym, ◌∙◌, subst, append-nil, append_assoc, arith}
use Rattle.std.specs.List.{AllByRecursion}
use Rattle.rad_outside.specs.declared.crew.Kit.{Kit}
use Rattle.rad_outside.specs.Crew.{Handed}
use Rattle.rad_outside.specs.Telling.{Tells}
use Rattle.rad_core.specs.declared.installed.Installed.{Installed}
use Rattle.rad_core.specs.State.{ServerState, opening}
use Rattle.rad_core.specs.declared.entry.Entry.{Entry}
use Rattle.rad_core.specs.declared.entry.Entry.TheVariants.{Install}
use Rattle.rad_core.specs.Step.{after, IsLegal}
use Rattle.rad_core.specs.Worker.{Placed, placed, of_worker, IsClosed, IsOwn}
use Rattle.rad_core.proofs.Histories.{run-append, IsLegal-append, of_worker-own}
use Rattle.rad_core.proofs.Stemming.{keeps_replies}
use Rattle.rad_core.proofs.Completeness.{may_all, may_own, each_one_reply}
use Rattle.rad_build.specs.declared.fault.BuildFault.{BuildFault}
use Rattle.rad_serve.specs.declared.left.Left.{Left}
use Rattle.rad_site.specs.Site.{Site}
use Rattle.rad_site.specs.Meaning.{site_meaning}
use Rattle.rad_serve.specs.History.{state_after, Installs}
use Rattle.radiusd.specs.Loading.{listener_of, TriesInstall}
use Rattle.rad_serve.specs.Told.{KitTells, Told, GrowsBy}
use Rattle.rad_serve.specs.Leaving.{Leaves, IsAtEnd}
use Rattle.rad_outside.specs.Printing.{Prints}
use Rattle.radiusd.specs.Course.{Course, Serving, Takes, BeginsWithInstall, IsExcused, Call, call_of, lines_of}
use Rattle.rad_serve.specs.Serving.{GoesOn}
use Rattle.radiusd.specs.Headline.{Headline, IsNamed}

-- what is legal after the state is legal after the history
legal_all : (before now added : List (Entry Site BuildFault)) → IsLegal site_meaning opening before → now ≡ before ++ added → IsLegal site_meaning (state_after before) added → IsLegal site_meaning opening now
legal_all before now added legal grows more =
    subst (λ (h : List (Entry Site BuildFault)). IsLegal site_meaning opening h) (sym grows) (IsLegal-append site_meaning opening before added legal more)

-- entries of worker 0 are named
named-own : (kits : ℕ) (entries : List (Entry Site BuildFault)) → AllByRecursion (IsOwn 0) entries → AllByRecursion (IsNamed kits) entries
named-own kits [] own = tt
named-own kits (entry ∷ more) own = (inl own.0, named-own kits more own.1)

-- what an install that was tried adds, and what nothing adds
record IsFew (site : Site) (state : ServerState Site) (added : List (Entry Site BuildFault)) : Type 0 where
  whole : IsClosed (placed site_meaning state added)
  named : AllByRecursion (IsNamed 0) added
  begins : BeginsWithInstall site added
  few : length added ≤ 1

few_nothing : (site : Site) (state : ServerState Site) → IsFew site state []
few_nothing site state = record { whole = tt; named = tt; begins = tt; few = omega arith }

few_install : (site : Site) (state : ServerState Site) (answer : Installed BuildFault) → IsFew site state (Install 0 (Ok site) (listener_of site ∷ []) answer ∷ [])
few_install site state answer = record { whole = tt; named = (inl refl, tt); begins = (answer, refl); few = omega arith }

is_few : (site : Site) (state : ServerState Site) (added : List (Entry Site BuildFault)) → (added ≡ []) ⊎ ((answer : Installed BuildFault) × (added ≡ Install 0 (Ok site) (listener_of site ∷ []) answer ∷ [])) → IsFew site state added
is_few site state added tried = elim tried [
  | inl none ↦ subst (λ (entries : List (Entry Site BuildFault)). IsFew site state entries) (sym none) (few_nothing site state)
  | inr one ↦ subst (λ (entries : List (Entry Site BuildFault)). IsFew site state entries) (sym one.1) (few_install site state one.0)
]

-- an install that succeeded was tried
pub tried_install : (before now : List (Entry Site BuildFault)) (site : Site) (is_present : Bool) → Installs before now site (listener_of site ∷ []) is_present → TriesInstall before now site
tried_install before now site is_present installs = record {
  added = Install 0 (Ok site) (listener_of site ∷ []) installs.answer ∷ [];
  grows = installs.grows;
  legal = installs.legal;
  tried = inr (installs.answer, refl);
}

module _ {W S K U G L : Type 0} (tells : KitTells W K U) (status : ℕ) (crew_before crew_now : Option (List (Handed W S K U G))) (log_before log_now : L) (printed_before printed_now : Option (List ℕ)) (sink_before sink_now : ℕ) where
  -- nothing was added, and no kit was taken
  pub headline_idle : (course : Course) (history : List (Entry Site BuildFault)) → IsLegal site_meaning opening history → Takes {W = W} {S = S} {K = K} {U = U} {G = G} course status [] [] → Tells crew_before crew_now (GrowsBy []) → log_now ≡ log_before → Tells printed_before printed_now (Prints (lines_of {H = Handed W S K U G} course status [] []) (IsExcused sink_before sink_now status)) → Headline tells course status crew_before crew_now log_before log_now printed_before printed_now sink_before sink_now history history []
  headline_idle course history legal takes crew log printed = record {
    added = [];
    begins = sym (append-nil history);
    legal_history = legal;
    repeats = keeps_replies site_meaning history legal;
    whole = tt;
    handed = [];
    handed_out = crew;
    named = tt;
    loads = takes;
    served_in_order = tt;
    replies_in_order = tt;
    outcomes = tt;
    appends = tt;
    control = tt;
    session_log = log;
    printed_lines = printed;
  }

  -- the site's install was tried, and no kit was handed out
  pub headline_without_kit : (site : Site) (before now : List (Entry Site BuildFault)) → IsLegal site_meaning opening before → TriesInstall before now site → ¬ (status ≡ 0) → Tells crew_before crew_now (GrowsBy []) → log_now ≡ log_before → Tells printed_before printed_now (Prints (lines_of {H = Handed W S K U G} (Serving site) status [] []) (IsExcused sink_before sink_now status)) → Headline tells (Serving site) status crew_before crew_now log_before log_now printed_before printed_now sink_before sink_now before now []
  headline_without_kit site before now legal tries unfinished crew log printed =
      let few = is_few site (state_after before) tries.added tries.tried in
      record {
        added = tries.added;
        begins = tries.grows;
        legal_history = legal_all before now tries.added legal tries.grows tries.legal;
        repeats = keeps_replies site_meaning now (legal_all before now tries.added legal tries.grows tries.legal);
        whole = few.whole;
        handed = [];
        handed_out = crew;
        named = few.named;
        loads = (few.begins, inr (refl, few.few, unfinished));
        served_in_order = tt;
        replies_in_order = tt;
        outcomes = tt;
        appends = tt;
        control = tt;
        session_log = log;
        printed_lines = printed;
      }

  -- one kit was handed out, and served from the install on
  pub headline_with_kit : (site : Site) (before mid now : List (Entry Site BuildFault)) (handed : Handed W S K U G) (kit : Kit W S K U G) (left : Option Left) → IsLegal site_meaning opening before → Installs before mid site (listener_of site ∷ []) true → Tells crew_before crew_now (GrowsBy (handed ∷ [])) → call_of handed ≡ (record { worker = 0; listen = listener_of site; control = None }) → GoesOn tells 0 handed.listen left mid now (record handed.kit { listener = 0 }) kit → (status ≡ 0 → IsAtEnd left) → log_now ≡ log_before → ((added : List (Entry Site BuildFault)) → now ≡ before ++ added → Tells printed_before printed_now (Prints (lines_of (Serving site) status (handed ∷ []) added) (IsExcused sink_before sink_now status))) → Headline tells (Serving site) status crew_before crew_now log_before log_now printed_before printed_now sink_before sink_now before now (kit ∷ [])
  headline_with_kit site before mid now handed kit left legal installs crew called goes at_end log printed =
      let first = Install 0 (Ok site) (listener_of site ∷ []) installs.answer in
      let start = after site_meaning (state_after before) first in
      let state : state_after mid ≡ start = ap state_after installs.grows ∙ run-append site_meaning opening before (first ∷ []) in
      let whole : placed site_meaning (state_after mid) goes.added ≡ placed site_meaning start goes.added = ap (λ (s : ServerState Site). placed site_meaning s goes.added) state in
      let mine = of_worker 0 (placed site_meaning start goes.added) in
      let same : placed site_meaning (state_after mid) goes.added ≡ mine = whole ∙ sym (of_worker-own site_meaning 0 start goes.added goes.own) in
      let told : Told tells 0 handed.listen (record handed.kit { listener = 0 }) kit mine =
      subst (λ (ps : List (Placed Site BuildFault)). Told tells 0 handed.listen (record handed.kit { listener = 0 }) kit ps) same goes.told in
      let grows : now ≡ before ++ (first ∷ goes.added) = goes.grows ∙ ap (λ h. h ++ goes.added) installs.grows ∙ append_assoc before (first ∷ []) goes.added in
      let rest : IsLegal site_meaning start goes.added = subst (λ (s : ServerState Site). IsLegal site_meaning s goes.added) state goes.legal in
      record {
        added = first ∷ goes.added;
        begins = grows;
        legal_history = legal_all before now (first ∷ goes.added) legal grows (installs.legal.0, rest);
        repeats = keeps_replies site_meaning now (legal_all before now (first ∷ goes.added) legal grows (installs.legal.0, rest));
        whole = subst IsClosed whole goes.told.closed;
        handed = handed ∷ [];
        handed_out = crew;
        named = (inl refl, named-own 1 goes.added goes.own);
        loads = ((installs.answer, refl), inl (ap (λ (call : Call). call ∷ []) called));
        served_in_order = (
          record {
            received = told.served_in_order;
            own = told.own;
            closed = told.closed;
          },
          tt,
        );
        replies_in_order = (
          record {
            sent = told.replies_in_order;
            each = each_one_reply site_meaning mine (may_own site_meaning 0 (placed site_meaning start goes.added) (may_all site_meaning start goes.added rest)) told.closed;
          },
          tt,
        );
        outcomes = (record { moments = told.moments_in_order; words = told.words; drawn = told.words_in_order; outcomes = told.outcomes }, tt);
        appends = (told.shelf, tt);
        control = (
          record {
            left = left;
            leaves = subst (λ (ps : List (Placed Site BuildFault)). Leaves tells left handed.kit.wire kit.wire ps) same goes.leaves;
            at_end = at_end;
          },
          tt,
        );
        session_log = log;
        printed_lines = printed (first ∷ goes.added) grows;
      }
