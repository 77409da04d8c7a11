-- Post-auth and Post-Auth-Type REJECT are run behind authenticate, as they are decided.
use Rattle.std.specs.Prelude.{IfOk}
use Rattle.std.proofs.Common.{◌≡◌, ℕ, Bool, List, [], ◌++◌, Option, Some, None, Result, Ok, Err, codes, sym, ap, subst, ◌∙◌}
use Rattle.std.proofs.lemmas.List.{append-nil}
use Rattle.rad_words.specs.declared.codes.Code.{Code}
use Rattle.rad_words.specs.declared.sections.Section.TheVariants.{PostAuth}
use Rattle.rad_value.specs.declared.edits.ListName.TheVariants.{Reply}
use Rattle.rad_value.specs.declared.scope.Scope.{Scope}
use Rattle.rad_value.specs.Pairs.{is_of}
use Rattle.rad_dict.specs.Definitions.{Definitions}
use Rattle.rad_world.specs.Effects.{Effect}
use Rattle.rad_world.specs.World.{WorldState}
use Rattle.rad_world.proofs.Joining.{gains_nothing}
use Rattle.mod_base.specs.Situation.{Situation, situation_in}
use Rattle.mod_base.specs.Reaching.{Reaches}
use Rattle.mod_base.proofs.Reached.{reaches_start, reaches_then, reaches_joined}
use Rattle.mod_lists.specs.Done.{with_lists}
use Rattle.mod_filter.specs.Sieve.{sifted}
use Rattle.unlang_code.specs.declared.section_id.SectionId.{SectionId}
use Rattle.rad_access.specs.declared.verdict.Verdict.{Verdict}
use Rattle.rad_access.specs.declared.verdict.Verdict.TheVariants as verdict
use Rattle.rad_access.specs.Access.{section_named, done_in, let_in}
use Rattle.rad_access.specs.Attributes.{reply_message}
use Rattle.rad_access.specs.Decided.{after_post_auth, after_reject, posted_by, posted, posted_for, refused_by, reject_of, refused, refused_for, with_messages, behind_let_in, decided}
use Rattle.rad_access.specs.Policies.{Policies}
use Rattle.rad_access.proofs.Running.{reaches_from, if_ok}

-- One part behind another, which is chosen by what the first decided.
pub in_order : {E : Type 0} (first : Situation → Situation × Verdict) (next : Verdict → Situation → Situation × Verdict) (s0 s1 s2 : Scope) (w0 w1 w2 : WorldState) (v : Verdict) (result : Result Verdict E)
    → Reaches s0 w0 first s1 w1 (λ s. (s, v)) → IfOk result (λ after. Reaches s1 w1 (next v) s2 w2 (λ s. (s, after)))
    → IfOk result (λ after. Reaches s0 w0 (λ s. next (first s).1 (first s).0) s2 w2 (λ s. (s, after)))
in_order first next s0 s1 s2 w0 w1 w2 v result reached behind =
    if_ok result
    (λ after later. reaches_joined s0 s1 s2 w0 w1 w2 (λ s. next (first s).1 (first s).0) (next v) (λ s. (s, after))
    (reaches_then s0 s1 w0 w1 first (λ s. (s, v)) (λ d. next d.1 d.0) reached) later) behind

module _ (policies : Policies) (dict : Definitions) (server : List ℕ) where
  pub without_post_auth : (s0 : Scope) (w0 : WorldState) → section_named policies.table server PostAuth None ≡ None → Reaches s0 w0 (posted policies dict server) s0 w0 (λ s. (s, verdict.Accept))
  without_post_auth s0 w0 is =
      reaches_from s0 s0 w0 w0 (λ s. (s, verdict.Accept)) (posted policies dict server) (λ s. (s, verdict.Accept))
      (λ later earlier. ap (λ o. posted_by policies dict o (situation_in s0 w0 later earlier)) is)
      (reaches_start s0 w0 (λ s. (s, verdict.Accept)))

  pub with_post_auth : (id : SectionId) (s0 s1 : Scope) (w0 w1 : WorldState) (answer : Code) → section_named policies.table server PostAuth None ≡ Some id
      → Reaches s0 w0 (done_in policies dict id) s1 w1 (λ s. (s, answer)) → Reaches s0 w0 (posted policies dict server) s1 w1 (λ s. (s, after_post_auth answer))
  with_post_auth id s0 s1 w0 w1 answer is reached =
      let more : Situation × Code → Situation × Verdict = λ d. (d.0, after_post_auth d.1) in
      reaches_from s0 s1 w0 w1 (λ s. more (done_in policies dict id s)) (posted policies dict server) (λ s. (s, after_post_auth answer))
      (λ later earlier. ap (λ o. posted_by policies dict o (situation_in s0 w0 later earlier)) is)
      (reaches_then s0 s1 w0 w1 (done_in policies dict id) (λ s. (s, answer)) more reached)

  pub without_reject : (s0 : Scope) (w0 : WorldState) → section_named policies.table server PostAuth (Some (codes "REJECT")) ≡ None
      → Reaches s0 w0 (refused_by policies dict (reject_of policies server)) s0 w0 (λ s. (s, verdict.Reject))
  without_reject s0 w0 is =
      reaches_from s0 s0 w0 w0 (λ s. (s, verdict.Reject)) (refused_by policies dict (reject_of policies server)) (λ s. (s, verdict.Reject))
      (λ later earlier. ap (λ o. refused_by policies dict o (situation_in s0 w0 later earlier)) is)
      (reaches_start s0 w0 (λ s. (s, verdict.Reject)))

  pub with_reject : (id : SectionId) (s0 s1 : Scope) (w0 w1 : WorldState) (answer : Code) → section_named policies.table server PostAuth (Some (codes "REJECT")) ≡ Some id
      → Reaches s0 w0 (done_in policies dict id) s1 w1 (λ s. (s, answer)) → Reaches s0 w0 (refused_by policies dict (reject_of policies server)) s1 w1 (λ s. (s, after_reject answer))
  with_reject id s0 s1 w0 w1 answer is reached =
      let more : Situation × Code → Situation × Verdict = λ d. (d.0, after_reject d.1) in
      reaches_from s0 s1 w0 w1 (λ s. more (done_in policies dict id s)) (refused_by policies dict (reject_of policies server)) (λ s. (s, after_reject answer))
      (λ later earlier. ap (λ o. refused_by policies dict o (situation_in s0 w0 later earlier)) is)
      (reaches_then s0 s1 w0 w1 (done_in policies dict id) (λ s. (s, answer)) more reached)

  messages_kept : (s0 s1 : Scope) (w0 : WorldState) → s1 ≡ with_lists s0 (sifted (is_of reply_message) Reply s0.lists)
      → Reaches s0 w0 (refused policies dict server) s1 w0 (refused_by policies dict (reject_of policies server))
  messages_kept s0 s1 w0 is = record {
    added = [];
    gains = gains_nothing w0;
    same = λ later earlier.
        ap (λ (scope : Scope). refused_by policies dict (reject_of policies server) (situation_in scope w0 later earlier)) (sym is)
        ∙ ap (λ (effects : List Effect). refused_by policies dict (reject_of policies server) (situation_in s1 w0 later effects)) (sym (append-nil earlier));
  }

  -- Of the reply list the messages stay, and then Post-Auth-Type REJECT runs.
  pub refused_then : {E : Type 0} (s0 s1 s2 : Scope) (w0 w2 : WorldState) (result : Result Verdict E) → s1 ≡ with_lists s0 (sifted (is_of reply_message) Reply s0.lists)
      → IfOk result (λ after. Reaches s1 w0 (refused_by policies dict (reject_of policies server)) s2 w2 (λ s. (s, after)))
      → IfOk result (λ after. Reaches s0 w0 (refused policies dict server) s2 w2 (λ s. (s, after)))
  refused_then s0 s1 s2 w0 w2 result is behind =
      if_ok result
      (λ after later. reaches_joined s0 s1 s2 w0 w0 w2 (refused policies dict server) (refused_by policies dict (reject_of policies server)) (λ s. (s, after)) (messages_kept s0 s1 w0 is) later) behind

  -- What becomes of a request that was let in or not.
  pub behind_then : {E : Type 0} (so_far : Verdict) (s0 s1 s2 : Scope) (w0 w1 w2 : WorldState) (v : Verdict) (result : Result Verdict E) → Reaches s0 w0 (posted_for policies dict server so_far) s1 w1 (λ s. (s, v))
      → IfOk result (λ after. Reaches s1 w1 (refused_for policies dict server v) s2 w2 (λ s. (s, after))) → IfOk result (λ after. Reaches s0 w0 (behind_let_in policies dict server so_far) s2 w2 (λ s. (s, after)))
  behind_then so_far s0 s1 s2 w0 w1 w2 v result first behind = in_order (posted_for policies dict server so_far) (refused_for policies dict server) s0 s1 s2 w0 w1 w2 v result first behind

  -- What becomes of a request.
  pub decided_then : {E : Type 0} (s0 s1 s2 : Scope) (w0 w1 w2 : WorldState) (v : Verdict) (result : Result Verdict E) → Reaches s0 w0 (let_in policies dict server) s1 w1 (λ s. (s, v))
      → IfOk result (λ after. Reaches s1 w1 (behind_let_in policies dict server v) s2 w2 (λ s. (s, after))) → IfOk result (λ after. Reaches s0 w0 (decided policies dict server) s2 w2 (λ s. (s, after)))
  unfolding decided
  decided_then s0 s1 s2 w0 w1 w2 v result first behind = in_order (let_in policies dict server) (behind_let_in policies dict server) s0 s1 s2 w0 w1 w2 v result first behind
