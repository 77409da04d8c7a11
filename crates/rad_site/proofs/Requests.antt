-- What a site answers, from the outcome that was made.
use Rattle.std.specs.Prelude.{IfOk}
use Rattle.std.proofs.Common.{ℕ, ◌≡◌, Bool, List, [], ◌++◌, Result, Ok, Err, sym, ap, subst, ◌∙◌}
use Rattle.rad_value.specs.declared.scope.Scope.{Scope}
use Rattle.rad_value.specs.PairLists.{PairLists}
use Rattle.rad_value.specs.Scope.{IsFresh, IsOf}
use Rattle.rad_sessions.specs.declared.session.Session.{Session}
use Rattle.rad_world.specs.Effects.{answers_of}
use Rattle.rad_world.specs.World.{WorldState}
use Rattle.mod_base.specs.Situation.{Situation, situation_in}
use Rattle.mod_base.specs.Reaching.{Reaches}
use Rattle.rad_packet.specs.Packet.{packet_of, authenticator_of}
use Rattle.rad_wire.specs.Pairs.{pairs_of, requested}
use Rattle.rad_policy.specs.declared.arrival.Arrived.{Arrived}
use Rattle.rad_policy.specs.declared.outcome.Outcome.{Outcome}
use Rattle.rad_policy.specs.declared.outcome.Outcome.TheVariants as outcome
use Rattle.rad_policy.specs.Policy.{Reply}
use Rattle.rad_policy.specs.Seen.{GivesOutcome}
use Rattle.rad_access.specs.declared.verdict.Verdict.{Verdict}
use Rattle.rad_access.specs.Decided.{decided}
use Rattle.rad_site.specs.Request.{IsOutcome, Answers, secret_of, begun_scope, begun_in, reply_to, access_of}
use Rattle.rad_site.specs.Meaning.{site_meaning}
use Rattle.rad_site.specs.Site.{Site}
use Rattle.rad_site.proofs.Scopes.{scope_begins}

-- the outcome is what the site gives
pub gives_outcome : (site : Site) (arrival : Arrived) (moment luck : ℕ) (result : Outcome) → Answers site arrival moment luck result → GivesOutcome site_meaning site arrival moment luck result
gives_outcome site arrival moment luck (outcome.Sent octets) made = made
gives_outcome site arrival moment luck outcome.Withheld made = made
gives_outcome site arrival moment luck outcome.NoMemory made = ([], tt)

-- what was decided of a packet is what the site answers
pub answered : (site : Site) (arrival : Arrived) (packet secret : List ℕ) (lists : PairLists) (scope : Scope) (moment luck : ℕ) (answers : List Bool) (end : Situation × Verdict)
    → packet ≡ packet_of arrival.bytes → secret ≡ secret_of site arrival.from.addr → lists ≡ requested (pairs_of packet secret site.dict)
    → scope ≡ begun_scope lists arrival.from moment luck (authenticator_of packet)
    → decided site.policies site.dict arrival.server (begun_in scope answers) ≡ end
    → reply_to end.0.scope.lists end.1 packet secret ≡ access_of site arrival moment luck answers
unfolding access_of
answered site arrival packet secret lists scope moment luck answers end packet_is secret_is lists_are scope_is decision =
    let run : Scope → Situation × Verdict = λ s. decided site.policies site.dict arrival.server (begun_in s answers) in
    let whole : List ℕ → List ℕ → Situation × Verdict = λ p s. run (begun_scope (requested (pairs_of p s site.dict)) arrival.from moment luck (authenticator_of p)) in
    let reply : List ℕ → List ℕ → Reply = λ p s. reply_to (whole p s).0.scope.lists (whole p s).1 p s in
    ap (λ (e : Situation × Verdict). reply_to e.0.scope.lists e.1 packet secret)
    (sym decision ∙ ap run (scope_is ∙ ap (λ (l : PairLists). begun_scope l arrival.from moment luck (authenticator_of packet)) lists_are))
    ∙ ap (λ p. reply p secret) packet_is
    ∙ ap (λ s. reply (packet_of arrival.bytes) s) secret_is

-- where a run in a world without sessions began in this scope and came to a verdict, some answers of devices decide so
pub decided_in : (site : Site) (server : List ℕ) (s0 s1 : Scope) (w0 w1 : WorldState) (verdict : Verdict) → w0.sessions ≡ []
    → (reached : Reaches s0 w0 (decided site.policies site.dict server) s1 w1 (λ s. (s, verdict)))
    → decided site.policies site.dict server (begun_in s0 (answers_of reached.added ++ [])) ≡ (situation_in s1 w1 [] ([] ++ reached.added), verdict)
decided_in site server s0 s1 w0 w1 verdict none reached =
    ap (λ (sessions : List Session). decided site.policies site.dict server (record { scope = s0; sessions = sessions; answers = answers_of reached.added ++ []; effects = [] })) (sym none) ∙ reached.same [] []

if_ok : {T E : Type 0} {P Q : T → Type 0} (result : Result T E) → ((value : T) → P value → Q value) → IfOk result P → IfOk result Q
if_ok (Ok value) more p = more value p
if_ok (Err fault) more p = tt

-- where a run in a world without sessions began with a request and came to a verdict, a reply of that verdict is what the site
-- answers
pub answers_by : {E : Type 0} (site : Site) (arrival : Arrived) (packet secret : List ℕ) (lists : PairLists) (s0 s1 : Scope) (w0 w1 : WorldState) (moment luck : ℕ) (authenticator : List ℕ) (verdict : Verdict) (result : Result Outcome E)
    → packet ≡ packet_of arrival.bytes → secret ≡ secret_of site arrival.from.addr → lists ≡ requested (pairs_of packet secret site.dict)
    → IsFresh s0 → IsOf s0 lists arrival.from moment luck authenticator → authenticator ≡ authenticator_of packet → w0.sessions ≡ []
    → Reaches s0 w0 (decided site.policies site.dict arrival.server) s1 w1 (λ s. (s, verdict))
    → IfOk result (IsOutcome (reply_to s1.lists verdict packet secret)) → IfOk result (Answers site arrival moment luck)
answers_by site arrival packet secret lists s0 s1 w0 w1 moment luck authenticator verdict result packet_is secret_is lists_are fresh of is_authenticator none reached replied =
    let answers = answers_of reached.added ++ [] in
    let end : Situation × Verdict = (situation_in s1 w1 [] ([] ++ reached.added), verdict) in
    let begun = scope_begins s0 lists arrival.from moment luck authenticator fresh of ∙ ap (begun_scope lists arrival.from moment luck) is_authenticator in
    let same = answered site arrival packet secret lists s0 moment luck answers end packet_is secret_is lists_are begun (decided_in site arrival.server s0 s1 w0 w1 verdict none reached) in
    if_ok result (λ outcome made. (answers, subst (λ (r : Reply). IsOutcome r outcome) same made)) replied
