-- What one datagram's way adds to the stored history.
use Rattle.std.proofs.Common.{ℕ, ◌≡◌, ◌+◌, ◌++◌, List, [], ◌∷◌, Bool, cond, take, Option, Some, None, refl, ap, sym, ◌∙◌, subst, append_assoc, arith}
use Rattle.std.specs.List.{count_by}
use Rattle.std.specs.Option.{is_some}
use Rattle.std.specs.Arc.{arc_value}
use Rattle.rad_policy.specs.declared.arrival.Arrived.{Arrived}
use Rattle.rad_policy.specs.declared.outcome.Outcome.{Outcome}
use Rattle.rad_policy.specs.declared.outcome.Outcome.TheVariants as outcome
use Rattle.rad_core.specs.declared.started.StartAnswer.{StartAnswer}
use Rattle.rad_core.specs.declared.started.StartAnswer.TheVariants.{Dropped, Repeat, Busy, Full, Fresh, NoRoom}
use Rattle.rad_core.specs.declared.started.Started.{Started}
use Rattle.rad_core.specs.declared.started.Started.TheVariants as started
use Rattle.rad_core.specs.declared.started.Ticket.{Ticket}
use Rattle.rad_core.specs.State.{ServerState, at_moment}
use Rattle.rad_core.specs.declared.entry.Entry.{Entry}
use Rattle.rad_core.specs.declared.entry.Entry.TheVariants.{Start, Finish}
use Rattle.rad_core.specs.Step.{Step}
use Rattle.rad_policy.specs.Policy.{IsAuthenticUnder}
use Rattle.rad_policy.specs.Seen.{ending_seen, GivesOutcome}
use Rattle.rad_core.specs.Answers.{answer_seen, IsHeld, FillsBuffer}
use Rattle.rad_core.specs.Worker.{Answer, reply_of, IsOutcome, Passes}
use Rattle.rad_turn.specs.declared.view.View.{View}
use Rattle.rad_core.specs.Behind.{TurnAdds}
use Rattle.rad_core.proofs.Behind.{alone_adds}
use Rattle.rad_core.proofs.Turns.{IsUnanswered, passes_unanswered, passes_repeat, passes_fresh, held_after_start, fresh_present, moment_after}
use Rattle.rad_build.specs.declared.fault.BuildFault.{BuildFault}
use Rattle.rad_serve.specs.declared.turn.Reply.{Reply}
use Rattle.rad_site.specs.Site.{Site}
use Rattle.rad_site.specs.Meaning.{site_meaning}
use Rattle.rad_serve.specs.History.{IsAlone, state_after}
use Rattle.rad_serve.specs.Turn.{AddsTurn, CountsTurn, AnswersAtOnce, FitsAnswer, answers_of, IsCopied}
use Rattle.rad_serve.specs.declared.counts.Tally.{Tally}
use Rattle.rad_serve.specs.Counting.{sends, is_repeat, is_request, is_reply, is_install, is_refusal}
use Rattle.rad_serve.proofs.Kept.{grows, stepped}
use Rattle.rad_serve.proofs.Tallies.{tally_push, same_tally, length_push}

-- a start that has no ticket is one entry, and has the reply that is in the buffer
pub turn_at_once : {O B : Type 0} (v w : View (Entry Site BuildFault) O B) (arrival : Arrived) (answer : Started Site) (buffer : List ℕ) (reply : Option Reply) (luck : ℕ) → AnswersAtOnce answer reply → IsAlone v → TurnAdds site_meaning v w (Start arrival (answer_seen answer buffer)) → AddsTurn v.seen w.seen (state_after v.seen) (state_after w.seen) arrival luck (answers_of arrival reply buffer)
turn_at_once v w arrival answer buffer reply luck at_once alone adds = (
  Start arrival (answer_seen answer buffer) ∷ [],
  grows v w (Start arrival (answer_seen answer buffer)) alone adds,
  passes_at_once (state_after v.seen) (state_after w.seen) arrival answer buffer reply luck at_once alone.kept.idle (stepped v w (Start arrival (answer_seen answer buffer)) alone adds),
)
  where
    unanswered : (old new : ServerState Site) (arrival : Arrived) (luck : ℕ) (answer : StartAnswer) (buffer : List ℕ) (reply : Option Reply) → IsUnanswered answer → reply ≡ None → old.table.in_progress ≡ [] → Step site_meaning old (Start arrival answer) new → Passes site_meaning old new (Start arrival answer ∷ []) arrival luck (answers_of arrival reply buffer)
    unanswered old new arrival luck answer buffer reply un none idle step =
        subst (λ (r : Option Reply). Passes site_meaning old new (Start arrival answer ∷ []) arrival luck (answers_of arrival r buffer)) (sym none) (passes_unanswered site_meaning old new arrival luck answer un idle step)

    passes_at_once : (old new : ServerState Site) (arrival : Arrived) (answer : Started Site) (buffer : List ℕ) (reply : Option Reply) (luck : ℕ) → AnswersAtOnce answer reply → old.table.in_progress ≡ [] → Step site_meaning old (Start arrival (answer_seen answer buffer)) new → Passes site_meaning old new (Start arrival (answer_seen answer buffer) ∷ []) arrival luck (answers_of arrival reply buffer)
    passes_at_once old new arrival (started.Dropped cause) buffer reply luck at_once idle step = unanswered old new arrival luck (Dropped cause) buffer reply tt at_once idle step
    passes_at_once old new arrival (started.Repeat count) buffer reply luck at_once idle step =
        subst (λ (r : Option Reply). Passes site_meaning old new (Start arrival (Repeat (take count buffer)) ∷ []) arrival luck (answers_of arrival r buffer)) (sym at_once) (passes_repeat site_meaning old new arrival luck (take count buffer) idle step)
    passes_at_once old new arrival (started.Busy place) buffer reply luck at_once idle step = unanswered old new arrival luck (Busy place) buffer reply tt at_once idle step
    passes_at_once old new arrival (started.Full count) buffer reply luck at_once idle step = unanswered old new arrival luck (Full count) buffer reply tt at_once idle step
    passes_at_once old new arrival (started.Fresh ticket) buffer reply luck at_once idle step = absurd at_once
    passes_at_once old new arrival started.NoMemory buffer reply luck at_once idle step = unanswered old new arrival luck NoRoom buffer reply tt at_once idle step

-- such a start has a reply where it is a repeat
repeat_replied : (answer : Started Site) (buffer : List ℕ) (reply : Option Reply) → AnswersAtOnce answer reply → is_repeat (answer_seen answer buffer) ≡ is_some reply
repeat_replied (started.Dropped cause) buffer reply at_once = ap is_some (sym at_once)
repeat_replied (started.Repeat count) buffer reply at_once = ap is_some (sym at_once)
repeat_replied (started.Busy place) buffer reply at_once = ap is_some (sym at_once)
repeat_replied (started.Full count) buffer reply at_once = ap is_some (sym at_once)
repeat_replied (started.Fresh ticket) buffer reply at_once = absurd at_once
repeat_replied started.NoMemory buffer reply at_once = ap is_some (sym at_once)

-- and counts as a request and its reply
pub counts_at_once : {O B : Type 0} (v w : View (Entry Site BuildFault) O B) (arrival : Arrived) (answer : Started Site) (buffer : List ℕ) (reply : Option Reply) → AnswersAtOnce answer reply → IsAlone v → TurnAdds site_meaning v w (Start arrival (answer_seen answer buffer)) → CountsTurn v.seen w.seen (record { entries = 1; reply = reply })
counts_at_once v w arrival answer buffer reply at_once alone adds =
    let entry : Entry Site BuildFault = Start arrival (answer_seen answer buffer) in
    record {
      more = length_push v.seen w.seen entry (grows v w entry alone adds);
      few = omega arith;
      tally = tally_push v.seen w.seen entry (grows v w entry alone adds)
          ∙ same_tally (count_by is_request v.seen + 1) _ (count_by is_install v.seen + 0) (count_by is_refusal v.seen + 0) (count_by is_request v.seen + 1) _ (count_by is_install v.seen) (count_by is_refusal v.seen) refl (ap (λ (b : Bool). count_by is_reply v.seen + cond b 1 0) (repeat_replied answer buffer reply at_once)) (omega arith) (omega arith);
    }

-- its reply fits
pub fits_at_once : (answer : Started Site) (before after : List ℕ) (reply : Option Reply) → AnswersAtOnce answer reply → FillsBuffer answer before after → FitsAnswer reply
fits_at_once (started.Dropped cause) before after reply at_once fills = subst FitsAnswer (sym at_once) tt
fits_at_once (started.Repeat count) before after reply at_once fills = subst FitsAnswer (sym at_once) fills
fits_at_once (started.Busy place) before after reply at_once fills = subst FitsAnswer (sym at_once) tt
fits_at_once (started.Full count) before after reply at_once fills = subst FitsAnswer (sym at_once) tt
fits_at_once (started.Fresh ticket) before after reply at_once fills = absurd at_once
fits_at_once started.NoMemory before after reply at_once fills = subst FitsAnswer (sym at_once) tt

-- the copied reply is that of the outcome
copied_reply : (arrival : Arrived) (outcome : Outcome) (reply : Option Reply) (buffer : List ℕ) → IsCopied outcome reply buffer → reply_of arrival (Some (ending_seen outcome)) ≡ answers_of arrival reply buffer
copied_reply arrival (outcome.Sent octets) (Some reply) buffer copied = ap (λ o. record { to = arrival.from; octets = o } ∷ []) (sym copied)
copied_reply arrival (outcome.Sent octets) None buffer copied = absurd copied
copied_reply arrival outcome.Withheld reply buffer copied = ap (λ (r : Option Reply). answers_of arrival r buffer) (sym copied)
copied_reply arrival outcome.NoMemory reply buffer copied = ap (λ (r : Option Reply). answers_of arrival r buffer) (sym copied)

-- the copied reply is there where the ending sends one
sends_copied : (outcome : Outcome) (reply : Option Reply) (buffer : List ℕ) → IsCopied outcome reply buffer → sends (ending_seen outcome) ≡ is_some reply
sends_copied (outcome.Sent octets) (Some reply) buffer copied = refl
sends_copied (outcome.Sent octets) None buffer copied = absurd copied
sends_copied outcome.Withheld reply buffer copied = ap is_some (sym copied)
sends_copied outcome.NoMemory reply buffer copied = ap is_some (sym copied)

module _ (old mid : ServerState Site) (arrival : Arrived) (ticket : Ticket Site) (luck : ℕ) (outcome : Outcome) where
  -- the request of a ticket is in progress after its start
  pub is_held : (mid.present ≡ Some (arc_value ticket.generation)) → mid.moment ≡ ticket.moment → Step site_meaning old (Start arrival (Fresh ticket.place)) mid → GivesOutcome site_meaning (arc_value ticket.generation) arrival ticket.moment luck outcome → IsHeld site_meaning mid ticket arrival.worker (ending_seen outcome)
  is_held present moment step given =
      held_after_start site_meaning old mid arrival ticket luck outcome (sym (fresh_present site_meaning old mid arrival ticket.place step) ∙ present) moment step given

  given_at_place : (mid.present ≡ Some (arc_value ticket.generation)) → mid.moment ≡ ticket.moment → Step site_meaning old (Start arrival (Fresh ticket.place)) mid → GivesOutcome site_meaning (arc_value ticket.generation) arrival ticket.moment luck outcome → IsOutcome site_meaning (arc_value ticket.generation) arrival (at_moment arrival.now old).moment luck (Some (ending_seen outcome))
  given_at_place present moment step given =
      subst (λ m. IsOutcome site_meaning (arc_value ticket.generation) arrival m luck (Some (ending_seen outcome)))
      (sym moment ∙ moment_after site_meaning old mid arrival ticket.place (arc_value ticket.generation) (sym (fresh_present site_meaning old mid arrival ticket.place step) ∙ present) step)
      given

-- a fresh request is authentic under the generation of its ticket
pub authentic_at_place : (old mid : ServerState Site) (arrival : Arrived) (ticket : Ticket Site) → mid.present ≡ Some (arc_value ticket.generation) → Step site_meaning old (Start arrival (Fresh ticket.place)) mid → IsAuthenticUnder site_meaning (arc_value ticket.generation) arrival
authentic_at_place old mid arrival ticket present step =
    let both : Some step.may.1.0 ≡ Some (arc_value ticket.generation) = sym step.may.1.1 ∙ sym (fresh_present site_meaning old mid arrival ticket.place step) ∙ present in
    let same : step.may.1.0 ≡ arc_value ticket.generation = cc in
    subst (λ (g : Site). IsAuthenticUnder site_meaning g arrival) same step.may.1.2.0.authentic

module _ {O B : Type 0} (v m w : View (Entry Site BuildFault) O B) (arrival : Arrived) (ticket : Ticket Site) (luck : ℕ) (outcome : Outcome) where
  -- a fresh request and its finish are two entries, and have the reply that was copied
  pub turn_fresh : (reply : Option Reply) (buffer : List ℕ) → IsAlone v → m.name ≡ 0 → m.out ≡ [] → arrival.worker ≡ 0
      → TurnAdds site_meaning v m (Start arrival (Fresh ticket.place)) → (state_after m.seen).present ≡ Some (arc_value ticket.generation) → (state_after m.seen).moment ≡ ticket.moment
      → GivesOutcome site_meaning (arc_value ticket.generation) arrival ticket.moment luck outcome
      → TurnAdds site_meaning m w (Finish m.name ticket.place (ending_seen outcome)) → IsCopied outcome reply buffer
      → AddsTurn v.seen w.seen (state_after v.seen) (state_after w.seen) arrival luck (answers_of arrival reply buffer)
  turn_fresh reply buffer alone name out worker first present moment given second copied =
      let old = state_after v.seen in
      let mid = state_after m.seen in
      let new = state_after w.seen in
      let start = Start arrival (Fresh ticket.place) in
      let finish = Finish arrival.worker ticket.place (ending_seen outcome) in
      let finished : TurnAdds site_meaning m w finish = subst (λ (n : ℕ). TurnAdds site_meaning m w (Finish n ticket.place (ending_seen outcome))) (name ∙ sym worker) second in
      let begun : (m.seen ≡ v.seen ++ start ∷ []) × Step site_meaning old start mid = alone_adds site_meaning v m alone.name alone.out start first in
      let ended : (w.seen ≡ m.seen ++ finish ∷ []) × Step site_meaning mid finish new = alone_adds site_meaning m w name out finish finished in (
        start ∷ finish ∷ [],
        ended.0 ∙ ap (λ (h : List (Entry Site BuildFault)). h ++ finish ∷ []) begun.0 ∙ append_assoc v.seen (start ∷ []) (finish ∷ []),
        subst (λ (replies : List Answer). Passes site_meaning old new (start ∷ finish ∷ []) arrival luck replies)
            (copied_reply arrival outcome reply buffer copied)
            (passes_fresh site_meaning old mid new arrival luck ticket.place (ending_seen outcome) (arc_value ticket.generation) alone.kept.idle (sym (fresh_present site_meaning old mid arrival ticket.place begun.1) ∙ present) (given_at_place old mid arrival ticket luck outcome present moment begun.1 given) begun.1 ended.1),
      )

  -- and count as a request and its reply
  pub counts_fresh : (reply : Option Reply) (buffer : List ℕ) → IsAlone v → m.name ≡ 0 → m.out ≡ []
      → TurnAdds site_meaning v m (Start arrival (Fresh ticket.place)) → TurnAdds site_meaning m w (Finish m.name ticket.place (ending_seen outcome)) → IsCopied outcome reply buffer
      → CountsTurn v.seen w.seen (record { entries = 2; reply = reply })
  counts_fresh reply buffer alone name out first second copied =
      let start = Start arrival (Fresh ticket.place) in
      let finish = Finish m.name ticket.place (ending_seen outcome) in
      let begun : m.seen ≡ v.seen ++ start ∷ [] = (alone_adds site_meaning v m alone.name alone.out start first).0 in
      let ended : w.seen ≡ m.seen ++ finish ∷ [] = (alone_adds site_meaning m w name out finish second).0 in
      let mid = tally_push v.seen m.seen start begun in
      let requests : count_by is_request m.seen ≡ count_by is_request v.seen + 1 = ap (λ (t : Tally). t.requests) mid in
      let replies : count_by is_reply m.seen ≡ count_by is_reply v.seen + 0 = ap (λ (t : Tally). t.replies) mid in
      let installs : count_by is_install m.seen ≡ count_by is_install v.seen + 0 = ap (λ (t : Tally). t.installs) mid in
      let refused : count_by is_refusal m.seen ≡ count_by is_refusal v.seen + 0 = ap (λ (t : Tally). t.refused) mid in
      let first_more = length_push v.seen m.seen start begun in
      let second_more = length_push m.seen w.seen finish ended in
      record {
        more = omega (arith, first_more, second_more);
        few = omega arith;
        tally = tally_push m.seen w.seen finish ended
            ∙ same_tally (count_by is_request m.seen + 0) _ (count_by is_install m.seen + 0) (count_by is_refusal m.seen + 0) (count_by is_request v.seen + 1) _ (count_by is_install v.seen) (count_by is_refusal v.seen) (omega (arith, requests)) (ap (λ n. n + cond (sends (ending_seen outcome)) 1 0) (replies ∙ omega arith) ∙ ap (λ (b : Bool). count_by is_reply v.seen + cond b 1 0) (sends_copied outcome reply buffer copied)) (omega (arith, installs)) (omega (arith, refused));
      }
