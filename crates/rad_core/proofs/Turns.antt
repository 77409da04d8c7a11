-- What one datagram's way through the core adds to the history.
use Rattle.std.proofs.Common.{ℕ, ◌≡◌, ◌==◌, List, [], ◌∷◌, ◌++◌, Bool, true, cond, not, take, drop, Option, Some, None, refl, ap, sym, ◌∙◌, subst, append-nil, ◌+◌, add_assoc}
use Rattle.std.specs.List.{Contains}
use Rattle.std.specs.Arc.{arc_value}
use Rattle.std.proofs.lemmas.List.Elements.{Contains-push}
use Rattle.rad_policy.specs.declared.arrival.Arrived.{Arrived}
use Rattle.rad_policy.specs.declared.ending.Ending.{Ending}
use Rattle.rad_policy.specs.declared.ending.Ending.TheVariants.{Sent, Withheld, OutOfMemory}
use Rattle.rad_policy.specs.declared.outcome.Outcome.{Outcome}
use Rattle.rad_core.specs.declared.started.StartAnswer.{StartAnswer}
use Rattle.rad_core.specs.declared.started.StartAnswer.TheVariants.{Dropped, Repeat, Busy, Full, Fresh, NoRoom}
use Rattle.rad_core.specs.declared.started.Ticket.{Ticket}
use Rattle.rad_policy.specs.Policy.{Meaning}
use Rattle.rad_core.specs.State.{ServerState, at_moment, with_request}
use Rattle.rad_core.specs.Requests.{InProgress, without_place}
use Rattle.rad_core.specs.Entry.{Entry, Start, Finish}
use Rattle.rad_core.specs.Step.{after, after_start, run, IsLegal, Step, Gives}
use Rattle.rad_policy.specs.Seen.{ending_seen, GivesOutcome}
use Rattle.rad_core.specs.Answers.{IsHeld}
use Rattle.rad_core.specs.Worker.{At, Answer, reply_of, IsOutcome, IsTurn, Passes}
use Rattle.rad_core.proofs.Histories.{same_place}

-- without its one request nothing is in progress
alone_leaves : {P : Type 0} (row : InProgress P) (place : ℕ) → (row.place == place) ≡ true → without_place place (row ∷ []) ≡ []
alone_leaves {P} row place at = ap (λ (b : Bool). take (cond (not b) (1 + 0) 0) (row ∷ []) ++ drop (cond (not b) (1 + 0) 0 + 1) (row ∷ [])) at

-- the answer is neither that of a fresh request nor a reply
abbrev pub IsUnanswered : StartAnswer → Type 0
IsUnanswered (Dropped cause) = Unit {0}
IsUnanswered (Repeat octets) = ⊥
IsUnanswered (Busy place) = Unit {0}
IsUnanswered (Full count) = Unit {0}
IsUnanswered NoRoom = Unit {0}
IsUnanswered (Fresh place) = ⊥

module _ {P F : Type 0} (meaning : Meaning P F) where
  -- the row of a fresh request
  abbrev pub row_for : ServerState P → Arrived → ℕ → P → InProgress P
  row_for state arrival place generation = record {
    place = place;
    arrival = arrival;
    generation = generation;
    moment = (at_moment arrival.now state).moment;
  }

  -- a fresh request stands behind the others
  pub fresh_table : (state : ServerState P) (arrival : Arrived) (place : ℕ) (generation : P) → state.present ≡ Some generation → (after meaning state (Start arrival (Fresh place))).table.in_progress ≡ state.table.in_progress ++ row_for state arrival place generation ∷ []
  fresh_table state arrival place generation present =
      ap (λ (o : Option P). let s : ServerState P = elim o [ None ↦ at_moment arrival.now state | Some g ↦ with_request place arrival g (at_moment arrival.now state) ] in s.table.in_progress) present

  -- the moment after the start of a fresh request
  pub moment_after : (state mid : ServerState P) (arrival : Arrived) (place : ℕ) (generation : P) → state.present ≡ Some generation → Step meaning state (Start arrival (Fresh place)) mid → mid.moment ≡ (at_moment arrival.now state).moment
  moment_after state mid arrival place generation present step =
      ap (λ (s : ServerState P). s.moment) step.next
      ∙ ap (λ (o : Option P). let s : ServerState P = elim o [ None ↦ at_moment arrival.now state | Some g ↦ with_request place arrival g (at_moment arrival.now state) ] in s.moment) present

  -- a start leaves the present generation, and counts one entry
  pub present_after : (state : ServerState P) (arrival : Arrived) (place : ℕ) (generation : P) → state.present ≡ Some generation → (after meaning state (Start arrival (Fresh place))).present ≡ state.present
  present_after state arrival place generation present =
      ap (λ (o : Option P). let s : ServerState P = elim o [ None ↦ at_moment arrival.now state | Some g ↦ with_request place arrival g (at_moment arrival.now state) ] in s.present) present

  pub count_after : (state : ServerState P) (arrival : Arrived) (place : ℕ) (generation : P) → state.present ≡ Some generation → (after meaning state (Start arrival (Fresh place))).entries + 1 ≡ state.entries + 2
  count_after state arrival place generation present =
      ap (λ (o : Option P). let s : ServerState P = elim o [ None ↦ at_moment arrival.now state | Some g ↦ with_request place arrival g (at_moment arrival.now state) ] in (s.entries + 1) + 1) present ∙ add_assoc state.entries 1 1

  -- a fresh start leaves the present generation
  pub fresh_present : (old mid : ServerState P) (arrival : Arrived) (place : ℕ) → Step meaning old (Start arrival (Fresh place)) mid → mid.present ≡ old.present
  fresh_present old mid arrival place step =
      ap (λ (s : ServerState P). s.present) step.next ∙ present_after old arrival place step.may.1.0 step.may.1.1

  -- where nothing was in progress, nothing is after its finish
  pub idle_again : (state : ServerState P) (arrival : Arrived) (worker place : ℕ) (generation : P) (ending : Ending) → state.table.in_progress ≡ [] → state.present ≡ Some generation → (run meaning state (Start arrival (Fresh place) ∷ Finish worker place ending ∷ [])).table.in_progress ≡ []
  idle_again state arrival worker place generation ending idle present =
      ap (without_place place) (fresh_table state arrival place generation present ∙ ap (λ rows. rows ++ row_for state arrival place generation ∷ []) idle)
      ∙ alone_leaves (row_for state arrival place generation) place (same_place place place refl)

  -- one step is a legal history
  pub one_step : (old new : ServerState P) (entry : Entry P F) → Step meaning old entry new → IsLegal meaning old (entry ∷ []) × (new ≡ run meaning old (entry ∷ []))
  one_step old new entry step = ((step.may, tt), step.next)

  pub two_steps : (old mid new : ServerState P) (entry next : Entry P F) → Step meaning old entry mid → Step meaning mid next new → IsLegal meaning old (entry ∷ next ∷ []) × (new ≡ run meaning old (entry ∷ next ∷ []))
  two_steps old mid new entry next first second =
      subst (λ (s : ServerState P). Step meaning s next new → IsLegal meaning old (entry ∷ next ∷ []) × (new ≡ run meaning old (entry ∷ next ∷ []))) (sym first.next)
      (λ (step : Step meaning (after meaning old entry) next new). ((first.may, (step.may, tt)), step.next)) second

  -- a datagram that isn't fresh adds its start alone
  passes_alone : (old new : ServerState P) (arrival : Arrived) (luck : ℕ) (answer : StartAnswer) (replies : List Answer) → old.table.in_progress ≡ [] → Step meaning old (Start arrival answer) new
      → after_start (at_moment arrival.now old) arrival answer ≡ at_moment arrival.now old
      → IsTurn meaning arrival luck replies (At old (Start arrival answer) ∷ [])
      → Passes meaning old new (Start arrival answer ∷ []) arrival luck replies
  passes_alone old new arrival luck answer replies idle step same turn = record {
    legal = (one_step old new (Start arrival answer) step).0;
    next = step.next;
    idle = ap (λ (s : ServerState P). s.table.in_progress) step.next ∙ ap (λ (s : ServerState P). s.table.in_progress) same ∙ idle;
    present = ap (λ (s : ServerState P). s.present) step.next ∙ ap (λ (s : ServerState P). s.present) same;
    count = ap (λ (s : ServerState P). s.entries) step.next ∙ ap (λ (s : ServerState P). s.entries + 1) same;
    turn = turn;
    named = (refl, tt);
  }

  -- what gets no reply
  pub passes_unanswered : (old new : ServerState P) (arrival : Arrived) (luck : ℕ) (answer : StartAnswer) → IsUnanswered answer → old.table.in_progress ≡ [] → Step meaning old (Start arrival answer) new → Passes meaning old new (Start arrival answer ∷ []) arrival luck []
  passes_unanswered old new arrival luck (Dropped cause) un idle step = passes_alone old new arrival luck (Dropped cause) [] idle step refl (record { serves = refl; asks = refl; answers = refl; closed = (tt, tt); outcome = (tt, refl); service = (refl, tt) })
  passes_unanswered old new arrival luck (Repeat octets) un idle step = absurd un
  passes_unanswered old new arrival luck (Busy place) un idle step = passes_alone old new arrival luck (Busy place) [] idle step refl (record { serves = refl; asks = refl; answers = refl; closed = (tt, tt); outcome = (tt, refl); service = (refl, tt) })
  passes_unanswered old new arrival luck (Full count) un idle step = passes_alone old new arrival luck (Full count) [] idle step refl (record { serves = refl; asks = refl; answers = refl; closed = (tt, tt); outcome = (tt, refl); service = (refl, tt) })
  passes_unanswered old new arrival luck NoRoom un idle step = passes_alone old new arrival luck NoRoom [] idle step refl (record { serves = refl; asks = refl; answers = refl; closed = (tt, tt); outcome = (tt, refl); service = (refl, tt) })
  passes_unanswered old new arrival luck (Fresh place) un idle step = absurd un

  -- a repeat gets the octets that were kept
  pub passes_repeat : (old new : ServerState P) (arrival : Arrived) (luck : ℕ) (octets : List ℕ) → old.table.in_progress ≡ [] → Step meaning old (Start arrival (Repeat octets)) new → Passes meaning old new (Start arrival (Repeat octets) ∷ []) arrival luck (record { to = arrival.from; octets = octets } ∷ [])
  passes_repeat old new arrival luck octets idle step = passes_alone old new arrival luck (Repeat octets) (record { to = arrival.from; octets = octets } ∷ []) idle step refl (record { serves = refl; asks = refl; answers = refl; closed = (tt, tt); outcome = (tt, refl); service = (refl, tt) })

  -- a fresh request and its finish
  pub passes_fresh : (old mid new : ServerState P) (arrival : Arrived) (luck place : ℕ) (ending : Ending) (generation : P) → old.table.in_progress ≡ [] → old.present ≡ Some generation → IsOutcome meaning generation arrival (at_moment arrival.now old).moment luck (Some ending) → Step meaning old (Start arrival (Fresh place)) mid → Step meaning mid (Finish arrival.worker place ending) new → Passes meaning old new (Start arrival (Fresh place) ∷ Finish arrival.worker place ending ∷ []) arrival luck (reply_of arrival (Some ending))
  passes_fresh old mid new arrival luck place ending generation idle present given first second =
      let steps = two_steps old mid new (Start arrival (Fresh place)) (Finish arrival.worker place ending) first second in
      record {
        legal = steps.0;
        next = steps.1;
        idle = ap (λ (s : ServerState P). s.table.in_progress) steps.1 ∙ idle_again old arrival arrival.worker place generation ending idle present;
        present = ap (λ (s : ServerState P). s.present) steps.1 ∙ present_after old arrival place generation present;
        count = ap (λ (s : ServerState P). s.entries) steps.1 ∙ count_after old arrival place generation present;
        turn = record {
          serves = refl;
          asks = refl;
          answers = ap (λ b. reply_of arrival (cond b (Some ending) None) ++ []) (same_place place place refl) ∙ append-nil (reply_of arrival (Some ending));
          closed = (refl, tt);
          outcome = ((generation, present, subst (λ (o : Option Ending). IsOutcome meaning generation arrival (at_moment arrival.now old).moment luck o) (sym (ap (λ b. cond b (Some ending) None) (same_place place place refl))) given), refl);
          service = (refl, (refl, tt));
        };
        named = (refl, (refl, tt));
      }

  -- what a policy gives doesn't depend on the place
  gives_at : (row : InProgress P) (luck : ℕ) (answers : List Bool) (ending : Ending) → Gives meaning (record { place = 0; arrival = row.arrival; generation = row.generation; moment = row.moment }) luck answers ending → Gives meaning row luck answers ending
  gives_at row luck answers (Sent octets) given = given
  gives_at row luck answers Withheld given = given
  gives_at row luck answers OutOfMemory given = tt

  -- the request of a ticket is in progress after its start
  pub held_after_start : (old mid : ServerState P) (arrival : Arrived) (ticket : Ticket P) (luck : ℕ) (outcome : Outcome) → old.present ≡ Some (arc_value ticket.generation) → mid.moment ≡ ticket.moment → Step meaning old (Start arrival (Fresh ticket.place)) mid → GivesOutcome meaning (arc_value ticket.generation) arrival ticket.moment luck outcome → IsHeld meaning mid ticket arrival.worker (ending_seen outcome)
  held_after_start old mid arrival ticket luck outcome present moment step given =
      let row : InProgress P = record { place = ticket.place; arrival = arrival; generation = arc_value ticket.generation; moment = ticket.moment } in
      let table : mid.table.in_progress ≡ old.table.in_progress ++ row ∷ [] =
      ap (λ (s : ServerState P). s.table.in_progress) step.next ∙ fresh_table old arrival ticket.place (arc_value ticket.generation) present
      ∙ ap (λ m. old.table.in_progress ++ record { place = ticket.place; arrival = arrival; generation = arc_value ticket.generation; moment = m } ∷ []) (sym (moment_after old mid arrival ticket.place (arc_value ticket.generation) present step) ∙ moment) in
      record {
        may = record {
          row = row;
          there = subst (λ (rows : List (InProgress P)). Contains rows row) (sym table) (Contains-push old.table.in_progress row);
          place_is = refl;
          worker_is = refl;
          luck = luck;
          answers = given.0;
          given = gives_at row luck given.0 (ending_seen outcome) given.1;
        };
        generation = refl;
        moment = refl;
      }
