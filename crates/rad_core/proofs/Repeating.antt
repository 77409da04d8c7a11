-- A repeat in its keeping time gets the first reply, over whole histories.
use Rattle.std.proofs.Common.{ℕ, ◌≡◌, ◌≤◌, ◌+◌, Bool, cond, List, [], ◌∷◌, ◌++◌, Option, Some, None, Result, Ok, Err, refl, ap, sym, ◌∙◌, subst, arith}
use Rattle.std.specs.List.{find}
use Rattle.std.specs.Option.{option_map, option_or}
use Rattle.std.proofs.lemmas.List.Folds.{find-append}
use Rattle.rad_packet.specs.Authentic.{IsAuthentic}
use Rattle.rad_packet.proofs.Datagrams.{cause_without_authentic}
use Rattle.rad_policy.specs.declared.arrival.Arrived.{Arrived}
use Rattle.rad_policy.specs.declared.ending.Ending.TheVariants.{Sent}
use Rattle.rad_policy.specs.Policy.{Meaning}
use Rattle.rad_core.specs.declared.started.StartAnswer.{StartAnswer}
use Rattle.rad_core.specs.declared.started.StartAnswer.TheVariants.{Dropped, Repeat, Busy, Full, Fresh, NoRoom}
use Rattle.rad_core.specs.declared.installed.Installed.{Installed}
use Rattle.rad_core.specs.declared.installed.Installed.TheVariants as installed
use Rattle.rad_core.specs.Requests.{RequestKey, InProgress, KeptReply, Requests, key_of, is_kept_for, is_run_for, lasts_at, table_at, with_row, is_at, reply_in, kept_of, kept_by, reply_for}
use Rattle.rad_core.specs.State.{ServerState, opening, later_of, at_moment, with_request}
use Rattle.rad_core.specs.Entry.{Entry, Start, Finish, Install, Look, Stop}
use Rattle.rad_core.specs.Step.{May, after, after_start, after_install, run, IsLegal, IsTaken}
use Rattle.rad_core.specs.Keeping.{IsRepeatOf}
use Rattle.rad_core.proofs.Histories.{run-append}
use Rattle.rad_core.proofs.Lasting.{lasting}
use Rattle.rad_core.proofs.Keys.{key_same, none_below, AllR-found, find_kept}
use Rattle.rad_core.proofs.Keeping.{IsUnkept, IsSound, row_key, sound_at, sound_with, sound_without}

pub installed_table : {P F : Type 0} (state : ServerState P) (load : Result P F) (answer : Installed F) → ((after_install state load answer).table ≡ state.table) × ((after_install state load answer).moment ≡ state.moment)
installed_table state (Ok generation) (installed.Generation number) = (refl, refl)
installed_table state (Ok generation) (installed.ListenerGone name) = (refl, refl)
installed_table state (Ok generation) (installed.Refused fault) = (refl, refl)
installed_table state (Err fault) (installed.Generation number) = (refl, refl)
installed_table state (Err fault) (installed.ListenerGone name) = (refl, refl)
installed_table state (Err fault) (installed.Refused told) = (refl, refl)

-- what a start leaves of the replies, and its moment
pub started_kept : {P : Type 0} (state : ServerState P) (arrival : Arrived) (answer : StartAnswer) → ((after_start state arrival answer).table.kept ≡ state.table.kept) × ((after_start state arrival answer).moment ≡ state.moment)
started_kept state arrival (Dropped cause) = (refl, refl)
started_kept state arrival (Repeat octets) = (refl, refl)
started_kept state arrival (Busy place) = (refl, refl)
started_kept state arrival (Full count) = (refl, refl)
started_kept state arrival NoRoom = (refl, refl)
started_kept {P} state arrival (Fresh place) =
    elim state.present as (λ (o : Option P). let s : ServerState P = elim o [ None ↦ state | Some g ↦ with_request place arrival g state ] in (s.table.kept ≡ state.table.kept) × (s.moment ≡ state.moment)) [
      | None ↦ (refl, refl)
      | Some g ↦ (refl, refl)
    ]

module _ {P F : Type 0} (meaning : Meaning P F) where
  -- each entry leaves the table sound
  sound_start : (state : ServerState P) (arrival : Arrived) (answer : StartAnswer) → IsSound state.table → May meaning state (Start arrival answer) → IsSound (after meaning state (Start arrival answer)).table
  sound_start state arrival (Dropped cause) sound may = sound_at (later_of state.moment arrival.now) state.table sound
  sound_start state arrival (Repeat octets) sound may = sound_at (later_of state.moment arrival.now) state.table sound
  sound_start state arrival (Busy place) sound may = sound_at (later_of state.moment arrival.now) state.table sound
  sound_start state arrival (Full count) sound may = sound_at (later_of state.moment arrival.now) state.table sound
  sound_start state arrival NoRoom sound may = sound_at (later_of state.moment arrival.now) state.table sound
  sound_start state arrival (Fresh place) sound may =
      let generation = may.1.0 in
      let due = may.1.2.0 in
      let row : InProgress P = record { place = place; arrival = arrival; generation = generation; moment = later_of state.moment arrival.now } in
      let table = table_at (later_of state.moment arrival.now) state.table in
      let is : (after meaning state (Start arrival (Fresh place))).table ≡ with_row row table =
      ap (λ (o : Option P). let s : ServerState P = elim o [ None ↦ at_moment arrival.now state | Some g ↦ with_request place arrival g (at_moment arrival.now state) ] in s.table) may.1.1 in
      subst IsSound (sym is) (sound_with row table (sound_at (later_of state.moment arrival.now) state.table sound)
      (none_below (λ (kept : KeptReply). kept.octets) (find (is_kept_for (key_of arrival)) table.kept) due.fresh.unkept)
      (none_below (λ (other : InProgress P). other.place) (find (is_run_for (key_of arrival)) table.in_progress) due.fresh.unrun))

  sound_after : (state : ServerState P) (entry : Entry P F) → IsSound state.table → May meaning state entry → IsSound (after meaning state entry).table
  sound_after state (Start arrival answer) sound may = sound_start state arrival answer sound may
  sound_after state (Finish worker place ending) sound may = sound_without meaning.cleanup_delay state.moment place (reply_in ending) state.table sound
  sound_after state (Install worker load listeners answer) sound may = subst IsSound (sym (installed_table state load answer).0) sound
  sound_after state (Look worker seen) sound may = sound
  sound_after state (Stop worker) sound may = sound

  -- so does each legal history
  pub sound_run : (state : ServerState P) (entries : List (Entry P F)) → IsSound state.table → IsLegal meaning state entries → IsSound (run meaning state entries).table
  sound_run state [] sound legal = sound
  sound_run state (x ∷ xs) sound legal = sound_run (after meaning state x) xs (sound_after state x sound legal.0) legal.1

  -- the moment never goes back
  rises : (state : ServerState P) (entry : Entry P F) → state.moment ≤ (after meaning state entry).moment
  rises state (Start arrival answer) = let same = (started_kept (at_moment arrival.now state) arrival answer).1 in grind (arith, same)
  rises state (Finish worker place ending) = grind arith
  rises state (Install worker load listeners answer) = let same = (installed_table state load answer).1 in grind (arith, same)
  rises state (Look worker seen) = grind arith
  rises state (Stop worker) = grind arith

  rises_all : (state : ServerState P) (entries : List (Entry P F)) → state.moment ≤ (run meaning state entries).moment
  rises_all state [] = grind arith
  rises_all state (x ∷ xs) = let first = rises state x in let more = rises_all (after meaning state x) xs in omega (arith, first, more)

  -- a reply is kept for a key
  abbrev HasKept : RequestKey → KeptReply → ServerState P → Type 0
  HasKept key reply state = find (is_kept_for key) state.table.kept ≡ Some reply

  -- it stays up to its last second
  stays : (key : RequestKey) (reply : KeptReply) (state : ServerState P) (entry : Entry P F) → HasKept key reply state → (after meaning state entry).moment ≤ reply.until → HasKept key reply (after meaning state entry)
  stays key reply state (Start arrival answer) has lasts =
      let same = started_kept (at_moment arrival.now state) arrival answer in
      let time : later_of state.moment arrival.now ≤ reply.until = subst (λ (m : ℕ). m ≤ reply.until) same.1 lasts in
      ap (find (is_kept_for key)) same.0 ∙ find_kept (is_kept_for key) (lasts_at (later_of state.moment arrival.now)) state.table.kept reply has (lasting (later_of state.moment arrival.now) reply time)
  stays key reply state (Finish worker place ending) has lasts =
      let more = kept_by meaning.cleanup_delay state.moment (reply_in ending) (find (is_at place) state.table.in_progress) in
      find-append (is_kept_for key) state.table.kept more ∙ ap (λ o. option_or o (find (is_kept_for key) more)) has
  stays key reply state (Install worker load listeners answer) has lasts = ap (λ (t : Requests P). find (is_kept_for key) t.kept) (installed_table state load answer).0 ∙ has
  stays key reply state (Look worker seen) has lasts = has
  stays key reply state (Stop worker) has lasts = has

  stays_all : (key : RequestKey) (reply : KeptReply) (state : ServerState P) (entries : List (Entry P F)) → HasKept key reply state → (run meaning state entries).moment ≤ reply.until → HasKept key reply (run meaning state entries)
  stays_all key reply state [] has lasts = has
  stays_all key reply state (x ∷ xs) has lasts =
      let later = rises_all (after meaning state x) xs in
      let now : (after meaning state x).moment ≤ reply.until = omega (arith, later, lasts) in
      stays_all key reply (after meaning state x) xs (stays key reply state x has now) lasts

  -- a reply that was sent is kept
  kept_first : (state : ServerState P) (worker place : ℕ) (octets : List ℕ) (row : InProgress P) → IsSound state.table → find (is_at place) state.table.in_progress ≡ Some row → HasKept (row_key row) (kept_of meaning.cleanup_delay state.moment octets row) (after meaning state (Finish worker place (Sent octets)))
  kept_first state worker place octets row sound there =
      let reply = kept_of meaning.cleanup_delay state.moment octets row in
      let none = AllR-found (IsUnkept state.table.kept) (is_at place) state.table.in_progress row sound.unkept there in
      ap (λ (o : Option (InProgress P)). find (is_kept_for (row_key row)) (state.table.kept ++ kept_by meaning.cleanup_delay state.moment (Some octets) o)) there
      ∙ find-append (is_kept_for (row_key row)) state.table.kept (reply ∷ [])
      ∙ ap (λ o. option_or o (find (is_kept_for (row_key row)) (reply ∷ []))) none
      ∙ ap (λ (b : Bool). cond b (Some reply) None) (key_same (row_key row))

  -- what is legal begins legally
  pub legal_front : (state : ServerState P) (xs ys : List (Entry P F)) → IsLegal meaning state (xs ++ ys) → IsLegal meaning state xs × IsLegal meaning (run meaning state xs) ys
  legal_front state [] ys legal = (tt, legal)
  legal_front state (x ∷ xs) ys legal = let rest = legal_front (after meaning state x) xs ys legal.1 in ((legal.0, rest.0), rest.1)

  -- a start for whose key a reply is kept is dropped or a repeat
  answered_by : (state : ServerState P) (arrival : Arrived) (answer : StartAnswer) (octets : List ℕ) → May meaning state (Start arrival answer) → IsTaken meaning state arrival → reply_for (key_of arrival) (at_moment arrival.now state).table ≡ Some octets → answer ≡ Repeat octets
  answered_by state arrival (Dropped cause) octets may taken has =
      let same : may.1.0 ≡ taken.0 = cc in
      absurd (cause_without_authentic cause arrival.bytes (meaning.client may.1.0 arrival.from.addr) arrival.kind may.1.2
      (subst (λ (generation : P). IsAuthentic arrival.bytes (meaning.client generation arrival.from.addr) arrival.kind) (sym same) taken.2))
  answered_by state arrival (Repeat others) octets may taken has = let same : others ≡ octets = cc in ap Repeat same
  answered_by state arrival (Busy place) octets may taken has = cc
  answered_by state arrival (Full count) octets may taken has = let none = may.1.2.1.unkept in cc
  answered_by state arrival (Fresh place) octets may taken has = let none = may.1.2.0.fresh.unkept in cc
  answered_by state arrival NoRoom octets may taken has = let none = may.1.2.fresh.unkept in cc

  -- a repeat gets the first reply
  pub repeats_get : (history : List (Entry P F)) (arrival : Arrived) (answer : StartAnswer) (octets : List ℕ) → IsLegal meaning opening history → May meaning (run meaning opening history) (Start arrival answer) → IsTaken meaning (run meaning opening history) arrival → IsRepeatOf meaning history arrival octets → answer ≡ Repeat octets
  repeats_get history arrival answer octets legal may taken repeats =
      let finish : Entry P F = Finish repeats.worker repeats.place (Sent octets) in
      let whole = subst (λ (h : List (Entry P F)). IsLegal meaning opening h) repeats.is legal in
      let parts = legal_front opening repeats.before (finish ∷ repeats.later) whole in
      let first = run meaning opening repeats.before in
      let reply = kept_of meaning.cleanup_delay first.moment octets repeats.request in
      let sound = sound_run opening repeats.before (record { unkept = tt; apart = tt }) parts.0 in
      let has = kept_first first repeats.worker repeats.place octets repeats.request sound repeats.there in
      let state = run meaning opening history in
      let state_is : state ≡ run meaning (after meaning first finish) repeats.later = ap (run meaning opening) repeats.is ∙ run-append meaning opening repeats.before (finish ∷ repeats.later) in
      let early : state.moment ≤ reply.until = let lasts = repeats.lasts in grind (arith, lasts) in
      let now = stays_all (row_key repeats.request) reply (after meaning first finish) repeats.later has (subst (λ (s : ServerState P). s.moment ≤ reply.until) state_is early) in
      let held : HasKept (row_key repeats.request) reply state = subst (HasKept (row_key repeats.request) reply) (sym state_is) now in
      let mine : HasKept (key_of arrival) reply state = subst (λ (k : RequestKey). HasKept k reply state) (sym repeats.same) held in
      answered_by state arrival answer octets may taken (ap (option_map (λ (kept : KeptReply). kept.octets)) (find_kept (is_kept_for (key_of arrival)) (lasts_at (later_of state.moment arrival.now)) state.table.kept reply mine (lasting (later_of state.moment arrival.now) reply repeats.lasts)))
