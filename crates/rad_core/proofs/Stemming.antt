-- What is kept was sent, over whole histories.
use Rattle.std.proofs.Common.{ℕ, ◌≡◌, ◌≤◌, ◌+◌, ◌⊎◌, inl, inr, Bool, true, false, cond, List, [], ◌∷◌, ◌++◌, filter, Option, Some, None, refl, ap, sym, ◌∙◌, subst}
use Rattle.std.specs.List.{find}
use Rattle.rad_policy.specs.declared.arrival.Arrived.{Arrived}
use Rattle.rad_policy.specs.declared.ending.Ending.{Ending}
use Rattle.rad_policy.specs.declared.ending.Ending.TheVariants.{Sent, Withheld, OutOfMemory}
use Rattle.rad_policy.specs.Policy.{Meaning}
use Rattle.rad_core.specs.declared.started.StartAnswer.TheVariants.{Repeat}
use Rattle.rad_core.specs.Requests.{InProgress, KeptReply, Requests, key_of, is_kept_for, lasts_at, is_at, reply_in, kept_of, kept_by}
use Rattle.rad_core.specs.State.{ServerState, opening, later_of, at_moment}
use Rattle.rad_core.specs.Entry.{Entry, Start, Finish, Install, Look, Stop}
use Rattle.rad_core.specs.Step.{May, after, run, IsLegal}
use Rattle.rad_core.specs.Keeping.{IsRepeatOf, KeepsReplies}
use Rattle.rad_core.proofs.Lasting.{lasted}
use Rattle.rad_core.proofs.Keys.{key_eq, some_below}
use Rattle.rad_core.proofs.Keeping.{row_key}
use Rattle.rad_core.proofs.Repeating.{installed_table, started_kept, legal_front, repeats_get}

module _ {X : Type 0} where
  -- the element is in the list
  abbrev pub IsIn : X → List X → Type 0
  IsIn x [] = ⊥
  IsIn x (y ∷ ys) = (y ≡ x) ⊎ IsIn x ys

  in_filter : (p : X → Bool) (xs : List X) (x : X) → IsIn x (filter p xs) → IsIn x xs × (p x ≡ true)
  in_filter p [] x is = absurd is
  in_filter p (y ∷ ys) x is = (elim (p y) as (λ b. p y ≡ b → IsIn x (cond b (y ∷ filter p ys) (filter p ys)) → IsIn x (y ∷ ys) × (p x ≡ true)) [
    | true ↦ λ passes here. elim here [
      | inl same ↦ (inl same, ap p (sym same) ∙ passes)
      | inr more ↦ let rest = in_filter p ys x more in (inr rest.0, rest.1)
    ]
    | false ↦ λ fails here. let rest = in_filter p ys x here in (inr rest.0, rest.1)
  ]) refl is

  in_either : (xs ys : List X) (x : X) → IsIn x (xs ++ ys) → IsIn x xs ⊎ IsIn x ys
  in_either [] ys x is = inr is
  in_either (y ∷ xs) ys x is = elim is [
    | inl same ↦ inl (inl same)
    | inr more ↦ elim (in_either xs ys x more) [
      | inl front ↦ inl (inr front)
      | inr back ↦ inr back
    ]
  ]

  in_found : (p : X → Bool) (xs : List X) (x : X) → find p xs ≡ Some x → IsIn x xs × (p x ≡ true)
  in_found p [] x found = cc
  in_found p (y ∷ ys) x found = (elim (p y) as (λ b. p y ≡ b → cond b (Some y) (find p ys) ≡ Some x → IsIn x (y ∷ ys) × (p x ≡ true)) [
    | true ↦ λ passes e. let same : y ≡ x = cc in (inl same, ap p (sym same) ∙ passes)
    | false ↦ λ fails e. let rest = in_found p ys x e in (inr rest.0, rest.1)
  ]) refl found

module _ {P F : Type 0} (meaning : Meaning P F) where
  -- the entry is a finish that let this reply be kept
  record IsSentBy (state : ServerState P) (entry : Entry P F) (reply : KeptReply) : Type 0 where
    worker : ℕ
    place : ℕ
    octets : List ℕ
    row : InProgress P
    is : entry ≡ Finish worker place (Sent octets)
    there : find (is_at place) state.table.in_progress ≡ Some row
    kept : kept_of meaning.cleanup_delay state.moment octets row ≡ reply

  -- there is such an entry
  record WasSent (state : ServerState P) (entries : List (Entry P F)) (reply : KeptReply) : Type 0 where
    before : List (Entry P F)
    entry : Entry P F
    later : List (Entry P F)
    is : entries ≡ before ++ entry ∷ later
    sent : IsSentBy (run meaning state before) entry reply

  by_finish : (state : ServerState P) (worker place : ℕ) (ending : Ending) (row : Option (InProgress P)) (reply : KeptReply) → find (is_at place) state.table.in_progress ≡ row → IsIn reply (kept_by meaning.cleanup_delay state.moment (reply_in ending) row) → IsSentBy state (Finish worker place ending) reply
  by_finish state worker place (Sent octets) None reply found is = absurd is
  by_finish state worker place (Sent octets) (Some row) reply found is = elim is [
    | inl same ↦ record { worker = worker; place = place; octets = octets; row = row; is = refl; there = found; kept = same }
    | inr none ↦ absurd none
  ]
  by_finish state worker place Withheld row reply found is = absurd is
  by_finish state worker place OutOfMemory row reply found is = absurd is

  -- what is kept after an entry was kept before it, or is its finish's
  came : (state : ServerState P) (entry : Entry P F) (reply : KeptReply) → IsIn reply (after meaning state entry).table.kept → IsIn reply state.table.kept ⊎ IsSentBy state entry reply
  came state (Start arrival answer) reply is =
      inl (in_filter (lasts_at (later_of state.moment arrival.now)) state.table.kept reply (subst (IsIn reply) (started_kept (at_moment arrival.now state) arrival answer).0 is)).0
  came state (Finish worker place ending) reply is = elim (in_either state.table.kept (kept_by meaning.cleanup_delay state.moment (reply_in ending) (find (is_at place) state.table.in_progress)) reply is) [
    | inl old ↦ inl old
    | inr new ↦ inr (by_finish state worker place ending (find (is_at place) state.table.in_progress) reply refl new)
  ]
  came state (Install worker load listeners answer) reply is = inl (subst (λ (t : Requests P). IsIn reply t.kept) (installed_table state load answer).0 is)
  came state (Look worker seen) reply is = inl is
  came state (Stop worker) reply is = inl is

  stems : (state : ServerState P) (entries : List (Entry P F)) (reply : KeptReply) → IsIn reply (run meaning state entries).table.kept → IsIn reply state.table.kept ⊎ WasSent state entries reply
  stems state [] reply is = inl is
  stems state (x ∷ xs) reply is = elim (stems (after meaning state x) xs reply is) [
    | inl here ↦ elim (came state x reply here) [
      | inl old ↦ inl old
      | inr sent ↦ inr (record { before = []; entry = x; later = xs; is = refl; sent = sent })
    ]
    | inr was ↦ inr (record { before = x ∷ was.before; entry = was.entry; later = was.later; is = ap (λ more. x ∷ more) was.is; sent = was.sent })
  ]

  -- what is answered as a repeat is one
  only_repeats : (history : List (Entry P F)) (arrival : Arrived) (octets : List ℕ) → May meaning (run meaning opening history) (Start arrival (Repeat octets)) → IsRepeatOf meaning history arrival octets
  only_repeats history arrival octets may =
      let state = run meaning opening history in
      let moment = later_of state.moment arrival.now in
      let found = some_below (λ (kept : KeptReply). kept.octets) (find (is_kept_for (key_of arrival)) (filter (lasts_at moment) state.table.kept)) octets may.1.2.1 in
      let reply = found.0 in
      let here = in_found (is_kept_for (key_of arrival)) (filter (lasts_at moment) state.table.kept) reply found.1 in
      let kept = in_filter (lasts_at moment) state.table.kept reply here.0 in
      elim (stems opening history reply kept.0) [
        | inl never ↦ absurd never
        | inr was ↦
            let sent = was.sent in
            let same : sent.octets ≡ octets = ap (λ (k : KeptReply). k.octets) sent.kept ∙ found.2 in
            let key : row_key sent.row ≡ key_of arrival = ap (λ (k : KeptReply). k.key) sent.kept ∙ key_eq reply.key (key_of arrival) here.1 in
            let until : (run meaning opening was.before).moment + meaning.cleanup_delay sent.row.generation ≡ reply.until = ap (λ (k : KeptReply). k.until) sent.kept in
            record {
              before = was.before;
              later = was.later;
              worker = sent.worker;
              place = sent.place;
              request = sent.row;
              is = was.is ∙ ap (λ (e : Entry P F). was.before ++ e ∷ was.later) (sent.is ∙ ap (λ (o : List ℕ). let e : Entry P F = Finish sent.worker sent.place (Sent o) in e) same);
              there = sent.there;
              same = sym key;
              lasts = subst (λ (u : ℕ). moment ≤ u) (sym until) (lasted moment reply kept.1);
            }
      ]

  -- each legal history keeps replies
  pub keeps_replies : (history : List (Entry P F)) → IsLegal meaning opening history → KeepsReplies meaning history
  keeps_replies history legal = record {
    first = λ front later arrival answer octets is taken repeats.
        let parts = legal_front meaning opening front (Start arrival answer ∷ later) (subst (λ (h : List (Entry P F)). IsLegal meaning opening h) is legal) in
        repeats_get meaning front arrival answer octets parts.0 parts.1.0 taken repeats;
    only = λ front later arrival octets is.
        let parts = legal_front meaning opening front (Start arrival (Repeat octets) ∷ later) (subst (λ (h : List (Entry P F)). IsLegal meaning opening h) is legal) in
        only_repeats front arrival octets parts.1.0;
  }
