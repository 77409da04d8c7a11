-- Histories that are joined.
use Rattle.std.proofs.Common.{ℕ, ◌≡◌, ◌==◌, List, [], ◌∷◌, ◌++◌, true, false, cond, Option, Some, None, refl, ap, sym, ◌∙◌, subst, append_assoc, eq-eqb}
use Rattle.std.specs.List.{AllByRecursion}
use Rattle.rad_policy.specs.declared.arrival.Arrived.{Arrived}
use Rattle.rad_policy.specs.declared.ending.Ending.{Ending}
use Rattle.rad_core.specs.declared.started.StartAnswer.{StartAnswer}
use Rattle.rad_core.specs.declared.started.StartAnswer.TheVariants.{Dropped, Repeat, Busy, Full, Fresh, NoRoom}
use Rattle.rad_policy.specs.Policy.{Meaning}
use Rattle.rad_core.specs.State.{ServerState, at_moment}
use Rattle.rad_core.specs.Entry.{Entry, Start, Finish, Install, Look, Stop, worker_of}
use Rattle.rad_core.specs.Step.{after, run, IsLegal}
use Rattle.rad_core.specs.Worker.{Placed, At, placed, of_worker, is_of, served, asked, ending_of, reply_of, replies_of, answered, BeginsWithFinish, IsFollowed, IsClosed, HasOutcome, HaveOutcomes, IsOutcome, IsOwn}

-- places that are equal test so
pub same_place : (a b : ℕ) → a ≡ b → (a == b) ≡ true
same_place a b e = eq-eqb a b e

-- what `HasOutcome` says of a fresh request with this ending
abbrev HasEnding : {P F : Type 0} → Meaning P F → ServerState P → Arrived → ℕ → Option Ending → Type 0
HasEnding {P} meaning before arrival luck ending =
    (generation : P) × (before.present ≡ Some generation)
    × IsOutcome meaning generation arrival (at_moment arrival.now before).moment luck ending

module _ {P F : Type 0} (meaning : Meaning P F) where
  pub run-append : (state : ServerState P) (xs ys : List (Entry P F)) → run meaning state (xs ++ ys) ≡ run meaning (run meaning state xs) ys
  run-append state [] ys = refl
  run-append state (x ∷ xs) ys = run-append (after meaning state x) xs ys

  pub placed-append : (state : ServerState P) (xs ys : List (Entry P F)) → placed meaning state (xs ++ ys) ≡ placed meaning state xs ++ placed meaning (run meaning state xs) ys
  placed-append state [] ys = refl
  placed-append state (x ∷ xs) ys = ap (λ more. At state x ∷ more) (placed-append (after meaning state x) xs ys)

  pub IsLegal-append : (state : ServerState P) (xs ys : List (Entry P F)) → IsLegal meaning state xs → IsLegal meaning (run meaning state xs) ys → IsLegal meaning state (xs ++ ys)
  IsLegal-append state [] ys legal more = more
  IsLegal-append state (x ∷ xs) ys legal more = (legal.0, IsLegal-append (after meaning state x) xs ys legal.1 more)

pub of_worker-append : {P F : Type 0} (worker : ℕ) (xs ys : List (Placed P F)) → of_worker worker (xs ++ ys) ≡ of_worker worker xs ++ of_worker worker ys
of_worker-append worker [] ys = refl
of_worker-append worker (x ∷ xs) ys =
    elim (is_of worker x) as (λ b. cond b (x ∷ of_worker worker (xs ++ ys)) (of_worker worker (xs ++ ys)) ≡ cond b (x ∷ of_worker worker xs) (of_worker worker xs) ++ of_worker worker ys) [
      | true ↦ ap (λ more. x ∷ more) (of_worker-append worker xs ys)
      | false ↦ of_worker-append worker xs ys
    ]

-- entries that are all of one worker are its own
pub of_worker-own : {P F : Type 0} (meaning : Meaning P F) (worker : ℕ) (state : ServerState P) (entries : List (Entry P F)) → AllByRecursion (IsOwn worker) entries → of_worker worker (placed meaning state entries) ≡ placed meaning state entries
of_worker-own meaning worker state [] own = refl
of_worker-own meaning worker state (x ∷ xs) own =
    let rest = placed meaning (after meaning state x) xs in
    ap (λ b. cond b (At state x ∷ of_worker worker rest) (of_worker worker rest)) (same_place (worker_of x) worker own.0)
    ∙ ap (λ more. At state x ∷ more) (of_worker-own meaning worker (after meaning state x) xs own.1)

pub served-append : {P F : Type 0} (xs ys : List (Placed P F)) → served (xs ++ ys) ≡ served xs ++ served ys
served-append [] ys = refl
served-append (At before (Start arrival answer) ∷ xs) ys = ap (λ more. arrival ∷ more) (served-append xs ys)
served-append (At before (Finish worker place ending) ∷ xs) ys = served-append xs ys
served-append (At before (Install worker load listeners answer) ∷ xs) ys = served-append xs ys
served-append (At before (Look worker seen) ∷ xs) ys = served-append xs ys
served-append (At before (Stop worker) ∷ xs) ys = served-append xs ys

pub asked-append : {P F : Type 0} (xs ys : List (Placed P F)) → asked (xs ++ ys) ≡ asked xs ++ asked ys
asked-append [] ys = refl
asked-append (At before (Start arrival answer) ∷ xs) ys = ap (λ more. Some arrival ∷ more) (asked-append xs ys)
asked-append (At before (Finish worker place ending) ∷ xs) ys = asked-append xs ys
asked-append (At before (Install worker load listeners answer) ∷ xs) ys = asked-append xs ys
asked-append (At before (Look worker seen) ∷ xs) ys = ap (λ more. None ∷ more) (asked-append xs ys)
asked-append (At before (Stop worker) ∷ xs) ys = asked-append xs ys

-- a finish that comes next is found, whatever follows it
pub ending_of-next : {P F : Type 0} (place : ℕ) (xs ys : List (Placed P F)) → BeginsWithFinish place xs → ending_of place (xs ++ ys) ≡ ending_of place xs
ending_of-next place [] ys next = absurd next
ending_of-next place (At before (Start arrival answer) ∷ xs) ys next = absurd next
ending_of-next place (At before (Finish worker finished ending) ∷ xs) ys next =
    ap (λ b. cond b (Some ending) (ending_of place (xs ++ ys))) (same_place finished place next)
    ∙ sym (ap (λ b. cond b (Some ending) (ending_of place xs)) (same_place finished place next))
ending_of-next place (At before (Install worker load listeners answer) ∷ xs) ys next = absurd next
ending_of-next place (At before (Look worker seen) ∷ xs) ys next = absurd next
ending_of-next place (At before (Stop worker) ∷ xs) ys next = absurd next

pub replies_of-next : {P F : Type 0} (arrival : Arrived) (answer : StartAnswer) (xs ys : List (Placed P F)) → IsFollowed answer xs → replies_of arrival answer (xs ++ ys) ≡ replies_of arrival answer xs
replies_of-next arrival (Dropped cause) xs ys next = refl
replies_of-next arrival (Repeat octets) xs ys next = refl
replies_of-next arrival (Busy place) xs ys next = refl
replies_of-next arrival (Full count) xs ys next = refl
replies_of-next arrival NoRoom xs ys next = refl
replies_of-next arrival (Fresh place) xs ys next = ap (reply_of arrival) (ending_of-next place xs ys next)

pub answered-append : {P F : Type 0} (xs ys : List (Placed P F)) → IsClosed xs → answered (xs ++ ys) ≡ answered xs ++ answered ys
answered-append [] ys closed = refl
answered-append (At before (Start arrival answer) ∷ xs) ys closed =
    ap (λ replies. replies ++ answered (xs ++ ys)) (replies_of-next arrival answer xs ys closed.0)
    ∙ ap (λ more. replies_of arrival answer xs ++ more) (answered-append xs ys closed.1)
    ∙ sym (append_assoc (replies_of arrival answer xs) (answered xs) (answered ys))
answered-append (At before (Finish worker place ending) ∷ xs) ys closed = answered-append xs ys closed
answered-append (At before (Install worker load listeners answer) ∷ xs) ys closed = answered-append xs ys closed
answered-append (At before (Look worker seen) ∷ xs) ys closed = answered-append xs ys closed
answered-append (At before (Stop worker) ∷ xs) ys closed = answered-append xs ys closed

BeginsWithFinish-append : {P F : Type 0} (place : ℕ) (xs ys : List (Placed P F)) → BeginsWithFinish place xs → BeginsWithFinish place (xs ++ ys)
BeginsWithFinish-append place [] ys next = absurd next
BeginsWithFinish-append place (At before (Start arrival answer) ∷ xs) ys next = absurd next
BeginsWithFinish-append place (At before (Finish worker finished ending) ∷ xs) ys next = next
BeginsWithFinish-append place (At before (Install worker load listeners answer) ∷ xs) ys next = absurd next
BeginsWithFinish-append place (At before (Look worker seen) ∷ xs) ys next = absurd next
BeginsWithFinish-append place (At before (Stop worker) ∷ xs) ys next = absurd next

IsFollowed-append : {P F : Type 0} (answer : StartAnswer) (xs ys : List (Placed P F)) → IsFollowed answer xs → IsFollowed answer (xs ++ ys)
IsFollowed-append (Dropped cause) xs ys next = tt
IsFollowed-append (Repeat octets) xs ys next = tt
IsFollowed-append (Busy place) xs ys next = tt
IsFollowed-append (Full count) xs ys next = tt
IsFollowed-append NoRoom xs ys next = tt
IsFollowed-append (Fresh place) xs ys next = BeginsWithFinish-append place xs ys next

pub IsClosed-append : {P F : Type 0} (xs ys : List (Placed P F)) → IsClosed xs → IsClosed ys → IsClosed (xs ++ ys)
IsClosed-append [] ys closed more = more
IsClosed-append (At before (Start arrival answer) ∷ xs) ys closed more =
    (IsFollowed-append answer xs ys closed.0, IsClosed-append xs ys closed.1 more)
IsClosed-append (At before (Finish worker place ending) ∷ xs) ys closed more = IsClosed-append xs ys closed more
IsClosed-append (At before (Install worker load listeners answer) ∷ xs) ys closed more = IsClosed-append xs ys closed more
IsClosed-append (At before (Look worker seen) ∷ xs) ys closed more = IsClosed-append xs ys closed more
IsClosed-append (At before (Stop worker) ∷ xs) ys closed more = IsClosed-append xs ys closed more

HasOutcome-append : {P F : Type 0} (meaning : Meaning P F) (before : ServerState P) (arrival : Arrived) (luck : ℕ) (answer : StartAnswer) (xs ys : List (Placed P F)) → IsFollowed answer xs → HasOutcome meaning before arrival luck answer xs → HasOutcome meaning before arrival luck answer (xs ++ ys)
HasOutcome-append meaning before arrival luck (Dropped cause) xs ys next has = tt
HasOutcome-append meaning before arrival luck (Repeat octets) xs ys next has = tt
HasOutcome-append meaning before arrival luck (Busy place) xs ys next has = tt
HasOutcome-append meaning before arrival luck (Full count) xs ys next has = tt
HasOutcome-append meaning before arrival luck NoRoom xs ys next has = tt
HasOutcome-append {P} meaning before arrival luck (Fresh place) xs ys next has =
    subst (λ (ending : Option Ending). HasEnding meaning before arrival luck ending) (sym (ending_of-next place xs ys next)) has

pub HaveOutcomes-append : {P F : Type 0} (meaning : Meaning P F) (words others : List ℕ) (xs ys : List (Placed P F)) → IsClosed xs → HaveOutcomes meaning words xs → HaveOutcomes meaning others ys → HaveOutcomes meaning (words ++ others) (xs ++ ys)
HaveOutcomes-append meaning words others [] ys closed has more =
    subst (λ (ws : List ℕ). HaveOutcomes meaning (ws ++ others) ys) (sym has) more
HaveOutcomes-append meaning [] others (At before (Start arrival answer) ∷ xs) ys closed has more = absurd has
HaveOutcomes-append meaning (word ∷ words) others (At before (Start arrival answer) ∷ xs) ys closed has more =
    (HasOutcome-append meaning before arrival word answer xs ys closed.0 has.0, HaveOutcomes-append meaning words others xs ys closed.1 has.1 more)
HaveOutcomes-append meaning words others (At before (Finish worker place ending) ∷ xs) ys closed has more = HaveOutcomes-append meaning words others xs ys closed has more
HaveOutcomes-append meaning words others (At before (Install worker load listeners answer) ∷ xs) ys closed has more = HaveOutcomes-append meaning words others xs ys closed has more
HaveOutcomes-append meaning words others (At before (Look worker seen) ∷ xs) ys closed has more = HaveOutcomes-append meaning words others xs ys closed has more
HaveOutcomes-append meaning words others (At before (Stop worker) ∷ xs) ys closed has more = HaveOutcomes-append meaning words others xs ys closed has more
