-- A legal history in which each fresh start has its finish answers each authentic arrival once.
use Rattle.std.proofs.Common.{ℕ, ◌≡◌, ◌⊎◌, List, [], ◌∷◌, true, false, cond, Option, Some, inl, inr, refl, ap, sym, subst}
use Rattle.std.specs.List.{AllByRecursion}
use Rattle.rad_packet.specs.Authentic.{IsAuthentic}
use Rattle.rad_packet.proofs.Datagrams.{cause_without_authentic}
use Rattle.rad_policy.specs.declared.arrival.Arrived.{Arrived}
use Rattle.rad_policy.specs.declared.ending.Ending.{Ending}
use Rattle.rad_policy.specs.declared.ending.Ending.TheVariants.{Sent, Withheld, OutOfMemory}
use Rattle.rad_core.specs.declared.started.StartAnswer.{StartAnswer}
use Rattle.rad_core.specs.declared.started.StartAnswer.TheVariants.{Dropped, Repeat, Busy, Full, Fresh, NoRoom}
use Rattle.rad_policy.specs.Policy.{Meaning}
use Rattle.rad_core.specs.State.{ServerState}
use Rattle.rad_core.specs.Entry.{Entry, Start, Finish, Install, Look, Stop}
use Rattle.rad_core.specs.Step.{May, after, IsLegal}
use Rattle.rad_core.specs.Worker.{Placed, At, placed, of_worker, is_of, ending_of, reply_of, BeginsWithFinish, IsFollowed, IsClosed}
use Rattle.rad_core.specs.Completeness.{HasOneReply, EachHasOneReply}
use Rattle.rad_core.proofs.Histories.{same_place}

-- the entry may come in the state before it
abbrev pub MayAt : {P F : Type 0} → Meaning P F → Placed P F → Type 0
MayAt meaning (At before entry) = May meaning before entry

-- what an ending gives, of a request that has ended
abbrev IsEnded : Arrived → Option Ending → Type 0
IsEnded arrival ending = ((octets : List ℕ) × (reply_of arrival ending ≡ record { to = arrival.from; octets = octets } ∷ []))
    ⊎ ((ending ≡ Some Withheld) ⊎ (ending ≡ Some OutOfMemory))

ended : (arrival : Arrived) (ending : Ending) → IsEnded arrival (Some ending)
ended arrival (Sent octets) = inl (octets, refl)
ended arrival Withheld = inr (inl refl)
ended arrival OutOfMemory = inr (inr refl)

-- a finish that comes next ends its request
next_ends : {P F : Type 0} (arrival : Arrived) (place : ℕ) (later : List (Placed P F)) → BeginsWithFinish place later → IsEnded arrival (ending_of place later)
next_ends arrival place [] next = absurd next
next_ends arrival place (At before (Start other answer) ∷ later) next = absurd next
next_ends arrival place (At before (Finish worker finished ending) ∷ later) next =
    subst (IsEnded arrival) (sym (ap (λ b. cond b (Some ending) (ending_of place later)) (same_place finished place next))) (ended arrival ending)
next_ends arrival place (At before (Install worker load listeners answer) ∷ later) next = absurd next
next_ends arrival place (At before (Look worker seen) ∷ later) next = absurd next
next_ends arrival place (At before (Stop worker) ∷ later) next = absurd next

module _ {P F : Type 0} (meaning : Meaning P F) where
  -- a legal history has each of its entries where it may come
  pub may_all : (state : ServerState P) (entries : List (Entry P F)) → IsLegal meaning state entries → AllByRecursion (MayAt meaning) (placed meaning state entries)
  may_all state [] legal = tt
  may_all state (x ∷ xs) legal = (legal.0, may_all (after meaning state x) xs legal.1)

  -- so have the entries of one worker
  pub may_own : (worker : ℕ) (entries : List (Placed P F)) → AllByRecursion (MayAt meaning) entries → AllByRecursion (MayAt meaning) (of_worker worker entries)
  may_own worker [] all = tt
  may_own worker (x ∷ xs) all =
      elim (is_of worker x) as (λ b. AllByRecursion (MayAt meaning) (cond b (x ∷ of_worker worker xs) (of_worker worker xs))) [
        | true ↦ (all.0, may_own worker xs all.1)
        | false ↦ may_own worker xs all.1
      ]

  one_reply : (before : ServerState P) (arrival : Arrived) (answer : StartAnswer) (later : List (Placed P F)) → May meaning before (Start arrival answer) → IsFollowed answer later → HasOneReply meaning before arrival answer later
  one_reply before arrival (Dropped cause) later may followed taken =
      let same : may.1.0 ≡ taken.0 = cc in
      absurd (cause_without_authentic cause arrival.bytes (meaning.client may.1.0 arrival.from.addr) arrival.kind may.1.2
      (subst (λ (generation : P). IsAuthentic arrival.bytes (meaning.client generation arrival.from.addr) arrival.kind) (sym same) taken.2))
  one_reply before arrival (Repeat octets) later may followed taken = inl (octets, refl)
  one_reply before arrival (Busy place) later may followed taken = inr (inl tt)
  one_reply before arrival (Full count) later may followed taken = inr (inl tt)
  one_reply before arrival NoRoom later may followed taken = inr (inr (inr refl))
  one_reply before arrival (Fresh place) later may followed taken = elim (next_ends arrival place later followed) [
    | inl replies ↦ inl replies
    | inr none ↦ inr (inr none)
  ]

  -- each arrival of entries that may come, each fresh start with its finish
  pub each_one_reply : (mine : List (Placed P F)) → AllByRecursion (MayAt meaning) mine → IsClosed mine → EachHasOneReply meaning mine
  each_one_reply [] may closed = tt
  each_one_reply (At before (Start arrival answer) ∷ more) may closed =
      (one_reply before arrival answer more may.0 closed.0, each_one_reply more may.1 closed.1)
  each_one_reply (At before (Finish worker place ending) ∷ more) may closed = each_one_reply more may.1 closed
  each_one_reply (At before (Install worker load listeners answer) ∷ more) may closed = each_one_reply more may.1 closed
  each_one_reply (At before (Look worker seen) ∷ more) may closed = each_one_reply more may.1 closed
  each_one_reply (At before (Stop worker) ∷ more) may closed = each_one_reply more may.1 closed
