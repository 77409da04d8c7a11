-- Sends of one packet are the same.
use Rattle.std.proofs.Common.{◌≡◌, ℕ, zero, suc, Bool, true, false, List, [], ◌∷◌, Option, Some, None, refl}
use Rattle.std.specs.List.{AllByRecursion}
use Rattle.rad_outside.specs.declared.wire.Heard.{Heard}
use Rattle.radclient.specs.declared.asked.Asked.{Asked}
use Rattle.radclient.specs.Answers.{Act, Ending, Run, Sending, ToCome, ended}
use Rattle.radclient.specs.Client.{awaited, tried}
use Rattle.radclient.specs.Judging.{Judged, Reply, Other, Broken, judged}
use Rattle.radclient.proofs.Awaiting.{resumed}
use Rattle.radclient.proofs.Tries.{again}

module _ (asked : Asked) (request : List ℕ) where
  abbrev pub Same : Run → Type 0
  Same run = AllByRecursion (λ (sending : Sending). sending ≡ record { to = asked.server; octets = request }) run.sends

  awaited_same : (waits : ℕ) (next : Option (List ℕ) → Act) → ((found : Option (List ℕ)) (come : ToCome) → Same (next found come)) → (taken : List Bool) (heard : List Heard) (words : List ℕ)
      → Same (awaited asked request waits next (record { taken = taken; heard = heard; words = words }))
  unfolding awaited
  awaited_same zero next all taken heard words = all None (record { taken = taken; heard = heard; words = words })
  awaited_same (suc waits) next all taken [] words = tt
  awaited_same (suc waits) next all taken (answer ∷ more) words =
      elim (judged asked request answer) as (λ (j : Judged). Same (resumed asked request waits next j (record { taken = taken; heard = more; words = words }))) [
        | Reply octets ↦ all (Some octets) (record { taken = taken; heard = more; words = words })
        | Other ↦ awaited_same waits next all taken more words
        | Broken ↦ tt
      ]

  pub tried_same : (lines : List ℕ) (tries : ℕ) (ending : Ending) (taken : List Bool) (heard : List Heard) (words : List ℕ)
      → Same (tried asked request lines tries (λ found. ended ending) (record { taken = taken; heard = heard; words = words }))
  unfolding tried
  tried_same lines zero ending taken heard words = tt
  tried_same lines (suc tries) ending [] heard words = tt
  tried_same lines (suc tries) ending (false ∷ more) heard words = (refl, tt)
  tried_same lines (suc tries) ending (true ∷ more) heard words = (
    refl,
    awaited_same asked.waits (again asked request lines tries (λ other. ended ending))
        (λ found come. elim found as (λ (f : Option (List ℕ)). Same (again asked request lines tries (λ other. ended ending) f come)) [
          | Some reply ↦ tt
          | None ↦ tried_same lines tries ending come.taken come.heard come.words
        ]) more heard words,
  )
