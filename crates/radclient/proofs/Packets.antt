-- Packets, one after another.
use Rattle.std.proofs.Common.{◌≡◌, ℕ, zero, suc, ◌+◌, ◌-◌, ◌%◌, ◌<◌, Bool, List, [], ◌∷◌, ◌++◌, length, map, drop, replicate, get_or, refl, sym, ap, subst, ◌∙◌, drop-cons, add-one, arith}
use Rattle.rad_value.specs.declared.values.Pair.{Pair}
use Rattle.rad_value.specs.PairLists.{PairLists}
use Rattle.radclient.specs.declared.asked.Asked.{Asked}
use Rattle.radclient.specs.declared.stop.Stop.{Stop}
use Rattle.radclient.specs.Answers.{Act, Finished, ended}
use Rattle.radclient.specs.Client.{client_run, counted, packet, packets, repeated}
use Rattle.radclient.specs.Seen.{Seen, Goes, Stops}
use Rattle.radclient.proofs.Reaching.{Goes-same}

abbrev pub next_act : Asked → ℕ → ℕ → List (List Pair) → Bool → Act
next_act asked id bad more good = packets asked ((id + 1) % 256) (counted good bad) more

module _ (asked : Asked) (id bad : ℕ) (pairs : List Pair) (more : List (List Pair)) (a b : Seen) where
  pub next_goes : (good : Bool) (next_id next_bad : ℕ) → next_id ≡ (id + 1) % 256 → next_bad ≡ counted good bad
      → Goes (packet asked id pairs (next_act asked id bad more)) (next_act asked id bad more good) a b
      → Goes (packets asked id bad (pairs ∷ more)) (packets asked next_id next_bad more) a b
  unfolding packets
  next_goes good next_id next_bad ids bads goes =
      subst (λ (n : ℕ). Goes (packets asked id bad (pairs ∷ more)) (packets asked n next_bad more) a b) (sym ids)
      (subst (λ (n : ℕ). Goes (packets asked id bad (pairs ∷ more)) (packets asked ((id + 1) % 256) n more) a b) (sym bads) goes)

  pub next_stops : (stop : Stop) → Stops (packet asked id pairs (next_act asked id bad more)) stop a b → Stops (packets asked id bad (pairs ∷ more)) stop a b
  unfolding packets
  next_stops stop stops = stops

pub group_next : (left : ℕ) (pairs : List Pair) (more : List (List Pair)) → 0 < left → pairs ∷ (replicate (left - 1) pairs ++ more) ≡ replicate left pairs ++ more
group_next zero pairs more some = absurd (omega arith)
group_next (suc left) pairs more some =
    let e : suc left - 1 ≡ left = omega arith in
    ap (λ (n : ℕ). pairs ∷ (replicate n pairs ++ more)) e

pub run_begins : (asked : Asked) (groups : List (List Pair)) (a : Seen) → Goes (client_run asked groups) (packets asked 0 0 (repeated asked.count groups)) a a
unfolding client_run
run_begins asked groups a = Goes-same (client_run asked groups) (packets asked 0 0 (repeated asked.count groups)) a (λ come. refl)

abbrev pub requests : List PairLists → List (List Pair)
requests groups = map (λ (p : PairLists). p.request) groups

pub groups_next : (count : ℕ) (groups : List PairLists) (i : ℕ) (group : PairLists) → i < length groups → group ≡ get_or groups i group
    → repeated count (requests (drop i groups)) ≡ replicate count group.request ++ repeated count (requests (drop (i + 1) groups))
groups_next count groups i group within is =
    ap (λ (gs : List PairLists). repeated count (requests gs)) (drop-cons groups i group within)
    ∙ ap (λ (g : PairLists). replicate count g.request ++ repeated count (requests (drop (suc i) groups))) (sym is)
    ∙ ap (λ (n : ℕ). replicate count group.request ++ repeated count (requests (drop n groups))) (sym (add-one i))

pub groups_end : (asked : Asked) (id bad : ℕ) (groups : List PairLists) (i : ℕ) (a : Seen) → drop i groups ≡ []
    → Goes (packets asked id bad (repeated asked.count (requests (drop i groups)))) (ended (Finished bad)) a a
unfolding packets
groups_end asked id bad groups i a none =
    Goes-same (packets asked id bad (repeated asked.count (requests (drop i groups)))) (ended (Finished bad)) a
    (λ come. ap (λ (gs : List PairLists). packets asked id bad (repeated asked.count (requests gs)) come) none)
