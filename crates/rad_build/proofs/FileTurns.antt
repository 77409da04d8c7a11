-- The nodes of a block, one after the other, where each may name a file, as a loop reads them.
use Rattle.std.proofs.Common.{◌≡◌, ℕ, ◌+◌, ◌<◌, ◌≤◌, List, length, get_or, drop, Option, Some, None, Result, Ok, Err, sym, subst, ◌∙◌}
use Rattle.rad_outside.specs.Files.{FilesTold}
use Rattle.rad_outside.specs.Telling.{Tells}
use Rattle.rad_conf.specs.declared.tree.Node.{Node}
use Rattle.rad_policy.specs.Policy.{Sources}
use Rattle.rad_build.specs.declared.fault.BuildFault.{BuildFault}
use Rattle.rad_build.specs.Nodes.{◌>>=◌, after_each}
use Rattle.rad_build.specs.Sources.{Finds, FindsIn}
use Rattle.rad_build.proofs.BlockItems.{one_step, is_done}
use Rattle.rad_build.proofs.BlockItems as items
use Rattle.rad_build.proofs.Finding.{misses_first}

abbrev at : List ℕ → FilesTold → Sources
at folder told = record { files = told.present; folder = folder }

-- what was read and is still to read is the whole
abbrev pub Reads : {S : Type 0} → List ℕ → (Sources → S → Node → Result S BuildFault) → S → S → List Node → List Node → FilesTold → FilesTold → Type 0
Reads folder step first known rest all before now = (now ≡ before)
    × (let here = step (record { files = before.present; folder = folder }) in after_each here known rest ≡ after_each here first all)

module _ {S : Type 0} (folder : List ℕ) (step : Sources → S → Node → Result S BuildFault) (first : S) where
  pub goes_on : (known next : S) (nodes : List Node) (i : ℕ) (node : Node) (a b c : Option FilesTold) → i < length nodes → node ≡ get_or nodes i node
      → Tells a b (Reads folder step first known (drop i nodes) nodes) → FindsIn folder (λ sources. step sources known node) (Ok next) b c → Tells a c (Reads folder step first next (drop (i + 1) nodes) nodes)
  goes_on known next nodes i node a b None lt is so_far found = tt
  goes_on known next nodes i node a None (Some now) lt is so_far found = absurd found
  goes_on known next nodes i node None (Some between) (Some now) lt is so_far found = absurd so_far
  goes_on known next nodes i node (Some before) (Some between) (Some now) lt is so_far found =
      let here = step (at folder before) in
      let read : here known node ≡ Ok next = subst (λ told. step (at folder told) known node ≡ Ok next) so_far.0 found.1 in (
        found.0 ∙ so_far.0,
        items.goes_on here known next nodes i node (after_each here first nodes) lt is read so_far.1,
      )

  pub stops : (known : S) (nodes : List Node) (i : ℕ) (node : Node) (e : BuildFault) (a b c : Option FilesTold) → i < length nodes → node ≡ get_or nodes i node
      → Tells a b (Reads folder step first known (drop i nodes) nodes) → FindsIn folder (λ sources. step sources known node) (Err e) b c
      → FindsIn folder (λ sources. after_each (step sources) first nodes) (Err e) a c
  stops known nodes i node e a b None lt is so_far found = tt
  stops known nodes i node e a None (Some now) lt is so_far found = absurd found
  stops known nodes i node e None (Some between) (Some now) lt is so_far found = absurd so_far
  stops known nodes i node e (Some before) (Some between) (Some now) lt is so_far found =
      let here = step (at folder before) in
      let read = subst (λ told. Finds (let r : Result S BuildFault = Err e in r) (step (at folder told) known node)) so_far.0 found.1 in (
        found.0 ∙ so_far.0,
        subst (λ r. Finds (let x : Result S BuildFault = Err e in x) r) (sym (one_step here known nodes i node lt is) ∙ so_far.1)
            (misses_first e (here known node) (λ k. after_each here k (drop (i + 1) nodes)) read),
      )

  pub ends : (known : S) (nodes : List Node) (i : ℕ) (a b : Option FilesTold) → length nodes ≤ i
      → Tells a b (Reads folder step first known (drop i nodes) nodes) → FindsIn folder (λ sources. after_each (step sources) first nodes) (Ok known) a b
  ends known nodes i a None le so_far = tt
  ends known nodes i None (Some now) le so_far = absurd so_far
  ends known nodes i (Some before) (Some now) le so_far =
      let here = step (at folder before) in
      (so_far.0, is_done here known nodes i (after_each here first nodes) le so_far.1)
