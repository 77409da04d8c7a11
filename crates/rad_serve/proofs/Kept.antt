-- The hub's invariant over what is added.
use Rattle.std.proofs.Common.{ℕ, ◌≡◌, ◌<◌, ◌+◌, ◌^◌, ◌++◌, [], ◌∷◌, length, ap, sym, ◌∙◌, arith}
use Rattle.rad_turn.specs.declared.view.View.{View}
use Rattle.rad_turn.specs.Views.{IsSameSeat}
use Rattle.rad_core.specs.declared.entry.Entry.{Entry}
use Rattle.rad_core.specs.Requests.{Requests}
use Rattle.rad_core.specs.Step.{Step}
use Rattle.rad_core.specs.Behind.{TurnAdds}
use Rattle.rad_core.proofs.Behind.{alone_adds}
use Rattle.rad_build.specs.declared.fault.BuildFault.{BuildFault}
use Rattle.rad_site.specs.Site.{Site}
use Rattle.rad_site.specs.Meaning.{site_meaning}
use Rattle.rad_serve.specs.declared.counts.Tally.{Tally}
use Rattle.rad_serve.specs.Counting.{tally_of}
use Rattle.rad_serve.specs.History.{IsAlone, IsNumbered, state_after, Adds}
use Rattle.rad_serve.proofs.Tallies.{length_push}

module _ {O B : Type 0} (v w : View (Entry Site BuildFault) O B) (entry : Entry Site BuildFault) (alone : IsAlone v) (adds : TurnAdds site_meaning v w entry) where
  pub grows : w.seen ≡ v.seen ++ entry ∷ []
  grows = (alone_adds site_meaning v w alone.name alone.out entry adds).0

  pub stepped : Step site_meaning (state_after v.seen) entry (state_after w.seen)
  stepped = (alone_adds site_meaning v w alone.name alone.out entry adds).1

  -- what the turn adds
  pub adds_one : Adds v.seen w.seen entry
  adds_one = record { grows = grows; may = stepped.may }

  -- a turn that leaves the table keeps the invariant
  pub alone_after : IsSameSeat v w → (state_after w.seen).table ≡ (state_after v.seen).table → IsAlone w
  alone_after same table = record {
    name = same.name ∙ alone.name;
    out = same.out ∙ alone.out;
    kept = record { legal = adds.legal; idle = ap (λ (t : Requests Site). t.in_progress) table ∙ alone.kept.idle };
  }

  pub numbered_after : (count : ℕ) (before after : Tally) → IsNumbered v.seen count before → length v.seen < 2 ^ 62 → after ≡ tally_of w.seen → IsNumbered w.seen (count + 1) after
  numbered_after count before after numbered few is = record {
    count_is = ap (λ n. n + 1) numbered.count_is ∙ sym (length_push v.seen w.seen entry grows);
    short = omega (arith, length_push v.seen w.seen entry grows);
    tally_is = is;
  }

  -- a turn that leaves the table keeps the whole invariant
  pub kept_one : (count : ℕ) (before after : Tally) → IsSameSeat v w → (state_after w.seen).table ≡ (state_after v.seen).table → IsNumbered v.seen count before → length v.seen < 2 ^ 62 → after ≡ tally_of w.seen → IsAlone w × IsNumbered w.seen (count + 1) after
  kept_one count before after same table numbered few is = (alone_after same table, numbered_after count before after numbered few is)
