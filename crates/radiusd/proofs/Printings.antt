-- What ends a run before its lines were printed whole, and what excuses it.
use Rattle.std.proofs.Common.{ℕ, ◌≡◌, ◌≤◌, ◌⊎◌, ◌++◌, List, Option, inl, inr, refl, ap, arith}
use Rattle.rad_outside.specs.Telling.{Tells, Rose}
use Rattle.radiusd.specs.declared.status.Status.{Status}
use Rattle.radiusd.specs.declared.status.Status.TheVariants as status
use Rattle.radiusd.specs.Course.{IsExcused}
use Rattle.rad_outside.specs.Printing.{Prints, PrintsWhole}
use Rattle.radiusd.specs.Printing.{IsCutShort}
use Rattle.radiusd.specs.ExitStatuses.{number_of}
use Rattle.rad_outside.proofs.Printings.{Prints-weaker, Prints-followed}

-- a count that rose has risen since earlier, and later too
pub Rose-since : (a b c : ℕ) → a ≤ b → Rose b c → Rose a c
Rose-since a b c le rose = omega arith

pub Rose-until : (a b c : ℕ) → Rose a b → b ≤ c → Rose a c
Rose-until a b c rose le = omega arith

-- a status other than Done has another number than 0
pub unfinished : (ended : Status) → ¬ (ended ≡ status.Done) → ¬ (number_of ended ≡ 0)
unfinished status.Done other = λ e. other refl
unfinished status.Words other = λ e. omega arith
unfinished status.Configuration other = λ e. omega arith
unfinished status.ReadFault other = λ e. omega arith
unfinished status.SocketFault other = λ e. omega arith
unfinished status.PrintFault other = λ e. omega arith
unfinished status.Worn other = λ e. omega arith
unfinished status.NoMemory other = λ e. omega arith

pub finished : (ended : Status) → number_of ended ≡ 0 → ended ≡ status.Done
finished status.Done e = refl
finished status.Words e = absurd (omega arith)
finished status.Configuration e = absurd (omega arith)
finished status.ReadFault e = absurd (omega arith)
finished status.SocketFault e = absurd (omega arith)
finished status.PrintFault e = absurd (omega arith)
finished status.Worn e = absurd (omega arith)
finished status.NoMemory e = absurd (omega arith)

-- a run that couldn't be served is unfinished
pub unserved : (ended : Status) (A : Type 0) → ((ended ≡ status.SocketFault) × A) ⊎ (ended ≡ status.NoMemory) → ¬ (number_of ended ≡ 0)
unserved ended A which = unfinished ended (elim which [
  | inl fault ↦ λ (done : ended ≡ status.Done). cc
  | inr memory ↦ λ (done : ended ≡ status.Done). cc
])

-- nor is one whose generation wasn't installed
pub uninstalled : (ended : Status) (A : Type 0) → (ended ≡ status.NoMemory) ⊎ ((ended ≡ status.Worn) × A) → ¬ (number_of ended ≡ 0)
uninstalled ended A which = unfinished ended (elim which [
  | inl memory ↦ λ (done : ended ≡ status.Done). cc
  | inr worn ↦ λ (done : ended ≡ status.Done). cc
])

module _ (a b : Option (List ℕ)) (before now : ℕ) (ended : Status) where
  -- lines that were cut short end a run with a status of their own, and others that were to follow aren't printed
  pub cut_unfinished : (lines : List ℕ) → IsCutShort lines a b before now ended → ¬ (number_of ended ≡ 0)
  cut_unfinished lines cut = unfinished ended (elim cut.cause [
    | inl fault ↦ λ (done : ended ≡ status.Done). cc
    | inr memory ↦ λ (done : ended ≡ status.Done). cc
  ])

  pub cut_followed : (lines more : List ℕ) → IsCutShort lines a b before now ended → Tells a b (Prints (lines ++ more) (IsExcused before now (number_of ended)))
  cut_followed lines more cut =
      let excuse : IsExcused before now (number_of ended) = elim cut.cause [ inl fault ↦ inl fault.1 | inr memory ↦ inr (ap number_of memory) ] in
      Prints-followed a b lines more (IsExcused before now (number_of ended)) excuse
      (Prints-weaker a b lines (Rose before now ⊎ (ended ≡ status.NoMemory)) (IsExcused before now (number_of ended))
      (λ either. elim either [ inl rose ↦ inl rose | inr memory ↦ inr (ap number_of memory) ]) cut.printed)

-- what is excused since is excused since earlier
pub excused_since : (a b c ended : ℕ) → a ≤ b → IsExcused b c ended → IsExcused a c ended
excused_since a b c ended le excuse = elim excuse [ inl rose ↦ inl (Rose-since a b c le rose) | inr memory ↦ inr memory ]
