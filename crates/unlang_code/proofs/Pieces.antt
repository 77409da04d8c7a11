-- Blocks of pieces, child by child.
use Rattle.std.specs.List.{list_any}
use Rattle.std.specs.Option.{option_to_list}
use Rattle.std.proofs.Common.{◌≡◌, Bool, true, false, ◌||◌, cond, List, [], ◌∷◌, ◌++◌, Option, Some, None, refl, sym, ap, ◌∙◌}
use Rattle.rad_words.specs.declared.codes.Code.{Code}
use Rattle.rad_tables.specs.declared.group_kind.GroupKind.{GroupKind}
use Rattle.mod_base.specs.Situation.{Situation}
use Rattle.unlang_code.specs.declared.judgement.Child.{Child}
use Rattle.unlang_code.specs.declared.progress.Signal.{Signal}
use Rattle.unlang_code.specs.declared.progress.Signal.TheVariants.{Goes, Returns}
use Rattle.unlang_code.specs.declared.progress.Ended.{Ended}
use Rattle.unlang_code.specs.declared.progress.Progress.{Progress}
use Rattle.unlang_code.specs.declared.progress.Progress.TheVariants.{Going, Over}
use Rattle.unlang_code.specs.Judgement.{ends, ended_by, ending_code, heavier_of}
use Rattle.unlang_code.specs.Run.{Outcome, Piece, is_over, and_then, block_of}
use Rattle.unlang_code.specs.Progress.{by_end, absorbed_by, end_of}
use Rattle.unlang_code.specs.Progressing.{progressed, come_to, ends_as}
use Rattle.unlang_code.proofs.Judging.{judged_behind, judged_is}

-- what is left of a group behind so much of it
abbrev pub onward : Situation × Progress → (Option Child → Situation → Situation × Progress) → Situation × Progress
onward (s, Going leading) rest = rest leading s
onward (s, Over e) rest = (s, Over e)

one_by : (leading : Option Child) (signal : Signal) (child : Child) (answer : Option Code) → ended_by child ≡ answer → progressed leading signal (child ∷ []) ≡ by_end leading signal child answer
unfolding progressed
one_by leading signal child None is = rw (is, progressed) refl
one_by leading signal child (Some answer) is = rw (is, progressed) refl

-- behind one statement
pub absorbed_is : (leading : Option Child) (signal : Signal) (child : Option Child) → progressed leading signal (option_to_list child) ≡ absorbed_by leading signal child
unfolding progressed
absorbed_is leading signal None = refl
absorbed_is leading signal (Some child) = one_by leading signal child (ended_by child) refl

-- a child that doesn't end the group is passed
pub passed_by : (leading : Option Child) (signal : Signal) (child : Child) (children : List Child) → ends child ≡ false → progressed leading signal (child ∷ children) ≡ progressed (Some (heavier_of leading child)) signal children
unfolding progressed
passed_by leading signal child children is = rw (is, progressed) refl

pub ends_there : (leading : Option Child) (signal : Signal) (child : Child) (children : List Child) → ends child ≡ true → progressed leading signal (child ∷ children) ≡ Over (record { signal = signal; code = Some (ending_code child) })
unfolding progressed
ends_there leading signal child children is = rw (is, progressed) refl

module _ (rest : Situation → Outcome) where
  abbrev rest_of : Option Child → Situation → Situation × Progress
  rest_of leading s = come_to leading (rest s)

  abbrev made : Situation → Signal → List Child → Outcome
  made s signal children = record { situation = s; signal = signal; children = children }

  IsOver : Option Child → Situation → List Child → Type 0
  IsOver leading s children = come_to leading (made s Returns children) ≡ onward (come_to leading (made s Returns children)) rest_of

  returns_by : (t : Bool) (leading : Option Child) (s : Situation) (child : Child) (children : List Child) → ends child ≡ t → IsOver (Some (heavier_of leading child)) s children → IsOver leading s (child ∷ children)
  unfolding IsOver
  returns_by true leading s child children is more = rw (ends_there leading Returns child children is) refl
  returns_by false leading s child children is more = rw (passed_by leading Returns child children is) more

  returns_over : (leading : Option Child) (s : Situation) (children : List Child) → IsOver leading s children
  unfolding IsOver progressed
  returns_over leading s [] = refl
  returns_over leading s (child ∷ children) = returns_by (ends child) leading s child children refl (returns_over (Some (heavier_of leading child)) s children)

  passes : (t : Bool) (leading : Option Child) (s : Situation) (child : Child) (children : List Child) → ends child ≡ false
      → come_to leading (and_then t (made s Goes (child ∷ children)) rest) ≡ come_to (Some (heavier_of leading child)) (and_then t (made s Goes children) rest)
  passes true leading s child children is = ap (λ (p : Progress). (s, p)) (passed_by leading Goes child children is)
  passes false leading s child children is = ap (λ (p : Progress). ((rest s).situation, p)) (passed_by leading (rest s).signal child (children ++ (rest s).children) is)

  GoesOn : Option Child → Situation → List Child → Type 0
  GoesOn leading s children = come_to leading (and_then (list_any ends children) (made s Goes children) rest) ≡ onward (come_to leading (made s Goes children)) rest_of

  goes_by : (t : Bool) (leading : Option Child) (s : Situation) (child : Child) (children : List Child) → ends child ≡ t → GoesOn (Some (heavier_of leading child)) s children → GoesOn leading s (child ∷ children)
  unfolding GoesOn
  goes_by true leading s child children is more =
      ap (λ b. come_to leading (and_then (b || list_any ends children) (made s Goes (child ∷ children)) rest)) is
      ∙ rw (ends_there leading Goes child children is) refl
  goes_by false leading s child children is more =
      ap (λ b. come_to leading (and_then (b || list_any ends children) (made s Goes (child ∷ children)) rest)) is
      ∙ passes (list_any ends children) leading s child children is
      ∙ more
      ∙ ap (λ (p : Progress). onward (s, p) rest_of) (sym (passed_by leading Goes child children is))

  goes_on : (leading : Option Child) (s : Situation) (children : List Child) → GoesOn leading s children
  unfolding GoesOn progressed
  goes_on leading s [] = refl
  goes_on leading s (child ∷ children) = goes_by (ends child) leading s child children refl (goes_on (Some (heavier_of leading child)) s children)

  by_signal : (signal : Signal) (leading : Option Child) (s : Situation) (children : List Child) → come_to leading (and_then (is_over (made s signal children)) (made s signal children) rest) ≡ onward (come_to leading (made s signal children)) rest_of
  unfolding GoesOn IsOver
  by_signal Goes leading s children = goes_on leading s children
  by_signal Returns leading s children = returns_over leading s children

  -- a piece, and then what is left
  pub piece_then : (leading : Option Child) (first : Outcome) → come_to leading (and_then (is_over first) first rest) ≡ onward (come_to leading first) rest_of
  piece_then leading first = by_signal first.signal leading first.situation first.children

onward_twice : (so_far : Situation × Progress) (rest more : Option Child → Situation → Situation × Progress) → onward (onward so_far rest) more ≡ onward so_far (λ leading s. onward (rest leading s) more)
onward_twice (s, Going leading) rest more = refl
onward_twice (s, Over e) rest more = refl

onward_same : (so_far : Situation × Progress) (rest more : Option Child → Situation → Situation × Progress) → ((leading : Option Child) (s : Situation) → rest leading s ≡ more leading s) → onward so_far rest ≡ onward so_far more
onward_same (s, Going leading) rest more same = same leading s
onward_same (s, Over e) rest more same = refl

-- a block, and then another
pub block_then : (kind : GroupKind) (pieces others : List Piece) (leading : Option Child) (s : Situation)
    → come_to leading (block_of kind (pieces ++ others) s) ≡ onward (come_to leading (block_of kind pieces s)) (λ l t. come_to l (block_of kind others t))
unfolding progressed
block_then kind [] others leading s = refl
block_then kind (piece ∷ pieces) others leading s =
    let more : Option Child → Situation → Situation × Progress = λ l t. come_to l (block_of kind others t) in
    piece_then (block_of kind (pieces ++ others)) leading (piece kind s)
    ∙ onward_same (come_to leading (piece kind s)) (λ l t. come_to l (block_of kind (pieces ++ others) t)) (λ l t. onward (come_to l (block_of kind pieces t)) more) (λ l t. block_then kind pieces others l t)
    ∙ sym (onward_twice (come_to leading (piece kind s)) (λ l t. come_to l (block_of kind pieces t)) more)
    ∙ ap (λ (so_far : Situation × Progress). onward so_far more) (sym (piece_then (block_of kind pieces) leading (piece kind s)))

-- the code of a group by how far it has come
abbrev pub IsEnd : Option Child → Signal → List Child → Type 0
IsEnd leading signal children = let coded : Ended = record { signal = signal; code = judged_behind leading children } in coded ≡ end_of (progressed leading signal children)

ended_by_test : (t : Bool) (leading : Option Child) (signal : Signal) (child : Child) (children : List Child) → ends child ≡ t → IsEnd (Some (heavier_of leading child)) signal children → IsEnd leading signal (child ∷ children)
ended_by_test true leading signal child children is more =
    let coded : Option Code → Ended = λ answer. record { signal = signal; code = answer } in
    ap (λ b. coded (cond b (Some (ending_code child)) (judged_behind (Some (heavier_of leading child)) children))) is
    ∙ ap end_of (sym (ends_there leading signal child children is))
ended_by_test false leading signal child children is more =
    let coded : Option Code → Ended = λ answer. record { signal = signal; code = answer } in
    ap (λ b. coded (cond b (Some (ending_code child)) (judged_behind (Some (heavier_of leading child)) children))) is
    ∙ more ∙ ap end_of (sym (passed_by leading signal child children is))

pub ended_is : (leading : Option Child) (signal : Signal) (children : List Child) → IsEnd leading signal children
unfolding progressed
ended_is leading Goes [] = refl
ended_is leading Returns [] = refl
ended_is leading signal (child ∷ children) = ended_by_test (ends child) leading signal child children refl (ended_is (Some (heavier_of leading child)) signal children)

-- where a block ends
abbrev pub finished : Situation × Progress → Situation × Ended
finished so_far = (so_far.0, end_of so_far.1)

pub ends_is : (outcome : Outcome) → ends_as outcome ≡ finished (come_to None outcome)
ends_is outcome =
    let coded : Option Code → Situation × Ended = λ answer. (outcome.situation, record { signal = outcome.signal; code = answer }) in
    ap coded (judged_is outcome.children)
    ∙ ap (λ (e : Ended). (outcome.situation, e)) (ended_is None outcome.signal outcome.children)
