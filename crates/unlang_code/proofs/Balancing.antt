-- Members before and behind a place, and blocks that balance.
use Rattle.std.specs.Prelude.{map, length, ◌==◌}
use Rattle.std.specs.List.{drop-map, take-map}
use Rattle.std.proofs.Common.{◌≡◌, ℕ, ◌≤◌, Bool, true, false, cond, arith, List, [], ◌∷◌, ◌++◌, take, drop, Option, Some, None, refl, sym, ap, subst, ◌∙◌}
use Rattle.std.proofs.lemmas.List.{append-nil, map-append, length-map}
use Rattle.std.proofs.lemmas.Bool.Decides.{nat_tests}
use Rattle.rad_words.specs.declared.sections.Section.{Section}
use Rattle.rad_tables.specs.declared.group_kind.GroupKind.{GroupKind}
use Rattle.rad_tables.specs.declared.group_kind.GroupKind.TheVariants.{Plain, Redundant}
use Rattle.rad_value.specs.declared.scope.Scope.{Scope}
use Rattle.rad_dict.specs.Definitions.{Definitions}
use Rattle.rad_world.specs.Effects.{Effect, answers_of}
use Rattle.rad_world.specs.World.{WorldState}
use Rattle.mod_base.specs.Situation.{Situation, situation_in}
use Rattle.mod_base.specs.Meaning.{Meaning, IsLawful}
use Rattle.mod_base.specs.Reaching.{Reaches, Stops}
use Rattle.mod_base.proofs.Reached.{reaches_joined, reaches_then, reaches_as, stops_joined, stops_then}
use Rattle.unlang_tree.specs.declared.statement.Statement.{Statement}
use Rattle.unlang_code.specs.declared.judgement.Child.{Child}
use Rattle.unlang_code.specs.declared.progress.Ended.{Ended}
use Rattle.unlang_code.specs.declared.progress.Progress.{Progress}
use Rattle.unlang_code.specs.declared.progress.Progress.TheVariants.{Going, Over}
use Rattle.unlang_code.specs.Progress.{end_of}
use Rattle.unlang_code.specs.Progressing.{come_to, ends_as}
use Rattle.unlang_code.specs.Run.{Piece, Outcome, in_scope, with_choice, block_of, nothing, picked, picked_of, alone, rotated, chosen, balanced_in, statement_done, run_of}
use Rattle.unlang_code.proofs.Pieces.{onward, block_then, finished, ends_is}
use Rattle.unlang_code.proofs.Running.{Grows, run_grows, reaches_moved}
use Rattle.unlang_code.proofs.Stepping.{left}

-- a meaning that is the same in each situation of this scope and world is as good
pub reaches_from : {A : Type 0} (s0 s1 : Scope) (w0 w1 : WorldState) (meaning left' meaning' : Situation → A) → ((later : List Bool) (earlier : List Effect) → meaning' (situation_in s0 w0 later earlier) ≡ meaning (situation_in s0 w0 later earlier))
    → Reaches s0 w0 meaning s1 w1 left' → Reaches s0 w0 meaning' s1 w1 left'
reaches_from s0 s1 w0 w1 meaning left' meaning' same a = record {
  added = a.added;
  gains = a.gains;
  same = λ later earlier. same (answers_of a.added ++ later) earlier ∙ a.same later earlier;
}

stops_from : (s0 : Scope) (w0 w1 : WorldState) (meant meant' : Situation → List Effect) → ((later : List Bool) (earlier : List Effect) → meant' (situation_in s0 w0 later earlier) ≡ meant (situation_in s0 w0 later earlier))
    → Stops s0 w0 meant w1 → Stops s0 w0 meant' w1
stops_from s0 w0 w1 meant meant' same a = record {
  added = a.added;
  gains = a.gains;
  first = λ later earlier. let found = a.first later earlier in (found.0, same (answers_of a.added ++ later) earlier ∙ found.1);
}

-- a run that came to the same place came there
pub reaches_at : {A B : Type 0} (s0 s1 s1' : Scope) (w0 w1 w1' : WorldState) (meaning : Situation → A) (left' : B → Situation → A) (p p' : B) → s1' ≡ s1 → w1' ≡ w1 → p' ≡ p → Reaches s0 w0 meaning s1 w1 (left' p) → Reaches s0 w0 meaning s1' w1' (left' p')
reaches_at s0 s1 s1' w0 w1 w1' meaning left' p p' is_scope is_world is_left reached =
    subst (λ (s : Scope). Reaches s0 w0 meaning s w1' (left' p')) (sym is_scope)
    (subst (λ (w : WorldState). Reaches s0 w0 meaning s1 w (left' p')) (sym is_world) (subst (λ (q : _). Reaches s0 w0 meaning s1 w1 (left' q)) (sym is_left) reached))

-- the members that a block which balances runs, by the number of the first
abbrev pub ordered : {X : Type 0} → GroupKind → ℕ → List X → List X
ordered Plain n members = alone n members
ordered Redundant n members = rotated n members

pub ordered_mapped : {X Y : Type 0} (f : X → Y) (kind : GroupKind) (n : ℕ) (members : List X) → map f (ordered kind n members) ≡ ordered kind n (map f members)
ordered_mapped f Plain n members = sym (take-map f 1 (drop n members)) ∙ ap (take 1) (sym (drop-map f n members))
ordered_mapped f Redundant n members =
    map-append f (drop n members) (take n members)
    ∙ ap (λ front. front ++ map f (take n members)) (sym (drop-map f n members))
    ∙ ap (λ back. drop n (map f members) ++ back) (sym (take-map f n members))

number_of : (t : Bool) (place number : ℕ) → Some place ≡ cond t None (Some number) → (t ≡ false) × (number ≡ place)
number_of true place number is = absurd (cc)
number_of false place number is = (refl, cc)

none_of : (t : Bool) (number : ℕ) → None ≡ cond t None (Some number) → t ≡ true
none_of true number is = refl
none_of false number is = absurd (cc)

-- what is picked is the number of a member
pub picked_within : (scope : Scope) (members place : ℕ) → Some place ≡ picked_of scope members → place ≤ members
picked_within scope members place is =
    let number = number_of (members == 0) place (picked scope members) is in
    grind (arith, nat_tests, number.0, number.1)

picked_at : (kind : GroupKind) (pieces : List Piece) (place : ℕ) (scope : Scope) (w : WorldState) → Some place ≡ picked_of scope (length pieces) → (later : List Bool) (earlier : List Effect)
    → balanced_in kind pieces (situation_in scope w later earlier) ≡ chosen (block_of kind (ordered kind place pieces) (situation_in scope w later earlier))
picked_at kind [] place scope w is later earlier = absurd (cc)
picked_at Plain (piece ∷ pieces) place scope w is later earlier =
    let all = piece ∷ pieces in
    ap (λ n. chosen (block_of Plain (alone n all) (situation_in scope w later earlier))) (number_of (length all == 0) place (picked scope (length all)) is).1
picked_at Redundant (piece ∷ pieces) place scope w is later earlier =
    let all = piece ∷ pieces in
    ap (λ n. chosen (block_of Redundant (rotated n all) (situation_in scope w later earlier))) (number_of (length all == 0) place (picked scope (length all)) is).1

none_picked : (kind : GroupKind) (pieces : List Piece) (scope : Scope) → None ≡ picked_of scope (length pieces) → (s : Situation) → balanced_in kind pieces s ≡ nothing s
none_picked Plain [] scope is s = refl
none_picked Redundant [] scope is s = refl
none_picked kind (piece ∷ pieces) scope is s =
    let all = piece ∷ pieces in
    let empty = none_of (length all == 0) (picked scope (length all)) is in
    absurd (grind (arith, nat_tests, empty))

-- behind a block that balances one more choice was made
abbrev chose : Situation × Ended → Situation × Ended
chose d = (in_scope (with_choice d.0.scope) d.0, d.1)

onward_grows : (so_far : Situation × Progress) (rest : Option Child → Situation → Situation × Progress) → ((leading : Option Child) (s : Situation) → Grows s (rest leading s).0) → Grows so_far.0 (onward so_far rest).0
onward_grows (s, Going leading) rest grows = grows leading s
onward_grows (s, Over e) rest grows = ([], sym (append-nil s.effects))

module _ {M : Type 0} (meaning : Meaning M) (stack : List M) (dict : Definitions) (section : Section) (kind : GroupKind) where
  module _ (leading : Option Child) (from before : List Statement) where
    abbrev rest : Option Child → Situation → Situation × Progress
    rest l t = left meaning stack dict section kind l before t

    -- statements, and then others
    left_then : (s : Situation) → left meaning stack dict section kind leading (from ++ before) s ≡ onward (left meaning stack dict section kind leading from s) rest
    left_then s =
        let done = statement_done meaning stack dict section in
        ap (λ (pieces : List Piece). come_to leading (block_of kind pieces s)) (map-append done from before)
        ∙ block_then kind (map done from) (map done before) leading s

    both_grow : ((m : M) (d : Definitions) (method : Section) (s : Situation) → IsLawful (meaning.edits m) method s (meaning.does m d method s).0)
        → (s : Situation) → Grows (run_of meaning stack dict section kind from s).situation (run_of meaning stack dict section kind (from ++ before) s).situation
    both_grow lawful s =
        let From : Situation × Progress → Type 0 = λ (d : Situation × Progress). Grows (run_of meaning stack dict section kind from s).situation d.0 in
        subst From (sym (left_then s)) (onward_grows (left meaning stack dict section kind leading from s) rest (λ l t. run_grows meaning lawful stack dict section kind before t))

    module _ (s0 s1 : Scope) (w0 w1 : WorldState) where
      -- a run that stopped at the first has stopped
      pub first_stops : ((m : M) (d : Definitions) (method : Section) (s : Situation) → IsLawful (meaning.edits m) method s (meaning.does m d method s).0)
          → Stops s0 w0 (λ s. (run_of meaning stack dict section kind from s).situation.effects) w1 → Stops s0 w0 (λ s. (run_of meaning stack dict section kind (from ++ before) s).situation.effects) w1
      first_stops lawful stopped =
          stops_then s0 w0 w1 (λ s. (run_of meaning stack dict section kind from s).situation.effects) (λ s. (run_of meaning stack dict section kind (from ++ before) s).situation.effects)
          (both_grow lawful) stopped

      -- behind the first
      pub first_done : (progress : Progress) → Reaches s0 w0 (left meaning stack dict section kind leading from) s1 w1 (λ s. (s, progress))
          → Reaches s0 w0 (left meaning stack dict section kind leading (from ++ before)) s1 w1 (λ s. onward (s, progress) rest)
      first_done progress reached =
          reaches_as s0 s1 w0 w1 (λ s. onward (left meaning stack dict section kind leading from s) rest) (λ s. onward (s, progress) rest) (left meaning stack dict section kind leading (from ++ before)) (λ s. onward (s, progress) rest)
          left_then (λ s. refl)
          (reaches_then s0 s1 w0 w1 (left meaning stack dict section kind leading from) (λ s. (s, progress)) (λ (d : Situation × Progress). onward d rest) reached)

      -- a run that stopped at the others has stopped
      pub others_stop : (w2 : WorldState) (next : Option Child) → Reaches s0 w0 (left meaning stack dict section kind leading from) s1 w1 (λ s. (s, Going next))
          → Stops s1 w1 (λ s. (run_of meaning stack dict section kind before s).situation.effects) w2 → Stops s0 w0 (λ s. (run_of meaning stack dict section kind (from ++ before) s).situation.effects) w2
      others_stop w2 next reached stopped =
          stops_joined s0 s1 w0 w1 w2 (λ s. (run_of meaning stack dict section kind (from ++ before) s).situation.effects) (λ s. (run_of meaning stack dict section kind before s).situation.effects)
          (reaches_then s0 s1 w0 w1 (left meaning stack dict section kind leading (from ++ before)) (rest next) (λ (d : Situation × Progress). d.0.effects) (first_done (Going next) reached)) stopped

  abbrev pieces_of : List Statement → List Piece
  pieces_of statements = map (statement_done meaning stack dict section) statements

  module _ (statements : List Statement) (s0 s1 : Scope) (w0 w1 : WorldState) where
    -- a block that balances without members
    pub none_done : (e : Ended) → None ≡ picked_of s0 (length statements) → e ≡ end_of (Going None) → Reaches s0 w0 (λ s. ends_as (balanced_in kind (pieces_of statements) s)) s0 w0 (λ s. (s, e))
    none_done e is is_end =
        let counted = is ∙ ap (picked_of s0) (sym (length-map statements (statement_done meaning stack dict section))) in
        reaches_moved s0 s0 w0 (λ s. ends_as (balanced_in kind (pieces_of statements) s)) (λ s. (s, e))
        (λ later earlier. let s = situation_in s0 w0 later earlier in
        ap ends_as (none_picked kind (pieces_of statements) s0 counted s) ∙ ap (λ (x : Ended). (s, x)) (sym is_end))

    module _ (place : ℕ) (is : Some place ≡ picked_of s0 (length statements)) where
      abbrev run : Situation → Outcome
      run s = run_of meaning stack dict section kind (ordered kind place statements) s

      balanced_at : (later : List Bool) (earlier : List Effect) → balanced_in kind (pieces_of statements) (situation_in s0 w0 later earlier) ≡ chosen (run (situation_in s0 w0 later earlier))
      balanced_at later earlier =
          let done = statement_done meaning stack dict section in
          picked_at kind (pieces_of statements) place s0 w0 (is ∙ ap (picked_of s0) (sym (length-map statements done))) later earlier
          ∙ ap (λ (ps : List Piece). chosen (block_of kind ps (situation_in s0 w0 later earlier))) (sym (ordered_mapped done kind place statements))

      -- a block that balances, behind the members that it runs
      pub balanced_done : (progress : Progress) (e : Ended) → Reaches s0 w0 (left meaning stack dict section kind None (ordered kind place statements)) s1 w1 (λ s. (s, progress)) → e ≡ end_of progress
          → Reaches s0 w0 (λ s. ends_as (balanced_in kind (pieces_of statements) s)) (with_choice s1) w1 (λ s. (s, e))
      balanced_done progress e reached is_end =
          let all : Situation → Situation × Progress = left meaning stack dict section kind None (ordered kind place statements) in
          reaches_joined s0 s1 (with_choice s1) w0 w1 w1 (λ s. ends_as (balanced_in kind (pieces_of statements) s)) (λ s. chose (finished (s, progress))) (λ s. (s, e))
          (reaches_from s0 s1 w0 w1 (λ s. chose (finished (all s))) (λ s. chose (finished (s, progress))) (λ s. ends_as (balanced_in kind (pieces_of statements) s))
          (λ later earlier. ap ends_as (balanced_at later earlier) ∙ ap chose (ends_is (run (situation_in s0 w0 later earlier))))
          (reaches_then s0 s1 w0 w1 all (λ s. (s, progress)) (λ (d : Situation × Progress). chose (finished d)) reached))
          (reaches_moved s1 (with_choice s1) w1 (λ s. chose (finished (s, progress))) (λ s. (s, e))
          (λ later earlier. ap (λ (x : Ended). (situation_in (with_choice s1) w1 later earlier, x)) (sym is_end)))

      -- a block that balances, whose members stopped
      pub balanced_stops : Stops s0 w0 (λ s. (run s).situation.effects) w1 → Stops s0 w0 (λ s. (balanced_in kind (pieces_of statements) s).situation.effects) w1
      balanced_stops stopped =
          stops_from s0 w0 w1 (λ s. (run s).situation.effects) (λ s. (balanced_in kind (pieces_of statements) s).situation.effects)
          (λ later earlier. ap (λ (o : Outcome). o.situation.effects) (balanced_at later earlier)) stopped
