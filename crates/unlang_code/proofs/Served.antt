-- Each statement of served ones is served.
use Rattle.std.specs.List.{AllByRecursion}
use Rattle.std.proofs.Common.{◌≡◌, ℕ, zero, suc, ◌<◌, ◌≤◌, max, List, [], ◌∷◌, ◌++◌, map, length, get_or, take, drop, arith, sym, ap, subst, ◌∙◌}
use Rattle.std.proofs.lemmas.List.{take-append-drop}
use Rattle.std.proofs.lemmas.Grind.{flat_map-append}
use denote.Param.Weighed.{most, most-append}
use Rattle.unlang_tree.specs.declared.statement.Call.{Call}
use Rattle.unlang_tree.specs.declared.statement.Statement.{Statement}
use Rattle.unlang_tree.specs.EachCall.{calls_in, calls_of}
use Rattle.unlang_tree.specs.declared.statement.StatementKind.{size-StatementKind, size_is-StatementKind}
use Rattle.unlang_tree.specs.declared.statement.StatementKind.TheVariants as kinds
use Rattle.unlang_tree.specs.declared.statement.Group.{Group}
use Rattle.unlang_tree.specs.declared.statement.StatementKind.TheVariants.{rolls-Group, outs-Group, outs-If}
use Rattle.unlang_tree.specs.declared.statement.Arm.{Arm, out-Arm, size-Arm}
use Rattle.unlang_tree.specs.EachCall.{joined}
use Rattle.unlang_tree.specs.declared.statement.Group.{size-Group}
use Rattle.std.proofs.Common.{◌+◌}

-- a block is deeper than its statements
pub size_of_block : (group : Group) → size-StatementKind (kinds.Group group) ≡ size-Group group + 1
size_of_block group = rw (size_is-StatementKind (kinds.Group group), outs-Group group) (omega arith)

-- an `if` is deeper than its arms
pub size_of_if : (arms : List Arm) → size-StatementKind (kinds.If arms) ≡ most size-Arm arms + 1
size_of_if arms = rw (size_is-StatementKind (kinds.If arms), outs-If arms) (omega arith)

module _ (P : Call → Type 0) where
  both_parts : (xs ys : List Call) → AllByRecursion P (xs ++ ys) → AllByRecursion P xs × AllByRecursion P ys
  both_parts [] ys all = (tt, all)
  both_parts (x ∷ xs) ys all = let more = both_parts xs ys all.1 in ((all.0, more.0), more.1)

  pub each_at : (statements : List Statement) (i : ℕ) (d : Statement) → i < length statements → AllByRecursion P (calls_of statements) → AllByRecursion P (calls_in (get_or statements i d))
  each_at [] i d lt all = absurd (omega (arith, lt))
  each_at (one ∷ statements) zero d lt all = (both_parts (calls_in one) (calls_of statements) all).0
  each_at (one ∷ statements) (suc i) d lt all = each_at statements i d (omega (arith, lt)) (both_parts (calls_in one) (calls_of statements) all).1

  -- the statements of each arm of a served `if` are served
  pub each_arm : (arms : List Arm) → AllByRecursion P (joined (map (λ (arm : Arm). calls_of (out-Arm arm).statements) arms)) → AllByRecursion (λ (arm : Arm). AllByRecursion P (calls_of (out-Arm arm).statements)) arms
  each_arm [] all = tt
  each_arm (arm ∷ arms) all =
      let parts = both_parts (calls_of (out-Arm arm).statements) (joined (map (λ (a : Arm). calls_of (out-Arm a).statements) arms)) all in
      (parts.0, each_arm arms parts.1)

  -- the halves of served statements are served
  pub halves : (n : ℕ) (statements : List Statement) → AllByRecursion P (calls_of statements) → AllByRecursion P (calls_of (take n statements)) × AllByRecursion P (calls_of (drop n statements))
  halves n statements all =
      both_parts (calls_of (take n statements)) (calls_of (drop n statements))
      (subst (AllByRecursion P) (ap calls_of (sym (take-append-drop n statements)) ∙ flat_map-append calls_in (take n statements) (drop n statements)) all)

module _ {X : Type 0} (size : X → ℕ) where
  -- neither half has a greater element than all
  pub most_halves : (n : ℕ) (xs : List X) → (most size (take n xs) ≤ most size xs) × (most size (drop n xs) ≤ most size xs)
  most_halves n xs =
      let whole : most size xs ≡ max (most size (take n xs)) (most size (drop n xs)) = ap (most size) (sym (take-append-drop n xs)) ∙ most-append size (take n xs) (drop n xs) in
      (omega (arith, whole), omega (arith, whole))

  -- each element weighs no more than the greatest does
  all_below : (n : ℕ) (xs : List X) → most size xs ≤ n → AllByRecursion (λ (x : X). size x ≤ n) xs
  all_below n [] le = tt
  all_below n (x ∷ xs) le = (omega (arith, le), all_below n xs (omega (arith, le)))

  pub each_below : (xs : List X) → AllByRecursion (λ (x : X). size x ≤ most size xs) xs
  each_below xs = all_below (most size xs) xs (omega arith)
