-- What an answer that is a value says of the steps that gave it.
use Rattle.std.proofs.Common.{◌≡◌, Bool, true, false, cond, List, [], ◌∷◌, ◌++◌, Result, Ok, Err, refl, subst}
use Rattle.std.specs.List.{AllByRecursion}
use Rattle.rad_conf.specs.declared.tree.Node.{Node}
use Rattle.rad_text.specs.Read.{◌>>=◌}
use Rattle.unlang_tree.specs.declared.fault.TreeFault.{TreeFault}
use Rattle.unlang_tree.specs.Readings.{after_each}

pub ok_same : {A F : Type 0} (x y : A) → ◌≡◌ {A = Result A F} (Ok x) (Ok y) → x ≡ y
ok_same x y e = cc

pub err_ok : {A F P : Type 0} (x : A) (w : F) → ◌≡◌ {A = Result A F} (Err w) (Ok x) → P
err_ok x w e = absurd cc

pub bind_ok : {A B F : Type 0} (read : Result A F) (f : A → Result B F) (y : B) → (read >>= f) ≡ Ok y → (x : A) × ((read ≡ Ok x) × (f x ≡ Ok y))
bind_ok (Ok x) f y e = (x, (refl, e))
bind_ok (Err w) f y e = err_ok y w e

-- behind a test that is refused where it holds
pub past : {A F : Type 0} (b : Bool) (w : F) (rest : Result A F) (y : A) → cond b (Err w) rest ≡ Ok y → rest ≡ Ok y
past true w rest y e = err_ok y w e
past false w rest y e = e

-- a test that is refused where it doesn't hold
pub passed : {A F : Type 0} (b : Bool) (x : A) (w : F) (y : A) → cond b (Ok x) (Err w) ≡ Ok y → (b ≡ true) × (x ≡ y)
passed true x w y e = (refl, ok_same x y e)
passed false x w y e = err_ok y w e

-- on either side of a test
pub either : {A F P : Type 0} (b : Bool) (left right : Result A F) (y : A) → (left ≡ Ok y → P) → (right ≡ Ok y → P) → cond b left right ≡ Ok y → P
either true left right y one other e = one e
either false left right y one other e = other e

-- what holds at first, and stays with each node, holds in the end
module _ {S : Type 0} (step : S → Node → Result S TreeFault) (P : S → Type 0) where
  pub kept : ((known next : S) (node : Node) → P known → step known node ≡ Ok next → P next)
      → (known last : S) (nodes : List Node) → P known → after_each step known nodes ≡ Ok last → P last
  unfolding after_each
  kept keeps known last [] p e = subst P (ok_same known last e) p
  kept keeps known last (node ∷ nodes) p e =
      let one = bind_ok (step known node) (λ next. after_each step next nodes) last e in
      kept keeps one.0 last nodes (keeps known one.0 node p one.1.0) one.1.1

-- what holds of the elements of two lists holds of those of both
pub all_both : {X : Type 0} (P : X → Type 0) (xs ys : List X) → AllByRecursion P xs → AllByRecursion P ys → AllByRecursion P (xs ++ ys)
all_both P [] ys left right = right
all_both P (x ∷ xs) ys left right = (left.0, all_both P xs ys left.1 right)

-- and what holds of the elements of both holds of those of each
pub all_apart : {X : Type 0} (P : X → Type 0) (xs ys : List X) → AllByRecursion P (xs ++ ys) → AllByRecursion P xs × AllByRecursion P ys
all_apart P [] ys all = (tt, all)
all_apart P (x ∷ xs) ys all = let rest = all_apart P xs ys all.1 in ((all.0, rest.0), rest.1)

-- what follows of each element follows of all
pub all_wider : {X : Type 0} (P Q : X → Type 0) → ((x : X) → P x → Q x) → (xs : List X) → AllByRecursion P xs → AllByRecursion Q xs
all_wider P Q wider [] all = tt
all_wider P Q wider (x ∷ xs) all = (wider x all.0, all_wider P Q wider xs all.1)
