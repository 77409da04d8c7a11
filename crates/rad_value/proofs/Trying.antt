-- An edit that is tried, by whether its list is full for it.
use Rattle.std.proofs.Common.{◌≡◌, ℕ, ◌≤◌, Bool, true, false, cond, ◌&&◌, length, Some, None, refl, ap}
use Rattle.std.specs.Prelude.{nat_le}
use Rattle.std.proofs.lemmas.Bool.{leb-true, le-leb}
use Rattle.rad_value.specs.declared.edits.Edit.{Edit}
use Rattle.rad_value.specs.PairLists.{PairLists, list_of}
use Rattle.rad_value.specs.Edit.{adds, IsFullFor, lists_edited, tried}

both : (a b : Bool) → a ≡ true → b ≡ true → (a && b) ≡ true
both a b p q = rw (p, q) refl

pub full_is : (lists : PairLists) (edit : Edit) (n : ℕ) → IsFullFor lists edit n → tried lists edit ≡ None
unfolding tried
full_is lists edit n full =
    let pairs = list_of lists edit.list in
    let long : 512 ≤ length pairs = rw full.0 at full.1 in
    ap (λ b. cond b None (Some (lists_edited lists edit))) (both (nat_le 512 (length pairs)) (adds edit.op edit.attr pairs) (le-leb 512 (length pairs) long) full.2)

by_tests : {X : Type 0} (x : X) (long more : Bool) → (long ≡ true → more ≡ true → ⊥) → cond (long && more) None (Some x) ≡ Some x
by_tests x true true free = absurd (free refl refl)
by_tests x true false free = refl
by_tests x false more free = refl

pub free_is : (lists : PairLists) (edit : Edit) → ((n : ℕ) → IsFullFor lists edit n → ⊥) → tried lists edit ≡ Some (lists_edited lists edit)
unfolding tried
free_is lists edit free =
    let pairs = list_of lists edit.list in
    by_tests (lists_edited lists edit) (nat_le 512 (length pairs)) (adds edit.op edit.attr pairs)
    (λ long more. free (length pairs) (refl, leb-true 512 (length pairs) long, more))
