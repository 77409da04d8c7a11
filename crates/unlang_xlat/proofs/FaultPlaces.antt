-- Places in a text: what a reading leaves is the text's end, and what is wrong is told from a percent sign on.
use Rattle.std.proofs.Common.{◌≡◌, ℕ, suc, ◌≤◌, ◌⊎◌, inl, inr, Bool, true, false, eqb, List, [], ◌∷◌, ◌++◌, length, take, drop, Option, Some, None, Result, Ok, Err, cond, refl, sym, ap, ◌∙◌, append_assoc, length-append, arith}
use Rattle.std.proofs.lemmas.List.{take-append-drop}
use Rattle.std.specs.Option.{option_map}
use Rattle.rad_text.specs.Read.{◌>>=◌, found}
use Rattle.unlang_xlat.specs.declared.fault.Wrong.{Wrong}
use Rattle.unlang_xlat.specs.declared.fault.Wrong.TheVariants.{BadExpansion, UnknownAttr, UnknownFunction}
use Rattle.unlang_xlat.specs.Spans.{behind, behind_sign}

-- How many octets are left from the percent sign on.
abbrev pub left_of : Wrong → ℕ
left_of (BadExpansion left) = left
left_of (UnknownAttr left) = left
left_of (UnknownFunction left) = left

-- From a percent sign of the text on so many octets are left.
pub record At (text : List ℕ) (left : ℕ) : Type 0 where
  pub front : List ℕ
  pub more : List ℕ
  pub whole : text ≡ front ++ 37 ∷ more
  pub size : left ≡ suc (length more)

-- The text ends in the rest.
pub record Ends (text rest : List ℕ) : Type 0 where
  pub front : List ℕ
  pub whole : text ≡ front ++ rest

pub ends_same : (text rest : List ℕ) → text ≡ rest → Ends text rest
ends_same text rest e = record { front = []; whole = e }

pub ends_cons : (c : ℕ) (text rest : List ℕ) → Ends text rest → Ends (c ∷ text) rest
ends_cons c text rest ends = record { front = c ∷ ends.front; whole = ap (λ (all : List ℕ). c ∷ all) ends.whole }

pub ends_trans : (text middle rest : List ℕ) → Ends text middle → Ends middle rest → Ends text rest
ends_trans text middle rest one two = record {
  front = one.front ++ two.front;
  whole = one.whole ∙ ap (λ (all : List ℕ). one.front ++ all) two.whole ∙ sym (append_assoc one.front two.front rest);
}

pub ends_drop : (n : ℕ) (text : List ℕ) → Ends text (drop n text)
ends_drop n text = record { front = take n text; whole = sym (take-append-drop n text) }

pub ends_length : (text rest : List ℕ) → Ends text rest → length rest ≤ length text
ends_length text rest ends = omega (arith, ap length ends.whole, length-append ends.front rest)

pub at_behind : (text rest : List ℕ) (left : ℕ) → Ends text rest → At rest left → At text left
at_behind text rest left ends place = record {
  front = ends.front ++ place.front;
  more = place.more;
  whole = ends.whole ∙ ap (λ (all : List ℕ). ends.front ++ all) place.whole ∙ sym (append_assoc ends.front place.front (37 ∷ place.more));
  size = place.size;
}

pub at_front : (more : List ℕ) (left : ℕ) → left ≡ length (37 ∷ more) → At (37 ∷ more) left
at_front more left size = record { front = []; more = more; whole = refl; size = size }

-- What can be said of readings by what they give.
pub cond_split : {A : Type 0} (b : Bool) (x y z : A) → cond b x y ≡ z → (x ≡ z) ⊎ (y ≡ z)
cond_split true x y z e = inl e
cond_split false x y z e = inr e

pub ok_same : {A F : Type 0} (x y : A) → ◌≡◌ {A = Result A F} (Ok x) (Ok y) → x ≡ y
ok_same x y e = cc

pub err_same : {A F : Type 0} (x y : F) → ◌≡◌ {A = Result A F} (Err x) (Err y) → x ≡ y
err_same x y e = cc

pub some_same : {A : Type 0} (x y : A) → Some x ≡ Some y → x ≡ y
some_same x y e = cc

pub ok_err : {A F P : Type 0} (x : A) (w : F) → ◌≡◌ {A = Result A F} (Ok x) (Err w) → P
ok_err x w e = absurd cc

pub err_ok : {A F P : Type 0} (x : A) (w : F) → ◌≡◌ {A = Result A F} (Err w) (Ok x) → P
err_ok x w e = absurd cc

pub bind_ok : {A B F : Type 0} (read : Result A F) (f : A → Result B F) (y : B) → (read >>= f) ≡ Ok y → (x : A) × ((read ≡ Ok x) × (f x ≡ Ok y))
bind_ok (Ok x) f y e = (x, (refl, e))
bind_ok (Err w) f y e = err_ok y w e

pub bind_err : {A B F : Type 0} (read : Result A F) (f : A → Result B F) (w : F) → (read >>= f) ≡ Err w → (read ≡ Err w) ⊎ ((x : A) × ((read ≡ Ok x) × (f x ≡ Err w)))
bind_err (Ok x) f w e = inr (x, (refl, e))
bind_err (Err v) f w e = inl (ap Err (err_same v w e))

pub found_ok : {A F : Type 0} (w : F) (option : Option A) (x : A) → found w option ≡ Ok x → option ≡ Some x
found_ok w None x e = err_ok x w e
found_ok w (Some y) x e = ap Some (ok_same y x e)

pub found_err : {A F : Type 0} (w v : F) (option : Option A) → found w option ≡ Err v → w ≡ v
found_err w v None e = err_same w v e
found_err w v (Some y) e = ok_err y v e

pub map_some : {A B : Type 0} (f : A → B) (option : Option A) (y : B) → option_map f option ≡ Some y → (x : A) × (f x ≡ y)
map_some f None y e = absurd cc
map_some f (Some x) y e = (x, some_same (f x) y e)

pub behind_ends : (octet : ℕ) (text rest : List ℕ) → behind octet text ≡ Some rest → Ends text rest
behind_ends octet [] rest e = absurd cc
behind_ends octet (c ∷ text) rest e =
    elim (cond_split (eqb c octet) (Some text) None (Some rest) e) [
      | inl is ↦ ends_cons c text rest (ends_same text rest (some_same text rest is))
      | inr isnt ↦ absurd cc
    ]

pub sign_ends : (text rest : List ℕ) → behind_sign text ≡ Some rest → Ends text rest
sign_ends [] rest e = absurd cc
sign_ends (c ∷ text) rest e =
    elim (cond_split (eqb c 58) (behind 45 text) None (Some rest) e) [
      | inl is ↦ ends_cons c text rest (behind_ends 45 text rest is)
      | inr isnt ↦ absurd cc
    ]
