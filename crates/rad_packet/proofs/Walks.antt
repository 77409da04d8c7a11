-- Walks over attributes from the front on, which make something of each.
use Rattle.std.proofs.Common.{◌≡◌, ℕ, ◌+◌, List, ◌++◌, length, refl, sym, ap, ◌∙◌, append_assoc, arith}
use Rattle.std.specs.List.{flat_map}
use Rattle.std.proofs.lemmas.List.{append-nil}
use Rattle.rad_packet.specs.Packet.{Attribute, AreAttributes}
use Rattle.rad_packet.specs.Front.{IsFront, IsSplit}
use Rattle.rad_packet.proofs.AttributeLists.{Follow-from, AreAttributes-none, front_size}

-- what is left to make by f, and what was made behind the start
pub record Left {A : Type 0} (f : Attribute → List A) (start : List A) (all : List Attribute) (rest : List ℕ) (made : List A) : Type 0 where
  pub others : List Attribute
  pub left : AreAttributes others rest
  pub so_far : made ++ flat_map f others ≡ start ++ flat_map f all

abbrev pub Makes : {A : Type 0} → (Attribute → List A) → List A → List ℕ → List ℕ → List A → Type 0
Makes f start whole rest made = (all : List Attribute) → AreAttributes all whole → Left f start all rest made

pub Makes-start : {A : Type 0} (f : Attribute → List A) (start : List A) (whole : List ℕ) → Makes f start whole whole start
Makes-start f start whole all h = record { others = all; left = h; so_far = refl }

pub Makes-more : {A : Type 0} (f : Attribute → List A) (start : List A) (whole octets rest front value : List ℕ) (kind : ℕ) (made : List A)
    → Makes f start whole octets made → IsSplit octets kind front value rest
    → Makes f start whole rest (made ++ f (record { kind = kind; value = value }))
Makes-more {A} f start whole octets rest front value kind made makes split all h =
    let before = makes all h in
    let a = split.attribute in
    let after = Follow-from before.others a octets rest before.left split.stands in
    let part : f (record { kind = kind; value = value }) ≡ f a =
    ap (λ (k : ℕ). f (record { kind = k; value = value })) split.kind_is
    ∙ ap (λ (v : List ℕ). f (record { kind = a.kind; value = v })) split.value_is in
    record {
      others = after.others;
      left = after.follow;
      so_far = append_assoc made (f (record { kind = kind; value = value })) (flat_map f after.others)
          ∙ ap (λ (x : List A). made ++ (x ++ flat_map f after.others)) part
          ∙ ap (λ (x : List Attribute). made ++ flat_map f x) (sym after.begins)
          ∙ before.so_far;
    }

pub Makes-end : {A : Type 0} (f : Attribute → List A) (start : List A) (whole rest : List ℕ) (made : List A) → Makes f start whole rest made
    → ((a : Attribute) (others : List ℕ) → ¬ IsFront a rest others)
    → (all : List Attribute) → AreAttributes all whole → made ≡ start ++ flat_map f all
Makes-end f start whole rest made makes none all h =
    let before = makes all h in
    let empty = AreAttributes-none before.others rest none before.left in
    sym (append-nil made) ∙ ap (λ (x : List Attribute). made ++ flat_map f x) (sym empty) ∙ before.so_far

-- how many octets a walk has left
pub split_length : (octets front value rest : List ℕ) (kind : ℕ) → IsSplit octets kind front value rest
    → (length octets ≡ length value + 2 + length rest) × (length front ≡ length value + 2)
split_length octets front value rest kind split =
    let size = front_size split.attribute octets rest split.stands in
    let long = ap length split.value_is in
    (omega (arith, size.1, long), omega (arith, ap length split.front_is, long))
