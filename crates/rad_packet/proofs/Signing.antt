-- What walks over a packet's attributes give: the text that is signed, and the attributes of one type.
use Rattle.std.proofs.Common.{◌≡◌, ◌≢◌, ℕ, ◌+◌, ◌≤◌, Bool, true, false, cond, List, [], ◌∷◌, ◌++◌, length, refl, sym, ap, ◌∙◌, subst, arith}
use Rattle.std.specs.Prelude.{◌==◌, map, slice_get, Option, Some, None}
use Rattle.std.specs.Option.{option_map}
use Rattle.std.specs.List.{flat_map}
use Rattle.std.proofs.lemmas.Bool.{eq-eqb, ne_eqb}
use Rattle.std.proofs.lemmas.List.{append-nil, length-append}
use Rattle.md5.specs.Md5.{Holds}
use Rattle.md5.specs.declared.Md5.{Md5}
use Rattle.rad_packet.specs.Packet.{Attribute, spelled, AreAttributes}
use Rattle.rad_packet.specs.Front.{IsFront, IsSplit}
use Rattle.rad_packet.specs.Signatures.{of_kind, zeroed}
use Rattle.rad_packet.proofs.Walks.{Makes, Makes-start, Makes-more, Makes-end, split_length}

-- ---- the text that is signed

abbrev pub signed_part : Attribute → List ℕ
signed_part a = spelled (zeroed a)

pub signed_parts : (all : List Attribute) → flat_map signed_part all ≡ flat_map spelled (map zeroed all)
signed_parts [] = refl
signed_parts (a ∷ others) = ap (λ (x : List ℕ). signed_part a ++ x) (signed_parts others)

-- a digest was given what is signed of the attributes before these
abbrev pub Feeds : Md5 → Md5 → List ℕ → List ℕ → Type 0
Feeds before after whole rest =
    (text : List ℕ) → Holds before text → (made : List ℕ) × Makes signed_part text whole rest made × Holds after made

pub Feeds-start : (hasher : Md5) (whole : List ℕ) → Feeds hasher hasher whole whole
Feeds-start hasher whole text holds = (text, Makes-start signed_part text whole, holds)

pub Feeds-more : (before now after : Md5) (whole octets rest front value : List ℕ) (kind : ℕ) → Feeds before now whole octets
    → IsSplit octets kind front value rest
    → ((text : List ℕ) → Holds now text → Holds after (text ++ signed_part (record { kind = kind; value = value })))
    → Feeds before after whole rest
Feeds-more before now after whole octets rest front value kind feeds split fed text holds =
    let made = feeds text holds in (
      made.0 ++ signed_part (record { kind = kind; value = value }),
      Makes-more signed_part text whole octets rest front value kind made.0 made.1 split,
      fed made.0 made.2,
    )

pub Feeds-end : (before after : Md5) (whole rest : List ℕ) → Feeds before after whole rest
    → ((a : Attribute) (others : List ℕ) → ¬ IsFront a rest others)
    → (text : List ℕ) (all : List Attribute) → Holds before text → AreAttributes all whole
    → Holds after (text ++ flat_map spelled (map zeroed all))
Feeds-end before after whole rest feeds none text all holds are =
    let made = feeds text holds in
    let end : made.0 ≡ text ++ flat_map spelled (map zeroed all) =
    Makes-end signed_part text whole rest made.0 made.1 none all are ∙ ap (λ (x : List ℕ). text ++ x) (signed_parts all) in
    subst (λ (x : List ℕ). Holds after x) end made.2

-- ---- the attributes of one type

abbrev pub kind_part : ℕ → Attribute → List Attribute
kind_part kind a = cond (a.kind == kind) (a ∷ []) []

kind_parts-when : (b : Bool) (a : Attribute) (others : List Attribute)
    → cond b (a ∷ []) [] ++ others ≡ cond b (a ∷ others) others
kind_parts-when true a others = refl
kind_parts-when false a others = refl

pub kind_parts : (kind : ℕ) (all : List Attribute) → flat_map (kind_part kind) all ≡ of_kind kind all
kind_parts kind [] = refl
kind_parts kind (a ∷ others) =
    ap (λ (x : List Attribute). kind_part kind a ++ x) (kind_parts kind others)
    ∙ kind_parts-when (a.kind == kind) a (of_kind kind others)

-- so many of the type were passed
pub record Counted (kind : ℕ) (whole rest : List ℕ) (count : ℕ) : Type 0 where
  pub made : List Attribute
  pub counted : length made ≡ count
  pub makes : Makes (kind_part kind) [] whole rest made
  pub bound : count + length rest ≤ length whole

pub Counted-start : (kind : ℕ) (whole : List ℕ) → Counted kind whole whole 0
Counted-start kind whole = record {
  made = [];
  counted = refl;
  makes = Makes-start (kind_part kind) [] whole;
  bound = omega arith;
}

pub kind_part-same : (kind : ℕ) (a : Attribute) → a.kind ≡ kind → kind_part kind a ≡ a ∷ []
kind_part-same kind a is = rw (eq-eqb a.kind kind is) refl

pub kind_part-other : (kind : ℕ) (a : Attribute) → a.kind ≢ kind → kind_part kind a ≡ []
kind_part-other kind a is = rw (ne_eqb a.kind kind is) refl

pub Counted-taken : (wanted : ℕ) (whole octets rest front value : List ℕ) (kind count : ℕ) → kind ≡ wanted
    → Counted wanted whole octets count → IsSplit octets kind front value rest → Counted wanted whole rest (count + 1)
Counted-taken wanted whole octets rest front value kind count is so_far split =
    let a : Attribute = record { kind = kind; value = value } in
    let sizes = split_length octets front value rest kind split in
    let more = Makes-more (kind_part wanted) [] whole octets rest front value kind so_far.made so_far.makes split in
    record {
      made = so_far.made ++ a ∷ [];
      counted = omega (arith, length-append so_far.made (a ∷ []), so_far.counted);
      makes = subst (λ (x : List Attribute). Makes (kind_part wanted) [] whole rest (so_far.made ++ x)) (kind_part-same wanted a is) more;
      bound = omega (arith, sizes.0, so_far.bound);
    }

pub Makes-passed : (wanted : ℕ) (whole octets rest front value : List ℕ) (kind : ℕ) (made : List Attribute) → kind ≢ wanted
    → Makes (kind_part wanted) [] whole octets made → IsSplit octets kind front value rest
    → Makes (kind_part wanted) [] whole rest made
Makes-passed wanted whole octets rest front value kind made is makes split =
    let a : Attribute = record { kind = kind; value = value } in
    let more = Makes-more (kind_part wanted) [] whole octets rest front value kind made makes split in
    let same : made ++ kind_part wanted a ≡ made =
    ap (λ (x : List Attribute). made ++ x) (kind_part-other wanted a is) ∙ append-nil made in
    subst (λ (x : List Attribute). Makes (kind_part wanted) [] whole rest x) same more

pub Counted-passed : (wanted : ℕ) (whole octets rest front value : List ℕ) (kind count : ℕ) → kind ≢ wanted
    → Counted wanted whole octets count → IsSplit octets kind front value rest → Counted wanted whole rest count
Counted-passed wanted whole octets rest front value kind count is so_far split =
    let sizes = split_length octets front value rest kind split in
    record {
      made = so_far.made;
      counted = so_far.counted;
      makes = Makes-passed wanted whole octets rest front value kind so_far.made is so_far.makes split;
      bound = omega (arith, sizes.0, so_far.bound);
    }

pub Counted-end : (kind : ℕ) (whole rest : List ℕ) (count : ℕ) → Counted kind whole rest count
    → ((a : Attribute) (others : List ℕ) → ¬ IsFront a rest others)
    → (all : List Attribute) → AreAttributes all whole → count ≡ length (of_kind kind all)
Counted-end kind whole rest count so_far none all are =
    sym so_far.counted
    ∙ ap length (Makes-end (kind_part kind) [] whole rest so_far.made so_far.makes none all are ∙ kind_parts kind all)

-- the first of the type
abbrev pub value_first : List Attribute → Option (List ℕ)
value_first attributes = option_map (λ (a : Attribute). a.value) (slice_get attributes 0)

pub first_found : (wanted : ℕ) (whole octets rest front value : List ℕ) (kind : ℕ) → kind ≡ wanted
    → Makes (kind_part wanted) [] whole octets [] → IsSplit octets kind front value rest
    → (all : List Attribute) → AreAttributes all whole → Some value ≡ value_first (of_kind wanted all)
first_found wanted whole octets rest front value kind is makes split all are =
    let a : Attribute = record { kind = kind; value = value } in
    let more = Makes-more (kind_part wanted) [] whole octets rest front value kind [] makes split all are in
    let begins : a ∷ flat_map (kind_part wanted) more.others ≡ of_kind wanted all =
    ap (λ (x : List Attribute). x ++ flat_map (kind_part wanted) more.others) (sym (kind_part-same wanted a is))
    ∙ more.so_far ∙ kind_parts wanted all in
    ap value_first begins

pub first_missing : (wanted : ℕ) (whole rest : List ℕ) → Makes (kind_part wanted) [] whole rest []
    → ((a : Attribute) (others : List ℕ) → ¬ IsFront a rest others)
    → (all : List Attribute) → AreAttributes all whole → None ≡ value_first (of_kind wanted all)
first_missing wanted whole rest makes none all are =
    ap value_first (Makes-end (kind_part wanted) [] whole rest [] makes none all are ∙ kind_parts wanted all)
