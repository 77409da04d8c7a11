-- Attributes, taken off the front one by one.
use Rattle.std.proofs.Common.{◌≡◌, ℕ, zero, suc, ◌+◌, ◌-◌, ◌<◌, ◌≤◌, List, [], ◌∷◌, ◌++◌, length, get_or, take, drop, refl, sym, ap, ◌∙◌, arith}
use Rattle.std.specs.List.{flat_map}
use Rattle.std.proofs.lemmas.List.{take_at, drop_at, length-drop, length-append, length-take, take-append-drop}
use Rattle.rad_packet.specs.Packet.{Attribute, spelled, AreAttributes, IsPacket, attributes_in, attributes_of}
use Rattle.rad_packet.specs.Front.{IsFront, IsSplit}

-- ---- the front

-- what the first octets are as an attribute
abbrev pub front_attribute : List ℕ → ℕ → Attribute
front_attribute octets size = record { kind = get_or octets 0 0; value = drop 2 (take size octets) }

pub front_is_spelled : (octets : List ℕ) (size : ℕ) → size ≡ get_or octets 1 0 → 2 ≤ size → size ≤ length octets
    → take size octets ≡ spelled (front_attribute octets size)
front_is_spelled [] size e low high = absurd (omega arith)
front_is_spelled (kind ∷ []) size e low high = absurd (omega arith)
front_is_spelled (kind ∷ count ∷ rest) zero e low high = absurd (omega arith)
front_is_spelled (kind ∷ count ∷ rest) (suc zero) e low high = absurd (omega arith)
front_is_spelled (kind ∷ count ∷ rest) (suc (suc n)) e low high =
    let counted : count ≡ length (take n rest) + 2 = omega (arith, length-take n rest) in
    ap (λ (c : ℕ). kind ∷ c ∷ take n rest) counted

pub is_split : (octets : List ℕ) (size : ℕ) → size ≡ get_or octets 1 0 → size < 256 → 2 ≤ size → size ≤ length octets
    → IsSplit octets (get_or octets 0 0) (take size octets) (drop 2 (take size octets)) (drop size octets)
is_split octets size e top low high =
    let front = front_is_spelled octets size e low high in
    record {
      attribute = front_attribute octets size;
      stands = record {
        joined = sym (take-append-drop size octets) ∙ ap (λ (x : List ℕ). x ++ drop size octets) front;
        fits = omega (arith, ap length front, length-take size octets);
      };
      kind_is = refl;
      front_is = front;
      value_is = refl;
    }

-- the length of a front, as its second octet and as the octets there are
pub front_size : (a : Attribute) (octets rest : List ℕ) → IsFront a octets rest
    → (get_or octets 1 0 ≡ length a.value + 2) × (length octets ≡ length a.value + 2 + length rest)
front_size a octets rest h =
    (ap (λ (x : List ℕ). get_or x 1 0) h.joined, omega (arith, ap length h.joined, length-append a.value rest))

-- ---- one front

-- octets have one front
pub one_front : (a b : Attribute) (octets rest others : List ℕ) → IsFront a octets rest → IsFront b octets others
    → (b ≡ a) × (others ≡ rest)
one_front a b octets rest others h k =
    let both : spelled a ++ rest ≡ spelled b ++ others = sym h.joined ∙ k.joined in
    let kinds : a.kind ≡ b.kind = ap (λ (x : List ℕ). get_or x 0 0) both in
    let sizes : length a.value ≡ length b.value = omega (arith, (front_size a octets rest h).0, (front_size b octets others k).0) in
    let tails : a.value ++ rest ≡ b.value ++ others = ap (drop 2) both in
    let values : a.value ≡ b.value =
    sym (take_at a.value rest (length a.value) refl) ∙ ap (take (length a.value)) tails
    ∙ take_at b.value others (length a.value) (sym sizes) in
    let rests : rest ≡ others =
    sym (drop_at a.value rest (length a.value) refl) ∙ ap (drop (length a.value)) tails
    ∙ drop_at b.value others (length a.value) (sym sizes) in
    let made : ℕ → List ℕ → Attribute = λ kind value. record { kind = kind; value = value } in
    (ap (λ (k : ℕ). made k b.value) (sym kinds) ∙ ap (made a.kind) (sym values), sym rests)

-- ---- lists

-- one more in front
pub AreAttributes-cons : (a : Attribute) (attributes : List Attribute) (octets rest : List ℕ) → IsFront a octets rest
    → AreAttributes attributes rest → AreAttributes (a ∷ attributes) octets
AreAttributes-cons a attributes octets rest h k = record {
  joined = h.joined ∙ ap (λ (x : List ℕ). spelled a ++ x) k.joined;
  fit = (h.fits, k.fit);
}

-- the first of a list stands in front
pub AreAttributes-front : (a : Attribute) (attributes : List Attribute) (octets : List ℕ)
    → AreAttributes (a ∷ attributes) octets → IsFront a octets (flat_map spelled attributes)
AreAttributes-front a attributes octets h = record { joined = h.joined; fits = h.fit.0 }

-- a list of octets with something in front begins with it
pub record Follow (attributes : List Attribute) (a : Attribute) (rest : List ℕ) : Type 0 where
  pub others : List Attribute
  pub begins : attributes ≡ a ∷ others
  pub follow : AreAttributes others rest

pub Follow-from : (attributes : List Attribute) (a : Attribute) (octets rest : List ℕ) → AreAttributes attributes octets
    → IsFront a octets rest → Follow attributes a rest
Follow-from [] a octets rest h k =
    let none : length octets ≡ 0 = ap length h.joined in
    absurd (omega (arith, (front_size a octets rest k).1))
Follow-from (b ∷ others) a octets rest h k =
    let same = one_front a b octets rest (flat_map spelled others) k (AreAttributes-front b others octets h) in
    record {
      others = others;
      begins = ap (λ (x : Attribute). x ∷ others) same.0;
      follow = record { joined = sym same.1; fit = h.fit.1 };
    }

-- where nothing stands in front, the list is empty
pub AreAttributes-none : (attributes : List Attribute) (octets : List ℕ)
    → ((a : Attribute) (rest : List ℕ) → ¬ IsFront a octets rest) → AreAttributes attributes octets → attributes ≡ []
AreAttributes-none [] octets none h = refl
AreAttributes-none (a ∷ attributes) octets none h =
    absurd (none a (flat_map spelled attributes) (AreAttributes-front a attributes octets h))

-- ---- one off the front at each turn

-- the rest of a walk is attributes exactly if the whole is
pub record Reaches (whole rest : List ℕ) : Type 0 where
  pub found : (attributes : List Attribute) → AreAttributes attributes rest → (all : List Attribute) × AreAttributes all whole
  pub only : (all : List Attribute) → AreAttributes all whole → (attributes : List Attribute) × AreAttributes attributes rest

pub Reaches-start : (whole : List ℕ) → Reaches whole whole
Reaches-start whole = record { found = λ attributes h. (attributes, h); only = λ all h. (all, h) }

pub Reaches-more : (whole octets rest : List ℕ) (a : Attribute) → Reaches whole octets → IsFront a octets rest → Reaches whole rest
Reaches-more whole octets rest a r front = record {
  found = λ attributes h. r.found (a ∷ attributes) (AreAttributes-cons a attributes octets rest front h);
  only = λ all h.
      let before = r.only all h in
      let after = Follow-from before.0 a octets rest before.1 front in
      (after.others, after.follow);
}

pub Reaches-yes : (whole : List ℕ) → Reaches whole [] → (attributes : List Attribute) × AreAttributes attributes whole
Reaches-yes whole r = r.found [] (record { joined = refl; fit = tt })

pub Reaches-no : (whole rest : List ℕ) → Reaches whole rest → ((a : Attribute) (others : List ℕ) → ¬ IsFront a rest others)
    → (attributes : List Attribute) → AreAttributes attributes whole → length rest ≡ 0
Reaches-no whole rest r none attributes h =
    let before = r.only attributes h in
    let empty = AreAttributes-none before.0 rest none before.1 in
    ap length before.1.joined ∙ ap (λ (list : List Attribute). length (flat_map spelled list)) empty

-- ---- one reading

-- octets that are attributes are read as those
pub one_reading : (attributes : List Attribute) (turns : ℕ) (octets : List ℕ) → length octets ≤ turns
    → AreAttributes attributes octets → attributes_in turns octets ≡ attributes
one_reading [] turns octets long h = rw h.joined (nothing_read turns)
  where
    nothing_read : (turns : ℕ) → attributes_in turns [] ≡ []
    nothing_read zero = refl
    nothing_read (suc turns) = refl
one_reading (a ∷ attributes) zero octets long h =
    absurd (omega (arith, (front_size a octets (flat_map spelled attributes) (AreAttributes-front a attributes octets h)).1))
one_reading (a ∷ attributes) (suc turns) octets long h =
    let rest = flat_map spelled attributes in
    let front = AreAttributes-front a attributes octets h in
    let size = front_size a octets rest front in
    let count : (length a.value + 2) - 2 ≡ length a.value = omega arith in
    let value : take ((length a.value + 2) - 2) (a.value ++ rest) ≡ a.value = rw count (take_at a.value rest (length a.value) refl) in
    let left : drop ((length a.value + 2) - 2) (a.value ++ rest) ≡ rest = rw count (drop_at a.value rest (length a.value) refl) in
    let others = one_reading attributes turns rest (omega (arith, size.1)) (record { joined = refl; fit = h.fit.1 }) in
    rw (h.joined, value, left, others) refl

pub same_attributes : (attributes others : List Attribute) (octets : List ℕ) → AreAttributes attributes octets
    → AreAttributes others octets → attributes ≡ others
same_attributes attributes others octets h k =
    let all : length octets ≤ length octets = omega arith in
    sym (one_reading attributes (length octets) octets all h) ∙ one_reading others (length octets) octets all k

pub packet_reading : (attributes : List Attribute) (octets : List ℕ) → IsPacket attributes octets → attributes_of octets ≡ attributes
packet_reading attributes octets h =
    one_reading attributes (length octets) (drop 20 octets) (omega (arith, length-drop 20 octets)) h.rest
