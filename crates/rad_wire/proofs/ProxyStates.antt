-- The Proxy-State attributes of a list, copied one by one.
use Rattle.std.proofs.Common.{◌≡◌, ◌≢◌, ℕ, ◌+◌, ◌≤◌, Bool, true, false, cond, List, [], ◌∷◌, ◌++◌, length, drop, refl, sym, ap, ◌∙◌, add-zero, arith}
use Rattle.std.specs.Prelude.{◌==◌, filter}
use Rattle.std.specs.List.{flat_map}
use Rattle.std.proofs.lemmas.Bool.{eq-eqb, ne_eqb}
use Rattle.std.proofs.lemmas.List.{length-append, length-drop}
use Rattle.rad_packet.specs.Packet.{Attribute, spelled, AreAttributes, IsWellFormed}
use Rattle.rad_packet.specs.Front.{IsFront, IsSplit}
use Rattle.rad_packet.specs.Octets.{proxy_octets, proxy_states}
use Rattle.rad_packet.proofs.AttributeLists.{packet_reading}
use Rattle.rad_packet.proofs.Walks.{Makes, Makes-start, Makes-more, Makes-end, split_length}

-- one attribute's part
abbrev pub proxy_part : ℕ → List ℕ → List ℕ
proxy_part kind octets = cond (kind == 33) octets []

abbrev pub part_of : Attribute → List ℕ
part_of a = proxy_part a.kind (spelled a)

chosen : (b : Bool) (a : Attribute) (others : List Attribute)
    → flat_map spelled (cond b (a ∷ others) others) ≡ cond b (spelled a) [] ++ flat_map spelled others
chosen true a others = refl
chosen false a others = refl

pub proxy_octets-cons : (a : Attribute) (others : List Attribute)
    → proxy_octets (a ∷ others) ≡ part_of a ++ proxy_octets others
proxy_octets-cons a others = chosen (a.kind == 33) a (filter (λ (x : Attribute). x.kind == 33) others)

-- the Proxy-States, part by part
pub proxy_octets-parts : (all : List Attribute) → flat_map part_of all ≡ proxy_octets all
proxy_octets-parts [] = refl
proxy_octets-parts (a ∷ others) =
    ap (λ (x : List ℕ). part_of a ++ x) (proxy_octets-parts others) ∙ sym (proxy_octets-cons a others)

part_length : (b : Bool) (octets : List ℕ) → length (cond b octets []) ≤ length octets
part_length true octets = omega arith
part_length false octets = omega arith

pub proxy_octets-length : (all : List Attribute) → length (proxy_octets all) ≤ length (flat_map spelled all)
proxy_octets-length [] = omega arith
proxy_octets-length (a ∷ others) =
    let rest = proxy_octets-length others in
    let part = part_length (a.kind == 33) (spelled a) in
    rw proxy_octets-cons
    (omega (arith, length-append (part_of a) (proxy_octets others), length-append (spelled a) (flat_map spelled others), rest, part))

-- ---- copying

abbrev pub Copies : List ℕ → List ℕ → List ℕ → List ℕ → Type 0
Copies start whole rest made = Makes part_of start whole rest made

pub Copies-more : (start whole octets rest made front value : List ℕ) (kind : ℕ) → Copies start whole octets made
    → IsSplit octets kind front value rest → Copies start whole rest (made ++ proxy_part kind front)
Copies-more start whole octets rest made front value kind copies split =
    let a = split.attribute in
    let same : front ≡ spelled (record { kind = kind; value = value }) =
    split.front_is
    ∙ ap (λ (k : ℕ). spelled (record { kind = k; value = a.value })) (sym split.kind_is)
    ∙ ap (λ (v : List ℕ). spelled (record { kind = kind; value = v })) (sym split.value_is) in
    rw same (Makes-more part_of start whole octets rest front value kind made copies split)

pub Copies-end : (start whole rest made : List ℕ) → Copies start whole rest made
    → ((a : Attribute) (others : List ℕ) → ¬ IsFront a rest others)
    → (all : List Attribute) → AreAttributes all whole → made ≡ start ++ proxy_octets all
Copies-end start whole rest made copies none all h =
    Makes-end part_of start whole rest made copies none all h ∙ ap (λ (x : List ℕ). start ++ x) (proxy_octets-parts all)

-- ---- counting

-- so many octets would have been copied
pub record Counts (whole rest : List ℕ) (count : ℕ) : Type 0 where
  pub made : List ℕ
  pub counted : length made ≡ count
  pub copies : Copies [] whole rest made
  pub bound : count + length rest ≤ length whole

pub Counts-start : (whole : List ℕ) → Counts whole whole 0
Counts-start whole = record {
  made = [];
  counted = refl;
  copies = Makes-start part_of [] whole;
  bound = omega arith;
}

pub Counts-more : (whole octets rest front value : List ℕ) (kind count : ℕ) → Counts whole octets count
    → IsSplit octets kind front value rest → Counts whole rest (count + length (proxy_part kind front))
Counts-more whole octets rest front value kind count counts split =
    let part = part_length (kind == 33) front in
    let sizes = split_length octets front value rest kind split in
    record {
      made = counts.made ++ proxy_part kind front;
      counted = omega (arith, length-append counts.made (proxy_part kind front), counts.counted);
      copies = Copies-more [] whole octets rest counts.made front value kind counts.copies split;
      bound = omega (arith, part, sizes.0, sizes.1, counts.bound);
    }

pub Counts-taken : (whole octets rest front value : List ℕ) (kind count : ℕ) → kind ≡ 33 → Counts whole octets count
    → IsSplit octets kind front value rest → Counts whole rest (count + length front)
Counts-taken whole octets rest front value kind count is counts split =
    rw (eq-eqb kind 33 is) at (Counts-more whole octets rest front value kind count counts split)

pub Counts-passed : (whole octets rest front value : List ℕ) (kind count : ℕ) → kind ≢ 33 → Counts whole octets count
    → IsSplit octets kind front value rest → Counts whole rest count
Counts-passed whole octets rest front value kind count is counts split =
    rw (ne_eqb kind 33 is, add-zero count) at (Counts-more whole octets rest front value kind count counts split)

pub Counts-end : (whole rest : List ℕ) (count : ℕ) → Counts whole rest count
    → ((a : Attribute) (others : List ℕ) → ¬ IsFront a rest others)
    → (all : List Attribute) → AreAttributes all whole → count ≡ length (proxy_octets all)
Counts-end whole rest count counts none all h =
    sym counts.counted ∙ ap length (Copies-end [] whole rest counts.made counts.copies none all h)

-- ---- those of a request

pub states_short : (request : List ℕ) → IsWellFormed request → length (proxy_states request) ≤ 4076
states_short request well =
    let all = well.0 in
    let packet = well.1 in
    let read = packet_reading all request packet in
    let short : length (proxy_octets all) ≤ 4076 =
    omega (arith, proxy_octets-length all, ap length packet.rest.joined, length-drop 20 request, packet.limit) in
    rw read short

-- what a walk over the octets behind the header finds
pub states_are : (octets start made : List ℕ) → IsWellFormed octets
    → ((all : List Attribute) → AreAttributes all (drop 20 octets) → made ≡ start ++ proxy_octets all)
    → made ≡ start ++ proxy_states octets
states_are octets start made well copied =
    copied well.0 well.1.rest
    ∙ ap (λ (all : List Attribute). start ++ proxy_octets all) (sym (packet_reading well.0 octets well.1))

-- how many octets a walk over the octets behind the header counts
pub states_count : (octets : List ℕ) (count : ℕ) → IsWellFormed octets
    → ((all : List Attribute) → AreAttributes all (drop 20 octets) → count ≡ length (proxy_octets all))
    → count ≡ length (proxy_states octets)
states_count octets count well counted =
    counted well.0 well.1.rest ∙ ap (λ (all : List Attribute). length (proxy_octets all)) (sym (packet_reading well.0 octets well.1))
