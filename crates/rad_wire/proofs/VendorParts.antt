-- The parts behind a Vendor-Id, and the pairs that they are.
use Rattle.std.proofs.Common.{inl, inr, ◌≢◌, ◌≡◌, ℕ, suc, ◌+◌, ◌<◌, ◌≤◌, Bool, true, false, cond, List, [], ◌∷◌, ◌++◌, length, get_or, drop, refl, sym, ap, arith}
use Rattle.std.specs.Prelude.{All, map}
use Rattle.std.specs.List.{flat_map, AllByRecursion}
use Rattle.std.specs.Str.{bytes_eq}
use Rattle.std.specs.Cmp.Lexicographic.{same_text}
use Rattle.std.proofs.lemmas.Bool.{cases_lt, eq-eqb}
use Rattle.std.proofs.lemmas.List.{length-append, length-drop, get_or-append-add, get_or_past, nil_from_length}
use Rattle.std.proofs.lemmas.List.Elements.{All-drop, All-get_or}
use Rattle.rad_dict.specs.Definitions.{Definitions}
use Rattle.rad_packet.specs.Packet.{Attribute, spelled, AreAttributes, attributes_in}
use Rattle.rad_wire.specs.Pairs.{of_vendor, pair_of, vendor_of, vendor_pairs, vendor_parts}
use Rattle.rad_packet.proofs.AttributeLists.{one_reading}

-- ---- reading the parts

bytes_eq_same : (octets : List ℕ) → bytes_eq octets octets ≡ true
bytes_eq_same [] = refl
bytes_eq_same (octet ∷ octets) = rw (eq-eqb octet octet refl, bytes_eq_same octets) refl

taken : (parts read : List Attribute) (behind : List ℕ) → read ≡ parts → behind ≡ flat_map spelled parts
    → cond (bytes_eq (flat_map spelled read) behind) read [] ≡ parts
taken parts read behind is joined = rw (is, joined, bytes_eq_same (flat_map spelled parts)) refl

not_taken : (b : Bool) (read : List Attribute) → ((b ≡ true) → ⊥) → cond b read [] ≡ []
not_taken true read false_is = absurd (false_is refl)
not_taken false read _ = refl

-- what stands behind the Vendor-Id as attributes, is read as those
pub parts_read : (parts : List Attribute) (octets : List ℕ) → AreAttributes parts (drop 4 octets) → vendor_parts octets ≡ parts
parts_read parts octets h =
    let read = one_reading parts (length octets) (drop 4 octets) (omega (arith, length-drop 4 octets)) h in
    taken parts (attributes_in (length octets) (drop 4 octets)) (drop 4 octets) read h.joined

-- octets are below 256
abbrev pub AreOctets : List ℕ → Type 0
AreOctets octets = (i : ℕ) → get_or octets i 0 < 256

-- what is spelled in octets has lengths that fit theirs
pub spelled_fit : (attributes : List Attribute) → AreOctets (flat_map spelled attributes)
    → AllByRecursion (λ (a : Attribute). length a.value ≤ 253) attributes
spelled_fit [] h = tt
spelled_fit (a ∷ attributes) h =
    let size : length a.value + 2 < 256 = h 1 in
    let rest : AreOctets (flat_map spelled attributes) =
    λ i.
    let e = get_or-append-add a.value (flat_map spelled attributes) i 0 in
    let below : get_or (a.value ++ flat_map spelled attributes) (length a.value + i) 0 < 256 = h (suc (suc (length a.value + i))) in
    omega (arith, below, e) in
    (omega (arith, size), spelled_fit attributes rest)

-- what was read stands behind the Vendor-Id where it is spelled so
read_stands : (octets : List ℕ) → AreOctets (drop 4 octets)
    → bytes_eq (flat_map spelled (attributes_in (length octets) (drop 4 octets))) (drop 4 octets) ≡ true
    → AreAttributes (attributes_in (length octets) (drop 4 octets)) (drop 4 octets)
read_stands octets below equal =
    let read = attributes_in (length octets) (drop 4 octets) in
    let same : flat_map spelled read ≡ drop 4 octets = same_text (flat_map spelled read) (drop 4 octets) (sym equal) in
    record { joined = sym same; fit = spelled_fit read (rw same below) }

-- where no parts stand behind the Vendor-Id, none are read
pub no_parts_read : (octets : List ℕ) → AreOctets (drop 4 octets) → ((parts : List Attribute) → ¬ AreAttributes parts (drop 4 octets))
    → vendor_parts octets ≡ []
no_parts_read octets below none =
    let read = attributes_in (length octets) (drop 4 octets) in
    not_taken (bytes_eq (flat_map spelled read) (drop 4 octets)) read (λ equal. none read (read_stands octets below equal))

-- where nothing is behind the Vendor-Id, no parts are read
pub nothing_behind : (octets : List ℕ) → length octets ≤ 4 → vendor_parts octets ≡ []
nothing_behind octets short = parts_read [] octets (record { joined = nil_from_length (drop 4 octets) (omega (arith, length-drop 4 octets)); fit = tt })

-- ---- the pairs

pub pairs_of_parts : (octets : List ℕ) (dict : Definitions) (parts : List Attribute) → AreAttributes parts (drop 4 octets) → 4 < length octets
    → vendor_pairs octets dict (vendor_parts octets)
    ≡ map (λ (p : Attribute). pair_of (of_vendor (vendor_of octets) p.kind) p.value dict) parts
pairs_of_parts octets dict [] h long = absurd (omega (arith, ap length h.joined, length-drop 4 octets))
pairs_of_parts octets dict (part ∷ parts) h long = ap (vendor_pairs octets dict) (parts_read (part ∷ parts) octets h)

pub parts_count : (parts : List Attribute) → length parts ≤ length (flat_map spelled parts)
parts_count [] = omega arith
parts_count (a ∷ parts) = omega (arith, parts_count parts, length-append (spelled a) (flat_map spelled parts))

-- ---- the parts as a law

octets_below : (octets : List ℕ) → All (λ octet. octet < 256) octets → AreOctets octets
octets_below octets all i =
    elim (cases_lt i (length octets)) [
      | inl within ↦ All-get_or (λ (octet : ℕ). octet < 256) octets i 0 within all
      | inr past ↦ rw (get_or_past octets i 0 past) (omega arith)
    ]

only_taken : (b : Bool) (read : List Attribute) (behind : List ℕ) → (b ≡ true → AreAttributes read behind) → cond b read [] ≢ []
    → AreAttributes (cond b read []) behind
only_taken true read behind are some = are refl
only_taken false read behind are some = absurd (some refl)

-- parts that are read stand behind the Vendor-Id as attributes
pub parts_only : (octets : List ℕ) → All (λ octet. octet < 256) octets → vendor_parts octets ≢ []
    → AreAttributes (vendor_parts octets) (drop 4 octets)
parts_only octets all some =
    let read = attributes_in (length octets) (drop 4 octets) in
    let below = octets_below (drop 4 octets) (All-drop (λ (octet : ℕ). octet < 256) 4 octets all) in
    only_taken (bytes_eq (flat_map spelled read) (drop 4 octets)) read (drop 4 octets) (read_stands octets below) some
