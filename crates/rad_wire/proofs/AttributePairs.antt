-- The pairs of one attribute, case by case.
use Rattle.std.proofs.Common.{◌≡◌, ◌≢◌, ℕ, ◌+◌, ◌≤◌, Bool, true, false, cond, List, [], ◌∷◌, length, drop, refl, sym, ap, inl, inr, arith}
use Rattle.std.specs.Prelude.{◌⊎◌, ◌==◌, ◌&&◌}
use Rattle.std.specs.List.{flat_map}
use Rattle.std.specs.Str.{bytes_eq}
use Rattle.std.specs.Cmp.Lexicographic.{same_text}
use Rattle.std.proofs.lemmas.Bool.{eq-eqb, ne_eqb}
use Rattle.std.proofs.lemmas.List.{length-drop, length-map}
use Rattle.rad_value.specs.declared.values.Pair.{Pair}
use Rattle.rad_dict.specs.Definitions.{Definitions}
use Rattle.rad_packet.specs.Packet.{Attribute, spelled, attributes_in, authenticator_of, code_of}
use Rattle.rad_wire.specs.Pairs.{attribute_pairs, of_vendor, pair_of, password_of, standard, vendor_of, vendor_pairs, vendor_parts}
use Rattle.rad_wire.proofs.VendorParts.{parts_count}

abbrev pub attribute : ℕ → List ℕ → Attribute
attribute kind value = record { kind = kind; value = value }

pub of_vendors : (packet secret : List ℕ) (dict : Definitions) (kind : ℕ) (value : List ℕ) → kind ≡ 26
    → attribute_pairs packet secret dict (attribute kind value) ≡ vendor_pairs value dict (vendor_parts value)
unfolding attribute_pairs
of_vendors packet secret dict kind value is = rw (eq-eqb kind 26 is) refl

pub of_password : (packet secret : List ℕ) (dict : Definitions) (kind : ℕ) (value : List ℕ) → kind ≡ 2 → code_of packet ≡ 1
    → attribute_pairs packet secret dict (attribute kind value)
    ≡ record { attr = standard kind; value = password_of value secret (authenticator_of packet) } ∷ []
unfolding attribute_pairs
of_password packet secret dict kind value is access = rw (is, eq-eqb (code_of packet) 1 access) refl

no_password : (b c : Bool) → ((b ≡ false) ⊎ (c ≡ false)) → (b && c) ≡ false
no_password true true (inl no_b) = no_b
no_password true true (inr no_c) = no_c
no_password true false no_one = refl
no_password false c no_one = refl

pub of_others : (packet secret : List ℕ) (dict : Definitions) (kind : ℕ) (value : List ℕ) → kind ≢ 26
    → (((kind == 2) ≡ false) ⊎ ((code_of packet == 1) ≡ false))
    → attribute_pairs packet secret dict (attribute kind value) ≡ pair_of (standard kind) value dict ∷ []
unfolding attribute_pairs
of_others packet secret dict kind value other plain =
    rw (ne_eqb kind 26 other, no_password (kind == 2) (code_of packet == 1) plain) refl

-- ---- how many pairs

vendor_pairs-length : (octets : List ℕ) (dict : Definitions) (parts : List Attribute) → length parts ≤ length octets
    → length (vendor_pairs octets dict parts) ≤ length octets + 2
vendor_pairs-length octets dict [] few = omega arith
vendor_pairs-length octets dict (part ∷ parts) few = omega (arith, few, length-map parts (λ (p : Attribute). pair_of (of_vendor (vendor_of octets) p.kind) p.value dict))

taken_count : (b : Bool) (read : List Attribute) (behind : List ℕ) → (b ≡ true → flat_map spelled read ≡ behind)
    → length (cond b read []) ≤ length behind
taken_count true read behind same = omega (arith, parts_count read, ap length (same refl))
taken_count false read behind same = omega arith

parts_few : (octets : List ℕ) → length (vendor_parts octets) ≤ length octets
parts_few octets =
    let read = attributes_in (length octets) (drop 4 octets) in
    let count = taken_count (bytes_eq (flat_map spelled read) (drop 4 octets)) read (drop 4 octets)
    (λ equal. same_text (flat_map spelled read) (drop 4 octets) (sym equal)) in
    omega (arith, count, length-drop 4 octets)

at_most : (b c : Bool) (vendors : List Pair) (one other : Pair) (count : ℕ) → length vendors ≤ count + 2
    → length (cond b vendors (cond c (one ∷ []) (other ∷ []))) ≤ count + 2
at_most true c vendors one other count few = few
at_most false true vendors one other count few = omega arith
at_most false false vendors one other count few = omega arith

-- an attribute has no more pairs than octets
pub few_pairs : (packet secret : List ℕ) (dict : Definitions) (kind : ℕ) (value : List ℕ)
    → length (attribute_pairs packet secret dict (attribute kind value)) ≤ length value + 2
unfolding attribute_pairs
few_pairs packet secret dict kind value =
    at_most (kind == 26) (kind == 2 && code_of packet == 1) (vendor_pairs value dict (vendor_parts value)) _ _ (length value)
    (vendor_pairs-length value dict (vendor_parts value) (parts_few value))
