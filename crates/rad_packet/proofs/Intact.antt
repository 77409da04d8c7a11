-- Packets that are intact, and those that aren't.
use Rattle.std.proofs.Common.{◌≡◌, ◌≢◌, ℕ, ◌≤◌, Bool, true, false, cond, List, [], ◌∷◌, ◌++◌, length, take, drop, map, refl, sym, ap, ◌∙◌, subst, inl, inr, arith}
use Rattle.std.specs.Prelude.{◌==◌, Any, Some, None, slice_index_or}
use Rattle.std.specs.List.{flat_map}
use Rattle.std.proofs.lemmas.Bool.{eqb-true}
use Rattle.md5.proofs.StandardFacts.{length-md5}
use Rattle.rad_packet.specs.Hmac.{hmac_md5}
use Rattle.rad_packet.specs.Packet.{Attribute, AreAttributes, IsPacket, IsWellFormed, attributes_of, spelled}
use Rattle.rad_packet.specs.Signatures.{IsIntact, IsTampered, message_authenticator, message_authenticators, of_kind, zeroed}
use Rattle.rad_packet.proofs.AttributeLists.{packet_reading}
use Rattle.rad_packet.proofs.Signing.{value_first}

-- a packet's rest is its attributes
pub own_attributes : (packet : List ℕ) → IsWellFormed packet → AreAttributes (attributes_of packet) (drop 20 packet)
own_attributes packet well =
    subst (λ (all : List Attribute). AreAttributes all (drop 20 packet)) (sym (packet_reading well.0 packet well.1)) well.1.rest

pub intact_untampered : (packet authenticator secret : List ℕ) → IsIntact packet authenticator secret
    → ¬ IsTampered packet authenticator secret
intact_untampered packet authenticator secret (inl none) (inl twice) = omega (arith, ap length none, twice)
intact_untampered packet authenticator secret (inl none) (inr wrong) = omega (arith, ap length none, wrong.2)
intact_untampered packet authenticator secret (inr one) (inl twice) = omega (arith, ap length one, twice)
intact_untampered packet authenticator secret (inr one) (inr wrong) =
    let first : wrong.0 ≡ 0 = omega (arith, ap length one, wrong.2) in
    let right : Attribute = record { kind = 80; value = message_authenticator packet authenticator secret } in
    let found : right ≡ wrong.1 =
    sym (ap (λ (list : List Attribute). slice_index_or list 0 wrong.1) one)
    ∙ sym (ap (λ (n : ℕ). slice_index_or (message_authenticators packet) n wrong.1) first) ∙ wrong.3 in
    wrong.4 (ap (λ (a : Attribute). a.value) (sym found))

-- ---- what the walks say

some_same : (x y : List ℕ) → Some x ≡ Some y → x ≡ y
some_same x y same = cc

none_first : (list : List Attribute) → None ≡ value_first list → list ≡ []
none_first [] none = refl
none_first (a ∷ list) none = cc

pub intact_without : (packet authenticator secret : List ℕ) → IsWellFormed packet
    → ((all : List Attribute) → AreAttributes all (drop 20 packet) → None ≡ value_first (of_kind 80 all))
    → IsIntact packet authenticator secret
intact_without packet authenticator secret well none =
    inl (none_first (message_authenticators packet) (none (attributes_of packet) (own_attributes packet well)))

-- each attribute of a type has it
begins-when : (kind : ℕ) (b : Bool) (a x : Attribute) (others rest : List Attribute) → (a.kind == kind) ≡ b
    → (of_kind kind others ≡ x ∷ rest → x.kind ≡ kind) → cond b (a ∷ of_kind kind others) (of_kind kind others) ≡ x ∷ rest → x.kind ≡ kind
begins-when kind true a x others rest is later begins =
    let same : a ≡ x = ap (λ (list : List Attribute). first_or list a) begins in
    ap (λ (y : Attribute). y.kind) (sym same) ∙ eqb-true a.kind kind is
  where
    first_or : List Attribute → Attribute → Attribute
    first_or [] d = d
    first_or (y ∷ list) d = y
begins-when kind false a x others rest is later begins = later begins

begins_of_kind : (kind : ℕ) (all rest : List Attribute) (x : Attribute) → of_kind kind all ≡ x ∷ rest → x.kind ≡ kind
begins_of_kind kind [] rest x begins = cc
begins_of_kind kind (a ∷ others) rest x begins =
    begins-when kind (a.kind == kind) a x others rest refl (begins_of_kind kind others rest x) begins

one_first : (all list : List Attribute) (value : List ℕ) → of_kind 80 all ≡ list → length list ≡ 1 → Some value ≡ value_first list
    → list ≡ record { kind = 80; value = value } ∷ []
one_first all [] value is one first = absurd (omega (arith, one))
one_first all (a ∷ []) value is one first =
    let kind : a.kind ≡ 80 = begins_of_kind 80 all [] a is in
    let same : value ≡ a.value = some_same value a.value first in
    ap (λ (k : ℕ). record { kind = k; value = a.value } ∷ []) kind
    ∙ ap (λ (v : List ℕ). record { kind = 80; value = v } ∷ []) (sym same)
one_first all (a ∷ b ∷ list) value is one first = absurd (omega (arith, one))

pub intact_with : (packet authenticator secret value : List ℕ) → IsWellFormed packet
    → ((all : List Attribute) → AreAttributes all (drop 20 packet) → Some value ≡ value_first (of_kind 80 all))
    → ((all : List Attribute) → AreAttributes all (drop 20 packet) → 1 ≡ length (of_kind 80 all))
    → value ≡ message_authenticator packet authenticator secret → IsIntact packet authenticator secret
intact_with packet authenticator secret value well first count right =
    let all = attributes_of packet in
    let own = own_attributes packet well in
    inr (one_first all (message_authenticators packet) value refl (sym (count all own)) (first all own)
    ∙ ap (λ (v : List ℕ). record { kind = 80; value = v } ∷ []) right)

any_first : (list : List Attribute) (value right : List ℕ) → Some value ≡ value_first list → value ≢ right
    → Any (λ (a : Attribute). a.value ≢ right) list
any_first [] value right first wrong = cc
any_first (a ∷ list) value right first wrong =
    (0, a, omega arith, refl, λ is. wrong (some_same value a.value first ∙ is))

pub tampered_value : (packet authenticator secret value : List ℕ) → IsWellFormed packet
    → ((all : List Attribute) → AreAttributes all (drop 20 packet) → Some value ≡ value_first (of_kind 80 all))
    → value ≢ message_authenticator packet authenticator secret → IsTampered packet authenticator secret
tampered_value packet authenticator secret value well first wrong =
    inr (any_first (message_authenticators packet) value (message_authenticator packet authenticator secret)
    (first (attributes_of packet) (own_attributes packet well)) wrong)

several_first : (list : List Attribute) (value : List ℕ) → Some value ≡ value_first list → (length list == 1) ≡ false → 2 ≤ length list
several_first [] value first other = cc
several_first (a ∷ []) value first other = cc
several_first (a ∷ b ∷ list) value first other = omega arith

pub tampered_count : (packet authenticator secret value : List ℕ) → IsWellFormed packet
    → ((all : List Attribute) → AreAttributes all (drop 20 packet) → Some value ≡ value_first (of_kind 80 all))
    → ((all : List Attribute) → AreAttributes all (drop 20 packet) → (length (of_kind 80 all) == 1) ≡ false)
    → IsTampered packet authenticator secret
tampered_count packet authenticator secret value well first other =
    let all = attributes_of packet in
    let own = own_attributes packet well in
    inl (several_first (message_authenticators packet) value (first all own) (other all own))

-- ---- laws

pub right_length : (packet authenticator secret : List ℕ) → length (message_authenticator packet authenticator secret) ≡ 16
right_length packet authenticator secret = length-md5 _

pub right_signed : (packet other : List ℕ) (attributes others : List Attribute) (authenticator secret : List ℕ)
    → IsPacket attributes packet → IsPacket others other → take 4 packet ≡ take 4 other → map zeroed attributes ≡ map zeroed others
    → message_authenticator packet authenticator secret ≡ message_authenticator other authenticator secret
right_signed packet other attributes others authenticator secret h k heads same =
    let bodies : map zeroed (attributes_of packet) ≡ map zeroed (attributes_of other) =
    ap (map zeroed) (packet_reading attributes packet h) ∙ same ∙ sym (ap (map zeroed) (packet_reading others other k)) in
    ap (λ (head : List ℕ). hmac_md5 secret (head ++ authenticator ++ flat_map spelled (map zeroed (attributes_of packet)))) heads
    ∙ ap (λ (body : List Attribute). hmac_md5 secret (take 4 other ++ authenticator ++ flat_map spelled body)) bodies

pub not_twice : (packet authenticator secret : List ℕ) (first second : Attribute) (rest : List Attribute)
    → message_authenticators packet ≡ first ∷ second ∷ rest → ¬ IsIntact packet authenticator secret
not_twice packet authenticator secret first second rest are (inl none) = omega (arith, ap length are, ap length none)
not_twice packet authenticator secret first second rest are (inr one) = omega (arith, ap length are, ap length one)

front_value : List Attribute → List ℕ
front_value [] = []
front_value (a ∷ list) = a.value

pub not_of_other_length : (packet authenticator secret : List ℕ) (attribute : Attribute) (rest : List Attribute)
    → message_authenticators packet ≡ attribute ∷ rest → length attribute.value ≢ 16 → ¬ IsIntact packet authenticator secret
unfolding front_value
not_of_other_length packet authenticator secret attribute rest are other (inl none) =
    omega (arith, ap length are, ap length none)
not_of_other_length packet authenticator secret attribute rest are other (inr one) =
    let value : attribute.value ≡ message_authenticator packet authenticator secret = ap front_value (sym are ∙ one) in
    other (ap length value ∙ right_length packet authenticator secret)

pub right_intact : (packet authenticator secret : List ℕ) (attribute : Attribute)
    → message_authenticators packet ≡ attribute ∷ [] → attribute.value ≡ message_authenticator packet authenticator secret
    → IsIntact packet authenticator secret
right_intact packet authenticator secret attribute are right =
    let kind : attribute.kind ≡ 80 = begins_of_kind 80 (attributes_of packet) [] attribute are in
    inr (are
    ∙ ap (λ (k : ℕ). record { kind = k; value = attribute.value } ∷ []) kind
    ∙ ap (λ (v : List ℕ). record { kind = 80; value = v } ∷ []) right)
