-- What a reply carries is decoded again.
use Rattle.std.proofs.Common.{◌≡◌, ◌≢◌, ℕ, ◌≤◌, Bool, true, false, cond, List, [], ◌∷◌, ◌++◌, length, take, drop, refl, sym, ap, ◌∙◌, inl, inr, arith}
use Rattle.std.specs.Prelude.{◌==◌, ◌||◌, All, filter, map, nat_lt}
use Rattle.std.specs.Int.{w32, to_be_bytes}
use Rattle.std.specs.List.{flat_map}
use Rattle.std.proofs.lemmas.Bool.{cases_eq, eqb-true, ne_eqb}
use Rattle.std.proofs.lemmas.Grind.{flat_map-append}
use Rattle.std.proofs.lemmas.List.{append-nil, take_all}
use Rattle.std.proofs.lemmas.List.Elements.{All-head, All-tail}
use Rattle.std.proofs.lemmas.Nat.{from_be_bytes-to_be_bytes_2, from_be_bytes-to_be_bytes_4}
use Rattle.rad_words.specs.declared.attributes.Kind.{Kind}
use Rattle.rad_words.specs.declared.attributes.Space.{Space}
use Rattle.rad_words.specs.declared.attributes.Space.TheVariants.{Standard, Vendor, Internal}
use Rattle.rad_words.specs.declared.attributes.AttrId.{AttrId}
use Rattle.rad_value.specs.declared.values.Pair.{Pair}
use Rattle.rad_value.specs.declared.values.Value.{Value}
use Rattle.rad_value.specs.declared.values.Value.TheVariants as values
use Rattle.rad_dict.specs.Definitions.{Definitions}
use Rattle.rad_packet.specs.Packet.{Attribute, AreAttributes, IsWellFormed, attributes_of, spelled}
use Rattle.rad_wire.specs.Pairs.{attribute_pairs, kind_of, of_vendor, pair_of, pairs_of, standard, vendor_of, vendor_pairs, vendor_parts}
use Rattle.rad_wire.specs.Reply.{attributes_for, fitting, is_left_out, proxy_state_attributes, reply_attributes, reply_octets, room_beside}
use Rattle.rad_wire.specs.Values.{octets_of, value_of}
use Rattle.rad_wire.specs.Carried.{FitBeside, HasNoParts, IsCarried, IsInRange, proxy_state_pairs}
use Rattle.rad_value.specs.Kinds.{kind_of_value}
use Rattle.rad_packet.proofs.AttributeLists.{packet_reading}
use Rattle.rad_wire.proofs.AttributePairs.{attribute, of_others, of_vendors}
use Rattle.rad_wire.proofs.Fitting.{fitting-fit, taken}
use Rattle.rad_wire.proofs.Replies.{reply_packet}
use Rattle.rad_wire.proofs.VendorParts.{parts_read}

-- ---- values

-- the octets of a value are that value by its kind
value_again : (value : Value) → IsInRange value → value_of (kind_of_value value) (octets_of value) ≡ value
value_again (values.Text text) h = refl
value_again (values.Octets octets) h = refl
value_again (values.Addr address) h = ap values.Addr (from_be_bytes-to_be_bytes_4 address h)
value_again (values.Number number) h = ap values.Number (from_be_bytes-to_be_bytes_4 number h)
value_again (values.Date seconds) h = ap values.Date (from_be_bytes-to_be_bytes_4 seconds h)
value_again (values.Byte number) h = refl
value_again (values.Short number) h = ap values.Short (from_be_bytes-to_be_bytes_2 number h)

-- an attribute with these octets is the pair that it was
pub pair_again : (attr : AttrId) (value : Value) (octets : List ℕ) (dict : Definitions) → IsInRange value → kind_of_value value ≡ kind_of attr dict
    → octets ≡ octets_of value → pair_of attr octets dict ≡ record { attr = attr; value = value }
pair_again attr value octets dict range kind same =
    let made : Value → Pair = λ v. record { attr = attr; value = v } in
    ap (λ (o : List ℕ). made (value_of (kind_of attr dict) o)) same
    ∙ ap (λ (k : Kind). made (value_of k (octets_of value))) (sym kind)
    ∙ ap made (value_again value range)

-- ---- one pair

abbrev pub Again : List ℕ → List ℕ → Definitions → Pair → Type 0
Again packet secret dict pair = flat_map (attribute_pairs packet secret dict) (attributes_for pair) ≡ pair ∷ []

-- the one attribute of a pair
one_sent : (b : Bool) (a : Attribute) → cond b [] (a ∷ []) ≢ [] → cond b [] (a ∷ []) ≡ a ∷ []
one_sent true a sent = absurd (sent refl)
one_sent false a sent = refl

not_left_out : (b : Bool) (a : Attribute) → cond b [] (a ∷ []) ≢ [] → b ≡ false
not_left_out true a sent = absurd (sent refl)
not_left_out false a sent = refl

second_false : (a b c d e : Bool) → (a || b || c || d || e) ≡ false → b ≡ false
second_false true b c d e h = let no_way : true ≡ false = h in cc
second_false false true c d e h = h
second_false false false c d e h = refl

pub without_parts : (octets : List ℕ) (value : Value) (dict : Definitions) → HasNoParts value → octets ≡ octets_of value
    → vendor_pairs octets dict (vendor_parts octets) ≡ record { attr = standard 26; value = value } ∷ []
without_parts octets (values.Octets raw) dict none same = rw (same, none) refl
without_parts octets (values.Text text) dict none same = absurd none
without_parts octets (values.Addr address) dict none same = absurd none
without_parts octets (values.Number number) dict none same = absurd none
without_parts octets (values.Date seconds) dict none same = absurd none
without_parts octets (values.Byte number) dict none same = absurd none
without_parts octets (values.Short number) dict none same = absurd none

standard_again : (packet secret : List ℕ) (dict : Definitions) (number : ℕ) (value : Value)
    → IsCarried dict (record { attr = standard number; value = value })
    → Again packet secret dict (record { attr = standard number; value = value })
unfolding attributes_for
standard_again packet secret dict number value h =
    let octets = take 253 (octets_of value) in
    let same : octets ≡ octets_of value = take_all 253 (octets_of value) h.uncut in
    let a = attribute number octets in
    let out = not_left_out (is_left_out number) a h.sent in
    let f = attribute_pairs packet secret dict in
    let found : f a ≡ record { attr = standard number; value = value } ∷ [] =
    elim (cases_eq number 26) [
      | inl is ↦
          of_vendors packet secret dict number octets is
          ∙ without_parts octets value dict (h.plain (ap standard is)) same
          ∙ ap (λ (n : ℕ). record { attr = standard n; value = value } ∷ []) (sym is)
      | inr other ↦
          of_others packet secret dict number octets other
          (inl (second_false (nat_lt 255 number) (number == 2) (number == 3) (number == 33) (number == 80) out))
          ∙ ap (λ (p : Pair). p ∷ []) (pair_again (standard number) value octets dict h.range h.kind same)
    ] in
    ap (flat_map f) (one_sent (is_left_out number) a h.sent) ∙ append-nil (f a) ∙ found

vendor_again : (packet secret : List ℕ) (dict : Definitions) (vendor number : ℕ) (value : Value)
    → IsCarried dict (record { attr = of_vendor vendor number; value = value })
    → Again packet secret dict (record { attr = of_vendor vendor number; value = value })
unfolding attributes_for
vendor_again packet secret dict vendor number value h =
    let octets = take 247 (octets_of value) in
    let same : octets ≡ octets_of value = take_all 247 (octets_of value) h.uncut.0 in
    let part = attribute number octets in
    let inside = to_be_bytes w32 vendor ++ spelled part in
    let a = attribute 26 inside in
    let f = attribute_pairs packet secret dict in
    let parts : AreAttributes (part ∷ []) (drop 4 inside) = record {
      joined = sym (append-nil (spelled part));
      fit = (omega (arith, ap length same, h.uncut.0), tt);
    } in
    let read = parts_read (part ∷ []) inside parts in
    let id : vendor_of inside ≡ vendor = from_be_bytes-to_be_bytes_4 vendor h.uncut.1 in
    let found : f a ≡ record { attr = of_vendor vendor number; value = value } ∷ [] =
    of_vendors packet secret dict 26 inside refl
    ∙ ap (vendor_pairs inside dict) read
    ∙ ap (λ (v : ℕ). pair_of (of_vendor v number) octets dict ∷ []) id
    ∙ ap (λ (p : Pair). p ∷ []) (pair_again (of_vendor vendor number) value octets dict h.range h.kind same) in
    ap (flat_map f) (one_sent (nat_lt 255 number) a h.sent) ∙ append-nil (f a) ∙ found

carried_again : (packet secret : List ℕ) (dict : Definitions) (space : Space) (number : ℕ) (value : Value)
    → IsCarried dict (record { attr = record { space = space; number = number }; value = value })
    → Again packet secret dict (record { attr = record { space = space; number = number }; value = value })
carried_again packet secret dict Standard number value h = standard_again packet secret dict number value h
carried_again packet secret dict (Vendor vendor) number value h = vendor_again packet secret dict vendor number value h
carried_again packet secret dict Internal number value h = absurd h.uncut

all_again : (packet secret : List ℕ) (dict : Definitions) (pairs : List Pair) → All (IsCarried dict) pairs
    → flat_map (attribute_pairs packet secret dict) (flat_map attributes_for pairs) ≡ pairs
all_again packet secret dict [] h = refl
all_again packet secret dict (pair ∷ pairs) h =
    let f = attribute_pairs packet secret dict in
    let first = carried_again packet secret dict pair.attr.space pair.attr.number pair.value (All-head (IsCarried dict) pair pairs h) in
    flat_map-append f (attributes_for pair) (flat_map attributes_for pairs)
    ∙ ap (λ (x : List Pair). x ++ flat_map f (flat_map attributes_for pairs)) first
    ∙ ap (λ (x : List Pair). pair ∷ x) (all_again packet secret dict pairs (All-tail (IsCarried dict) pair pairs h))

-- ---- the Proxy-States

state_again : (packet secret : List ℕ) (dict : Definitions) (a : Attribute) → a.kind ≡ 33
    → attribute_pairs packet secret dict a ≡ pair_of (standard a.kind) a.value dict ∷ []
state_again packet secret dict a is =
    of_others packet secret dict a.kind a.value (λ vendors. omega (arith, is, vendors))
    (inl (ne_eqb a.kind 2 (λ password. omega (arith, is, password))))

state_then : (b : Bool) (f : Attribute → List Pair) (g : Attribute → Pair) (a : Attribute) (others : List Attribute)
    → (b ≡ true → f a ≡ g a ∷ []) → flat_map f others ≡ map g others
    → flat_map f (cond b (a ∷ others) others) ≡ map g (cond b (a ∷ others) others)
state_then true f g a others one rest =
    ap (λ (x : List Pair). x ++ flat_map f others) (one refl) ∙ ap (λ (x : List Pair). g a ∷ x) rest
state_then false f g a others one rest = rest

states_again : (packet secret : List ℕ) (dict : Definitions) (attributes : List Attribute)
    → flat_map (attribute_pairs packet secret dict) (filter (λ (a : Attribute). a.kind == 33) attributes)
    ≡ map (λ (a : Attribute). pair_of (standard a.kind) a.value dict) (filter (λ (a : Attribute). a.kind == 33) attributes)
states_again packet secret dict [] = refl
states_again packet secret dict (a ∷ attributes) =
    state_then (a.kind == 33) (attribute_pairs packet secret dict) (λ (x : Attribute). pair_of (standard x.kind) x.value dict) a
    (filter (λ (x : Attribute). x.kind == 33) attributes) (λ is. state_again packet secret dict a (eqb-true a.kind 33 is))
    (states_again packet secret dict attributes)

-- ---- the reply

-- attributes that fit are all taken
fitting-all : (attributes : List Attribute) (room : ℕ) → taken attributes ≤ room → fitting room attributes ≡ attributes
unfolding fitting
fitting-all attributes room fit =
    ap (fitting room) (sym (append-nil attributes)) ∙ fitting-fit attributes [] room fit ∙ append-nil attributes

pub reply_again : (code : ℕ) (pairs : List Pair) (request secret : List ℕ) (dict : Definitions) → IsWellFormed request
    → All (IsCarried dict) pairs → FitBeside pairs request
    → pairs_of (reply_octets code pairs request secret) secret dict ≡ pairs ++ proxy_state_pairs request dict
unfolding pairs_of reply_attributes
reply_again code pairs request secret dict well carried fit =
    let reply = reply_octets code pairs request secret in
    let f = attribute_pairs reply secret dict in
    let read = packet_reading (reply_attributes pairs request) reply (reply_packet code pairs request secret well) in
    ap (flat_map f) read
    ∙ flat_map-append f (fitting (room_beside request) (flat_map attributes_for pairs)) (proxy_state_attributes request)
    ∙ ap (λ (x : List Attribute). flat_map f x ++ flat_map f (proxy_state_attributes request)) (fitting-all (flat_map attributes_for pairs) (room_beside request) fit)
    ∙ ap (λ (x : List Pair). x ++ flat_map f (proxy_state_attributes request)) (all_again reply secret dict pairs carried)
    ∙ ap (λ (x : List Pair). pairs ++ x) (states_again reply secret dict (attributes_of request))
