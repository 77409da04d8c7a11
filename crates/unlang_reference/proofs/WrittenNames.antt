-- Names of lists and attributes that are written and read again.
use Rattle.std.proofs.Common.{◌≡◌, ℕ, zero, suc, true, false, cond, eqb, List, [], ◌∷◌, ◌++◌, length, take, drop, map, Some, None, Ok, inl, inr, refl, sym, ap, ◌∙◌, arith}
use Rattle.std.proofs.lemmas.Bool.{cases_Bool}
use Rattle.std.proofs.lemmas.List.{map-append, length-map, take-map}
use Rattle.std.proofs.lemmas.Slice.Eq.{bytes_eq-Decides}
use Rattle.std.proofs.lemmas.Grind.{common_steps}
use Rattle.std.proofs.Math.Seq.{take-append_seam, drop-append_seam}
use Rattle.std.specs.Prelude.{codes}
use Rattle.std.specs.Str.{bytes_eq}
use Rattle.std.specs.Char.{to_ascii_lowercase}
use Rattle.rad_dict.specs.Definitions.{Definitions}
use Rattle.rad_pairs.specs.declared.attr_reading.AttrKind.{AttrKind}
use Rattle.rad_pairs.specs.AttrNames.{named}
use Rattle.rad_value.specs.declared.edits.ListName.{ListName}
use Rattle.rad_value.specs.declared.edits.ListName.TheVariants.{Request, Reply, Control}
use Rattle.unlang_reference.specs.declared.reference.Reference.{Reference}
use Rattle.unlang_reference.specs.declared.reference.Which.{Which}
use Rattle.unlang_reference.specs.Reading.{after_prefix, name_len, which_of, reference_of}
use Rattle.unlang_reference.specs.Reading as reading
use Rattle.unlang_reference.specs.Written.{lacks, list_text, IsPlace, IsReference, unlisted, listed}
use Rattle.unlang_reference.proofs.WrittenPlaces.{Bracketed, no_place, bracket, place_read, place_bracketed, place_lacks}

lacks_parts : (octet c : ℕ) (text : List ℕ) → lacks octet (c ∷ text) ≡ true → (eqb c octet ≡ false) × (lacks octet text ≡ true)
lacks_parts octet c text none =
    elim (cases_Bool (eqb c octet)) [
      | inl is ↦ let never : false ≡ true = rw is at none in absurd cc
      | inr isnt ↦ (isnt, rw isnt at none)
    ]

lacks_append : (octet : ℕ) (front back : List ℕ) → lacks octet front ≡ true → lacks octet back ≡ true → lacks octet (front ++ back) ≡ true
lacks_append octet [] back a b = b
lacks_append octet (c ∷ front) back a b = let parts = lacks_parts octet c front a in rw parts.0 (lacks_append octet front back parts.1 b)

-- No other octet is a colon in lower case.
colon_alone : (c : ℕ) → eqb c 58 ≡ false → eqb (to_ascii_lowercase c) 58 ≡ false
colon_alone c other = grind (arith, common_steps)

lacks_lower : (text : List ℕ) → lacks 58 text ≡ true → lacks 58 (map to_ascii_lowercase text) ≡ true
lacks_lower [] none = refl
lacks_lower (c ∷ text) none = let parts = lacks_parts 58 c text none in rw (colon_alone c parts.0) (lacks_lower text parts.1)

lacks_take : (n : ℕ) (text : List ℕ) → lacks 58 text ≡ true → lacks 58 (take n text) ≡ true
lacks_take zero text none = refl
lacks_take (suc n) [] none = refl
lacks_take (suc n) (c ∷ text) none = let parts = lacks_parts 58 c text none in rw parts.0 (lacks_take n text parts.1)

-- A text without a colon begins with no list's name.
no_prefix : (prefix text : List ℕ) → lacks 58 text ≡ true → lacks 58 (map to_ascii_lowercase prefix) ≡ false → after_prefix prefix text ≡ None
unfolding after_prefix
no_prefix prefix text none colon =
    elim (cases_Bool (bytes_eq (map to_ascii_lowercase (take (length prefix) text)) (map to_ascii_lowercase prefix))) [
      | inl is ↦
          let same = (bytes_eq-Decides (map to_ascii_lowercase (take (length prefix) text)) (map to_ascii_lowercase prefix)).0 is in
          let without : lacks 58 (map to_ascii_lowercase (take (length prefix) text)) ≡ true = lacks_lower (take (length prefix) text) (lacks_take (length prefix) text none) in
          let never : true ≡ false = sym without ∙ ap (lacks 58) same ∙ colon in absurd cc
      | inr isnt ↦ rw isnt refl
    ]

-- Whether a text begins with a prefix is told by its lower case.
prefix_test : (prefix text low : List ℕ) → map to_ascii_lowercase text ≡ low
    → after_prefix prefix text ≡ cond (bytes_eq (take (length prefix) low) (map to_ascii_lowercase prefix)) (Some (drop (length prefix) text)) None
unfolding after_prefix
prefix_test prefix text low e =
    let same : map to_ascii_lowercase (take (length prefix) text) ≡ take (length prefix) low = sym (take-map to_ascii_lowercase (length prefix) text) ∙ ap (take (length prefix)) e in
    ap (λ (front : List ℕ). cond (bytes_eq front (map to_ascii_lowercase prefix)) (Some (drop (length prefix) text)) None) same

map_length : (one other : List ℕ) → map to_ascii_lowercase one ≡ other → length one ≡ length other
map_length one other e = sym (length-map one to_ascii_lowercase) ∙ ap length e

-- The list of a text that begins with its name in any case.
list_read : (list : ListName) (spelled more : List ℕ) → map to_ascii_lowercase spelled ≡ list_text list → reading.listed (spelled ++ more) ≡ (list, more)
unfolding reading.listed
list_read Request spelled more e =
    let low : map to_ascii_lowercase (spelled ++ more) ≡ codes "request:" ++ map to_ascii_lowercase more = map-append to_ascii_lowercase spelled more ∙ ap (λ (front : List ℕ). front ++ map to_ascii_lowercase more) e in
    let rest : drop 8 (spelled ++ more) ≡ more = ap (λ (n : ℕ). drop n (spelled ++ more)) (sym (map_length spelled (codes "request:") e)) ∙ drop-append_seam spelled more in
    rw (prefix_test (codes "request:") (spelled ++ more) (codes "request:" ++ map to_ascii_lowercase more) low, reading.listed) (ap (λ (r : List ℕ). (Request, r)) rest)
list_read Reply spelled more e =
    let low : map to_ascii_lowercase (spelled ++ more) ≡ codes "reply:" ++ map to_ascii_lowercase more = map-append to_ascii_lowercase spelled more ∙ ap (λ (front : List ℕ). front ++ map to_ascii_lowercase more) e in
    let rest : drop 6 (spelled ++ more) ≡ more = ap (λ (n : ℕ). drop n (spelled ++ more)) (sym (map_length spelled (codes "reply:") e)) ∙ drop-append_seam spelled more in
    rw (prefix_test (codes "request:") (spelled ++ more) (codes "reply:" ++ map to_ascii_lowercase more) low, prefix_test (codes "reply:") (spelled ++ more) (codes "reply:" ++ map to_ascii_lowercase more) low, reading.listed)
    (ap (λ (r : List ℕ). (Reply, r)) rest)
list_read Control spelled more e =
    let low : map to_ascii_lowercase (spelled ++ more) ≡ codes "control:" ++ map to_ascii_lowercase more = map-append to_ascii_lowercase spelled more ∙ ap (λ (front : List ℕ). front ++ map to_ascii_lowercase more) e in
    let rest : drop 8 (spelled ++ more) ≡ more = ap (λ (n : ℕ). drop n (spelled ++ more)) (sym (map_length spelled (codes "control:") e)) ∙ drop-append_seam spelled more in
    rw (
      prefix_test (codes "request:") (spelled ++ more) (codes "control:" ++ map to_ascii_lowercase more) low,
      prefix_test (codes "reply:") (spelled ++ more) (codes "control:" ++ map to_ascii_lowercase more) low,
      prefix_test (codes "control:") (spelled ++ more) (codes "control:" ++ map to_ascii_lowercase more) low,
      reading.listed,
    )
    (ap (λ (r : List ℕ). (Control, r)) rest)

list_lower : (list : ListName) → map to_ascii_lowercase (list_text list) ≡ list_text list
list_lower Request = refl
list_lower Reply = refl
list_lower Control = refl

name_unlisted : (text : List ℕ) → lacks 58 text ≡ true → reading.listed text ≡ (Request, text)
unfolding reading.listed after_prefix
name_unlisted text none =
    rw (no_prefix (codes "request:") text none refl, no_prefix (codes "reply:") text none refl, no_prefix (codes "control:") text none refl) refl

name_span : (name : List ℕ) {place : List ℕ} → Bracketed place → lacks 91 name ≡ true → name_len (name ++ place) ≡ length name
unfolding name_len
name_span [] no_place none = refl
name_span [] (bracket rest) none = refl
name_span (c ∷ name) begins none = let parts = lacks_parts 91 c name none in rw parts.0 (ap suc (name_span name begins parts.1))

module _ (dict : Definitions) where
  -- A name and a place, behind the list that they belong to.
  read_behind : (text : List ℕ) (list : ListName) (attr : AttrKind) (which : Which) (name place : List ℕ) → reading.listed text ≡ (list, name ++ place) → lacks 91 name ≡ true → named name dict ≡ Some attr → IsPlace which place
      → reference_of text dict ≡ Ok (record { list = list; attr = attr; which = which })
  unfolding reference_of
  read_behind text list attr which name place e none is meant =
      let len : name_len (name ++ place) ≡ length name = name_span name (place_bracketed meant) none in
      rw (e, len, take-append_seam name place, drop-append_seam name place, is, place_read meant) refl

  pub reference_read : {reference : Reference} {text : List ℕ} → IsReference dict reference text → reference_of text dict ≡ Ok reference
  reference_read (unlisted attr which name place none colon is meant) =
      read_behind (name ++ place) Request attr which name place (name_unlisted (name ++ place) (lacks_append 58 name place colon (place_lacks meant))) none is meant
  reference_read (listed list attr which spelled name place same none is meant) =
      let low = (bytes_eq-Decides (map to_ascii_lowercase spelled) (map to_ascii_lowercase (list_text list))).0 same ∙ list_lower list in
      read_behind (spelled ++ (name ++ place)) list attr which name place (list_read list spelled (name ++ place) low) none is meant
