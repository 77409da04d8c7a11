-- Names of attributes that are printed and read again.
use Rattle.std.proofs.Common.{◌≡◌, ℕ, ◌^◌, ◌<◌, true, List, [], ◌∷◌, ◌++◌, length, take, Option, Some, None, refl, sym, ap, ◌∙◌, arith}
use Rattle.std.specs.Prelude.{codes}
use Rattle.std.specs.Str.{str_eq_ignore_ascii_case}
use Rattle.std.specs.Fmt.{decimal}
use Rattle.std.proofs.lemmas.Bool.{true≢false, cond-true, ltb-true, lt-ltb}
use Rattle.std.proofs.lemmas.Option.{cond_some}
use Rattle.rad_words.specs.declared.attributes.AttrId.{AttrId}
use Rattle.rad_words.specs.declared.attributes.Space.{Space}
use Rattle.rad_words.specs.declared.attributes.Space.TheVariants.{Standard, Vendor, Internal}
use Rattle.rad_words.specs.declared.attributes.Kind.{Kind}
use Rattle.rad_words.specs.declared.attributes.Kind.TheVariants as kind
use Rattle.rad_words.specs.Attribute.{same_attr}
use Rattle.rad_dict.specs.declared.definitions.AttrDef.{AttrDef}
use Rattle.rad_dict.specs.Definitions.{Definitions, attr_named, definition_of}
use Rattle.rad_pairs.specs.declared.attr_reading.AttrKind.{AttrKind}
use Rattle.rad_text.specs.Numerals.{digits_at, number_at}
use Rattle.rad_pairs.specs.ValueText.{numbered_text, attr_text}
use Rattle.rad_pairs.specs.AttrNames.{numbered, kind_or_octets, named}
use Rattle.rad_dict.specs.EveryDictionary.{IsDictionary}
use Rattle.rad_pairs.specs.ReadingBack.{IsSpace, unnamed_kind, kind_of}
use Rattle.rad_index.proofs.Finds.{find_fits, find_finds}
use Rattle.rad_dict.proofs.Lookups.{same_itself, same_begin, attr_id, same_attr_is}
use Rattle.rad_text.proofs.Decimals.{number_read, number_alone, number_again}
use Rattle.rad_pairs.proofs.Names.{IsName, attr_name_is, decimal_octets, joined}

abbrev pub attr_kind : AttrId → Kind → AttrKind
attr_kind id kind = record { id = id; kind = kind }

-- An attribute that the dictionary names is read by that name.
named_row : (name : List ℕ) (dict : Definitions) (row : AttrDef) → 0 < length name → attr_named name dict ≡ Some row → named name dict ≡ Some (attr_kind row.id row.kind)
unfolding named
named_row [] dict row long e = absurd (omega arith)
named_row (c ∷ name) dict row long e = rw (e, named) refl

defined_read : (attr : AttrId) (dict : Definitions) (row : AttrDef) → IsDictionary dict → definition_of attr dict ≡ Some row → IsName row.name × (named row.name dict ≡ Some (attr_kind attr row.kind))
defined_read attr dict row plain e =
    let here = find_fits (λ (r : AttrDef). same_attr r.id attr) dict.attrs row e in
    let id : row.id ≡ attr = same_attr_is row.id attr here.1 in
    let name = (attr_name_is row.name (plain.attr_names row here.0)).0 in
    let other = find_finds (λ (r : AttrDef). str_eq_ignore_ascii_case r.name row.name) dict.attrs row here.0 (same_itself row.name) in
    let there = find_fits (λ (r : AttrDef). str_eq_ignore_ascii_case r.name row.name) dict.attrs other.0 other.1 in
    let one = plain.one_attr other.0 row there.0 here.0 there.1 in
    (name, named_row row.name dict other.0 name.0 other.1 ∙ ap (λ (i : AttrId). Some (attr_kind i other.0.kind)) (ap (λ (r : AttrDef). r.id) one ∙ id) ∙ ap (λ (r : AttrDef). Some (attr_kind attr r.kind)) one)

-- An attribute without a definition is read by its number.
not_named : (name : List ℕ) (dict : Definitions) → IsDictionary dict → take 5 name ≡ codes "Attr-" → (found : Option AttrDef) → attr_named name dict ≡ found → found ≡ None
not_named name dict plain begin None e = refl
not_named name dict plain begin (Some row) e =
    let here = find_fits (λ (r : AttrDef). str_eq_ignore_ascii_case r.name name) dict.attrs row e in
    let same : str_eq_ignore_ascii_case (take 5 row.name) (codes "Attr-") ≡ true = ap (str_eq_ignore_ascii_case (take 5 row.name)) (sym begin) ∙ same_begin 5 row.name name here.1 in
    absurd (true≢false (sym same ∙ (attr_name_is row.name (plain.attr_names row here.0)).1))

named_number : (name : List ℕ) (dict : Definitions) (attr : AttrId) → IsDictionary dict → 0 < length name → take 5 name ≡ codes "Attr-" → numbered name ≡ Some attr → definition_of attr dict ≡ None → named name dict ≡ Some (attr_kind attr kind.Octets)
unfolding named kind_or_octets
named_number [] dict attr plain long begin e none = absurd (omega arith)
named_number (c ∷ name) dict attr plain long begin e none =
    rw (not_named (c ∷ name) dict plain begin (attr_named (c ∷ name) dict) refl, e, named) (rw (none, kind_or_octets) refl)

standard_again : (n : ℕ) → n < 256 → numbered (codes "Attr-" ++ decimal n) ≡ Some (attr_id Standard n)
unfolding numbered
standard_again n lt = rw (number_alone n (omega arith)) (cond-true _ _ _ (lt-ltb n 256 lt))

vendor_again : (v n : ℕ) → v < 2 ^ 32 → n < 256 → numbered (codes "Attr-26." ++ (decimal v ++ 46 ∷ decimal n)) ≡ Some (attr_id (Vendor v) n)
unfolding numbered number_at digits_at
vendor_again v n vendor lt = rw (number_read v (46 ∷ decimal n) vendor refl, number_again n (omega arith)) (cond-true _ _ _ (lt-ltb n 256 lt))

numbered_again : (space : Space) (n : ℕ) (k : Kind) → IsSpace space → unnamed_kind space n ≡ Some k
    → IsName (numbered_text space n) × (take 5 (numbered_text space n) ≡ codes "Attr-") × (numbered (numbered_text space n) ≡ Some (attr_id space n)) × (kind.Octets ≡ k)
unfolding numbered_text
numbered_again Standard n k wide e =
    let parts = cond_some _ kind.Octets k e in
    let lt : n < 256 = ltb-true n 256 parts.0 in
    ((omega arith, joined (codes "Attr-") (decimal n) refl (decimal_octets n (omega arith))), refl, standard_again n lt, parts.1)
numbered_again (Vendor v) n k wide e =
    let parts = cond_some _ kind.Octets k e in
    let lt : n < 256 = ltb-true n 256 parts.0 in
    ((omega arith, joined (codes "Attr-26.") (decimal v ++ 46 ∷ decimal n) refl (joined (decimal v) (46 ∷ decimal n) (decimal_octets v wide) (decimal_octets n (omega arith)))), refl, vendor_again v n wide lt, parts.1)
numbered_again Internal n k wide e = absurd cc

-- The name of an attribute that has a kind is read as that attribute, of that kind.
pub attr_again : (attr : AttrId) (dict : Definitions) (k : Kind) → IsDictionary dict → IsSpace attr.space → kind_of attr dict ≡ Some k
    → IsName (attr_text attr dict) × (named (attr_text attr dict) dict ≡ Some (attr_kind attr k))
unfolding attr_text
attr_again attr dict k plain wide e = go (definition_of attr dict) refl e where
  go : (found : Option AttrDef) → definition_of attr dict ≡ found → elim found [ Some row ↦ Some row.kind | None ↦ unnamed_kind attr.space attr.number ] ≡ Some k
      → IsName (elim found [ Some row ↦ row.name | None ↦ numbered_text attr.space attr.number ]) × (named (elim found [ Some row ↦ row.name | None ↦ numbered_text attr.space attr.number ]) dict ≡ Some (attr_kind attr k))
  go (Some row) is e =
      let read = defined_read attr dict row plain is in
      let same : row.kind ≡ k = cc in
      (read.0, read.1 ∙ ap (λ (k : Kind). Some (attr_kind attr k)) same)
  go None is e =
      let read = numbered_again attr.space attr.number k wide e in
      (read.0, named_number (numbered_text attr.space attr.number) dict attr plain read.0.0 read.1 read.2 is ∙ ap (λ (k : Kind). Some (attr_kind attr k)) read.3)
