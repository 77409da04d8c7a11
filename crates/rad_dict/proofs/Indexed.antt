-- Each look-up of a dictionary has one key: rows that it may find have the key of what is looked for.
use Rattle.std.proofs.Common.{◌≡◌, ℕ, ◌+◌, Bool, true, false, ◌&&◌, eqb, List, refl, ap}
use Rattle.std.proofs.lemmas.Bool.{false≢true, eqb-true}
use Rattle.std.proofs.lemmas.Slice.Eq.{bytes_eq-Decides}
use Rattle.std.specs.Str.{str_to_ascii_lowercase, str_eq_ignore_ascii_case}
use Rattle.rad_words.specs.declared.attributes.AttrId.{AttrId}
use Rattle.rad_words.specs.declared.attributes.Space.{Space}
use Rattle.rad_words.specs.declared.attributes.Space.TheVariants.{Standard, Vendor, Internal}
use Rattle.rad_words.specs.Attribute.{same_space, same_attr}
use Rattle.rad_dict.specs.declared.definitions.AttrDef.{AttrDef}
use Rattle.rad_dict.specs.declared.definitions.ValueDef.{ValueDef}
use Rattle.rad_dict.specs.Definitions.{is_number_of, is_name_of}
use Rattle.rad_dict.specs.Keys.{key_with, octets_key, name_key, space_key, attr_key, by_name, by_attr, by_value, by_value_name}

-- Names that are the same without regard to case have one key.
pub same_name_key : (key : ℕ) (one other : List ℕ) → str_eq_ignore_ascii_case one other ≡ true → name_key key one ≡ name_key key other
same_name_key key one other e = ap (octets_key key) ((bytes_eq-Decides (str_to_ascii_lowercase one) (str_to_ascii_lowercase other)).0 e)

pub and_left : (a b : Bool) → (a && b) ≡ true → a ≡ true
and_left true b e = refl
and_left false b e = e

pub and_right : (a b : Bool) → (a && b) ≡ true → b ≡ true
and_right true b e = e
and_right false b e = absurd (false≢true e)

same_space_key : (one other : Space) → same_space one other ≡ true → space_key one ≡ space_key other
same_space_key Standard Standard e = refl
same_space_key Standard (Vendor w) e = absurd (false≢true e)
same_space_key Standard Internal e = absurd (false≢true e)
same_space_key (Vendor v) Standard e = absurd (false≢true e)
same_space_key (Vendor v) (Vendor w) e = ap (λ n. n + 1) (eqb-true v w e)
same_space_key (Vendor v) Internal e = absurd (false≢true e)
same_space_key Internal Standard e = absurd (false≢true e)
same_space_key Internal (Vendor w) e = absurd (false≢true e)
same_space_key Internal Internal e = refl

-- The same attribute has one key.
pub same_attr_key : (one other : AttrId) → same_attr one other ≡ true → attr_key one ≡ attr_key other
unfolding attr_key
same_attr_key one other e =
    let space = same_space_key one.space other.space (and_left (same_space one.space other.space) (eqb one.number other.number) e) in
    let number = eqb-true one.number other.number (and_right (same_space one.space other.space) (eqb one.number other.number) e) in
    rw (space, number) refl

-- Each of the look-ups has one key.
pub by_name_only : (name : List ℕ) (row : AttrDef) → str_eq_ignore_ascii_case row.name name ≡ true → by_name row ≡ name_key 0 name
by_name_only name row e = same_name_key 0 row.name name e

pub by_attr_only : (id : AttrId) (row : AttrDef) → same_attr row.id id ≡ true → by_attr row ≡ attr_key id
by_attr_only id row e = same_attr_key row.id id e

pub by_value_only : (id : AttrId) (number : ℕ) (row : ValueDef) → is_number_of id number row ≡ true → by_value row ≡ key_with (attr_key id) number
by_value_only id number row e =
    let attr = same_attr_key row.attr id (and_left (same_attr row.attr id) (eqb row.number number) e) in
    let same = eqb-true row.number number (and_right (same_attr row.attr id) (eqb row.number number) e) in
    rw (attr, same) refl

pub by_value_name_only : (id : AttrId) (name : List ℕ) (row : ValueDef) → is_name_of id name row ≡ true → by_value_name row ≡ name_key (attr_key id) name
by_value_name_only id name row e =
    let attr = same_attr_key row.attr id (and_left (same_attr row.attr id) (str_eq_ignore_ascii_case row.name name) e) in
    rw attr (same_name_key (attr_key id) row.name name (and_right (same_attr row.attr id) (str_eq_ignore_ascii_case row.name name) e))
