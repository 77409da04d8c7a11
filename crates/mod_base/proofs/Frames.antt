-- What stays outside a frame.
use Rattle.std.specs.Prelude.{map, filter, not}
use Rattle.std.proofs.Common.{◌≡◌, Bool, true, false, cond, List, [], ◌∷◌, refl, sym, ap, ◌∙◌}
use Rattle.rad_words.specs.declared.attributes.AttrId.{AttrId}
use Rattle.rad_words.specs.declared.sections.Section.{Section}
use Rattle.rad_value.specs.declared.edits.ListName.{ListName}
use Rattle.rad_value.specs.declared.values.Pair.{Pair}
use Rattle.rad_value.specs.PairLists.{list_of}
use Rattle.rad_value.specs.Pairs.{is_of, values_of}
use Rattle.rad_dict.proofs.Lookups.{same_attr_is}
use Rattle.mod_base.specs.Situation.{Situation}
use Rattle.mod_base.specs.Meaning.{IsLawful}

module _ {X : Type 0} (p q : X → Bool) (within : (x : X) → p x ≡ true → q x ≡ true) where
  one_kept : (x : X) (xs rest : List X) (b c : Bool) → p x ≡ b → q x ≡ c → rest ≡ filter p (filter q xs) → cond b (x ∷ rest) rest ≡ filter p (cond c (x ∷ filter q xs) (filter q xs))
  one_kept x xs rest true true is_p is_q more = rw is_p (ap (λ r. x ∷ r) more)
  one_kept x xs rest false true is_p is_q more = rw is_p more
  one_kept x xs rest false false is_p is_q more = more
  one_kept x xs rest true false is_p is_q more = absurd (let w = within x is_p in cc)

  -- what one test lets through is found behind a wider one
  pub filter_within : (xs : List X) → filter p xs ≡ filter p (filter q xs)
  filter_within [] = refl
  filter_within (x ∷ xs) = one_kept x xs (filter p xs) (p x) (q x) refl refl (filter_within xs)

is_outside : (edits : ListName → AttrId → Bool) (list : ListName) (attr : AttrId) → edits list attr ≡ false → (pair : Pair) → is_of attr pair ≡ true → not (edits list pair.attr) ≡ true
is_outside edits list attr free pair is = rw (same_attr_is pair.attr attr is) (rw free refl)

-- the values of an attribute outside the frame stay
pub values_stay : (edits : ListName → AttrId → Bool) (method : Section) (before now : Situation) (list : ListName) (attr : AttrId) → IsLawful edits method before now → edits list attr ≡ false
    → values_of attr (list_of now.scope.lists list) ≡ values_of attr (list_of before.scope.lists list)
values_stay edits method before now list attr lawful free =
    let within = is_outside edits list attr free in
    let kept : (Pair → Bool) = λ (pair : Pair). not (edits list pair.attr) in
    ap (map (λ (p : Pair). p.value)) (filter_within (is_of attr) kept within (list_of now.scope.lists list)
    ∙ ap (filter (is_of attr)) (lawful.scope.pairs list)
    ∙ sym (filter_within (is_of attr) kept within (list_of before.scope.lists list)))
