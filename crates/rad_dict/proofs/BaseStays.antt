-- What the base defines stands in every dictionary.
use Rattle.std.proofs.Common.{◌≡◌, Bool, true, false, cond, List, [], ◌∷◌, length, take, Some, sym, subst}
use Rattle.std.specs.List.{find}
use Rattle.rad_words.specs.declared.attributes.AttrId.{AttrId}
use Rattle.rad_words.specs.Attribute.{same_attr}
use Rattle.rad_dict.specs.declared.definitions.AttrDef.{AttrDef}
use Rattle.rad_dict.specs.Definitions.{Definitions, definition_of}
use Rattle.rad_dict.specs.BaseAttributes.{base_attrs}
use Rattle.rad_dict.specs.EveryDictionary.{BeginsWith, IsDictionary}

found_here : {T : Type 0} (p : T → Bool) (y x : T) (first whole : List T) → (find p first ≡ Some x → find p whole ≡ Some x) → (b : Bool) → cond b (Some y) (find p first) ≡ Some x → cond b (Some y) (find p whole) ≡ Some x
found_here p y x first whole later true e = e
found_here p y x first whole later false e = later e

found_first : {T : Type 0} (p : T → Bool) (first whole : List T) (x : T) → BeginsWith first whole → find p first ≡ Some x → find p whole ≡ Some x
found_first p [] whole x begins e = absurd cc
found_first p (y ∷ first) [] x begins e = absurd cc
found_first p (y ∷ first) (z ∷ whole) x begins e =
    let head : z ≡ y = cc in
    let tail : take (length first) whole ≡ first = cc in
    subst (λ t. cond (p t) (Some t) (find p whole) ≡ Some x) (sym head) (found_here p y x first whole (found_first p first whole x tail) (p y) e)

pub base_defined : (id : AttrId) (row : AttrDef) (dict : Definitions) → IsDictionary dict → find (λ (r : AttrDef). same_attr r.id id) base_attrs ≡ Some row → definition_of id dict ≡ Some row
base_defined id row dict is e = found_first (λ (r : AttrDef). same_attr r.id id) base_attrs dict.attrs row is.base_first e
