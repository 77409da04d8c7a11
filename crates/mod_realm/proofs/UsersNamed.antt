-- Users of a realm get its name and their own.
use Rattle.std.specs.Prelude.{min, map, filter, not}
use Rattle.std.specs.List.{before_first, after_first, position_or_len}
use Rattle.std.specs.Option.{option_or, option_map, option_and_then}
use Rattle.std.proofs.Common.{◌≡◌, ℕ, ◌+◌, ◌-◌, ◌<◌, ◌≤◌, Bool, true, false, cond, List, [], ◌∷◌, length, Option, Some, None, refl, sym, ap, ◌∙◌, arith, length-append, length-drop, codes}
use Rattle.std.proofs.lemmas.List.{length-take}
use Rattle.rad_words.specs.declared.attributes.AttrId.{AttrId}
use Rattle.rad_words.specs.declared.codes.Code.{Code}
use Rattle.rad_words.specs.declared.codes.Code.TheVariants as code
use Rattle.rad_words.specs.Attribute.{same_attr}
use Rattle.rad_value.specs.declared.edits.Edit.{Edit}
use Rattle.rad_value.specs.declared.edits.EditOp.TheVariants.{Set}
use Rattle.rad_value.specs.declared.edits.ListName.TheVariants.{Request}
use Rattle.rad_value.specs.declared.values.Pair.{Pair}
use Rattle.rad_value.specs.declared.values.Value.TheVariants.{Text}
use Rattle.rad_value.specs.Edit.{tried, edited, edited_by, lists_edited, pair_of}
use Rattle.rad_value.specs.Pairs.{is_of, values_of, first_text}
use Rattle.rad_value.specs.PairLists.{PairLists, list_of}
use Rattle.rad_value.proofs.EditLaws.{edit-others, edit-set}
use Rattle.rad_value.proofs.Trying.{free_is}
use Rattle.rad_dict.proofs.Lookups.{same_attr_is}
use Rattle.mod_base.proofs.Frames.{filter_within}
use Rattle.mod_lists.specs.Edits.{text_set, after_edit, edit_or_fail}
use Rattle.mod_realm.specs.declared.parting.RealmFormat.{RealmFormat}
use Rattle.mod_realm.specs.declared.realm_module.Found.{Found}
use Rattle.mod_realm.specs.Attributes.{user_name, realm, stripped_user_name}
use Rattle.mod_realm.specs.Realms.{Realm, realm_of, realm_for}
use Rattle.mod_realm.specs.Named.{found_as, found_in, found, stripped, named}
use Rattle.mod_realm.specs.OfRealm.{IsOfRealm}
use Rattle.mod_realm.proofs.Partings.{name_parted}

-- ---- what is found

found_one : (realms : List Realm) (format : RealmFormat) (d : ℕ) (lists : PairLists) (user : List ℕ) (one : Realm) → IsOfRealm realms format d lists user one → found realms format d lists ≡ Some (found_as user one)
found_one realms format d lists user one is =
    let parts = name_parted format d user is.written is.undelimited in
    ap (λ b. cond b None (option_and_then (found_in realms format d) (first_text user_name lists.request))) is.new
    ∙ ap (option_and_then (found_in realms format d)) is.name
    ∙ ap (λ (p : List ℕ × List ℕ). option_map (found_as p.0) (realm_for realms p.1)) parts
    ∙ ap (λ (r : Option Realm). option_map (found_as user) (option_or r (realm_of realms (codes "DEFAULT")))) is.configured

-- ---- a text that is set where there is room

fewer : {X : Type 0} (p : X → Bool) (xs : List X) → length (filter p xs) ≤ length xs
fewer p [] = omega arith
fewer p (x ∷ xs) =
    elim (p x) as (λ b. length (cond b (x ∷ filter p xs) (filter p xs)) ≤ length (x ∷ xs)) [
      | true ↦ let more = fewer p xs in omega (arith, more)
      | false ↦ let more = fewer p xs in omega (arith, more)
    ]

set_length : (pair : Pair) (pairs : List Pair) → length (edited_by Set pair pairs) ≤ length pairs + 1
set_length pair pairs =
    let p = is_of pair.attr in
    let n = position_or_len p pairs in
    let rest = filter (λ x. not (p x)) (after_first p pairs) in
    let all = length-append (before_first p pairs) (pair ∷ rest) in
    let front : length (before_first p pairs) ≡ min n (length pairs) = length-take n pairs in
    let left : length (after_first p pairs) ≡ length pairs - (n + 1) = length-drop (n + 1) pairs in
    let most = fewer (λ x. not (p x)) (after_first p pairs) in
    omega (arith, all, front, left, most)

room_for : (lists : PairLists) (edit : Edit) → length (list_of lists edit.list) < 512 → tried lists edit ≡ Some (lists_edited lists edit)
room_for lists edit room = free_is lists edit (λ n full. let same = full.0 in let many = full.1 in let z : ⊥ = omega (arith, room, same, many) in z)

other_pair : (attr own : AttrId) → same_attr attr own ≡ false → (pair : Pair) → is_of attr pair ≡ true → not (is_of own pair) ≡ true
other_pair attr own other pair is = rw (same_attr_is pair.attr attr is) (rw other refl)

-- an edit leaves the values of another attribute
edit_leaves : (attr : AttrId) (edit : Edit) (pairs : List Pair) → same_attr attr edit.attr ≡ false → values_of attr (edited pairs edit) ≡ values_of attr pairs
edit_leaves attr edit pairs other =
    let keeps : (Pair → Bool) = λ (p : Pair). not (is_of edit.attr p) in
    let within = other_pair attr edit.attr other in
    ap (map (λ (p : Pair). p.value)) (filter_within (is_of attr) keeps within (edited pairs edit)
    ∙ ap (filter (is_of attr)) (edit-others edit.op (pair_of edit) pairs)
    ∙ sym (filter_within (is_of attr) keeps within pairs))

-- ---- what is done

module _ (one : Found) (lists : PairLists) (room : length lists.request ≤ 510) where
  abbrev realm_edit : Edit
  realm_edit = text_set Request realm one.realm

  abbrev user_edit : Edit
  user_edit = text_set Request stripped_user_name one.user

  abbrev with_realm : PairLists
  with_realm = lists_edited lists realm_edit

  abbrev with_both : PairLists
  with_both = lists_edited with_realm user_edit

  realm_first : named (Some one) lists ≡ stripped one with_realm
  realm_first = ap (after_edit lists (stripped one)) (room_for lists realm_edit (omega (arith, room)))

  pub whole_done : one.nostrip ≡ true → named (Some one) lists ≡ (with_realm, code.Ok)
  whole_done whole = realm_first ∙ ap (λ b. cond b (with_realm, code.Ok) (edit_or_fail user_edit (λ edited. (edited, code.Ok)) with_realm)) whole

  pub parted_done : one.nostrip ≡ false → named (Some one) lists ≡ (with_both, code.Ok)
  parted_done parts =
      let more = set_length (pair_of realm_edit) lists.request in
      realm_first
      ∙ ap (λ b. cond b (with_realm, code.Ok) (edit_or_fail user_edit (λ edited. (edited, code.Ok)) with_realm)) parts
      ∙ ap (after_edit with_realm (λ edited. (edited, code.Ok))) (room_for with_realm user_edit (omega (arith, room, more)))

  pub realm_is : values_of realm with_realm.request ≡ Text one.realm ∷ []
  realm_is = edit-set (pair_of realm_edit) lists.request

  pub realm_stays : values_of realm with_both.request ≡ Text one.realm ∷ []
  realm_stays = edit_leaves realm user_edit with_realm.request refl ∙ realm_is

  pub user_is : values_of stripped_user_name with_both.request ≡ Text one.user ∷ []
  user_is = edit-set (pair_of user_edit) with_realm.request

  pub user_stays : values_of stripped_user_name with_realm.request ≡ values_of stripped_user_name lists.request
  user_stays = edit_leaves stripped_user_name realm_edit lists.request refl

-- ---- the laws

module _ (realms : List Realm) (format : RealmFormat) (d : ℕ) (lists : PairLists) (user : List ℕ) (one : Realm) (is : IsOfRealm realms format d lists user one) where
  abbrev done : PairLists × Code
  done = named (found realms format d lists) lists

  found_done : done ≡ named (Some (found_as user one)) lists
  found_done = ap (λ (f : Option Found). named f lists) (found_one realms format d lists user one is)

  by_strip : (b : Bool) → one.nostrip ≡ b → done ≡ cond b (with_realm (found_as user one) lists is.room, code.Ok) (with_both (found_as user one) lists is.room, code.Ok)
  by_strip true whole = found_done ∙ whole_done (found_as user one) lists is.room whole
  by_strip false parts = found_done ∙ parted_done (found_as user one) lists is.room parts

  pub answers_ok : done.1 ≡ code.Ok
  answers_ok = ok one.nostrip refl
    where
      ok : (b : Bool) → one.nostrip ≡ b → done.1 ≡ code.Ok
      ok true whole = ap (λ (r : PairLists × Code). r.1) (by_strip true whole)
      ok false parts = ap (λ (r : PairLists × Code). r.1) (by_strip false parts)

  pub has_its_realm : values_of realm done.0.request ≡ Text one.name ∷ []
  has_its_realm = has one.nostrip refl
    where
      has : (b : Bool) → one.nostrip ≡ b → values_of realm done.0.request ≡ Text one.name ∷ []
      has true whole = ap (λ (r : PairLists × Code). values_of realm r.0.request) (by_strip true whole) ∙ realm_is (found_as user one) lists is.room
      has false parts = ap (λ (r : PairLists × Code). values_of realm r.0.request) (by_strip false parts) ∙ realm_stays (found_as user one) lists is.room

  pub has_its_user : one.nostrip ≡ false → values_of stripped_user_name done.0.request ≡ Text user ∷ []
  has_its_user parts = ap (λ (r : PairLists × Code). values_of stripped_user_name r.0.request) (by_strip false parts) ∙ user_is (found_as user one) lists is.room

  pub stays_whole : one.nostrip ≡ true → values_of stripped_user_name done.0.request ≡ values_of stripped_user_name lists.request
  stays_whole whole = ap (λ (r : PairLists × Code). values_of stripped_user_name r.0.request) (by_strip true whole) ∙ user_stays (found_as user one) lists is.room
