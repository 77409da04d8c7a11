-- Edits within a frame keep what is outside it.
use Rattle.std.specs.Prelude.{filter, not, length}
use Rattle.std.proofs.Common.{◌≡◌, Bool, true, false, cond, List, [], Option, Some, None, refl, sym, ap, ◌∙◌}
use Rattle.std.proofs.lemmas.List.{append-nil}
use Rattle.std.proofs.Math.Seq.{take-nil}
use Rattle.rad_words.specs.declared.attributes.AttrId.{AttrId}
use Rattle.rad_words.specs.declared.codes.Code.{Code}
use Rattle.rad_words.specs.declared.sections.Section.{Section}
use Rattle.rad_value.specs.declared.edits.Edit.{Edit}
use Rattle.rad_value.specs.declared.edits.ListName.{ListName}
use Rattle.rad_value.specs.declared.edits.ListName.TheVariants.{Request, Reply, Control}
use Rattle.rad_value.specs.declared.scope.Scope.{Scope}
use Rattle.rad_value.specs.declared.values.Pair.{Pair}
use Rattle.rad_value.specs.Edit.{tried, edited, lists_edited, is_full, pair_of}
use Rattle.rad_value.specs.Pairs.{is_of}
use Rattle.rad_value.specs.PairLists.{PairLists, list_of, with_list}
use Rattle.rad_value.proofs.EditLaws.{edit-others}
use Rattle.rad_dict.proofs.Lookups.{same_attr_is}
use Rattle.mod_base.specs.Situation.{Situation}
use Rattle.mod_base.specs.Meaning.{outside, IsLawful}
use Rattle.mod_base.proofs.Frames.{filter_within}
use Rattle.mod_lists.specs.Edits.{after_edit, edit_or_fail}
use Rattle.mod_lists.specs.Done.{done_to_lists}

-- what is outside a frame is the same in these lists
abbrev pub Keeps : (ListName → AttrId → Bool) → PairLists → PairLists → Type 0
Keeps edits before now = (list : ListName) → outside edits list now ≡ outside edits list before

other_attr : (edits : ListName → AttrId → Bool) (named : ListName) (attr : AttrId) → edits named attr ≡ true → (pair : Pair) → (b : Bool) → is_of attr pair ≡ b → not (edits named pair.attr) ≡ true → not b ≡ true
other_attr edits named attr within pair false is free = refl
other_attr edits named attr within pair true is free = absurd (let same = same_attr_is pair.attr attr is in let yes : edits named pair.attr ≡ true = rw same within in let no : not true ≡ true = rw yes at free in cc)

in_list : (edits : ListName → AttrId → Bool) (edit : Edit) → edits edit.list edit.attr ≡ true → (pairs : List Pair)
    → filter (λ (p : Pair). not (edits edit.list p.attr)) (edited pairs edit) ≡ filter (λ (p : Pair). not (edits edit.list p.attr)) pairs
in_list edits edit within pairs =
    let kept : (Pair → Bool) = λ (p : Pair). not (edits edit.list p.attr) in
    let others : (Pair → Bool) = λ (p : Pair). not (is_of edit.attr p) in
    let free : (p : Pair) → kept p ≡ true → others p ≡ true = λ p. other_attr edits edit.list edit.attr within p (is_of edit.attr p) refl in
    filter_within kept others free (edited pairs edit)
    ∙ ap (filter kept) (edit-others edit.op (pair_of edit) pairs)
    ∙ sym (filter_within kept others free pairs)

of_list : (edits : ListName → AttrId → Bool) (lists : PairLists) (named : ListName) (pairs : List Pair)
    → filter (λ (p : Pair). not (edits named p.attr)) pairs ≡ filter (λ (p : Pair). not (edits named p.attr)) (list_of lists named)
    → Keeps edits lists (with_list lists named pairs)
of_list edits lists Request pairs same Request = same
of_list edits lists Request pairs same Reply = refl
of_list edits lists Request pairs same Control = refl
of_list edits lists Reply pairs same Request = refl
of_list edits lists Reply pairs same Reply = same
of_list edits lists Reply pairs same Control = refl
of_list edits lists Control pairs same Request = refl
of_list edits lists Control pairs same Reply = refl
of_list edits lists Control pairs same Control = same

edit_keeps : (edits : ListName → AttrId → Bool) (edit : Edit) → edits edit.list edit.attr ≡ true → (lists : PairLists) → Keeps edits lists (lists_edited lists edit)
edit_keeps edits edit within lists =
    of_list edits lists edit.list (edited (list_of lists edit.list) edit) (in_list edits edit within (list_of lists edit.list))

which_lists : (t : Bool) (done lists : PairLists) → cond t None (Some done) ≡ Some lists → lists ≡ done
which_lists true done lists is = absurd (cc)
which_lists false done lists is = cc

tried_lists : (before : PairLists) (edit : Edit) (lists : PairLists) → tried before edit ≡ Some lists → lists ≡ lists_edited before edit
unfolding tried
tried_lists before edit lists is = which_lists (is_full edit.op edit.attr (list_of before edit.list)) (lists_edited before edit) lists is

pub keeps_alone : (edits : ListName → AttrId → Bool) (lists : PairLists) → Keeps edits lists lists
keeps_alone edits lists list = refl

after_edit_keeps : (edits : ListName → AttrId → Bool) (edit : Edit) → edits edit.list edit.attr ≡ true → (next : PairLists → PairLists × Code) → ((lists : PairLists) → Keeps edits lists (next lists).0)
    → (lists : PairLists) (t : Option PairLists) → tried lists edit ≡ t → Keeps edits lists (after_edit lists next t).0
after_edit_keeps edits edit within next more lists None is list = refl
after_edit_keeps edits edit within next more lists (Some done) is list =
    more done list
    ∙ ap (λ (l : PairLists). outside edits list l) (tried_lists lists edit done is)
    ∙ edit_keeps edits edit within lists list

-- an edit within the frame, and what is done next, keep what is outside
pub edit_or_fail_keeps : (edits : ListName → AttrId → Bool) (edit : Edit) → edits edit.list edit.attr ≡ true → (next : PairLists → PairLists × Code) → ((lists : PairLists) → Keeps edits lists (next lists).0)
    → (lists : PairLists) → Keeps edits lists (edit_or_fail edit next lists).0
edit_or_fail_keeps edits edit within next more lists = after_edit_keeps edits edit within next more lists (tried lists edit) refl

-- what keeps the pairs outside a frame, and changes the lists alone, is lawful
pub lawful_lists : (edits : ListName → AttrId → Bool) (method : Section) (does : Scope → PairLists × Code) (situation : Situation)
    → Keeps edits situation.scope.lists (does situation.scope).0 → IsLawful edits method situation (done_to_lists does situation).0
lawful_lists edits method does situation keeps = record {
  added = [];
  makes = record {
    effects = sym (append-nil situation.effects);
    answers = refl;
    used = take-nil (length situation.answers);
    sessions = refl;
  };
  scope = record {
    pairs = keeps;
    loops = refl;
    last = refl;
    choices = refl;
    from = refl;
    moment = refl;
    luck = refl;
    authenticator = refl;
  };
  sessions = λ other. refl;
}
