-- Auth-Type stays another than `Accept` where nothing can bring it there.
use Rattle.std.specs.Prelude.{filter, not, slice_get}
use Rattle.std.specs.List.{AllByRecursion}
use Rattle.std.specs.Option.{option_and_then}
use Rattle.std.proofs.Common.{◌≡◌, ℕ, Bool, true, false, cond, ◌&&◌, List, [], ◌∷◌, ◌++◌, Option, Some, None, refl, sym, ap, subst, ◌∙◌}
use Rattle.rad_words.specs.declared.attributes.AttrId.{AttrId}
use Rattle.rad_words.specs.declared.codes.Code.{Code}
use Rattle.rad_words.specs.declared.codes.Code.TheVariants as code
use Rattle.rad_words.specs.declared.sections.Section.{Section}
use Rattle.rad_words.specs.declared.sections.Section.TheVariants as section
use Rattle.rad_words.specs.Attribute.{same_attr}
use Rattle.rad_value.specs.declared.edits.Edit.{Edit}
use Rattle.rad_value.specs.declared.edits.EditOp.{EditOp}
use Rattle.rad_value.specs.declared.edits.EditOp.TheVariants as op
use Rattle.rad_value.specs.declared.edits.ListName.{ListName}
use Rattle.rad_value.specs.declared.edits.ListName.TheVariants.{Request, Reply, Control}
use Rattle.rad_value.specs.declared.values.Pair.{Pair}
use Rattle.rad_value.specs.declared.values.Value.{Value}
use Rattle.rad_value.specs.Comparison.{is_equal}
use Rattle.rad_value.specs.declared.scope.Scope.{Scope}
use Rattle.rad_value.specs.Edit.{has_attr, edited_by, tried, lists_edited}
use Rattle.rad_value.specs.Pairs.{values_of, text_of, first_text}
use Rattle.rad_value.specs.PairLists.{PairLists, list_of, with_list, same_list}
use Rattle.rad_value.proofs.EditLaws.{edit-added, edit-appended, edit-cleared, edit-kept, edit-removed, edit-set}
use Rattle.rad_dict.specs.Definitions.{Definitions}
use Rattle.rad_dict.proofs.Lookups.{same_attr_is}
use Rattle.mod_base.specs.Situation.{Situation}
use Rattle.mod_base.proofs.Frames.{values_stay}
use Rattle.mod_lists.specs.Edits.{text_set, after_edit, edit_or_fail}
use Rattle.mod_auth.specs.declared.pap.Pap.{Pap}
use Rattle.mod_auth.specs.declared.chap.Chap.{Chap}
use Rattle.mod_auth.specs.Pap as pap
use Rattle.mod_auth.specs.Chap as chap
use Rattle.unlang_code.specs.Leaves.{Leaf, Calls, Edits, module_done, LeafKeeps}
use Rattle.unlang_tree.specs.declared.update.Line.{Line}
use Rattle.unlang_tree.specs.declared.update.Right.{Right}
use Rattle.unlang_tree.specs.declared.update.Right.TheVariants as right
use Rattle.unlang_code.specs.declared.update.Said.{Said}
use Rattle.unlang_code.specs.declared.update.Said.TheVariants as said
use Rattle.unlang_code.specs.Updates.{said_by, edit_of, done_with}
use Rattle.rad_modules.specs.declared.site_module.SiteModule.{SiteModule}
use Rattle.rad_modules.specs.declared.site_module.SiteModule.TheVariants as site
use Rattle.rad_access.specs.Attributes.{auth_type}
use Rattle.rad_access.proofs.Editing.{other_edit, tried_keeps, by_said}
use Rattle.rad_modules.specs.SiteModules.{site_module}
use Rattle.rad_modules.specs.SiteLaws.{site_module_lawful}
use Rattle.rad_access.specs.Passwords.{is_accept, is_accept_value, edit_accepts, right_accepts, module_accepts, call_accepts, leaf_accepts}

abbrev IsOther : Value → Type 0
IsOther value = is_accept_value value ≡ false

-- No Auth-Type of the control list is `Accept`.
abbrev pub Never : PairLists → Type 0
Never lists = AllByRecursion IsOther (values_of auth_type lists.control)

all_and_one : (values : List Value) (value : Value) → AllByRecursion IsOther values → IsOther value → AllByRecursion IsOther (values ++ value ∷ [])
all_and_one [] value all one = (one, tt)
all_and_one (first ∷ values) value all one = (all.0, all_and_one values value all.1 one)

some_of_all : (test : Value → Bool) (values : List Value) → AllByRecursion IsOther values → AllByRecursion IsOther (filter test values)
some_of_all test [] all = tt
some_of_all test (value ∷ values) all =
    elim (test value) as (λ b. AllByRecursion IsOther (cond b (value ∷ filter test values) (filter test values))) [
      | true ↦ (all.0, some_of_all test values all.1)
      | false ↦ some_of_all test values all.1
    ]

-- an edit of the attribute, by another value
own_edit : (o : EditOp) (pair : Pair) (pairs : List Pair) → IsOther pair.value → AllByRecursion IsOther (values_of pair.attr pairs) → AllByRecursion IsOther (values_of pair.attr (edited_by o pair pairs))
own_edit op.AddIfNone pair pairs other all =
    subst (AllByRecursion IsOther) (sym (edit-added pair pairs))
    (elim (has_attr pair.attr pairs) as (λ b. AllByRecursion IsOther (cond b (values_of pair.attr pairs) (pair.value ∷ []))) [
      | true ↦ all
      | false ↦ (other, tt)
    ])
own_edit op.Set pair pairs other all = subst (AllByRecursion IsOther) (sym (edit-set pair pairs)) (other, tt)
own_edit op.Append pair pairs other all = subst (AllByRecursion IsOther) (sym (edit-appended pair pairs)) (all_and_one (values_of pair.attr pairs) pair.value all other)
own_edit op.Remove pair pairs other all = subst (AllByRecursion IsOther) (sym (edit-removed pair pairs)) (some_of_all (λ v. not (is_equal v pair.value)) (values_of pair.attr pairs) all)
own_edit op.RemoveAll pair pairs other all = subst (AllByRecursion IsOther) (sym (edit-cleared pair pairs)) tt
own_edit op.Keep pair pairs other all = subst (AllByRecursion IsOther) (sym (edit-kept pair pairs)) (some_of_all (λ v. is_equal v pair.value) (values_of pair.attr pairs) all)

by_attr : (b : Bool) (o : EditOp) (pair : Pair) (pairs : List Pair) → same_attr auth_type pair.attr ≡ b → (b && is_accept_value pair.value) ≡ false → AllByRecursion IsOther (values_of auth_type pairs)
    → AllByRecursion IsOther (values_of auth_type (edited_by o pair pairs))
by_attr true o pair pairs own other all =
    let same : auth_type ≡ pair.attr = same_attr_is auth_type pair.attr own in
    subst (λ (attr : AttrId). AllByRecursion IsOther (values_of attr (edited_by o pair pairs))) (sym same)
    (own_edit o pair pairs other (subst (λ (attr : AttrId). AllByRecursion IsOther (values_of attr pairs)) same all))
by_attr false o pair pairs own other all = subst (AllByRecursion IsOther) (sym (other_edit auth_type o pair pairs own)) all

by_list : (list : ListName) (attr : AttrId) (o : EditOp) (value : Value) (lists : PairLists) → edit_accepts (record { list = list; attr = attr; op = o; value = value }) ≡ false → Never lists
    → Never (with_list lists list (edited_by o (record { attr = attr; value = value }) (list_of lists list)))
by_list Request attr o value lists other all = all
by_list Reply attr o value lists other all = all
by_list Control attr o value lists other all = by_attr (same_attr auth_type attr) o (record { attr = attr; value = value }) lists.control refl other all

edit_never : (edit : Edit) (lists : PairLists) → edit_accepts edit ≡ false → Never lists → Never (lists_edited lists edit)
edit_never edit lists other all = by_list edit.list edit.attr edit.op edit.value lists other all

-- a line of an update
none_of_both : (a b c : Bool) → (a && b && true) ≡ false → (a && b && c) ≡ false
none_of_both true true c is = absurd (cc)
none_of_both true false c is = refl
none_of_both false b c is = refl

by_value : (line : Line) (s : Said) (scope : Scope) → ((v : Value) → s ≡ said.Value v → edit_accepts (edit_of line v) ≡ false) → Never scope.lists → Never (done_with line s scope).0.lists
by_value line s scope other all = by_said Never line s scope (λ v is now. edit_never (edit_of line v) scope.lists (other v is) now) all

by_right : (line : Line) (dict : Definitions) (scope : Scope) (r : Right) → (same_list line.list Control && same_attr auth_type line.attr.id && right_accepts r) ≡ false → Never scope.lists
    → Never (done_with line (said_by dict line.attr r scope) scope).0.lists
by_right line dict scope (right.Value value) other all =
    by_value line (said.Value value) scope (λ v is. let same : value ≡ v = cc in subst (λ (w : Value). edit_accepts (edit_of line w) ≡ false) same other) all
by_right line dict scope (right.Reference reference) other all =
    by_value line (said_by dict line.attr (right.Reference reference) scope) scope
    (λ v is. none_of_both (same_list line.list Control) (same_attr auth_type line.attr.id) (is_accept_value v) other) all
by_right line dict scope (right.Expansion parts) other all =
    by_value line (said_by dict line.attr (right.Expansion parts) scope) scope
    (λ v is. none_of_both (same_list line.list Control) (same_attr auth_type line.attr.id) (is_accept_value v) other) all

-- a module that sets Auth-Type to its own name
set_or_fail : (edit : Edit) (answer : Code) (lists : PairLists) (t : Option PairLists) → edit_accepts edit ≡ false → tried lists edit ≡ t → Never lists → Never (after_edit lists (λ edited. (edited, answer)) t).0
set_or_fail edit answer lists None other is all = all
set_or_fail edit answer lists (Some next) other is all = tried_keeps Never edit lists next (edit_never edit lists other) is all

named_never : (name : List ℕ) (answer : Code) (idle : Bool) (lists : PairLists) → is_accept name ≡ false → Never lists
    → Never (cond idle (lists, code.Noop) (edit_or_fail (text_set Control auth_type name) (λ edited. (edited, answer)) lists)).0
named_never name answer true lists other all = all
named_never name answer false lists other all =
    let edit = text_set Control auth_type name in
    set_or_fail edit answer lists (tried lists edit) other refl all

pap_never : (name : List ℕ) (method : Section) (lists : PairLists) → is_accept name ≡ false → Never lists → Never (pap.pap_done name method lists).0
pap_never name section.Authorize lists other all = named_never name code.Updated (pap.is_idle lists) lists other all
pap_never name section.Authenticate lists other all = all
pap_never name section.Session lists other all = all
pap_never name section.Preacct lists other all = all
pap_never name section.Accounting lists other all = all
pap_never name section.PostAuth lists other all = all

chap_never : (name : List ℕ) (method : Section) (authenticator : List ℕ) (lists : PairLists) → is_accept name ≡ false → Never lists → Never (chap.chap_done name method authenticator lists).0
chap_never name section.Authorize authenticator lists other all = named_never name code.Ok (chap.is_idle lists) lists other all
chap_never name section.Authenticate authenticator lists other all = all
chap_never name section.Session authenticator lists other all = all
chap_never name section.Preacct authenticator lists other all = all
chap_never name section.Accounting authenticator lists other all = all
chap_never name section.PostAuth authenticator lists other all = all

-- what a module's frame doesn't have
framed_never : (m : SiteModule) (dict : Definitions) (kind : Section) (s : Situation) → site_module.edits m Control auth_type ≡ false → Never s.scope.lists → Never (site_module.does m dict kind s).0.scope.lists
framed_never m dict kind s free all =
    subst (AllByRecursion IsOther) (sym (values_stay (site_module.edits m) kind s (site_module.does m dict kind s).0 Control auth_type (site_module_lawful m dict kind s) free)) all

module_never : (m : SiteModule) (dict : Definitions) (kind : Section) (s : Situation) → module_accepts m ≡ false → Never s.scope.lists → Never (site_module.does m dict kind s).0.scope.lists
module_never (site.Always m) dict kind s other all = all
module_never (site.Files m) dict kind s other all = framed_never (site.Files m) dict kind s other all
module_never (site.Pap m) dict kind s other all = pap_never m.name kind s.scope.lists other all
module_never (site.Chap m) dict kind s other all = chap_never m.name kind s.scope.authenticator s.scope.lists other all
module_never (site.Realm m) dict kind s other all = framed_never (site.Realm m) dict kind s refl all
module_never (site.Filter m) dict kind s other all = framed_never (site.Filter m) dict kind s refl all

call_never : (m : Option SiteModule) (dict : Definitions) (kind : Section) (s : Situation) → call_accepts m ≡ false → Never s.scope.lists → Never (module_done site_module dict kind m s).scope.lists
call_never None dict kind s other all = all
call_never (Some m) dict kind s other all = module_never m dict kind s other all

module _ (stack : List SiteModule) (dict : Definitions) (kind : Section) where
  leaf_never : (leaf : Leaf) → leaf_accepts stack leaf ≡ false → LeafKeeps Never site_module stack dict kind leaf
  leaf_never (Calls call) other s all = call_never (slice_get stack call.instance) dict kind s other all
  leaf_never (Edits line) other s all = by_right line dict s.scope line.right other all

  pub leaves_never : (leaves : List Leaf) → AllByRecursion (λ leaf. leaf_accepts stack leaf ≡ false) leaves → AllByRecursion (LeafKeeps Never site_module stack dict kind) leaves
  leaves_never [] all = tt
  leaves_never (leaf ∷ leaves) all = (leaf_never leaf all.0, leaves_never leaves all.1)

-- the first Auth-Type is none or another
by_text : (value : Value) (t : Option (List ℕ)) (name : List ℕ) → text_of value ≡ t → t ≡ Some name → IsOther value → is_accept name ≡ false
by_text value None name at is other = absurd (cc)
by_text value (Some text) name at is other =
    let same : text ≡ name = cc in
    subst (λ n. is_accept n ≡ false) same (sym (ap (λ (o : Option (List ℕ)). elim o as (λ _. Bool) [ None ↦ false | Some found ↦ is_accept found ]) at) ∙ other)

first_of : (values : List Value) (name : List ℕ) → AllByRecursion IsOther values → option_and_then text_of (slice_get values 0) ≡ Some name → is_accept name ≡ false
first_of [] name all is = absurd (cc)
first_of (value ∷ values) name all is = by_text value (text_of value) name refl is all.0

pub first_is_other : (lists : PairLists) (name : List ℕ) → Never lists → first_text auth_type lists.control ≡ Some name → is_accept name ≡ false
first_is_other lists name all is = first_of (values_of auth_type lists.control) name all is
