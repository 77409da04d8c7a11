-- `realm` keeps everything but Realm and Stripped-User-Name of the request.
use Rattle.std.proofs.Common.{ℕ, Bool, true, false, cond, List, Option, Some, None, refl}
use Rattle.rad_words.specs.declared.codes.Code.TheVariants as code
use Rattle.rad_words.specs.declared.sections.Section.{Section}
use Rattle.rad_words.specs.declared.sections.Section.TheVariants as section
use Rattle.rad_value.specs.declared.edits.ListName.TheVariants.{Request}
use Rattle.rad_value.specs.declared.scope.Scope.{Scope}
use Rattle.rad_value.specs.PairLists.{PairLists}
use Rattle.mod_base.specs.Situation.{Situation}
use Rattle.mod_base.specs.Meaning.{IsLawful}
use Rattle.mod_lists.specs.Edits.{text_set, edit_or_fail}
use Rattle.mod_lists.specs.Done.{done_to_lists}
use Rattle.mod_lists.proofs.Kept.{Keeps, keeps_alone, edit_or_fail_keeps, lawful_lists}
use Rattle.mod_realm.specs.declared.parting.RealmFormat.{RealmFormat}
use Rattle.mod_realm.specs.declared.realm_module.Found.{Found}
use Rattle.mod_realm.specs.Attributes.{realm, stripped_user_name}
use Rattle.mod_realm.specs.Realms.{Realm}
use Rattle.mod_realm.specs.Named.{realm_edits, found, stripped, named, realm_done}

user_keeps : (nostrip : Bool) (user : List ℕ) (lists : PairLists)
    → Keeps realm_edits lists (cond nostrip (lists, code.Ok) (edit_or_fail (text_set Request stripped_user_name user) (λ edited. (edited, code.Ok)) lists)).0
user_keeps true user lists = keeps_alone realm_edits lists
user_keeps false user lists = edit_or_fail_keeps realm_edits (text_set Request stripped_user_name user) refl (λ edited. (edited, code.Ok)) (λ edited. keeps_alone realm_edits edited) lists

named_keeps : (one : Option Found) (lists : PairLists) → Keeps realm_edits lists (named one lists).0
named_keeps None lists = keeps_alone realm_edits lists
named_keeps (Some one) lists = edit_or_fail_keeps realm_edits (text_set Request realm one.realm) refl (stripped one) (λ edited. user_keeps one.nostrip one.user edited) lists

realm_keeps : (realms : List Realm) (format : RealmFormat) (delimiter : ℕ) (method : Section) (lists : PairLists) → Keeps realm_edits lists (realm_done realms format delimiter method lists).0
realm_keeps realms format delimiter section.Authorize lists = named_keeps (found realms format delimiter lists) lists
realm_keeps realms format delimiter section.Authenticate lists = keeps_alone realm_edits lists
realm_keeps realms format delimiter section.Session lists = keeps_alone realm_edits lists
realm_keeps realms format delimiter section.Preacct lists = named_keeps (found realms format delimiter lists) lists
realm_keeps realms format delimiter section.Accounting lists = keeps_alone realm_edits lists
realm_keeps realms format delimiter section.PostAuth lists = keeps_alone realm_edits lists

pub realm_is_lawful : (realms : List Realm) (format : RealmFormat) (delimiter : ℕ) (method : Section) (situation : Situation)
    → IsLawful realm_edits method situation (done_to_lists (λ (scope : Scope). realm_done realms format delimiter method scope.lists) situation).0
realm_is_lawful realms format delimiter method situation =
    lawful_lists realm_edits method (λ (scope : Scope). realm_done realms format delimiter method scope.lists) situation (realm_keeps realms format delimiter method situation.scope.lists)
