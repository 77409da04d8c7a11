-- `pap` and `chap` keep everything but Auth-Type of the control list.
use Rattle.std.proofs.Common.{ℕ, Bool, true, false, cond, List, refl}
use Rattle.rad_words.specs.declared.codes.Code.{Code}
use Rattle.rad_words.specs.declared.codes.Code.TheVariants as code
use Rattle.rad_words.specs.declared.sections.Section.{Section}
use Rattle.rad_words.specs.declared.sections.Section.TheVariants as section
use Rattle.rad_value.specs.declared.edits.ListName.TheVariants.{Control}
use Rattle.rad_value.specs.declared.scope.Scope.{Scope}
use Rattle.rad_value.specs.PairLists.{PairLists}
use Rattle.mod_base.specs.Situation.{Situation}
use Rattle.mod_base.specs.Meaning.{IsLawful}
use Rattle.mod_lists.specs.Edits.{text_set, edit_or_fail}
use Rattle.mod_lists.specs.Done.{done_to_lists}
use Rattle.mod_lists.proofs.Kept.{Keeps, keeps_alone, edit_or_fail_keeps, lawful_lists}
use Rattle.mod_auth.specs.Attributes.{auth_type}
use Rattle.mod_auth.specs.Pap as pap
use Rattle.mod_auth.specs.Chap as chap

auth_type_keeps : (name : List ℕ) (answer : Code) (lists : PairLists) → Keeps pap.auth_type_alone lists (edit_or_fail (text_set Control auth_type name) (λ edited. (edited, answer)) lists).0
auth_type_keeps name answer lists =
    edit_or_fail_keeps pap.auth_type_alone (text_set Control auth_type name) refl (λ edited. (edited, answer)) (λ edited. keeps_alone pap.auth_type_alone edited) lists

by_test : (idle : Bool) (name : List ℕ) (answer : Code) (lists : PairLists)
    → Keeps pap.auth_type_alone lists (cond idle (lists, code.Noop) (edit_or_fail (text_set Control auth_type name) (λ edited. (edited, answer)) lists)).0
by_test true name answer lists = keeps_alone pap.auth_type_alone lists
by_test false name answer lists = auth_type_keeps name answer lists

pap_keeps : (name : List ℕ) (method : Section) (lists : PairLists) → Keeps pap.auth_type_alone lists (pap.pap_done name method lists).0
pap_keeps name section.Authorize lists = by_test (pap.is_idle lists) name code.Updated lists
pap_keeps name section.Authenticate lists = keeps_alone pap.auth_type_alone lists
pap_keeps name section.Session lists = keeps_alone pap.auth_type_alone lists
pap_keeps name section.Preacct lists = keeps_alone pap.auth_type_alone lists
pap_keeps name section.Accounting lists = keeps_alone pap.auth_type_alone lists
pap_keeps name section.PostAuth lists = keeps_alone pap.auth_type_alone lists

chap_keeps : (name : List ℕ) (method : Section) (authenticator : List ℕ) (lists : PairLists) → Keeps pap.auth_type_alone lists (chap.chap_done name method authenticator lists).0
chap_keeps name section.Authorize authenticator lists = by_test (chap.is_idle lists) name code.Ok lists
chap_keeps name section.Authenticate authenticator lists = keeps_alone pap.auth_type_alone lists
chap_keeps name section.Session authenticator lists = keeps_alone pap.auth_type_alone lists
chap_keeps name section.Preacct authenticator lists = keeps_alone pap.auth_type_alone lists
chap_keeps name section.Accounting authenticator lists = keeps_alone pap.auth_type_alone lists
chap_keeps name section.PostAuth authenticator lists = keeps_alone pap.auth_type_alone lists

pub pap_is_lawful : (name : List ℕ) (method : Section) (situation : Situation)
    → IsLawful pap.auth_type_alone method situation (done_to_lists (λ (scope : Scope). pap.pap_done name method scope.lists) situation).0
pap_is_lawful name method situation =
    lawful_lists pap.auth_type_alone method (λ (scope : Scope). pap.pap_done name method scope.lists) situation (pap_keeps name method situation.scope.lists)

pub chap_is_lawful : (name : List ℕ) (method : Section) (situation : Situation)
    → IsLawful pap.auth_type_alone method situation (done_to_lists (λ (scope : Scope). chap.chap_done name method scope.authenticator scope.lists) situation).0
chap_is_lawful name method situation =
    lawful_lists pap.auth_type_alone method (λ (scope : Scope). chap.chap_done name method scope.authenticator scope.lists) situation
    (chap_keeps name method situation.scope.authenticator situation.scope.lists)
