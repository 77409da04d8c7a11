-- What the module `pap` does: a password that the request carries is compared with the one that is known. After FreeRADIUS'
-- rlm_pap(5).
use Rattle.std.specs.Prelude.{ℕ, Bool, true, false, ◌||◌, List, [], ◌∷◌, Option, Some, None, if◌then◌else◌}
use Rattle.std.specs.Option.{is_none, is_some}
use Rattle.rad_words.specs.declared.attributes.AttrId.{AttrId}
use Rattle.rad_words.specs.Attribute.{same_attr}
use Rattle.rad_words.specs.declared.codes.Code.{Code}
use Rattle.rad_words.specs.declared.codes.Code.TheVariants as code
use Rattle.rad_words.specs.declared.sections.Section.{Section}
use Rattle.rad_words.specs.declared.sections.Section.TheVariants as section
use Rattle.rad_value.specs.declared.edits.ListName.{ListName}
use Rattle.rad_value.specs.declared.edits.ListName.TheVariants.{Request, Reply, Control}
use Rattle.rad_value.specs.declared.values.Pair.{Pair}
use Rattle.rad_value.specs.Pairs.{first_value, first_text}
use Rattle.rad_value.specs.PairLists.{PairLists}
use Rattle.mod_lists.specs.Edits.{text_set, edit_or_fail}
use Rattle.mod_auth.specs.Attributes.{user_password, auth_type}
use Rattle.mod_auth.specs.Known.{known_password}
use Rattle.mod_auth.specs.Password.{compared}

-- The sections for which `pap` and `chap` have a method: authorize and authenticate.
abbrev pub pap_methods : List Bool
pap_methods = true ∷ true ∷ false ∷ false ∷ false ∷ false ∷ []

-- The frame of `pap` and `chap`: Auth-Type of the control list alone.
abbrev pub auth_type_alone : ListName → AttrId → Bool
auth_type_alone Request attr = false
auth_type_alone Reply attr = false
auth_type_alone Control attr = same_attr attr auth_type

-- The password that a request came with: the text of its first User-Password.
abbrev pub given_password : PairLists → Option (List ℕ)
given_password lists = first_text user_password lists.request

-- Auth-Type is set already, or there is nothing to compare.
abbrev pub is_idle : PairLists → Bool
is_idle lists = is_some (first_value auth_type lists.control) || is_none (given_password lists) || is_none (known_password lists)

-- In authorize it sets Auth-Type to the instance's name, where there is a password to compare.
abbrev pub authorized : List ℕ → PairLists → PairLists × Code
authorized name lists = if is_idle lists then (lists, code.Noop) else edit_or_fail (text_set Control auth_type name) (λ edited. (edited, code.Updated)) lists

-- A password is compared with the pair by which it is known, where there is one.
abbrev pub against : List ℕ → Option Pair → Code
against password None = code.Fail
against password (Some known) = compared password known

-- In authenticate the password is compared. A missing or empty one is invalid.
abbrev pub answered : Option (List ℕ) → Option Pair → Code
answered None known = code.Invalid
answered (Some []) known = code.Invalid
answered (Some (c ∷ more)) known = against (c ∷ more) known

-- What it answers in authenticate.
abbrev pub authenticated : PairLists → Code
authenticated lists = answered (given_password lists) (known_password lists)

-- What an instance of this name does in a section. It has no method for the other sections, which do nothing with it.
abbrev pub pap_done : List ℕ → Section → PairLists → PairLists × Code
pap_done name section.Authorize lists = authorized name lists
pap_done name section.Authenticate lists = (lists, authenticated lists)
pap_done name section.Session lists = (lists, code.Noop)
pap_done name section.Preacct lists = (lists, code.Noop)
pap_done name section.Accounting lists = (lists, code.Noop)
pap_done name section.PostAuth lists = (lists, code.Noop)
