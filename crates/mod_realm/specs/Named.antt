-- What the module `realm` does: a user's name is parted, and its realm is found among those of the site. After FreeRADIUS'
-- rlm_realm(5).
use Rattle.std.specs.Prelude.{ℕ, Bool, true, false, ◌||◌, List, [], ◌∷◌, Option, Some, None, if◌then◌else◌}
use Rattle.std.specs.Option.{is_some, option_map, option_and_then}
use Rattle.rad_words.specs.declared.attributes.AttrId.{AttrId}
use Rattle.rad_words.specs.Attribute.{same_attr}
use Rattle.rad_words.specs.declared.codes.Code.{Code}
use Rattle.rad_words.specs.declared.codes.Code.TheVariants as code
use Rattle.rad_words.specs.declared.sections.Section.{Section}
use Rattle.rad_words.specs.declared.sections.Section.TheVariants as section
use Rattle.rad_value.specs.declared.edits.ListName.{ListName}
use Rattle.rad_value.specs.declared.edits.ListName.TheVariants.{Request, Reply, Control}
use Rattle.rad_value.specs.Pairs.{first_value, first_text}
use Rattle.rad_value.specs.PairLists.{PairLists}
use Rattle.mod_lists.specs.Edits.{text_set, edit_or_fail}
use Rattle.mod_realm.specs.declared.parting.RealmFormat.{RealmFormat}
use Rattle.mod_realm.specs.declared.realm_module.Found.{Found}
use Rattle.mod_realm.specs.Attributes.{user_name, realm, stripped_user_name}
use Rattle.mod_realm.specs.Parting.{parted}
use Rattle.mod_realm.specs.Realms.{Realm, realm_for}

-- The sections for which it has a method: authorize and preacct.
abbrev pub realm_methods : List Bool
realm_methods = true ∷ false ∷ false ∷ true ∷ false ∷ false ∷ []

-- Its frame: Realm and Stripped-User-Name of the request.
abbrev pub realm_edits : ListName → AttrId → Bool
realm_edits Request attr = same_attr attr realm || same_attr attr stripped_user_name
realm_edits Reply attr = false
realm_edits Control attr = false

-- A realm that was found for a user.
abbrev pub found_as : List ℕ → Realm → Found
found_as user one = record { realm = one.name; nostrip = one.nostrip; user = user }

-- What a name says: its user, and the realm as it is configured, or DEFAULT.
abbrev pub found_in : List Realm → RealmFormat → ℕ → List ℕ → Option Found
found_in realms format delimiter name = option_map (found_as (parted format delimiter name).0) (realm_for realms (parted format delimiter name).1)

-- Whether the request has a Realm.
abbrev pub has_realm : PairLists → Bool
has_realm lists = is_some (first_value realm lists.request)

-- What the request's User-Name says, where the request has no Realm yet.
abbrev pub found : List Realm → RealmFormat → ℕ → PairLists → Option Found
found realms format delimiter lists = if has_realm lists then None else option_and_then (found_in realms format delimiter) (first_text user_name lists.request)

-- Stripped-User-Name becomes the user, but for a realm that keeps names whole.
abbrev pub stripped : Found → PairLists → PairLists × Code
stripped one lists = if one.nostrip then (lists, code.Ok) else edit_or_fail (text_set Request stripped_user_name one.user) (λ edited. (edited, code.Ok)) lists

-- Realm becomes the realm that was found, and then Stripped-User-Name the user.
abbrev pub named : Option Found → PairLists → PairLists × Code
named None lists = (lists, code.Noop)
named (Some one) lists = edit_or_fail (text_set Request realm one.realm) (stripped one) lists

-- What it does in a section. It has no method for the others than authorize and preacct, which do nothing with it.
abbrev pub realm_done : List Realm → RealmFormat → ℕ → Section → PairLists → PairLists × Code
realm_done realms format delimiter section.Authorize lists = named (found realms format delimiter lists) lists
realm_done realms format delimiter section.Authenticate lists = (lists, code.Noop)
realm_done realms format delimiter section.Session lists = (lists, code.Noop)
realm_done realms format delimiter section.Preacct lists = named (found realms format delimiter lists) lists
realm_done realms format delimiter section.Accounting lists = (lists, code.Noop)
realm_done realms format delimiter section.PostAuth lists = (lists, code.Noop)
