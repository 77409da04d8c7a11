-- What the module `attr_filter` means. After the manual page rlm_attr_filter(5).
use Rattle.std.specs.Prelude.{ℕ, ◌&&◌, Bool, true, false, List, [], ◌∷◌}
use Rattle.std.specs.List.{list_any}
use Rattle.rad_words.specs.declared.attributes.AttrId.{AttrId}
use Rattle.rad_words.specs.Attribute.{same_attr}
use Rattle.rad_words.specs.declared.codes.Code.{Code}
use Rattle.rad_words.specs.declared.codes.Code.TheVariants as code
use Rattle.rad_words.specs.declared.sections.Section.{Section}
use Rattle.rad_words.specs.declared.sections.Section.TheVariants as section
use Rattle.rad_value.specs.declared.edits.ListName.{ListName}
use Rattle.rad_value.specs.declared.edits.ListName.TheVariants.{Request, Reply, Control}
use Rattle.rad_value.specs.declared.scope.Scope.{Scope}
use Rattle.rad_value.specs.PairLists.{PairLists}
use Rattle.rad_dict.specs.Definitions.{Definitions}
use Rattle.rad_pairs.specs.declared.items.Item.{Item}
use Rattle.unlang_xlat.specs.declared.part.Part.{Part}
use Rattle.unlang_xlat.specs.Texts.{expanded}
use Rattle.mod_users.specs.declared.entry.Entry.{Entry}
use Rattle.mod_filter.specs.declared.attr_filter.AttrFilter.{AttrFilter}
use Rattle.mod_filter.specs.Filter.{is_set, filter_done}

-- The entries of a module.
abbrev pub users_of : AttrFilter → List Entry
users_of m = m.users

-- The key of a module.
abbrev pub key_of : AttrFilter → List Part
key_of m = m.key

-- The module of a filter file's entries and of a key.
abbrev pub filter_by : List Entry → List Part → AttrFilter
filter_by users key = record { users = users; key = key }

-- It has a method for authorize, preacct, accounting and post-auth.
abbrev pub filter_methods : List Bool
filter_methods = true ∷ false ∷ false ∷ true ∷ true ∷ true ∷ []

-- Its frame: any pair of the request and of the reply, since all may leave.
abbrev pub filter_edits : ListName → AttrId → Bool
filter_edits Request attr = true
filter_edits Reply attr = true
filter_edits Control attr = false

-- What it makes of the lists in a section, for a key: authorize and preacct filter the request, accounting and post-auth the
-- reply. It has no method for the others, which do nothing with it.
abbrev pub filter_for : List Entry → List ℕ → Definitions → Section → PairLists → PairLists × Code
filter_for users key dict section.Authorize lists = filter_done users key dict Request lists
filter_for users key dict section.Authenticate lists = (lists, code.Noop)
filter_for users key dict section.Session lists = (lists, code.Noop)
filter_for users key dict section.Preacct lists = filter_done users key dict Request lists
filter_for users key dict section.Accounting lists = filter_done users key dict Reply lists
filter_for users key dict section.PostAuth lists = filter_done users key dict Reply lists

-- What it does in a section: its key is expanded once, in the scope of the call.
abbrev pub filter_in : AttrFilter → Definitions → Section → Scope → PairLists × Code
filter_in m dict method scope = filter_for (users_of m) (expanded scope dict (key_of m)) dict method scope.lists

-- An item writes an attribute.
abbrev pub writes : AttrId → Item → Bool
writes attr item = is_set item.op && same_attr attr item.attr

-- Some entry of a module has an item that writes an attribute, `ATTRIBUTE := VALUE`.
unfoldable pub filter_writes : List Entry → AttrId → Bool
filter_writes users attr = list_any (λ (entry : Entry). list_any (writes attr) entry.replies) users
