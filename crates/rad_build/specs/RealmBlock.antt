-- The realms of a site, `realm NAME { nostrip }` at the top. After FreeRADIUS' proxy.conf and the manual page radiusd.conf(5);
-- that a name stands once, case aside, is this project's own.
use Rattle.std.specs.Prelude.{ℕ, Bool, true, false, not, ◌&&◌, List, [], ◌∷◌, ◌++◌, Result, Ok, codes, if◌then◌else◌}
use Rattle.std.specs.List.{list_any}
use Rattle.std.specs.Option.{is_some}
use Rattle.std.specs.Str.{bytes_eq}
use Rattle.rad_outside.specs.declared.files.Place.{Place}
use Rattle.rad_conf.specs.declared.tree.Node.{Node}
use Rattle.rad_conf.specs.declared.tree.Item.{out-Item}
use Rattle.rad_conf.specs.declared.tree.Item.TheOpen as level
use Rattle.mod_realm.specs.declared.realms.Realm.{Realm}
use Rattle.mod_realm.specs.Realms.{realm_of}
use Rattle.rad_build.specs.declared.fault.BuildFault.{BuildFault}
use Rattle.rad_build.specs.Nodes.{◌>>=◌, refused, bad_setting, formed, after_each}
use Rattle.rad_build.specs.Items.{is_block, named_block}

-- The settings by which a realm's requests are sent to another server, which isn't built.
abbrev pub proxy_settings : List (List ℕ)
proxy_settings = codes "authhost" ∷ codes "accthost" ∷ codes "host" ∷ codes "pool" ∷ codes "auth_pool" ∷ codes "acct_pool" ∷ []

-- Whether a pair of this name is such a setting.
abbrev pub is_proxied : List ℕ → Bool
is_proxied name = list_any (bytes_eq name) proxy_settings

-- Whether names stay whole after one more pair. `nostrip` is a name alone: a pair of that name is refused, unless the name
-- stood before. Other settings are passed over.
unfoldable pub with_pair : Bool → Place → List ℕ → Result Bool BuildFault
with_pair nostrip place name =
    if is_proxied name then refused place
    else (if bytes_eq name (codes "nostrip") && not nostrip then bad_setting place name else Ok nostrip)

-- Whether names stay whole after one more item of a realm's block. Other names alone, and blocks, are passed over.
unfoldable pub with_setting : Bool → Node → Result Bool BuildFault
with_setting nostrip node = elim (out-Item node.item) [
  | level.Pair left operator right ↦ with_pair nostrip node.place left.text
  | level.Name word ↦ Ok (if bytes_eq word.text (codes "nostrip") then true else nostrip)
  | level.Block kind name body ↦ Ok nostrip
]

-- The realms with one more by this name: a second one of the name, case aside, is refused by it before its settings are looked
-- at.
unfoldable pub with_named : List Realm → Place → List ℕ → List Node → Result (List Realm) BuildFault
with_named known place name items =
    if is_some (realm_of known name) then bad_setting place name
    else (after_each with_setting false items >>= λ nostrip. Ok (known ++ record { name = name; nostrip = nostrip } ∷ []))

-- The realms with that of a block, which must have a name.
unfoldable pub with_realm : List Realm → Node → Result (List Realm) BuildFault
with_realm known node = formed node.place (codes "realm") (named_block node) >>= λ block. with_named known node.place block.0 block.1

-- The realms after one more item of the top: one that is no realm is passed over.
unfoldable pub with_item : List Realm → Node → Result (List Realm) BuildFault
with_item known node = if is_block (codes "realm") node then with_realm known node else Ok known

-- The realms of a whole configuration, in order.
abbrev pub realms_in : List Node → Result (List Realm) BuildFault
realms_in nodes = after_each with_item [] nodes
