-- The realms of a site are what its blocks say, each under a name of its own.
use Rattle.std.specs.Prelude.{map, filter, codes, not, if◌then◌else◌}
use Rattle.std.specs.List.{list_any}
use Rattle.std.specs.Option.{is_some, option_map}
use Rattle.std.specs.Str.{bytes_eq}
use Rattle.std.proofs.Common.{◌≡◌, ℕ, Bool, true, false, cond, ◌&&◌, ◌||◌, List, [], ◌∷◌, ◌++◌, Option, Some, None, Result, Ok, Err, refl, sym, ap, subst, ◌∙◌}
use Rattle.rad_outside.specs.declared.files.Place.{Place}
use Rattle.rad_conf.specs.declared.tree.Node.{Node}
use Rattle.rad_conf.specs.declared.tree.Item.{out-Item}
use Rattle.rad_conf.specs.declared.tree.Item.TheOpen as level
use Rattle.rad_conf.specs.Tree.{Layer}
use Rattle.mod_realm.specs.declared.realms.Realm.{Realm}
use Rattle.mod_realm.specs.Realms.{realm_of}
use Rattle.rad_build.specs.declared.fault.BuildFault.{BuildFault}
use Rattle.rad_build.specs.declared.fault.BuildFault.TheVariants as fault
use Rattle.unlang_tree.specs.declared.fault.TreeFault.TheVariants as tree
use Rattle.rad_build.specs.Nodes.{◌>>=◌, bad_setting, formed, after_each}
use Rattle.rad_build.specs.Items.{is_block, named_block}
use Rattle.rad_build.specs.RealmBlock.{is_proxied, with_pair, with_setting, with_named, with_realm, with_item, realms_in}
use Rattle.rad_build.specs.Said.{AreNew}
use Rattle.rad_build.proofs.Saying.{behind, past, same_ok, none_is, Adds, Says, all_said}
use Rattle.rad_build.specs.RealmsSaid.{is_nostrip_item, is_nostrip, realm_by, said_of, is_realm_block, HasAnotherName}

or_false : (b : Bool) → (b || false) ≡ b
or_false true = refl
or_false false = refl

or_joined : (a b c : Bool) → ((a || b) || c) ≡ (a || (b || c))
or_joined true b c = refl
or_joined false b c = refl

-- whether names stay whole
pair_said : (known : Bool) (place : Place) (name : List ℕ) (b : Bool) → with_pair known place name ≡ Ok b → b ≡ (known || false)
unfolding with_pair
pair_said known place name b is =
    let other = past (is_proxied name) (fault.Tree (tree.NotBuilt place)) (if bytes_eq name (codes "nostrip") && not known then bad_setting place name else Ok known) b is in
    let last = past (bytes_eq name (codes "nostrip") && not known) (fault.BadSetting place name) (Ok known) b other.1 in
    same_ok known b last.1 ∙ sym (or_false known)

name_said : (named known : Bool) (b : Bool) → b ≡ cond named true known → b ≡ (known || named)
name_said true true b is = is
name_said true false b is = is
name_said false true b is = is
name_said false false b is = is

abbrev setting_at : Bool → Place → Layer → Result Bool BuildFault
setting_at known place item = elim item [
  | level.Pair left operator right ↦ with_pair known place left.text
  | level.Name word ↦ Ok (if bytes_eq word.text (codes "nostrip") then true else known)
  | level.Block kind name body ↦ Ok known
]

item_said : (known : Bool) (place : Place) (item : Layer) (b : Bool) → setting_at known place item ≡ Ok b → b ≡ (known || is_nostrip_item item)
item_said known place (level.Pair left operator right) b is = pair_said known place left.text b is
item_said known place (level.Name word) b is =
    name_said (bytes_eq word.text (codes "nostrip")) known b (same_ok (if bytes_eq word.text (codes "nostrip") then true else known) b is)
item_said known place (level.Block kind name body) b is = same_ok known b is ∙ sym (or_false known)

setting_said : (known : Bool) (node : Node) (b : Bool) → with_setting known node ≡ Ok b → b ≡ (known || is_nostrip node)
unfolding with_setting
setting_said known node b is = item_said known node.place (out-Item node.item) b is

settings_said : (known : Bool) (items : List Node) (b : Bool) → after_each with_setting known items ≡ Ok b → b ≡ (known || list_any is_nostrip items)
unfolding after_each
settings_said known [] b is = same_ok known b is ∙ sym (or_false known)
settings_said known (node ∷ items) b is =
    behind (with_setting known node) (λ next. after_each with_setting next items) b is (λ next now later.
    settings_said next items b later
    ∙ ap (λ n. n || list_any is_nostrip items) (setting_said known node next now)
    ∙ or_joined known (is_nostrip node) (list_any is_nostrip items))

-- one more realm
named_said : (known : List Realm) (place : Place) (name : List ℕ) (items : List Node) (realms : List Realm) → with_named known place name items ≡ Ok realms
    → Adds HasAnotherName known (Some (realm_by (name, items))) realms
unfolding with_named
named_said known place name items realms is =
    let free = past (is_some (realm_of known name)) (fault.BadSetting place name) (after_each with_setting false items >>= λ nostrip. Ok (known ++ record { name = name; nostrip = nostrip } ∷ [])) realms is in
    behind (after_each with_setting false items) (λ nostrip. Ok (known ++ record { name = name; nostrip = nostrip } ∷ [])) realms free.1 (λ nostrip now later. record {
      one = realm_by (name, items);
      is_said = refl;
      joined = same_ok (known ++ record { name = name; nostrip = nostrip } ∷ []) realms later
          ∙ ap (λ (b : Bool). known ++ record { name = name; nostrip = b } ∷ []) (settings_said false items nostrip now);
      new = none_is (realm_of known name) free.0;
    })

block_said : (known : List Realm) (place : Place) (block : Option (List ℕ × List Node)) (realms : List Realm)
    → (formed place (codes "realm") block >>= λ b. with_named known place b.0 b.1) ≡ Ok realms → Adds HasAnotherName known (option_map realm_by block) realms
block_said known place None realms is = absurd (cc)
block_said known place (Some block) realms is = named_said known place block.0 block.1 realms is

realm_said : (known : List Realm) (node : Node) (realms : List Realm) → with_realm known node ≡ Ok realms → Adds HasAnotherName known (said_of node) realms
unfolding with_realm
realm_said known node realms is = block_said known node.place (named_block node) realms is

-- all realms
all_realms : (nodes : List Node) (realms : List Realm) → realms_in nodes ≡ Ok realms → Says HasAnotherName said_of [] (filter is_realm_block nodes) realms
unfolding with_item
all_realms nodes realms is = all_said HasAnotherName said_of is_realm_block with_realm with_item (λ known node. refl) (λ node known all one. realm_said known node all one) [] nodes realms is

pub said_by_blocks : (nodes : List Node) (realms : List Realm) → realms_in nodes ≡ Ok realms → map (λ (one : Realm). Some one) realms ≡ map said_of (filter is_realm_block nodes)
said_by_blocks nodes realms is = let all = all_realms nodes realms is in ap (λ (rs : List Realm). map (λ (one : Realm). Some one) rs) all.joined ∙ all.said

pub are_new : (nodes : List Node) (realms : List Realm) → realms_in nodes ≡ Ok realms → AreNew HasAnotherName [] realms
are_new nodes realms is = let all = all_realms nodes realms is in subst (AreNew HasAnotherName []) (sym all.joined) all.new
