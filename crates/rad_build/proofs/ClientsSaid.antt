-- A client that was read is what its block says.
use Rattle.std.specs.Prelude.{codes, find}
use Rattle.std.specs.Option.{is_none, is_some, option_map, option_or, option_and_then}
use Rattle.std.specs.Str.{bytes_eq}
use Rattle.std.proofs.lemmas.Slice.Eq.{bytes_eq-Decides}
use Rattle.std.proofs.Common.{◌≡◌, ℕ, Bool, true, false, cond, ◌&&◌, List, [], ◌∷◌, Option, Some, None, Result, Ok, Err, refl, sym, ap, subst, ◌∙◌}
use Rattle.rad_outside.specs.declared.files.Place.{Place}
use Rattle.rad_conf.specs.declared.tree.Node.{Node}
use Rattle.rad_conf.specs.declared.tree.Item.{out-Item}
use Rattle.rad_conf.specs.declared.tree.Item.TheOpen as level
use Rattle.rad_conf.specs.Tree.{Layer}
use Rattle.rad_packet.specs.declared.client.Client.{Client}
use Rattle.rad_clients.specs.declared.written.Network.{Network}
use Rattle.rad_clients.specs.Written.{network_of}
use Rattle.rad_build.specs.declared.fault.BuildFault.{BuildFault}
use Rattle.rad_build.specs.declared.client.Settings.{Settings}
use Rattle.rad_build.specs.Nodes.{◌>>=◌, refused, formed, after_each}
use Rattle.rad_build.specs.Items.{is_assignment, pair_of, set_by, setting_of, is_pair_of, pair_named, named_block}
use Rattle.rad_build.specs.ClientBlock.{secret_value, no_settings, is_unbuilt, with_pair, with_setting, client_at}
use Rattle.rad_build.specs.ClientsSaid.{set_to, set_in, client_of_parts, client_by, said_client}
use Rattle.rad_build.proofs.Saying.{behind, given, same_ok}

-- One of two is kept where there is one, and else the other is set.
kept : {A : Type 0} (o : Option A) → o ≡ option_or o None
kept None = refl
kept (Some x) = refl

-- The settings of a client behind a pair, by whether it sets the network, or the secret, and to what.
record Sets (next : Settings) (a : Bool) (x n : Option Network) (b : Bool) (y s : Option (List ℕ)) : Type 0 where
  network : next.network ≡ option_or n (cond a x None)
  secret : next.secret ≡ option_or s (cond b y None)
  network_is : a ≡ true → n ≡ None → is_some x ≡ true
  secret_is : b ≡ true → s ≡ None → is_some y ≡ true

abbrev both : Option Network → Option (List ℕ) → Settings
both n s = record { network = n; secret = s }

abbrev read_pair : Place → List ℕ → Bool → Bool → Bool → Option Network → Option (List ℕ) → Option Network → Option (List ℕ) → Result Settings BuildFault
read_pair place name a b u x y n s =
    cond (a && is_none n) (formed place name x >>= λ v. Ok (both (Some v) s))
    (cond (b && is_none s) (formed place name y >>= λ v. Ok (both n (Some v)))
    (cond u (refused place) (Ok (both n s))))

ends : (n : Option Network) (s : Option (List ℕ)) (next : Settings) → given (both n s) ≡ given next → (next.network ≡ n) × (next.secret ≡ s)
ends n s next is = let same = same_ok (both n s) next is in (ap (λ (k : Settings). k.network) same, ap (λ (k : Settings). k.secret) same)

pair_sets : (place : Place) (name : List ℕ) (a b u : Bool) (x : Option Network) (y : Option (List ℕ)) (n : Option Network) (s : Option (List ℕ)) (next : Settings)
    → (a ≡ true → b ≡ false) → read_pair place name a b u x y n s ≡ Ok next → Sets next a x n b y s
pair_sets place name true true u x y n s next apart is = absurd (let no = apart refl in cc)
pair_sets place name true false u None y None s next apart is = absurd (cc)
pair_sets place name true false u (Some v) y None s next apart is =
    let e = ends (Some v) s next is in record { network = e.0; secret = e.1 ∙ kept s; network_is = λ yes none. refl; secret_is = λ yes none. absurd (cc) }
pair_sets place name true false true x y (Some m) s next apart is = absurd (cc)
pair_sets place name true false false x y (Some m) s next apart is =
    let e = ends (Some m) s next is in record { network = e.0; secret = e.1 ∙ kept s; network_is = λ yes none. absurd (cc); secret_is = λ yes none. absurd (cc) }
pair_sets place name false true u x None n None next apart is = absurd (cc)
pair_sets place name false true u x (Some w) n None next apart is =
    let e = ends n (Some w) next is in record { network = e.0 ∙ kept n; secret = e.1; network_is = λ yes none. absurd (cc); secret_is = λ yes none. refl }
pair_sets place name false true true x y n (Some w) next apart is = absurd (cc)
pair_sets place name false true false x y n (Some w) next apart is =
    let e = ends n (Some w) next is in record { network = e.0 ∙ kept n; secret = e.1; network_is = λ yes none. absurd (cc); secret_is = λ yes none. absurd (cc) }
pair_sets place name false false true x y n s next apart is = absurd (cc)
pair_sets place name false false false x y n s next apart is =
    let e = ends n s next is in record { network = e.0 ∙ kept n; secret = e.1 ∙ kept s; network_is = λ yes none. absurd (cc); secret_is = λ yes none. absurd (cc) }

-- a name is one of the two at most
not_both : (text : List ℕ) → bytes_eq text (codes "ipaddr") ≡ true → bytes_eq text (codes "secret") ≡ false
not_both text is = ap (λ (t : List ℕ). bytes_eq t (codes "secret")) ((bytes_eq-Decides text (codes "ipaddr")).0 is)

-- What an item sets a name to.
abbrev names : List ℕ → Layer → Bool
names name item = elim item as (λ _. Bool) [
  | level.Pair left operator right ↦ bytes_eq left.text name
  | level.Name word ↦ false
  | level.Block kind label body ↦ false
]

abbrev written : Layer → Option (List ℕ × List ℕ)
written item = elim item as (λ _. Option (List ℕ × List ℕ)) [
  | level.Pair left operator right ↦ cond (is_assignment operator) (Some (left.text, right.text)) None
  | level.Name word ↦ None
  | level.Block kind label body ↦ None
]

abbrev sets : {A : Type 0} → (List ℕ → Option A) → Layer → Option A
sets form item = option_and_then (λ (setting : List ℕ × List ℕ). form setting.1) (written item)

same_set : {A : Type 0} (form : List ℕ → Option A) (left right : List ℕ) (b : Bool)
    → cond b (form right) None ≡ option_and_then (λ (setting : List ℕ × List ℕ). form setting.1) (cond b (Some (left, right)) None)
same_set form left right true = refl
same_set form left right false = refl

abbrev SetsBy : Settings → Settings → Layer → Type 0
SetsBy known next item = Sets next (names (codes "ipaddr") item) (sets network_of item) known.network (names (codes "secret") item) (sets secret_value item) known.secret

abbrev setting_at : Settings → Place → Layer → Result Settings BuildFault
setting_at known place item = elim (elim item as (λ _. Option (List ℕ × List ℕ × List ℕ)) [
  | level.Pair left operator right ↦ Some (left.text, operator, right.text)
  | level.Name word ↦ None
  | level.Block kind label body ↦ None
]) as (λ _. Result Settings BuildFault) [ None ↦ Ok known | Some pair ↦ with_pair known place pair.0 pair.1 pair.2 ]

passed : (known next : Settings) → given known ≡ given next → Sets next false None known.network false None known.secret
passed known next is =
    let same = same_ok known next is in
    record { network = ap (λ (k : Settings). k.network) same ∙ kept known.network; secret = ap (λ (k : Settings). k.secret) same ∙ kept known.secret; network_is = λ yes none. absurd (cc); secret_is = λ yes none. absurd (cc) }

item_sets : (known next : Settings) (place : Place) (item : Layer) → setting_at known place item ≡ Ok next → SetsBy known next item
unfolding with_pair
item_sets known next place (level.Pair left operator right) is =
    let a = bytes_eq left.text (codes "ipaddr") in
    let b = bytes_eq left.text (codes "secret") in
    let read = pair_sets place left.text a b (is_unbuilt left.text) (set_by operator (network_of right.text)) (set_by operator (secret_value right.text)) known.network known.secret next (not_both left.text) is in
    subst (λ (x : Option Network). Sets next a x known.network b (sets secret_value (level.Pair left operator right)) known.secret) (same_set network_of left.text right.text (is_assignment operator))
    (subst (λ (y : Option (List ℕ)). Sets next a (set_by operator (network_of right.text)) known.network b y known.secret) (same_set secret_value left.text right.text (is_assignment operator)) read)
item_sets known next place (level.Name word) is = passed known next is
item_sets known next place (level.Block kind label body) is = passed known next is

setting_sets : (known next : Settings) (node : Node) → with_setting known node ≡ Ok next → SetsBy known next (out-Item node.item)
setting_sets known next node is = item_sets known next node.place (out-Item node.item) is

-- the first pair of a name counts
first_counts : {A : Type 0} (a : Bool) (x rest n : Option A) → (a ≡ true → n ≡ None → is_some x ≡ true) → option_or (option_or n (cond a x None)) rest ≡ option_or n (cond a x rest)
first_counts a x rest (Some v) is = refl
first_counts false x rest None is = refl
first_counts true (Some v) rest None is = refl
first_counts true None rest None is = absurd (let no = is refl refl in cc)

spread : {A : Type 0} (form : List ℕ → Option A) (a : Bool) (node : Node) (rest : Option Node) → cond a (set_to form node) (option_and_then (set_to form) rest) ≡ option_and_then (set_to form) (cond a (Some node) rest)
spread form true node rest = refl
spread form false node rest = refl

record Known (last : Settings) (network : Option Network) (secret : Option (List ℕ)) : Type 0 where
  of_network : last.network ≡ network
  of_secret : last.secret ≡ secret

settings_said : (known last : Settings) (items : List Node) → after_each with_setting known items ≡ Ok last
    → Known last (option_or known.network (set_in network_of (codes "ipaddr") items)) (option_or known.secret (set_in secret_value (codes "secret") items))
unfolding after_each
settings_said known last [] is =
    let same = same_ok known last is in
    record { of_network = ap (λ (k : Settings). k.network) same ∙ kept known.network; of_secret = ap (λ (k : Settings). k.secret) same ∙ kept known.secret }
settings_said known last (node ∷ items) is =
    behind (with_setting known node) (λ next. after_each with_setting next items) last is (λ next now later.
    let one = setting_sets known next node now in
    let rest = settings_said next last items later in
    let networks = set_in network_of (codes "ipaddr") items in
    let secrets = set_in secret_value (codes "secret") items in
    record {
      of_network = rest.of_network
          ∙ ap (λ (o : Option Network). option_or o networks) one.network
          ∙ first_counts (is_pair_of (codes "ipaddr") node) (set_to network_of node) networks known.network one.network_is
          ∙ ap (option_or known.network) (spread network_of (is_pair_of (codes "ipaddr") node) node (pair_named (codes "ipaddr") items));
      of_secret = rest.of_secret
          ∙ ap (λ (o : Option (List ℕ)). option_or o secrets) one.secret
          ∙ first_counts (is_pair_of (codes "secret") node) (set_to secret_value node) secrets known.secret one.secret_is
          ∙ ap (option_or known.secret) (spread secret_value (is_pair_of (codes "secret") node) node (pair_named (codes "secret") items));
    })

-- what was of its form
form_of : {A : Type 0} (place : Place) (name : List ℕ) (o : Option A) (x : A) → formed place name o ≡ Ok x → o ≡ Some x
form_of place name None x is = absurd (cc)
form_of {A = A} place name (Some y) x is = ap (λ (z : A). Some z) (sym (same_ok y x is))

client_parts : (name : List ℕ) (n : Option Network) (s : Option (List ℕ)) (network : Network) (secret : List ℕ) → n ≡ Some network → s ≡ Some secret
    → option_and_then (λ (one : Network). option_map (client_of_parts name one) s) n ≡ Some (client_of_parts name network secret)
client_parts name n s network secret is of =
    ap (λ (o : Option Network). option_and_then (λ (one : Network). option_map (client_of_parts name one) s) o) is ∙ ap (option_map (client_of_parts name network)) of

block_said : (place : Place) (block : List ℕ × List Node) (client : Client)
    → (after_each with_setting no_settings block.1 >>= λ known. formed place (codes "ipaddr") known.network >>= λ network. formed place (codes "secret") known.secret >>= λ secret. Ok (client_of_parts block.0 network secret)) ≡ Ok client
    → client_by block ≡ Some client
block_said place block client is =
    behind (after_each with_setting no_settings block.1) (λ known. formed place (codes "ipaddr") known.network >>= λ network. formed place (codes "secret") known.secret >>= λ secret. Ok (client_of_parts block.0 network secret)) client is (λ known now later.
    behind (formed place (codes "ipaddr") known.network) (λ network. formed place (codes "secret") known.secret >>= λ secret. Ok (client_of_parts block.0 network secret)) client later (λ network its rest.
    behind (formed place (codes "secret") known.secret) (λ secret. Ok (client_of_parts block.0 network secret)) client rest (λ secret own last.
    let said = settings_said no_settings known block.1 now in
    client_parts block.0 (set_in network_of (codes "ipaddr") block.1) (set_in secret_value (codes "secret") block.1) network secret
    (sym said.of_network ∙ form_of place (codes "ipaddr") known.network network its)
    (sym said.of_secret ∙ form_of place (codes "secret") known.secret secret own)
    ∙ ap (λ (c : Client). Some c) (sym (same_ok (client_of_parts block.0 network secret) client last)))))

-- A client that was read is the one that its block says there is.
pub client_said : (node : Node) (client : Client) → client_at node ≡ Ok client → said_client node ≡ Some client
unfolding client_at
client_said node client is = by_name (named_block node) is where
  by_name : (block : Option (List ℕ × List Node))
      → (formed node.place (codes "client") block >>= λ one. after_each with_setting no_settings one.1 >>= λ known. formed node.place (codes "ipaddr") known.network >>= λ network. formed node.place (codes "secret") known.secret >>= λ secret. Ok (client_of_parts one.0 network secret)) ≡ Ok client
      → option_and_then client_by block ≡ Some client
  by_name None wrong = absurd (cc)
  by_name (Some block) now = block_said node.place block client now
