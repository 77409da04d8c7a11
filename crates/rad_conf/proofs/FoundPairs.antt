-- The last pair of a name is found by the name's key.
use Rattle.std.proofs.Common.{◌≡◌, ℕ, suc, Bool, true, false, cond, List, [], ◌∷◌, ◌++◌, reverse, Option, Some, None, option_map, refl, sym, ap, ◌∙◌, eq-eqb, arith}
use Rattle.std.specs.Option.{option_and_then}
use Rattle.std.specs.List.{slice_get}
use Rattle.std.specs.Str.{bytes_eq}
use Rattle.std.proofs.lemmas.List.{reverse-append}
use Rattle.std.proofs.lemmas.Slice.Eq.{bytes_eq-Decides}
use Rattle.std.proofs.lemmas.Grind.{common_steps}
use Rattle.rad_conf.specs.declared.tree.Node.{Node}
use Rattle.rad_conf.specs.declared.tree.Item.{out-Item}
use Rattle.rad_conf.specs.declared.tree.Item.TheOpen as level
use Rattle.rad_conf.specs.Tree.{Layer}
use Rattle.rad_conf.specs.Places.{key_of, pair_key, is_key, later, last_place}
use Rattle.rad_conf.specs.Variables.{or_else, pair_value, first_value, last_value}

or_assoc : (a b c : Option (List ℕ)) → or_else (or_else a b) c ≡ or_else a (or_else b c)
or_assoc None b c = refl
or_assoc (Some x) b c = refl

or_none : (a : Option (List ℕ)) → or_else a None ≡ a
or_none None = refl
or_none (Some x) = refl

first_append : (name : List ℕ) (xs ys : List Node) → first_value name (xs ++ ys) ≡ or_else (first_value name xs) (first_value name ys)
unfolding first_value
first_append name [] ys = refl
first_append name (x ∷ xs) ys = ap (λ (rest : Option (List ℕ)). or_else (pair_value name x) rest) (first_append name xs ys) ∙ sym (or_assoc (pair_value name x) (first_value name xs) (first_value name ys))

first_one : (name : List ℕ) (x : Node) → first_value name (x ∷ []) ≡ pair_value name x
unfolding first_value
first_one name x = or_none (pair_value name x)

first_none : (name : List ℕ) → first_value name [] ≡ None
unfolding first_value
first_none name = refl

last_cons : (name : List ℕ) (x : Node) (xs : List Node) → last_value name (x ∷ xs) ≡ or_else (last_value name xs) (pair_value name x)
last_cons name x xs =
    ap (λ (all : List Node). first_value name all) (reverse-append (x ∷ []) xs) ∙ first_append name (reverse xs) (x ∷ [])
    ∙ ap (λ (last : Option (List ℕ)). or_else (first_value name (reverse xs)) last) (first_one name x)

abbrev layer_value : List ℕ → Layer → Option (List ℕ)
layer_value name (level.Pair left operator right) = cond (bytes_eq left.text name) (Some right.text) None
layer_value name (level.Name word) = None
layer_value name (level.Block kind called body) = None

abbrev layer_key : Layer → Option ℕ
layer_key (level.Pair left operator right) = Some (key_of left.text)
layer_key (level.Name word) = None
layer_key (level.Block kind called body) = None

no_value : (name : List ℕ) (layer : Layer) → is_key (key_of name) (layer_key layer) ≡ false → layer_value name layer ≡ None
no_value name (level.Pair left operator right) e = grind (arith, common_steps, bytes_eq-Decides left.text name, eq-eqb (key_of left.text) (key_of name))
no_value name (level.Name word) e = refl
no_value name (level.Block kind called body) e = refl

abbrev Finds : List ℕ → List Node → Option ℕ → Type 0
Finds name nodes None = last_value name nodes ≡ None
Finds name nodes (Some place) = (node : Node) × (slice_get nodes place ≡ Some node) × ((value : List ℕ) → pair_value name node ≡ Some value → last_value name nodes ≡ Some value)

one_more : (name : List ℕ) (x : Node) (xs : List Node) (found : Option ℕ) (b : Bool) → is_key (key_of name) (pair_key x) ≡ b → Finds name xs found → Finds name (x ∷ xs) (later (cond b (Some 0) None) (option_map suc found))
one_more name x xs (Some place) b e (node, there, value) = (node, there, λ v is. last_cons name x xs ∙ rw (value v is) refl)
one_more name x xs None true e none = (x, refl, λ v is. last_cons name x xs ∙ rw (none, is) refl)
one_more name x xs None false e none = last_cons name x xs ∙ rw none (no_value name (out-Item x.item) e)

finds : (name : List ℕ) (nodes : List Node) → Finds name nodes (last_place (key_of name) nodes)
unfolding last_place
finds name [] = first_none name
finds name (x ∷ xs) = one_more name x xs (last_place (key_of name) xs) (is_key (key_of name) (pair_key x)) refl (finds name xs)

none_by : (name : List ℕ) (nodes : List Node) (place : Option ℕ) → Finds name nodes place → option_and_then (slice_get nodes) place ≡ None → last_value name nodes ≡ None
none_by name nodes None found e = found
none_by name nodes (Some place) (node, there, value) e = absurd cc

some_by : (name : List ℕ) (nodes : List Node) (place : Option ℕ) (node : Node) (value : List ℕ) → Finds name nodes place → option_and_then (slice_get nodes) place ≡ Some node → pair_value name node ≡ Some value → last_value name nodes ≡ Some value
some_by name nodes None node value found e is = absurd cc
some_by name nodes (Some place) node value (one, there, has) e is =
    let same : one ≡ node = cc in has value (ap (pair_value name) same ∙ is)

pub none_found : (name : List ℕ) (nodes : List Node) → option_and_then (slice_get nodes) (last_place (key_of name) nodes) ≡ None → last_value name nodes ≡ None
none_found name nodes e = none_by name nodes (last_place (key_of name) nodes) (finds name nodes) e

pub some_found : (name : List ℕ) (nodes : List Node) (node : Node) (value : List ℕ) → option_and_then (slice_get nodes) (last_place (key_of name) nodes) ≡ Some node → pair_value name node ≡ Some value → last_value name nodes ≡ Some value
some_found name nodes node value e is = some_by name nodes (last_place (key_of name) nodes) node value (finds name nodes) e is
