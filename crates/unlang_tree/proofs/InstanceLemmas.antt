-- What a map of instances finds is what their list finds.
use Rattle.std.proofs.Common.{◌≡◌, ℕ, suc, ◌+◌, ◌<◌, ◌≤◌, Bool, true, false, cond, not, nat_lt, if◌then◌else◌, is_some, lt-ltb, le-ltb, List, [], ◌∷◌, ◌++◌, map, length, position, Option, Some, None, Ok, Err, true≢false, refl, sym, ap, ◌∙◌}
use Rattle.std.specs.List.{position_or_len}
use Rattle.std.specs.Map.{keys_of}
use Rattle.std.specs.Str.{bytes_eq}
use Rattle.std.specs.declared.vec.Vec.{Vec}
use Rattle.std.specs.declared.alloc.Global.{Global}
use Rattle.indexmap.specs.IndexMap.{IndexMap, get, get_by, insert_entry}
use Rattle.indexmap.proofs.CallerLemmas.{insert_entry-new}
use Rattle.mod_base.specs.declared.method_set.MethodSet.{MethodSet}
use Rattle.unlang_tree.specs.declared.fault.AddFault.TheVariants as fault
use Rattle.unlang_tree.specs.Instances.{Instance, instance_of, is_named, number_of, number_for}

abbrev Entries : Type 0
Entries = List (Vec ℕ Global × MethodSet)

abbrev is_key : List ℕ → Vec ℕ Global → Bool
is_key name key = bytes_eq name key.items

same_place : (name : List ℕ) (es : Entries) → position_or_len (is_key name) (keys_of es) ≡ position_or_len (is_named name) (map instance_of es)
same_place name [] = refl
same_place name (e ∷ es) = ap (λ n. cond (not (bytes_eq name e.0.items)) (1 + n) 0) (same_place name es)

same_length : (es : Entries) → length (keys_of es) ≡ length (map instance_of es)
same_length [] = refl
same_length (e ∷ es) = ap suc (same_length es)

pub length_seen : (es : Entries) → length (map instance_of es) ≡ length es
length_seen [] = refl
length_seen (e ∷ es) = ap suc (length_seen es)

-- the index of a name among the keys is the number of the instance
pub key_is_number : (name : List ℕ) (es : Entries) → position (is_key name) (keys_of es) ≡ number_of (map instance_of es) name
key_is_number name es =
    ap (λ n. cond (nat_lt n (length (keys_of es))) (Some n) None) (same_place name es)
    ∙ ap (λ l. cond (nat_lt (position_or_len (is_named name) (map instance_of es)) l) (Some (position_or_len (is_named name) (map instance_of es))) None) (same_length es)

-- one instance more is one more at the end
pub seen_push : (es : Entries) (k : Vec ℕ Global) (methods : MethodSet) (name : List ℕ) → k.items ≡ name
    → map instance_of (es ++ (k, methods) ∷ []) ≡ map instance_of es ++ record { name = name; methods = methods } ∷ []
seen_push [] k methods name e = ap (λ (n : List ℕ). let one : Instance = record { name = n; methods = methods } in one ∷ []) e
seen_push (x ∷ xs) k methods name e = ap (λ l. instance_of x ∷ l) (seen_push xs k methods name e)

-- what is due, from what a look at the map says
pub due_taken : (instances : List Instance) (name : List ℕ) (found : Bool) → found ≡ is_some (number_of instances name) → found ≡ true → number_for instances name ≡ Err fault.Taken
unfolding number_for
due_taken instances name found is e =
    ap (λ b. if b then Err fault.Taken else (if nat_lt (length instances) 1024 then Ok (length instances) else Err (fault.Full 1024))) (sym is ∙ e)

pub due_full : (instances : List Instance) (name : List ℕ) (found : Bool) → found ≡ is_some (number_of instances name) → found ≡ false → 1024 ≤ length instances → number_for instances name ≡ Err (fault.Full 1024)
unfolding number_for
due_full instances name found is e full =
    ap (λ b. if b then Err fault.Taken else (if nat_lt (length instances) 1024 then Ok (length instances) else Err (fault.Full 1024))) (sym is ∙ e)
    ∙ ap (λ b. if b then Ok (length instances) else Err (fault.Full 1024)) (le-ltb _ _ full)

pub due_number : (instances : List Instance) (name : List ℕ) (found : Bool) → found ≡ is_some (number_of instances name) → found ≡ false → length instances < 1024 → number_for instances name ≡ Ok (length instances)
unfolding number_for
due_number instances name found is e room =
    ap (λ b. if b then Err fault.Taken else (if nat_lt (length instances) 1024 then Ok (length instances) else Err (fault.Full 1024))) (sym is ∙ e)
    ∙ ap (λ b. if b then Ok (length instances) else Err (fault.Full 1024)) (lt-ltb _ _ room)

none_of : {X : Type 0} (x : Option X) → is_some x ≡ false → x ≡ None
none_of None e = refl
none_of (Some x) e = absurd (true≢false e)

abbrev same_key : Vec ℕ Global → Vec ℕ Global → Bool
same_key x y = bytes_eq x.items y.items

-- a new name goes last
pub inserted : {S : Type 0} (m : IndexMap (Vec ℕ Global) MethodSet S) (k : Vec ℕ Global) (methods : MethodSet) (name : List ℕ) → k.items ≡ name → is_some (get_by (is_key name) m) ≡ false
    → map instance_of (insert_entry same_key m.entries k methods) ≡ map instance_of m.entries ++ record { name = name; methods = methods } ∷ []
inserted m k methods name e none =
    let absent : get same_key m k ≡ None = none_of _ (ap (λ (n : List ℕ). is_some (get_by (is_key n) m)) e ∙ none) in
    ap (map instance_of) (insert_entry-new same_key m k methods absent) ∙ seen_push m.entries k methods name e
