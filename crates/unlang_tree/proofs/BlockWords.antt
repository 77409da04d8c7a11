-- What stands in a block, item by item: what is a pair, what begins a block, and which limits are met.
use Rattle.std.proofs.Common.{◌≡◌, ℕ, suc, ◌<◌, Bool, true, false, ◌&&◌, lt-ltb, List, [], ◌∷◌, ◌++◌, Option, Some, Ok, Err, refl, arith}
use Rattle.rad_outside.specs.declared.files.Place.{Place}
use Rattle.rad_conf.specs.declared.tree.Word.{Word}
use Rattle.rad_conf.specs.declared.tree.Node.{Node}
use Rattle.unlang_tree.specs.declared.fault.TreeFault.TheVariants as fault
use Rattle.unlang_tree.specs.declared.statement.GroupForm.{GroupForm}
use Rattle.unlang_tree.specs.declared.statement.Override.{Override}
use Rattle.unlang_tree.specs.Readings.{one_more, one_deeper}
use Rattle.unlang_tree.specs.Words.{form_named}
use Rattle.unlang_tree.specs.Calls.{kind_of, body_of, not_open}
use Rattle.unlang_tree.specs.Arms.{is_later_arm}
use Rattle.unlang_tree.specs.Actions.{override_of, override_at, with_override}
use Rattle.unlang_tree.specs.Statements.{is_pair}
use Rattle.unlang_tree.specs.PolicyCalls.{is_braced, braces_at}
use Rattle.unlang_tree.specs.Groups.{group_block, has_own_actions}
use Rattle.unlang_tree.specs.Written.{IsWord, IsBlock, is_open}
use Rattle.unlang_tree.specs.WrittenGroups.{Begins, group, redundant, load_balance, redundant_load_balance, IsPair}
use Rattle.unlang_tree.proofs.ArmLemmas.{word_not_later, block_not_later}

-- the word of a block
pub named : (kind : GroupForm) (word : List ℕ) → Begins kind word → form_named word ≡ Some kind
unfolding form_named
named _ _ group = refl
named _ _ redundant = refl
named _ _ load_balance = refl
named _ _ redundant_load_balance = refl

pub acting : (kind : GroupForm) (word : List ℕ) → Begins kind word → has_own_actions kind ≡ true
acting _ _ group = refl
acting _ _ redundant = refl
acting _ _ load_balance = refl
acting _ _ redundant_load_balance = refl

-- a node is no pair, and goes on with no `if`
abbrev pub IsPlain : Node → Type 0
IsPlain node = (is_pair node ≡ false) × (is_later_arm node ≡ false)

pub word_no_pair : (node : Node) (word : List ℕ) → IsWord node word → is_pair node ≡ false
word_no_pair node word e = rw (e, is_pair) refl

pub word_plain : (node : Node) (word : List ℕ) → IsWord node word → IsPlain node
word_plain node word e = (word_no_pair node word e, word_not_later node word e)

pub block_no_pair : (node : Node) (kind : List ℕ) (name : Option Word) (body : List Node) → IsBlock node kind name body → is_pair node ≡ false
block_no_pair node kind name body e = rw (e, is_pair) refl

pub block_plain : (node : Node) (kind : GroupForm) (word : List ℕ) (name : Option Word) (body : List Node) → Begins kind word → IsBlock node word name body → IsPlain node
block_plain node kind word name body begun_by e = (block_no_pair node word name body e, block_not_later node kind word name body begun_by e)

pub pair_is : (node : Node) (left : Word) (operator : List ℕ) (right : Word) → IsPair node left operator right → is_pair node ≡ true
pair_is node left operator right e = rw (e, is_pair) refl

-- and is a block of its form
pub is_group : (node : Node) (kind : GroupForm) (word : List ℕ) (name : Option Word) (body : List Node) → Begins kind word → IsBlock node word name body
    → group_block node ≡ Some (kind, body)
is_group node kind word name body begun_by e = rw (e, group_block) (rw (named kind word begun_by) refl)

-- an action of the block's own is added
pub overridden : (overrides : List Override) (node : Node) (left : Word) (operator : List ℕ) (right : Word) (one : Override) → IsPair node left operator right
    → override_of left.text operator right ≡ Some one → with_override overrides node ≡ Ok (overrides ++ one ∷ [])
unfolding with_override override_at
overridden overrides node left operator right one e given = rw (e, with_override) (rw given refl)

pub no_action : (a b : Bool) → b ≡ false → (a && b) ≡ false
no_action true b e = e
no_action false b e = refl

pub none_first : {P : Type 0} (one : Override) (own : List Override) → ◌≡◌ {A = List Override} (one ∷ own) [] → P
none_first one own e = absurd cc

pub counted : (room : ℕ) (place : Place) → 0 < room → one_more room place ≡ Ok tt
unfolding one_more
counted room place some = rw (lt-ltb 0 room some) refl

pub opens : (levels : ℕ) (place : Place) → one_deeper (suc levels) place ≡ Ok tt
unfolding one_deeper
opens levels place = let some : 0 < suc levels = omega arith in rw (lt-ltb 0 (suc levels) some) refl

pub no_level : (place : Place) → one_deeper 0 place ≡ Err (fault.TooDeep place)
unfolding one_deeper
no_level place = refl

pub no_braces : (node : Node) (word : List ℕ) (levels : ℕ) → IsWord node word → braces_at node levels ≡ Ok tt
unfolding braces_at
no_braces node word levels e = rw (e, is_braced) refl

pub no_body : (node : Node) (word : List ℕ) → IsWord node word → body_of node ≡ []
no_body node word e = rw (e, body_of) refl

pub is_fresh : (entered : List (List ℕ)) (place : Place) (policy : Node) → is_open entered policy ≡ false → not_open entered place (kind_of policy) ≡ Ok tt
unfolding not_open
is_fresh entered place policy e = rw e refl

pub is_loop : (entered : List (List ℕ)) (place : Place) (policy : Node) → is_open entered policy ≡ true → not_open entered place (kind_of policy) ≡ Err (fault.PolicyLoop place)
unfolding not_open
is_loop entered place policy e = rw e refl
