-- What goes on with an `if`, and what doesn't.
use Rattle.std.proofs.Common.{◌≡◌, ℕ, ◌-◌, Bool, true, false, is_some, List, [], ◌∷◌, ◌++◌, length, Option, Some, None, Ok, refl, sym, ap, ◌∙◌, length-append, arith}
use Rattle.std.specs.List.{slice_get}
use Rattle.std.proofs.lemmas.Option.{slice_get_read}
use Rattle.std.proofs.Math.Seq.{get_or-append_seam}
use Rattle.rad_outside.specs.declared.files.Place.{Place}
use Rattle.rad_conf.specs.declared.tree.Word.{Word}
use Rattle.rad_conf.specs.declared.tree.Node.{Node}
use Rattle.unlang_cond.specs.Trees.{Tree}
use Rattle.unlang_tree.specs.declared.statement.Arm.{Arm, out-roll-Arm}
use Rattle.unlang_tree.specs.declared.statement.Call.{Call}
use Rattle.unlang_tree.specs.declared.statement.Group.{Group}
use Rattle.unlang_tree.specs.declared.statement.Override.{Override}
use Rattle.unlang_tree.specs.declared.statement.GroupForm.{GroupForm}
use Rattle.unlang_tree.specs.declared.statement.Statement.{Statement}
use Rattle.unlang_tree.specs.declared.statement.StatementKind.{StatementKind, out-StatementKind, out-roll-StatementKind}
use Rattle.unlang_tree.specs.declared.statement.StatementKind.TheVariants as kinds
use Rattle.unlang_tree.specs.declared.statement.StatementKind.TheVariants.{rolls-Call, rolls-If}
use Rattle.unlang_tree.specs.declared.statement.StatementKind.TheOpen as opened
use Rattle.unlang_tree.specs.declared.statement.StatementKind.TheOpen.{Arm-F}
use Rattle.unlang_tree.specs.declared.statements.Counted.{Counted}
use Rattle.unlang_tree.specs.declared.groups.Members.{Members}
use Rattle.unlang_tree.specs.Words.{arm_named}
use Rattle.unlang_tree.specs.Calls.{kind_of}
use Rattle.unlang_tree.specs.Arms.{arm_of, follows, is_later_arm, last_asks, is_open, is_open_behind, is_last_open, not_stray, arms_of, gone_on, with_last, joined_by}
use Rattle.unlang_tree.specs.Groups.{and_also}
use Rattle.unlang_tree.specs.Written.{IsWord, IsBlock, call_from}
use Rattle.unlang_tree.specs.WrittenGroups.{Begins, group, redundant, load_balance, redundant_load_balance, arm_from}

pub last_grows : (front : List Statement) (last more : Statement) → with_last (front ++ last ∷ []) more ≡ front ++ gone_on last more ∷ []
last_grows [] last more = refl
last_grows (one ∷ []) last more = refl
last_grows (one ∷ next ∷ front) last more = ap (λ (rest : List Statement). one ∷ rest) (last_grows (next ∷ front) last more)

-- a word is no arm
word_kind : (node : Node) (word : List ℕ) → IsWord node word → kind_of node ≡ []
word_kind node word e = rw (e, kind_of) refl

no_word : arm_named [] ≡ None
unfolding arm_named
no_word = refl

pub word_no_arm : (node : Node) (word : List ℕ) → IsWord node word → arm_of node ≡ None
word_no_arm node word e = ap arm_named (word_kind node word e) ∙ no_word

pub word_not_later : (node : Node) (word : List ℕ) → IsWord node word → is_later_arm node ≡ false
word_not_later node word e = ap follows (word_no_arm node word e)

-- nor is a block of another form
block_kind : (node : Node) (word : List ℕ) (name : Option Word) (body : List Node) → IsBlock node word name body → kind_of node ≡ word
block_kind node word name body e = rw (e, kind_of) refl

begins_no_arm : (kind : GroupForm) (word : List ℕ) → Begins kind word → arm_named word ≡ None
unfolding arm_named
begins_no_arm _ _ group = refl
begins_no_arm _ _ redundant = refl
begins_no_arm _ _ load_balance = refl
begins_no_arm _ _ redundant_load_balance = refl

pub block_not_later : (node : Node) (kind : GroupForm) (word : List ℕ) (name : Option Word) (body : List Node) → Begins kind word → IsBlock node word name body → is_later_arm node ≡ false
block_not_later node kind word name body begun_by e = ap follows (ap arm_named (block_kind node word name body e) ∙ begins_no_arm kind word begun_by)

-- what doesn't go on with an `if` may stand anywhere, and is one statement more
pub not_later_stands : (may : Bool) (node : Node) → is_later_arm node ≡ false → not_stray may node ≡ Ok tt
unfolding not_stray
not_later_stands may node e = rw e refl

abbrev pub plain_also : Members → Option Counted → Members
plain_also members None = members
plain_also members (Some one) = record { overrides = members.overrides; statements = members.statements ++ one.statement ∷ []; room = one.room }

pub also_plain : (members : Members) (node : Node) (more : Option Counted) → is_later_arm node ≡ false → and_also members node more ≡ plain_also members more
also_plain members node None e = refl
also_plain members node (Some one) e =
    ap (λ (later : Bool). record { overrides = members.overrides; statements = joined_by later members.statements one.statement; room = one.room }) e

out_call : (call : Call) → out-StatementKind (kinds.Call call) ≡ opened.Call call
out_call call = ap out-StatementKind (sym (rolls-Call call)) ∙ out-roll-StatementKind (opened.Call call)

-- no arm may follow a call
pub call_closed : (node : Node) (number : ℕ) → is_open (call_from node number) ≡ false
call_closed node number = rw (out_call (record { instance = number; overrides = [] }), is_open) refl

-- ---- the last of statements and of arms

pub last_there : {A : Type 0} (front : List A) (x : A) → slice_get (front ++ x ∷ []) (length (front ++ x ∷ []) - 1) ≡ Some x
last_there front x =
    let size = length-append front (x ∷ []) in
    let at : length (front ++ x ∷ []) - 1 ≡ length front = omega (arith, size) in
    ap (slice_get (front ++ x ∷ [])) at
    ∙ slice_get_read (front ++ x ∷ []) (length (front ++ x ∷ [])) (length front) x refl (omega (arith, size)) (sym (get_or-append_seam front x [] x))

pub last_open : (front : List Statement) (one : Statement) → is_open one ≡ true → is_last_open (front ++ one ∷ []) ≡ true
last_open front one e = ap is_open_behind (last_there front one) ∙ e

out_if : (arms : List Arm) → out-StatementKind (kinds.If arms) ≡ opened.If arms
out_if arms = ap out-StatementKind (sym (rolls-If arms)) ∙ out-roll-StatementKind (opened.If arms)

arms_are : (arms : List Arm) → arms_of (kinds.If arms) ≡ arms
arms_are arms = rw (out_if arms, arms_of) refl

-- the `if` of these arms at a place
abbrev pub if_at : Place → List Arm → Statement
if_at place arms = record { place = place; kind = kinds.If arms }

asking : (tree : Tree) (inner : List Statement) → last_asks (Some (arm_from (Some tree) inner)) ≡ true
asking tree inner = ap (λ (made : Arm-F StatementKind Arm Group Statement). is_some made.condition) (out-roll-Arm (record { condition = Some tree; statements = inner }))

-- an arm may follow where the last one asks
pub if_open : (place : Place) (before : List Arm) (tree : Tree) (inner : List Statement) → is_open (if_at place (before ++ arm_from (Some tree) inner ∷ [])) ≡ true
if_open place before tree inner =
    rw (out_if (before ++ arm_from (Some tree) inner ∷ []), is_open) (ap last_asks (last_there before (arm_from (Some tree) inner)) ∙ asking tree inner)

gone_is : (place other : Place) (arms more : List Arm) → gone_on (if_at place arms) (if_at other more) ≡ if_at place (arms ++ more)
gone_is place other arms more =
    ap (λ (xs : List Arm). if_at place (xs ++ arms_of (kinds.If more))) (arms_are arms) ∙ ap (λ (xs : List Arm). if_at place (arms ++ xs)) (arms_are more)

-- what goes on with the last `if` gives it its arms
pub later_joined : (own : List Override) (front : List Statement) (place : Place) (arms : List Arm) (room : ℕ) (node : Node) (other : Place) (more : List Arm) (left : ℕ) → is_later_arm node ≡ true
    → and_also (record { overrides = own; statements = front ++ if_at place arms ∷ []; room = room }) node (Some (record { statement = if_at other more; room = left }))
    ≡ record { overrides = own; statements = front ++ if_at place (arms ++ more) ∷ []; room = left }
later_joined own front place arms room node other more left e =
    ap (λ (later : Bool). record { overrides = own; statements = joined_by later (front ++ if_at place arms ∷ []) (if_at other more); room = left }) e
    ∙ ap (λ (all : List Statement). record { overrides = own; statements = all; room = left })
    (last_grows front (if_at place arms) (if_at other more) ∙ ap (λ (one : Statement). front ++ one ∷ []) (gone_is place other arms more))

-- and may stand there
pub later_stands : (may : Bool) (node : Node) → is_later_arm node ≡ true → may ≡ true → not_stray may node ≡ Ok tt
unfolding not_stray
later_stands may node e free = rw (e, free) refl
