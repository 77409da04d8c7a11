-- What is written in a block of statements, in an operator's words: calls of instances and of policies by name, `return`, actions
-- of the block's own, blocks within it, and `if` with its `elsif` and `else`. After the manual page unlang(5).
use Rattle.std.specs.Prelude.{◌≡◌, ℕ, suc, ◌+◌, true, false, List, [], ◌∷◌, ◌++◌, length, Option, Some, None, Ok, codes}
use Rattle.rad_conf.specs.declared.tree.Word.{Word}
use Rattle.rad_conf.specs.declared.tree.Node.{Node}
use Rattle.rad_conf.specs.declared.tree.Item.{out-Item}
use Rattle.rad_conf.specs.declared.tree.Item.TheOpen as level
use Rattle.rad_words.specs.declared.sections.Section.{Section}
use Rattle.unlang_cond.specs.Trees.{Tree}
use Rattle.unlang_cond.specs.Conditions.{reading_of}
use Rattle.unlang_tree.specs.declared.statement.Arm.{Arm, roll-Arm}
use Rattle.unlang_tree.specs.declared.statement.Group.{roll-Group}
use Rattle.unlang_tree.specs.declared.statement.GroupForm.{GroupForm}
use Rattle.unlang_tree.specs.declared.statement.GroupForm.TheVariants as form
use Rattle.unlang_tree.specs.declared.statement.Override.{Override}
use Rattle.unlang_tree.specs.declared.statement.Statement.{Statement}
use Rattle.unlang_tree.specs.declared.statement.StatementKind.TheVariants as kinds
use Rattle.unlang_tree.specs.Sites.{Site}
use Rattle.unlang_tree.specs.Instances.{number_of}
use Rattle.unlang_tree.specs.Calls.{kind_of, body_of}
use Rattle.unlang_tree.specs.Actions.{override_of}
use Rattle.unlang_tree.specs.Written.{IsWord, IsBlock, IsFree, CallsPolicy, is_open, Spell}

-- The word that begins a block of a form. No word begins a policy.
pub data Begins : GroupForm → List ℕ → Type 0 where
  group : Begins form.Group (codes "group")
  redundant : Begins form.Redundant (codes "redundant")
  load_balance : Begins form.LoadBalance (codes "load-balance")
  redundant_load_balance : Begins form.RedundantLoadBalance (codes "redundant-load-balance")

-- A node is the pair of these words.
abbrev pub IsPair : Node → Word → List ℕ → Word → Type 0
IsPair node left operator right = out-Item node.item ≡ level.Pair left operator right

-- The block of this form at a node's place, with these actions of its own and these statements.
abbrev pub group_from : Node → GroupForm → List Override → List Statement → Statement
group_from node form own inner = record { place = node.place; kind = kinds.Group (roll-Group (record { form = form; overrides = own; statements = inner })) }

-- The statement `return` at a node's place.
abbrev pub return_from : Node → Statement
return_from node = record { place = node.place; kind = kinds.Return }

-- An arm with what it asks and these statements.
abbrev pub arm_from : Option Tree → List Statement → Arm
arm_from asked statements = roll-Arm (record { condition = asked; statements = statements })

-- The `if` of these arms at a node's place.
abbrev pub if_from : Node → List Arm → Statement
if_from node arms = record { place = node.place; kind = kinds.If arms }

-- A node is a block that begins with this word, `if` or `elsif`, with a condition that says this, and with these nodes in it.
pub record IsAsking (site : Site) (node : Node) (word : List ℕ) (tree : Tree) (body : List Node) : Type 0 where
  pub name : Word
  pub spelled : IsBlock node word (Some name) body
  pub condition : reading_of name.text site.dict ≡ Ok tree

module _ (site : Site) (section : Section) where
  mutual
    -- These nodes of a block or a policy, in which so many levels of blocks stand at most, and within these policies, spell these
    -- actions of the block's own and these statements, which with those within them are so many.
    pub data SpellBlock : ℕ → List (List ℕ) → List Node → List Override → List Statement → ℕ → Type 0 where
      nothing_more : (levels : ℕ) (entered : List (List ℕ)) → SpellBlock levels entered [] [] [] 0
      calls : (levels : ℕ) (entered : List (List ℕ)) (node : Node) (nodes : List Node) (called : List Statement) (own : List Override) (inner : List Statement) (count : ℕ)
          → Spell site section (node ∷ []) called → SpellBlock levels entered nodes own inner count
          → SpellBlock levels entered (node ∷ nodes) own (called ++ inner) (length called + count)
      returns : (levels : ℕ) (entered : List (List ℕ)) (node : Node) (nodes : List Node) (own : List Override) (inner : List Statement) (count : ℕ)
          → IsWord node (codes "return") → SpellBlock levels entered nodes own inner count
          → SpellBlock levels entered (node ∷ nodes) own (return_from node ∷ inner) (1 + count)
      acts : (levels : ℕ) (entered : List (List ℕ)) (node : Node) (nodes : List Node) (left : Word) (operator : List ℕ) (right : Word) (one : Override) (own : List Override) (inner : List Statement) (count : ℕ)
          → IsPair node left operator right → override_of left.text operator right ≡ Some one → SpellBlock levels entered nodes own inner count
          → SpellBlock levels entered (node ∷ nodes) (one ∷ own) inner count
      nests : (levels : ℕ) (entered : List (List ℕ)) (node : Node) (nodes : List Node) (form : GroupForm) (word : List ℕ) (name : Option Word) (body : List Node)
          (actions : List Override) (members : List Statement) (within : ℕ) (own : List Override) (inner : List Statement) (count : ℕ)
          → Begins form word → IsBlock node word name body → SpellBlock levels entered body actions members within
          → SpellBlock (suc levels) entered nodes own inner count
          → SpellBlock (suc levels) entered (node ∷ nodes) own (group_from node form actions members ∷ inner) (suc within + count)
      lays_out : (levels : ℕ) (entered : List (List ℕ)) (node : Node) (nodes : List Node) (word : List ℕ) (policy : Node)
          (members : List Statement) (within : ℕ) (own : List Override) (inner : List Statement) (count : ℕ)
          → CallsPolicy site section node word policy → is_open entered policy ≡ false
          → SpellBlock levels (kind_of policy ∷ entered) (body_of policy) [] members within
          → SpellBlock levels entered nodes own inner count
          → SpellBlock levels entered (node ∷ nodes) own (group_from node form.Policy [] members ∷ inner) (suc within + count)
      chooses : (levels : ℕ) (entered : List (List ℕ)) (node : Node) (later nodes : List Node) (tree : Tree) (body : List Node) (members : List Statement) (within : ℕ)
          (arms : List Arm) (more : ℕ) (own : List Override) (inner : List Statement) (count : ℕ)
          → IsAsking site node (codes "if") tree body → SpellBlock levels entered body [] members within
          → SpellArms levels entered later arms more → SpellBlock (suc levels) entered nodes own inner count
          → SpellBlock (suc levels) entered (node ∷ (later ++ nodes)) own (if_from node (arm_from (Some tree) members ∷ arms) ∷ inner) (suc within + more + count)

    -- These nodes behind an `if` spell these arms more of it, which with the statements in them are so many: `elsif` with its
    -- condition, and `else` as the last one. A `-name` of nothing may stand before each.
    pub data SpellArms : ℕ → List (List ℕ) → List Node → List Arm → ℕ → Type 0 where
      no_more_arms : (levels : ℕ) (entered : List (List ℕ)) → SpellArms levels entered [] [] 0
      passes : (levels : ℕ) (entered : List (List ℕ)) (node : Node) (nodes : List Node) (name : List ℕ) (arms : List Arm) (count : ℕ)
          → IsWord node (45 ∷ name) → IsFree site section (45 ∷ name) name → number_of site.instances name ≡ None
          → SpellArms levels entered nodes arms count → SpellArms levels entered (node ∷ nodes) arms count
      or_if : (levels : ℕ) (entered : List (List ℕ)) (node : Node) (nodes : List Node) (tree : Tree) (body : List Node) (members : List Statement) (within : ℕ)
          (arms : List Arm) (count : ℕ)
          → IsAsking site node (codes "elsif") tree body → SpellBlock levels entered body [] members within
          → SpellArms levels entered nodes arms count
          → SpellArms levels entered (node ∷ nodes) (arm_from (Some tree) members ∷ arms) (suc within + count)
      otherwise : (levels : ℕ) (entered : List (List ℕ)) (node : Node) (name : Option Word) (body : List Node) (members : List Statement) (within : ℕ)
          → IsBlock node (codes "else") name body → SpellBlock levels entered body [] members within
          → SpellArms levels entered (node ∷ []) (arm_from None members ∷ []) (suc within)

-- So many blocks stand around the last one: each is the first thing in the one before it.
pub data Around : ℕ → Node → Node → Type 0 where
  alone : (last : Node) (form : GroupForm) (word : List ℕ) (name : Option Word) (body : List Node) → Begins form word → IsBlock last word name body → Around 0 last last
  around : (levels : ℕ) (node inner last : Node) (form : GroupForm) (word : List ℕ) (name : Option Word) (rest : List Node)
      → Begins form word → IsBlock node word name (inner ∷ rest) → Around levels inner last → Around (suc levels) node last

-- Within these policies the last of so many calls of policies calls one that is open: each call but the first is the first
-- thing in the policy that the one before it calls.
pub data LeadsBack (site : Site) (section : Section) : List (List ℕ) → ℕ → Node → Node → Type 0 where
  calls_itself : (entered : List (List ℕ)) (last : Node) (word : List ℕ) (policy : Node) → CallsPolicy site section last word policy
      → is_open entered policy ≡ true → LeadsBack site section entered 0 last last
  leads : (entered : List (List ℕ)) (before : ℕ) (node inner last : Node) (word : List ℕ) (policy : Node) (rest : List Node)
      → CallsPolicy site section node word policy → is_open entered policy ≡ false → body_of policy ≡ inner ∷ rest
      → LeadsBack site section (kind_of policy ∷ entered) before inner last → LeadsBack site section entered (suc before) node last
