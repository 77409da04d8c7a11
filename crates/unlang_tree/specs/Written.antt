-- What is written in a section, in an operator's words: calls of instances by name, one after another. After the manual page
-- unlang(5).
use Rattle.std.specs.Prelude.{◌≡◌, ℕ, Bool, true, false, List, [], ◌∷◌, Option, Some, None}
use Rattle.rad_conf.specs.declared.tree.Quote.TheVariants.{Bare}
use Rattle.rad_conf.specs.declared.tree.Word.{Word}
use Rattle.rad_conf.specs.declared.tree.Node.{Node}
use Rattle.rad_conf.specs.declared.tree.Item.{out-Item}
use Rattle.rad_conf.specs.declared.tree.Item.TheOpen as level
use Rattle.rad_words.specs.declared.sections.Section.{Section}
use Rattle.unlang_tree.specs.declared.statement.Statement.{Statement}
use Rattle.unlang_tree.specs.declared.statement.StatementKind.TheVariants as kinds
use Rattle.unlang_tree.specs.Instances.{number_of}
use Rattle.unlang_tree.specs.Words.{is_word_statement}
use Rattle.unlang_tree.specs.Calls.{policy_for, kind_of, can_be_called, is_optional, called_name, is_entered}
use Rattle.unlang_tree.specs.Sites.{Site}

-- A node is this bare word.
abbrev pub IsWord : Node → List ℕ → Type 0
IsWord node word = out-Item node.item ≡ level.Name (record { quote = Bare; text = word })

-- A node is a block of this kind, name and body.
abbrev pub IsBlock : Node → List ℕ → Option Word → List Node → Type 0
IsBlock node kind name body = out-Item node.item ≡ level.Block (record { quote = Bare; text = kind }) name body

-- A word is free to be a name: it is no statement of its own, and no policy has it.
pub record IsFree (site : Site) (section : Section) (word name : List ℕ) : Type 0 where
  pub no_statement : is_word_statement word ≡ false
  pub no_policy : policy_for site.root section name ≡ None

-- An instance of this number and name has a method for the section.
pub record IsCallable (site : Site) (section : Section) (name : List ℕ) (number : ℕ) : Type 0 where
  pub numbered : number_of site.instances name ≡ Some number
  pub method : can_be_called site.instances section number ≡ true

-- A word calls this policy: it is no statement of its own, and `NAME.section` or else `NAME` is the policy's name.
pub record CallsPolicy (site : Site) (section : Section) (node : Node) (word : List ℕ) (policy : Node) : Type 0 where
  pub spelled : IsWord node word
  pub no_statement : is_word_statement word ≡ false
  pub there : policy_for site.root section (called_name word) ≡ Some policy

-- A policy is among the open ones, by its name.
abbrev pub is_open : List (List ℕ) → Node → Bool
is_open entered policy = is_entered entered (kind_of policy)

-- The call of an instance at a place, with no actions of its own.
abbrev pub call_from : Node → ℕ → Statement
call_from node number = record { place = node.place; kind = kinds.Call (record { instance = number; overrides = [] }) }

-- These nodes spell these calls: `name` calls the instance of that name, `-name` calls it too, and `-name` of no instance is
-- passed over.
pub data Spell (site : Site) (section : Section) : List Node → List Statement → Type 0 where
  nothing : Spell site section [] []
  by_name : (node : Node) (nodes : List Node) (calls : List Statement) (name : List ℕ) (number : ℕ)
      → IsWord node name → is_optional name ≡ false → IsFree site section name name → IsCallable site section name number
      → Spell site section nodes calls → Spell site section (node ∷ nodes) (call_from node number ∷ calls)
  by_dash : (node : Node) (nodes : List Node) (calls : List Statement) (name : List ℕ) (number : ℕ)
      → IsWord node (45 ∷ name) → IsFree site section (45 ∷ name) name → IsCallable site section name number
      → Spell site section nodes calls → Spell site section (node ∷ nodes) (call_from node number ∷ calls)
  passed_over : (node : Node) (nodes : List Node) (calls : List Statement) (name : List ℕ)
      → IsWord node (45 ∷ name) → IsFree site section (45 ∷ name) name → number_of site.instances name ≡ None
      → Spell site section nodes calls → Spell site section (node ∷ nodes) calls

-- A node is a word that calls nothing.
pub record IsUnknown (site : Site) (section : Section) (node : Node) (name : List ℕ) : Type 0 where
  pub spelled : IsWord node name
  pub plain : is_optional name ≡ false
  pub free : IsFree site section name name
  pub none : number_of site.instances name ≡ None
