-- Written arms of an `if`, each by itself.
use Rattle.std.proofs.Common.{codes, ◌≡◌, ℕ, suc, ◌-◌, ◌<◌, true, false, List, [], Option, Some, None, Ok, refl, ap, ◌∙◌}
use Rattle.rad_outside.specs.declared.files.Place.{Place}
use Rattle.rad_conf.specs.declared.tree.Word.{Word}
use Rattle.rad_conf.specs.declared.tree.Node.{Node}
use Rattle.rad_words.specs.declared.sections.Section.{Section}
use Rattle.rad_dict.specs.Definitions.{Definitions}
use Rattle.rad_text.specs.Read.{◌>>=◌}
use Rattle.unlang_cond.specs.Trees.{Tree}
use Rattle.unlang_cond.specs.Conditions.{reading_of}
use Rattle.unlang_tree.specs.declared.statement.GroupForm.TheVariants as form
use Rattle.unlang_tree.specs.declared.statements.Counted.{Counted}
use Rattle.unlang_tree.specs.declared.groups.Members.{Members}
use Rattle.unlang_tree.specs.declared.words.ArmWord.{ArmWord}
use Rattle.unlang_tree.specs.declared.words.ArmWord.TheVariants as arm
use Rattle.unlang_tree.specs.Sites.{Site}
use Rattle.unlang_tree.specs.Readings.{one_deeper}
use Rattle.unlang_tree.specs.Words.{form_named, arm_named}
use Rattle.unlang_tree.specs.Calls.{kind_of, body_of}
use Rattle.unlang_tree.specs.Arms.{arm_of, follows, is_later_arm, name_of, judged_at, asked, condition_at}
use Rattle.unlang_tree.specs.Statements.{with_room}
use Rattle.unlang_tree.specs.PolicyCalls.{policy_called}
use Rattle.unlang_tree.specs.Depths.{Depth, in_a_block}
use Rattle.unlang_tree.specs.Groups.{Opener, group_block, if_of, arm_at, arm_or_plain, block_or_plain, called_or_not, statement_by}
use Rattle.unlang_tree.specs.Written.{IsBlock}
use Rattle.unlang_tree.specs.WrittenGroups.{IsAsking}
use Rattle.unlang_tree.proofs.BlockWords.{counted, opens}

-- The word of an arm.
pub data BeginsArm : ArmWord → List ℕ → Type 0 where
  by_if : BeginsArm arm.If (codes "if")
  by_elsif : BeginsArm arm.Elsif (codes "elsif")
  by_else : BeginsArm arm.Else (codes "else")

arm_is_named : (kind : ArmWord) (word : List ℕ) → BeginsArm kind word → arm_named word ≡ Some kind
unfolding arm_named
arm_is_named _ _ by_if = refl
arm_is_named _ _ by_elsif = refl
arm_is_named _ _ by_else = refl

no_form : (kind : ArmWord) (word : List ℕ) → BeginsArm kind word → form_named word ≡ None
unfolding form_named
no_form _ _ by_if = refl
no_form _ _ by_elsif = refl
no_form _ _ by_else = refl

kind_is : (node : Node) (word : List ℕ) (name : Option Word) (body : List Node) → IsBlock node word name body → kind_of node ≡ word
kind_is node word name body e = rw (e, kind_of) refl

body_is : (node : Node) (word : List ℕ) (name : Option Word) (body : List Node) → IsBlock node word name body → body_of node ≡ body
body_is node word name body e = rw (e, body_of) refl

arm_is : (node : Node) (kind : ArmWord) (word : List ℕ) (name : Option Word) (body : List Node) → BeginsArm kind word → IsBlock node word name body → arm_of node ≡ Some kind
arm_is node kind word name body begun_by e = ap arm_named (kind_is node word name body e) ∙ arm_is_named kind word begun_by

pub first_arm : (node : Node) (name : Option Word) (body : List Node) → IsBlock node (codes "if") name body → is_later_arm node ≡ false
first_arm node name body e = ap follows (arm_is node arm.If (codes "if") name body by_if e)

pub elsif_later : (node : Node) (name : Option Word) (body : List Node) → IsBlock node (codes "elsif") name body → is_later_arm node ≡ true
elsif_later node name body e = ap follows (arm_is node arm.Elsif (codes "elsif") name body by_elsif e)

pub else_later : (node : Node) (name : Option Word) (body : List Node) → IsBlock node (codes "else") name body → is_later_arm node ≡ true
else_later node name body e = ap follows (arm_is node arm.Else (codes "else") name body by_else e)

no_group : (node : Node) (kind : ArmWord) (word : List ℕ) (name : Option Word) (body : List Node) → BeginsArm kind word → IsBlock node word name body → group_block node ≡ None
no_group node kind word name body begun_by e = rw (e, group_block) (rw (no_form kind word begun_by) refl)

name_is : (node : Node) (word : List ℕ) (name : Word) (body : List Node) → IsBlock node word (Some name) body → name_of node ≡ Some name.text
name_is node word name body e = rw (e, name_of) refl

asked_is : (dict : Definitions) (place : Place) (node : Node) (word : List ℕ) (name : Word) (body : List Node) (tree : Tree) → IsBlock node word (Some name) body → reading_of name.text dict ≡ Ok tree
    → asked dict place (name_of node) ≡ Ok (Some tree)
asked_is dict place node word name body tree e read = ap (asked dict place) (name_is node word name body e) ∙ ap (judged_at place) read

-- what an arm that was written asks
pub if_asks : (site : Site) (node : Node) (tree : Tree) (body : List Node) → IsAsking site node (codes "if") tree body → condition_at site.dict arm.If node ≡ Ok (Some tree)
unfolding condition_at
if_asks site node tree body is = asked_is site.dict node.place node (codes "if") is.name body tree is.spelled is.condition

pub elsif_asks : (site : Site) (node : Node) (tree : Tree) (body : List Node) → IsAsking site node (codes "elsif") tree body → condition_at site.dict arm.Elsif node ≡ Ok (Some tree)
unfolding condition_at
elsif_asks site node tree body is = asked_is site.dict node.place node (codes "elsif") is.name body tree is.spelled is.condition

pub else_asks : (dict : Definitions) (node : Node) → condition_at dict arm.Else node ≡ Ok None
unfolding condition_at
else_asks dict node = refl

module _ (site : Site) (section : Section) where
  -- an arm calls no policy
  no_policy : (node : Node) (kind : ArmWord) (word : List ℕ) (name : Option Word) (body : List Node) → BeginsArm kind word → IsBlock node word name body
      → policy_called site.root section node ≡ None
  unfolding form_named arm_named
  no_policy node _ _ name body by_if e = rw (e, policy_called) refl
  no_policy node _ _ name body by_elsif e = rw (e, policy_called) refl
  no_policy node _ _ name body by_else e = rw (e, policy_called) refl

  arm_made : (opener : Opener) (depth : Depth) (levels room : ℕ) (node : Node) (kind : ArmWord) (asks : Option Tree) (body : List Node) (read : Members) → depth.levels ≡ suc levels → 0 < room
      → condition_at site.dict kind node ≡ Ok asks → body_of node ≡ body → opener (in_a_block depth) node.place form.Policy [] (room - 1) body ≡ Ok read
      → arm_at opener site depth room kind node ≡ Ok (with_room read.room node.place (if_of asks read.statements))
  unfolding arm_at
  arm_made opener depth levels room node kind asks body read deep some read_as inside e =
      rw (read_as, ap (λ n. one_deeper n node.place) deep ∙ opens levels node.place, counted room node.place some, inside, e) refl

  -- an arm that was written is read as the `if` of that arm
  pub arm_read : (opener : Opener) (depth : Depth) (levels room : ℕ) (node : Node) (kind : ArmWord) (word : List ℕ) (name : Option Word) (asks : Option Tree) (body : List Node) (read : Members)
      → BeginsArm kind word → IsBlock node word name body → depth.levels ≡ suc levels → 0 < room → condition_at site.dict kind node ≡ Ok asks
      → opener (in_a_block depth) node.place form.Policy [] (room - 1) body ≡ Ok read
      → statement_by opener site section depth room node ≡ Ok (Some (with_room read.room node.place (if_of asks read.statements)))
  unfolding statement_by
  arm_read opener depth levels room node kind word name asks body read begun_by e deep some read_as inside =
      ap (called_or_not opener site section depth room node) (no_policy node kind word name body begun_by e)
      ∙ ap (block_or_plain opener site section depth room node) (no_group node kind word name body begun_by e)
      ∙ ap (arm_or_plain opener site section depth room node) (arm_is node kind word name body begun_by e)
      ∙ ap (λ r. r >>= λ (c : Counted). Ok (Some c))
      (arm_made opener depth levels room node kind asks body read deep some read_as (body_is node word name body e) inside)
