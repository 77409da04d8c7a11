-- Calls among the statements of a section, after the manual page unlang(5): of a policy, or else of an instance of a module.
-- Names of policies and of instances are exact.
use Rattle.std.specs.Prelude.{ℕ, Bool, false, not, ◌&&◌, ◌==◌, List, [], ◌++◌, drop, slice_index, Option, Some, None, is_some, Result, Ok, Err, codes, if◌then◌else◌}
use Rattle.std.specs.List.{list_any, find}
use Rattle.std.specs.Str.{bytes_eq}
use Rattle.rad_outside.specs.declared.files.Place.{Place}
use Rattle.rad_conf.specs.declared.tree.Node.{Node}
use Rattle.rad_conf.specs.declared.tree.Item.{out-Item}
use Rattle.rad_conf.specs.declared.tree.Item.TheOpen as level
use Rattle.rad_words.specs.declared.sections.Section.{Section}
use Rattle.rad_text.specs.Read.{◌>>=◌}
use Rattle.unlang_tree.specs.declared.fault.TreeFault.{TreeFault}
use Rattle.unlang_tree.specs.declared.fault.TreeFault.TheVariants as fault
use Rattle.unlang_tree.specs.declared.statement.Call.{Call}
use Rattle.mod_base.specs.Methods.{has_method}
use Rattle.unlang_tree.specs.Instances.{Instance, number_of, methods_at}
use Rattle.unlang_tree.specs.Words.{word_of}

-- The nodes of a block of this kind, `kind { .. }` or `kind NAME { .. }`; none of another item.
abbrev pub nodes_of : List ℕ → Node → List Node
nodes_of wanted node = elim (out-Item node.item) [
  | level.Pair left operator right ↦ []
  | level.Name word ↦ []
  | level.Block kind name body ↦ if bytes_eq kind.text wanted then body else []
]

-- Whether an item is a block of this kind.
abbrev pub is_block : List ℕ → Node → Bool
is_block wanted node = elim (out-Item node.item) [
  | level.Pair left operator right ↦ false
  | level.Name word ↦ false
  | level.Block kind name body ↦ bytes_eq kind.text wanted
]

-- The first block of policies at the top of a configuration that has one of this name.
abbrev pub policies_with : List Node → List ℕ → Option Node
policies_with root name = find (λ node. list_any (is_block name) (nodes_of (codes "policy") node)) root

-- The policy of this name that is written at the top of a configuration: `policy { NAME { .. } }`. The first counts.
unfoldable pub policy_named : List Node → List ℕ → Option Node
policy_named root name = elim (policies_with root name) [
  | None ↦ None
  | Some block ↦ find (is_block name) (nodes_of (codes "policy") block)
]

-- The policy that a name calls in a section: `NAME.section`, or else `NAME`.
unfoldable pub policy_for : List Node → Section → List ℕ → Option Node
policy_for root section name = elim (policy_named root (name ++ codes "." ++ word_of section)) [
  | Some own ↦ Some own
  | None ↦ policy_named root name
]

-- The name that a block is written by.
abbrev pub kind_of : Node → List ℕ
kind_of node = elim (out-Item node.item) [
  | level.Pair left operator right ↦ []
  | level.Name word ↦ []
  | level.Block kind name body ↦ kind.text
]

-- The nodes in a block.
abbrev pub body_of : Node → List Node
body_of node = elim (out-Item node.item) [
  | level.Pair left operator right ↦ []
  | level.Name word ↦ []
  | level.Block kind name body ↦ body
]

-- Whether the instance of a number can be called in a section.
abbrev pub can_be_called : List Instance → Section → ℕ → Bool
can_be_called instances section number = elim (methods_at instances number) [
  | None ↦ false
  | Some methods ↦ has_method methods.methods section
]

-- The call of an instance by its name.
unfoldable pub call_of : List Instance → Section → Place → List ℕ → Result Call TreeFault
call_of instances section place name = elim (number_of instances name) [
  | None ↦ Err (fault.UnknownModule place name)
  | Some number ↦
      if can_be_called instances section number then Ok (record { instance = number; overrides = [] })
      else Err (fault.NoSuchMethod place)
]

-- A word `-name` calls the name, where there is such a policy or instance.
abbrev pub is_optional : List ℕ → Bool
is_optional word = slice_index word 0 == 45

-- The name that a word calls.
abbrev pub called_name : List ℕ → List ℕ
called_name word = if is_optional word then drop 1 word else word

-- A word that calls no policy counts as not written: `-name` of no instance.
abbrev pub is_unwritten : List Instance → List ℕ → Bool
is_unwritten instances word = is_optional word && not (is_some (number_of instances (called_name word)))

-- The call of an instance by a word that calls no policy; none where it counts as not written.
unfoldable pub call_at : List Instance → Section → Place → List ℕ → Result (Option Call) TreeFault
call_at instances section place word =
    if is_unwritten instances word then Ok None
    else (call_of instances section place (called_name word) >>= λ call. Ok (Some call))

-- Whether a name is among those of the open policies.
abbrev pub is_entered : List (List ℕ) → List ℕ → Bool
is_entered entered name = list_any (bytes_eq name) entered

-- A policy that is open already isn't opened again within itself.
unfoldable pub not_open : List (List ℕ) → Place → List ℕ → Result (Unit {0}) TreeFault
not_open entered place name = if is_entered entered name then Err (fault.PolicyLoop place) else Ok tt
