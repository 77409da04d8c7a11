-- A condition that was read, and the first fault of one that can't be, after unlang(5). Where which fault stands is this project's
-- own; an offset above the greatest of 32 bits is carried as that.
use Rattle.std.specs.Prelude.{◌≡◌, ◌⊎◌, ℕ, List, length, Option, Some, None, Result, Ok, Err}
use Rattle.rad_dict.specs.Definitions.{Definitions}
use Rattle.unlang_cond.specs.declared.atom.Token.{Token}
use Rattle.unlang_cond.specs.declared.fault.CondFault.{CondFault}
use Rattle.unlang_cond.specs.declared.fault.CondFault.TheVariants.{BadPattern, NoMemory}
use Rattle.unlang_cond.specs.declared.fault.Wrong.{Wrong}
use Rattle.unlang_cond.specs.Tokens.{tokens_of}
use Rattle.unlang_cond.specs.Faults.{offset_of, fault_of}
use Rattle.unlang_cond.specs.Steps.{first_refused}
use Rattle.unlang_cond.specs.Trees.{Tree, tree_of}

-- The tree of tokens behind which nothing is wrong.
abbrev pub made_of : List Token → Option Wrong → Option Tree
made_of tokens None = Some (tree_of tokens)
made_of tokens (Some wrong) = None

-- The condition that a text says under a dictionary: the tree that its tokens write, none where something is wrong with them.
abbrev pub condition_of : List ℕ → Definitions → Option Tree
condition_of text dict = made_of (tokens_of text dict).0 (tokens_of text dict).1

-- The tree of tokens, or what is wrong behind them, in a text of this length.
abbrev pub concluded : ℕ → List Token → Option Wrong → Result Tree CondFault
concluded length tokens None = Ok (tree_of tokens)
concluded length tokens (Some wrong) = Err (fault_of length wrong)

-- The same, but for a pattern of them that is refused, which goes before.
abbrev pub judged : ℕ → Option ℕ → List Token → Option Wrong → Result Tree CondFault
judged length None tokens wrong = concluded length tokens wrong
judged length (Some left) tokens wrong = Err (BadPattern (offset_of length left))

-- What a text is read as under a dictionary: the condition that it says, or its first fault. Which it is is a function of the
-- text and the dictionary alone.
unfoldable pub reading_of : List ℕ → Definitions → Result Tree CondFault
reading_of text dict = judged (length text) (first_refused (tokens_of text dict).0) (tokens_of text dict).0 (tokens_of text dict).1

-- The fault is the first one of the text, unless memory ran out.
abbrev pub IsFaultOf : CondFault → List ℕ → Definitions → Type 0
IsFaultOf fault text dict = (fault ≡ NoMemory) ⊎ (reading_of text dict ≡ Err fault)
