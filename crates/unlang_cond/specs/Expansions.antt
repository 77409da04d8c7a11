-- The expansions of a condition's double-quoted texts, after unlang(5). Which of a condition's faults stands for an expansion's
-- is this project's own.
use Rattle.std.specs.Prelude.{ℕ, List, Result, Ok, Err}
use Rattle.rad_text.specs.declared.read.ReadError.{ReadError}
use Rattle.rad_text.specs.declared.read.ReadError.TheVariants as errors
use Rattle.rad_value.specs.declared.scope.Scope.{Scope}
use Rattle.rad_dict.specs.Definitions.{Definitions}
use Rattle.unlang_xlat.specs.declared.part.Part.{Part}
use Rattle.unlang_xlat.specs.declared.fault.XlatFault.{XlatFault}
use Rattle.unlang_xlat.specs.declared.fault.XlatFault.TheVariants as xlat
use Rattle.unlang_xlat.specs.Faults.{parsed}
use Rattle.unlang_xlat.specs.Texts.{expanded}
use Rattle.unlang_cond.specs.declared.fault.Wrong.{Wrong}
use Rattle.unlang_cond.specs.declared.fault.Wrong.TheVariants.{BadCondition, UnknownAttr}

-- An expansion that was read: its parts.
abbrev pub Expansion : Type 0
Expansion = List Part

-- An unknown attribute is told apart from all else that is wrong with an expansion.
abbrev pub error_of : XlatFault → ℕ → ReadError Wrong
error_of (xlat.BadExpansion at) left = errors.Wrong (BadCondition left)
error_of (xlat.UnknownAttr at) left = errors.Wrong (UnknownAttr left)
error_of (xlat.UnknownFunction at) left = errors.Wrong (BadCondition left)
error_of xlat.NoMemory left = errors.NoMemory

-- What is wrong with a condition whose expansion has this fault; want of memory isn't, and has any.
abbrev pub wrong_of : XlatFault → ℕ → Wrong
wrong_of (xlat.BadExpansion at) left = BadCondition left
wrong_of (xlat.UnknownAttr at) left = UnknownAttr left
wrong_of (xlat.UnknownFunction at) left = BadCondition left
wrong_of xlat.NoMemory left = BadCondition left

-- The expansion, or what is wrong with the condition, at the text's quote.
abbrev pub placed : Result Expansion XlatFault → ℕ → Result Expansion Wrong
placed (Ok x) left = Ok x
placed (Err fault) left = Err (wrong_of fault left)

-- The expansion of a double-quoted text whose quote has so many octets from it on.
abbrev pub expansion_of : List ℕ → ℕ → Definitions → Result Expansion Wrong
expansion_of text left dict = placed (parsed text dict) left

-- The text of an expansion in a scope.
abbrev pub expansion_text : Expansion → Scope → Definitions → List ℕ
expansion_text x scope dict = expanded scope dict x
