-- Edits that a module does by itself. This project's own, after FreeRADIUS' unlang(5), `update`.
use Rattle.std.specs.Prelude.{ℕ, List, Option, Some, None}
use Rattle.rad_words.specs.declared.attributes.AttrId.{AttrId}
use Rattle.rad_words.specs.declared.codes.Code.{Code}
use Rattle.rad_words.specs.declared.codes.Code.TheVariants as code
use Rattle.rad_value.specs.declared.edits.Edit.{Edit}
use Rattle.rad_value.specs.declared.edits.EditOp.TheVariants.{Set}
use Rattle.rad_value.specs.declared.edits.ListName.{ListName}
use Rattle.rad_value.specs.declared.values.Value.TheVariants.{Text}
use Rattle.rad_value.specs.Edit.{tried}
use Rattle.rad_value.specs.PairLists.{PairLists}

-- `&LIST:ATTRIBUTE := TEXT`
abbrev pub text_set : ListName → AttrId → List ℕ → Edit
text_set list attr text = record { list = list; attr = attr; op = Set; value = Text text }

-- The lists after an edit that was tried, and what is done next; or the lists as they were and fail, where their list was full
-- for it.
abbrev pub after_edit : PairLists → (PairLists → PairLists × Code) → Option PairLists → PairLists × Code
after_edit lists next None = (lists, code.Fail)
after_edit lists next (Some edited) = next edited

-- The lists after an edit and what is done next, or as they were and fail, where their list is full for it.
abbrev pub edit_or_fail : Edit → (PairLists → PairLists × Code) → PairLists → PairLists × Code
edit_or_fail edit next lists = after_edit lists next (tried lists edit)
