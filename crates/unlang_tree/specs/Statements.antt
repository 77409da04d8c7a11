-- The statements that stand for themselves: calls of instances, words alone and updates. After the manual page unlang(5).
use Rattle.std.specs.Prelude.{ℕ, Bool, true, false, not, ◌-◌, ◌||◌, List, Option, Some, None, is_some, Result, Ok, Err, if◌then◌else◌}
use Rattle.std.specs.List.{list_all}
use Rattle.rad_outside.specs.declared.files.Place.{Place}
use Rattle.rad_conf.specs.declared.tree.Word.{Word}
use Rattle.rad_conf.specs.declared.tree.Node.{Node}
use Rattle.rad_conf.specs.declared.tree.Item.{out-Item}
use Rattle.rad_conf.specs.declared.tree.Item.TheOpen as level
use Rattle.rad_words.specs.declared.sections.Section.{Section}
use Rattle.rad_text.specs.Read.{◌>>=◌}
use Rattle.unlang_tree.specs.declared.fault.TreeFault.{TreeFault}
use Rattle.unlang_tree.specs.declared.fault.TreeFault.TheVariants as fault
use Rattle.unlang_tree.specs.declared.statement.Call.{Call}
use Rattle.unlang_tree.specs.declared.statement.StatementKind.{StatementKind}
use Rattle.unlang_tree.specs.declared.statement.StatementKind.TheVariants as kinds
use Rattle.unlang_tree.specs.declared.statements.Counted.{Counted}
use Rattle.unlang_tree.specs.Sites.{Site}
use Rattle.unlang_tree.specs.Readings.{one_more, one_deeper}
use Rattle.unlang_tree.specs.Words.{is_one_of, is_return, later_words}
use Rattle.unlang_tree.specs.Calls.{call_at}
use Rattle.unlang_tree.specs.Actions.{overrides_of}
use Rattle.unlang_tree.specs.Updates.{update_at}

-- A statement at a place that leaves room for so many more.
abbrev pub with_room : ℕ → Place → StatementKind → Counted
with_room left place kind = record { statement = record { place = place; kind = kind }; room = left }

-- A statement that is one more, where the server has room for so many more.
unfoldable pub one_statement : ℕ → Place → StatementKind → Result (Option Counted) TreeFault
one_statement room place kind = one_more room place >>= λ done. Ok (Some (with_room (room - 1) place kind))

-- The statement that is a call; none where the call counts as not written.
unfoldable pub counted_call : ℕ → Place → Option Call → Result (Option Counted) TreeFault
counted_call room place None = Ok None
counted_call room place (Some call) = one_statement room place (kinds.Call call)

-- A word alone that calls no policy: `return`, a statement that isn't built yet, or the call of an instance.
unfoldable pub word_at : Site → Section → ℕ → Place → List ℕ → Result (Option Counted) TreeFault
word_at site section room place word =
    if is_return word then one_statement room place kinds.Return
    else (if is_one_of later_words word then Err (fault.NotBuilt place)
    else (call_at site.instances section place word >>= λ call. counted_call room place call))

-- Whether an item is a pair.
abbrev pub is_pair : Node → Bool
is_pair node = elim (out-Item node.item) [
  | level.Pair left operator right ↦ true
  | level.Name word ↦ false
  | level.Block kind name body ↦ false
]

-- A call with actions of its own, `name { code = action .. }`, where so many more blocks may be opened; one that counts as not
-- written is passed over.
unfoldable pub with_actions : ℕ → ℕ → Place → List Node → Option Call → Result (Option Counted) TreeFault
with_actions levels room place pairs None = Ok None
with_actions levels room place pairs (Some call) = do
  opened ← one_deeper levels place
  done ← one_more room place
  overrides ← overrides_of pairs
  Ok (Some (with_room (room - 1) place (kinds.Call (record { instance = call.instance; overrides = overrides }))))

-- A block of a kind that is no keyword, and that calls no policy: the call of an instance with actions of its own, where it has no
-- name and only pairs in it.
unfoldable pub call_block_at : Site → Section → ℕ → ℕ → Place → List ℕ → Option Word → List Node → Result (Option Counted) TreeFault
call_block_at site section levels room place kind name body =
    if is_some name || not (list_all is_pair body) then Err (fault.UnknownKeyword place)
    else (call_at site.instances section place kind >>= λ call. with_actions levels room place body call)

-- An update, where so many more blocks may be opened and the server has room for so many statements more.
unfoldable pub update_statement : Site → ℕ → ℕ → Place → Option Word → List Node → Result (Option Counted) TreeFault
update_statement site levels room place name body =
    update_at site.dict levels room place name body >>= λ lines. Ok (Some (with_room (room - 1) place (kinds.Update lines)))
