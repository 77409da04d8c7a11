-- Actions that aren't the default ones, `code = action`, after the manual page unlang(5). That priorities go from 1 to 64 is
-- this project's own.
use Rattle.std.specs.Prelude.{ℕ, not, ◌&&◌, nat_lt, List, [], ◌∷◌, ◌++◌, Option, Some, None, Result, Ok, Err, codes, if◌then◌else◌}
use Rattle.std.specs.Option.{option_and_then, option_map}
use Rattle.std.specs.Str.{bytes_eq, str_eq_ignore_ascii_case}
use Rattle.rad_outside.specs.declared.files.Place.{Place}
use Rattle.rad_conf.specs.declared.tree.Quote.{Quote}
use Rattle.rad_conf.specs.declared.tree.Quote.TheVariants.{Bare, Single, Double}
use Rattle.rad_conf.specs.declared.tree.Word.{Word}
use Rattle.rad_conf.specs.declared.tree.Node.{Node}
use Rattle.rad_conf.specs.declared.tree.Item.{out-Item}
use Rattle.rad_conf.specs.declared.tree.Item.TheOpen as level
use Rattle.rad_words.specs.declared.codes.Code.{Code}
use Rattle.rad_words.specs.declared.codes.Code.TheVariants as code
use Rattle.rad_tables.specs.declared.action_table.Action.{Action}
use Rattle.rad_tables.specs.declared.action_table.Action.TheVariants as action
use Rattle.rad_text.specs.Numerals.{number_of}
use Rattle.rad_text.specs.Read.{◌>>=◌, found}
use Rattle.unlang_tree.specs.declared.fault.TreeFault.{TreeFault}
use Rattle.unlang_tree.specs.declared.fault.TreeFault.TheVariants as fault
use Rattle.unlang_tree.specs.declared.statement.Override.{Override}
use Rattle.unlang_tree.specs.Readings.{after_each}

-- The return code of a name.
unfoldable pub code_named : List ℕ → Option Code
code_named word =
    if str_eq_ignore_ascii_case word (codes "reject") then Some code.Reject
    else (if str_eq_ignore_ascii_case word (codes "fail") then Some code.Fail
    else (if str_eq_ignore_ascii_case word (codes "ok") then Some code.Ok
    else (if str_eq_ignore_ascii_case word (codes "handled") then Some code.Handled
    else (if str_eq_ignore_ascii_case word (codes "invalid") then Some code.Invalid
    else (if str_eq_ignore_ascii_case word (codes "userlock") then Some code.Userlock
    else (if str_eq_ignore_ascii_case word (codes "notfound") then Some code.Notfound
    else (if str_eq_ignore_ascii_case word (codes "noop") then Some code.Noop
    else (if str_eq_ignore_ascii_case word (codes "updated") then Some code.Updated
    else None))))))))

-- A priority, 1 to 64.
abbrev pub priority_of : ℕ → Option Action
priority_of n = if nat_lt 0 n && not (nat_lt 64 n) then Some (action.Priority n) else None

-- The action of a text.
unfoldable pub action_of : List ℕ → Option Action
action_of text =
    if str_eq_ignore_ascii_case text (codes "return") then Some action.Return
    else (if str_eq_ignore_ascii_case text (codes "reject") then Some action.Reject
    else option_and_then priority_of (number_of 10 text))

-- The action of a word, which stands without quotes.
abbrev pub bare_action : Quote → List ℕ → Option Action
bare_action Bare text = action_of text
bare_action Single text = None
bare_action Double text = None

-- The action that a word gives for a code.
abbrev pub given : Word → Code → Option Override
given word on = option_map (λ (act : Action). record { code = on; action = act }) (bare_action word.quote word.text)

-- What a pair `code = action` says; none where it isn't one.
unfoldable pub override_of : List ℕ → List ℕ → Word → Option Override
override_of left operator word =
    if not (bytes_eq operator (codes "=")) then None else option_and_then (given word) (code_named left)

-- The action of a pair.
unfoldable pub override_at : Place → List ℕ → List ℕ → Word → Result Override TreeFault
override_at place left operator word = found (fault.BadAction place) (override_of left operator word)

-- The actions with that of one more node, which is a pair.
unfoldable pub with_override : List Override → Node → Result (List Override) TreeFault
with_override overrides node = elim (out-Item node.item) [
  | level.Pair left operator right ↦ override_at node.place left.text operator right >>= λ one. Ok (overrides ++ one ∷ [])
  | level.Name word ↦ Err (fault.BadAction node.place)
  | level.Block kind name body ↦ Err (fault.BadAction node.place)
]

-- The actions of nodes, in order.
abbrev pub overrides_of : List Node → Result (List Override) TreeFault
overrides_of nodes = after_each with_override [] nodes
