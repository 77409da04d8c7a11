-- What a group of statements answers, from the codes of its children, after unlang(5). The order of priorities is this
-- project's own.
use Rattle.std.specs.Prelude.{ℕ, Bool, true, false, nat_lt, ◌==◌, List, [], ◌∷◌, find, Option, Some, None, option_map, if◌then◌else◌}
use Rattle.rad_words.specs.declared.codes.Code.{Code}
use Rattle.rad_words.specs.declared.codes.Code.TheVariants as code
use Rattle.rad_words.specs.declared.sections.Section.{Section}
use Rattle.rad_words.specs.declared.sections.Section.TheVariants as section
use Rattle.rad_tables.specs.declared.action_table.Action.{Action}
use Rattle.rad_tables.specs.declared.action_table.Action.TheVariants as action
use Rattle.rad_tables.specs.declared.group_kind.GroupKind.{GroupKind}
use Rattle.rad_tables.specs.ActionList.{place_of}
use Rattle.rad_tables.specs.DefaultActions.{default_action}
use Rattle.unlang_tree.specs.declared.statement.Override.{Override}
use Rattle.unlang_code.specs.declared.judgement.Child.{Child}

-- Whether two codes are one.
abbrev pub same_code : Code → Code → Bool
same_code a b = place_of a == place_of b

-- The action that overrides give for a code: of those for one code the last counts. Where there is none, it is this one.
abbrev pub overridden : List Override → Code → Action → Action
overridden [] answer default = default
overridden (first ∷ others) answer default = overridden others answer (if same_code first.code answer then first.action else default)

-- The child that a code is, in a group of this kind in a section, under its own overrides.
abbrev pub child_of : Section → GroupKind → List Override → Code → Child
child_of where_it_stands kind overrides answer = record { code = answer; action = overridden overrides answer (default_action where_it_stands kind answer) }

-- `return` and `reject` end the group.
abbrev pub ends : Child → Bool
ends child = elim child.action [ action.Return ↦ true | action.Reject ↦ true | action.Priority n ↦ false ]

-- The code of the group that a child ends: its own, or reject where its action is so.
abbrev pub ending_code : Child → Code
ending_code child = elim child.action [ action.Return ↦ child.code | action.Reject ↦ code.Reject | action.Priority n ↦ child.code ]

-- The code of the group, where a child ends it.
abbrev pub ended_by : Child → Option Code
ended_by child = if ends child then Some (ending_code child) else None

-- How much a child weighs.
abbrev pub priority_of : Child → ℕ
priority_of child = elim child.action [ action.Return ↦ 0 | action.Reject ↦ 0 | action.Priority n ↦ n ]

-- Of a child and one behind it, that of the greater priority; the first where they weigh the same.
abbrev pub heavier : Child → Option Child → Child
heavier child None = child
heavier child (Some later) = if nat_lt (priority_of child) (priority_of later) then later else child

-- The heaviest of the children so far, and one more.
abbrev pub heavier_of : Option Child → Child → Child
heavier_of None child = child
heavier_of (Some leading) child = heavier leading (Some child)

-- The first child of the greatest priority.
abbrev pub heaviest : List Child → Option Child
heaviest [] = None
heaviest (child ∷ children) = Some (heavier child (heaviest children))

-- The code of a group: that of the first child that ends it, else that of the first of the greatest priority. A group
-- without children gives none.
abbrev pub judged : List Child → Option Code
judged children = elim (find ends children) [
  | Some last ↦ Some (ending_code last)
  | None ↦ option_map (λ (child : Child). child.code) (heaviest children)
]

-- The code of a section without children.
abbrev pub default_code : Section → Code
default_code section.Authorize = code.Notfound
default_code section.Authenticate = code.Reject
default_code section.Session = code.Fail
default_code section.Preacct = code.Noop
default_code section.Accounting = code.Noop
default_code section.PostAuth = code.Noop
