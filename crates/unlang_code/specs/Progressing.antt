-- How far the statements of a group have come, by the outcome that they mean. This project's own: it serves the run alone.
use Rattle.std.specs.Prelude.{List, [], ◌∷◌, Option, Some, None}
use Rattle.std.specs.Option.{option_map, option_to_list}
use Rattle.rad_words.specs.declared.sections.Section.{Section}
use Rattle.rad_tables.specs.declared.group_kind.GroupKind.{GroupKind}
use Rattle.mod_base.specs.Situation.{Situation}
use Rattle.unlang_tree.specs.declared.statement.Override.{Override}
use Rattle.unlang_code.specs.declared.judgement.Child.{Child}
use Rattle.unlang_code.specs.declared.progress.Signal.{Signal}
use Rattle.unlang_code.specs.declared.progress.Signal.TheVariants.{Goes, Returns}
use Rattle.unlang_code.specs.declared.progress.Done.{Done}
use Rattle.unlang_code.specs.declared.progress.Ended.{Ended}
use Rattle.unlang_code.specs.declared.progress.Progress.{Progress}
use Rattle.unlang_code.specs.declared.progress.Progress.TheVariants.{Over}
use Rattle.unlang_code.specs.Judgement.{child_of, judged, heavier_of}
use Rattle.unlang_code.specs.Progress.{stopped}
use Rattle.unlang_code.specs.Judgement.{ended_by}
use Rattle.unlang_code.specs.Run.{Outcome}

-- Behind these children, with the heaviest before them.
unfoldable pub progressed : Option Child → Signal → List Child → Progress
progressed leading signal [] = stopped signal leading
progressed leading signal (child ∷ children) = elim (ended_by child) [
  | None ↦ progressed (Some (heavier_of leading child)) signal children
  | Some answer ↦ Over (record { signal = signal; code = Some answer })
]

-- The situation that statements leave, and how far their group has come behind them.
abbrev pub come_to : Option Child → Outcome → Situation × Progress
come_to leading outcome = (outcome.situation, progressed leading outcome.signal outcome.children)

-- What a statement came to, in a situation.
abbrev pub done_in : Done → Situation → Outcome
done_in done situation = record { situation = situation; signal = done.signal; children = option_to_list done.child }

-- What a block came to: the situation, its signal, and its code.
abbrev pub ends_as : Outcome → Situation × Ended
ends_as outcome = (outcome.situation, record { signal = outcome.signal; code = judged outcome.children })

-- A block that came to its end is a statement of its group.
abbrev pub as_done : Section → GroupKind → List Override → Ended → Done
as_done section kind overrides ended = record { signal = ended.signal; child = option_map (child_of section kind overrides) ended.code }

-- A statement that gave a child, and a `return`.
abbrev pub child_done : Child → Done
child_done child = record { signal = Goes; child = Some child }

abbrev pub return_done : Done
return_done = record { signal = Returns; child = None }

-- An `if` of which no arm is taken.
abbrev pub untaken_done : Done
untaken_done = record { signal = Goes; child = None }
