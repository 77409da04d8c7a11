-- How far the statements of a group have come, child by child. This project's own: it serves the run alone.
use Rattle.std.specs.Prelude.{Option, Some, None}
use Rattle.std.specs.Option.{option_map}
use Rattle.rad_words.specs.declared.codes.Code.{Code}
use Rattle.unlang_code.specs.declared.judgement.Child.{Child}
use Rattle.unlang_code.specs.declared.progress.Signal.{Signal}
use Rattle.unlang_code.specs.declared.progress.Signal.TheVariants.{Goes, Returns}
use Rattle.unlang_code.specs.declared.progress.Done.{Done}
use Rattle.unlang_code.specs.declared.progress.Ended.{Ended}
use Rattle.unlang_code.specs.declared.progress.Progress.{Progress}
use Rattle.unlang_code.specs.declared.progress.Progress.TheVariants.{Going, Over}
use Rattle.unlang_code.specs.Judgement.{ended_by, heavier_of}

-- The code of a child, if there is one.
abbrev pub code_in : Option Child → Option Code
code_in child = option_map (λ (c : Child). c.code) child

-- Behind a signal, with the heaviest child so far.
abbrev pub stopped : Signal → Option Child → Progress
stopped Goes leading = Going leading
stopped Returns leading = Over (record { signal = Returns; code = code_in leading })

-- Behind a child by which the group ends with this code, or doesn't.
abbrev pub by_end : Option Child → Signal → Child → Option Code → Progress
by_end leading signal child None = stopped signal (Some (heavier_of leading child))
by_end leading signal child (Some answer) = Over (record { signal = signal; code = Some answer })

-- Behind a child, with the heaviest before it.
abbrev pub after_child : Option Child → Signal → Child → Progress
after_child leading signal child = by_end leading signal child (ended_by child)

-- Behind a statement that gave this child or none, with the heaviest child before it.
abbrev pub absorbed_by : Option Child → Signal → Option Child → Progress
absorbed_by leading signal None = stopped signal leading
absorbed_by leading signal (Some child) = after_child leading signal child

-- Behind a statement.
abbrev pub absorbed : Option Child → Done → Progress
absorbed leading done = absorbed_by leading done.signal done.child

-- What a group came to, of which no statement is left.
abbrev pub end_of : Progress → Ended
end_of (Going leading) = record { signal = Goes; code = code_in leading }
end_of (Over e) = e
