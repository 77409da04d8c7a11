use Rattle.std.proofs.Common.{◌≡◌, length, map}
use Rattle.std.specs.Prelude.{string_bytes}
use Rattle.rad_args.specs.declared.reading.Reading.TheVariants as reading
use Rattle.rad_args.specs.Words.{read_words}
use Rattle.rad_args.specs.Pushed.{onto}
use Rattle.rad_args.proofs.arguments.read_words.Given as goal

abbrev pub invariant-loop-word : goal.invariant-loop-word
invariant-loop-word l = onto l.items.items (read_words l.flags l.options l.reading (map string_bytes l.rest)) ≡ read_words l.flags l.options reading.Letters (map string_bytes l.words)

abbrev pub decreases-loop-word : goal.decreases-loop-word
decreases-loop-word l = length l.rest
