-- What reading a word leaves behind the items so far. This serves private clauses.
use Rattle.std.specs.Prelude.{◌≡◌, ◌++◌, List, Option, Some, None, Result, Ok, Err}
use Rattle.std.specs.Option.{option_map}
use Rattle.rad_outside.specs.declared.fault.NoMemory.{NoMemory}
use Rattle.rad_args.specs.declared.item.Item.{Item}
use Rattle.rad_args.specs.declared.reading.Reading.{Reading}
use Rattle.rad_args.specs.Words.{in_front}

-- The word was refused, as is said of it; or what it is was put behind the items, and the reading is what is said. Where
-- memory ran out nothing is known.
abbrev pub Reads : List Item → List Item → Result (Option Reading) NoMemory → Option (Reading × List Item) → Type 0
Reads before now (Ok None) found = found ≡ None
Reads before now (Ok (Some reading)) found = in_front before found ≡ Some (reading, now)
Reads before now (Err failed) found = Unit {0}

-- More items, behind those so far.
abbrev pub onto : List Item → Option (List Item) → Option (List Item)
onto items more = option_map (λ (m : List Item). items ++ m) more
