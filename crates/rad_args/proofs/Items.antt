-- Items behind items.
use Rattle.std.proofs.Common.{◌≡◌, List, [], ◌++◌, Option, Some, None, refl, ap}
use Rattle.std.proofs.lemmas.List.{append-nil, append_assoc}
use Rattle.rad_args.specs.declared.item.Item.{Item}
use Rattle.rad_args.specs.declared.reading.Reading.{Reading}
use Rattle.rad_args.specs.Words.{in_front}

-- What is found with nothing of its own leaves the items as they are.
pub nothing_in_front : (before : List Item) (reading : Reading) → in_front before (Some (reading, [])) ≡ Some (reading, before)
nothing_in_front before reading = ap (λ (items : List Item). Some (reading, items)) (append-nil before)

-- Items in front of items.
pub twice_in_front : (before more : List Item) (found : Option (Reading × List Item)) → in_front (before ++ more) found ≡ in_front before (in_front more found)
twice_in_front before more None = refl
twice_in_front before more (Some found) = ap (λ (items : List Item). Some (found.0, items)) (append_assoc before more found.1)
