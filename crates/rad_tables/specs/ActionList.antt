-- What a list of actions says of a code: the actions stand in the order of the codes of unlang(5), as
-- the enum `Code` lists them. This project's own form.
use Rattle.std.specs.Prelude.{ℕ, List, slice_index_or}
use Rattle.rad_words.specs.declared.codes.Code.{Code}
use Rattle.rad_words.specs.declared.codes.Code.TheVariants.{Reject, Fail, Ok, Handled, Invalid, Userlock, Notfound, Noop, Updated}
use Rattle.rad_tables.specs.declared.action_table.Action.{Action}
use Rattle.rad_tables.specs.declared.action_table.Action.TheVariants.{Return}

-- The place of a code among the nine, from 0.
abbrev pub place_of : Code → ℕ
place_of Reject = 0
place_of Fail = 1
place_of Ok = 2
place_of Handled = 3
place_of Invalid = 4
place_of Userlock = 5
place_of Notfound = 6
place_of Noop = 7
place_of Updated = 8

-- The action on a code: the one at the code's place.
abbrev pub action_of : List Action → Code → Action
action_of actions code = slice_index_or actions (place_of code) Return
