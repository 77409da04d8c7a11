-- What a module does that works on the lists alone. This project's own.
use Rattle.rad_words.specs.declared.codes.Code.{Code}
use Rattle.rad_value.specs.declared.scope.Scope.{Scope}
use Rattle.rad_value.specs.PairLists.{PairLists}
use Rattle.mod_base.specs.Situation.{Situation}

-- The scope with these lists.
abbrev pub with_lists : Scope → PairLists → Scope
with_lists scope lists = record scope { lists = lists }

-- What is done to a situation where its scope gives these lists and this code: its lists change so, and nothing else.
abbrev pub done_to_lists : (Scope → PairLists × Code) → Situation → Situation × Code
done_to_lists does situation = (record situation { scope = with_lists situation.scope (does situation.scope).0 }, (does situation.scope).1)
