-- What a command line of radwho asks for. After FreeRADIUS' radwho(1).
use Rattle.std.specs.Prelude.{ℕ, Bool, List, Option, Some, None, is_some, codes, if◌then◌else◌}
use Rattle.std.specs.List.{slice_get}
use Rattle.std.specs.Option.{option_map}
use Rattle.rad_text.specs.Find.{◌>>=◌}
use Rattle.rad_text.specs.Addresses.{address_of}
use Rattle.rad_args.specs.declared.item.Item.{Item}
use Rattle.rad_args.specs.Words.{arguments, has_letter}
use Rattle.rad_args.specs.Found.{value_of, plain_words}
use Rattle.radwho.specs.declared.wanted.Wanted.{Wanted}

-- A plain word is among the items.
abbrev pub has_plain : List Item → Bool
has_plain items = is_some (slice_get (plain_words items) 0)

-- The path of the log: the value of `-F`, or `radutmp.log` where none is given.
unfoldable pub path_in : Option (List ℕ) → List ℕ
path_in None = codes "radutmp.log"
path_in (Some path) = path

-- The NAS that is wanted, or none; the value of `-N` has to be an address.
abbrev pub nas_in : Option (List ℕ) → Option (Option ℕ)
nas_in None = Some None
nas_in (Some text) = option_map (λ (address : ℕ). Some address) (address_of text)

-- What the letters say, where the NAS is this: `-r` for raw lines, `-u USER` and `-F FILE`; n and s change nothing.
abbrev pub wanted_with : List Item → Option ℕ → Wanted
wanted_with items nas = record { is_raw = has_letter 114 items; user = value_of 117 items; nas = nas; path = path_in (value_of 70 items) }

-- What the items of a command line ask for; plain words are refused.
unfoldable pub wanted_of : List Item → Option Wanted
wanted_of items = if has_plain items then None else option_map (wanted_with items) (nas_in (value_of 78 items))

-- What words ask for, or none, where they are refused. The letters are r, n and s without a value and u, N and F with one.
unfoldable pub request : List (List ℕ) → Option Wanted
request words = arguments (codes "rns") (codes "uNF") words >>= wanted_of
