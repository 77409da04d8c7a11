-- The words of a command line: `radiusd [-C] [-s] [-f] [-d DIR]`. After FreeRADIUS' radiusd(8), with this project's own `-s`.
use Rattle.std.specs.Prelude.{ℕ, ◌≡◌, Bool, List, Option, Some, None, is_some, codes, if◌then◌else◌}
use Rattle.std.specs.List.{slice_get}
use Rattle.std.specs.Option.{option_map}
use Rattle.std.specs.Str.{is_utf8}
use Rattle.rad_args.specs.declared.item.Item.{Item}
use Rattle.rad_args.specs.Words.{arguments, has_letter}
use Rattle.rad_args.specs.Found.{value_of, plain_words}
use Rattle.radiusd.specs.declared.order.Task.{Task}
use Rattle.radiusd.specs.declared.order.Task.TheVariants.{Check, Serve}
use Rattle.radiusd.specs.OrderSeen.{OrderSeen}

-- A plain word is among the items.
abbrev pub has_plain : List Item → Bool
has_plain items = is_some (slice_get (plain_words items) 0)

-- The folder of the site: the value of `-d`, which has to be text, or `/etc/raddb` where the letter isn't given.
abbrev pub folder_of : Option (List ℕ) → Option (List ℕ)
folder_of None = Some (codes "/etc/raddb")
folder_of (Some folder) = if is_utf8 folder then Some folder else None

-- The task: with `-C` the site is checked, whatever other letters are given; else it is served on one thread, with `-s`. There
-- is no other way to serve, so words without either of the two have no task.
abbrev pub task_of : List Item → Option Task
task_of items = if has_letter 67 items then Some Check else (if has_letter 115 items then Some Serve else None)

-- An order of a task and a folder, where there are both.
abbrev pub both : Option Task → Option (List ℕ) → Option OrderSeen
both None folder = None
both (Some task) None = None
both (Some task) (Some folder) = Some (record { task = task; folder = folder })

-- What the items of a command line order. Plain words are refused, and `-f` changes nothing.
unfoldable pub order_of : List Item → Option OrderSeen
order_of items = if has_plain items then None else both (task_of items) (folder_of (value_of 100 items))

-- What items order, where there are some.
abbrev pub order_of_read : Option (List Item) → Option OrderSeen
order_of_read None = None
order_of_read (Some items) = order_of items

-- What words order, or none, where they are refused. The letters are C, s and f without a value and d with one.
unfoldable pub order_in : List (List ℕ) → Option OrderSeen
order_in words = order_of_read (arguments (codes "Csf") (codes "d") words)

-- The folder that words name, whatever is to be done with the site in it.
abbrev pub folder_in : List (List ℕ) → Option (List ℕ)
folder_in words = option_map (λ (order : OrderSeen). order.folder) (order_in words)

-- The site is to be checked alone.
abbrev pub IsCheck : Option OrderSeen → Type 0
IsCheck None = ⊥
IsCheck (Some order) = order.task ≡ Check
