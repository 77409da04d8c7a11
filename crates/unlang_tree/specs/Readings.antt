-- How the nodes of a configuration are read: in order, up to the first fault. This project's own.
use Rattle.std.specs.Prelude.{◌≡◌, ℕ, List, [], ◌∷◌, Result, Ok, Err, ◌⊎◌, nat_lt, if◌then◌else◌}
use Rattle.rad_outside.specs.declared.files.Place.{Place}
use Rattle.rad_conf.specs.declared.tree.Node.{Node}
use Rattle.rad_text.specs.Read.{◌>>=◌}
use Rattle.unlang_tree.specs.declared.fault.TreeFault.{TreeFault}
use Rattle.unlang_tree.specs.declared.fault.TreeFault.TheVariants as fault
use Rattle.unlang_tree.specs.declared.refusal.Wrong.{Wrong}
use Rattle.unlang_tree.specs.declared.refusal.Wrong.TheVariants as wrong

-- What a function answered is what reading gives, the value or the first fault, unless memory ran out.
abbrev pub Gives : {Y : Type 0} → Result Y TreeFault → Result Y TreeFault → Type 0
Gives (Ok x) read = read ≡ Ok x
Gives (Err e) read = (e ≡ fault.NoMemory) ⊎ (read ≡ Err e)

-- What a function answered and left is what reading gives.
abbrev pub Leaves : {Y : Type 0} → Result (Unit {0}) TreeFault → Result Y TreeFault → Y → Type 0
Leaves (Ok done) read now = read ≡ Ok now
Leaves (Err e) read now = (e ≡ fault.NoMemory) ⊎ (read ≡ Err e)

-- What is wrong with a node, at its place.
abbrev pub fault_at : Wrong → Place → TreeFault
fault_at wrong.NoSuchMethod place = fault.NoSuchMethod place
fault_at wrong.UnknownKeyword place = fault.UnknownKeyword place
fault_at wrong.BadAction place = fault.BadAction place
fault_at wrong.BadUpdate place = fault.BadUpdate place
fault_at wrong.BadCondition place = fault.BadCondition place
fault_at wrong.BadPattern place = fault.BadPattern place
fault_at wrong.BadExpansion place = fault.BadExpansion place
fault_at wrong.PolicyLoop place = fault.PolicyLoop place
fault_at wrong.TooDeep place = fault.TooDeep place
fault_at wrong.TooMany place = fault.TooMany place
fault_at wrong.NotBuilt place = fault.NotBuilt place

-- One statement more, where the server has room for so many. It has room for 65,536.
unfoldable pub one_more : ℕ → Place → Result (Unit {0}) TreeFault
one_more room place = if nat_lt 0 room then Ok tt else Err (fault.TooMany place)

-- How many statements a server has room for.
abbrev pub most_statements : ℕ
most_statements = 65536

-- One block within the open ones, where so many more may be opened within one another.
unfoldable pub one_deeper : ℕ → Place → Result (Unit {0}) TreeFault
one_deeper levels place = if nat_lt 0 levels then Ok tt else Err (fault.TooDeep place)

-- Blocks within one another: a block directly in a section or a subsection is the first, and 32 may be open.
abbrev pub most_levels : ℕ
most_levels = 32

-- What is known after each of the nodes.
unfoldable pub after_each : {S : Type 0} → (S → Node → Result S TreeFault) → S → List Node → Result S TreeFault
after_each step known [] = Ok known
after_each step known (node ∷ nodes) = step known node >>= λ next. after_each step next nodes
