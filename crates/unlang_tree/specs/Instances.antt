-- The instances of a site's modules: a list, no two of one name, in which an instance's number is its place. This project's
-- own; the names are those of the block `modules` of radiusd.conf(5).
use Rattle.std.specs.Prelude.{ℕ, nat_lt, Bool, true, false, List, length, position, slice_get, Option, option_map, is_some, Result, Ok, Err, if◌then◌else◌}
use Rattle.std.specs.Str.{bytes_eq}
use Rattle.std.specs.declared.vec.Vec.{Vec}
use Rattle.std.specs.declared.alloc.Global.{Global}
use Rattle.mod_base.specs.declared.method_set.MethodSet.{MethodSet}
use Rattle.unlang_tree.specs.declared.fault.AddFault.{AddFault}
use Rattle.unlang_tree.specs.declared.fault.AddFault.TheVariants as fault

-- An instance: its name, and the sections in which it can be called.
pub record Instance : Type 0 where
  pub name : List ℕ
  pub methods : MethodSet

-- What a map's entry stands for.
abbrev pub instance_of : Vec ℕ Global × MethodSet → Instance
instance_of entry = record { name = entry.0.items; methods = entry.1 }

-- An instance has this name, octet by octet.
abbrev pub is_named : List ℕ → Instance → Bool
is_named name instance = bytes_eq name instance.name

-- The number of the instance of a name: the place of the first that has it, octet by octet.
abbrev pub number_of : List Instance → List ℕ → Option ℕ
number_of instances name = position (is_named name) instances

-- The methods of the instance of a number.
abbrev pub methods_at : List Instance → ℕ → Option MethodSet
methods_at instances number = option_map (λ (instance : Instance). instance.methods) (slice_get instances number)

-- The number that a new instance of this name gets, which is how many there are; or why there is no room for it: the name is
-- taken, or else there are 1,024 instances.
unfoldable pub number_for : List Instance → List ℕ → Result ℕ AddFault
number_for instances name =
    if is_some (number_of instances name) then Err fault.Taken
    else (if nat_lt (length instances) 1024 then Ok (length instances)
    else Err (fault.Full 1024))

-- Every fault but want of memory says something of the instances.
abbrev pub says : AddFault → Bool
says fault.Taken = true
says (fault.Full count) = true
says fault.NoMemory = false
