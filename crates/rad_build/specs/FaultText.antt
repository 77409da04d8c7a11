-- The printed text of a fault, `FILE[LINE]: REASON`. The reasons are the names of the variants. This project's own.
use Rattle.std.specs.Prelude.{ℕ, List, ◌++◌, codes}
use Rattle.std.specs.Fmt.{decimal}
use Rattle.rad_outside.specs.declared.files.Place.{Place}
use Rattle.rad_conf.specs.declared.fault.ConfFault.{ConfFault}
use Rattle.rad_conf.specs.declared.fault.ConfFault.TheVariants as conf
use Rattle.rad_dict.specs.declared.fault.DictFault.{DictFault}
use Rattle.rad_dict.specs.declared.fault.DictFault.TheVariants as dict
use Rattle.mod_users.specs.declared.fault.UsersFault.{UsersFault}
use Rattle.mod_users.specs.declared.fault.UsersFault.TheVariants as users
use Rattle.unlang_tree.specs.declared.fault.TreeFault.{TreeFault}
use Rattle.unlang_tree.specs.declared.fault.TreeFault.TheVariants as tree
use Rattle.rad_build.specs.declared.fault.BuildFault.{BuildFault}
use Rattle.rad_build.specs.declared.fault.BuildFault.TheVariants as fault

-- A reason at its place.
abbrev pub placed_text : Place → List ℕ → List ℕ
placed_text place reason = place.file ++ codes "[" ++ decimal place.line ++ codes "]: " ++ reason

-- Read faults and want of memory have no place.
abbrev pub read_fault_text : List ℕ
read_fault_text = codes "read fault"

-- Want of memory.
abbrev pub memory_text : List ℕ
memory_text = codes "memory"

-- A fault of the configuration: its place and its reason.
abbrev pub conf_fault_text : ConfFault → List ℕ
conf_fault_text (conf.Unclosed place) = placed_text place (codes "Unclosed")
conf_fault_text (conf.Stray place) = placed_text place (codes "Stray")
conf_fault_text (conf.BadQuote place) = placed_text place (codes "BadQuote")
conf_fault_text (conf.NoVariable place) = placed_text place (codes "NoVariable")
conf_fault_text (conf.TooDeep place) = placed_text place (codes "TooDeep")
conf_fault_text (conf.Missing place) = placed_text place (codes "Missing")
conf_fault_text (conf.TooLong place) = placed_text place (codes "TooLong")
conf_fault_text conf.ReadFault = read_fault_text
conf_fault_text conf.NoMemory = memory_text

-- A fault of a section: its place, its reason, and its word where it has one.
abbrev pub tree_fault_text : TreeFault → List ℕ
tree_fault_text (tree.UnknownModule place word) = placed_text place (codes "UnknownModule " ++ word)
tree_fault_text (tree.NoSuchMethod place) = placed_text place (codes "NoSuchMethod")
tree_fault_text (tree.UnknownKeyword place) = placed_text place (codes "UnknownKeyword")
tree_fault_text (tree.BadAction place) = placed_text place (codes "BadAction")
tree_fault_text (tree.BadUpdate place) = placed_text place (codes "BadUpdate")
tree_fault_text (tree.BadCondition place) = placed_text place (codes "BadCondition")
tree_fault_text (tree.BadPattern place) = placed_text place (codes "BadPattern")
tree_fault_text (tree.BadExpansion place) = placed_text place (codes "BadExpansion")
tree_fault_text (tree.PolicyLoop place) = placed_text place (codes "PolicyLoop")
tree_fault_text (tree.TooDeep place) = placed_text place (codes "TooDeep")
tree_fault_text (tree.TooMany place) = placed_text place (codes "TooMany")
tree_fault_text (tree.NotBuilt place) = placed_text place (codes "NotBuilt")
tree_fault_text tree.NoMemory = memory_text

-- A fault of the dictionary: its place and its reason.
abbrev pub dict_fault_text : DictFault → List ℕ
dict_fault_text (dict.BadLine place) = placed_text place (codes "BadLine")
dict_fault_text (dict.UnknownVendor place) = placed_text place (codes "UnknownVendor")
dict_fault_text (dict.Taken place) = placed_text place (codes "Taken")
dict_fault_text (dict.TooDeep place) = placed_text place (codes "TooDeep")
dict_fault_text (dict.Missing place) = placed_text place (codes "Missing")
dict_fault_text (dict.TooLong place) = placed_text place (codes "TooLong")
dict_fault_text dict.ReadFault = read_fault_text
dict_fault_text dict.NoMemory = memory_text

-- A fault of a users file: the file, the line and the reason.
abbrev pub users_fault_text : List ℕ → UsersFault → List ℕ
users_fault_text file (users.UnknownAttr spot) = placed_text (record { file = file; line = spot.line }) (codes "UnknownAttr")
users_fault_text file (users.BadOperator spot) = placed_text (record { file = file; line = spot.line }) (codes "BadOperator")
users_fault_text file (users.BadValue spot) = placed_text (record { file = file; line = spot.line }) (codes "BadValue")
users_fault_text file (users.BadPattern spot) = placed_text (record { file = file; line = spot.line }) (codes "BadPattern")
users_fault_text file (users.BadEntry spot) = placed_text (record { file = file; line = spot.line }) (codes "BadEntry")
users_fault_text file users.NoMemory = memory_text

-- Why a site could not be built, as it is printed behind the program's own words.
abbrev pub fault_text : BuildFault → List ℕ
fault_text (fault.Conf wrong) = conf_fault_text wrong
fault_text (fault.Dict wrong) = dict_fault_text wrong
fault_text (fault.Users file wrong) = users_fault_text file wrong
fault_text (fault.Tree wrong) = tree_fault_text wrong
fault_text (fault.UnknownModule place kind) = placed_text place (codes "UnknownModule " ++ kind)
fault_text (fault.BadSetting place name) = placed_text place (codes "BadSetting " ++ name)
fault_text fault.ReadFault = read_fault_text
fault_text fault.NoMemory = memory_text
