-- A fault of the servers' sections as one of the whole build. This project's own.
use Rattle.std.specs.Prelude.{Result, Ok, Err}
use Rattle.unlang_tree.specs.declared.fault.TreeFault.{TreeFault}
use Rattle.unlang_tree.specs.declared.fault.TreeFault.TheVariants as tree
use Rattle.rad_build.specs.declared.fault.BuildFault.{BuildFault}
use Rattle.rad_build.specs.declared.fault.BuildFault.TheVariants as fault

-- Want of memory is a variant of its own.
abbrev pub fault_of : TreeFault → BuildFault
fault_of (tree.UnknownModule place word) = fault.Tree (tree.UnknownModule place word)
fault_of (tree.NoSuchMethod place) = fault.Tree (tree.NoSuchMethod place)
fault_of (tree.UnknownKeyword place) = fault.Tree (tree.UnknownKeyword place)
fault_of (tree.BadAction place) = fault.Tree (tree.BadAction place)
fault_of (tree.BadUpdate place) = fault.Tree (tree.BadUpdate place)
fault_of (tree.BadCondition place) = fault.Tree (tree.BadCondition place)
fault_of (tree.BadPattern place) = fault.Tree (tree.BadPattern place)
fault_of (tree.BadExpansion place) = fault.Tree (tree.BadExpansion place)
fault_of (tree.PolicyLoop place) = fault.Tree (tree.PolicyLoop place)
fault_of (tree.TooDeep place) = fault.Tree (tree.TooDeep place)
fault_of (tree.TooMany place) = fault.Tree (tree.TooMany place)
fault_of (tree.NotBuilt place) = fault.Tree (tree.NotBuilt place)
fault_of tree.NoMemory = fault.NoMemory

-- What a reading of the sections answers, as an answer of a build.
abbrev pub of_tree : {A : Type 0} → Result A TreeFault → Result A BuildFault
of_tree (Ok x) = Ok x
of_tree (Err wrong) = Err (fault_of wrong)
