-- What the reading of the sections answers, as an answer of a build.
use Rattle.std.proofs.Common.{◌≡◌, List, Result, Ok, Err, ap}
use Rattle.rad_text.specs.Answers.{IsAnswer}
use Rattle.unlang_tree.specs.declared.fault.TreeFault.{TreeFault}
use Rattle.unlang_tree.specs.declared.fault.TreeFault.TheVariants as tree
use Rattle.unlang_tree.specs.declared.policies.ServerTree.{ServerTree}
use Rattle.unlang_tree.specs.Policies.{says}
use Rattle.rad_build.specs.Nodes.{Gives}
use Rattle.rad_build.specs.TreeFault.{of_tree}

pub gives_tree : (answer said : Result (List ServerTree) TreeFault) → IsAnswer says said answer → Gives (of_tree answer) (of_tree said)
gives_tree (Ok servers) said is = ap of_tree is
gives_tree (Err (tree.UnknownModule place word)) said is = ap of_tree is
gives_tree (Err (tree.NoSuchMethod place)) said is = ap of_tree is
gives_tree (Err (tree.UnknownKeyword place)) said is = ap of_tree is
gives_tree (Err (tree.BadAction place)) said is = ap of_tree is
gives_tree (Err (tree.BadUpdate place)) said is = ap of_tree is
gives_tree (Err (tree.BadCondition place)) said is = ap of_tree is
gives_tree (Err (tree.BadPattern place)) said is = ap of_tree is
gives_tree (Err (tree.BadExpansion place)) said is = ap of_tree is
gives_tree (Err (tree.PolicyLoop place)) said is = ap of_tree is
gives_tree (Err (tree.TooDeep place)) said is = ap of_tree is
gives_tree (Err (tree.TooMany place)) said is = ap of_tree is
gives_tree (Err (tree.NotBuilt place)) said is = ap of_tree is
gives_tree (Err tree.NoMemory) said is = tt
