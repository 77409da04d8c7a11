use Rattle.unlang_tree.proofs.WrittenArms.{elsif_later, else_later}
use Rattle.unlang_tree.proofs.Strays.{stray_found}
use Rattle.unlang_tree.proofs.laws.a_stray_else_is_an_unknown_keyword.Goals as goal

pub returns-clause-asking : goal.returns-clause-asking
returns-clause-asking c = λ site section room good calls bad name body rest spelled within e. stray_found site section room good calls bad rest spelled within (elsif_later bad name body e)

pub returns-clause-last : goal.returns-clause-last
returns-clause-last c = λ site section room good calls bad name body rest spelled within e. stray_found site section room good calls bad rest spelled within (else_later bad name body e)
