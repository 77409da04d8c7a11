-- An expansion's fault is the condition's.
use Rattle.std.proofs.Common.{ℕ, Result, ap}
use Rattle.rad_text.specs.Read.{Fails}
use Rattle.rad_text.specs.Answers.{IsFault}
use Rattle.unlang_xlat.specs.declared.fault.XlatFault.{XlatFault}
use Rattle.unlang_xlat.specs.declared.fault.XlatFault.TheVariants as xlat
use Rattle.unlang_xlat.specs.Faults.{says}
use Rattle.unlang_cond.specs.Expansions.{Expansion, error_of, placed}

pub refaulted : (said : Result Expansion XlatFault) (fault : XlatFault) (left : ℕ) → IsFault says said fault → Fails (error_of fault left) (placed said left)
refaulted said (xlat.BadExpansion at) left e = ap (λ (r : Result Expansion XlatFault). placed r left) e
refaulted said (xlat.UnknownAttr at) left e = ap (λ (r : Result Expansion XlatFault). placed r left) e
refaulted said (xlat.UnknownFunction at) left e = ap (λ (r : Result Expansion XlatFault). placed r left) e
refaulted said xlat.NoMemory left e = tt
