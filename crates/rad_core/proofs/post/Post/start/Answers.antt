use Rattle.std.proofs.Common.{refl}
use Rattle.std.proofs.lemmas.Result.{IfOk-weaker}
use Rattle.rad_core.proofs.Behind.{turn_adds}
use Rattle.rad_core.proofs.post.Post.start.Goals as goal

pub returns-clause-had : goal.returns-clause-had
returns-clause-had g c = IfOk-weaker c.turn-answer.result _ _ (λ started turned. turn_adds g.P.Policy.meaning _ _ _ _ _ _ started _ _ (λ before after. refl) (λ before after done. done.0.may) turned) c.turn-answer.ensures.had
