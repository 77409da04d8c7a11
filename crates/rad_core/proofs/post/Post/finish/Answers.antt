use Rattle.std.proofs.Common.{ℕ, refl, sym, subst}
use Rattle.std.proofs.lemmas.Result.{IfOk-weaker}
use Rattle.rad_turn.specs.Sides.{view}
use Rattle.rad_policy.specs.Seen.{ending_seen}
use Rattle.rad_core.specs.State.{opening}
use Rattle.rad_core.specs.Entry.{Finish}
use Rattle.rad_core.specs.Step.{run}
use Rattle.rad_core.specs.Answers.{IsHeld}
use Rattle.rad_core.specs.Behind.{TurnAdds}
use Rattle.rad_core.proofs.Behind.{turn_adds}
use Rattle.rad_core.proofs.post.Post.finish.Goals as goal

pub turn-requires-clause-may : goal.turn-requires-clause-may
turn-requires-clause-may g c = λ log value stood learns short. (
  short,
  c.requires.fits,
  subst (λ (n : ℕ). IsHeld g.P.Policy.meaning (run g.P.Policy.meaning opening log) c.args.ticket n (ending_seen c.args.outcome)) (sym c.name.ensures) (c.requires.finds log stood.state.legal learns short),
)

pub returns-clause-had : goal.returns-clause-had
returns-clause-had g c = IfOk-weaker c.turn.result _ _
    (λ done turned. subst (λ (n : ℕ). TurnAdds g.P.Policy.meaning (view c.args.seat.now) (view c.turn.new.seat) (Finish n c.args.ticket.place (ending_seen c.args.outcome))) c.name.ensures
    (turn_adds g.P.Policy.meaning _ _ _ _ _ _ done _ _ (λ before after. refl) (λ before after step. step.may) turned))
    c.turn.ensures.had
