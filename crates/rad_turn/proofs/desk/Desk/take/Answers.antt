use Rattle.std.proofs.Common.{rules, refl, ap, ◌∙◌}
use Rattle.rad_turn.specs.Seats.{is_idle}
use Rattle.rad_turn.proofs.Turning.{looks_idle, grabs_idle}
use Rattle.rad_turn.proofs.desk.Desk.take.Goals as goal

pub load-word-requires : goal.load-word-requires
load-word-requires g c = (search rules, search rules, looks_idle g.S.Stands.stands g.S.Stands.origin g.S.Stands.by _ _ _ (ap (λ m. is_idle m.0) c.loop.invariant.2 ∙ c.requires.idle))

pub compare_exchange-found-requires : goal.compare_exchange-found-requires
compare_exchange-found-requires g c = let same = c.load-word.ensures.2.0 c.if-word.false ∙ c.loop.invariant.2 in (
  search rules,
  search rules,
  grabs_idle g.S.Stands.stands g.S.Stands.origin g.S.Stands.by _ _ _ _ _ (ap (λ m. is_idle m.0) same ∙ c.requires.idle) c.if-word-eq0.true c.if-word.false refl,
)
