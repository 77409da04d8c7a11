use Rattle.std.proofs.Common.{rules, not, eqb}
use Rattle.std.specs.Arc.{arc_value}
use Rattle.std.proofs.lemmas.Map.Made.{filter_same_pairs}
use Rattle.rad_sessions.specs.Keyed.{sessions_of}
use Rattle.rad_sessions.specs.Listed.{is_elsewhere}
use Rattle.rad_sessions.proofs.Keying.{keyed_clear, filter_keyed}
use Rattle.rad_sessions.proofs.Sizes.{filter_shorter}
use Rattle.rad_sessions.proofs.listed.Listed.clear.Goals as goal

pub invariant_of-self : goal.invariant_of-self
invariant_of-self c =
    rw (filter_same_pairs _ (λ e. not (eqb e.0.0 c.args.nas)) _ (λ k v b w f' t. search rules) _ _ c.retain.ensures.filtered)
    (filter_keyed arc_value (λ e. not (eqb e.0.0 c.args.nas)) c.self.inside.entries.entries c.self.invariant)

pub returns-clause-list : goal.returns-clause-list
returns-clause-list c =
    rw (filter_same_pairs _ (λ e. not (eqb e.0.0 c.args.nas)) _ (λ k v b w f' t. search rules) _ _ c.retain.ensures.filtered, ← c.self.view_is)
    (keyed_clear arc_value c.args.nas c.self.inside.entries.entries c.self.invariant)

pub returns-clause-shorter : goal.returns-clause-shorter
returns-clause-shorter c =
    rw (filter_same_pairs _ (λ e. not (eqb e.0.0 c.args.nas)) _ (λ k v b w f' t. search rules) _ _ c.retain.ensures.filtered, ← c.self.view_is, keyed_clear arc_value c.args.nas c.self.inside.entries.entries c.self.invariant)
    (filter_shorter (is_elsewhere c.args.nas) (sessions_of arc_value c.self.inside.entries.entries))
