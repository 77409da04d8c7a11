use Rattle.std.proofs.Common.{◌+◌, length, sym, ap, ap₂, is_eq, ◌∙◌}
use Rattle.std.specs.Arc.{arc_value}
use Rattle.std.specs.Option.{option_map}
use Rattle.std.specs.Map.{lookup}
use Rattle.rad_sessions.specs.declared.session.Session.{Session}
use Rattle.rad_sessions.specs.Listed.{place_cmp, place_of, session_at}
use Rattle.rad_sessions.specs.Keyed.{grown, sessions_of}
use Rattle.rad_sessions.proofs.Keying.{keyed_at, keyed_begin, keyed_length, grown_by}
use Rattle.rad_sessions.proofs.listed.Listed.begin_shared.Goals as goal

pub invariant_of-self-2 : goal.invariant_of-self-2
invariant_of-self-2 c = rw (c.in_ok-insert.ensures.entries, c.deref.ensures, c.deref-2.ensures) (keyed_begin arc_value c.args.session c.self.inside.entries.entries c.self.invariant).1

pub returns-clause-list : goal.returns-clause-list
returns-clause-list c = rw (c.in_ok-insert.ensures.entries, c.deref.ensures, c.deref-2.ensures, ← c.self.view_is) (keyed_begin arc_value c.args.session c.self.inside.entries.entries c.self.invariant).0

pub returns-clause-grown : goal.returns-clause-grown
returns-clause-grown c =
    let old = c.self.inside.entries.entries in
    let place = place_of (arc_value c.args.session) in
    let same = ap₂ (λ (a b : Session). lookup (λ k. is_eq (place_cmp (a.nas, b.port) k)) old) c.deref.ensures c.deref-2.ensures in
    let there = ap (option_map arc_value) (c.in_ok-insert.ensures.old ∙ same) ∙ keyed_at arc_value place old c.self.invariant in
    rw (← c.self.view_is)
    (keyed_length arc_value c.insert.new.self.entries ∙ c.in_ok-insert.ensures.len
    ∙ ap (λ n. length old + n) (grown_by arc_value c.in_ok-insert.field-0 (session_at place (sessions_of arc_value old)) there)
    ∙ ap (λ n. n + grown (session_at place (sessions_of arc_value old))) (sym (keyed_length arc_value old)))
