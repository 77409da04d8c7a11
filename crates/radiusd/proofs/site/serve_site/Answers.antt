use Rattle.std.proofs.Common.{◌≡◌, ◌++◌, List, [], ◌∷◌, Some, None, true, refl, inr, sym, ap, ◌∙◌, subst, append-nil}
use Rattle.rad_outside.specs.declared.crew.Kit.{Kit}
use Rattle.rad_outside.specs.declared.listen.Listen.{Listen}
use Rattle.rad_outside.specs.Crew.{Handed}
use Rattle.rad_outside.specs.Telling.{Tells}
use Rattle.rad_core.specs.declared.entry.Entry.{Entry}
use Rattle.rad_build.specs.declared.fault.BuildFault.{BuildFault}
use Rattle.radiusd.specs.declared.status.Status.{Status}
use Rattle.rad_serve.specs.declared.counts.Counts.{Counts}
use Rattle.rad_serve.specs.Counting.{counts_of}
use Rattle.rad_site.specs.Site.{Site}
use Rattle.radiusd.specs.ExitStatuses.{number_of}
use Rattle.rad_serve.specs.Told.{KitTells, GrowsBy}
use Rattle.radiusd.specs.Course.{Serving, IsExcused, Call, closing_lines, status_line}
use Rattle.radiusd.specs.Lines.{listening_line, counts_line}
use Rattle.rad_outside.specs.Printing.{Prints, PrintsWhole}
use Rattle.radiusd.specs.Printing.{IsCutShort}
use Rattle.radiusd.specs.Headline.{Headline}
use Rattle.rad_outside.proofs.Tellings.{Tells-same}
use Rattle.rad_serve.proofs.Leavings.{unasked}
use Rattle.rad_serve.proofs.Passes.{goes_on_still}
use Rattle.rad_outside.proofs.Printings.{Prints-nothing, Prints-weaker, Prints-behind}
use Rattle.radiusd.proofs.Printings.{finished, unserved, uninstalled, cut_unfinished, cut_followed, excused_since}
use Rattle.rad_serve.proofs.Tallies.{between, counts_apart}
use Rattle.radiusd.proofs.Headlines.{headline_without_kit, headline_with_kit, tried_install}
use Rattle.radiusd.proofs.site.serve_site.Goals as goal

pub returns-in-Err-clause-headline : goal.returns-in-Err-clause-headline
returns-in-Err-clause-headline g c =
    let tells : KitTells g.row.W.Denot g.row.K.Denot g.row.U.Denot = record { wire = g.W.Wire.told; clock = g.K.Clock.told; luck = g.U.Luck.told; failures = g.W.Wire.failures_in_a_row; has_ended = g.W.Wire.has_ended } in
    let crew = g.C.Crew.told c.args.crew.now in
    let out = g.O.Sink.told c.args.out.now in
    let printed = g.O.Sink.told c.end_without_kit.new.out in
    let before = g.O.Sink.faults c.args.out.now in
    let now = g.O.Sink.faults c.end_without_kit.new.out in
    let none = c.in-Err.ensures.err in
    subst (λ (ended : Status). Headline tells (Serving c.args.generation) (number_of ended) crew crew c.args.hub.now.origin c.install.new.hub.origin out printed before now c.args.hub.now.history c.install.new.hub.history c.args.kits.now.items) (sym c.end_without_kit.ensures.status)
    (subst (λ (kits : List (Kit g.row.W.Denot g.row.S.Denot g.row.K.Denot g.row.U.Denot g.row.G.Denot)). Headline tells (Serving c.args.generation) (number_of c.in-Err.status) crew crew c.args.hub.now.origin c.install.new.hub.origin out printed before now c.args.hub.now.history c.install.new.hub.history kits) (sym c.requires)
    (headline_without_kit tells (number_of c.in-Err.status) crew crew c.args.hub.now.origin c.install.new.hub.origin out printed before now c.args.generation c.args.hub.now.history c.install.new.hub.history c.tally-before.ensures.legal none.tries (uninstalled c.in-Err.status _ none.why) (Tells-same (GrowsBy []) crew (λ x. sym (append-nil x))) c.install.ensures.origin
    c.end_without_kit.ensures.printed))

pub returns-then-is_err-clause-headline : goal.returns-then-is_err-clause-headline
returns-then-is_err-clause-headline g c =
    let tells : KitTells g.row.W.Denot g.row.K.Denot g.row.U.Denot = record { wire = g.W.Wire.told; clock = g.K.Clock.told; luck = g.U.Luck.told; failures = g.W.Wire.failures_in_a_row; has_ended = g.W.Wire.has_ended } in
    let crew = g.C.Crew.told c.args.crew.now in
    let out = g.O.Sink.told c.args.out.now in
    let faults = g.O.Sink.faults c.args.out.now in
    subst (λ (kits : List (Kit g.row.W.Denot g.row.S.Denot g.row.K.Denot g.row.U.Denot g.row.G.Denot)). Headline tells (Serving c.args.generation) 8 crew crew c.args.hub.now.origin c.install.new.hub.origin out out faults faults c.args.hub.now.history c.install.new.hub.history kits) (sym (c.reserve.ensures.items ∙ c.requires))
    (headline_without_kit tells 8 crew crew c.args.hub.now.origin c.install.new.hub.origin out out faults faults c.args.generation c.args.hub.now.history c.install.new.hub.history c.tally-before.ensures.legal (tried_install c.args.hub.now.history c.install.new.hub.history c.args.generation true c.in-Ok.ensures.installed.installs) (λ e. cc) (Tells-same (GrowsBy []) crew (λ x. sym (append-nil x))) c.install.ensures.origin
    (Prints-nothing out (status_line 8) (IsExcused faults faults 8) (inr refl)))

pub returns-in-Err-kit-clause-headline : goal.returns-in-Err-kit-clause-headline
returns-in-Err-kit-clause-headline g c =
    let tells : KitTells g.row.W.Denot g.row.K.Denot g.row.U.Denot = record { wire = g.W.Wire.told; clock = g.K.Clock.told; luck = g.U.Luck.told; failures = g.W.Wire.failures_in_a_row; has_ended = g.W.Wire.has_ended } in
    let old = g.C.Crew.told c.args.crew.now in
    let new = g.C.Crew.told c.kit.new.self in
    let out = g.O.Sink.told c.args.out.now in
    let printed = g.O.Sink.told c.end_without_kit-in-Err-kit.new.out in
    let before = g.O.Sink.faults c.args.out.now in
    let now = g.O.Sink.faults c.end_without_kit-in-Err-kit.new.out in
    let ended = c.status_of.result in
    subst (λ (ended : Status). Headline tells (Serving c.args.generation) (number_of ended) old new c.args.hub.now.origin c.install.new.hub.origin out printed before now c.args.hub.now.history c.install.new.hub.history c.reserve.new.self.items) (sym c.end_without_kit-in-Err-kit.ensures.status)
    (subst (λ (kits : List (Kit g.row.W.Denot g.row.S.Denot g.row.K.Denot g.row.U.Denot g.row.G.Denot)). Headline tells (Serving c.args.generation) (number_of ended) old new c.args.hub.now.origin c.install.new.hub.origin out printed before now c.args.hub.now.history c.install.new.hub.history kits) (sym (c.reserve.ensures.items ∙ c.requires))
    (headline_without_kit tells (number_of ended) old new c.args.hub.now.origin c.install.new.hub.origin out printed before now c.args.generation c.args.hub.now.history c.install.new.hub.history c.tally-before.ensures.legal (tried_install c.args.hub.now.history c.install.new.hub.history c.args.generation true c.in-Ok.ensures.installed.installs) (unserved ended _ c.status_of.ensures) c.in-Err-kit.ensures.told c.install.ensures.origin
    c.end_without_kit-in-Err-kit.ensures.printed))

pub returns-in-Err-say_listening-clause-headline : goal.returns-in-Err-say_listening-clause-headline
returns-in-Err-say_listening-clause-headline g c =
    let tells : KitTells g.row.W.Denot g.row.K.Denot g.row.U.Denot = record { wire = g.W.Wire.told; clock = g.K.Clock.told; luck = g.U.Luck.told; failures = g.W.Wire.failures_in_a_row; has_ended = g.W.Wire.has_ended } in
    let old = g.C.Crew.told c.args.crew.now in
    let new = g.C.Crew.told c.kit.new.self in
    let out = g.O.Sink.told c.args.out.now in
    let printed = g.O.Sink.told c.say_listening.new.out in
    let before = g.O.Sink.faults c.args.out.now in
    let now = g.O.Sink.faults c.say_listening.new.out in
    let ended = c.in-Err-say_listening.status in
    let site = c.args.generation in
    let handed : Handed g.row.W.Denot g.row.S.Denot g.row.K.Denot g.row.U.Denot g.row.G.Denot = record { worker = 0; listen = c.in-Ok.listen; control = None; kit = c.in-Ok-kit.kit } in
    let kit : Kit g.row.W.Denot g.row.S.Denot g.row.K.Denot g.row.U.Denot g.row.G.Denot = record c.in-Ok-kit.kit { listener = 0 } in
    let is_listener = c.in-Ok.ensures.installed.listen_is in
    let cut : IsCutShort (listening_line site.server site.at) out printed before now ended =
    subst (λ (l : Listen). IsCutShort (listening_line l.server l.at) out printed before now ended) is_listener c.in-Err-say_listening.ensures.err in
    subst (λ (kits : List (Kit g.row.W.Denot g.row.S.Denot g.row.K.Denot g.row.U.Denot g.row.G.Denot)). Headline tells (Serving site) (number_of ended) old new c.args.hub.now.origin c.install.new.hub.origin out printed before now c.args.hub.now.history c.install.new.hub.history kits) (sym (c.push_reserved.ensures.items ∙ ap (λ kits. kits ++ kit ∷ []) (c.reserve.ensures.items ∙ c.requires)))
    (headline_with_kit tells (number_of ended) old new c.args.hub.now.origin c.install.new.hub.origin out printed before now site c.args.hub.now.history c.install.new.hub.history c.install.new.hub.history handed kit None c.tally-before.ensures.legal c.in-Ok.ensures.installed.installs c.in-Ok-kit.ensures.told
    (ap (λ (l : Listen). let call : Call = record { worker = 0; listen = l; control = None } in call) is_listener)
    (goes_on_still tells 0 c.in-Ok.listen c.install.new.hub.history kit None (tt, unasked tells kit.wire) (λ e. cc) (λ e. cc))
    (λ e. absurd (cut_unfinished out printed before now ended (listening_line site.server site.at) cut e)) c.install.ensures.origin
    (λ added grows. cut_followed out printed before now ended (listening_line site.server site.at) (closing_lines (number_of ended) added) cut))

pub returns-clause-headline : goal.returns-clause-headline
returns-clause-headline g c =
    let tells : KitTells g.row.W.Denot g.row.K.Denot g.row.U.Denot = record { wire = g.W.Wire.told; clock = g.K.Clock.told; luck = g.U.Luck.told; failures = g.W.Wire.failures_in_a_row; has_ended = g.W.Wire.has_ended } in
    let old = g.C.Crew.told c.args.crew.now in
    let new = g.C.Crew.told c.kit.new.self in
    let out = g.O.Sink.told c.args.out.now in
    let listening = g.O.Sink.told c.say_listening.new.out in
    let printed = g.O.Sink.told c.close.new.out in
    let fa = g.O.Sink.faults c.args.out.now in
    let fb = g.O.Sink.faults c.say_listening.new.out in
    let fc = g.O.Sink.faults c.close.new.out in
    let number = number_of c.close.result in
    let site = c.args.generation in
    let before = c.args.hub.now.history in
    let now = c.serve-left.new.hub.history in
    let handed : Handed g.row.W.Denot g.row.S.Denot g.row.K.Denot g.row.U.Denot g.row.G.Denot = record { worker = 0; listen = c.in-Ok.listen; control = None; kit = c.in-Ok-kit.kit } in
    let kit = c.serve-left.new.kit in
    let is_listener = c.in-Ok.ensures.installed.listen_is in
    let whole : Tells out listening (PrintsWhole (listening_line site.server site.at)) =
    subst (λ (l : Listen). Tells out listening (PrintsWhole (listening_line l.server l.at))) is_listener c.in_default.ensures.ok in
    let goes = c.serve-left.ensures.goes_on in
    let installs = c.in-Ok.ensures.installed.installs in
    let closing : (added : List (Entry Site BuildFault)) → now ≡ before ++ added → Tells listening printed (Prints (closing_lines number added) (IsExcused fa fc number)) =
    λ added grows.
    let counted : c.counts_between-counts.result ≡ counts_of added =
    c.counts_between-counts.ensures ∙ between _ _ _ _ _ _ c.tally-before.ensures.tally c.tally-loaded.ensures.tally c.tally.ensures.tally
    ∙ counts_apart before c.install.new.hub.history now added goes.added _ installs.grows goes.grows grows in
    Prints-weaker listening printed (closing_lines number added) (IsExcused fb fc number) (IsExcused fa fc number) (excused_since fa fb fc number c.say_listening.ensures.later)
    (subst (λ (counts : Counts). Tells listening printed (Prints (counts_line counts ++ status_line number) (IsExcused fb fc number))) counted c.close.ensures.printed) in
    subst (λ (kits : List (Kit g.row.W.Denot g.row.S.Denot g.row.K.Denot g.row.U.Denot g.row.G.Denot)). Headline tells (Serving site) number old new c.args.hub.now.origin c.serve-left.new.hub.origin out printed fa fc before now kits) (sym (c.push_reserved-2.ensures.items ∙ ap (λ kits. kits ++ kit ∷ []) (c.reserve.ensures.items ∙ c.requires)))
    (headline_with_kit tells number old new c.args.hub.now.origin c.serve-left.new.hub.origin out printed fa fc site before c.install.new.hub.history now handed kit (Some c.serve-left.result) c.tally-before.ensures.legal c.in-Ok.ensures.installed.installs c.in-Ok-kit.ensures.told
    (ap (λ (l : Listen). let call : Call = record { worker = 0; listen = l; control = None } in call) is_listener)
    c.serve-left.ensures.goes_on
    (λ e. c.close.ensures.done (finished c.close.result e)) (c.serve-left.ensures.origin ∙ c.install.ensures.origin)
    (λ added grows. Prints-behind out listening printed (listening_line site.server site.at) (closing_lines number added) (IsExcused fa fc number) whole (closing added grows)))
