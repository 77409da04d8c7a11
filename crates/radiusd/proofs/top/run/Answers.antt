use Rattle.std.proofs.Common.{◌≡◌, ◌⊎◌, ◌∙◌, List, [], Some, Err, map, string_bytes, refl, inl, inr, sym, ap, subst, append-nil}
use Rattle.rad_outside.specs.declared.crew.Kit.{Kit}
use Rattle.rad_outside.specs.Telling.{Rose}
use Rattle.radiusd.specs.declared.order.Task.TheVariants.{Check, Serve}
use Rattle.radiusd.specs.declared.status.Status.TheVariants as status
use Rattle.radiusd.specs.OrderSeen.{OrderSeen}
use Rattle.rad_serve.specs.Told.{KitTells, GrowsBy}
use Rattle.radiusd.specs.Course.{Course, Unread, Misworded, Unbuilt, Checked, Serving, IsExcused, fault_line}
use Rattle.radiusd.specs.Lines.{usage_line, checked_line}
use Rattle.radiusd.specs.Headline.{Headline}
use Rattle.radiusd.specs.ExitStatuses.{number_of}
use Rattle.radiusd.specs.Statuses.{NothingFailed, NothingFailedOfCheck}
use Rattle.rad_outside.proofs.Tellings.{Tells-same}
use Rattle.rad_outside.proofs.Printings.{Prints-weaker, Prints-nothing}
use Rattle.radiusd.proofs.Headlines.{headline_idle}
use Rattle.radiusd.proofs.Statuses.{FaultGives-by_fault, IsRefused-by_fault, unbuilt_course, checked_course, serving_course, ordered, folder_of_order, SiteGives-by_fault}
use Rattle.radiusd.proofs.top.run.Goals as goal

pub returns-in-Err-clause-headline : goal.returns-in-Err-clause-headline
returns-in-Err-clause-headline g c =
    let tells : KitTells g.row.W.Denot g.row.K.Denot g.row.U.Denot = record { wire = g.W.Wire.told; clock = g.K.Clock.told; luck = g.U.Luck.told; failures = g.W.Wire.failures_in_a_row; has_ended = g.W.Wire.has_ended } in
    let crew = g.C.Crew.told c.args.crew.now in
    let history = c.args.hub.now.history in
    let out = g.O.Sink.told c.args.out.now in
    let before = g.O.Sink.faults c.args.out.now in (
      Unread,
      Tells-same (λ before now. now ≡ before) (g.F.Files.told c.args.files.now) (λ x. refl),
      subst (λ (kits : List (Kit g.row.W.Denot g.row.S.Denot g.row.K.Denot g.row.U.Denot g.row.G.Denot)). Headline tells Unread 8 crew crew c.args.hub.now.origin c.args.hub.now.origin out out before before history history kits) (sym c.requires)
          (headline_idle tells 8 crew crew c.args.hub.now.origin c.args.hub.now.origin out out before before Unread history c.tally.ensures.legal (refl, refl, refl) (Tells-same (GrowsBy []) crew (λ x. sym (append-nil x))) refl
          (Prints-nothing out [] (IsExcused before before 8) (inr refl))),
    )

pub returns-in-Ok-None-clause-headline : goal.returns-in-Ok-None-clause-headline
returns-in-Ok-None-clause-headline g c =
    let tells : KitTells g.row.W.Denot g.row.K.Denot g.row.U.Denot = record { wire = g.W.Wire.told; clock = g.K.Clock.told; luck = g.U.Luck.told; failures = g.W.Wire.failures_in_a_row; has_ended = g.W.Wire.has_ended } in
    let crew = g.C.Crew.told c.args.crew.now in
    let history = c.args.hub.now.history in
    let out = g.O.Sink.told c.args.out.now in
    let before = g.O.Sink.faults c.args.out.now in
    let printed = g.O.Sink.told c.say.new.out in
    let now = g.O.Sink.faults c.say.new.out in (
      Misworded,
      (sym c.in-Ok-None.ensures ∙ c.in-Ok-None.field-0-is, Tells-same (λ before now. now ≡ before) (g.F.Files.told c.args.files.now) (λ x. refl)),
      subst (λ (kits : List (Kit g.row.W.Denot g.row.S.Denot g.row.K.Denot g.row.U.Denot g.row.G.Denot)). Headline tells Misworded 1 crew crew c.args.hub.now.origin c.args.hub.now.origin out printed before now history history kits) (sym c.requires)
          (headline_idle tells 1 crew crew c.args.hub.now.origin c.args.hub.now.origin out printed before now Misworded history c.tally.ensures.legal (refl, refl, refl) (Tells-same (GrowsBy []) crew (λ x. sym (append-nil x))) refl
          (Prints-weaker out printed usage_line (Rose before now) (IsExcused before now 1) (λ rose. inl rose) c.say.ensures.printed)),
    )

pub returns-in-Err-build-clause-headline : goal.returns-in-Err-build-clause-headline
returns-in-Err-build-clause-headline g c =
    let tells : KitTells g.row.W.Denot g.row.K.Denot g.row.U.Denot = record { wire = g.W.Wire.told; clock = g.K.Clock.told; luck = g.U.Luck.told; failures = g.W.Wire.failures_in_a_row; has_ended = g.W.Wire.has_ended } in
    let crew = g.C.Crew.told c.args.crew.now in
    let history = c.args.hub.now.history in
    let out = g.O.Sink.told c.args.out.now in
    let before = g.O.Sink.faults c.args.out.now in
    let printed = g.O.Sink.told c.refuse_site.new.out in
    let now = g.O.Sink.faults c.refuse_site.new.out in
    let order = c.in-Ok-Some.order in
    let folder = c.as_str.result.now in
    let folder_is : order.folder ≡ folder = sym (ap (λ (o : OrderSeen). o.folder) c.order.view_is) ∙ sym c.as_str.ensures.value in
    let wrong = c.in-Err-build.fault in
    let ended = c.refuse_site.result in
    let course : Course = Unbuilt wrong in (
      course,
      unbuilt_course (map string_bytes c.args.words.now) folder wrong (g.F.Files.told c.args.files.now) (g.F.Files.told c.build.new.files) (folder_of_order (map string_bytes c.args.words.now) order (sym c.in-Ok-Some.ensures ∙ c.in-Ok-Some.field-0-is) ∙ ap Some folder_is) c.in-Err-build.ensures.told,
      subst (λ (kits : List (Kit g.row.W.Denot g.row.S.Denot g.row.K.Denot g.row.U.Denot g.row.G.Denot)). Headline tells course (number_of ended) crew crew c.args.hub.now.origin c.args.hub.now.origin out printed before now history history kits) (sym c.requires)
          (headline_idle tells (number_of ended) crew crew c.args.hub.now.origin c.args.hub.now.origin out printed before now course history c.tally.ensures.legal (elim c.refuse_site.ensures.status [ inl of_fault ↦ inl (ap number_of of_fault) | inr memory ↦ inr (ap number_of memory) ], refl, refl) (Tells-same (GrowsBy []) crew (λ x. sym (append-nil x))) refl
          (Prints-weaker out printed (fault_line wrong) (Rose before now ⊎ (ended ≡ status.NoMemory)) (IsExcused before now (number_of ended))
          (λ either. elim either [ inl rose ↦ inl rose | inr memory ↦ inr (ap number_of memory) ]) c.refuse_site.ensures.printed)),
    )

pub returns-in-Check-clause-headline : goal.returns-in-Check-clause-headline
returns-in-Check-clause-headline g c =
    let tells : KitTells g.row.W.Denot g.row.K.Denot g.row.U.Denot = record { wire = g.W.Wire.told; clock = g.K.Clock.told; luck = g.U.Luck.told; failures = g.W.Wire.failures_in_a_row; has_ended = g.W.Wire.has_ended } in
    let crew = g.C.Crew.told c.args.crew.now in
    let history = c.args.hub.now.history in
    let out = g.O.Sink.told c.args.out.now in
    let before = g.O.Sink.faults c.args.out.now in
    let printed = g.O.Sink.told c.pass_check.new.out in
    let now = g.O.Sink.faults c.pass_check.new.out in
    let order = c.in-Ok-Some.order in
    let folder = c.as_str.result.now in
    let folder_is : order.folder ≡ folder = sym (ap (λ (o : OrderSeen). o.folder) c.order.view_is) ∙ sym c.as_str.ensures.value in
    let task_is : order.task ≡ Check = sym (ap (λ (o : OrderSeen). o.task) c.order.view_is) ∙ c.in-Check.is in
    let site = c.in-Ok.generation in
    let ended = c.pass_check.result in
    let course : Course = Checked site in (
      course,
      checked_course (map string_bytes c.args.words.now) folder site (g.F.Files.told c.args.files.now) (g.F.Files.told c.build.new.files) (ordered (map string_bytes c.args.words.now) order Check folder (sym c.in-Ok-Some.ensures ∙ c.in-Ok-Some.field-0-is) task_is folder_is) c.in-Ok.ensures.told,
      subst (λ (kits : List (Kit g.row.W.Denot g.row.S.Denot g.row.K.Denot g.row.U.Denot g.row.G.Denot)). Headline tells course (number_of ended) crew crew c.args.hub.now.origin c.args.hub.now.origin out printed before now history history kits) (sym c.requires)
          (headline_idle tells (number_of ended) crew crew c.args.hub.now.origin c.args.hub.now.origin out printed before now course history c.tally.ensures.legal (elim c.pass_check.ensures.status [ inl done ↦ inl (ap number_of done) | inr cut ↦ inr (ap number_of cut.0) ], refl, refl) (Tells-same (GrowsBy []) crew (λ x. sym (append-nil x))) refl
          (Prints-weaker out printed checked_line (Rose before now) (IsExcused before now (number_of ended)) (λ rose. inl rose) c.pass_check.ensures.printed)),
    )

pub returns-clause-headline : goal.returns-clause-headline
returns-clause-headline g c =
    let order = c.in-Ok-Some.order in
    let folder = c.as_str.result.now in
    let folder_is : order.folder ≡ folder = sym (ap (λ (o : OrderSeen). o.folder) c.order.view_is) ∙ sym c.as_str.ensures.value in
    let task_is : order.task ≡ Serve = sym (ap (λ (o : OrderSeen). o.task) c.order.view_is) ∙ c.in-Serve.is in (
      Serving c.in-Ok.generation,
      serving_course (map string_bytes c.args.words.now) folder c.in-Ok.generation (g.F.Files.told c.args.files.now) (g.F.Files.told c.build.new.files) (ordered (map string_bytes c.args.words.now) order Serve folder (sym c.in-Ok-Some.ensures ∙ c.in-Ok-Some.field-0-is) task_is folder_is) c.in-Ok.ensures.told,
      c.serve_site.ensures.headline,
    )

pub returns-in-Err-build-clause-refused : goal.returns-in-Err-build-clause-refused
returns-in-Err-build-clause-refused g c =
    let order = c.in-Ok-Some.order in
    let folder = c.as_str.result.now in
    let folder_is : order.folder ≡ folder = sym (ap (λ (o : OrderSeen). o.folder) c.order.view_is) ∙ sym c.as_str.ensures.value in
    IsRefused-by_fault (map string_bytes c.args.words.now) folder c.in-Err-build.fault
    (g.F.Files.told c.args.files.now) (g.F.Files.told c.build.new.files) (g.O.Sink.told c.args.out.now) (g.O.Sink.told c.refuse_site.new.out)
    (g.O.Sink.faults c.args.out.now) (g.O.Sink.faults c.refuse_site.new.out) c.refuse_site.result
    (folder_of_order (map string_bytes c.args.words.now) order (sym c.in-Ok-Some.ensures ∙ c.in-Ok-Some.field-0-is) ∙ ap Some folder_is) c.in-Err-build.ensures.told c.refuse_site.ensures.status c.refuse_site.ensures.printed

pub returns-in-Err-build-clause-served : goal.returns-in-Err-build-clause-served
returns-in-Err-build-clause-served g c =
    let order = c.in-Ok-Some.order in
    let folder = c.as_str.result.now in
    let folder_is : order.folder ≡ folder = sym (ap (λ (o : OrderSeen). o.folder) c.order.view_is) ∙ sym c.as_str.ensures.value in
    SiteGives-by_fault (map string_bytes c.args.words.now) folder c.in-Err-build.fault (g.F.Files.told c.args.files.now) (g.F.Files.told c.build.new.files)
    (NothingFailed g.W.Wire.failures_in_a_row (g.F.Files.faults c.args.files.now) (g.F.Files.faults c.build.new.files) (g.C.Crew.faults c.args.crew.now) (g.C.Crew.faults c.args.crew.now) (g.O.Sink.faults c.args.out.now) (g.O.Sink.faults c.refuse_site.new.out) c.args.hub.now.history c.args.kits.now.items)
    c.refuse_site.result (folder_of_order (map string_bytes c.args.words.now) order (sym c.in-Ok-Some.ensures ∙ c.in-Ok-Some.field-0-is) ∙ ap Some folder_is) c.in-Err-build.ensures.told c.refuse_site.ensures.status (λ is fine. fine.files (c.in-Err-build.ensures.faults.cause (ap Err is)))

pub returns-in-Err-build-clause-checking : goal.returns-in-Err-build-clause-checking
returns-in-Err-build-clause-checking g c =
    let order = c.in-Ok-Some.order in
    let folder = c.as_str.result.now in
    let folder_is : order.folder ≡ folder = sym (ap (λ (o : OrderSeen). o.folder) c.order.view_is) ∙ sym c.as_str.ensures.value in
    λ check. SiteGives-by_fault (map string_bytes c.args.words.now) folder c.in-Err-build.fault (g.F.Files.told c.args.files.now) (g.F.Files.told c.build.new.files)
    (NothingFailedOfCheck (g.F.Files.faults c.args.files.now) (g.F.Files.faults c.build.new.files) (g.O.Sink.faults c.args.out.now) (g.O.Sink.faults c.refuse_site.new.out))
    c.refuse_site.result (folder_of_order (map string_bytes c.args.words.now) order (sym c.in-Ok-Some.ensures ∙ c.in-Ok-Some.field-0-is) ∙ ap Some folder_is) c.in-Err-build.ensures.told c.refuse_site.ensures.status (λ is fine. fine.files (c.in-Err-build.ensures.faults.cause (ap Err is)))

pub returns-in-Err-build-clause-found : goal.returns-in-Err-build-clause-found
returns-in-Err-build-clause-found g c =
    FaultGives-by_fault (map string_bytes c.args.words.now) c.in-Err-build.fault (g.F.Files.told c.args.files.now) (g.F.Files.told c.build.new.files) _ c.refuse_site.result c.in-Err-build.ensures.told c.refuse_site.ensures.status
