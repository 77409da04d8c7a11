use Rattle.std.proofs.Common.{◌≡◌, List, [], ◌∷◌, ◌++◌, Option, sym, ap, ◌∙◌}
use Rattle.mod_users.specs.declared.draft.Draft.{Draft}
use Rattle.mod_users.specs.declared.placed.Placed.{Placed}
use Rattle.mod_users.specs.declared.fault.LineFault.{LineFault}
use Rattle.mod_users.specs.Reading.{replied, with_replies}
use Rattle.mod_users.proofs.ReadingLemmas.{replied-push}
use Rattle.mod_users.proofs.reading.add_replies.Goals as goal

pub returns-clause-ok : goal.returns-clause-ok
returns-clause-ok c =
    let front = c.pop.new.self.items in
    let number = c.args.number in
    let items = c.in_ok-items.field-0.items in
    let wrong = c.in_ok-items.field-0.wrong in
    let grown : with_replies items c.in-Some.draft ≡ c.in_ok-with_replies.field-0 = sym c.in_ok-with_replies.ensures in
    ap (λ (drafts : List Draft). (drafts, wrong)) c.in_ok-push.ensures.items
    ∙ ap (λ (draft : Draft). (front ++ draft ∷ [], wrong)) (sym grown)
    ∙ sym (replied-push number (items, wrong) front c.in-Some.draft)
    ∙ ap (λ (drafts : List Draft). replied number (items, wrong) drafts) (sym c.in-Some.ensures.items)
    ∙ ap (λ (read : List Placed × Option LineFault). replied number read c.args.drafts.now.items) c.in_ok-items.ensures
