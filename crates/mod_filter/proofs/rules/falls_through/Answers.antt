use Rattle.std.proofs.Common.{◌≡◌, Bool, true, false, ◌||◌, ◌+◌, drop, sym, ap, ◌∙◌}
use Rattle.std.specs.List.{list_any}
use Rattle.mod_filter.specs.Filter.{goes_through}
use Rattle.mod_users.proofs.Walks.{drop-past, list_any-at}
use Rattle.mod_filter.proofs.rules.falls_through.Goals as goal

pub returns-in_default : goal.returns-in_default
returns-in_default c =
    sym (ap (list_any goes_through) (drop-past c.args.entry.now.replies c.loop-n.n (sym c.in_default.ensures))) ∙ c.loop-n.invariant

pub returns-then-goes_through : goal.returns-then-goes_through
returns-then-goes_through c =
    let items = c.args.entry.now.replies in
    let passes : goes_through c.in-Some.item.now ≡ true = cc in
    sym (list_any-at goes_through items c.loop-n.n c.in-Some.item.now (sym c.in-Some.ensures) ∙ ap (λ (b : Bool). b || list_any goes_through (drop (c.loop-n.n + 1) items)) passes) ∙ c.loop-n.invariant

pub loop-n-preserved : goal.loop-n-preserved
loop-n-preserved c =
    let items = c.args.entry.now.replies in
    let fails : goes_through c.in-Some.item.now ≡ false = cc in
    sym (list_any-at goes_through items c.loop-n.n c.in-Some.item.now (sym c.in-Some.ensures) ∙ ap (λ (b : Bool). b || list_any goes_through (drop (c.loop-n.n + 1) items)) fails) ∙ c.loop-n.invariant
