use Rattle.std.proofs.Common.{◌≡◌, Bool, true, false, ◌||◌, ◌+◌, drop, sym, ap, ◌∙◌}
use Rattle.std.specs.List.{list_any}
use Rattle.mod_users.specs.Fits.{is_equal_to}
use Rattle.mod_users.proofs.Walks.{drop-past, list_any-at}
use Rattle.mod_users.proofs.fits.has_equal.Goals as goal

pub returns-in_default : goal.returns-in_default
returns-in_default c =
    let p = is_equal_to c.args.item.now in
    sym (ap (list_any p) (drop-past c.args.lists.now.request c.loop-n.n (sym c.in_default.ensures))) ∙ c.loop-n.invariant

pub returns-then-is_equal_to : goal.returns-then-is_equal_to
returns-then-is_equal_to c =
    let p = is_equal_to c.args.item.now in
    let pairs = c.args.lists.now.request in
    let passes : p c.in-Some.pair.now ≡ true = cc in
    sym (list_any-at p pairs c.loop-n.n c.in-Some.pair.now (sym c.in-Some.ensures) ∙ ap (λ (b : Bool). b || list_any p (drop (c.loop-n.n + 1) pairs)) passes) ∙ c.loop-n.invariant

pub loop-n-preserved : goal.loop-n-preserved
loop-n-preserved c =
    let p = is_equal_to c.args.item.now in
    let pairs = c.args.lists.now.request in
    let fails : p c.in-Some.pair.now ≡ false = cc in
    sym (list_any-at p pairs c.loop-n.n c.in-Some.pair.now (sym c.in-Some.ensures) ∙ ap (λ (b : Bool). b || list_any p (drop (c.loop-n.n + 1) pairs)) fails) ∙ c.loop-n.invariant
