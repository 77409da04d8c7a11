use Rattle.std.proofs.Common.{◌≡◌, Bool, true, false, ◌&&◌, ◌+◌, drop, sym, ap, subst, ◌∙◌, Some, rules}
use Rattle.std.specs.Option.{IfSome}
use Rattle.std.specs.List.{slice_get}
use Rattle.rad_pairs.specs.declared.items.Item.{Item}
use Rattle.mod_users.specs.Patterns.{pattern_of, IsReady}
use Rattle.mod_users.specs.Fits.{is_fit, are_fit}
use Rattle.mod_users.proofs.Walks.{drop-at, drop-past}
use Rattle.mod_users.proofs.fits.are_fit.Goals as goal

pub returns-in_default : goal.returns-in_default
returns-in_default c =
    let n = c.loop-n.n in
    sym (ap (λ items. are_fit items c.args.lists.now.request c.args.dict.now) (drop-past c.args.items.now n (sym c.in_default.ensures))) ∙ c.loop-n.invariant

pub returns-then-not-branch : goal.returns-then-not-branch
returns-then-not-branch c =
    let n = c.loop-n.n in
    let pairs = c.args.lists.now.request in
    let dict = c.args.dict.now in
    let item = c.in-Some.item.now in
    let fails : is_fit item.op item pairs dict ≡ false = search rules in
    sym (ap (λ items. are_fit items pairs dict) (drop-at c.args.items.now n item (sym c.in-Some.ensures)) ∙ ap (λ (b : Bool). b && are_fit (drop (n + 1) c.args.items.now) pairs dict) fails) ∙ c.loop-n.invariant

pub loop-n-preserved : goal.loop-n-preserved
loop-n-preserved c =
    let n = c.loop-n.n in
    let pairs = c.args.lists.now.request in
    let dict = c.args.dict.now in
    let item = c.in-Some.item.now in
    let passes : is_fit item.op item pairs dict ≡ true = search rules in
    sym (ap (λ items. are_fit items pairs dict) (drop-at c.args.items.now n item (sym c.in-Some.ensures)) ∙ ap (λ (b : Bool). b && are_fit (drop (n + 1) c.args.items.now) pairs dict) passes) ∙ c.loop-n.invariant
