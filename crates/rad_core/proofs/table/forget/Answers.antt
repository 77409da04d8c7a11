use Rattle.std.proofs.Common.{rules, map, ap, ◌∙◌, sym, subst}
use Rattle.std.proofs.lemmas.Fn.{filter_same}
use Rattle.rad_core.specs.Requests.{lasts_at, LastTo}
use Rattle.rad_core.specs.Rows.{kept_seen}
use Rattle.rad_core.proofs.Rows.{map-filter}
use Rattle.rad_core.proofs.Lasting.{left_last}
use Rattle.rad_core.proofs.table.forget.Goals as goal

pub returns-clause-items : goal.returns-clause-items
returns-clause-items c =
    ap (map kept_seen) (filter_same _ (λ reply. lasts_at c.args.moment (kept_seen reply)) _ (λ reply answer after called. search rules) _ _ c.retain.ensures.filtered)
    ∙ map-filter kept_seen (lasts_at c.args.moment) c.args.kept.now.items

pub returns-clause-last : goal.returns-clause-last
returns-clause-last c = subst (LastTo c.args.moment) (sym (returns-clause-items c)) (left_last c.args.moment (map kept_seen c.args.kept.now.items))
