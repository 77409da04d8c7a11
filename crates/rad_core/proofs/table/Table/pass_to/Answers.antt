use Rattle.std.proofs.Common.{◌≡◌, ◌≤◌, List, map, ap, sym, subst, arith}
use Rattle.std.proofs.lemmas.Bool.Decides.{nat_tests}
use Rattle.rad_core.specs.Requests.{Requests, KeptReply, table_at}
use Rattle.rad_core.specs.Rows.{row_seen, kept_seen}
use Rattle.rad_core.proofs.Lasting.{all_left}
use Rattle.rad_core.proofs.table.Table.pass_to.Goals as goal

pub returns-else-self-moment : goal.returns-else-self-moment
returns-else-self-moment g c =
    let early : c.args.moment ≤ c.self.inside.oldest = grind (arith, nat_tests, c.if-self-moment.false) in
    let rows = map row_seen c.self.inside.in_progress.items in
    let kept = map kept_seen c.self.inside.kept.items in
    subst (λ (t : Requests _). t ≡ table_at c.args.moment t) c.self.view_is
    (ap (λ (k : List KeptReply). let t : Requests _ = record { in_progress = rows; kept = k } in t) (sym (all_left c.args.moment c.self.inside.oldest kept early c.self.invariant.2)))
