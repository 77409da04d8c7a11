use Rattle.std.proofs.Common.{Option, IfSome, slice_get, sym, subst}
use Rattle.regex.specs.declared.bytes.regex.Regex.{Regex}
use Rattle.mod_users.specs.Patterns.{pattern_of, IsReady}
use Rattle.mod_users.proofs.RowLemmas.{ready_at}
use Rattle.mod_users.proofs.fits.pattern_at.Goals as goal

pub returns : goal.returns
returns c =
    subst (λ (regex : Option Regex). IfSome (slice_get c.args._items.now c.args.n) (λ item. IsReady (pattern_of item) regex)) (sym c.regex_at.ensures)
    (ready_at c.args._items.now c.args.regexes.now c.args.n c.requires)
