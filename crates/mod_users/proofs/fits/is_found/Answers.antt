use Rattle.std.proofs.Common.{is_some, ap, ◌∙◌}
use Rattle.regex.specs.Patterns.{Re, find}
use Rattle.regex.specs.Bytes.{regex_source}
use Rattle.mod_users.proofs.Compiled.{compiled_found}
use Rattle.mod_users.proofs.fits.is_found.Goals as goal

pub returns : goal.returns
returns c =
    c.is_match.ensures.found
    ∙ ap (λ (re : Re). is_some (find re c.args.text.now 0)) c.in_ok-matcher.ensures.pattern
    ∙ compiled_found (regex_source c.args.regex.now) c.args.regex.now c.args.text.now (λ k. (c.type_inv.text k).fits) c.requires
