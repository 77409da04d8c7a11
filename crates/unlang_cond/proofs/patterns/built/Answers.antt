use Rattle.std.proofs.Common.{◌≡◌, List, ℕ, Bool, false, ap₂, subst, rules}
use Rattle.regex.specs.Bytes.{regex_source, regex_config}
use Rattle.regex.specs.Patterns.{Config, Refuses}
use Rattle.regex.specs.Views.{builder_source, builder_config}
use Rattle.unlang_cond.specs.Patterns.{is_insensitive, config_of}
use Rattle.unlang_cond.proofs.Meant.{text_readable}
use Rattle.unlang_cond.proofs.Refused.{not_within}
use Rattle.unlang_cond.proofs.patterns.built.Goals as goal

pub returns-in-Ok : goal.returns-in-Ok
returns-in-Ok c =
    let source_is : regex_source c.in-Ok.regex ≡ c.args.source.now = search rules in
    let insensitive_is : is_insensitive c.in-Ok.regex ≡ c.args.insensitive = search rules in
    let config_is : regex_config c.in-Ok.regex ≡ config_of (is_insensitive c.in-Ok.regex) = search rules in
    let readable = text_readable c.in-Ok.regex (record { config_is = config_is; read = c.in-Ok.ensures.read }) in (
      ap₂ (λ (s : List ℕ) (i : Bool). (s, i)) source_is insensitive_is,
      rw (← source_is, ← insensitive_is) readable,
    )

pub returns-in-Err-Syntax : goal.returns-in-Err-Syntax
returns-in-Err-Syntax c =
    let given = c.in-Err-Syntax in
    let source_is : builder_source c.case_insensitive.result ≡ c.args.source.now = search rules in
    let config_is : record (builder_config c.case_insensitive.result) { utf8 = false } ≡ config_of c.args.insensitive = search rules in
    let refused = given.ensures.refused given.field-0-0 given.field-0-is in
    let by_config = subst (λ (config : Config). Refuses config (builder_source c.case_insensitive.result) given.field-0-0.kind) config_is refused in
    not_within c.args.source.now c.args.insensitive given.field-0-0.kind
    (subst (λ (source : List ℕ). Refuses (config_of c.args.insensitive) source given.field-0-0.kind) source_is by_config) (rw given.field-0-is at given.ensures.kind)
