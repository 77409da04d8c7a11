use Rattle.std.proofs.Common.{◌≡◌, None, map, ap, ◌∙◌, arith}
use Rattle.mod_users.specs.Search.{row_key}
use Rattle.mod_users.proofs.RowLemmas.{fault_found, pattern_found, rows_read, rows_ready}
use Rattle.mod_users.proofs.users.Users.read_form.Goals as goal

pub returns-in-Some : goal.returns-in-Some
returns-in-Some c =
    rw c.fault_of.ensures
    (fault_found c.args.form c.args.text.now c.args.dict.now c.in-Ok.field-0.drafts.items c.in-Ok.field-0.wrong c.in-Some.wrong c.in-Ok-rows_of.rows.items c.in-Ok.ensures.read c.in-Some.is c.in-Ok-rows_of.ensures.ready)

pub returns-in-Err-Wrong : goal.returns-in-Err-Wrong
returns-in-Err-Wrong c =
    rw c.in-Err-Wrong.field-0-is
    (pattern_found c.args.form c.args.text.now c.args.dict.now c.in-Ok.field-0.drafts.items c.in-Ok.field-0.wrong c.in-Err-Wrong.spot c.in-Ok.ensures.read (rw c.in-Err-Wrong.field-0-is at c.in-Err-Wrong.ensures.refused))

pub invariant_of-result : goal.invariant_of-result
invariant_of-result c = record {
  names = c.in-Ok-names_of.ensures ∙ ap (map row_key) c.as_slice.ensures.value;
  bound = omega (arith, c.in-Ok-rows_of.ensures.bound, c.in-Ok.ensures.bound);
  ready = rows_ready c.in-Ok.field-0.drafts.items c.in-Ok-rows_of.rows.items c.in-Ok-rows_of.ensures.ready;
}

pub returns : goal.returns
returns c =
    rows_read c.args.form c.args.text.now c.args.dict.now c.in-Ok.field-0.drafts.items c.in-Ok.field-0.wrong c.in-Ok-rows_of.rows.items c.in-Ok.ensures.read c.in_default-wrong.is c.in-Ok-rows_of.ensures.ready
