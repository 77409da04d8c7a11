use Rattle.std.proofs.Common.{◌≡◌, ℕ, ◌++◌, List, [], IfOk, refl, subst, ap, ◌∙◌}
use Rattle.rad_words.specs.Names.{Row}
use Rattle.rad_dict.specs.declared.definitions.ValueDef.{ValueDef}
use Rattle.rad_dict.specs.Rows.{values_of}
use Rattle.rad_dict.specs.BaseValues.{base_values, value_names}
use Rattle.rad_dict.proofs.base_values.base_values.Goals as goal

-- the base's values of one attribute
abbrev of_attr : ℕ → List ValueDef
of_attr attr = values_of attr (value_names attr base_values)

-- one table more
longer : (before so_far : List ValueDef) (attr : ℕ) (rows : List Row) → before ≡ so_far → rows ≡ value_names attr base_values → before ++ values_of attr rows ≡ so_far ++ of_attr attr
longer before so_far attr rows same names = ap (λ (all : List Row). before ++ values_of attr all) names ∙ ap (λ (some : List ValueDef). some ++ of_attr attr) same

all_tables : List ValueDef
all_tables = of_attr 6 ++ of_attr 7 ++ of_attr 10 ++ of_attr 13 ++ of_attr 15 ++ of_attr 29 ++ of_attr 40 ++ of_attr 45 ++ of_attr 49 ++ of_attr 61

all_values : all_tables ≡ base_values
unfolding base_values all_tables
all_values = refl

pub returns : goal.returns
unfolding all_tables
returns c =
    let e1 = c.in_ok-rows.ensures ∙ longer c.new.result [] 6 c.service_types.result c.new.ensures c.service_types.ensures.rows in
    let e2 = c.in_ok-rows-2.ensures ∙ longer c.in_ok-rows.rows (of_attr 6) 7 c.framed_protocols.result e1 c.framed_protocols.ensures.rows in
    let e3 = c.in_ok-rows-3.ensures ∙ longer c.in_ok-rows-2.rows (of_attr 6 ++ of_attr 7) 10 c.framed_routings.result e2 c.framed_routings.ensures.rows in
    let e4 = c.in_ok-rows-4.ensures ∙ longer c.in_ok-rows-3.rows (of_attr 6 ++ of_attr 7 ++ of_attr 10) 13 c.framed_compressions.result e3 c.framed_compressions.ensures.rows in
    let e5 = c.in_ok-rows-5.ensures ∙ longer c.in_ok-rows-4.rows (of_attr 6 ++ of_attr 7 ++ of_attr 10 ++ of_attr 13) 15 c.login_services.result e4 c.login_services.ensures.rows in
    let e6 = c.in_ok-rows-6.ensures ∙ longer c.in_ok-rows-5.rows (of_attr 6 ++ of_attr 7 ++ of_attr 10 ++ of_attr 13 ++ of_attr 15) 29 c.termination_actions.result e5 c.termination_actions.ensures.rows in
    let e7 = c.in_ok-rows-7.ensures ∙ longer c.in_ok-rows-6.rows (of_attr 6 ++ of_attr 7 ++ of_attr 10 ++ of_attr 13 ++ of_attr 15 ++ of_attr 29) 40 c.acct_status_types.result e6 c.acct_status_types.ensures.rows in
    let e8 = c.in_ok-rows-8.ensures ∙ longer c.in_ok-rows-7.rows (of_attr 6 ++ of_attr 7 ++ of_attr 10 ++ of_attr 13 ++ of_attr 15 ++ of_attr 29 ++ of_attr 40) 45 c.acct_authentics.result e7 c.acct_authentics.ensures.rows in
    let e9 = c.in_ok-rows-9.ensures ∙ longer c.in_ok-rows-8.rows (of_attr 6 ++ of_attr 7 ++ of_attr 10 ++ of_attr 13 ++ of_attr 15 ++ of_attr 29 ++ of_attr 40 ++ of_attr 45) 49 c.acct_terminate_causes.result e8 c.acct_terminate_causes.ensures.rows in
    subst (λ (all : List ValueDef). IfOk c.add_table-10.result (λ new. new ≡ all)) (longer c.in_ok-rows-9.rows (of_attr 6 ++ of_attr 7 ++ of_attr 10 ++ of_attr 13 ++ of_attr 15 ++ of_attr 29 ++ of_attr 40 ++ of_attr 45 ++ of_attr 49) 61 c.nas_port_types.result e9 c.nas_port_types.ensures.rows ∙ all_values) c.add_table-10.ensures
