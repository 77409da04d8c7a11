-- The default action of a group on the code of a child, by the kind of the group and the section that
-- it stands in. This project's own table, after FreeRADIUS 3 and unlang(5).
use Rattle.rad_words.specs.declared.codes.Code.{Code}
use Rattle.rad_words.specs.declared.codes.Code.TheVariants.{Reject, Fail, Ok, Handled, Invalid, Userlock, Notfound, Noop, Updated}
use Rattle.rad_words.specs.declared.sections.Section.{Section}
use Rattle.rad_words.specs.declared.sections.Section.TheVariants.{Authorize, Authenticate, Session, Preacct, Accounting, PostAuth}
use Rattle.rad_tables.specs.declared.group_kind.GroupKind.{GroupKind}
use Rattle.rad_tables.specs.declared.group_kind.GroupKind.TheVariants.{Plain, Redundant}
use Rattle.rad_tables.specs.declared.action_table.Action.{Action}
use Rattle.rad_tables.specs.declared.action_table.Action.TheVariants.{Return, Priority}

-- One row of the table: the actions on one code, a column for each kind of place.
pub record Row : Type 0 where
  pub authorize : Action
  pub authenticate : Action
  pub session : Action
  pub accounting : Action
  pub redundant : Action

-- A row, its five columns as the table below has them.
abbrev pub row : Action → Action → Action → Action → Action → Row
row authorize authenticate session accounting redundant = record {
  authorize = authorize;
  authenticate = authenticate;
  session = session;
  accounting = accounting;
  redundant = redundant;
}

-- The table's words: `ret` returns at once, `pr1` to `pr4` go on with that priority.
abbrev pub ret : Action
ret = Return

-- The least priority of the tables.
abbrev pub pr1 : Action
pr1 = Priority 1

-- Priority 2.
abbrev pub pr2 : Action
pr2 = Priority 2

-- Priority 3.
abbrev pub pr3 : Action
pr3 = Priority 3

-- The greatest priority of the tables.
abbrev pub pr4 : Action
pr4 = Priority 4

-- The table, a row for each code. Its five columns, from the left: authorize and post-auth;
-- authenticate; session; preacct and accounting; every section inside `redundant` and
-- `redundant-load-balance`.
abbrev pub row_of : Code → Row
row_of Reject =
    row ret ret ret ret ret
row_of Fail =
    row ret pr1 pr1 ret pr1
row_of Ok =
    row pr3 ret ret pr2 ret
row_of Handled =
    row ret ret ret ret ret
row_of Invalid =
    row ret pr1 ret ret ret
row_of Userlock =
    row ret ret ret ret ret
row_of Notfound =
    row pr1 ret ret ret ret
row_of Noop =
    row pr2 pr1 ret pr1 ret
row_of Updated =
    row pr4 pr1 ret pr3 ret

-- The column of a section, inside a group of this kind.
abbrev pub column_of : Section → GroupKind → Row → Action
column_of Authorize Plain r = r.authorize
column_of Authenticate Plain r = r.authenticate
column_of Session Plain r = r.session
column_of Preacct Plain r = r.accounting
column_of Accounting Plain r = r.accounting
column_of PostAuth Plain r = r.authorize
column_of Authorize Redundant r = r.redundant
column_of Authenticate Redundant r = r.redundant
column_of Session Redundant r = r.redundant
column_of Preacct Redundant r = r.redundant
column_of Accounting Redundant r = r.redundant
column_of PostAuth Redundant r = r.redundant

-- The table's cell: the default action on this code in a group of this kind in this section.
abbrev pub default_action : Section → GroupKind → Code → Action
default_action section kind code = column_of section kind (row_of code)
