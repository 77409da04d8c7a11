-- The operators that an item of a users file takes where it stands, after users(5) and the manual page rlm_attr_filter(5).
use Rattle.std.specs.Prelude.{Bool, true, false}
use Rattle.rad_words.specs.declared.attributes.Space.{Space}
use Rattle.rad_words.specs.declared.attributes.Space.TheVariants.{Standard, Vendor, Internal}
use Rattle.rad_pairs.specs.declared.items.PairOp.{PairOp}
use Rattle.rad_pairs.specs.declared.items.PairOp.TheVariants as op
use Rattle.mod_users.specs.declared.form.Form.{Form}
use Rattle.mod_users.specs.declared.form.Form.TheVariants.{Check, Reply, Filter}

-- An internal attribute never goes on the wire.
abbrev pub is_internal : Space → Bool
is_internal Standard = false
is_internal (Vendor vendor) = false
is_internal Internal = true

-- The operators that write a value: `=`, `:=` and `+=`.
abbrev pub is_assigned : PairOp → Bool
is_assigned op.Eq = true
is_assigned op.Set = true
is_assigned op.Append = true
is_assigned op.Equal = false
is_assigned op.Differs = false
is_assigned op.Lt = false
is_assigned op.Le = false
is_assigned op.Gt = false
is_assigned op.Ge = false
is_assigned op.Match = false
is_assigned op.NoMatch = false
is_assigned op.Any = false
is_assigned op.None = false

-- The operators of a filter's items: all but `=` and `+=`.
abbrev pub is_filtering : PairOp → Bool
is_filtering op.Eq = false
is_filtering op.Set = true
is_filtering op.Append = false
is_filtering op.Equal = true
is_filtering op.Differs = true
is_filtering op.Lt = true
is_filtering op.Le = true
is_filtering op.Gt = true
is_filtering op.Ge = true
is_filtering op.Match = true
is_filtering op.NoMatch = true
is_filtering op.Any = true
is_filtering op.None = true

-- The operators of a check item: all, but `=` for internal attributes alone.
abbrev pub is_checking : Space → PairOp → Bool
is_checking space op.Eq = is_internal space
is_checking space op.Set = true
is_checking space op.Append = true
is_checking space op.Equal = true
is_checking space op.Differs = true
is_checking space op.Lt = true
is_checking space op.Le = true
is_checking space op.Gt = true
is_checking space op.Ge = true
is_checking space op.Match = true
is_checking space op.NoMatch = true
is_checking space op.Any = true
is_checking space op.None = true

-- Whether an item that stands there takes this operator, for an attribute of this space.
abbrev pub takes : Form → Space → PairOp → Bool
takes Check space op = is_checking space op
takes Reply space op = is_assigned op
takes Filter space op = is_filtering op
