-- Definitions that are written, statement by statement.
use Rattle.std.proofs.Common.{◌≡◌, ℕ, ◌+◌, List, [], ◌∷◌, ◌++◌, map, Option, Some, None, Result, Ok, Err, refl, sym, ap, append_assoc, ◌∙◌}
use Rattle.std.specs.List.{flat_map}
use Rattle.std.proofs.lemmas.Bool.{cond-true, lt-ltb}
use Rattle.std.proofs.lemmas.List.{append-nil}
use Rattle.std.proofs.lemmas.List.Concat.{flat_map-cons}
use Rattle.rad_words.specs.declared.attributes.AttrId.{AttrId}
use Rattle.rad_text.specs.Read.{◌>>=◌}
use Rattle.rad_text.specs.Paths.{place_at}
use Rattle.rad_dict.specs.declared.change.Change.{Change}
use Rattle.rad_dict.specs.declared.change.Change.TheVariants as change
use Rattle.rad_dict.specs.declared.definitions.AttrDef.{AttrDef}
use Rattle.rad_dict.specs.declared.definitions.ValueDef.{ValueDef}
use Rattle.rad_dict.specs.declared.fault.Wrong.{Wrong}
use Rattle.rad_dict.specs.declared.reading.Reading.{Reading}
use Rattle.rad_dict.specs.declared.vendors.Vendor.{Vendor}
use Rattle.rad_dict.specs.Definitions.{Definitions, attr_named, number_of}
use Rattle.rad_dict.specs.Base.{base_definitions}
use Rattle.rad_dict.specs.Lines.{Statement, attribute, begins, ends}
use Rattle.rad_dict.specs.Readings.{vendor_named, id_of, changed, attr_change, attr_of_id, value_change, value_below, value_of_attr, vendor_change, begin_change, change_of, after}
use Rattle.rad_dict.specs.Steps.{fault_of}
use Rattle.rad_dict.specs.FirstReading.{reading_of}
use Rattle.rad_dict.specs.Includes.{ended, dict_read}
use Rattle.rad_dict.specs.Written.{statements_read}
use Rattle.rad_dict.specs.WrittenDefinitions.{WrittenAttr, WrittenValue, Writing, attr_statements, vendor_statement, value_statement, statements_of, defined_by, with_attr, with_value, AreNewVendors, IsVendorOf, AreNewAttrs, IsNewValue, AreNewValues, with_attrs, IsNew}
use Rattle.rad_dict.proofs.Lookups.{same_itself}

-- What is known, by its parts.
abbrev known : Definitions → List Vendor → Option Vendor → ℕ → Reading
known dict vendors present octets = record { dict = dict; vendors = vendors; present = present; octets = octets }

-- From one reading these statements lead to another, wherever they stand and whatever follows them.
abbrev Leads : Reading → List Statement → Reading → Type 0
Leads reading statements next = (file : List ℕ) (line : ℕ) (more : List Statement) → (last : ℕ) × (statements_read file line reading (statements ++ more) ≡ statements_read file last next more)

one_leads : (reading next : Reading) (one : Statement) → after one reading ≡ Ok next → Leads reading (one ∷ []) next
one_leads reading next one e file line more = (
  line + 1,
  ap (λ (read : Result Reading Wrong). elim read [ Ok next ↦ statements_read file (line + 1) next more | Err wrong ↦ Err (fault_of (place_at file line) wrong) ]) e,
)

none_leads : (reading : Reading) → Leads reading [] reading
none_leads reading file line more = (line, refl)

leads_on : (reading mid next : Reading) (first second : List Statement) → Leads reading first mid → Leads mid second next → Leads reading (first ++ second) next
leads_on reading mid next first second one other file line more =
    let here = one file line (second ++ more) in
    let there = other file here.0 more in
    (there.0, ap (statements_read file line reading) (append_assoc first second more) ∙ here.1 ∙ there.1)

-- Vendors.
vendor_after : (one : Vendor) (dict : Definitions) (vendors : List Vendor) (octets : ℕ) → vendor_named one.name vendors ≡ None
    → after (vendor_statement one) (known dict vendors None octets) ≡ Ok (known dict (vendors ++ one ∷ []) None octets)
unfolding after change_of vendor_change
vendor_after one dict vendors octets e = rw e refl

vendors_lead : (more vendors : List Vendor) (dict : Definitions) (octets : ℕ) → AreNewVendors vendors more
    → Leads (known dict vendors None octets) (map vendor_statement more) (known dict (vendors ++ more) None octets)
vendors_lead [] vendors dict octets new file line rest = (line, ap (λ (all : List Vendor). statements_read file line (known dict all None octets) rest) (sym (append-nil vendors)))
vendors_lead (one ∷ more) vendors dict octets new file line rest =
    let first = one_leads (known dict vendors None octets) (known dict (vendors ++ one ∷ []) None octets) (vendor_statement one) (vendor_after one dict vendors octets new.0) in
    let others = vendors_lead more (vendors ++ one ∷ []) dict octets new.1 in
    let all = leads_on (known dict vendors None octets) (known dict (vendors ++ one ∷ []) None octets) (known dict ((vendors ++ one ∷ []) ++ more) None octets) (vendor_statement one ∷ []) (map vendor_statement more) first others file line rest in
    (all.0, all.1 ∙ ap (λ (v : List Vendor). statements_read file all.0 (known dict v None octets) rest) (append_assoc vendors (one ∷ []) more))

-- Attributes.
new_attr : (def : AttrDef) (dict : Definitions) → attr_named def.name dict ≡ None → attr_change def dict ≡ Ok (change.Attr def)
unfolding attr_change
new_attr def dict e = rw (e, attr_change) refl

attr_after : (def : AttrDef) (dict : Definitions) (vendors : List Vendor) (present : Option Vendor) (octets : ℕ) → id_of present def.id.number ≡ Some def.id → attr_named def.name dict ≡ None
    → after (attribute def.name def.id.number def.kind) (known dict vendors present octets) ≡ Ok (known (with_attr def dict) vendors present octets)
unfolding after change_of
attr_after def dict vendors present octets number new =
    ap (λ (id : Option AttrId). attr_of_id id def.name def.kind dict >>= λ one. Ok (changed one (known dict vendors present octets))) number
    ∙ ap (λ (read : Result Change Wrong). read >>= λ one. Ok (changed one (known dict vendors present octets))) (new_attr def dict new)

begin_after : (one : Vendor) (dict : Definitions) (vendors : List Vendor) (octets : ℕ) → vendor_named one.name vendors ≡ Some one
    → after (begins one.name) (known dict vendors None octets) ≡ Ok (known dict vendors (Some one) octets)
unfolding after change_of
begin_after one dict vendors octets e = ap (λ (row : Option Vendor). begin_change row >>= λ next. Ok (changed next (known dict vendors None octets))) e

end_after : (one : Vendor) (dict : Definitions) (vendors : List Vendor) (octets : ℕ) → after (ends one.name) (known dict vendors (Some one) octets) ≡ Ok (known dict vendors None octets)
unfolding after change_of
end_after one dict vendors octets = rw (same_itself one.name) refl

attr_leads : (of_vendor : Option Vendor) (def : AttrDef) (dict : Definitions) (vendors : List Vendor) (octets : ℕ) → IsVendorOf vendors of_vendor → id_of of_vendor def.id.number ≡ Some def.id → attr_named def.name dict ≡ None
    → Leads (known dict vendors None octets) (attr_statements of_vendor def) (known (with_attr def dict) vendors None octets)
attr_leads None def dict vendors octets is number new =
    one_leads (known dict vendors None octets) (known (with_attr def dict) vendors None octets) (attribute def.name def.id.number def.kind) (attr_after def dict vendors None octets number new)
attr_leads (Some one) def dict vendors octets is number new =
    let line = attribute def.name def.id.number def.kind in
    leads_on (known dict vendors None octets) (known dict vendors (Some one) octets) (known (with_attr def dict) vendors None octets) (begins one.name ∷ []) (line ∷ ends one.name ∷ [])
    (one_leads (known dict vendors None octets) (known dict vendors (Some one) octets) (begins one.name) (begin_after one dict vendors octets is))
    (leads_on (known dict vendors (Some one) octets) (known (with_attr def dict) vendors (Some one) octets) (known (with_attr def dict) vendors None octets) (line ∷ []) (ends one.name ∷ [])
    (one_leads (known dict vendors (Some one) octets) (known (with_attr def dict) vendors (Some one) octets) line (attr_after def dict vendors (Some one) octets number new))
    (one_leads (known (with_attr def dict) vendors (Some one) octets) (known (with_attr def dict) vendors None octets) (ends one.name) (end_after one (with_attr def dict) vendors octets)))

abbrev statements_in : List WrittenAttr → List Statement
statements_in attrs = flat_map (λ (written : WrittenAttr). attr_statements written.of_vendor written.def) attrs

attrs_lead : (attrs : List WrittenAttr) (dict : Definitions) (vendors : List Vendor) (octets : ℕ) → AreNewAttrs vendors dict attrs
    → Leads (known dict vendors None octets) (statements_in attrs) (known (with_attrs attrs dict) vendors None octets)
attrs_lead [] dict vendors octets new file line rest = (line, refl)
attrs_lead (one ∷ more) dict vendors octets new file line rest =
    let first = attr_leads one.of_vendor one.def dict vendors octets new.0.known new.0.number new.0.new in
    let others = attrs_lead more (with_attr one.def dict) vendors octets new.1 in
    let all = leads_on (known dict vendors None octets) (known (with_attr one.def dict) vendors None octets) (known (with_attrs (one ∷ more) dict) vendors None octets) (attr_statements one.of_vendor one.def) (statements_in more) first others file line rest in
    (all.0, ap (λ (s : List Statement). statements_read file line (known dict vendors None octets) (s ++ rest)) (flat_map-cons (λ (written : WrittenAttr). attr_statements written.of_vendor written.def) one more) ∙ all.1)

-- Values.
new_value : (def : ValueDef) (dict : Definitions) → number_of def.attr def.name dict ≡ None → value_change def dict ≡ Ok (change.Value def)
unfolding value_change
new_value def dict e = rw (e, value_change) refl

value_in : (written : WrittenValue) (dict : Definitions) → IsNewValue dict written → value_of_attr (attr_named written.of_attr dict) written.def.name written.def.number dict ≡ Ok (change.Value written.def)
value_in written dict is =
    let name = written.def.name in
    let number = written.def.number in
    ap (λ (row : Option AttrDef). value_of_attr row name number dict) is.found
    ∙ ap (λ (limit : Option ℕ). value_below limit is.row.id name number dict) is.has_values
    ∙ cond-true _ _ _ (lt-ltb number is.limit is.within)
    ∙ ap (λ (attr : AttrId). value_change (record { attr = attr; number = number; name = name }) dict) is.same
    ∙ new_value written.def dict is.new

value_after : (written : WrittenValue) (dict : Definitions) (vendors : List Vendor) (octets : ℕ) → IsNewValue dict written
    → after (value_statement written) (known dict vendors None octets) ≡ Ok (known (with_value written.def dict) vendors None octets)
unfolding after change_of
value_after written dict vendors octets is = ap (λ (read : Result Change Wrong). read >>= λ one. Ok (changed one (known dict vendors None octets))) (value_in written dict is)

abbrev with_values : List WrittenValue → Definitions → Definitions
with_values [] dict = dict
with_values (written ∷ more) dict = with_values more (with_value written.def dict)

values_lead : (values : List WrittenValue) (dict : Definitions) (vendors : List Vendor) (octets : ℕ) → AreNewValues dict values
    → Leads (known dict vendors None octets) (map value_statement values) (known (with_values values dict) vendors None octets)
values_lead [] dict vendors octets new = none_leads (known dict vendors None octets)
values_lead (one ∷ more) dict vendors octets new =
    leads_on (known dict vendors None octets) (known (with_value one.def dict) vendors None octets) (known (with_values (one ∷ more) dict) vendors None octets) (value_statement one ∷ []) (map value_statement more)
    (one_leads (known dict vendors None octets) (known (with_value one.def dict) vendors None octets) (value_statement one) (value_after one dict vendors octets new.0))
    (values_lead more (with_value one.def dict) vendors octets new.1)

-- The dictionary that they come to.
all_attrs : (attrs : List WrittenAttr) (dict : Definitions) → with_attrs attrs dict ≡ record { attrs = dict.attrs ++ map (λ (written : WrittenAttr). written.def) attrs; values = dict.values }
all_attrs [] dict = ap (λ (rows : List AttrDef). record { attrs = rows; values = dict.values }) (sym (append-nil dict.attrs))
all_attrs (one ∷ more) dict =
    all_attrs more (with_attr one.def dict)
    ∙ ap (λ (rows : List AttrDef). record { attrs = rows; values = dict.values }) (append_assoc dict.attrs (one.def ∷ []) (map (λ (written : WrittenAttr). written.def) more))

all_values : (values : List WrittenValue) (dict : Definitions) → with_values values dict ≡ record { attrs = dict.attrs; values = dict.values ++ map (λ (written : WrittenValue). written.def) values }
all_values [] dict = ap (λ (rows : List ValueDef). record { attrs = dict.attrs; values = rows }) (sym (append-nil dict.values))
all_values (one ∷ more) dict =
    all_values more (with_value one.def dict)
    ∙ ap (λ (rows : List ValueDef). record { attrs = dict.attrs; values = rows }) (append_assoc dict.values (one.def ∷ []) (map (λ (written : WrittenValue). written.def) more))

no_vendor : (file : List ℕ) (dict : Definitions) (vendors : List Vendor) (octets : ℕ) → ended file (known dict vendors None octets) ≡ Ok (known dict vendors None octets)
unfolding ended
no_vendor file dict vendors octets = refl

pub definitions_back : (writing : Writing) (file : List ℕ) (octets : ℕ) → IsNew writing → dict_read (statements_read file 1 (reading_of octets) (statements_of writing)) ≡ Ok (defined_by writing)
definitions_back writing file octets new =
    let base = base_definitions in
    let vendors = writing.vendors in
    let attrs = with_attrs writing.attrs base in
    let last = with_values writing.values attrs in
    let attr_lines = statements_in writing.attrs in
    let value_lines = map value_statement writing.values in
    let start = known base [] None octets in
    let behind_vendors = known base vendors None octets in
    let end = known last vendors None octets in
    let all = leads_on start behind_vendors end (map vendor_statement vendors) (attr_lines ++ value_lines) (vendors_lead vendors [] base octets new.vendors)
    (leads_on behind_vendors (known attrs vendors None octets) end attr_lines value_lines (attrs_lead writing.attrs base vendors octets new.attrs) (values_lead writing.values attrs vendors octets new.values))
    file 1 [] in
    ap dict_read (ap (statements_read file 1 start) (sym (append-nil (statements_of writing))) ∙ all.1 ∙ no_vendor file last vendors octets)
    ∙ ap Ok (all_values writing.values attrs ∙ ap (λ (dict : Definitions). record { attrs = dict.attrs; values = dict.values ++ map (λ (written : WrittenValue). written.def) writing.values }) (all_attrs writing.attrs base))
