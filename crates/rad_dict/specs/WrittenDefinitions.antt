-- Definitions that are written as a dictionary file: its vendors; then its attributes, each between the lines that begin
-- and end its vendor where it has one; then its values, each by a name of its attribute. After the manual page
-- dictionary(5) of FreeRADIUS.
use Rattle.std.specs.Prelude.{◌≡◌, ℕ, ◌<◌, List, [], ◌∷◌, ◌++◌, map, Option, Some, None}
use Rattle.std.specs.List.{flat_map}
use Rattle.rad_dict.specs.declared.definitions.AttrDef.{AttrDef}
use Rattle.rad_dict.specs.declared.definitions.ValueDef.{ValueDef}
use Rattle.rad_dict.specs.declared.vendors.Vendor.{Vendor}
use Rattle.rad_dict.specs.Definitions.{Definitions, attr_named, number_of}
use Rattle.rad_dict.specs.Base.{base_definitions}
use Rattle.rad_dict.specs.Lines.{Statement, attribute, value, vendor, begins, ends}
use Rattle.rad_dict.specs.Readings.{vendor_named, id_of, values_below}

-- An attribute, and the vendor whose it is.
pub record WrittenAttr : Type 0 where
  pub of_vendor : Option Vendor
  pub def : AttrDef

-- A value, and a name of its attribute.
pub record WrittenValue : Type 0 where
  pub of_attr : List ℕ
  pub def : ValueDef

-- What a file defines.
pub record Writing : Type 0 where
  pub vendors : List Vendor
  pub attrs : List WrittenAttr
  pub values : List WrittenValue

-- The statements of an attribute, by its vendor.
abbrev pub attr_statements : Option Vendor → AttrDef → List Statement
attr_statements None def = attribute def.name def.id.number def.kind ∷ []
attr_statements (Some one) def = begins one.name ∷ attribute def.name def.id.number def.kind ∷ ends one.name ∷ []

-- The statement of a vendor.
abbrev pub vendor_statement : Vendor → Statement
vendor_statement one = vendor one.name one.number

-- The statement of a value.
abbrev pub value_statement : WrittenValue → Statement
value_statement written = value written.of_attr written.def.name written.def.number

-- The statements of a file, in their order.
abbrev pub statements_of : Writing → List Statement
statements_of writing =
    map vendor_statement writing.vendors
    ++ (flat_map (λ (written : WrittenAttr). attr_statements written.of_vendor written.def) writing.attrs ++ map value_statement writing.values)

-- The base, and behind it what the file defines.
abbrev pub defined_by : Writing → Definitions
defined_by writing = record {
  attrs = base_definitions.attrs ++ map (λ (written : WrittenAttr). written.def) writing.attrs;
  values = base_definitions.values ++ map (λ (written : WrittenValue). written.def) writing.values;
}

-- The dictionary with one more attribute.
abbrev pub with_attr : AttrDef → Definitions → Definitions
with_attr def dict = record { attrs = dict.attrs ++ def ∷ []; values = dict.values }

-- The dictionary with one more value.
abbrev pub with_value : ValueDef → Definitions → Definitions
with_value def dict = record { attrs = dict.attrs; values = dict.values ++ def ∷ [] }

-- Each vendor's name is new among those before it.
abbrev pub AreNewVendors : List Vendor → List Vendor → Type 0
AreNewVendors known [] = Unit {0}
AreNewVendors known (one ∷ more) = (vendor_named one.name known ≡ None) × AreNewVendors (known ++ one ∷ []) more

-- The vendor is one of these, by its name.
abbrev pub IsVendorOf : List Vendor → Option Vendor → Type 0
IsVendorOf vendors None = Unit {0}
IsVendorOf vendors (Some one) = vendor_named one.name vendors ≡ Some one

-- The attribute's number is one of its vendor's space, or of the standard and the internal one, and its name is new.
pub record IsNewAttr (vendors : List Vendor) (dict : Definitions) (written : WrittenAttr) : Type 0 where
  pub known : IsVendorOf vendors written.of_vendor
  pub number : id_of written.of_vendor written.def.id.number ≡ Some written.def.id
  pub new : attr_named written.def.name dict ≡ None

-- Each attribute is new, behind those before it.
abbrev pub AreNewAttrs : List Vendor → Definitions → List WrittenAttr → Type 0
AreNewAttrs vendors dict [] = Unit {0}
AreNewAttrs vendors dict (written ∷ more) = IsNewAttr vendors dict written × AreNewAttrs vendors (with_attr written.def dict) more

-- The attribute that the name means is the value's, and has values; the value's number is in its range, and its name is
-- new.
pub record IsNewValue (dict : Definitions) (written : WrittenValue) : Type 0 where
  pub row : AttrDef
  pub limit : ℕ
  pub found : attr_named written.of_attr dict ≡ Some row
  pub same : row.id ≡ written.def.attr
  pub has_values : values_below row.kind ≡ Some limit
  pub within : written.def.number < limit
  pub new : number_of written.def.attr written.def.name dict ≡ None

-- Each value is new, behind those before it.
abbrev pub AreNewValues : Definitions → List WrittenValue → Type 0
AreNewValues dict [] = Unit {0}
AreNewValues dict (written ∷ more) = IsNewValue dict written × AreNewValues (with_value written.def dict) more

-- The dictionary with all of these attributes.
abbrev pub with_attrs : List WrittenAttr → Definitions → Definitions
with_attrs [] dict = dict
with_attrs (written ∷ more) dict = with_attrs more (with_attr written.def dict)

-- Nothing that a file defines stands already, in the base or above it in the file.
pub record IsNew (writing : Writing) : Type 0 where
  pub vendors : AreNewVendors [] writing.vendors
  pub attrs : AreNewAttrs writing.vendors base_definitions writing.attrs
  pub values : AreNewValues (with_attrs writing.attrs base_definitions) writing.values
