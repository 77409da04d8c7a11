-- The values that a reference names in the three lists of a request, and their text, after unlang(5). That `[#]` names one
-- number, and that the values of `[*]` are joined by commas, are this project's own.
use Rattle.std.specs.Prelude.{ℕ, List, [], ◌∷◌, ◌++◌, length, slice_get}
use Rattle.std.specs.Option.{option_to_list}
use Rattle.std.specs.List.{flat_map}
use Rattle.std.specs.Fmt.{decimal}
use Rattle.rad_words.specs.declared.attributes.AttrId.{AttrId}
use Rattle.rad_value.specs.declared.values.Value.{Value}
use Rattle.rad_value.specs.declared.values.Value.TheVariants as value
use Rattle.rad_value.specs.PairLists.{PairLists, list_of}
use Rattle.rad_value.specs.Pairs as pairs
use Rattle.rad_dict.specs.Definitions.{Definitions}
use Rattle.rad_pairs.specs.ValueText.{plain_text}
use Rattle.unlang_reference.specs.declared.reference.Reference.{Reference}
use Rattle.unlang_reference.specs.declared.reference.Which.{Which}
use Rattle.unlang_reference.specs.declared.reference.Which.TheVariants.{Nth, All, Count}

-- The values of the reference's attribute in its list, in the list's order.
abbrev pub stored_values : Reference → PairLists → List Value
stored_values reference lists = pairs.values_of reference.attr.id (list_of lists reference.list)

-- Of an attribute's values, those that are meant; the number of them is a value of its own.
abbrev pub meant : Which → List Value → List Value
meant (Nth n) values = option_to_list (slice_get values n)
meant All values = values
meant Count values = value.Number (length values) ∷ []

-- The values that a reference names, in order.
abbrev pub values_of : Reference → PairLists → List Value
values_of reference lists = meant reference.which (stored_values reference lists)

-- The plain texts of values, each behind a comma, and joined by commas.
abbrev pub others : AttrId → List Value → Definitions → List ℕ
others attr values dict = flat_map (λ (v : Value). 44 ∷ plain_text attr v dict) values

-- The plain texts of values, joined by commas.
abbrev pub joined : AttrId → List Value → Definitions → List ℕ
joined attr [] dict = []
joined attr (first ∷ rest) dict = plain_text attr first dict ++ others attr rest dict

-- The text of what is meant: the values' plain texts joined by commas, or their number in decimal. No value has no text.
abbrev pub text_by : Which → AttrId → List Value → Definitions → List ℕ
text_by (Nth n) attr values dict = joined attr (meant (Nth n) values) dict
text_by All attr values dict = joined attr values dict
text_by Count attr values dict = decimal (length values)

-- The text of what a reference names in the lists.
abbrev pub text_of : Reference → PairLists → Definitions → List ℕ
text_of reference lists dict = text_by reference.which reference.attr.id (stored_values reference lists) dict
