-- When two attributes are the same: one space, of one vendor there, and one number (RFC 2865 section 5).
use Rattle.std.specs.Prelude.{Bool, true, false, ◌&&◌, ◌==◌}
use Rattle.rad_words.specs.declared.attributes.AttrId.{AttrId}
use Rattle.rad_words.specs.declared.attributes.Space.{Space}
use Rattle.rad_words.specs.declared.attributes.Space.TheVariants.{Standard, Vendor, Internal}

-- Whether two spaces are the same.
abbrev pub same_space : Space → Space → Bool
same_space Standard Standard = true
same_space (Vendor v) (Vendor w) = v == w
same_space Internal Internal = true
same_space Standard (Vendor w) = false
same_space Standard Internal = false
same_space (Vendor v) Standard = false
same_space (Vendor v) Internal = false
same_space Internal Standard = false
same_space Internal (Vendor w) = false

-- Whether two attributes are the same: one space, one number.
abbrev pub same_attr : AttrId → AttrId → Bool
same_attr a b = same_space a.space b.space && a.number == b.number
