-- The kind that a value is of (RFC 2865 section 5).
use Rattle.rad_words.specs.declared.attributes.Kind.{Kind}
use Rattle.rad_words.specs.declared.attributes.Kind.TheVariants as kind
use Rattle.rad_value.specs.declared.values.Value.{Value}
use Rattle.rad_value.specs.declared.values.Value.TheVariants as value

-- The kind of a value (RFC 2865 section 5).
abbrev pub kind_of_value : Value → Kind
kind_of_value (value.Text text) = kind.Text
kind_of_value (value.Octets octets) = kind.Octets
kind_of_value (value.Addr address) = kind.Addr
kind_of_value (value.Number number) = kind.Number
kind_of_value (value.Date seconds) = kind.Date
kind_of_value (value.Byte number) = kind.Byte
kind_of_value (value.Short number) = kind.Short
