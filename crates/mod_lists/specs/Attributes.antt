-- The attributes that modules speak of, by their numbers (RFC 2865 section 5; the internal ones after FreeRADIUS).
use Rattle.std.specs.Prelude.{ℕ}
use Rattle.rad_words.specs.declared.attributes.AttrId.{AttrId}
use Rattle.rad_words.specs.declared.attributes.Space.TheVariants.{Standard, Internal}

-- The standard attribute of this number (RFC 2865 section 5).
abbrev pub standard : ℕ → AttrId
standard number = record { space = Standard; number = number }

-- The internal attribute of this number, which never goes on the wire.
abbrev pub internal : ℕ → AttrId
internal number = record { space = Internal; number = number }
