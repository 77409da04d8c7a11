-- The attributes that the server's own rules speak of (RFC 2865 section 5; the internal ones after FreeRADIUS).
use Rattle.rad_words.specs.declared.attributes.AttrId.{AttrId}
use Rattle.rad_words.specs.declared.attributes.Space.TheVariants.{Standard, Internal}

-- Reply-Message (RFC 2865 section 5.18).
abbrev pub reply_message : AttrId
reply_message = record { space = Standard; number = 18 }

-- Auth-Type, the first internal attribute.
abbrev pub auth_type : AttrId
auth_type = record { space = Internal; number = 1 }

-- Response-Packet-Type, the third.
abbrev pub response_packet_type : AttrId
response_packet_type = record { space = Internal; number = 3 }
