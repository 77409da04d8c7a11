-- The attributes that `realm` speaks of (RFC 2865 section 5.1; the internal ones after FreeRADIUS).
use Rattle.rad_words.specs.declared.attributes.AttrId.{AttrId}
use Rattle.mod_lists.specs.Attributes.{standard, internal}

-- User-Name (RFC 2865 section 5.1).
abbrev pub user_name : AttrId
user_name = standard 1

-- Realm.
abbrev pub realm : AttrId
realm = internal 10

-- Stripped-User-Name.
abbrev pub stripped_user_name : AttrId
stripped_user_name = internal 11
