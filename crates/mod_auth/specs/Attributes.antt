-- The attributes that `pap` and `chap` speak of (RFC 2865 sections 5.2, 5.3 and 5.40; the internal ones after FreeRADIUS).
use Rattle.rad_words.specs.declared.attributes.AttrId.{AttrId}
use Rattle.mod_lists.specs.Attributes.{standard, internal}

-- User-Password (RFC 2865 section 5.2).
abbrev pub user_password : AttrId
user_password = standard 2

-- CHAP-Password (RFC 2865 section 5.3).
abbrev pub chap_password : AttrId
chap_password = standard 3

-- CHAP-Challenge (RFC 2865 section 5.40).
abbrev pub chap_challenge : AttrId
chap_challenge = standard 60

-- Auth-Type, the first internal attribute.
abbrev pub auth_type : AttrId
auth_type = internal 1

-- Cleartext-Password, MD5-Password, SHA-Password and SSHA-Password: the internal attributes by which a password is known.
abbrev pub cleartext_password : AttrId
cleartext_password = internal 4

-- The password's MD5 (RFC 1321).
abbrev pub md5_password : AttrId
md5_password = internal 5

-- The password's SHA-1 (FIPS 180-4).
abbrev pub sha_password : AttrId
sha_password = internal 6

-- The SHA-1 of the password and a salt, and the salt behind.
abbrev pub ssha_password : AttrId
ssha_password = internal 7
