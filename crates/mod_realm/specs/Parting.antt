-- How a user's name is parted into the user and the realm. After FreeRADIUS' rlm_realm(5): a suffix behind the last delimiter,
-- a prefix before the first.
use Rattle.std.specs.Prelude.{ℕ, ◌+◌, ◌-◌, ◌==◌, List, length, take, drop, reverse, position, codes, Option, Some, None}
use Rattle.mod_realm.specs.declared.parting.RealmFormat.{RealmFormat}
use Rattle.mod_realm.specs.declared.parting.RealmFormat.TheVariants.{Suffix, Prefix}

-- The user before a suffix and the realm behind, at the last delimiter, behind which stand so many octets. Without a delimiter
-- the name is the user's, and the realm is NULL.
abbrev pub at_last : List ℕ → Option ℕ → List ℕ × List ℕ
at_last name None = (name, codes "NULL")
at_last name (Some behind) = (take (length name - behind - 1) name, drop (length name - behind - 1 + 1) name)

-- The realm before the first delimiter, before which stand so many octets, and the user behind. Without a delimiter the name
-- is the user's, and the realm is NULL.
abbrev pub at_first : List ℕ → Option ℕ → List ℕ × List ℕ
at_first name None = (name, codes "NULL")
at_first name (Some before) = (drop (before + 1) name, take before name)

-- The user and the realm of a name.
abbrev pub parted : RealmFormat → ℕ → List ℕ → List ℕ × List ℕ
parted Suffix delimiter name = at_last name (position (λ octet. octet == delimiter) (reverse name))
parted Prefix delimiter name = at_first name (position (λ octet. octet == delimiter) name)
