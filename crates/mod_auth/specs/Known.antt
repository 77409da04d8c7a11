-- By which pair of the control list a password is known. After FreeRADIUS' rlm_pap(5); that the first of the four in the
-- list's own order decides is this project's own.
use Rattle.std.specs.Prelude.{Bool, Option, Some, None, if◌then◌else◌}
use Rattle.std.specs.List.{find}
use Rattle.std.specs.Option.{is_some}
use Rattle.rad_words.specs.declared.attributes.AttrId.{AttrId}
use Rattle.rad_words.specs.Attribute.{same_attr}
use Rattle.rad_value.specs.declared.values.Pair.{Pair}
use Rattle.rad_value.specs.PairLists.{PairLists}
use Rattle.mod_auth.specs.declared.scheme.Scheme.{Scheme}
use Rattle.mod_auth.specs.declared.scheme.Scheme.TheVariants.{Cleartext, Md5, Sha, SaltedSha}
use Rattle.mod_auth.specs.Attributes.{cleartext_password, md5_password, sha_password, ssha_password}

-- How a password is known by an attribute, where the attribute is one of the four.
abbrev pub scheme_of : AttrId → Option Scheme
scheme_of attr =
    if same_attr attr cleartext_password then Some Cleartext
    else (if same_attr attr md5_password then Some Md5
    else (if same_attr attr sha_password then Some Sha
    else (if same_attr attr ssha_password then Some SaltedSha
    else None)))

-- Whether the pair is one of the four passwords.
abbrev pub is_password : Pair → Bool
is_password pair = is_some (scheme_of pair.attr)

-- The first pair of the control list that is one of the four passwords.
abbrev pub known_password : PairLists → Option Pair
known_password lists = find is_password lists.control
