-- The attributes of the base dictionary, by number, name and kind: RFC 2865 section 5, RFC 2866 section 5,
-- Event-Timestamp of RFC 2869 section 5.3 and Message-Authenticator of RFC 3579 section 3.2. The internal
-- ones, which never go on the wire and are numbered from 1, are this project's own, after FreeRADIUS.
use Rattle.std.specs.Prelude.{ℕ, List, [], ◌∷◌, ◌++◌, map, codes}
use Prim.Native.String.{String}
use Rattle.rad_words.specs.declared.attributes.Kind.{Kind}
use Rattle.rad_words.specs.declared.attributes.Kind.TheVariants.{Text, Octets, Addr, Number, Date}
use Rattle.rad_words.specs.Names.{Row}
use Rattle.rad_words.specs.declared.attributes.Space.TheVariants.{Standard, Internal}
use Rattle.rad_dict.specs.declared.definitions.AttrDef.{AttrDef}
use Rattle.rad_dict.specs.Rows.{attr_def}

-- A standard attribute, by its number, name and kind.
abbrev pub standard : ℕ → String → Kind → AttrDef
standard number name kind = attr_def Standard number kind (codes name)

-- An internal attribute, by its number, name and kind.
abbrev pub internal : ℕ → String → Kind → AttrDef
internal number name kind = attr_def Internal number kind (codes name)

-- The standard attributes, by their numbers (RFC 2865 section 5, RFC 2866 section 5, RFC 2869 section 5.3, RFC 3579 section 3.2).
unfoldable pub standard_attrs : List AttrDef
standard_attrs =
    standard 1 "User-Name" Text
    ∷ standard 2 "User-Password" Text
    ∷ standard 3 "CHAP-Password" Octets
    ∷ standard 4 "NAS-IP-Address" Addr
    ∷ standard 5 "NAS-Port" Number
    ∷ standard 6 "Service-Type" Number
    ∷ standard 7 "Framed-Protocol" Number
    ∷ standard 8 "Framed-IP-Address" Addr
    ∷ standard 9 "Framed-IP-Netmask" Addr
    ∷ standard 10 "Framed-Routing" Number
    ∷ standard 11 "Filter-Id" Text
    ∷ standard 12 "Framed-MTU" Number
    ∷ standard 13 "Framed-Compression" Number
    ∷ standard 14 "Login-IP-Host" Addr
    ∷ standard 15 "Login-Service" Number
    ∷ standard 16 "Login-TCP-Port" Number
    ∷ standard 18 "Reply-Message" Text
    ∷ standard 19 "Callback-Number" Text
    ∷ standard 20 "Callback-Id" Text
    ∷ standard 22 "Framed-Route" Text
    ∷ standard 24 "State" Octets
    ∷ standard 25 "Class" Octets
    ∷ standard 26 "Vendor-Specific" Octets
    ∷ standard 27 "Session-Timeout" Number
    ∷ standard 28 "Idle-Timeout" Number
    ∷ standard 29 "Termination-Action" Number
    ∷ standard 30 "Called-Station-Id" Text
    ∷ standard 31 "Calling-Station-Id" Text
    ∷ standard 32 "NAS-Identifier" Text
    ∷ standard 33 "Proxy-State" Octets
    ∷ standard 34 "Login-LAT-Service" Text
    ∷ standard 35 "Login-LAT-Node" Text
    ∷ standard 36 "Login-LAT-Group" Octets
    ∷ standard 37 "Framed-AppleTalk-Link" Number
    ∷ standard 38 "Framed-AppleTalk-Network" Number
    ∷ standard 39 "Framed-AppleTalk-Zone" Text
    ∷ standard 40 "Acct-Status-Type" Number
    ∷ standard 41 "Acct-Delay-Time" Number
    ∷ standard 42 "Acct-Input-Octets" Number
    ∷ standard 43 "Acct-Output-Octets" Number
    ∷ standard 44 "Acct-Session-Id" Text
    ∷ standard 45 "Acct-Authentic" Number
    ∷ standard 46 "Acct-Session-Time" Number
    ∷ standard 47 "Acct-Input-Packets" Number
    ∷ standard 48 "Acct-Output-Packets" Number
    ∷ standard 49 "Acct-Terminate-Cause" Number
    ∷ standard 50 "Acct-Multi-Session-Id" Text
    ∷ standard 51 "Acct-Link-Count" Number
    ∷ standard 55 "Event-Timestamp" Date
    ∷ standard 60 "CHAP-Challenge" Octets
    ∷ standard 61 "NAS-Port-Type" Number
    ∷ standard 62 "Port-Limit" Number
    ∷ standard 63 "Login-LAT-Port" Text
    ∷ standard 80 "Message-Authenticator" Octets
    ∷ []

-- The internal attributes, which never go on the wire.
unfoldable pub internal_attrs : List AttrDef
internal_attrs =
    internal 1 "Auth-Type" Text
    ∷ internal 2 "Post-Auth-Type" Text
    ∷ internal 3 "Response-Packet-Type" Text
    ∷ internal 4 "Cleartext-Password" Text
    ∷ internal 5 "MD5-Password" Octets
    ∷ internal 6 "SHA-Password" Octets
    ∷ internal 7 "SSHA-Password" Octets
    ∷ internal 8 "Simultaneous-Use" Number
    ∷ internal 9 "Fall-Through" Text
    ∷ internal 10 "Realm" Text
    ∷ internal 11 "Stripped-User-Name" Text
    ∷ internal 12 "Tmp-String-0" Text
    ∷ internal 13 "Tmp-String-1" Text
    ∷ internal 14 "Tmp-Integer-0" Number
    ∷ internal 15 "Tmp-Integer-1" Number
    ∷ []

-- The base's attributes, the standard ones first.
abbrev pub base_attrs : List AttrDef
base_attrs = standard_attrs ++ internal_attrs

-- The names and numbers of attributes, and their kinds.
abbrev pub names_of : List AttrDef → List Row
names_of attrs = map (λ (row : AttrDef). record { name = row.name; number = row.id.number }) attrs

-- The kinds of attributes, in their order.
abbrev pub kinds_of : List AttrDef → List Kind
kinds_of attrs = map (λ (row : AttrDef). row.kind) attrs
