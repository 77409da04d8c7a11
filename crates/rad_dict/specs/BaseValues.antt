-- The named values of the base dictionary, each a row of a standard attribute's number, the value's number
-- and its name. The numbers are those of RFC 2865 section 5 and RFC 2866 section 5; the spellings are this
-- project's own, after FreeRADIUS. The attributes: 6 Service-Type, 7 Framed-Protocol, 10 Framed-Routing,
-- 13 Framed-Compression, 15 Login-Service, 29 Termination-Action, 40 Acct-Status-Type, 45 Acct-Authentic,
-- 49 Acct-Terminate-Cause, 61 NAS-Port-Type.
use Rattle.std.specs.Prelude.{ℕ, ◌==◌, List, [], ◌∷◌, map, filter, codes}
use Prim.Native.String.{String}
use Rattle.rad_words.specs.Names.{Row}
use Rattle.rad_dict.specs.declared.definitions.ValueDef.{ValueDef}
use Rattle.rad_dict.specs.Rows.{value_def}

-- A named value of a standard attribute.
abbrev pub named : ℕ → ℕ → String → ValueDef
named attr number name = value_def attr number (codes name)

-- The named values of the base, attribute by attribute.
unfoldable pub base_values : List ValueDef
base_values =
    named 6 1 "Login-User"
    ∷ named 6 2 "Framed-User"
    ∷ named 6 3 "Callback-Login-User"
    ∷ named 6 4 "Callback-Framed-User"
    ∷ named 6 5 "Outbound-User"
    ∷ named 6 6 "Administrative-User"
    ∷ named 6 7 "NAS-Prompt-User"
    ∷ named 6 8 "Authenticate-Only"
    ∷ named 6 9 "Callback-NAS-Prompt"
    ∷ named 6 10 "Call-Check"
    ∷ named 6 11 "Callback-Administrative"
    ∷ named 7 1 "PPP"
    ∷ named 7 2 "SLIP"
    ∷ named 10 0 "None"
    ∷ named 10 1 "Broadcast"
    ∷ named 10 2 "Listen"
    ∷ named 10 3 "Broadcast-Listen"
    ∷ named 13 0 "None"
    ∷ named 13 1 "Van-Jacobson-TCP-IP"
    ∷ named 15 0 "Telnet"
    ∷ named 15 1 "Rlogin"
    ∷ named 15 2 "TCP-Clear"
    ∷ named 15 3 "PortMaster"
    ∷ named 15 4 "LAT"
    ∷ named 29 0 "Default"
    ∷ named 29 1 "RADIUS-Request"
    ∷ named 40 1 "Start"
    ∷ named 40 2 "Stop"
    ∷ named 40 3 "Interim-Update"
    ∷ named 40 7 "Accounting-On"
    ∷ named 40 8 "Accounting-Off"
    ∷ named 45 1 "RADIUS"
    ∷ named 45 2 "Local"
    ∷ named 45 3 "Remote"
    ∷ named 49 1 "User-Request"
    ∷ named 49 2 "Lost-Carrier"
    ∷ named 49 3 "Lost-Service"
    ∷ named 49 4 "Idle-Timeout"
    ∷ named 49 5 "Session-Timeout"
    ∷ named 49 6 "Admin-Reset"
    ∷ named 49 7 "Admin-Reboot"
    ∷ named 49 8 "Port-Error"
    ∷ named 49 9 "NAS-Error"
    ∷ named 49 10 "NAS-Request"
    ∷ named 49 11 "NAS-Reboot"
    ∷ named 61 0 "Async"
    ∷ named 61 1 "Sync"
    ∷ named 61 2 "ISDN"
    ∷ named 61 5 "Virtual"
    ∷ named 61 15 "Ethernet"
    ∷ named 61 19 "Wireless-802.11"
    ∷ []

-- The names and numbers of one attribute's values.
abbrev pub value_names : ℕ → List ValueDef → List Row
value_names attr values = map (λ (row : ValueDef). record { name = row.name; number = row.number }) (filter (λ (row : ValueDef). row.attr.number == attr) values)
