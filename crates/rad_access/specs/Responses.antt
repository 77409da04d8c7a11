-- The code of a reply: by what became of the request, and by Response-Packet-Type of the control list. Codes after RFC 2865
-- section 4; the attribute after FreeRADIUS.
use Rattle.std.specs.Prelude.{ℕ, List, Option, Some, None, codes, if◌then◌else◌}
use Rattle.std.specs.Str.{str_eq_ignore_ascii_case}
use Rattle.rad_value.specs.Pairs.{first_text}
use Rattle.rad_value.specs.PairLists.{PairLists}
use Rattle.rad_access.specs.declared.verdict.Verdict.{Verdict}
use Rattle.rad_access.specs.declared.verdict.Verdict.TheVariants as verdict
use Rattle.rad_access.specs.declared.response.Asked.{Asked}
use Rattle.rad_access.specs.declared.response.Asked.TheVariants as asked
use Rattle.rad_access.specs.Attributes.{response_packet_type}

-- What a Response-Packet-Type asks for, in any case of its ASCII letters. Other values have no effect.
abbrev pub asked_by : Option (List ℕ) → Asked
asked_by None = asked.Usual
asked_by (Some name) =
    if str_eq_ignore_ascii_case name (codes "Do-Not-Respond") then asked.Nothing
    else (if str_eq_ignore_ascii_case name (codes "Access-Challenge") then asked.Challenge
    else asked.Usual)

-- The code of a reply for which another is asked or not: an Access-Challenge is 11.
abbrev pub code_asked : ℕ → Asked → Option ℕ
code_asked usual asked.Usual = Some usual
code_asked usual asked.Challenge = Some 11
code_asked usual asked.Nothing = None

-- The code of a verdict's reply: an Access-Accept is 2 and an Access-Reject 3, where no other is asked for.
abbrev pub code_for : Verdict → Asked → Option ℕ
code_for verdict.Accept asked = code_asked 2 asked
code_for verdict.Reject asked = code_asked 3 asked
code_for verdict.Withhold asked = None

-- The code of the reply that a request's lists and verdict make: by the first Response-Packet-Type of the control list.
abbrev pub response_of : PairLists → Verdict → Option ℕ
response_of lists verdict = code_for verdict (asked_by (first_text response_packet_type lists.control))
