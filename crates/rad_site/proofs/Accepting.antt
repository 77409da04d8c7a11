-- An Access-Accept answers a request that was accepted.
use Rattle.std.specs.Prelude.{take}
use Rattle.std.proofs.Common.{◌≡◌, ℕ, Bool, List, [], ◌∷◌, Option, Some, None, refl, ap, ◌∙◌, arith}
use Rattle.std.proofs.lemmas.Option.{same_Some}
use Rattle.rad_value.specs.PairLists.{PairLists}
use Rattle.rad_value.specs.Pairs.{first_text}
use Rattle.rad_wire.specs.Reply.{reply_octets}
use Rattle.rad_packet.specs.Packet.{packet_of}
use Rattle.rad_policy.specs.declared.arrival.Arrived.{Arrived}
use Rattle.rad_policy.specs.Policy.{Replies, Withholds}
use Rattle.rad_access.specs.declared.verdict.Verdict.{Verdict}
use Rattle.rad_access.specs.declared.verdict.Verdict.TheVariants as verdict
use Rattle.rad_access.specs.declared.response.Asked.{Asked}
use Rattle.rad_access.specs.declared.response.Asked.TheVariants as asked
use Rattle.rad_access.specs.Attributes.{response_packet_type}
use Rattle.rad_access.specs.Decided.{decided}
use Rattle.rad_access.specs.Responses.{asked_by, code_for, response_of}
use Rattle.rad_site.specs.Site.{Site}
use Rattle.rad_site.specs.Request.{secret_of, reply_with, access_of}
use Rattle.rad_site.specs.Accepts.{IsAccessAccept, begun_by}

code_two : (v : Verdict) (a : Asked) → code_for v a ≡ Some 2 → v ≡ verdict.Accept
code_two verdict.Accept a is = refl
code_two verdict.Reject asked.Usual is = absurd (let no : 3 ≡ 2 = same_Some 3 2 is in omega arith)
code_two verdict.Reject asked.Challenge is = absurd (let no : 11 ≡ 2 = same_Some 11 2 is in omega arith)
code_two verdict.Reject asked.Nothing is = absurd (cc)
code_two verdict.Withhold a is = absurd (cc)

replied : (lists : PairLists) (packet secret octets : List ℕ) (code : Option ℕ) → reply_with lists code packet secret ≡ Replies octets → IsAccessAccept octets → code ≡ Some 2
unfolding reply_octets
replied lists packet secret octets None is two = absurd (cc)
replied lists packet secret octets (Some code) is two =
    let same : reply_octets code lists.reply packet secret ≡ octets = cc in
    let first : code ∷ [] ≡ 2 ∷ [] = ap (take 1) same ∙ two in
    let code_is : code ≡ 2 = cc in
    ap (λ (n : ℕ). Some n) code_is

pub accepted : (site : Site) (arrival : Arrived) (moment luck : ℕ) (answers : List Bool) (octets : List ℕ) → access_of site arrival moment luck answers ≡ Replies octets → IsAccessAccept octets
    → (decided site.policies site.dict arrival.server (begun_by site arrival moment luck answers)).1 ≡ verdict.Accept
unfolding access_of
accepted site arrival moment luck answers octets is two =
    let end = decided site.policies site.dict arrival.server (begun_by site arrival moment luck answers) in
    code_two end.1 (asked_by (first_text response_packet_type end.0.scope.lists.control))
    (replied end.0.scope.lists (packet_of arrival.bytes) (secret_of site arrival.from.addr) octets (response_of end.0.scope.lists end.1) is two)
