-- The lines that the client prints. The texts are this project's own, after radclient(1) of FreeRADIUS.
use Rattle.std.specs.Prelude.{ℕ, ◌==◌, List, [], ◌∷◌, ◌++◌, length, Option, Some, None, codes, if◌then◌else◌}
use Rattle.std.specs.List.{flat_map}
use Rattle.std.specs.Fmt.{decimal}
use Rattle.rad_outside.specs.declared.listen.Peer.{Peer}
use Rattle.rad_text.specs.Addresses.{dotted}
use Rattle.rad_value.specs.declared.values.Pair.{Pair}
use Rattle.rad_dict.specs.Base.{base_definitions}
use Rattle.rad_packet.specs.Packet.{code_of, id_of, packet_of}
use Rattle.rad_wire.specs.Pairs.{pairs_of}
use Rattle.rad_pairs.specs.ValueText.{pair_text}
use Rattle.radclient.specs.declared.asked.Asked.{Asked}

-- The name of a packet's code (RFC 2865 section 4, RFC 2866 section 4). Other codes have none.
abbrev pub code_name : ℕ → List ℕ
code_name code =
    if code == 1 then codes "Access-Request"
    else (if code == 2 then codes "Access-Accept"
    else (if code == 3 then codes "Access-Reject"
    else (if code == 4 then codes "Accounting-Request"
    else (if code == 5 then codes "Accounting-Response"
    else (if code == 11 then codes "Access-Challenge"
    else [])))))

-- `ADDRESS:PORT length N` and the line's end.
abbrev pub line_end : List ℕ → Peer → List ℕ
line_end packet peer =
    dotted peer.addr ++ codes ":" ++ decimal peer.port ++ codes " length " ++ decimal (length packet) ++ 10 ∷ []

-- `VERB NAME Id N WAY ADDRESS:PORT length N`: a packet that went to a peer or came from one.
unfoldable pub packet_line : List ℕ → List ℕ → List ℕ → Peer → List ℕ
packet_line verb packet way peer =
    verb ++ code_name (code_of packet) ++ codes " Id " ++ decimal (id_of packet) ++ way ++ line_end packet peer

-- The line of a pair, behind a tab.
abbrev pub pair_line : Pair → List ℕ
pair_line pair = 9 ∷ pair_text pair base_definitions ++ 10 ∷ []

-- A line for each pair.
abbrev pub pair_lines : List Pair → List ℕ
pair_lines pairs = flat_map pair_line pairs

-- Lines that are printed, unless the client is quiet.
abbrev pub unless_quiet : Asked → List ℕ → List ℕ
unless_quiet asked lines = if asked.quiet then [] else lines

-- What is printed of a request that was sent: `Sent ..`, and where pairs are shown those of its group.
abbrev pub sent_lines : Asked → List ℕ → List Pair → List ℕ
sent_lines asked request pairs =
    packet_line (codes "Sent ") request (codes " to ") asked.server ++ (if asked.shown then pair_lines pairs else [])

-- What is printed of a reply: `Received ..` and its pairs. A datagram's octets behind its packet are ignored.
abbrev pub reply_lines : Asked → List ℕ → List ℕ
reply_lines asked reply =
    packet_line (codes "Received ") (packet_of reply) (codes " from ") asked.server
    ++ pair_lines (pairs_of (packet_of reply) asked.secret base_definitions)

-- `No reply for Id N`
abbrev pub no_reply_line : ℕ → List ℕ
no_reply_line id = codes "No reply for Id " ++ decimal id ++ 10 ∷ []

-- What is printed at a packet's end: its reply, or that there was none.
abbrev pub closing_lines : Asked → ℕ → Option (List ℕ) → List ℕ
closing_lines asked id (Some reply) = reply_lines asked reply
closing_lines asked id None = no_reply_line id
