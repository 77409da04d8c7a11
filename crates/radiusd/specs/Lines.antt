-- The lines that the server prints. The texts are this project's own.
use Rattle.std.specs.Prelude.{ℕ, ◌/◌, ◌%◌, ◌++◌, List, [], ◌∷◌, codes}
use Rattle.std.specs.Fmt.{decimal}
use Rattle.rad_outside.specs.declared.listen.Peer.{Peer}
use Rattle.rad_serve.specs.declared.counts.Counts.{Counts}

-- An address in four decimal parts.
abbrev pub dotted : ℕ → List ℕ
dotted addr = decimal (addr / 16777216) ++ codes "." ++ decimal (addr / 65536 % 256) ++ codes "."
    ++ decimal (addr / 256 % 256) ++ codes "." ++ decimal (addr % 256)

-- `listening SERVER ADDRESS:PORT auth workers 1`
abbrev pub listening_line : List ℕ → Peer → List ℕ
listening_line server at = codes "listening " ++ server ++ codes " " ++ dotted at.addr ++ codes ":" ++ decimal at.port
    ++ codes " auth workers 1" ++ 10 ∷ []

-- `requests N replies N reloads N refused N`
abbrev pub counts_line : Counts → List ℕ
counts_line counts = codes "requests " ++ decimal counts.requests ++ codes " replies " ++ decimal counts.replies
    ++ codes " reloads " ++ decimal counts.reloads ++ codes " refused " ++ decimal counts.refused ++ 10 ∷ []

-- `socket fault`
abbrev pub socket_fault_line : List ℕ
socket_fault_line = codes "socket fault" ++ 10 ∷ []

-- `worn N`: the history has no room, since N turns are all that there are.
abbrev pub worn_line : List ℕ
worn_line = codes "worn 4611686018427387904" ++ 10 ∷ []

-- The usage line of words that are refused. It has `-B` too, which isn't taken yet.
abbrev pub usage_line : List ℕ
usage_line = codes "usage: radiusd [-C] [-s] [-f] [-d DIR] [-B N]" ++ 10 ∷ []

-- The line of a site that was checked and has no fault.
abbrev pub checked_line : List ℕ
checked_line = codes "Configuration appears to be OK" ++ 10 ∷ []
