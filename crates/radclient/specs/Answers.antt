-- What a run of the client does, as a function of what its devices still have to answer: to each send whether the wire
-- takes it, to each ask an answer, and random words. This project's own.
use Rattle.std.specs.Prelude.{ℕ, Bool, true, false, List, [], ◌∷◌, ◌++◌}
use Rattle.rad_outside.specs.declared.listen.Peer.{Peer}
use Rattle.rad_outside.specs.declared.wire.Heard.{Heard}
use Rattle.radclient.specs.declared.stop.Unmade.{Unmade}

-- The answers that are still to come, each list in order.
pub record ToCome : Type 0 where
  pub taken : List Bool
  pub heard : List Heard
  pub words : List ℕ

-- A datagram that is handed to the wire.
pub record Sending : Type 0 where
  pub to : Peer
  pub octets : List ℕ

-- How a run ends: its packets were tried, and so many got no good reply; a packet can't be made; the wire failed; or the
-- answers that are given are used up.
pub data Ending : Type 0 where
  Finished : (bad : ℕ) → Ending
  NotMade : (reason : Unmade) → Ending
  SocketFault : Ending
  Unanswered : Ending

-- A run: what it sends, what it prints, how it ends, and the answers that it leaves.
pub record Run : Type 0 where
  pub sends : List Sending
  pub lines : List ℕ
  pub ending : Ending
  pub left : ToCome

-- What is still to be done, by the answers that are still to come.
abbrev pub Act : Type 0
Act = ToCome → Run

-- A run that ends here and does nothing more.
abbrev pub ended : Ending → Act
ended ending come = record { sends = []; lines = []; ending = ending; left = come }

-- A run with these sends and lines before its own.
abbrev pub with_front : List Sending → List ℕ → Run → Run
with_front sends lines run = record run { sends = sends ++ run.sends; lines = lines ++ run.lines }

-- Prints these lines and goes on.
abbrev pub saying : List ℕ → Act → Act
saying lines next come = with_front [] lines (next come)

-- Hands a datagram to the wire, and goes on where the wire takes it.
abbrev pub sending : Sending → Act → Act
sending datagram next come = elim come.taken [
  | [] ↦ ended Unanswered come
  | taken ∷ more ↦ with_front (datagram ∷ []) [] (elim taken [
    | true ↦ next (record come { taken = more })
    | false ↦ ended SocketFault (record come { taken = more })
  ])
]

-- Asks the wire, and goes on by its answer.
abbrev pub asking : (Heard → Act) → Act
asking next come = elim come.heard [
  | [] ↦ ended Unanswered come
  | answer ∷ more ↦ next answer (record come { heard = more })
]

-- Takes a random word, and goes on with it.
abbrev pub drawing : (ℕ → Act) → Act
drawing next come = elim come.words [
  | [] ↦ ended Unanswered come
  | word ∷ more ↦ next word (record come { words = more })
]
