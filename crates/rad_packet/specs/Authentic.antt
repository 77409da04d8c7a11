-- Which datagrams are taken, and why the others are dropped: RFC 2865 section 3, RFC 2866 section 3, RFC 3579 section 3.2.
use Rattle.std.specs.Prelude.{ℕ, ◌≡◌, ◌≢◌, ◌<◌, ◌⊎◌, List, length, drop, Option, Some, None, IfSome}
use Rattle.rad_outside.specs.declared.listen.ListenKind.{ListenKind}
use Rattle.rad_outside.specs.declared.listen.ListenKind.TheVariants.{Auth, Acct, Control}
use Rattle.rad_packet.specs.declared.client.Client.{Client}
use Rattle.rad_packet.specs.declared.cause.DropCause.{DropCause}
use Rattle.rad_packet.specs.declared.cause.DropCause.TheVariants.{UnknownClient, Short, BadLength, WrongCode, BadAttribute, BadAuthenticator, BadMessageAuthenticator}
use Rattle.rad_packet.specs.Packet.{Attribute, AreAttributes, IsPacket, authenticator_of, code_of, length_of, packet_of}
use Rattle.rad_packet.specs.Signatures.{IsIntact, IsTampered, accounting_authenticator}

-- The code of the requests that a listener takes: 1 Access-Request, 4 Accounting-Request. A control listener takes no packets.
abbrev pub IsCodeFor : ListenKind → ℕ → Type 0
IsCodeFor Auth code = code ≡ 1
IsCodeFor Acct code = code ≡ 4
IsCodeFor Control code = ⊥

-- What each cause of a drop says of the whole datagram. Attribute 80, Message-Authenticator, is looked at in an
-- Access-Request; in an Accounting-Request it is octets like others, and the authenticator is a digest.
abbrev pub Holds : DropCause → List ℕ → Option Client → ListenKind → Type 0
Holds UnknownClient datagram client kind = client ≡ None
Holds Short datagram client kind = length datagram < 20
Holds BadLength datagram client kind =
    (length_of datagram < 20) ⊎ ((4096 < length_of datagram) ⊎ (length datagram < length_of datagram))
Holds WrongCode datagram client kind = ¬ IsCodeFor kind (code_of datagram)
Holds BadAttribute datagram client kind =
    (attributes : List Attribute) → ¬ AreAttributes attributes (drop 20 (packet_of datagram))
Holds BadAuthenticator datagram client kind =
    (known : Client) × (client ≡ Some known) × (kind ≡ Acct)
    × (authenticator_of (packet_of datagram) ≢ accounting_authenticator (packet_of datagram) known.secret)
Holds BadMessageAuthenticator datagram client kind =
    (known : Client) × (client ≡ Some known) × (kind ≡ Auth)
    × IsTampered (packet_of datagram) (authenticator_of (packet_of datagram)) known.secret

-- The order in which causes are looked for.
abbrev pub rank : DropCause → ℕ
rank UnknownClient = 0
rank Short = 1
rank BadLength = 2
rank WrongCode = 3
rank BadAttribute = 4
rank BadAuthenticator = 5
rank BadMessageAuthenticator = 6

-- The first cause: it holds, and none of a lower rank does.
pub record IsFirstCause (cause : DropCause) (datagram : List ℕ) (client : Option Client) (kind : ListenKind) : Type 0 where
  pub holds : Holds cause datagram client kind
  pub first : (other : DropCause) → rank other < rank cause → ¬ Holds other datagram client kind

-- A packet is signed by whoever knows the secret, as a listener of this kind asks for it: an Accounting-Request by its
-- authenticator (RFC 2866 section 3), and an Access-Request that has a Message-Authenticator by that (RFC 3579 section 3.2).
abbrev pub IsSigned : ListenKind → List ℕ → List ℕ → Type 0
IsSigned Auth packet secret = IsIntact packet (authenticator_of packet) secret
IsSigned Acct packet secret = authenticator_of packet ≡ accounting_authenticator packet secret
IsSigned Control packet secret = ⊥

-- A datagram is authentic: it comes from a known client and begins with a well-formed packet of its whole Length
-- and of the listener's code, which is signed under the client's secret.
pub record IsAuthentic (datagram : List ℕ) (client : Option Client) (kind : ListenKind) : Type 0 where
  pub known : client ≢ None
  pub code : IsCodeFor kind (code_of datagram)
  pub packet : (attributes : List Attribute) × IsPacket attributes (packet_of datagram)
  pub signed : IfSome client (λ (known : Client). IsSigned kind (packet_of datagram) known.secret)
