-- The packet at the front of a datagram.
use Rattle.std.proofs.Common.{◌≡◌, ◌≢◌, ℕ, zero, suc, refl, sym, ap, ◌∙◌, ◌<◌, ◌≤◌, List, length, subst, inl, inr, arith}
use Rattle.std.specs.Prelude.{Option, Some, None, IfSome}
use Rattle.std.proofs.lemmas.Bool.{cases_lt}
use Rattle.std.proofs.lemmas.List.{get_or-take, length-take}
use Rattle.rad_outside.specs.declared.listen.ListenKind.{ListenKind}
use Rattle.rad_outside.specs.declared.listen.ListenKind.TheVariants.{Auth, Acct}
use Rattle.rad_packet.specs.declared.client.Client.{Client}
use Rattle.rad_packet.specs.declared.cause.DropCause.{DropCause}
use Rattle.rad_packet.specs.declared.cause.DropCause.TheVariants.{UnknownClient, Short, BadLength, WrongCode, BadAttribute, BadAuthenticator, BadMessageAuthenticator}
use Rattle.rad_packet.specs.Packet.{Attribute, IsPacket, IsWellFormed, authenticator_of, code_of, length_of, packet_of}
use Rattle.rad_packet.specs.Signatures.{IsTampered, accounting_authenticator}
use Rattle.rad_packet.specs.Authentic.{Holds, IsAuthentic, IsCodeFor, IsFirstCause, IsSigned, rank}
use Rattle.rad_packet.proofs.Intact.{intact_untampered}

-- where the front is a packet, the datagram's Length is the packet's
pub record HasLength (datagram : List ℕ) : Type 0 where
  pub header : 20 ≤ length_of datagram
  pub limit : length_of datagram ≤ 4096
  pub there : length_of datagram ≤ length datagram

pub HasLength-from : (datagram : List ℕ) (attributes : List Attribute) → IsPacket attributes (packet_of datagram) → HasLength datagram
HasLength-from datagram attributes packet =
    let size = length-take (length_of datagram) datagram in
    let header = packet.header in
    let limit = packet.limit in
    let long : 20 ≤ length_of datagram = omega (arith, size, header) in
    let high = get_or-take (length_of datagram) datagram 2 0 (omega (arith, long)) in
    let low = get_or-take (length_of datagram) datagram 3 0 (omega (arith, long)) in
    let counted : length_of datagram ≡ length (packet_of datagram) = omega (arith, packet.counted, high, low) in
    record {
      header = long;
      limit = omega (arith, counted, limit);
      there = omega (arith, counted, size);
    }

-- a well-formed packet of a known client and of the listener's code has none of the first five causes
pub passed_without_cause : (cause : DropCause) (datagram : List ℕ) (client : Option Client) (kind : ListenKind)
    → client ≢ None → IsCodeFor kind (code_of datagram) → IsWellFormed (packet_of datagram) → rank cause < 5
    → ¬ Holds cause datagram client kind
passed_without_cause UnknownClient datagram client kind known code packet early cause = known cause
passed_without_cause Short datagram client kind known code packet early cause =
    let size = HasLength-from datagram packet.0 packet.1 in
    omega (arith, size.header, size.there, cause)
passed_without_cause BadLength datagram client kind known code packet early (inl below) =
    omega (arith, (HasLength-from datagram packet.0 packet.1).header, below)
passed_without_cause BadLength datagram client kind known code packet early (inr (inl above)) =
    omega (arith, (HasLength-from datagram packet.0 packet.1).limit, above)
passed_without_cause BadLength datagram client kind known code packet early (inr (inr past)) =
    omega (arith, (HasLength-from datagram packet.0 packet.1).there, past)
passed_without_cause WrongCode datagram client kind known code packet early cause = cause code
passed_without_cause BadAttribute datagram client kind known code packet early cause = cause packet.0 packet.1.rest
passed_without_cause BadAuthenticator datagram client kind known code packet early cause = omega (arith, early)
passed_without_cause BadMessageAuthenticator datagram client kind known code packet early cause = omega (arith, early)

-- where those don't hold, a wrong signature is the first cause
pub wrong_authenticator_first : (datagram : List ℕ) (known : Client) (kind : ListenKind) → kind ≡ Acct
    → IsCodeFor kind (code_of datagram) → IsWellFormed (packet_of datagram)
    → authenticator_of (packet_of datagram) ≢ accounting_authenticator (packet_of datagram) known.secret
    → IsFirstCause BadAuthenticator datagram (Some known) kind
wrong_authenticator_first datagram known kind acct code packet wrong = record {
  holds = (known, refl, acct, wrong);
  first = λ other early. passed_without_cause other datagram (Some known) kind (λ e. cc) code packet early;
}

pub wrong_message_authenticator_first : (datagram : List ℕ) (known : Client) (kind : ListenKind) → kind ≡ Auth
    → IsCodeFor kind (code_of datagram) → IsWellFormed (packet_of datagram)
    → IsTampered (packet_of datagram) (authenticator_of (packet_of datagram)) known.secret
    → IsFirstCause BadMessageAuthenticator datagram (Some known) kind
wrong_message_authenticator_first datagram known kind auth code packet wrong = record {
  holds = (known, refl, auth, wrong);
  first = earlier;
}
  where
    earlier : (other : DropCause) → rank other < 6 → ¬ Holds other datagram (Some known) kind
    earlier BadAuthenticator early cause = let acct : kind ≡ Acct = cause.2 in cc
    earlier BadMessageAuthenticator early cause = omega (arith, early)
    earlier UnknownClient early cause = passed_without_cause UnknownClient datagram (Some known) kind (λ e. cc) code packet (omega arith) cause
    earlier Short early cause = passed_without_cause Short datagram (Some known) kind (λ e. cc) code packet (omega arith) cause
    earlier BadLength early cause = passed_without_cause BadLength datagram (Some known) kind (λ e. cc) code packet (omega arith) cause
    earlier WrongCode early cause = passed_without_cause WrongCode datagram (Some known) kind (λ e. cc) code packet (omega arith) cause
    earlier BadAttribute early cause = passed_without_cause BadAttribute datagram (Some known) kind (λ e. cc) code packet (omega arith) cause

-- a client's own clauses
signed_for : (datagram : List ℕ) (client : Option Client) (kind : ListenKind) (known : Client) → client ≡ Some known
    → IsAuthentic datagram client kind → IsSigned kind (packet_of datagram) known.secret
signed_for datagram client kind known is h =
    subst (λ (c : Option Client). IfSome c (λ (k : Client). IsSigned kind (packet_of datagram) k.secret)) is h.signed

pub authentic_without_cause : (cause : DropCause) (datagram : List ℕ) (client : Option Client) (kind : ListenKind)
    → IsAuthentic datagram client kind → ¬ Holds cause datagram client kind
authentic_without_cause BadAuthenticator datagram client kind h cause =
    let signed = signed_for datagram client kind cause.0 cause.1 h in
    cause.3 (subst (λ (k : ListenKind). IsSigned k (packet_of datagram) cause.0.secret) cause.2 signed)
authentic_without_cause BadMessageAuthenticator datagram client kind h cause =
    let signed = signed_for datagram client kind cause.0 cause.1 h in
    intact_untampered (packet_of datagram) (authenticator_of (packet_of datagram)) cause.0.secret
    (subst (λ (k : ListenKind). IsSigned k (packet_of datagram) cause.0.secret) cause.2 signed) cause.3
authentic_without_cause UnknownClient datagram client kind h cause =
    passed_without_cause UnknownClient datagram client kind h.known h.code h.packet (omega arith) cause
authentic_without_cause Short datagram client kind h cause =
    passed_without_cause Short datagram client kind h.known h.code h.packet (omega arith) cause
authentic_without_cause BadLength datagram client kind h cause =
    passed_without_cause BadLength datagram client kind h.known h.code h.packet (omega arith) cause
authentic_without_cause WrongCode datagram client kind h cause =
    passed_without_cause WrongCode datagram client kind h.known h.code h.packet (omega arith) cause
authentic_without_cause BadAttribute datagram client kind h cause =
    passed_without_cause BadAttribute datagram client kind h.known h.code h.packet (omega arith) cause

pub cause_without_authentic : (cause : DropCause) (datagram : List ℕ) (client : Option Client) (kind : ListenKind)
    → IsFirstCause cause datagram client kind → ¬ IsAuthentic datagram client kind
cause_without_authentic cause datagram client kind first h = authentic_without_cause cause datagram client kind h first.holds

-- ---- one first cause

cause_at : ℕ → DropCause
cause_at zero = UnknownClient
cause_at (suc zero) = Short
cause_at (suc (suc zero)) = BadLength
cause_at (suc (suc (suc zero))) = WrongCode
cause_at (suc (suc (suc (suc zero)))) = BadAttribute
cause_at (suc (suc (suc (suc (suc zero))))) = BadAuthenticator
cause_at (suc (suc (suc (suc (suc (suc rest)))))) = BadMessageAuthenticator

cause_at-rank : (cause : DropCause) → cause_at (rank cause) ≡ cause
unfolding cause_at
cause_at-rank UnknownClient = refl
cause_at-rank Short = refl
cause_at-rank BadLength = refl
cause_at-rank WrongCode = refl
cause_at-rank BadAttribute = refl
cause_at-rank BadAuthenticator = refl
cause_at-rank BadMessageAuthenticator = refl

pub one_first_cause : (cause other : DropCause) (datagram : List ℕ) (client : Option Client) (kind : ListenKind)
    → IsFirstCause cause datagram client kind → IsFirstCause other datagram client kind → cause ≡ other
one_first_cause cause other datagram client kind h k =
    elim (cases_lt (rank cause) (rank other)) [
      | inl below ↦ absurd (k.first cause below h.holds)
      | inr from ↦
          elim (cases_lt (rank other) (rank cause)) [
            | inl below ↦ absurd (h.first other below k.holds)
            | inr upto ↦
                let same : rank cause ≡ rank other = omega arith in
                sym (cause_at-rank cause) ∙ ap cause_at same ∙ cause_at-rank other
          ]
    ]
