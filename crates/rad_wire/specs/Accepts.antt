-- Which replies to a request are accepted, and why the others aren't: RFC 2865 section 3, RFC 2866 section 3, RFC 3579
-- section 3.2. What is said of a reply is said of the packet at its front: octets past its Length are ignored.
use Rattle.std.specs.Prelude.{ℕ, ◌≡◌, ◌≢◌, ◌<◌, ◌⊎◌, ◌==◌, ◌||◌, ◌&&◌, Bool, IsTrue, List, length, drop}
use Rattle.rad_packet.specs.Packet.{Attribute, AreAttributes, IsWellFormed, authenticator_of, code_of, id_of, length_of, packet_of}
use Rattle.rad_packet.specs.Signatures.{IsIntact, IsTampered, digest_with}
use Rattle.rad_wire.specs.declared.reply_fault.ReplyFault.{ReplyFault}
use Rattle.rad_wire.specs.declared.reply_fault.ReplyFault.TheVariants.{Short, BadLength, WrongCode, WrongId, BadAttribute, BadAuthenticator, BadMessageAuthenticator}

-- Whether a request of the first code may be answered by the second: an Access-Request by Access-Accept, Access-Reject and
-- Access-Challenge, and an Accounting-Request by Accounting-Response (RFC 2865 section 4, RFC 2866 section 4).
abbrev pub is_reply_code : ℕ → ℕ → Bool
is_reply_code request reply =
    (request == 1 && (reply == 2 || reply == 3 || reply == 11)) || (request == 4 && reply == 5)

-- What each fault says of a reply, for a request and a secret. Message-Authenticator is looked at in a reply to an
-- Access-Request, and both digests are over the request's authenticator.
abbrev pub FaultHolds : ReplyFault → List ℕ → List ℕ → List ℕ → Type 0
FaultHolds Short request reply secret = length reply < 20
FaultHolds BadLength request reply secret =
    (length_of reply < 20) ⊎ ((4096 < length_of reply) ⊎ (length reply < length_of reply))
FaultHolds WrongCode request reply secret = ¬ IsTrue (is_reply_code (code_of request) (code_of reply))
FaultHolds WrongId request reply secret = id_of reply ≢ id_of request
FaultHolds BadAttribute request reply secret =
    (attributes : List Attribute) → ¬ AreAttributes attributes (drop 20 (packet_of reply))
FaultHolds BadAuthenticator request reply secret =
    authenticator_of (packet_of reply) ≢ digest_with (packet_of reply) (authenticator_of request) secret
FaultHolds BadMessageAuthenticator request reply secret =
    (code_of request ≡ 1) × IsTampered (packet_of reply) (authenticator_of request) secret

-- The order in which faults are looked for.
abbrev pub fault_rank : ReplyFault → ℕ
fault_rank Short = 0
fault_rank BadLength = 1
fault_rank WrongCode = 2
fault_rank WrongId = 3
fault_rank BadAttribute = 4
fault_rank BadAuthenticator = 5
fault_rank BadMessageAuthenticator = 6

-- The first fault: it holds, and none of a lower rank does.
pub record IsFirstFault (fault : ReplyFault) (request reply secret : List ℕ) : Type 0 where
  pub holds : FaultHolds fault request reply secret
  pub first : (other : ReplyFault) → fault_rank other < fault_rank fault → ¬ FaultHolds other request reply secret

-- A reply is accepted: it is a well-formed packet of the request's Identifier and of a code that answers it, its
-- authenticator is the Response Authenticator (RFC 2865 section 3, RFC 2866 section 3), and where it answers an
-- Access-Request its Message-Authenticator is right, if it has one (RFC 3579 section 3.2).
pub record Accepts (request reply secret : List ℕ) : Type 0 where
  pub packet : IsWellFormed (packet_of reply)
  pub code : IsTrue (is_reply_code (code_of request) (code_of reply))
  pub id : id_of reply ≡ id_of request
  pub signed : authenticator_of (packet_of reply) ≡ digest_with (packet_of reply) (authenticator_of request) secret
  pub intact : code_of request ≡ 1 → IsIntact (packet_of reply) (authenticator_of request) secret
