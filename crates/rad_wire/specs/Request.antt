-- The octets of a request: RFC 2865 sections 3, 5.2, 5.3 and 5.26, RFC 2866 section 3, RFC 3579 section 3.2.
use Rattle.std.specs.Prelude.{ℕ, ◌≡◌, ◌<◌, ◌==◌, ◌&&◌, Bool, not, nat_lt, if◌then◌else◌, List, [], ◌∷◌, ◌++◌, length, take, filter, replicate}
use Rattle.std.specs.List.{flat_map}
use Rattle.std.specs.Option.{option_map_or}
use Rattle.md5.specs.Md5.{md5}
use Rattle.rad_words.specs.declared.attributes.Space.{Space}
use Rattle.rad_words.specs.declared.attributes.Space.TheVariants.{Standard, Vendor, Internal}
use Rattle.rad_value.specs.declared.values.Pair.{Pair}
use Rattle.rad_value.specs.Pairs.{first_value}
use Rattle.rad_packet.specs.Packet.{Attribute, spelled}
use Rattle.rad_packet.specs.Hiding.{carried, hidden}
use Rattle.rad_packet.specs.Octets.{reply_head}
use Rattle.rad_packet.specs.Signatures.{accounting_authenticator, message_authenticator}
use Rattle.rad_wire.specs.declared.request_fault.RequestFault.{RequestFault}
use Rattle.rad_wire.specs.declared.request_fault.RequestFault.TheVariants as fault
use Rattle.rad_wire.specs.Pairs.{standard}
use Rattle.rad_wire.specs.Reply.{sent_attributes}
use Rattle.rad_wire.specs.Values.{octets_of}

-- What the attributes of a request depend on beside the pairs: its Code, Identifier and Request Authenticator, the secret,
-- and the CHAP challenge.
pub record Frame : Type 0 where
  pub code : ℕ
  pub id : ℕ
  pub authenticator : List ℕ
  pub secret : List ℕ
  pub challenge : List ℕ

-- The CHAP challenge: the value of the first CHAP-Challenge of a list, or else the Request Authenticator (RFC 2865
-- section 5.3).
abbrev pub challenge_of : List Pair → List ℕ → List ℕ
challenge_of pairs authenticator = option_map_or octets_of (first_value (standard 60) pairs) authenticator

-- The CHAP-Password of a password: the CHAP Identifier, for which the packet's serves, and the MD5 of it, the password and
-- the challenge (RFC 2865 sections 2.2 and 5.3).
abbrev pub chap_password : ℕ → List ℕ → List ℕ → List ℕ
chap_password id password challenge = id ∷ md5 (id ∷ password ++ challenge)

-- The octets of a standard attribute's value in a request. In an Access-Request, code 1, a User-Password is hidden, and a
-- CHAP-Password that hasn't the 17 octets of one is a password; others stand as they are.
abbrev pub asked_value : Frame → ℕ → List ℕ → List ℕ
asked_value frame number octets =
    if frame.code == 1 && number == 2 then hidden octets frame.secret frame.authenticator
    else (if frame.code == 1 && (number == 3 && not (length octets == 17)) then chap_password frame.id octets frame.challenge
    else octets)

-- The attribute that a request carries for an attribute of this space and number with these octets, in a list, and none
-- for an internal attribute or a number above 255. Values are cut as in a reply (RFC 2865 sections 5 and 5.26).
abbrev pub asked_attributes : Frame → Space → ℕ → List ℕ → List Attribute
asked_attributes frame Standard number octets =
    if nat_lt 255 number then [] else record { kind = number; value = take 253 (asked_value frame number octets) } ∷ []
asked_attributes frame (Vendor vendor) number octets = sent_attributes (Vendor vendor) number octets
asked_attributes frame Internal number octets = []

-- The attribute that a request carries for a pair, in a list.
unfoldable pub asked_for : Frame → Pair → List Attribute
asked_for frame pair = asked_attributes frame pair.attr.space pair.attr.number (octets_of pair.value)

-- Whether a request of this code is signed by the attribute: an Access-Request by its Message-Authenticator. In other
-- requests that is octets like others (RFC 3579 section 3.2).
abbrev pub is_signature : ℕ → Attribute → Bool
is_signature code attribute = code == 1 && attribute.kind == 80

-- Attributes of which the first Message-Authenticator alone stays, with this value.
abbrev pub signed_once : ℕ → List ℕ → List Attribute → List Attribute
signed_once code value [] = []
signed_once code value (attribute ∷ others) =
    if is_signature code attribute
    then record { kind = 80; value = value } ∷ filter (λ (a : Attribute). not (is_signature code a)) others
    else attribute ∷ signed_once code value others

-- The attributes of a request for these pairs, with this value of Message-Authenticator.
abbrev pub request_attributes : Frame → List Pair → List ℕ → List Attribute
request_attributes frame pairs value = signed_once frame.code value (flat_map (asked_for frame) pairs)

-- The packet of a Code, an Identifier, an authenticator and attributes (RFC 2865 section 3).
abbrev pub packet_octets : ℕ → ℕ → List ℕ → List Attribute → List ℕ
packet_octets code id authenticator attributes =
    reply_head code id (flat_map spelled attributes) ++ authenticator ++ flat_map spelled attributes

-- The frame of a request of these.
abbrev pub frame_of : ℕ → ℕ → List ℕ → List Pair → List ℕ → Frame
frame_of code id authenticator pairs secret = record {
  code = code;
  id = id;
  authenticator = authenticator;
  secret = secret;
  challenge = challenge_of pairs authenticator;
}

-- A request before it is signed: Message-Authenticator has sixteen zero octets.
abbrev pub unsigned_request : Frame → List Pair → List ℕ
unsigned_request frame pairs =
    packet_octets frame.code frame.id frame.authenticator (request_attributes frame pairs (replicate 16 0))

-- The request of a frame and pairs. In an Access-Request the Message-Authenticator, where the pairs have one, is signed (RFC
-- 3579 section 3.2). An Accounting-Request, code 4, has as its authenticator the digest of itself, whatever authenticator
-- is given (RFC 2866 section 3).
unfoldable pub request_of : Frame → List Pair → List ℕ
request_of frame pairs =
    if frame.code == 1
    then packet_octets frame.code frame.id frame.authenticator
    (request_attributes frame pairs (message_authenticator (unsigned_request frame pairs) frame.authenticator frame.secret))
    else (if frame.code == 4
    then packet_octets frame.code frame.id (accounting_authenticator (unsigned_request frame pairs) frame.secret)
    (request_attributes frame pairs (replicate 16 0))
    else unsigned_request frame pairs)

-- The request of a Code, an Identifier, a Request Authenticator and pairs under a secret.
abbrev pub request_octets : ℕ → ℕ → List ℕ → List Pair → List ℕ → List ℕ
request_octets code id authenticator pairs secret = request_of (frame_of code id authenticator pairs secret) pairs

-- The length of a User-Password of an Access-Request that can't be hidden, in a list (RFC 2865 section 5.2).
abbrev pub long_password : ℕ → Space → ℕ → List ℕ → List ℕ
long_password code Standard number octets =
    if code == 1 && (number == 2 && nat_lt 128 (length octets)) then length octets ∷ [] else []
long_password code (Vendor vendor) number octets = []
long_password code Internal number octets = []

-- The octets of a pair that is a password too long to be hidden, else none (RFC 2865 section 5.2).
unfoldable pub long_password_of : ℕ → Pair → List ℕ
long_password_of code pair = long_password code pair.attr.space pair.attr.number (octets_of pair.value)

-- The lengths of the User-Passwords above 128 octets, in order, of a request of this code.
abbrev pub long_passwords : ℕ → List Pair → List ℕ
long_passwords code pairs = flat_map (long_password_of code) pairs

-- A password's fault: PasswordTooLong where there are passwords too long, with the length of the first.
abbrev pub PasswordRefused : List ℕ → RequestFault → Type 0
PasswordRefused longs (fault.PasswordTooLong count) =
    (long : ℕ) × (others : List ℕ) × (longs ≡ long ∷ others) × (count ≡ carried long)
PasswordRefused longs (fault.TooLong count) = ⊥
PasswordRefused longs fault.NoMemory = Unit {0}

-- Why a request isn't made: PasswordTooLong exactly where a User-Password of an Access-Request is above 128 octets, with the
-- length of the first; else TooLong exactly where the packet would have more than 4,096 octets, with its length.
abbrev pub RequestRefused : ℕ → ℕ → List ℕ → List Pair → List ℕ → RequestFault → Type 0
RequestRefused code id authenticator pairs secret (fault.PasswordTooLong count) =
    PasswordRefused (long_passwords code pairs) (fault.PasswordTooLong count)
RequestRefused code id authenticator pairs secret (fault.TooLong count) =
    (long_passwords code pairs ≡ []) × (4096 < length (request_octets code id authenticator pairs secret))
    × (count ≡ carried (length (request_octets code id authenticator pairs secret)))
RequestRefused code id authenticator pairs secret fault.NoMemory = Unit {0}
