-- The packet that is made of a group's pairs: RFC 2865 section 3, RFC 2866 section 3, radclient(1).
use Rattle.std.specs.Prelude.{ℕ, ◌≡◌, Bool, List, [], ◌∷◌, ◌++◌, length, nat_lt, nat_le, Result, Ok, Err, if◌then◌else◌}
use Rattle.std.specs.Int.{w64, to_be_bytes}
use Rattle.rad_value.specs.declared.values.Pair.{Pair}
use Rattle.rad_wire.specs.Request.{long_passwords, request_octets}
use Rattle.radclient.specs.declared.asked.Asked.{Asked}
use Rattle.radclient.specs.declared.asked.Kind.{Kind}
use Rattle.radclient.specs.declared.asked.Kind.TheVariants.{Auth, Acct}
use Rattle.rad_wire.specs.declared.request_fault.RequestFault.{RequestFault}
use Rattle.rad_wire.specs.declared.request_fault.RequestFault.TheVariants as fault
use Rattle.radclient.specs.declared.stop.Stop.{Stop}
use Rattle.radclient.specs.declared.stop.Stop.TheVariants as stop
use Rattle.radclient.specs.declared.stop.Unmade.{Unmade}
use Rattle.radclient.specs.declared.stop.Unmade.TheVariants.{PasswordTooLong, TooLong}

-- The code of the requests that are sent: Access-Request or Accounting-Request.
abbrev pub code_for : Kind → ℕ
code_for Auth = 1
code_for Acct = 4

-- The Request Authenticator of two random words, the first word first, each with its highest octet first.
abbrev pub authenticator_of_words : ℕ → ℕ → List ℕ
authenticator_of_words high low = to_be_bytes w64 high ++ to_be_bytes w64 low

-- A request of at most 4,096 octets, or that it is too long.
abbrev pub fitting : List ℕ → Result (List ℕ) Unmade
fitting octets = if nat_lt 4096 (length octets) then Err TooLong else Ok octets

-- A request without a User-Password that is too long, or the reason why there is none.
abbrev pub without_long : List ℕ → List ℕ → Result (List ℕ) Unmade
without_long [] octets = fitting octets
without_long (long ∷ others) octets = Err PasswordTooLong

-- The request of an Identifier, two random words and the pairs of a group, or why it can't be made.
unfoldable pub made : Asked → ℕ → ℕ → ℕ → List Pair → Result (List ℕ) Unmade
made asked id high low pairs =
    without_long (long_passwords (code_for asked.kind) pairs)
    (request_octets (code_for asked.kind) id (authenticator_of_words high low) pairs asked.secret)

-- A group of 2^31 pairs or more is too long, whatever they are.
abbrev pub is_too_long : List Pair → Bool
is_too_long pairs = nat_le 2147483648 (length pairs)

-- Why a request isn't made, as a run's stop.
abbrev pub stop_of : RequestFault → Stop
stop_of (fault.PasswordTooLong count) = stop.Unmade PasswordTooLong
stop_of (fault.TooLong count) = stop.Unmade TooLong
stop_of fault.NoMemory = stop.NoMemory

-- A run that stops here stops since the request isn't made, for this reason, or for want of memory.
abbrev pub IsUnmade : Result (List ℕ) Unmade → Stop → Type 0
IsUnmade made (stop.Unmade reason) = made ≡ Err reason
IsUnmade made stop.SocketFault = ⊥
IsUnmade made stop.WriteFault = ⊥
IsUnmade made stop.NoMemory = Unit {0}
