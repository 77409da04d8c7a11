-- Attributes of a request as they are written one after another. Only private clauses cite this.
use Rattle.std.specs.Prelude.{ℕ, ◌≡◌, ◌||◌, Bool, not, if◌then◌else◌, List, ◌++◌, filter}
use Rattle.std.specs.List.{flat_map, list_any}
use Rattle.rad_packet.specs.Packet.{Attribute, spelled}
use Rattle.rad_wire.specs.declared.draft.Asking.{Asking}
use Rattle.rad_wire.specs.declared.draft.Draft.{Draft}
use Rattle.rad_wire.specs.Request.{Frame, is_signature, signed_once}

-- What a request's attributes depend on, as the code lends it.
abbrev pub frame_in : Asking → Frame
frame_in asking = record {
  code = asking.code;
  id = asking.id;
  authenticator = asking.authenticator.now;
  secret = asking.secret.now;
  challenge = asking.challenge.now;
}

-- What of further attributes is still written, where a Message-Authenticator was written or wasn't.
abbrev pub remaining : ℕ → List ℕ → Bool → List Attribute → List Attribute
remaining code value signed attributes =
    if signed then filter (λ (a : Attribute). not (is_signature code a)) attributes else signed_once code value attributes

-- These attributes were written behind those of a draft.
pub record IsWritten (code : ℕ) (value : List ℕ) (before after : Draft) (attributes : List Attribute) : Type 0 where
  pub octets : after.octets.items ≡ before.octets.items ++ flat_map spelled (remaining code value before.signed attributes)
  pub signed : after.signed ≡ (before.signed || list_any (is_signature code) attributes)
