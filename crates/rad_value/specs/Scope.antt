-- What a policy of one request works on beside the devices. This project's own; captures, loop values and codes are after
-- unlang(5), and the Request Authenticator is that of RFC 2865 section 3.
use Rattle.std.specs.Prelude.{ℕ, ◌≡◌, List, None, replicate}
use Rattle.rad_outside.specs.declared.listen.Peer.{Peer}
use Rattle.rad_value.specs.declared.scope.Scope.{Scope}
use Rattle.rad_value.specs.PairLists.{PairLists}

-- A scope as a request begins: nothing is captured, no loop runs, no code was given and no choice was made.
pub record IsFresh (scope : Scope) : Type 0 where
  pub captures : scope.captures ≡ replicate 9 None
  pub loops : scope.loops ≡ replicate 8 None
  pub last : scope.last ≡ None
  pub choices : scope.choices ≡ 0

-- What is handed in for a request stands in its scope: the lists, who sent it, the moment, the luck word and the Request
-- Authenticator.
pub record IsOf (scope : Scope) (lists : PairLists) (from : Peer) (moment luck : ℕ) (authenticator : List ℕ) : Type 0 where
  pub lists_are : scope.lists ≡ lists
  pub from_is : scope.from ≡ from
  pub moment_is : scope.moment ≡ moment
  pub luck_is : scope.luck ≡ luck
  pub authenticator_is : scope.authenticator ≡ authenticator
