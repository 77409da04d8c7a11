-- What devices tell over several calls.
use Rattle.std.proofs.Common.{Option, Some, None}
use Rattle.rad_outside.specs.Telling.{Tells}

-- what holds from one call to the next
pub Tells-trans : {T : Type 0} {R S : T → T → Type 0} (Q : T → T → Type 0) (a b c : Option T) → ((x y z : T) → R x y → S y z → Q x z) → Tells a b R → Tells b c S → Tells a c Q
Tells-trans Q a b None join first second = tt
Tells-trans Q a None (Some z) join first second = absurd second
Tells-trans Q None (Some y) (Some z) join first second = absurd first
Tells-trans Q (Some x) (Some y) (Some z) join first second = join x y z first second

-- what holds where nothing is called
pub Tells-same : {T : Type 0} (R : T → T → Type 0) (a : Option T) → ((x : T) → R x x) → Tells a a R
Tells-same R None holds = tt
Tells-same R (Some x) holds = holds x

-- what follows from what is told
pub Tells-weaker : {T : Type 0} {R : T → T → Type 0} (S : T → T → Type 0) (a b : Option T) → ((x y : T) → R x y → S x y) → Tells a b R → Tells a b S
Tells-weaker S a None weaker tells = tt
Tells-weaker S None (Some y) weaker tells = absurd tells
Tells-weaker S (Some x) (Some y) weaker tells = weaker x y tells
