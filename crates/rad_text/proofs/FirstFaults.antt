-- The first fault of readings that follow one another.
use Rattle.std.proofs.Common.{◌≡◌, Bool, true, false, Result, Ok, refl}
use Rattle.rad_text.specs.Read.{◌>>=◌}
use Rattle.rad_text.specs.Answers.{IsFaultIf, IsFault}

module _ {A B F : Type 0} where
  -- The fault of the first of two readings is the fault of both.
  pub fails_first : (says : F → Bool) (said : Result A F) (f : A → Result B F) (e : F) → IsFault says said e → IsFault says (said >>= f) e
  fails_first says said f e = by (says e) where
    by : (b : Bool) → IsFaultIf b said e → IsFaultIf b (said >>= f) e
    by true same = rw same refl
    by false same = tt

  -- Fault or value of the second reading.
  pub goes_first : (said : Result A F) (f : A → Result B F) (x : A) → said ≡ Ok x → (said >>= f) ≡ f x
  goes_first said f x same = rw same refl
