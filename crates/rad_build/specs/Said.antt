-- What stands once for each block of a kind, each new beside those of the blocks before. This project's own.
use Rattle.std.specs.Prelude.{List, [], ◌∷◌, ◌++◌}

-- Each of these is new beside those that stand before it, of which some were before the first.
abbrev pub AreNew : {X : Type 0} → (List X → X → Type 0) → List X → List X → Type 0
AreNew New before [] = Unit {0}
AreNew New before (one ∷ more) = New before one × AreNew New (before ++ one ∷ []) more
