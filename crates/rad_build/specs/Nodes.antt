-- How the nodes of a block are read: in order, up to the first fault. This project's own.
use Rattle.std.specs.Prelude.{◌≡◌, ℕ, List, [], ◌∷◌, Option, Some, None, Result, Ok, Err}
use Rattle.rad_outside.specs.declared.files.Place.{Place}
use Rattle.rad_conf.specs.declared.tree.Node.{Node}
use Rattle.rad_build.specs.declared.fault.BuildFault.{BuildFault}
use Rattle.rad_build.specs.declared.fault.BuildFault.TheVariants as fault
use Rattle.unlang_tree.specs.declared.fault.TreeFault.TheVariants as tree

infixl 10 ◌>>=◌
-- One answer and then the next: the first fault ends it.
abbrev pub ◌>>=◌ : {A B : Type 0} → Result A BuildFault → (A → Result B BuildFault) → Result B BuildFault
(Ok x) >>= f = f x
(Err e) >>= f = Err e

-- What a function answered is what reading gives, unless memory ran out. No file is read.
abbrev pub Fails : {Y : Type 0} → BuildFault → Result Y BuildFault → Type 0
Fails (fault.Conf wrong) read = read ≡ Err (fault.Conf wrong)
Fails (fault.Dict wrong) read = read ≡ Err (fault.Dict wrong)
Fails (fault.Users file wrong) read = read ≡ Err (fault.Users file wrong)
Fails (fault.Tree wrong) read = read ≡ Err (fault.Tree wrong)
Fails (fault.UnknownModule place kind) read = read ≡ Err (fault.UnknownModule place kind)
Fails (fault.BadSetting place name) read = read ≡ Err (fault.BadSetting place name)
Fails fault.ReadFault read = ⊥
Fails fault.NoMemory read = Unit {0}

-- A function gives what is said, or memory ran out.
abbrev pub Gives : {Y : Type 0} → Result Y BuildFault → Result Y BuildFault → Type 0
Gives (Ok x) read = read ≡ Ok x
Gives (Err e) read = Fails e read

-- What isn't built is refused at its place.
abbrev pub refused : {A : Type 0} → Place → Result A BuildFault
refused place = Err (fault.Tree (tree.NotBuilt place))

-- A setting out of its form, or a thing that must not stand there, is refused at its place by its word.
abbrev pub bad_setting : {A : Type 0} → Place → List ℕ → Result A BuildFault
bad_setting place name = Err (fault.BadSetting place name)

-- A setting of its form, else it is refused so.
abbrev pub formed : {A : Type 0} → Place → List ℕ → Option A → Result A BuildFault
formed place name None = bad_setting place name
formed place name (Some x) = Ok x

-- What is known of a block after each of its nodes.
unfoldable pub after_each : {S : Type 0} → (S → Node → Result S BuildFault) → S → List Node → Result S BuildFault
after_each step known [] = Ok known
after_each step known (node ∷ nodes) = do
  next ← step known node
  after_each step next nodes
