use Rattle.std.proofs.Common.{◌≡◌, ℕ, Some, None, inl, inr, refl, ◌∙◌, subst}
use Rattle.rad_outside.specs.Files.{FilesTold, begun, octets_at}
use Rattle.rad_outside.specs.Telling.{Rose}
use Rattle.radclient.proofs.Reaching.{Tells-trans}
use Rattle.radclient.proofs.top.read_path.Goals as goal

pub returns-in-Bytes : goal.returns-in-Bytes
returns-in-Bytes g c =
    Tells-trans (λ (old new : FilesTold). (new ≡ begun old) × (octets_at c.args.path.now (begun old).present ≡ Some c.in-Bytes.octets)) (g.F.Files.told c.args.files.now) (g.F.Files.told c.begin.new.self) (g.F.Files.told c.read.new.self)
    (λ x y z first second. (second.0 ∙ first, subst (λ (f : FilesTold). octets_at c.args.path.now f.present ≡ Some c.in-Bytes.octets) first second.1)) c.begin.ensures.told c.in-Bytes.ensures.told

pub returns-in-Missing : goal.returns-in-Missing
returns-in-Missing g c =
    inl (Tells-trans (λ (old new : FilesTold). octets_at c.args.path.now (begun old).present ≡ None) (g.F.Files.told c.args.files.now) (g.F.Files.told c.begin.new.self) (g.F.Files.told c.read.new.self)
    (λ x y z first second. subst (λ (f : FilesTold). octets_at c.args.path.now f.present ≡ None) first second.1) c.begin.ensures.told c.in-Missing.ensures.told)

pub returns-in-Failed : goal.returns-in-Failed
returns-in-Failed g c =
    inr (inl (subst (λ (n : ℕ). Rose n (g.F.Files.faults c.read.new.self)) c.begin.ensures.faults (c.in-Failed.ensures.faults.cause refl)))
