use Rattle.std.specs.Map.{lookup}
use Rattle.std.specs.Char.{to_ascii_lowercase}
use Rattle.std.proofs.Common.{◌≡◌, ℕ, List, map, ap, ◌∙◌}
use Rattle.mod_realm.specs.Realms.{Realm, realm_of}
use Rattle.mod_realm.proofs.Keyed.{is_key, finds}
use Rattle.mod_realm.proofs.realms.Realms.find.Goals as goal

pub returns : goal.returns
returns c =
    let key_is : c.as_slice.result.now ≡ map to_ascii_lowercase c.args.name.now = c.as_slice.ensures.value ∙ c.in_ok-key.ensures in
    c.get.ensures.value
    ∙ ap (λ (k : List ℕ). lookup (is_key k) c.self.inside.realms.entries) key_is
    ∙ finds c.args.name.now c.self.inside.realms.entries c.self.invariant
    ∙ ap (λ (l : List Realm). realm_of l c.args.name.now) c.self.view_is
