use Rattle.std.specs.Map.{lookup}
use Rattle.std.specs.Char.{to_ascii_lowercase}
use Rattle.std.proofs.Common.{◌≡◌, ℕ, List, [], ◌∷◌, ◌++◌, map, is_some, sym, ap, ◌∙◌, subst}
use Rattle.indexmap.specs.IndexMap.{get_by}
use Rattle.mod_realm.specs.Realms.{Realm, realm_of, entry_realm, AreKeyed}
use Rattle.mod_realm.proofs.Keyed.{is_key, finds, realms_entered, keyed_entered}
use Rattle.mod_realm.proofs.realms.Realms.add.Goals as goal

pub returns-then-is_some-clause-taken : goal.returns-then-is_some-clause-taken
returns-then-is_some-clause-taken c =
    let key_is : c.as_slice.result.now ≡ map to_ascii_lowercase c.args.name.now = c.as_slice.ensures.value ∙ c.in_ok-key.ensures in
    let looked : c.is_some.result ≡ is_some (realm_of c.args.self.now c.args.name.now) =
    c.is_some.ensures
    ∙ c.get_index_of.ensures.found
    ∙ ap (λ (k : List ℕ). is_some (lookup (is_key k) c.self.inside.realms.entries)) key_is
    ∙ ap is_some (finds c.args.name.now c.self.inside.realms.entries c.self.invariant)
    ∙ ap (λ (l : List Realm). is_some (realm_of l c.args.name.now)) c.self.view_is in
    λ is. sym looked ∙ c.if-is_some.true

pub returns-clause-free : goal.returns-clause-free
returns-clause-free c =
    let key_is : c.as_slice.result.now ≡ map to_ascii_lowercase c.args.name.now = c.as_slice.ensures.value ∙ c.in_ok-key.ensures in
    let looked : c.is_some.result ≡ is_some (realm_of c.args.self.now c.args.name.now) =
    c.is_some.ensures
    ∙ c.get_index_of.ensures.found
    ∙ ap (λ (k : List ℕ). is_some (lookup (is_key k) c.self.inside.realms.entries)) key_is
    ∙ ap is_some (finds c.args.name.now c.self.inside.realms.entries c.self.invariant)
    ∙ ap (λ (l : List Realm). is_some (realm_of l c.args.name.now)) c.self.view_is in
    sym looked ∙ c.if-is_some.false

pub invariant_of-self-2 : goal.invariant_of-self-2
invariant_of-self-2 c =
    let one : Realm = record { name = c.in_ok-name.name; nostrip = c.args.nostrip } in
    let free = ap (λ (k : List ℕ). is_some (get_by (is_key k) c.self.inside.realms)) (sym c.as_slice.ensures.value) ∙ sym c.get_index_of.ensures.found ∙ sym c.is_some.ensures ∙ c.if-is_some.false in
    subst AreKeyed (sym c.in_ok-insert.ensures.entries)
    (keyed_entered c.self.inside.realms c.in_ok-key.key one c.args.name.now c.self.invariant c.in_ok-key.ensures free c.in_ok-name.ensures)

pub returns-clause-added : goal.returns-clause-added
returns-clause-added c =
    let one : Realm = record { name = c.in_ok-name.name; nostrip = c.args.nostrip } in
    let free = ap (λ (k : List ℕ). is_some (get_by (is_key k) c.self.inside.realms)) (sym c.as_slice.ensures.value) ∙ sym c.get_index_of.ensures.found ∙ sym c.is_some.ensures ∙ c.if-is_some.false in
    ap (map entry_realm) c.in_ok-insert.ensures.entries
    ∙ realms_entered c.self.inside.realms c.in_ok-key.key one c.args.name.now c.self.invariant c.in_ok-key.ensures free
    ∙ ap (λ (l : List Realm). l ++ one ∷ []) c.self.view_is
    ∙ ap (λ (n : List ℕ). c.args.self.now ++ record { name = n; nostrip = c.args.nostrip } ∷ []) c.in_ok-name.ensures
