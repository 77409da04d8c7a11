-- The scope with which the policy of a request begins.
use Rattle.std.specs.Prelude.{replicate}
use Rattle.std.proofs.Common.{◌≡◌, ℕ, List, [], Option, None, sym, ap, ◌∙◌}
use Rattle.rad_outside.specs.declared.listen.Peer.{Peer}
use Rattle.rad_words.specs.declared.codes.Code.{Code}
use Rattle.rad_value.specs.declared.scope.Scope.{Scope}
use Rattle.rad_value.specs.declared.values.Value.{Value}
use Rattle.rad_value.specs.PairLists.{PairLists}
use Rattle.rad_value.specs.Scope.{IsFresh, IsOf}
use Rattle.rad_site.specs.Request.{begun_scope}

abbrev made : PairLists → List (Option (List ℕ)) → List (Option Value) → Option Code → ℕ → Peer → ℕ → ℕ → List ℕ → Scope
made lists captures loops last choices from moment luck authenticator = record {
  lists = lists;
  captures = captures;
  loops = loops;
  last = last;
  choices = choices;
  from = from;
  moment = moment;
  luck = luck;
  authenticator = authenticator;
}

-- a fresh scope of what was handed in is the one with which a policy begins
pub scope_begins : (s : Scope) (lists : PairLists) (from : Peer) (moment luck : ℕ) (authenticator : List ℕ) → IsFresh s → IsOf s lists from moment luck authenticator → s ≡ begun_scope lists from moment luck authenticator
scope_begins s lists from moment luck authenticator fresh of =
    ap (λ x. made x s.captures s.loops s.last s.choices s.from s.moment s.luck s.authenticator) of.lists_are
    ∙ ap (λ x. made lists x s.loops s.last s.choices s.from s.moment s.luck s.authenticator) fresh.captures
    ∙ ap (λ x. made lists (replicate 9 None) x s.last s.choices s.from s.moment s.luck s.authenticator) fresh.loops
    ∙ ap (λ x. made lists (replicate 9 None) (replicate 8 None) x s.choices s.from s.moment s.luck s.authenticator) fresh.last
    ∙ ap (λ x. made lists (replicate 9 None) (replicate 8 None) None x s.from s.moment s.luck s.authenticator) fresh.choices
    ∙ ap (λ x. made lists (replicate 9 None) (replicate 8 None) None 0 x s.moment s.luck s.authenticator) of.from_is
    ∙ ap (λ x. made lists (replicate 9 None) (replicate 8 None) None 0 from x s.luck s.authenticator) of.moment_is
    ∙ ap (λ x. made lists (replicate 9 None) (replicate 8 None) None 0 from moment x s.authenticator) of.luck_is
    ∙ ap (λ x. made lists (replicate 9 None) (replicate 8 None) None 0 from moment luck x) of.authenticator_is
