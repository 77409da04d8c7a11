-- Steps that are made of tokens, one at a time, from the front.
use Rattle.std.proofs.Common.{◌≡◌, ℕ, zero, suc, ◌<◌, Bool, length, get_or, arith, List, [], ◌∷◌, ◌++◌, reverse, Option, Some, None, refl, sym, ap, ◌∙◌, append_assoc, subst}
use Rattle.std.proofs.lemmas.List.{map-append, reverse-append}
use Rattle.rad_text.specs.declared.read.ReadError.{ReadError}
use Rattle.rad_text.specs.declared.read.ReadError.TheVariants as errors
use Rattle.unlang_cond.specs.declared.atom.Token.{Token}
use Rattle.unlang_cond.specs.declared.groups.Step.{Step}
use Rattle.unlang_cond.specs.declared.atom.Pattern.{Pattern}
use Rattle.unlang_cond.specs.Steps.{tokens_in, pattern_in, IsReady, IsReadyStep, AreReady, IsFit, AreFit, first_refused, RefusedBy, RefusedIn}
use Rattle.unlang_cond.proofs.Refused.{refused_behind, refused_first}

turned : (unread new : List Token) (t : Token) → unread ≡ new ++ t ∷ [] → reverse unread ≡ t ∷ reverse new
turned unread new t e = ap reverse e ∙ reverse-append new (t ∷ [])

pub one_ready : (steps : List Step) (unread new : List Token) (t : Token) (step : Step) → unread ≡ new ++ t ∷ [] → IsReadyStep t step
    → tokens_in (steps ++ step ∷ []) ++ reverse new ≡ tokens_in steps ++ reverse unread
one_ready steps unread new t step e ready =
    ap (λ (xs : List Token). xs ++ reverse new) (map-append (λ (x : Step). x.token) steps (step ∷ []) ∙ ap (λ (y : Token). tokens_in steps ++ y ∷ []) ready.token_is)
    ∙ append_assoc (tokens_in steps) (t ∷ []) (reverse new) ∙ ap (λ (xs : List Token). tokens_in steps ++ xs) (sym (turned unread new t e))

pub all_ready : (steps : List Step) (t : Token) (step : Step) → AreReady steps → IsReadyStep t step → AreReady (steps ++ step ∷ [])
all_ready [] t step before ready = (record { token_is = refl; ready = (rw ready.token_is ready.ready) }, tt)
all_ready (x ∷ steps) t step before ready = (before.0, all_ready steps t step before.1 ready)

pub refused_in : (error : ReadError ℕ) (all front : List Token) (t : Token) (unread new : List Token) → AreFit front → front ++ reverse unread ≡ all → unread ≡ new ++ t ∷ []
    → RefusedBy error (pattern_in t) → RefusedIn error all
refused_in errors.NoMemory all front t unread new fit e pop refused = tt
refused_in (errors.Wrong left) all front t unread new fit e pop refused =
    let whole : front ++ t ∷ reverse new ≡ all = ap (λ (xs : List Token). front ++ xs) (sym (turned unread new t pop)) ∙ e in
    ap first_refused (sym whole) ∙ refused_behind front (t ∷ reverse new) fit ∙ refused_first t (reverse new) left refused

fit_of : (pattern : Option Pattern) (compiled : Option (List ℕ × Bool)) → IsReady pattern compiled → IsFit pattern
fit_of None compiled ready = tt
fit_of (Some pattern) None ready = absurd ready
fit_of (Some pattern) (Some compiled) ready = ready.1

-- What is compiled was taken.
pub all_fit : (steps : List Step) → AreReady steps → AreFit (tokens_in steps)
all_fit [] ready = tt
all_fit (step ∷ steps) ready = (fit_of (pattern_in step.token) step.pattern ready.0.ready, all_fit steps ready.1)

-- One of the steps.
pub one_of_ready : (steps : List Step) (n : ℕ) (x : Step) → AreReady steps → n < length steps → x ≡ get_or steps n x → IsReady (pattern_in x.token) x.pattern
one_of_ready [] n x ready lt e = absurd (omega arith)
one_of_ready (step ∷ steps) zero x ready lt e = rw e ready.0.ready
one_of_ready (step ∷ steps) (suc n) x ready lt e = one_of_ready steps n x ready.1 (omega arith) e
