-- What a text is read as, by its tokens.
use Rattle.std.proofs.Common.{◌≡◌, ℕ, List, length, Option, Some, None, Result, Ok, Err, refl, ap, ◌∙◌, inl, inr}
use Rattle.rad_text.specs.declared.read.ReadError.{ReadError}
use Rattle.rad_text.specs.declared.read.ReadError.TheVariants as errors
use Rattle.rad_dict.specs.Definitions.{Definitions}
use Rattle.unlang_cond.specs.declared.atom.Token.{Token}
use Rattle.unlang_cond.specs.declared.fault.Wrong.{Wrong}
use Rattle.unlang_cond.specs.Faults.{fault_of, refusal_of}
use Rattle.unlang_cond.specs.Tokens.{tokens_of}
use Rattle.unlang_cond.specs.Trees.{tree_of}
use Rattle.unlang_cond.specs.Steps.{first_refused, RefusedIn}
use Rattle.unlang_cond.specs.Conditions.{judged, reading_of, IsFaultOf}

module _ (text : List ℕ) (dict : Definitions) (tokens : List Token) where
  judged_by : (wrong : Option Wrong) → tokens_of text dict ≡ (tokens, wrong) → reading_of text dict ≡ judged (length text) (first_refused tokens) tokens wrong
  unfolding reading_of
  judged_by wrong e = ap (λ (r : List Token × Option Wrong). judged (length text) (first_refused r.0) r.0 r.1) e

  by_refused : (wrong : Option Wrong) (refused : Option ℕ) → tokens_of text dict ≡ (tokens, wrong) → first_refused tokens ≡ refused → reading_of text dict ≡ judged (length text) refused tokens wrong
  by_refused wrong refused e r = judged_by wrong e ∙ ap (λ (o : Option ℕ). judged (length text) o tokens wrong) r

  pub refused_reading : (wrong : Option Wrong) (error : ReadError ℕ) → tokens_of text dict ≡ (tokens, wrong) → RefusedIn error tokens → IsFaultOf (refusal_of (length text) error) text dict
  refused_reading wrong errors.NoMemory e refused = inl refl
  refused_reading wrong (errors.Wrong left) e refused = inr (by_refused wrong (Some left) e refused)

  pub wrong_reading : (wrong : Option Wrong) (one : Wrong) → tokens_of text dict ≡ (tokens, wrong) → wrong ≡ Some one → first_refused tokens ≡ None → IsFaultOf (fault_of (length text) one) text dict
  wrong_reading wrong one e is none = inr (by_refused wrong None e none ∙ ap (λ (o : Option Wrong). judged (length text) None tokens o) is)

  pub whole_reading : (wrong : Option Wrong) → tokens_of text dict ≡ (tokens, wrong) → wrong ≡ None → first_refused tokens ≡ None → reading_of text dict ≡ Ok (tree_of tokens)
  whole_reading wrong e is none = by_refused wrong None e none ∙ ap (λ (o : Option Wrong). judged (length text) None tokens o) is
