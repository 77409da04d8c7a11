-- A call that counts as not written, and the call of an instance by its number.
use Rattle.std.proofs.Common.{◌≡◌, Bool, true, false, not, ◌&&◌, cond, if◌then◌else◌, List, [], ℕ, Option, Some, None, is_some, Result, Ok, Err, refl, sym, ap, ◌∙◌}
use Rattle.rad_outside.specs.declared.files.Place.{Place}
use Rattle.rad_words.specs.declared.sections.Section.{Section}
use Rattle.rad_text.specs.Read.{◌>>=◌}
use Rattle.unlang_tree.specs.declared.fault.TreeFault.{TreeFault}
use Rattle.unlang_tree.specs.declared.fault.TreeFault.TheVariants as fault
use Rattle.unlang_tree.specs.declared.statement.Call.{Call}
use Rattle.unlang_tree.specs.Instances.{Instance, number_of}
use Rattle.unlang_tree.specs.Calls.{can_be_called, call_of, is_optional, called_name, call_at}
use Rattle.unlang_tree.specs.EachCall.{IsMet}
use Rattle.unlang_tree.proofs.Binds.{err_ok, passed}

cut : (a b : Bool) (rest : Result (Option Call) TreeFault) → a ≡ true → b ≡ false → cond (a && not b) (Ok None) rest ≡ Ok None
cut true false rest first second = refl
cut true true rest first second = absurd cc
cut false b rest first second = absurd cc

-- `-name`, where there is no instance of the name
pub not_there : (instances : List Instance) (section : Section) (place : Place) (word name : List ℕ) (optional there : Bool)
    → optional ≡ is_optional word → name ≡ called_name word → there ≡ is_some (number_of instances name) → optional ≡ true → there ≡ false
    → call_at instances section place word ≡ Ok None
unfolding call_at
not_there instances section place word name optional there o n t first second =
    cut (is_optional word) (is_some (number_of instances (called_name word))) (call_of instances section place (called_name word) >>= λ call. Ok (Some call))
    (sym o ∙ first) (sym (t ∙ ap (λ m. is_some (number_of instances m)) n) ∙ second)

-- the call of the instance of a number, where one was found
abbrev pub numbered : List Instance → Section → Place → List ℕ → Option ℕ → Result Call TreeFault
numbered instances section place name found = elim found [
  | None ↦ Err (fault.UnknownModule place name)
  | Some number ↦
      if can_be_called instances section number then Ok (record { instance = number; overrides = [] })
      else Err (fault.NoSuchMethod place)
]

pub numbered_met : (instances : List Instance) (section : Section) (place : Place) (name : List ℕ) (found : Option ℕ) (call : Call)
    → numbered instances section place name found ≡ Ok call → IsMet instances section call
numbered_met instances section place name None call e = err_ok call (fault.UnknownModule place name) e
numbered_met instances section place name (Some number) call e =
    let plain : Call = record { instance = number; overrides = [] } in
    let both = passed (can_be_called instances section number) plain (fault.NoSuchMethod place) call e in
    ap (λ (c : Call). can_be_called instances section c.instance) (sym both.1) ∙ both.0
