-- What an atom of a condition says of a scope, after unlang(5). That a comparison whose left side has no value is false, and
-- what it does with unlike kinds, are this project's own.
use Rattle.std.specs.Prelude.{◌≡◌, ℕ, Bool, false, not, ◌==◌, nat_lt, List, [], ◌∷◌, length, replicate, Option, Some, None, unwrap_or, if◌then◌else◌}
use Rattle.std.specs.Option.{option_to_list}
use Rattle.std.specs.List.{list_any}
use Rattle.rad_words.specs.declared.codes.Code.{Code}
use Rattle.rad_words.specs.declared.codes.Code.TheVariants as code
use Rattle.rad_value.specs.declared.values.Value.{Value}
use Rattle.rad_value.specs.declared.comparison.Cmp.{Cmp}
use Rattle.rad_value.specs.declared.scope.Scope.{Scope}
use Rattle.rad_value.specs.Comparison.{comparison}
use Rattle.rad_dict.specs.Definitions.{Definitions}
use Rattle.unlang_reference.specs.declared.reference.Reference.{Reference}
use Rattle.unlang_reference.specs.Values.{values_of, text_of}
use Rattle.unlang_cond.specs.declared.atom.Side.{Side}
use Rattle.unlang_cond.specs.declared.atom.Side.TheVariants as side
use Rattle.unlang_cond.specs.declared.atom.Operand.{Operand}
use Rattle.unlang_cond.specs.declared.atom.Operand.TheVariants as operand
use Rattle.unlang_cond.specs.declared.atom.Atom.{Atom}
use Rattle.unlang_cond.specs.declared.atom.Atom.TheVariants as atom
use Rattle.unlang_cond.specs.Expansions.{expansion_text}
use Rattle.unlang_cond.specs.Sides.{value_read}
use Rattle.unlang_cond.specs.Texts.{texts_hold}
use Rattle.unlang_cond.specs.Looks.{looked_for}

-- The place of a code among the nine, from 0.
abbrev pub place_of : Code → ℕ
place_of code.Reject = 0
place_of code.Fail = 1
place_of code.Ok = 2
place_of code.Handled = 3
place_of code.Invalid = 4
place_of code.Userlock = 5
place_of code.Notfound = 6
place_of code.Noop = 7
place_of code.Updated = 8

-- The last code is this one.
abbrev pub is_code : Option Code → Code → Bool
is_code None c = false
is_code (Some last) c = place_of last == place_of c

-- The text of a side, none where a reference names no value.
abbrev pub side_text : Side → Scope → Definitions → Option (List ℕ)
side_text (side.Reference reference) scope dict =
    if length (values_of reference scope.lists) == 0 then None else Some (text_of reference scope.lists dict)
side_text (side.Literal text) scope dict = Some text
side_text (side.Expansion x) scope dict = Some (expansion_text x scope dict)

-- A reference by itself holds where it has a value, a quoted text where it isn't empty.
abbrev pub is_present : Side → Scope → Definitions → Bool
is_present (side.Reference reference) scope dict = nat_lt 0 (length (values_of reference scope.lists))
is_present (side.Literal text) scope dict = nat_lt 0 (length text)
is_present (side.Expansion x) scope dict = nat_lt 0 (length (expansion_text x scope dict))

-- The values with which a reference is compared: none where an expansion can't be read as one.
abbrev pub operand_values : Reference → Operand → Scope → Definitions → List Value
operand_values reference (operand.Reference other) scope dict = values_of other scope.lists
operand_values reference (operand.Value v) scope dict = v ∷ []
operand_values reference (operand.Expansion x) scope dict = option_to_list (value_read reference (expansion_text x scope dict) dict)

-- A comparison of values holds where it holds of some two, one of each side; of two of different kinds it never does.
abbrev pub one_holds : Cmp → List Value → Value → Bool
one_holds cmp rights left = list_any (λ (right : Value). unwrap_or (comparison left cmp right) false) rights

-- A comparison of values holds of some value of the left side and some value of the right.
abbrev pub values_hold : List Value → Cmp → List Value → Bool
values_hold lefts cmp rights = list_any (one_holds cmp rights) lefts

-- A comparison of texts, each of which has to be there.
abbrev pub both_hold : Option (List ℕ) → Cmp → Option (List ℕ) → Bool
both_hold None cmp right = false
both_hold (Some left) cmp None = false
both_hold (Some left) cmp (Some right) = texts_hold left cmp right

-- The scope with these captures.
abbrev pub with_captures : Scope → List (Option (List ℕ)) → Scope
with_captures scope captures = record scope { captures = captures }

-- After a look the captures are those of the match, or empty where there is none.
abbrev pub after_look : Bool → Option (List (Option (List ℕ))) → Scope → Bool × Scope
after_look negative None scope = (negative, with_captures scope (replicate 9 None))
after_look negative (Some captures) scope = (not negative, with_captures scope captures)

-- A look in a text, which has to be there, for the pattern of this text; and whether letters match in either case.
abbrev pub look_in : Option (List ℕ) → Bool → List ℕ × Bool → Scope → Bool × Scope
look_in None negative pattern scope = (false, scope)
look_in (Some text) negative pattern scope = after_look negative (looked_for pattern.0 pattern.1 text) scope

-- What an atom says of a scope, and the scope after it.
abbrev pub test : Atom → Scope → Definitions → Bool × Scope
test (atom.Constant constant) scope dict = (constant, scope)
test (atom.Returned c) scope dict = (is_code scope.last c, scope)
test (atom.Present s) scope dict = (is_present s scope dict, scope)
test (atom.Values reference cmp o) scope dict =
    (values_hold (values_of reference scope.lists) cmp (operand_values reference o scope dict), scope)
test (atom.Texts left cmp right) scope dict = (both_hold (side_text left scope dict) cmp (side_text right scope dict), scope)
test (atom.Look s negative pattern) scope dict = look_in (side_text s scope dict) negative (pattern.source, pattern.insensitive) scope

-- The scope changed in its captures alone.
abbrev pub OnlyCaptures : Scope → Scope → Type 0
OnlyCaptures before now = now ≡ with_captures before now.captures
