-- The evaluation of a condition step by step, with a group for each open parenthesis. This project's own form; what it comes to is
-- said by the condition's tree.
use Rattle.std.specs.Prelude.{Bool, true, false, not, List, [], ◌∷◌, reverse, Option, Some, None}
use Rattle.rad_value.specs.declared.scope.Scope.{Scope}
use Rattle.rad_dict.specs.Definitions.{Definitions}
use Rattle.unlang_cond.specs.declared.atom.Atom.{Atom}
use Rattle.unlang_cond.specs.declared.atom.Token.{Token}
use Rattle.unlang_cond.specs.declared.atom.Token.TheVariants as token
use Rattle.unlang_cond.specs.declared.groups.Progress.{Progress}
use Rattle.unlang_cond.specs.declared.groups.Progress.TheVariants.{Met, Failed, Going}
use Rattle.unlang_cond.specs.declared.groups.Group.{Group}
use Rattle.unlang_cond.specs.declared.groups.Groups.{Groups}
use Rattle.unlang_cond.specs.Tests.{test}

-- How far an alternative has come behind an operand of this value, perhaps negated.
abbrev pub settled : Bool → Bool → Progress
settled false true = Going
settled false false = Failed
settled true true = Failed
settled true false = Going

-- A group within another is evaluated where all operands before it have held.
abbrev pub opened : Option Progress → Option Progress
opened None = None
opened (Some Met) = None
opened (Some Failed) = None
opened (Some Going) = Some Going

-- Behind `||` a group has been met, or goes on with its next alternative.
abbrev pub alternative : Option Progress → Option Progress
alternative None = None
alternative (Some Met) = Some Met
alternative (Some Failed) = Some Going
alternative (Some Going) = Some Met

-- Whether a group holds that has come so far.
abbrev pub is_met : Option Progress → Bool
is_met None = false
is_met (Some Met) = true
is_met (Some Failed) = false
is_met (Some Going) = true

-- The group around a closed one takes its value as an operand's.
abbrev pub shut : Bool → Option Progress → Option Progress → Option Progress
shut negated None inner = None
shut negated (Some Met) inner = Some Met
shut negated (Some Failed) inner = Some Failed
shut negated (Some Going) inner = Some (settled negated (is_met inner))

-- How far an alternative has come behind an operand of this meaning, which is asked for where all operands before it have held.
abbrev pub took : (Scope → Bool × Scope) → Bool → Option Progress → Scope → Option Progress × Scope
took meaning negated None scope = (None, scope)
took meaning negated (Some Met) scope = (Some Met, scope)
took meaning negated (Some Failed) scope = (Some Failed, scope)
took meaning negated (Some Going) scope = (Some (settled negated (meaning scope).0), (meaning scope).1)

-- A group at this point.
abbrev pub group : Option Progress → Bool → Group
group progress negated = record { progress = progress; negated = negated }

-- A group of which nothing was read.
abbrev pub fresh_group : Group
fresh_group = group (Some Going) false

-- The groups that are open, the innermost first.
abbrev pub groups_of : Groups → List Group
groups_of groups = groups.top ∷ reverse groups.outer.items

-- A group is opened within the innermost one, and the innermost one is closed.
abbrev pub opening : List Group → List Group
opening [] = []
opening (g ∷ outer) = group (opened g.progress) false ∷ g ∷ outer

-- The innermost group is closed, and is an operand of the one around it.
abbrev pub closing : List Group → List Group
closing [] = []
closing (g ∷ []) = g ∷ []
closing (g ∷ p ∷ outer) = group (shut p.negated p.progress g.progress) false ∷ outer

-- A group behind an atom.
abbrev pub atom_taken : Atom → Group → Scope → Definitions → Group × Scope
atom_taken a g scope dict =
    (group (took (λ s. test a s dict) g.negated g.progress scope).0 false, (took (λ s. test a s dict) g.negated g.progress scope).1)

-- The groups and the scope behind a token.
abbrev pub advanced_by : Token → Group → List Group → Scope → Definitions → List Group × Scope
advanced_by token.Not g outer scope dict = (group g.progress (not g.negated) ∷ outer, scope)
advanced_by token.Open g outer scope dict = (opening (g ∷ outer), scope)
advanced_by token.Close g outer scope dict = (closing (g ∷ outer), scope)
advanced_by token.And g outer scope dict = (g ∷ outer, scope)
advanced_by token.Or g outer scope dict = (group (alternative g.progress) g.negated ∷ outer, scope)
advanced_by (token.Atom a) g outer scope dict = ((atom_taken a g scope dict).0 ∷ outer, (atom_taken a g scope dict).1)

-- The groups and the scope behind one step.
abbrev pub advance : Token → List Group → Scope → Definitions → List Group × Scope
advance t [] scope dict = ([], scope)
advance t (g ∷ outer) scope dict = advanced_by t g outer scope dict

-- All tokens, in order.
unfoldable pub run : List Token → List Group → Scope → Definitions → List Group × Scope
run [] groups scope dict = (groups, scope)
run (t ∷ tokens) groups scope dict = run tokens (advance t groups scope dict).0 (advance t groups scope dict).1 dict

-- Whether the innermost group holds.
abbrev pub top_met : List Group → Bool
top_met [] = false
top_met (g ∷ outer) = is_met g.progress
