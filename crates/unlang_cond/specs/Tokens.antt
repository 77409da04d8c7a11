-- A condition as a list of tokens, or its first fault, after unlang(5): where an operand is due, `!`, `(` or an atom stands,
-- and behind one `&&`, `||` or a `)` that closes. Blanks may stand between any two tokens. Where which fault comes is this
-- project's own.
use Rattle.std.specs.Prelude.{◌≡◌, ℕ, zero, suc, ◌+◌, ◌-◌, Bool, true, false, ◌&&◌, ◌||◌, ◌==◌, nat_lt, List, [], ◌∷◌, ◌++◌, drop, length, slice_index, Option, Some, None, Result, Ok, Err, if◌then◌else◌}
use Rattle.rad_text.specs.Read.{◌>>=◌}
use Rattle.rad_text.specs.declared.read.ReadError.{ReadError}
use Rattle.rad_text.specs.declared.read.ReadError.TheVariants as errors
use Rattle.rad_text.specs.Blanks.{after_blanks}
use Rattle.rad_dict.specs.Definitions.{Definitions}
use Rattle.unlang_cond.specs.declared.atom.Atom.{Atom}
use Rattle.unlang_cond.specs.declared.atom.Token.{Token}
use Rattle.unlang_cond.specs.declared.atom.Token.TheVariants as token
use Rattle.unlang_cond.specs.declared.fault.Wrong.{Wrong}
use Rattle.unlang_cond.specs.declared.fault.Wrong.TheVariants.{BadCondition}
use Rattle.unlang_cond.specs.Atoms.{atom_at}

-- The token where an operand is due, and what follows it.
abbrev pub operand_at : List ℕ → Definitions → Result (Token × List ℕ) Wrong
operand_at text dict =
    if slice_index text 0 == 33 then Ok (token.Not, drop 1 text)
    else (if slice_index text 0 == 40 then Ok (token.Open, drop 1 text)
    else atom_at text dict >>= (λ (a : Atom × List ℕ). Ok (token.Atom a.0, a.1)))

-- The token behind an operand, under so many open parentheses, and what follows it.
abbrev pub link_at : ℕ → List ℕ → Result (Token × List ℕ) Wrong
link_at depth text =
    if slice_index text 0 == 41 && nat_lt 0 depth then Ok (token.Close, drop 1 text)
    else (if slice_index text 0 == 38 && slice_index text 1 == 38 then Ok (token.And, drop 2 text)
    else (if slice_index text 0 == 124 && slice_index text 1 == 124 then Ok (token.Or, drop 2 text)
    else Err (BadCondition (length text))))

-- The token at the front: an operand where one is awaited, else what links operands or closes a group.
abbrev pub token_at : Bool → ℕ → List ℕ → Definitions → Result (Token × List ℕ) Wrong
token_at awaits depth text dict = if awaits then operand_at text dict else link_at depth text

-- Whether an operand is due behind a token.
abbrev pub awaits_after : Token → Bool
awaits_after token.Not = true
awaits_after token.Open = true
awaits_after token.Close = false
awaits_after token.And = true
awaits_after token.Or = true
awaits_after (token.Atom a) = false

-- How many parentheses are open behind a token, and behind a list of them.
abbrev pub depth_after : Token → ℕ → ℕ
depth_after token.Not depth = depth
depth_after token.Open depth = depth + 1
depth_after token.Close depth = depth - 1
depth_after token.And depth = depth
depth_after token.Or depth = depth
depth_after (token.Atom a) depth = depth

-- How many parentheses are open behind tokens, where so many were before.
unfoldable pub depth_from : ℕ → List Token → ℕ
depth_from depth [] = depth
depth_from depth (t ∷ tokens) = depth_from (depth_after t depth) tokens

-- At its end a condition lacks nothing where no operand is due and no parenthesis is open.
abbrev pub wrong_at_end : Bool → ℕ → Option Wrong
wrong_at_end awaits depth = if awaits || nat_lt 0 depth then Some (BadCondition 0) else None

-- The tokens of a text behind those that were read, and what is wrong first, if anything, in as many turns as are given. A token
-- takes an octet at least, so that as many turns as the text has octets are enough.
unfoldable pub read_in : ℕ → ℕ → Bool → List Token → List ℕ → Definitions → List Token × Option Wrong
read_in turns depth awaits out [] dict = (out, wrong_at_end awaits depth)
read_in zero depth awaits out (c ∷ rest) dict = (out, Some (BadCondition (length (c ∷ rest))))
read_in (suc turns) depth awaits out (c ∷ rest) dict = elim (token_at awaits depth (c ∷ rest) dict) [
  | Ok read ↦ read_in turns (depth_after read.0 depth) (awaits_after read.0) (out ++ read.0 ∷ []) (after_blanks read.1) dict
  | Err wrong ↦ (out, Some wrong)
]

-- The tokens of a whole text up to what is wrong first, if anything.
abbrev pub tokens_of : List ℕ → Definitions → List Token × Option Wrong
tokens_of text dict = read_in (length text) 0 true [] (after_blanks text) dict

-- Reading stops at what an error says is wrong. Want of memory says nothing.
abbrev pub StopsAt : ReadError Wrong → Option Wrong → Type 0
StopsAt errors.NoMemory wrong = ⊥
StopsAt (errors.Wrong w) wrong = wrong ≡ Some w
