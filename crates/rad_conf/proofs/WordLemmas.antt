-- Words and keywords take an octet at least.
use Rattle.std.proofs.Common.{◌≡◌, ℕ, ◌<◌, List, [], ◌∷◌, length, Option, Some, None, arith}
use Rattle.rad_conf.specs.declared.sign.Sign.TheVariants as sign
use Rattle.rad_conf.specs.declared.item.Keyword.TheVariants as keyword
use Rattle.rad_conf.specs.Signs.{group_len, bare_at, longer_sign, sign_at, bare_octets}
use Rattle.rad_conf.specs.Words.{bare_len, is_condition}
use Rattle.rad_conf.specs.Marks.{keyword_of}

group_some : (o : Option ℕ) → 0 < group_len o
group_some None = omega arith
group_some (Some len) = omega arith

at_some : (c : ℕ) (rest : List ℕ) → 0 < bare_at c rest
unfolding bare_at
at_some c rest = grind (arith, group_some)

longer_some : (c : ℕ) (rest : List ℕ) (len : ℕ) → longer_sign c rest ≡ sign.Bare len → 0 < len
unfolding longer_sign
longer_some c rest len e = grind (arith, at_some)

pub sign_some : (text : List ℕ) (len : ℕ) → sign_at text ≡ sign.Bare len → 0 < len
unfolding sign_at
sign_some [] len e = absurd cc
sign_some (c ∷ rest) len e = grind (arith, longer_some)

len_some : (text : List ℕ) → 0 < bare_octets (sign_at text) → 0 < bare_len 0 text
unfolding bare_len sign_at
len_some [] some = absurd (omega arith)
len_some (c ∷ rest) some = grind arith

pub bare_some : (text : List ℕ) (len : ℕ) → sign_at text ≡ sign.Bare len → 0 < bare_len 0 text
bare_some text len e = len_some text (rw e (sign_some text len e))

pub condition_some : (word : List ℕ) → keyword_of word ≡ keyword.Condition → 0 < length word
unfolding keyword_of is_condition
condition_some [] e = absurd cc
condition_some (c ∷ word) e = omega arith

pub include_some : (word : List ℕ) → keyword_of word ≡ keyword.Include → 0 < length word
unfolding keyword_of is_condition
include_some [] e = absurd cc
include_some (c ∷ word) e = omega arith

pub try_some : (word : List ℕ) → keyword_of word ≡ keyword.TryInclude → 0 < length word
unfolding keyword_of is_condition
try_some [] e = absurd cc
try_some (c ∷ word) e = omega arith
