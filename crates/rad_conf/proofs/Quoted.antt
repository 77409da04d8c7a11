-- Words between quotes are read back.
use Rattle.std.proofs.Common.{◌≡◌, ℕ, suc, ◌+◌, Bool, true, false, ◌==◌, cond, List, [], ◌∷◌, ◌++◌, length, take, drop, Option, Some, Result, Ok, refl, ap, ◌∙◌, append_assoc, arith}
use Rattle.std.proofs.lemmas.List.{length-append}
use Rattle.std.proofs.lemmas.Grind.{common_steps}
use Rattle.rad_conf.specs.declared.fault.Wrong.{Wrong}
use Rattle.rad_conf.specs.declared.spelling.Spelling.{Spelling}
use Rattle.rad_conf.specs.declared.spelling.Spelling.TheVariants as spelling
use Rattle.rad_conf.specs.declared.spelling.Ahead.TheVariants.{Reads}
use Rattle.rad_conf.specs.declared.growth.Growth.{Growth}
use Rattle.rad_conf.specs.declared.tree.Quote.{Quote}
use Rattle.rad_conf.specs.declared.tree.Quote.TheVariants.{Single, Double}
use Rattle.rad_conf.specs.Signs.{sign_at, variable_at}
use Rattle.rad_conf.specs.Words.{quoted_from, spelled_from, quoted_word, word_at}
use Rattle.rad_conf.specs.Grammar.{word, lacks, in_single, double_octet, in_double, ReadsSingle, ReadsDouble}

single_len : (text rest : List ℕ) (len : ℕ) → lacks 10 text ≡ true → quoted_from 39 len false (in_single text ++ 39 ∷ rest) ≡ Some (len + length (in_single text))
unfolding lacks in_single quoted_from
single_len [] rest len lacking = grind arith
single_len (c ∷ text) rest len lacking = grind (arith, common_steps, single_len text rest (len + 1), single_len text rest (len + 1 + 1))

single_text : (growth : Growth) (text out : List ℕ) → spelled_from growth spelling.Single out Reads (in_single text) ≡ Ok (out ++ text)
unfolding in_single spelled_from
single_text growth [] out = grind (arith, common_steps)
single_text growth (c ∷ text) out = grind (arith, common_steps, single_text growth text (out ++ c ∷ []))

pub front : (xs rest : List ℕ) (c : ℕ) → take (length xs) (xs ++ c ∷ rest) ≡ xs
front [] rest c = refl
front (x ∷ xs) rest c = ap (λ (ys : List ℕ). x ∷ ys) (front xs rest c)

pub back : (xs rest : List ℕ) (c : ℕ) → drop (length xs + 1) (xs ++ c ∷ rest) ≡ rest
back [] rest c = refl
back (x ∷ xs) rest c = let e : length (x ∷ xs) + 1 ≡ suc (length xs + 1) = omega arith in rw e (back xs rest c)

-- A word between quotes, by where its quote stands and by what it spells.
pub quoted : (growth : Growth) (quote : Quote) (how : Spelling) (mark : ℕ) (raw text rest : List ℕ) → quoted_from mark 0 false (raw ++ mark ∷ rest) ≡ Some (length raw) → spelled_from growth how [] Reads raw ≡ Ok text
    → quoted_word growth quote how mark (raw ++ mark ∷ rest) ≡ Ok (word quote text, rest)
unfolding quoted_word
quoted growth quote how mark raw text rest len spells = rw (len, quoted_word) (rw (front raw rest mark, spells, back raw rest mark) refl)

pub from_zero : (n : ℕ) (found : Option ℕ) → found ≡ Some (0 + n) → found ≡ Some n
from_zero n found e = let same : 0 + n ≡ n = omega arith in e ∙ ap (λ (m : ℕ). Some m) same

pub reads_single : ReadsSingle
unfolding word_at sign_at
reads_single growth text rest lacking =
    quoted growth Single spelling.Single 39 (in_single text) text rest (from_zero (length (in_single text)) _ (single_len text rest 0 lacking)) (single_text growth text [])

double_step : (c : ℕ) (more : List ℕ) (len : ℕ) → quoted_from 34 len false (double_octet c ++ more) ≡ quoted_from 34 (len + length (double_octet c)) false more
unfolding double_octet quoted_from
double_step c more len = grind (arith, common_steps)

double_len : (text rest : List ℕ) (len : ℕ) → quoted_from 34 len false (in_double text ++ 34 ∷ rest) ≡ Some (len + length (in_double text))
unfolding in_double quoted_from
double_len [] rest len = grind arith
double_len (c ∷ text) rest len =
    ap (quoted_from 34 len false) (append_assoc (double_octet c) (in_double text) (34 ∷ rest)) ∙ double_step c (in_double text ++ 34 ∷ rest) len
    ∙ double_len text rest (len + length (double_octet c)) ∙ ap (λ (n : ℕ). Some n) (omega (arith, length-append (double_octet c) (in_double text)))

double_spells : (growth : Growth) (c : ℕ) (out more : List ℕ) → (c == 36) ≡ false → spelled_from growth spelling.Double out Reads (double_octet c ++ more) ≡ spelled_from growth spelling.Double (out ++ c ∷ []) Reads more
unfolding double_octet spelled_from variable_at
double_spells growth c out more lacking = grind (arith, common_steps)

double_text : (growth : Growth) (text out : List ℕ) → lacks 36 text ≡ true → spelled_from growth spelling.Double out Reads (in_double text) ≡ Ok (out ++ text)
unfolding lacks in_double spelled_from
double_text growth [] out lacking = grind (arith, common_steps)
double_text growth (c ∷ text) out lacking =
    let both : ((c == 36) ≡ false) × (lacks 36 text ≡ true) = split (c == 36) (lacks 36 text) lacking in
    double_spells growth c out (in_double text) both.0 ∙ double_text growth text (out ++ c ∷ []) both.1 ∙ ap (λ (all : List ℕ). answered all) (append_assoc out (c ∷ []) text)
  where
    split : (b rest : Bool) → cond b false rest ≡ true → (b ≡ false) × (rest ≡ true)
    split true rest e = absurd cc
    split false rest e = (refl, e)

    answered : List ℕ → Result (List ℕ) Wrong
    answered all = Ok all

pub reads_double : ReadsDouble
unfolding word_at sign_at
reads_double growth text rest lacking =
    quoted growth Double spelling.Double 34 (in_double text) text rest (from_zero (length (in_double text)) _ (double_len text rest 0)) (double_text growth text [] lacking)
