-- Lines are read as they are written.
use Rattle.std.proofs.Common.{◌≡◌, ℕ, ◌+◌, true, false, ◌==◌, List, [], ◌∷◌, ◌++◌, replicate, refl, ap, ◌∙◌, arith}
use Rattle.std.proofs.lemmas.Grind.{common_steps}
use Rattle.rad_conf.specs.Lines.{is_line_end, lines_from}
use Rattle.rad_conf.specs.Grammar.{lacks}
use Rattle.rad_conf.specs.WrittenLines.{is_line, EndsLines, EndsWindowsLines, JoinsLines}

first_plain : (c : ℕ) (line : List ℕ) → is_line (c ∷ line) ≡ true → (c == 10) ≡ false
unfolding is_line
first_plain c [] e = grind (arith, common_steps)
first_plain c (d ∷ line) e = grind (arith, common_steps)

-- No line ends within a line.
no_end : (c : ℕ) (line tail : List ℕ) → is_line (c ∷ line) ≡ true → is_line_end ((c ∷ line) ++ tail) ≡ false
unfolding is_line is_line_end
no_end c [] tail e = grind (arith, common_steps)
no_end c (d ∷ []) tail e = grind (arith, common_steps)
no_end c (d ∷ f ∷ line) tail e = grind (arith, common_steps)

none_joined : (c : ℕ) (line tail : List ℕ) → lacks 10 (c ∷ line) ≡ true → is_line_end ((c ∷ line) ++ 92 ∷ tail) ≡ false
unfolding lacks is_line_end
none_joined c [] tail e = grind (arith, common_steps)
none_joined c (d ∷ line) tail e = grind (arith, common_steps)

abbrev done : ℕ → List ℕ → List ℕ
done joined rest = replicate (joined + 1) 10 ++ lines_from 0 false rest

-- A line of its own, behind lines that were joined.
line_goes : (joined : ℕ) (line rest : List ℕ) → is_line line ≡ true → lines_from joined false (line ++ 10 ∷ rest) ≡ line ++ done joined rest
unfolding is_line lines_from is_line_end
line_goes joined [] rest e = refl
line_goes joined (c ∷ []) rest e = grind (arith, common_steps)
line_goes joined (c ∷ d ∷ line) rest e = grind (arith, common_steps, line_goes joined (d ∷ line) rest, no_end d line (10 ∷ rest), first_plain d line)

line_goes_too : (joined : ℕ) (line rest : List ℕ) → is_line line ≡ true → lines_from joined false (line ++ 13 ∷ 10 ∷ rest) ≡ line ++ done joined rest
unfolding is_line lines_from is_line_end
line_goes_too joined [] rest e = refl
line_goes_too joined (c ∷ []) rest e = grind (arith, common_steps)
line_goes_too joined (c ∷ d ∷ line) rest e = grind (arith, common_steps, line_goes_too joined (d ∷ line) rest, no_end d line (13 ∷ 10 ∷ rest), first_plain d line)

-- A line that goes on behind its end.
line_joins : (joined : ℕ) (line rest : List ℕ) → lacks 10 line ≡ true → lines_from joined false (line ++ 92 ∷ 10 ∷ rest) ≡ line ++ lines_from (joined + 1) false rest
unfolding lacks lines_from is_line_end
line_joins joined [] rest e = refl
line_joins joined (c ∷ []) rest e = grind (arith, common_steps)
line_joins joined (c ∷ d ∷ line) rest e = grind (arith, common_steps, line_joins joined (d ∷ line) rest, none_joined d line (10 ∷ rest))

pub ends_lines : EndsLines
ends_lines line rest e = line_goes 0 line rest e

pub ends_windows_lines : EndsWindowsLines
ends_windows_lines line rest e = line_goes_too 0 line rest e

pub joins_lines : JoinsLines
joins_lines line next rest e plain = line_joins 0 line (next ++ 10 ∷ rest) e ∙ ap (λ (xs : List ℕ). line ++ xs) (line_goes (0 + 1) next rest plain)
