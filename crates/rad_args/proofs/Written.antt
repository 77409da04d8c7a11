-- Words that are written, and read again.
use Rattle.std.proofs.Common.{◌≡◌, ◌≢◌, ℕ, true, false, List, [], ◌∷◌, ◌++◌, map, Option, Some, None, refl, sym, ap, ◌∙◌}
use Rattle.std.specs.Option.{option_map}
use Rattle.std.specs.Str.{bytes_eq}
use Rattle.std.proofs.lemmas.Bool.{cond-true, cond-false, ne_eqb}
use Rattle.rad_text.specs.Find.{◌>>=◌}
use Rattle.rad_args.specs.declared.item.Item.{Item}
use Rattle.rad_args.specs.declared.item.Item.TheVariants.{Letter, Valued, Plain}
use Rattle.rad_args.specs.declared.reading.Reading.{Reading}
use Rattle.rad_args.specs.declared.reading.Reading.TheVariants.{Letters, Value, Plainly}
use Rattle.rad_args.specs.Words.{is_in, is_value, in_front, valued, last_letter, joined, letters_or_plain, read_word, read_words}
use Rattle.rad_args.specs.Pushed.{onto}

module _ (flags options : List ℕ) where
  -- What follows a word, by what was found of it.
  abbrev pub then_words : List (List ℕ) → Option (Reading × List Item) → Option (List Item)
  then_words words found = found >>= (λ (f : Reading × List Item). option_map (λ (items : List Item). f.1 ++ items) (read_words flags options f.0 words))

  first_word : (reading : Reading) (word : List ℕ) (words : List (List ℕ)) (found : Option (Reading × List Item)) → read_word flags options reading word ≡ found → read_words flags options reading (word ∷ words) ≡ then_words words found
  unfolding read_words
  first_word reading word words found e = ap (then_words words) e

  not_hyphens : (letter : ℕ) (rest : List ℕ) → letter ≢ 45 → bytes_eq (45 ∷ letter ∷ rest) (45 ∷ 45 ∷ []) ≡ false
  not_hyphens letter rest other = rw (ne_eqb letter 45 other) refl

  letters_word : (letter : ℕ) (rest : List ℕ) → letter ≢ 45 → letters_or_plain flags options (45 ∷ letter ∷ rest) ≡ joined flags options (letter ∷ rest)
  unfolding letters_or_plain
  letters_word letter rest other = cond-false _ _ _ (not_hyphens letter rest other)

  a_letter : (letter : ℕ) (rest : List ℕ) → is_in letter flags ≡ true → joined flags options (letter ∷ rest) ≡ in_front (Letter letter ∷ []) (joined flags options rest)
  unfolding joined
  a_letter letter rest is = cond-true _ _ _ is

  no_letters : joined flags options [] ≡ Some (Letters, [])
  unfolding joined
  no_letters = refl

  a_last : (letter : ℕ) (rest : List ℕ) → is_in letter flags ≡ false → joined flags options (letter ∷ rest) ≡ last_letter options letter rest
  unfolding joined
  a_last letter rest none = cond-false _ _ _ none

  with_value : (letter : ℕ) (rest : List ℕ) → is_in letter flags ≡ false → is_in letter options ≡ true → joined flags options (letter ∷ rest) ≡ Some (valued letter rest)
  with_value letter rest none is = a_last letter rest none ∙ cond-true _ _ _ is

  -- Items in front of what is found stand in front of what follows.
  items_then : (x : Item) (words : List (List ℕ)) (found : Option (Reading × List Item)) → then_words words (in_front (x ∷ []) found) ≡ onto (x ∷ []) (then_words words found)
  items_then x words None = refl
  items_then x words (Some found) = by (read_words flags options found.0 words) where
    by : (more : Option (List Item)) → option_map (λ (items : List Item). (x ∷ found.1) ++ items) more ≡ onto (x ∷ []) (option_map (λ (items : List Item). found.1 ++ items) more)
    by None = refl
    by (Some items) = refl

  pub letter_again : (letter : ℕ) (words : List (List ℕ)) → letter ≢ 45 → is_in letter flags ≡ true → read_words flags options Letters ((45 ∷ letter ∷ []) ∷ words) ≡ onto (Letter letter ∷ []) (read_words flags options Letters words)
  letter_again letter words other is =
      first_word Letters (45 ∷ letter ∷ []) words _ (letters_word letter [] other ∙ a_letter letter [] is ∙ ap (in_front (Letter letter ∷ [])) no_letters)

  pub joined_again : (letter next : ℕ) (rest : List ℕ) (words : List (List ℕ)) → letter ≢ 45 → next ≢ 45 → is_in letter flags ≡ true
      → read_words flags options Letters ((45 ∷ letter ∷ next ∷ rest) ∷ words) ≡ onto (Letter letter ∷ []) (read_words flags options Letters ((45 ∷ next ∷ rest) ∷ words))
  joined_again letter next rest words other another is =
      first_word Letters (45 ∷ letter ∷ next ∷ rest) words _ (letters_word letter (next ∷ rest) other ∙ a_letter letter (next ∷ rest) is)
      ∙ items_then (Letter letter) words (joined flags options (next ∷ rest))
      ∙ ap (onto (Letter letter ∷ [])) (sym (first_word Letters (45 ∷ next ∷ rest) words _ (letters_word next rest another)))

  a_plain : (word : List ℕ) → is_value word ≡ true → letters_or_plain flags options word ≡ Some (Letters, Plain word ∷ [])
  unfolding letters_or_plain
  a_plain word is = cond-true _ _ _ is

  pub plain_again : (word : List ℕ) (words : List (List ℕ)) → is_value word ≡ true → read_words flags options Letters (word ∷ words) ≡ onto (Plain word ∷ []) (read_words flags options Letters words)
  plain_again word words is = first_word Letters word words _ (a_plain word is)

  all_plain : (words : List (List ℕ)) → read_words flags options Plainly words ≡ Some (map Plain words)
  unfolding read_words
  all_plain [] = refl
  all_plain (word ∷ words) = ap (onto (Plain word ∷ [])) (all_plain words)

  ends_letters : letters_or_plain flags options (45 ∷ 45 ∷ []) ≡ Some (Plainly, [])
  unfolding letters_or_plain
  ends_letters = refl

  pub behind_again : (words : List (List ℕ)) → read_words flags options Letters ((45 ∷ 45 ∷ []) ∷ words) ≡ Some (map Plain words)
  behind_again words = first_word Letters (45 ∷ 45 ∷ []) words _ ends_letters ∙ ap (onto []) (all_plain words)

  pub unknown_again : (letter : ℕ) (rest : List ℕ) (words : List (List ℕ)) → letter ≢ 45 → is_in letter flags ≡ false → is_in letter options ≡ false → read_words flags options Letters ((45 ∷ letter ∷ rest) ∷ words) ≡ None
  unknown_again letter rest words other none nor =
      first_word Letters (45 ∷ letter ∷ rest) words None (letters_word letter rest other ∙ a_last letter rest none ∙ cond-false _ _ _ nor)

  pub own_again : (letter : ℕ) (value : List ℕ) (words : List (List ℕ)) → letter ≢ 45 → is_in letter flags ≡ false → is_in letter options ≡ true
      → read_words flags options Letters ((45 ∷ letter ∷ 61 ∷ value) ∷ words) ≡ onto (Valued letter value ∷ []) (read_words flags options Letters words)
  own_again letter value words other none is =
      first_word Letters (45 ∷ letter ∷ 61 ∷ value) words _ (letters_word letter (61 ∷ value) other ∙ with_value letter (61 ∷ value) none is)

  wants : (letter : ℕ) (words : List (List ℕ)) → letter ≢ 45 → is_in letter flags ≡ false → is_in letter options ≡ true → read_words flags options Letters ((45 ∷ letter ∷ []) ∷ words) ≡ onto [] (read_words flags options (Value letter) words)
  wants letter words other none is = first_word Letters (45 ∷ letter ∷ []) words _ (letters_word letter [] other ∙ with_value letter [] none is)

  onto_nothing : (more : Option (List Item)) → onto [] more ≡ more
  onto_nothing None = refl
  onto_nothing (Some items) = refl

  pub next_again : (letter : ℕ) (value : List ℕ) (words : List (List ℕ)) → letter ≢ 45 → is_in letter flags ≡ false → is_in letter options ≡ true → is_value value ≡ true
      → read_words flags options Letters ((45 ∷ letter ∷ []) ∷ value ∷ words) ≡ onto (Valued letter value ∷ []) (read_words flags options Letters words)
  next_again letter value words other none is fits =
      wants letter (value ∷ words) other none is ∙ onto_nothing _ ∙ first_word (Value letter) value words (Some (Letters, Valued letter value ∷ [])) (cond-true _ _ _ fits)

  pub no_value_again : (letter : ℕ) (word : List ℕ) (words : List (List ℕ)) → letter ≢ 45 → is_in letter flags ≡ false → is_in letter options ≡ true → is_value word ≡ false
      → read_words flags options Letters ((45 ∷ letter ∷ []) ∷ word ∷ words) ≡ None
  no_value_again letter word words other none is bad =
      wants letter (word ∷ words) other none is ∙ onto_nothing _ ∙ first_word (Value letter) word words None (cond-false _ _ _ bad)

  none_follows : (letter : ℕ) → read_words flags options (Value letter) [] ≡ None
  unfolding read_words
  none_follows letter = refl

  pub end_again : (letter : ℕ) → letter ≢ 45 → is_in letter flags ≡ false → is_in letter options ≡ true → read_words flags options Letters ((45 ∷ letter ∷ []) ∷ []) ≡ None
  end_again letter other none is = wants letter [] other none is ∙ ap (onto []) (none_follows letter)
