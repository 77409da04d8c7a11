-- What is found among the items of a command line. This project's own.
use Rattle.std.specs.Prelude.{ℕ, ◌==◌, List, [], ◌∷◌, Option, Some, None, if◌then◌else◌}
use Rattle.rad_args.specs.declared.item.Item.{Item}
use Rattle.rad_args.specs.declared.item.Item.TheVariants.{Letter, Valued, Plain}

-- The value of an item, where it is this letter with one.
abbrev pub value_in : ℕ → Item → Option (List ℕ)
value_in letter (Letter other) = None
value_in letter (Valued other value) = if other == letter then Some value else None
value_in letter (Plain word) = None

-- The first that was found, or else the second.
abbrev pub or_else : Option (List ℕ) → Option (List ℕ) → Option (List ℕ)
or_else None second = second
or_else (Some value) second = Some value

-- The value of a letter.
abbrev pub value_of : ℕ → List Item → Option (List ℕ)
value_of letter [] = None
value_of letter (item ∷ items) = or_else (value_in letter item) (value_of letter items)

-- The plain words, in order.
abbrev pub plain_words : List Item → List (List ℕ)
plain_words [] = []
plain_words (Letter letter ∷ items) = plain_words items
plain_words (Valued letter value ∷ items) = plain_words items
plain_words (Plain word ∷ items) = word ∷ plain_words items
