-- How a configuration is written: items, the blocks that they stand in, and what parts them. After the manual page radiusd.conf(5),
-- apart from how it is read.
use Rattle.std.specs.Prelude.{◌≡◌, ℕ, zero, suc, ◌+◌, ◌≤◌, Bool, true, false, ◌||◌, ◌==◌, ◌⊎◌, List, [], ◌∷◌, ◌++◌, length, reverse, Option, Some, None, codes, Ok}
use Rattle.rad_outside.specs.Files.{File, octets_at}
use Rattle.rad_text.specs.Blanks.{is_blank, after_blanks}
use Rattle.rad_text.specs.Paths.{place_at, beside, joined}
use Rattle.rad_conf.specs.declared.tree.Quote.TheVariants.{Bare}
use Rattle.rad_conf.specs.declared.tree.Word.{Word}
use Rattle.rad_conf.specs.declared.tree.Item.{Item}
use Rattle.rad_conf.specs.declared.tree.Item.TheVariants as item
use Rattle.rad_conf.specs.declared.tree.Node.{Node}
use Rattle.rad_conf.specs.declared.item.Keyword.{Keyword}
use Rattle.rad_conf.specs.declared.item.Keyword.TheVariants as keyword
use Rattle.rad_conf.specs.declared.growth.Open.{Open}
use Rattle.rad_conf.specs.Lines.{lines_of}
use Rattle.rad_conf.specs.Variables.{value_of}
use Rattle.rad_conf.specs.Grammar.{word, lacks}
use Rattle.rad_conf.specs.Marks.{keyword_of}
use Rattle.rad_conf.specs.Growth.{first_growth}
use Rattle.rad_conf.specs.Spelling.{operator_of, IsBare, IsWord}
use Rattle.rad_conf.specs.Inside.{IsCondition}
use Rattle.rad_conf.specs.Includes.{paths_of, found_at}
use Rattle.rad_conf.specs.Conf.{root_of, path_of, conf_at}

-- The values of variables, by name.
abbrev pub Values : Type 0
Values = List ℕ → Option (List ℕ)

-- The operator at the front of a text, the longest that stands there, and what follows it.
abbrev pub IsOperator : List ℕ → List ℕ → List ℕ → Type 0
IsOperator text operator rest = (operator_of text ≡ Some operator) × (text ≡ operator ++ rest)

-- Whether an item ends before a text: before a line's end, a comma, a closing brace, a comment, and the text's end.
unfoldable pub ends_item : List ℕ → Bool
ends_item [] = true
ends_item (c ∷ rest) = c == 10 || c == 44 || c == 125 || c == 35

-- The bare word at the front, which may have no octets, is none of the four keywords.
abbrev pub BeginsPlain : List ℕ → Type 0
BeginsPlain text = (raw rest : List ℕ) → text ≡ raw ++ rest → IsBare rest raw → keyword_of raw ≡ keyword.Plain

-- Which item that is no block a text spells, and what follows it: a pair of words about an operator, behind two of which the right
-- word may be missing, and a bare word alone.
pub data IsWhole (value : Values) : List ℕ → Item → List ℕ → Type 0 where
  pair : (text behind operator rest after : List ℕ) (left right : Word) → BeginsPlain text → IsWord value text left behind → IsOperator (after_blanks behind) operator rest
      → IsWord value (after_blanks rest) right after → ends_item (after_blanks after) ≡ true → IsWhole value text (item.Pair left operator right) (after_blanks after)
  lone : (text behind operator rest : List ℕ) (left : Word) → BeginsPlain text → IsWord value text left behind → IsOperator (after_blanks behind) operator rest
      → (operator ≡ codes "=*") ⊎ (operator ≡ codes "!*") → ends_item (after_blanks rest) ≡ true → IsWhole value text (item.Pair left operator (word Bare [])) (after_blanks rest)
  alone : (text spelled rest : List ℕ) → BeginsPlain text → IsWord value text (word Bare spelled) rest → ends_item (after_blanks rest) ≡ true
      → IsWhole value text (item.Name (word Bare spelled)) (after_blanks rest)

-- Which kind, name and line ends a text spells as a block's head, and what follows its brace: a kind, perhaps a name, and a brace; or
-- `if` or `elsif`, a condition and a brace.
pub data IsHead (value : Values) : List ℕ → Word → Option Word → ℕ → List ℕ → Type 0 where
  unnamed : (text rest body : List ℕ) (kind : Word) → BeginsPlain text → IsWord value text kind rest → after_blanks rest ≡ 123 ∷ body → IsHead value text kind None 0 body
  named : (text rest behind body : List ℕ) (kind name : Word) → BeginsPlain text → IsWord value text kind rest → IsWord value (after_blanks rest) name behind
      → after_blanks behind ≡ 123 ∷ body → IsHead value text kind (Some name) 0 body
  tested : (raw rest condition behind body : List ℕ) (lines : ℕ) → IsBare rest raw → keyword_of raw ≡ keyword.Condition → IsCondition value (after_blanks rest) condition lines behind
      → after_blanks behind ≡ 123 ∷ body → IsHead value (raw ++ rest) (word Bare raw) (Some (word Bare condition)) lines body

-- The keyword of an include, by whether its file may be missing.
abbrev pub include_word : Bool → Keyword
include_word false = keyword.Include
include_word true = keyword.TryInclude

-- Which include a text spells: whether its file may be missing, its path, and what follows it.
pub data IsInclude (value : Values) : List ℕ → Bool → List ℕ → List ℕ → Type 0 where
  directive : (raw rest behind : List ℕ) (optional : Bool) (path : Word) → IsBare rest raw → keyword_of raw ≡ include_word optional → IsWord value (after_blanks rest) path behind
      → ends_item (after_blanks behind) ≡ true → IsInclude value (raw ++ rest) optional path.text (after_blanks behind)

-- What parts items, on one line, and what follows it: blanks, commas and comments.
pub data Parts : List ℕ → List ℕ → Type 0 where
  one_blank : (c : ℕ) (rest : List ℕ) → is_blank c ≡ true → Parts (c ∷ rest) rest
  one_comma : (rest : List ℕ) → Parts (44 ∷ rest) rest
  last_comment : (text : List ℕ) → lacks 10 text ≡ true → Parts (35 ∷ text) []
  line_comment : (text rest : List ℕ) → lacks 10 text ≡ true → Parts (35 ∷ (text ++ 10 ∷ rest)) (10 ∷ rest)

-- Where a text is read: its line, what stands so far in its block, and how many octets the files have so far.
pub record Spot : Type 0 where
  pub line : ℕ
  pub nodes : List Node
  pub octets : ℕ

-- The values of variables where these blocks are open, the innermost first, and these nodes stand in the innermost so far.
abbrev pub values : List Open → List Node → Values
values around nodes = value_of (record first_growth { opens = reverse around; nodes = nodes })

-- The next line.
abbrev pub next_line : Spot → Spot
next_line spot = record spot { line = spot.line + 1 }

-- Behind an item that begins here.
abbrev pub with_item : List ℕ → Item → Spot → Spot
with_item file whole spot = record spot { nodes = spot.nodes ++ record { place = place_at file spot.line; item = whole } ∷ [] }

-- A block that begins here.
abbrev pub opened : List ℕ → Word → Option Word → Spot → Open
opened file kind name spot = record { place = place_at file spot.line; kind = kind; name = name; before = spot.nodes }

-- In a block that begins here, behind so many line ends of its head.
abbrev pub within : ℕ → Spot → Spot
within lines spot = record { line = spot.line + lines; nodes = []; octets = spot.octets }

-- Behind a block, by where its body ends.
abbrev pub behind_block : Open → Spot → Spot
behind_block block last = record last { nodes = block.before ++ record { place = block.place; item = item.Block block.kind block.name last.nodes } ∷ [] }

-- How included files are written: whether they may be missing, by a path, within these blocks, from one spot to another.
abbrev pub Included : Type 1
Included = Bool → List ℕ → List Open → Spot → Spot → Type 0

-- Which items a text of a file spells within these blocks, the innermost first: from one spot to another, where this follows them.
pub data AreItems (included : Included) (file : List ℕ) : List Open → Spot → List ℕ → Spot → List ℕ → Type 0 where
  nothing : (around : List Open) (spot : Spot) (rest : List ℕ) → AreItems included file around spot rest spot rest
  parted : (around : List Open) (spot last : Spot) (text after rest : List ℕ) → Parts text after → AreItems included file around spot after last rest → AreItems included file around spot text last rest
  new_line : (around : List Open) (spot last : Spot) (text rest : List ℕ) → AreItems included file around (next_line spot) text last rest → AreItems included file around spot (10 ∷ text) last rest
  single_item : (around : List Open) (spot last : Spot) (text after rest : List ℕ) (one : Item) → IsWhole (values around spot.nodes) text one after
      → AreItems included file around (with_item file one spot) after last rest → AreItems included file around spot text last rest
  block_item : (around : List Open) (spot inner last : Spot) (text body after rest : List ℕ) (kind : Word) (name : Option Word) (lines : ℕ) → IsHead (values around spot.nodes) text kind name lines body
      → AreItems included file (opened file kind name spot ∷ around) (within lines spot) body inner (125 ∷ after)
      → AreItems included file around (behind_block (opened file kind name spot) inner) after last rest → AreItems included file around spot text last rest
  include_item : (around : List Open) (spot next last : Spot) (text path after rest : List ℕ) (optional : Bool) → IsInclude (values around spot.nodes) text optional path after
      → included optional (beside file path) around spot next → AreItems included file around next after last rest → AreItems included file around spot text last rest

-- A file's octets are counted, and it begins on its first line.
abbrev pub first_line : List ℕ → Spot → Spot
first_line text spot = record { line = 1; nodes = spot.nodes; octets = spot.octets + length text }

-- The items of a whole file, within the blocks around it. All files together have 4 MiB at most.
pub data IsFile (included : Included) (file : List ℕ) (around : List Open) : Spot → List ℕ → Spot → Type 0 where
  counted : (spot last : Spot) (text : List ℕ) → spot.octets + length text ≤ 4194304 → AreItems included file around (first_line text spot) (lines_of text) last []
      → IsFile included file around spot text (record last { line = spot.line })

-- The items of files, in order. One that isn't there has none, where it may be missing.
pub data AreFiles (included : Included) (files : List File) (root : List ℕ) (optional : Bool) (around : List Open) : List (List ℕ) → Spot → Spot → Type 0 where
  no_file : (spot : Spot) → AreFiles included files root optional around [] spot spot
  no_such_file : (path : List ℕ) (paths : List (List ℕ)) (spot last : Spot) → found_at (joined root path) files ≡ None → optional ≡ true → AreFiles included files root optional around paths spot last
      → AreFiles included files root optional around (path ∷ paths) spot last
  one_file : (path text : List ℕ) (paths : List (List ℕ)) (spot next last : Spot) → found_at (joined root path) files ≡ Some text → IsFile included path around spot text next
      → AreFiles included files root optional around paths next last → AreFiles included files root optional around (path ∷ paths) spot last

-- The items of the files that an include takes. A folder that isn't there has none, where it may be missing.
abbrev pub AreTaken : Included → List File → List ℕ → Bool → List Open → Spot → Spot → Option (List (List ℕ)) → Type 0
AreTaken included files root optional around spot last None = (optional ≡ true) × (last ≡ spot)
AreTaken included files root optional around spot last (Some paths) = AreFiles included files root optional around paths spot last

-- The items of an include, so many levels above the deepest.
abbrev pub IsIncluded : List File → List ℕ → ℕ → Included
IsIncluded files root zero optional path around spot last = ⊥
IsIncluded files root (suc left) optional path around spot last = AreTaken (IsIncluded files root left) files root optional around spot last (paths_of files root path)

-- Before the first file.
abbrev pub first_spot : Spot
first_spot = record { line = 1; nodes = []; octets = 0 }

-- The nodes of a configuration, by its file in a folder.
pub data IsConf (dir name : List ℕ) (files : List File) : List Node → Type 0 where
  first_file : (text : List ℕ) (last : Spot) → octets_at (path_of dir name) files ≡ Some text → IsFile (IsIncluded files (root_of dir) 16) name [] first_spot text last → IsConf dir name files last.nodes

-- A configuration that is written so is read as its nodes.
abbrev pub ReadsConf : Type 0
ReadsConf = (dir name : List ℕ) (files : List File) (nodes : List Node) → IsConf dir name files nodes → conf_at dir name files ≡ Ok nodes

-- A configuration whose nodes are read is written so.
abbrev pub SpellsConf : Type 0
SpellsConf = (dir name : List ℕ) (files : List File) (nodes : List Node) → conf_at dir name files ≡ Ok nodes → IsConf dir name files nodes
