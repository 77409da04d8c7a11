-- Files are read as they are written.
use Rattle.std.proofs.Common.{◌≡◌, ℕ, zero, suc, ◌+◌, ◌≤◌, ◌<◌, Bool, true, false, nat_lt, List, [], ◌∷◌, ◌++◌, length, reverse, Option, Some, None, Ok, refl, sym, ap, ◌∙◌, arith}
use Rattle.std.proofs.lemmas.List.{reverse-append, reverse-reverse, length-reverse}
use Rattle.std.proofs.lemmas.Grind.{common_steps}
use Rattle.rad_outside.specs.declared.files.Place.{Place}
use Rattle.rad_outside.specs.Files.{File}
use Rattle.rad_text.specs.Paths.{place_at, beside}
use Rattle.rad_conf.specs.declared.tree.Word.{Word}
use Rattle.rad_conf.specs.declared.tree.Node.{Node}
use Rattle.rad_conf.specs.declared.mark.Mark.{Mark}
use Rattle.rad_conf.specs.declared.mark.Mark.TheVariants as mark
use Rattle.rad_conf.specs.declared.growth.Open.{Open}
use Rattle.rad_conf.specs.declared.growth.Growth.{Growth}
use Rattle.rad_conf.specs.Lines.{lines_of}
use Rattle.rad_conf.specs.Marks.{mark_at}
use Rattle.rad_conf.specs.Growth.{Include, closes, ended, ends, taken, grown, text_read, with_block}
use Rattle.rad_conf.specs.Includes.{paths_of, paths_read, listed_read, include_read}
use Rattle.rad_conf.specs.Conf.{root_of, conf_of, conf_at}
use Rattle.rad_conf.specs.Written.{Spot, Included, next_line, with_item, opened, within, behind_block, AreItems, first_line, IsFile, AreFiles, AreTaken, IsIncluded, IsConf}
use Rattle.rad_conf.proofs.Going.{made, one_mark, no_marks}
use Rattle.rad_conf.proofs.SpelledWords.{read_as}
use Rattle.rad_conf.proofs.WrittenItems.{whole_read, whole_shorter, include_read as directive_read, include_shorter, head_read, parts_read, parts_shorter, line_read, close_read}
use Rattle.rad_conf.proofs.InsideLemmas.{condition_read, head_shorter}

-- The tree of a spot.
abbrev pub growth_at : List Open → ℕ → Spot → Growth
growth_at around outside spot = record { line = spot.line; opens = reverse around; nodes = spot.nodes; outside = outside; octets = spot.octets }

-- One open block more.
pub one_open : (block : Open) (around : List Open) → reverse around ++ block ∷ [] ≡ reverse (block ∷ around)
one_open block around = sym (reverse-append (block ∷ []) around)

pub begins_block : (file : List ℕ) (kind : Word) (name : Option Word) (lines : ℕ) (around : List Open) (outside : ℕ) (spot : Spot)
    → with_block file kind name lines (growth_at around outside spot) ≡ growth_at (opened file kind name spot ∷ around) outside (within lines spot)
begins_block file kind name lines around outside spot =
    ap (λ (opens : List Open). growth_with opens) (one_open (opened file kind name spot) around)
  where
    growth_with : List Open → Growth
    growth_with opens = record { line = spot.line + lines; opens = opens; nodes = []; outside = outside; octets = spot.octets }

pub is_below : (n m : ℕ) → n < m → nat_lt n m ≡ true
is_below n m less = grind (arith, common_steps)

pub not_below : (n m : ℕ) → m ≤ n → nat_lt n m ≡ false
not_below n m less = grind (arith, common_steps)

pub closes_block : (file : List ℕ) (block : Open) (around : List Open) (outside : ℕ) (last : Spot) → outside ≤ length around
    → closes file (growth_at (block ∷ around) outside last) (reverse (reverse (block ∷ around))) ≡ made (growth_at around outside (behind_block block last))
closes_block file block around outside last less =
    ap (closes file (growth_at (block ∷ around) outside last)) (reverse-reverse (block ∷ around))
    ∙ rw (is_below outside (length (reverse (block ∷ around))) (omega (arith, length-reverse (block ∷ around)))) refl

module _ (included : Included) (include : Include) (file : List ℕ)
    (good : (place : Place) (optional : Bool) (path : List ℕ) (around : List Open) (outside : ℕ) (spot next : Spot) → included optional path around spot next → include place optional path (growth_at around outside spot) ≡ made (growth_at around outside next))
  where
    abbrev Left : ℕ → Growth → List ℕ → Growth → List ℕ → Type 0
    Left turns growth text next after = (left : ℕ) × (length after ≤ left) × (grown include file turns growth text ≡ grown include file left next after)

    one_step : (turns : ℕ) (growth next : Growth) (text after : List ℕ) (read : Mark) → length text ≤ turns → length after < length text → mark_at growth text ≡ read_as read after → taken include file read growth ≡ made next → Left turns growth text next after
    one_step turns growth next [] after read within shorter e step = absurd (omega arith)
    one_step zero growth next (c ∷ rest) after read within shorter e step = absurd (omega arith)
    one_step (suc turns) growth next (c ∷ rest) after read within shorter e step = (turns, omega arith, one_mark include file turns growth c rest ∙ rw e (rw step refl))

    goes_on : (turns : ℕ) (growth next last : Growth) (text after rest : List ℕ) → Left turns growth text next after → ((left : ℕ) → length after ≤ left → Left left next after last rest) → Left turns growth text last rest
    goes_on turns growth next last text after rest (left, enough, e) more = let (fewer, still, is) = more left enough in (fewer, still, e ∙ is)

    -- Items are read as they are written.
    pub items_read : (outside : ℕ) {around : List Open} {spot last : Spot} {text rest : List ℕ} → AreItems included file around spot text last rest → outside ≤ length around → (turns : ℕ) → length text ≤ turns
        → Left turns (growth_at around outside spot) text (growth_at around outside last) rest
    items_read outside (AreItems.nothing around spot rest) less turns enough = (turns, enough, refl)
    items_read outside (AreItems.parted around spot last text after rest parts more) less turns enough =
        goes_on turns _ (growth_at around outside spot) _ text after rest
        (one_step turns (growth_at around outside spot) (growth_at around outside spot) text after mark.Passed enough (parts_shorter parts) (parts_read _ parts) refl)
        (λ left within. items_read outside more less left within)
    items_read outside (AreItems.new_line around spot last text rest more) less turns enough =
        goes_on turns _ (growth_at around outside (next_line spot)) _ (10 ∷ text) text rest
        (one_step turns (growth_at around outside spot) (growth_at around outside (next_line spot)) (10 ∷ text) text mark.NextLine enough (omega arith) (line_read _ text) refl)
        (λ left within. items_read outside more less left within)
    items_read outside (AreItems.single_item around spot last text after rest one is more) less turns enough =
        goes_on turns _ (growth_at around outside (with_item file one spot)) _ text after rest
        (one_step turns (growth_at around outside spot) (growth_at around outside (with_item file one spot)) text after (mark.Whole one) enough (whole_shorter is) (whole_read _ is) refl)
        (λ left within. items_read outside more less left within)
    items_read outside (AreItems.include_item around spot next last text path after rest optional is taken_so more) less turns enough =
        goes_on turns _ (growth_at around outside next) _ text after rest
        (one_step turns (growth_at around outside spot) (growth_at around outside next) text after (mark.Includes optional path) enough (include_shorter is) (directive_read _ is) (good (place_at file spot.line) optional (beside file path) around outside spot next taken_so))
        (λ left within. items_read outside more less left within)
    items_read outside (AreItems.block_item around spot inner last text body after rest kind name lines head inside more) less turns enough =
        goes_on turns _ (growth_at (block ∷ around) outside (within lines spot)) _ text body rest
        (one_step turns (growth_at around outside spot) (growth_at (block ∷ around) outside (within lines spot)) text body (mark.Opens kind name lines) enough (head_shorter head) (head_read _ (condition_read _) head) (ap made (begins_block file kind name lines around outside spot)))
        (λ left fits.
        goes_on left _ (growth_at (block ∷ around) outside inner) _ body (125 ∷ after) rest
        (items_read outside inside (omega arith) left fits)
        (λ fewer still.
        goes_on fewer _ (growth_at around outside (behind_block block inner)) _ (125 ∷ after) after rest
        (one_step fewer (growth_at (block ∷ around) outside inner) (growth_at around outside (behind_block block inner)) (125 ∷ after) after mark.Closes still (omega arith) (close_read _ after) (closes_block file block around outside inner less))
        (λ last_left fit. items_read outside more less last_left fit)))
      where
        block : Open
        block = opened file kind name spot

    ends_file : (around : List Open) (last : Spot) → ended (growth_at around (length (reverse around)) last) ≡ made (growth_at around (length (reverse around)) last)
    ends_file around last = ap (ends (growth_at around (length (reverse around)) last)) (reverse-reverse around) ∙ by around where
      by : (blocks : List Open) → ends (growth_at around (length (reverse around)) last) blocks ≡ made (growth_at around (length (reverse around)) last)
      by [] = refl
      by (block ∷ blocks) = rw (not_below (length (reverse around)) (length (reverse around)) (omega arith)) refl

    -- A file is read as it is written.
    pub file_read : (around : List Open) (outside : ℕ) {spot last : Spot} {text : List ℕ} → IsFile included file around spot text last → text_read include file text (growth_at around outside spot) ≡ made (growth_at around outside last)
    unfolding text_read
    file_read around outside (IsFile.counted spot last text fits items) =
        rw (not_below 4194304 (spot.octets + length text) fits) (rw read refl)
      where
        went : Left (length (lines_of text)) (growth_at around (length (reverse around)) (first_line text spot)) (lines_of text) (growth_at around (length (reverse around)) last) []
        went = items_read (length (reverse around)) items (omega (arith, length-reverse around)) (length (lines_of text)) (omega arith)

        read : grown include file (length (lines_of text)) (growth_at around (length (reverse around)) (first_line text spot)) (lines_of text) ≡ made (growth_at around (length (reverse around)) last)
        read = went.2 ∙ no_marks include file went.0 (growth_at around (length (reverse around)) last) ∙ ends_file around last

-- The files of an include are read as they are written.
module _ (included : Included) (include : Include) (files : List File) (root : List ℕ)
    (good : (place : Place) (optional : Bool) (path : List ℕ) (around : List Open) (outside : ℕ) (spot next : Spot) → included optional path around spot next → include place optional path (growth_at around outside spot) ≡ made (growth_at around outside next))
  where
    files_read : (place : Place) (optional : Bool) (around : List Open) (outside : ℕ) {paths : List (List ℕ)} {spot last : Spot} → AreFiles included files root optional around paths spot last
        → paths_read include files root place optional paths (growth_at around outside spot) ≡ made (growth_at around outside last)
    unfolding paths_read
    files_read place optional around outside (AreFiles.no_file spot) = refl
    files_read place optional around outside (AreFiles.no_such_file path paths spot last none may more) = rw (none, may) (files_read place optional around outside more)
    files_read place optional around outside (AreFiles.one_file path text paths spot next last found is more) =
        rw found (rw (file_read included include path good around outside is) (files_read place optional around outside more))

    pub taken_read : (place : Place) (optional : Bool) (around : List Open) (outside : ℕ) (spot last : Spot) (paths : Option (List (List ℕ))) → AreTaken included files root optional around spot last paths
        → listed_read include files root place optional (growth_at around outside spot) paths ≡ made (growth_at around outside last)
    taken_read place optional around outside spot last None (may, same) = rw (may, same) refl
    taken_read place optional around outside spot last (Some paths) are = files_read place optional around outside are

pub includes_read : (files : List File) (root : List ℕ) (left : ℕ) (place : Place) (optional : Bool) (path : List ℕ) (around : List Open) (outside : ℕ) (spot next : Spot) → IsIncluded files root left optional path around spot next
    → include_read files root left place optional path (growth_at around outside spot) ≡ made (growth_at around outside next)
unfolding include_read
includes_read files root zero place optional path around outside spot next is = absurd is
includes_read files root (suc left) place optional path around outside spot next is =
    taken_read (IsIncluded files root left) (include_read files root left) files root (includes_read files root left) place optional around outside spot next (paths_of files root path) is

-- A configuration is read as it is written.
pub conf_read : (dir name : List ℕ) (files : List File) {nodes : List Node} → IsConf dir name files nodes → conf_at dir name files ≡ Ok nodes
unfolding conf_of
conf_read dir name files (IsConf.first_file text last found is) =
    rw found (rw (file_read (IsIncluded files (root_of dir) 16) (include_read files (root_of dir) 16) name (includes_read files (root_of dir) 16) [] 0 is) refl)
