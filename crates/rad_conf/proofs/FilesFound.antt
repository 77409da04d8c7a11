-- Files that are read are written so.
use Rattle.std.proofs.Common.{◌≡◌, ℕ, zero, suc, ◌+◌, ◌≤◌, Bool, true, false, nat_lt, List, [], ◌∷◌, ◌++◌, length, reverse, Option, Some, None, Result, Ok, Err, refl, sym, ap, subst, ◌∙◌, arith}
use Rattle.std.proofs.lemmas.List.{length-append, reverse-reverse, length-reverse}
use Rattle.std.proofs.lemmas.Grind.{common_steps}
use Rattle.rad_outside.specs.declared.files.Place.{Place}
use Rattle.rad_outside.specs.Files.{File, octets_at}
use Rattle.rad_text.specs.Read.{◌>>=◌}
use Rattle.rad_text.specs.Paths.{place_at, beside, joined}
use Rattle.rad_conf.specs.declared.fault.Wrong.{Wrong}
use Rattle.rad_conf.specs.declared.fault.ConfFault.{ConfFault}
use Rattle.rad_conf.specs.declared.fault.ConfFault.TheVariants as fault
use Rattle.rad_conf.specs.declared.tree.Node.{Node}
use Rattle.rad_conf.specs.declared.mark.Mark.{Mark}
use Rattle.rad_conf.specs.declared.mark.Mark.TheVariants as mark
use Rattle.rad_conf.specs.declared.growth.Open.{Open}
use Rattle.rad_conf.specs.declared.growth.Growth.{Growth}
use Rattle.rad_conf.specs.Lines.{lines_of}
use Rattle.rad_conf.specs.Marks.{mark_at}
use Rattle.rad_conf.specs.Growth.{Include, placed, closes, ended, ends, taken, grown, resumed, text_read, first_growth}
use Rattle.rad_conf.specs.Includes.{paths_of, found_at, found_read, missing, paths_read, listed_read, include_read}
use Rattle.rad_conf.specs.Conf.{root_of, path_of, conf_of, conf_from, conf_at}
use Rattle.rad_conf.specs.Written.{Spot, Included, next_line, with_item, opened, within, behind_block, AreItems, first_line, IsFile, AreFiles, AreTaken, IsIncluded, first_spot, IsConf}
use Rattle.rad_conf.proofs.Going.{made, no_marks}
use Rattle.rad_conf.proofs.InsideFound.{condition_found}
use Rattle.rad_conf.proofs.WrittenFound.{Marked, mark_found}
use Rattle.rad_conf.proofs.WrittenFiles.{growth_at, begins_block, closes_block, is_below, not_below}

-- What goes on has begun.
first_made : {A B : Type 0} (said : Result A ConfFault) (f : A → Result B ConfFault) (y : B) → (said >>= f) ≡ Ok y → (x : A) × (said ≡ Ok x) × (f x ≡ Ok y)
first_made (Ok x) f y e = (x, refl, e)
first_made (Err wrong) f y e = absurd cc

abbrev gave : {A : Type 0} → A → Result A ConfFault
gave x = Ok x

same_gave : {A : Type 0} (x y : A) → gave x ≡ gave y → x ≡ y
same_gave {A = A} x y e = ap got e where
  got : Result A ConfFault → A
  got said = elim said [ Ok given ↦ given | Err wrong ↦ x ]

same_made : (x y : Growth) → made x ≡ made y → x ≡ y
same_made x y e = ap got e where
  got : Result Growth ConfFault → Growth
  got said = elim said [ Ok growth ↦ growth | Err wrong ↦ x ]

was_placed : {A : Type 0} (file : List ℕ) (line : ℕ) (said : Result A Wrong) (x : A) → placed file line said ≡ Ok x → said ≡ Ok x
was_placed {A = A} file line (Ok y) x e = ap back e where
  back : Result A ConfFault → Result A Wrong
  back got = elim got [ Ok z ↦ Ok z | Err wrong ↦ Ok y ]
was_placed file line (Err wrong) x e = absurd cc

module _ (included : Included) (include : Include) (file : List ℕ)
    (good : (place : Place) (optional : Bool) (path : List ℕ) (around : List Open) (outside : ℕ) (spot : Spot) (after : Growth) → include place optional path (growth_at around outside spot) ≡ made after
    → (next : Spot) × (after ≡ growth_at around outside next) × included optional path around spot next)
    (outer : List Open) (outside : ℕ) (same_outside : outside ≡ length outer) (after : Growth)
  where
    -- What is left of a file, up to the ends of its open blocks.
    abbrev Finishes : List Open → Spot → List ℕ → Spot → Type 0
    Finishes [] spot text total = AreItems included file outer spot text total []
    Finishes (block ∷ mine) spot text total = (last : Spot) × (rest : List ℕ) × AreItems included file (block ∷ (mine ++ outer)) spot text last (125 ∷ rest) × Finishes mine (behind_block block last) rest total

    abbrev Found : List Open → Spot → List ℕ → Type 0
    Found mine spot text = (total : Spot) × (after ≡ growth_at outer outside total) × Finishes mine spot text total

    -- Something stands before it.
    before_it : (mine : List Open) (spot next : Spot) (text rest : List ℕ) → ((last : Spot) (end : List ℕ) → AreItems included file (mine ++ outer) next rest last end → AreItems included file (mine ++ outer) spot text last end) → Found mine next rest → Found mine spot text
    before_it [] spot next text rest more (total, is, items) = (total, is, more total [] items)
    before_it (block ∷ mine) spot next text rest more (total, is, (last, behind, items, left)) = (total, is, (last, behind, more last (125 ∷ behind) items, left))

    -- The file's end.
    at_end : (mine : List Open) (spot : Spot) → ended (growth_at (mine ++ outer) outside spot) ≡ made after → Found mine spot []
    at_end [] spot e = (spot, sym (same_made (growth_at outer outside spot) after (sym (by outer) ∙ sym (ap (ends (growth_at outer outside spot)) (reverse-reverse outer)) ∙ e)), AreItems.nothing outer spot []) where
      by : (blocks : List Open) → ends (growth_at outer outside spot) blocks ≡ made (growth_at outer outside spot)
      by [] = refl
      by (block ∷ blocks) = rw (not_below outside (length (reverse outer)) (omega (arith, length-reverse outer, same_outside))) refl
    at_end (block ∷ mine) spot e =
        let open_still : nat_lt outside (length (reverse (block ∷ (mine ++ outer)))) ≡ true = is_below outside (length (reverse (block ∷ (mine ++ outer)))) (omega (arith, length-reverse (block ∷ (mine ++ outer)), length-append mine outer, same_outside)) in
        let bad : Err (fault.Unclosed block.place) ≡ made after = rw open_still at (sym (ap (ends (growth_at (block ∷ (mine ++ outer)) outside spot)) (reverse-reverse (block ∷ (mine ++ outer)))) ∙ e) in
        absurd cc

    -- A closing brace.
    stray : (spot : Spot) (next : Growth) → closes file (growth_at outer outside spot) (reverse (reverse outer)) ≡ made next → ⊥
    stray spot next e = by outer (sym (ap (closes file (growth_at outer outside spot)) (reverse-reverse outer)) ∙ e) where
      by : (blocks : List Open) → closes file (growth_at outer outside spot) blocks ≡ made next → ⊥
      by [] said = absurd cc
      by (block ∷ blocks) said =
          let closed_all : nat_lt outside (length (reverse outer)) ≡ false = not_below outside (length (reverse outer)) (omega (arith, length-reverse outer, same_outside)) in
          let bad : Err (fault.Stray (place_at file spot.line)) ≡ made next = rw closed_all at said in
          absurd cc

    abbrev Shorter : ℕ → Type 0
    Shorter turns = (mine : List Open) (spot : Spot) (text : List ℕ) → grown include file turns (growth_at (mine ++ outer) outside spot) text ≡ made after → Found mine spot text

    by_mark : (turns : ℕ) → Shorter turns → (mine : List Open) (spot : Spot) (text rest : List ℕ) (found : Mark) (next : Growth) → Marked (growth_at (mine ++ outer) outside spot) text rest found
        → taken include file found (growth_at (mine ++ outer) outside spot) ≡ made next → grown include file turns next rest ≡ made after → Found mine spot text
    by_mark turns shorter mine spot text rest mark.Passed next is step more =
        before_it mine spot spot text rest (λ last end items. AreItems.parted (mine ++ outer) spot last text rest end is items)
        (shorter mine spot rest (ap (λ (g : Growth). grown include file turns g rest) (same_made _ _ step) ∙ more))
    by_mark turns shorter mine spot text rest mark.NextLine next is step more =
        before_it mine spot (next_line spot) text rest (λ last end items. subst (λ (t : List ℕ). AreItems included file (mine ++ outer) spot t last end) (sym is) (AreItems.new_line (mine ++ outer) spot last rest end items))
        (shorter mine (next_line spot) rest (ap (λ (g : Growth). grown include file turns g rest) (same_made (growth_at (mine ++ outer) outside (next_line spot)) next step) ∙ more))
    by_mark turns shorter [] spot text rest mark.Closes next is step more = absurd (stray spot next step)
    by_mark turns shorter (block ∷ mine) spot text rest mark.Closes next is step more =
        let same : growth_at (mine ++ outer) outside (behind_block block spot) ≡ next = same_made _ _ (sym (closes_block file block (mine ++ outer) outside spot (omega (arith, length-append mine outer, same_outside))) ∙ step) in
        let (total, ends_so, left) = shorter mine (behind_block block spot) rest (ap (λ (g : Growth). grown include file turns g rest) same ∙ more) in
        (total, ends_so, (spot, rest, subst (λ (t : List ℕ). AreItems included file (block ∷ (mine ++ outer)) spot t spot (125 ∷ rest)) (sym is) (AreItems.nothing (block ∷ (mine ++ outer)) spot (125 ∷ rest)), left))
    by_mark turns shorter mine spot text rest (mark.Whole one) next is step more =
        before_it mine spot (with_item file one spot) text rest (λ last end items. AreItems.single_item (mine ++ outer) spot last text rest end one is items)
        (shorter mine (with_item file one spot) rest (ap (λ (g : Growth). grown include file turns g rest) (same_made (growth_at (mine ++ outer) outside (with_item file one spot)) next step) ∙ more))
    by_mark turns shorter mine spot text rest (mark.Opens kind name lines) next is step more = here (shorter (block ∷ mine) (within lines spot) rest (ap (λ (g : Growth). grown include file turns g rest) same ∙ more)) where
      block : Open
      block = opened file kind name spot

      same : growth_at (block ∷ (mine ++ outer)) outside (within lines spot) ≡ next
      same = sym (begins_block file kind name lines (mine ++ outer) outside spot) ∙ same_made _ _ step

      here : Found (block ∷ mine) (within lines spot) rest → Found mine spot text
      here (total, ends_so, (inner, behind, items, left)) =
          before_it mine spot (behind_block block inner) text behind (λ last end more_items. AreItems.block_item (mine ++ outer) spot inner last text rest behind end kind name lines is items more_items) (total, ends_so, left)
    by_mark turns shorter mine spot text rest (mark.Includes optional path) next is step more =
        let (later, same, taken_so) = good (place_at file spot.line) optional (beside file path) (mine ++ outer) outside spot next step in
        before_it mine spot later text rest (λ last end items. AreItems.include_item (mine ++ outer) spot later last text path rest end optional is taken_so items)
        (shorter mine later rest (ap (λ (g : Growth). grown include file turns g rest) (sym same) ∙ more))

    grown_found : (turns : ℕ) → Shorter turns
    unfolding grown
    grown_found turns mine spot [] e = at_end mine spot (sym (no_marks include file turns (growth_at (mine ++ outer) outside spot)) ∙ e)
    grown_found zero mine spot (c ∷ rest) e = absurd cc
    grown_found (suc turns) mine spot (c ∷ rest) e =
        let (read, marked, goes) = first_made (placed file spot.line (mark_at (growth_at (mine ++ outer) outside spot) (c ∷ rest))) _ after e in
        let (next, step, more) = first_made (taken include file read.0 (growth_at (mine ++ outer) outside spot)) (λ (next : Growth). grown include file turns next read.1) after goes in
        by_mark turns (grown_found turns) mine spot (c ∷ rest) read.1 read.0 next
        (mark_found (growth_at (mine ++ outer) outside spot) (condition_found (growth_at (mine ++ outer) outside spot)) c rest read.1 read.0 (was_placed file spot.line (mark_at (growth_at (mine ++ outer) outside spot) (c ∷ rest)) read marked)) step more

-- A file that is read is written so.
module _ (included : Included) (include : Include)
    (good : (place : Place) (optional : Bool) (path : List ℕ) (around : List Open) (outside : ℕ) (spot : Spot) (after : Growth) → include place optional path (growth_at around outside spot) ≡ made after
    → (next : Spot) × (after ≡ growth_at around outside next) × included optional path around spot next)
  where
    abbrev Written : List ℕ → List Open → ℕ → Spot → List ℕ → Growth → Type 0
    Written file around outside spot text after = (last : Spot) × (after ≡ growth_at around outside last) × IsFile included file around spot text last

    pub file_found : (file : List ℕ) (around : List Open) (outside : ℕ) (spot : Spot) (text : List ℕ) (after : Growth) → text_read include file text (growth_at around outside spot) ≡ made after → Written file around outside spot text after
    unfolding text_read
    file_found file around outside spot text after e = by (nat_lt 4194304 (spot.octets + length text)) refl where
      entered : Growth
      entered = growth_at around (length (reverse around)) (first_line text spot)

      whole : nat_lt 4194304 (spot.octets + length text) ≡ false → (grown include file (length (lines_of text)) entered (lines_of text) >>= (λ (last : Growth). made (resumed spot.line outside last))) ≡ made after
      whole fits = rw fits at e

      by : (b : Bool) → nat_lt 4194304 (spot.octets + length text) ≡ b → Written file around outside spot text after
      by true long = let bad : Err (fault.TooLong (place_at file 0)) ≡ made after = rw long at e in absurd cc
      by false fits =
          let (last, read, leaves) = first_made (grown include file (length (lines_of text)) entered (lines_of text)) (λ (last : Growth). made (resumed spot.line outside last)) after (whole fits) in
          let (total, is, items) = grown_found included include file good around (length (reverse around)) (length-reverse around) last (length (lines_of text)) [] (first_line text spot) (lines_of text) read in (
            record total { line = spot.line },
            sym (same_made (resumed spot.line outside last) after leaves) ∙ ap (resumed spot.line outside) is,
            IsFile.counted spot total text (fits_in (spot.octets + length text) fits) items,
          )
        where
          fits_in : (n : ℕ) → nat_lt 4194304 n ≡ false → n ≤ 4194304
          fits_in n small = grind (arith, common_steps)

    module _ (files : List File) (root : List ℕ) where
      abbrev Taken : Bool → List Open → ℕ → List (List ℕ) → Spot → Growth → Type 0
      Taken optional around outside paths spot after = (last : Spot) × (after ≡ growth_at around outside last) × AreFiles included files root optional around paths spot last

      missing_one : (place : Place) (optional : Bool) (growth next : Growth) → missing place optional growth ≡ made next → (optional ≡ true) × (growth ≡ next)
      missing_one place true growth next e = (refl, same_made growth next e)
      missing_one place false growth next e = absurd cc

      files_found : (place : Place) (optional : Bool) (around : List Open) (outside : ℕ) (paths : List (List ℕ)) (spot : Spot) (after : Growth) → paths_read include files root place optional paths (growth_at around outside spot) ≡ made after
          → Taken optional around outside paths spot after
      unfolding paths_read
      files_found place optional around outside [] spot after e = (spot, sym (same_made (growth_at around outside spot) after e), AreFiles.no_file spot)
      files_found place optional around outside (path ∷ paths) spot after e =
          let (next, read, more) = first_made (found_read include place optional path (growth_at around outside spot) (found_at (joined root path) files)) (λ (next : Growth). paths_read include files root place optional paths next) after e in
          by next (λ (later : Spot) (same : next ≡ growth_at around outside later). files_found place optional around outside paths later after (ap (paths_read include files root place optional paths) (sym same) ∙ more)) (found_at (joined root path) files) refl read
        where
          by : (next : Growth) → ((later : Spot) → next ≡ growth_at around outside later → Taken optional around outside paths later after) → (found : Option (List ℕ)) → found_at (joined root path) files ≡ found
              → found_read include place optional path (growth_at around outside spot) found ≡ made next → Taken optional around outside (path ∷ paths) spot after
          by next more None none read =
              let (may, same) = missing_one place optional (growth_at around outside spot) next read in
              let (last, is, rest) = more spot (sym same) in
              (last, is, AreFiles.no_such_file path paths spot last none may rest)
          by next more (Some text) some read =
              let (later, same, file) = file_found path around outside spot text next read in
              let (last, is, rest) = more later same in
              (last, is, AreFiles.one_file path text paths spot later last some file rest)

      pub taken_found : (place : Place) (optional : Bool) (around : List Open) (outside : ℕ) (spot : Spot) (after : Growth) (paths : Option (List (List ℕ))) → listed_read include files root place optional (growth_at around outside spot) paths ≡ made after
          → (last : Spot) × (after ≡ growth_at around outside last) × AreTaken included files root optional around spot last paths
      taken_found place optional around outside spot after None e =
          let (may, same) = missing_one place optional (growth_at around outside spot) after e in (spot, sym same, (may, refl))
      taken_found place optional around outside spot after (Some paths) e = files_found place optional around outside paths spot after e

includes_found : (files : List File) (root : List ℕ) (left : ℕ) (place : Place) (optional : Bool) (path : List ℕ) (around : List Open) (outside : ℕ) (spot : Spot) (after : Growth) → include_read files root left place optional path (growth_at around outside spot) ≡ made after
    → (next : Spot) × (after ≡ growth_at around outside next) × IsIncluded files root left optional path around spot next
unfolding include_read
includes_found files root zero place optional path around outside spot after e = absurd cc
includes_found files root (suc left) place optional path around outside spot after e =
    taken_found (IsIncluded files root left) (include_read files root left) (includes_found files root left) files root place optional around outside spot after (paths_of files root path) e

-- A configuration that is read is written so.
pub conf_found : (dir name : List ℕ) (files : List File) (nodes : List Node) → conf_at dir name files ≡ Ok nodes → IsConf dir name files nodes
unfolding conf_of
conf_found dir name files nodes e = by (octets_at (path_of dir name) files) refl e where
  by : (found : Option (List ℕ)) → octets_at (path_of dir name) files ≡ found → conf_from dir name files found ≡ Ok nodes → IsConf dir name files nodes
  by None none said = absurd cc
  by (Some text) some said =
      let (after, read, gives) = first_made (text_read (include_read files (root_of dir) 16) name text first_growth) (λ (growth : Growth). nodes_are growth) nodes said in
      let (last, is, file) = file_found (IsIncluded files (root_of dir) 16) (include_read files (root_of dir) 16) (includes_found files (root_of dir) 16) name [] 0 first_spot text after read in
      subst (λ (all : List Node). IsConf dir name files all) (ap (λ (growth : Growth). growth.nodes) (sym is) ∙ same_gave after.nodes nodes gives) (IsConf.first_file text last some file)
    where
      nodes_are : Growth → Result (List Node) ConfFault
      nodes_are growth = Ok growth.nodes
