-- Files that are read line by line, and what they include.
use Rattle.std.proofs.Common.{◌≡◌, ℕ, zero, suc, ◌+◌, ◌-◌, ◌≢◌, Bool, true, false, List, [], ◌∷◌, Option, Some, None, Result, Ok, Err, length, refl, sym, ap, subst, ◌∙◌, arith}
use Rattle.std.specs.Str.{IsUtf8, is_utf8}
use Rattle.std.proofs.lemmas.Str.{IsUtf8-from_is_utf8, is_utf8-from_IsUtf8}
use Rattle.rad_outside.specs.declared.files.Place.{Place}
use Rattle.std.proofs.lemmas.Bool.{cond-true, cond-false}
use Rattle.rad_outside.specs.Files.{File, FilesTold, octets_at}
use Rattle.rad_outside.specs.Telling.{Tells}
use Rattle.rad_dict.specs.declared.fault.DictFault.{DictFault}
use Rattle.rad_dict.specs.declared.fault.DictFault.TheVariants as fault
use Rattle.rad_dict.specs.declared.reading.Reading.{Reading}
use Rattle.rad_dict.specs.declared.step.Step.{Step}
use Rattle.rad_dict.specs.declared.step.Step.TheVariants as step
use Rattle.rad_text.specs.Read.{◌>>=◌}
use Rattle.rad_text.specs.Lines.{lines_of}
use Rattle.rad_text.specs.Paths.{joined, last_part, place_at}
use Rattle.rad_text.proofs.FirstFaults.{fails_first, goes_first}
use Rattle.rad_dict.specs.Answers.{says, IsFault, IsAnswer}
use Rattle.rad_dict.specs.Steps.{step_of}
use Rattle.rad_dict.specs.Includes.{found_at, text_of, Include, went, ended, lines_read, counted, source_at, include_read, text_read, dict_from, dict_of}
use Rattle.rad_dict.specs.Definitions.{Definitions}
use Rattle.rad_outside.proofs.Tellings.{Tells-trans}

-- One line, and then the others.
pub one_line : (include : Include) (file : List ℕ) (line : ℕ) (reading : Reading) (here : List ℕ) (others : List (List ℕ))
    → lines_read include file line reading (here ∷ others) ≡ (step_of file line reading here >>= (λ (one : Step). went include one >>= (λ (next : Reading). lines_read include file (line + 1) next others)))
unfolding lines_read
one_line include file line reading here others = refl

-- An included file's text is looked for first.
pub one_include : (files : List File) (root : List ℕ) (left : ℕ) (place : Place) (file : List ℕ) (reading : Reading)
    → include_read files root left place file reading ≡ (source_at left files root place file >>= (λ (text : List ℕ). text_read (include_read files root (left - 1)) file text reading))
unfolding include_read source_at
one_include files root zero place file reading = refl
one_include files root (suc left) place file reading =
    let same : suc left - 1 ≡ left = omega arith in rw same refl

found_good : (path : List ℕ) (files : List File) → IsUtf8 path → found_at path files ≡ octets_at path files
unfolding found_at
found_good path files good = cond-true _ _ _ (is_utf8-from_IsUtf8 path good)

found_bad : (path : List ℕ) (files : List File) → ¬ (IsUtf8 path) → found_at path files ≡ None
unfolding found_at
found_bad path files bad = cond-false _ _ _ (is_bad (is_utf8 path) refl) where
  is_bad : (b : Bool) → is_utf8 path ≡ b → is_utf8 path ≡ false
  is_bad true e = absurd (bad (IsUtf8-from_is_utf8 path e))
  is_bad false e = e

source_of : (left : ℕ) (files : List File) (root : List ℕ) (place : Place) (file : List ℕ) (there : Option (List ℕ)) → left ≢ 0 → found_at (joined root file) files ≡ there → source_at left files root place file ≡ text_of place there
unfolding source_at
source_of zero files root place file there some e = absurd (some refl)
source_of (suc left) files root place file there some e = ap (text_of place) e

-- The text of an included file, by what the files have at its path.
pub no_source : (left : ℕ) (files : List File) (root : List ℕ) (place : Place) (file path : List ℕ) → left ≢ 0 → path ≡ joined root file → ¬ (IsUtf8 path) → source_at left files root place file ≡ Err (fault.Missing place)
no_source left files root place file path some same bad =
    source_of left files root place file None some (ap (λ (at : List ℕ). found_at at files) (sym same) ∙ found_bad path files bad)

pub some_source : (left : ℕ) (files : List File) (root : List ℕ) (place : Place) (file path : List ℕ) (there : Option (List ℕ)) → left ≢ 0 → path ≡ joined root file → IsUtf8 path → octets_at path files ≡ there
    → source_at left files root place file ≡ text_of place there
some_source left files root place file path there some same good e =
    source_of left files root place file there some (ap (λ (at : List ℕ). found_at at files) (sym same) ∙ found_good path files good ∙ e)

-- What is read of a file, with the files that it includes.
abbrev pub whole : List ℕ → ℕ → List ℕ → List ℕ → Reading → List File → Result Reading DictFault
whole root left file text reading files = text_read (include_read files root left) file text reading

-- The lines that are left make the whole, whatever the files are.
abbrev pub Going : List ℕ → ℕ → List ℕ → ℕ → Reading → List (List ℕ) → (List File → Result Reading DictFault) → FilesTold → FilesTold → Type 0
Going root left file line reading lines total before now = (now ≡ before) × (lines_read (include_read before.present root left) file line reading lines ≡ total before.present)

-- The whole has an answer.
abbrev pub Ends : (List File → Result Reading DictFault) → Result Reading DictFault → FilesTold → FilesTold → Type 0
Ends total result before now = (now ≡ before) × IsAnswer (total before.present) result

-- Before the first line.
pub counted_fails : (include : Include) (file text : List ℕ) (reading : Reading) (e : DictFault) → IsFault (counted file text reading) e → IsFault (text_read include file text reading) e
unfolding text_read
counted_fails include file text reading e same = fails_first says (counted file text reading) (λ (more : Reading). lines_read include file 1 more (lines_of text)) e same

pub counted_goes : (include : Include) (file text : List ℕ) (reading more : Reading) → counted file text reading ≡ Ok more → lines_read include file 1 more (lines_of text) ≡ text_read include file text reading
unfolding text_read
counted_goes include file text reading more same = sym (goes_first (counted file text reading) (λ (more : Reading). lines_read include file 1 more (lines_of text)) more same)

module _ (include : Include) (file : List ℕ) (line : ℕ) (reading : Reading) (here : List ℕ) (others : List (List ℕ)) (total : Result Reading DictFault)
    (so_far : lines_read include file line reading (here ∷ others) ≡ total) where
  -- A line fails, or goes.
  pub line_fails : (e : DictFault) → IsFault (step_of file line reading here) e → IsFault total e
  line_fails e same =
      subst (λ (said : Result Reading DictFault). IsFault said e) (sym (one_line include file line reading here others) ∙ so_far)
      (fails_first says (step_of file line reading here) (λ (one : Step). went include one >>= (λ (next : Reading). lines_read include file (line + 1) next others)) e same)

  goes : (one : Step) → step_of file line reading here ≡ Ok one → (went include one >>= (λ (next : Reading). lines_read include file (line + 1) next others)) ≡ total
  goes one is =
      sym (goes_first (step_of file line reading here) (λ (one : Step). went include one >>= (λ (next : Reading). lines_read include file (line + 1) next others)) one is)
      ∙ sym (one_line include file line reading here others) ∙ so_far

  pub line_goes : (next : Reading) → step_of file line reading here ≡ Ok (step.Goes next) → lines_read include file (line + 1) next others ≡ total
  line_goes next is = goes (step.Goes next) is

  -- An included file fails, or goes.
  pub include_fails : (place : Place) (path : List ℕ) (next : Reading) (e : DictFault) → step_of file line reading here ≡ Ok (step.Includes place path next) → IsFault (include place path next) e → IsFault total e
  include_fails place path next e is same =
      subst (λ (said : Result Reading DictFault). IsFault said e) (goes (step.Includes place path next) is)
      (fails_first says (include place path next) (λ (last : Reading). lines_read include file (line + 1) last others) e same)

  pub include_goes : (place : Place) (path : List ℕ) (next last : Reading) → step_of file line reading here ≡ Ok (step.Includes place path next) → include place path next ≡ Ok last
      → lines_read include file (line + 1) last others ≡ total
  include_goes place path next last is same =
      sym (goes_first (include place path next) (λ (last : Reading). lines_read include file (line + 1) last others) last same) ∙ goes (step.Includes place path next) is

module _ (files : List File) (root : List ℕ) (left : ℕ) (place : Place) (file : List ℕ) (reading : Reading) where
  -- The file isn't found, or its text is read.
  pub source_fails : (e : DictFault) → IsFault (source_at left files root place file) e → IsFault (include_read files root left place file reading) e
  source_fails e same =
      subst (λ (said : Result Reading DictFault). IsFault said e) (sym (one_include files root left place file reading))
      (fails_first says (source_at left files root place file) (λ (text : List ℕ). text_read (include_read files root (left - 1)) file text reading) e same)

  pub source_goes : (text : List ℕ) → source_at left files root place file ≡ Ok text → include_read files root left place file reading ≡ text_read (include_read files root (left - 1)) file text reading
  source_goes text same =
      one_include files root left place file reading ∙ goes_first (source_at left files root place file) (λ (text : List ℕ). text_read (include_read files root (left - 1)) file text reading) text same

-- An included file by the paths and the text that were handed on.
pub include_missed : (files : List File) (root : List ℕ) (left : ℕ) (place : Place) (path at_source : List ℕ) (next : Reading) (e : DictFault) → at_source ≡ path → IsFault (source_at left files root place at_source) e
    → IsFault (include_read files root left place path next) e
include_missed files root left place path at_source next e same fault =
    source_fails files root left place path next e (subst (λ (at : List ℕ). IsFault (source_at left files root place at) e) same fault)

pub included : (files : List File) (root : List ℕ) (left : ℕ) (place : Place) (path at_source at_text : List ℕ) (next : Reading) (text read : List ℕ) → at_source ≡ path → at_text ≡ path → read ≡ text
    → source_at left files root place at_source ≡ Ok text → include_read files root left place path next ≡ text_read (include_read files root (left - 1)) at_text read next
included files root left place path at_source at_text next text read source_path text_path same_text source =
    source_goes files root left place path next text (ap (source_at left files root place) (sym source_path) ∙ source)
    ∙ ap (λ (at : List ℕ). text_read (include_read files root (left - 1)) at text next) (sym text_path)
    ∙ ap (λ (all : List ℕ). text_read (include_read files root (left - 1)) at_text all next) (sym same_text)

-- At the text's end.
pub no_lines : (include : Include) (file : List ℕ) (line : ℕ) (reading : Reading) (rest : List ℕ) → length rest ≡ 0 → lines_read include file line reading (lines_of rest) ≡ ended file reading
unfolding lines_read lines_of
no_lines include file line reading [] e = refl
no_lines include file line reading (c ∷ rest) e = absurd (omega arith)

-- What an included file's answer makes of the lines behind its own.
abbrev pub Then : Include → List ℕ → ℕ → List (List ℕ) → Result Reading DictFault → Result Reading DictFault → Type 0
Then include file line others total (Ok last) = lines_read include file line last others ≡ total
Then include file line others total (Err e) = IsFault total e

included_then : (include : Include) (file : List ℕ) (line : ℕ) (reading : Reading) (here : List ℕ) (others : List (List ℕ)) (total said : Result Reading DictFault) (place : Place) (path : List ℕ) (next : Reading) (answer : Result Reading DictFault)
    → lines_read include file line reading (here ∷ others) ≡ total → step_of file line reading here ≡ Ok (step.Includes place path next) → include place path next ≡ said → IsAnswer said answer
    → Then include file (line + 1) others total answer
included_then include file line reading here others total said place path next (Ok last) so_far is same answer =
    include_goes include file line reading here others total so_far place path next last is (same ∙ answer)
included_then include file line reading here others total said place path next (Err e) so_far is same answer =
    include_fails include file line reading here others total so_far place path next e is (subst (λ (r : Result Reading DictFault). IsFault r e) (sym same) answer)

-- The same from before the first line up to behind an included file.
pub told_then : (root : List ℕ) (left : ℕ) (file : List ℕ) (line : ℕ) (reading : Reading) (rest here : List ℕ) (others : List (List ℕ)) (total : List File → Result Reading DictFault)
    (place : Place) (path at_source at_text : List ℕ) (next : Reading) (text read : List ℕ) (answer : Result Reading DictFault) (a b m n : Option FilesTold)
    → lines_of rest ≡ here ∷ others → step_of file line reading here ≡ Ok (step.Includes place path next) → at_source ≡ path → at_text ≡ path → read ≡ text
    → Tells a b (Going root left file line reading (lines_of rest) total)
    → Tells b m (λ (before now : FilesTold). (now ≡ before) × (source_at left before.present root place at_source ≡ Ok text))
    → Tells m n (λ (before now : FilesTold). (now ≡ before) × IsAnswer (text_read (include_read before.present root (left - 1)) at_text read next) answer)
    → Tells a n (λ (before now : FilesTold). (now ≡ before) × Then (include_read before.present root left) file (line + 1) others (total before.present) answer)
told_then root left file line reading rest here others total place path at_source at_text next text read answer a b m n lines is source_path text_path same_text going source answered =
    let Found : FilesTold → FilesTold → Type 0 = λ before now. (now ≡ before) × (lines_read (include_read before.present root left) file line reading (here ∷ others) ≡ total before.present) × (source_at left before.present root place at_source ≡ Ok text) in
    Tells-trans (λ (before now : FilesTold). (now ≡ before) × Then (include_read before.present root left) file (line + 1) others (total before.present) answer) a m n
    (λ (x y z : FilesTold) (found : Found x y) (read_on : (z ≡ y) × IsAnswer (text_read (include_read y.present root (left - 1)) at_text read next) answer). (
      read_on.0 ∙ found.0,
      included_then (include_read x.present root left) file line reading here others (total x.present) (text_read (include_read x.present root (left - 1)) at_text read next) place path next answer found.1 is
          (included x.present root left place path at_source at_text next text read source_path text_path same_text found.2)
          (subst (λ (told : FilesTold). IsAnswer (text_read (include_read told.present root (left - 1)) at_text read next) answer) found.0 read_on.1),
    ))
    (Tells-trans Found a b m
    (λ (x y z : FilesTold) (first : Going root left file line reading (lines_of rest) total x y) (second : (z ≡ y) × (source_at left y.present root place at_source ≡ Ok text)). (
      second.0 ∙ first.0,
      ap (lines_read (include_read x.present root left) file line reading) (sym lines) ∙ first.1,
      subst (λ (told : FilesTold). source_at left told.present root place at_source ≡ Ok text) first.0 second.1,
    ))
    going source)
    answered

-- The dictionary of a path whose file isn't there.
pub dict_missing : (path file : List ℕ) (files : List File) → file ≡ last_part path → octets_at path files ≡ None → dict_of path files ≡ Err (fault.Missing (place_at file 0))
unfolding dict_of
dict_missing path file files same e = ap (dict_from path files) e ∙ ap (λ (at : List ℕ). Err (fault.Missing (place_at at 0))) (sym same)

-- The dictionary of a file that was read, by its text.
pub told_dict : (path text read : List ℕ) (answer : Result Definitions DictFault) (a b c : Option FilesTold) → read ≡ text
    → Tells a b (λ (before now : FilesTold). (now ≡ before) × (octets_at path before.present ≡ Some text))
    → Tells b c (λ (before now : FilesTold). (now ≡ before) × IsAnswer (dict_from path before.present (Some read)) answer)
    → Tells a c (λ (before now : FilesTold). (now ≡ before) × IsAnswer (dict_of path before.present) answer)
unfolding dict_of
told_dict path text read answer a b c same =
    Tells-trans (λ (before now : FilesTold). (now ≡ before) × IsAnswer (dict_from path before.present (octets_at path before.present)) answer) a b c
    (λ (x y z : FilesTold) (first : (y ≡ x) × (octets_at path x.present ≡ Some text)) (second : (z ≡ y) × IsAnswer (dict_from path y.present (Some read)) answer). (
      second.0 ∙ first.0,
      subst (λ (found : Option (List ℕ)). IsAnswer (dict_from path x.present found) answer) (ap (λ (all : List ℕ). Some all) same ∙ sym first.1)
          (subst (λ (told : FilesTold). IsAnswer (dict_from path told.present (Some read)) answer) first.0 second.1),
    ))
