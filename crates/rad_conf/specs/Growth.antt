-- A tree that grows by the marks of its text, with the files that it includes, up to the first fault in reading order. After the
-- manual page radiusd.conf(5).
use Rattle.std.specs.Prelude.{ℕ, zero, suc, ◌+◌, Bool, Option, List, [], ◌∷◌, ◌++◌, length, reverse, Result, Ok, Err, nat_lt, if◌then◌else◌}
use Rattle.rad_outside.specs.declared.files.Place.{Place}
use Rattle.rad_text.specs.Read.{◌>>=◌}
use Rattle.rad_text.specs.Paths.{place_at, beside}
use Rattle.rad_conf.specs.declared.fault.Wrong.{Wrong}
use Rattle.rad_conf.specs.declared.fault.Wrong.TheVariants as wrong
use Rattle.rad_conf.specs.declared.fault.ConfFault.{ConfFault}
use Rattle.rad_conf.specs.declared.fault.ConfFault.TheVariants as fault
use Rattle.rad_conf.specs.declared.tree.Word.{Word}
use Rattle.rad_conf.specs.declared.tree.Node.{Node}
use Rattle.rad_conf.specs.declared.tree.Item.{Item}
use Rattle.rad_conf.specs.declared.tree.Item.TheVariants as item
use Rattle.rad_conf.specs.declared.mark.Mark.{Mark}
use Rattle.rad_conf.specs.declared.mark.Mark.TheVariants as mark
use Rattle.rad_conf.specs.declared.growth.Open.{Open}
use Rattle.rad_conf.specs.declared.growth.Growth.{Growth}
use Rattle.rad_conf.specs.Lines.{lines_of}
use Rattle.rad_conf.specs.Marks.{mark_at}

-- The fault of what is wrong on a line.
abbrev pub fault_of : List ℕ → ℕ → Wrong → ConfFault
fault_of file line wrong.Stray = fault.Stray (place_at file line)
fault_of file line wrong.BadQuote = fault.BadQuote (place_at file line)
fault_of file line wrong.NoVariable = fault.NoVariable (place_at file line)

-- What was read on a line.
abbrev pub placed : {A : Type 0} → List ℕ → ℕ → Result A Wrong → Result A ConfFault
placed file line (Ok x) = Ok x
placed file line (Err e) = Err (fault_of file line e)

-- The block that an open block becomes, behind what stands before it.
abbrev pub closed : Open → List Node → List Node
closed block body = block.before ++ record { place = block.place; item = item.Block block.kind block.name body } ∷ []

-- A closing brace ends the innermost block, where the file that is read has opened one. The blocks are given the innermost first.
abbrev pub closes : List ℕ → Growth → List Open → Result Growth ConfFault
closes file growth [] = Err (fault.Stray (place_at file growth.line))
closes file growth (block ∷ outer) =
    if nat_lt growth.outside (length growth.opens)
    then Ok (record growth { opens = reverse outer; nodes = closed block growth.nodes })
    else Err (fault.Stray (place_at file growth.line))

-- At a file's end the innermost block that the file has opened and not closed is the fault.
abbrev pub ends : Growth → List Open → Result Growth ConfFault
ends growth [] = Ok growth
ends growth (block ∷ outer) = if nat_lt growth.outside (length growth.opens) then Err (fault.Unclosed block.place) else Ok growth

-- The same of the blocks that are open there, of which the innermost was opened last.
abbrev pub ended : Growth → Result Growth ConfFault
ended growth = ends growth (reverse growth.opens)

-- A whole item behind the others of its block.
abbrev pub with_item : List ℕ → Item → Growth → Growth
with_item file whole growth = record growth { nodes = growth.nodes ++ record { place = place_at file growth.line; item = whole } ∷ [] }

-- A block begins, and so many lines end in its head.
abbrev pub with_block : List ℕ → Word → Option Word → ℕ → Growth → Growth
with_block file kind name lines growth = record growth {
  line = growth.line + lines;
  opens = growth.opens ++ record { place = place_at file growth.line; kind = kind; name = name; before = growth.nodes } ∷ [];
  nodes = [];
}

-- How an include is read: by the place of its line, whether it may be missing, and its path.
abbrev pub Include : Type 0
Include = Place → Bool → List ℕ → Growth → Result Growth ConfFault

-- What a mark makes of the tree.
abbrev pub taken : Include → List ℕ → Mark → Growth → Result Growth ConfFault
taken include file mark.Passed growth = Ok growth
taken include file mark.NextLine growth = Ok (record growth { line = growth.line + 1 })
taken include file mark.Closes growth = closes file growth (reverse growth.opens)
taken include file (mark.Whole whole) growth = Ok (with_item file whole growth)
taken include file (mark.Opens kind name lines) growth = Ok (with_block file kind name lines growth)
taken include file (mark.Includes optional path) growth = include (place_at file growth.line) optional (beside file path) growth

-- The tree after a text, in as many turns as are given: each mark takes an octet at least, so that as many as the text has octets
-- are enough.
unfoldable pub grown : Include → List ℕ → ℕ → Growth → List ℕ → Result Growth ConfFault
grown include file turns growth [] = ended growth
grown include file zero growth (c ∷ rest) = Err (fault.Stray (place_at file growth.line))
grown include file (suc turns) growth (c ∷ rest) =
    placed file growth.line (mark_at growth (c ∷ rest)) >>= (λ (read : Mark × List ℕ).
    taken include file read.0 growth >>= (λ (next : Growth).
    grown include file turns next read.1))

-- All files together have 4 MiB at most.
abbrev pub counted : List ℕ → List ℕ → Growth → Result Growth ConfFault
counted file text growth =
    if nat_lt 4194304 (growth.octets + length text) then Err (fault.TooLong (place_at file 0)) else Ok (record growth { octets = growth.octets + length text })

-- A file begins on its first line, and the blocks that are open stay outside it.
abbrev pub begun : Growth → Growth
begun growth = record growth { line = 1; outside = length growth.opens }

-- Behind a file the line and the blocks outside are those from before it.
abbrev pub resumed : ℕ → ℕ → Growth → Growth
resumed line outside growth = record growth { line = line; outside = outside }

-- The tree after a file with this text.
unfoldable pub text_read : Include → List ℕ → List ℕ → Growth → Result Growth ConfFault
text_read include file text growth =
    counted file text growth >>= (λ (more : Growth).
    grown include file (length (lines_of text)) (begun more) (lines_of text) >>= (λ (after : Growth).
    Ok (resumed growth.line growth.outside after)))

-- Before its first file a tree has nothing.
abbrev pub first_growth : Growth
first_growth = record { line = 1; opens = []; nodes = []; outside = 0; octets = 0 }
