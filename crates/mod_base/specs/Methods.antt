-- The sections for which a module has a method: true or false for each, in the order in which the enum `Section` lists
-- them. This project's own form, after radiusd.conf(5).
use Rattle.std.specs.Prelude.{ℕ, Bool, false, List, slice_index_or}
use Rattle.rad_words.specs.declared.sections.Section.{Section}
use Rattle.rad_words.specs.declared.sections.Section.TheVariants.{Authorize, Authenticate, Session, Preacct, Accounting, PostAuth}

-- The place of a section among the six, from 0.
abbrev pub place_of : Section → ℕ
place_of Authorize = 0
place_of Authenticate = 1
place_of Session = 2
place_of Preacct = 3
place_of Accounting = 4
place_of PostAuth = 5

-- Whether there is a method for a section.
abbrev pub has_method : List Bool → Section → Bool
has_method methods section = slice_index_or methods (place_of section) false
