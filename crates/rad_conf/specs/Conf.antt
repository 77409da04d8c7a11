-- A configuration: the tree that its file spells with the files that it includes, or the first fault in reading order. After the
-- manual page radiusd.conf(5).
use Rattle.std.specs.Prelude.{ℕ, List, ◌++◌, Option, Some, None, Result, Ok, Err, codes}
use Rattle.rad_outside.specs.Files.{File, octets_at}
use Rattle.rad_text.specs.Read.{◌>>=◌}
use Rattle.rad_text.specs.Paths.{place_at}
use Rattle.rad_conf.specs.declared.fault.ConfFault.{ConfFault}
use Rattle.rad_conf.specs.declared.fault.ConfFault.TheVariants as fault
use Rattle.rad_conf.specs.declared.tree.Node.{Node}
use Rattle.rad_conf.specs.declared.growth.Growth.{Growth}
use Rattle.rad_conf.specs.Growth.{first_growth, text_read}
use Rattle.rad_conf.specs.Includes.{include_read}

-- A folder's path with a slash at its end.
abbrev pub root_of : List ℕ → List ℕ
root_of dir = dir ++ codes "/"

-- The path of a file in a folder.
abbrev pub path_of : List ℕ → List ℕ → List ℕ
path_of dir name = dir ++ codes "/" ++ name

-- The tree of a text, with the files that it includes, by the folder and the name of its file.
unfoldable pub conf_of : List ℕ → List ℕ → List File → List ℕ → Result (List Node) ConfFault
conf_of dir name files text = text_read (include_read files (root_of dir) 16) name text first_growth >>= (λ (growth : Growth). Ok growth.nodes)

-- The same of a file that may be missing.
abbrev pub conf_from : List ℕ → List ℕ → List File → Option (List ℕ) → Result (List Node) ConfFault
conf_from dir name files None = Err (fault.Missing (place_at name 0))
conf_from dir name files (Some text) = conf_of dir name files text

-- The configuration of a file in a folder.
abbrev pub conf_at : List ℕ → List ℕ → List File → Result (List Node) ConfFault
conf_at dir name files = conf_from dir name files (octets_at (path_of dir name) files)
