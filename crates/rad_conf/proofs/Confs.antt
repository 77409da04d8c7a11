-- The tree of a whole configuration.
use Rattle.std.proofs.Common.{◌≡◌, ℕ, List, Ok, refl}
use Rattle.rad_outside.specs.Files.{File}
use Rattle.rad_conf.specs.declared.fault.ConfFault.{ConfFault}
use Rattle.rad_conf.specs.declared.tree.Node.{Node}
use Rattle.rad_conf.specs.declared.growth.Growth.{Growth}
use Rattle.rad_conf.specs.Answers.{IsFault}
use Rattle.rad_conf.specs.Growth.{text_read, first_growth}
use Rattle.rad_conf.specs.Includes.{include_read}
use Rattle.rad_conf.specs.Conf.{root_of, conf_of}
use Rattle.rad_conf.proofs.Going.{fails_first}

pub conf_fails : (dir name text root file : List ℕ) (files : List File) (growth : Growth) (e : ConfFault) → root ≡ root_of dir → file ≡ name → growth ≡ first_growth → IsFault (text_read (include_read files root 16) file text growth) e
    → IsFault (conf_of dir name files text) e
unfolding conf_of
conf_fails dir name text root file files growth e same called first wrong =
    fails_first (text_read (include_read files (root_of dir) 16) name text first_growth) _ e (rw (same, called, first) at wrong)

pub conf_goes : (dir name text root file : List ℕ) (files : List File) (growth after : Growth) (nodes : List Node) → root ≡ root_of dir → file ≡ name → growth ≡ first_growth → text_read (include_read files root 16) file text growth ≡ Ok after → nodes ≡ after.nodes
    → conf_of dir name files text ≡ Ok nodes
unfolding conf_of
conf_goes dir name text root file files growth after nodes same called first read is =
    let e = rw (same, called, first) at read in rw (e, is) refl
