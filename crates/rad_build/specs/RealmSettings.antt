-- The settings of a module `realm { format = suffix, delimiter = "@" }`. After FreeRADIUS' rlm_realm(5).
use Rattle.std.specs.Prelude.{ℕ, Bool, ◌&&◌, List, [], ◌∷◌, Option, Some, None, unwrap_or, Result, Ok, codes, if◌then◌else◌}
use Rattle.std.specs.Option.{is_none}
use Rattle.std.specs.Str.{bytes_eq}
use Rattle.rad_outside.specs.declared.files.Place.{Place}
use Rattle.rad_conf.specs.declared.tree.Node.{Node}
use Rattle.mod_realm.specs.declared.parting.RealmFormat.{RealmFormat}
use Rattle.mod_realm.specs.declared.parting.RealmFormat.TheVariants.{Suffix, Prefix}
use Rattle.rad_build.specs.declared.fault.BuildFault.{BuildFault}
use Rattle.rad_build.specs.declared.realm_settings.Parting.{Parting}
use Rattle.rad_build.specs.Nodes.{◌>>=◌, formed, after_each}
use Rattle.rad_build.specs.Items.{pair_of, set_by}

-- A format by its word, in this case.
abbrev pub format_named : List ℕ → Option RealmFormat
format_named word = if bytes_eq word (codes "suffix") then Some Suffix else (if bytes_eq word (codes "prefix") then Some Prefix else None)

-- A delimiter, which is one octet.
abbrev pub delimiter_of : List ℕ → Option ℕ
delimiter_of [] = None
delimiter_of (octet ∷ []) = Some octet
delimiter_of (octet ∷ next ∷ octets) = None

-- Before its first setting nothing is known of a module.
abbrev pub no_settings : Parting
no_settings = record { format = None; delimiter = None }

-- What is known after one more pair. The first `format` and the first `delimiter` count; other settings are passed over.
unfoldable pub with_pair : Parting → Place → List ℕ → List ℕ → List ℕ → Result Parting BuildFault
with_pair known place name operator value =
    if bytes_eq name (codes "format") && is_none known.format
    then (formed place name (set_by operator (format_named value)) >>= λ format. Ok (record known { format = Some format }))
    else (if bytes_eq name (codes "delimiter") && is_none known.delimiter
    then (formed place name (set_by operator (delimiter_of value)) >>= λ delimiter. Ok (record known { delimiter = Some delimiter }))
    else Ok known)

-- What is known after one more item: one that is no pair is passed over.
abbrev pub with_setting : Parting → Node → Result Parting BuildFault
with_setting known node = elim (pair_of node) [ None ↦ Ok known | Some pair ↦ with_pair known node.place pair.0 pair.1 pair.2 ]

-- The settings of a block's items. Names have their realm as a suffix behind `@` where nothing else is set.
unfoldable pub parting_of : List Node → Result (RealmFormat × ℕ) BuildFault
parting_of items = after_each with_setting no_settings items >>= λ known. Ok (unwrap_or known.format Suffix, unwrap_or known.delimiter 64)
