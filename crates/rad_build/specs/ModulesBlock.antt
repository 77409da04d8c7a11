-- The modules of a site, `modules { kind [name] { settings } }`, and the files that they name. After the manual pages
-- radiusd.conf(5), rlm_always(5), rlm_files(5), rlm_attr_filter(5), rlm_pap(5) and rlm_realm(5).
use Rattle.std.specs.Prelude.{ℕ, Bool, false, ◌||◌, ◌==◌, find, List, [], ◌∷◌, length, nat_lt, slice_index, Option, Some, None, Result, Ok, Err, codes, if◌then◌else◌}
use Rattle.std.specs.List.{list_any}
use Rattle.std.specs.Option.{option_and_then, option_map_or}
use Rattle.std.specs.Str.{bytes_eq, is_utf8}
use Rattle.rad_outside.specs.declared.files.Place.{Place}
use Rattle.rad_outside.specs.Files.{octets_at}
use Rattle.rad_dict.specs.Definitions.{Definitions}
use Rattle.rad_words.specs.declared.codes.Code.{Code}
use Rattle.rad_conf.specs.declared.tree.Node.{Node}
use Rattle.rad_conf.specs.declared.tree.Item.{out-Item}
use Rattle.rad_conf.specs.declared.tree.Item.TheOpen as level
use Rattle.rad_conf.specs.Conf.{path_of}
use Rattle.rad_policy.specs.Policy.{Sources}
use Rattle.unlang_xlat.specs.declared.part.Part.{Part}
use Rattle.unlang_xlat.specs.declared.fault.XlatFault.{XlatFault}
use Rattle.unlang_xlat.specs.Faults.{parsed}
use Rattle.mod_users.specs.declared.entry.Entry.{Entry}
use Rattle.mod_users.specs.declared.fault.UsersFault.{UsersFault}
use Rattle.mod_users.specs.declared.form.Form.{Form}
use Rattle.mod_users.specs.declared.form.Form.TheVariants as form
use Rattle.mod_users.specs.Users.{users_of_text}
use Rattle.mod_users.specs.Module.{module_by}
use Rattle.mod_realm.specs.declared.realms.Realm.{Realm}
use Rattle.mod_filter.specs.Module.{filter_by}
use Rattle.rad_build.specs.declared.fault.BuildFault.{BuildFault}
use Rattle.rad_build.specs.declared.fault.BuildFault.TheVariants as fault
use Rattle.rad_build.specs.declared.users.EntryFile.{EntryFile}
use Rattle.rad_build.specs.declared.users.EntryFile.TheVariants as entry_file
use Rattle.rad_modules.specs.declared.site_module.SiteModule.{SiteModule}
use Rattle.rad_modules.specs.declared.site_module.SiteModule.TheVariants as site
use Rattle.rad_words.specs.Codes.{code_named}
use Rattle.rad_build.specs.Nodes.{◌>>=◌, refused, bad_setting, formed, after_each}
use Rattle.rad_build.specs.Items.{setting_of, is_pair_of, pair_named, nodes_of}
use Rattle.rad_build.specs.RealmBlock.{realms_in}
use Rattle.rad_build.specs.RealmSettings.{parting_of}
use Rattle.rad_build.specs.Modules.{Modules, no_modules, is_taken, has_room, and_module, with_codes}

-- The path of a file that a setting names: below the site's folder, or as it stands where it begins with `/`.
abbrev pub file_path : List ℕ → List ℕ → List ℕ
file_path folder name = if slice_index name 0 == 47 then name else path_of folder name

-- A fault of a users file, by the file's name.
abbrev pub of_users : List ℕ → Result (List Entry) UsersFault → Result (List Entry) BuildFault
of_users name (Ok entries) = Ok entries
of_users name (Err wrong) = Err (fault.Users name wrong)

-- The form of the reply items of a file of entries.
abbrev pub form_of : EntryFile → Form
form_of entry_file.Users = form.Reply
form_of entry_file.Filter = form.Filter

-- The users of a file's octets. One that is missing or has more than 4 MiB is refused at the setting.
abbrev pub users_in : EntryFile → Definitions → Place → List ℕ → Option (List ℕ) → Result (List Entry) BuildFault
users_in file dict place name None = bad_setting place (codes "filename")
users_in file dict place name (Some text) = if nat_lt 4194304 (length text) then bad_setting place (codes "filename") else of_users name (users_of_text (form_of file) text dict)

-- The users of the file of a name, which is UTF-8.
unfoldable pub users_at : EntryFile → Sources → Definitions → Place → List ℕ → Result (List Entry) BuildFault
users_at file sources dict place name =
    if is_utf8 name then users_in file dict place name (octets_at (file_path sources.folder name) sources.files) else bad_setting place (codes "filename")

-- The users of the setting `filename = NAME`.
unfoldable pub filename_at : EntryFile → Sources → Definitions → Node → Result (List Entry) BuildFault
filename_at file sources dict node = elim (setting_of node) [
  | None ↦ bad_setting node.place (codes "filename")
  | Some setting ↦ users_at file sources dict node.place setting.1
]

-- The users of the first setting `filename` of a block at this place.
unfoldable pub users_by : EntryFile → Sources → Definitions → Place → Option Node → Result (List Entry) BuildFault
users_by file sources dict place None = bad_setting place (codes "filename")
users_by file sources dict place (Some node) = filename_at file sources dict node

-- The return code of the setting `rcode = CODE`.
abbrev pub rcode_at : Node → Option Code
rcode_at node = option_and_then (λ (setting : List ℕ × List ℕ). code_named setting.1) (setting_of node)

-- The module of the first setting `rcode` of a block at this place.
unfoldable pub always_by : Place → Option Node → Result SiteModule BuildFault
always_by place None = bad_setting place (codes "rcode")
always_by place (Some node) = formed node.place (codes "rcode") (rcode_at node) >>= λ code. Ok (site.Always (record { code = code }))

-- The kinds of modules that aren't built yet.
abbrev pub later_kinds : List (List ℕ)
later_kinds = codes "detail" ∷ codes "radutmp" ∷ []

-- Whether a kind isn't built yet.
abbrev pub is_later : List ℕ → Bool
is_later kind = list_any (bytes_eq kind) later_kinds

-- The module of a kind that reads no file, by the name of its instance and the items of its block.
unfoldable pub plain_module : Place → List ℕ → List ℕ → List Node → Result SiteModule BuildFault
plain_module place kind name items =
    if bytes_eq kind (codes "always") then always_by place (pair_named (codes "rcode") items)
    else (if bytes_eq kind (codes "pap") then Ok (site.Pap (record { name = name }))
    else (if bytes_eq kind (codes "chap") then Ok (site.Chap (record { name = name }))
    else (if is_later kind then refused place
    else Err (fault.UnknownModule place kind))))

-- The key of a module where none is set: of `files` the user's name, without its realm where that was taken off, and of
-- `attr_filter` the realm.
abbrev pub usual_key : EntryFile → List ℕ
usual_key entry_file.Users = codes "%{%{Stripped-User-Name}:-%{User-Name}}"
usual_key entry_file.Filter = codes "%{Realm}"

-- A key that a text writes; one that can't be read is refused at a place.
abbrev pub key_or_refused : Place → Result (List Part) XlatFault → Result (List Part) BuildFault
key_or_refused place (Ok parts) = Ok parts
key_or_refused place (Err wrong) = bad_setting place (codes "key")

-- The key of the first setting `key` of a block at this place.
unfoldable pub key_by : EntryFile → Definitions → Place → Option Node → Result (List Part) BuildFault
key_by file dict place None = key_or_refused place (parsed (usual_key file) dict)
key_by file dict place (Some node) = elim (setting_of node) [
  | None ↦ bad_setting node.place (codes "key")
  | Some setting ↦ key_or_refused node.place (parsed setting.1 dict)
]

-- The module of a file's entries and of a key: `files`, or `attr_filter`.
abbrev pub entries_module : EntryFile → List Entry → List Part → SiteModule
entries_module entry_file.Users users key = site.Files (module_by users key)
entries_module entry_file.Filter users key = site.Filter (filter_by users key)

-- The module of these entries, and of the first setting `key`.
unfoldable pub files_with : EntryFile → Definitions → Place → Option Node → List Entry → Result SiteModule BuildFault
files_with file dict place setting users = key_by file dict place setting >>= λ key. Ok (entries_module file users key)

-- The module where its file is looked at before its key.
abbrev pub file_then_key : EntryFile → Sources → Definitions → Place → List Node → Result SiteModule BuildFault
file_then_key file sources dict place items =
    users_by file sources dict place (pair_named (codes "filename") items) >>= files_with file dict place (pair_named (codes "key") items)

-- The module where its key is looked at before its file.
abbrev pub key_then_file : EntryFile → Sources → Definitions → Place → List Node → Result SiteModule BuildFault
key_then_file file sources dict place items =
    key_by file dict place (pair_named (codes "key") items) >>= λ key.
    users_by file sources dict place (pair_named (codes "filename") items) >>= λ users. Ok (entries_module file users key)

-- A pair `key` or `filename`.
abbrev pub is_files_pair : Node → Bool
is_files_pair node = is_pair_of (codes "key") node || is_pair_of (codes "filename") node

-- Whether the first of these pairs is a `key`.
abbrev pub has_key_first : List Node → Bool
has_key_first items = option_map_or (is_pair_of (codes "key")) (find is_files_pair items) false

-- The module of a file of entries: its settings are looked at in the order in which they stand.
unfoldable pub files_module : EntryFile → Sources → Definitions → Place → List Node → Result SiteModule BuildFault
files_module file sources dict place items = if has_key_first items then key_then_file file sources dict place items else file_then_key file sources dict place items

-- The file of entries that a block of this kind names: `files` and `attr_filter` have one.
abbrev pub file_of : List ℕ → Option EntryFile
file_of kind = if bytes_eq kind (codes "files") then Some entry_file.Users else (if bytes_eq kind (codes "attr_filter") then Some entry_file.Filter else None)

-- The module of a block that names such a file or not.
abbrev pub module_for : Option EntryFile → Sources → Definitions → Place → List ℕ → List ℕ → List Node → Result SiteModule BuildFault
module_for None sources dict place kind name items = plain_module place kind name items
module_for (Some file) sources dict place kind name items = files_module file sources dict place items

-- The module of a block.
unfoldable pub module_of : Sources → Definitions → Place → List ℕ → List ℕ → List Node → Result SiteModule BuildFault
module_of sources dict place kind name items = module_for (file_of kind) sources dict place kind name items

-- A block of this kind is of `realm`.
abbrev pub is_realm : List ℕ → Bool
is_realm kind = bytes_eq kind (codes "realm")

-- The module `realm` over these realms, by its settings.
unfoldable pub realm_module : List Realm → List Node → Result SiteModule BuildFault
realm_module realms items =
    parting_of items >>= λ parting. Ok (site.Realm (record { realms = realms; format = parting.0; delimiter = parting.1 }))

-- The module of a block of a site with these realms.
unfoldable pub instance_of : Sources → Definitions → List Realm → Place → List ℕ → List ℕ → List Node → Result SiteModule BuildFault
instance_of sources dict realms place kind name items =
    if is_realm kind then realm_module realms items else module_of sources dict place kind name items

-- The modules with one by this name, where there is room for it.
unfoldable pub and_room : Place → Modules → List ℕ → SiteModule → Result Modules BuildFault
and_room place known name m = if has_room known name then Ok (and_module known name m) else bad_setting place name

-- The modules with that of a block, whose instance's name isn't taken.
unfoldable pub with_instance : Sources → Definitions → Modules → Place → List ℕ → List ℕ → List Node → Result Modules BuildFault
with_instance sources dict known place kind name items =
    if is_taken known name then bad_setting place name
    else (instance_of sources dict known.realms place kind name items >>= λ m. and_room place known name m)

-- The kind, the instance's name and the items of a block of a module: the instance has the name of the block, or else that
-- of its kind.
abbrev pub module_block : Node → Option (List ℕ × List ℕ × List Node)
module_block node = elim (out-Item node.item) [
  | level.Pair left operator right ↦ None
  | level.Name word ↦ None
  | level.Block kind None body ↦ Some (kind.text, kind.text, body)
  | level.Block kind (Some name) body ↦ Some (kind.text, name.text, body)
]

-- The modules with one more. What is no block is passed over.
unfoldable pub with_module : Sources → Definitions → Modules → Node → Result Modules BuildFault
with_module sources dict known node = elim (module_block node) [
  | None ↦ Ok known
  | Some block ↦ with_instance sources dict known node.place block.0 block.1 block.2
]

-- The modules with those of one more node of the top: of a block `modules`, whatever else is passed over.
unfoldable pub with_modules : Sources → Definitions → Modules → Node → Result Modules BuildFault
with_modules sources dict known node = after_each (with_module sources dict) known (nodes_of (codes "modules") node)

-- The modules of a whole configuration with these realms: those of its blocks, and those of the return codes.
unfoldable pub modules_over : Sources → Definitions → List Realm → List Node → Result Modules BuildFault
modules_over sources dict realms nodes = after_each (with_modules sources dict) (no_modules realms) nodes >>= λ known. Ok (with_codes known)

-- The modules of a whole configuration: its realms first, and then its modules over them.
unfoldable pub modules_in : Sources → Definitions → List Node → Result Modules BuildFault
modules_in sources dict nodes = realms_in nodes >>= λ realms. modules_over sources dict realms nodes
