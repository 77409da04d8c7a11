-- What the module `files` means. After the manual page rlm_files(5).
use Rattle.std.specs.Prelude.{Bool, true, false, List, [], ◌∷◌}
use Rattle.rad_words.specs.declared.attributes.AttrId.{AttrId}
use Rattle.rad_words.specs.declared.codes.Code.{Code}
use Rattle.rad_value.specs.declared.scope.Scope.{Scope}
use Rattle.rad_value.specs.declared.edits.ListName.{ListName}
use Rattle.rad_value.specs.PairLists.{PairLists}
use Rattle.rad_dict.specs.Definitions.{Definitions}
use Rattle.unlang_xlat.specs.declared.part.Part.{Part}
use Rattle.unlang_xlat.specs.Texts.{expanded}
use Rattle.mod_base.specs.Situation.{Situation}
use Rattle.mod_users.specs.declared.entry.Entry.{Entry}
use Rattle.mod_users.specs.declared.files.FilesModule.{FilesModule}
use Rattle.mod_users.specs.Files.{files_done, frame}

-- The users of a module.
abbrev pub users_of : FilesModule → List Entry
users_of m = m.users

-- The key of a module.
abbrev pub key_of : FilesModule → List Part
key_of m = m.key

-- The module of users and of a key.
abbrev pub module_by : List Entry → List Part → FilesModule
module_by users key = record { users = users; key = key }

-- It has a method for authorize alone.
abbrev pub methods_of : List Bool
methods_of = true ∷ false ∷ false ∷ false ∷ false ∷ false ∷ []

-- Its frame is that of its users.
abbrev pub edits : FilesModule → ListName → AttrId → Bool
edits m list attr = frame (users_of m) list attr

-- The scope with these lists, and a code.
abbrev pub with_lists : Scope → PairLists × Code → Scope × Code
with_lists scope done = (record scope { lists = done.0 }, done.1)

-- The scope after authorize, and the code: the key is expanded once, in the scope at the call, and the lists are those that
-- the users make of them.
abbrev pub authorized : FilesModule → Definitions → Scope → Scope × Code
authorized m dict scope = with_lists scope (files_done (users_of m) (expanded scope dict (key_of m)) dict scope.lists)

-- What it does in a situation: the scope alone changes.
abbrev pub does : FilesModule → Definitions → Situation → Situation × Code
does m dict situation =
    (record situation { scope = (authorized m dict situation.scope).0 }, (authorized m dict situation.scope).1)
