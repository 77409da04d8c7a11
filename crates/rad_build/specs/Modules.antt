-- The instances of a site's modules as they are gathered. This project's own; names are those of the block `modules` of
-- radiusd.conf(5).
use Rattle.std.specs.Prelude.{ℕ, ◌≡◌, ◌+◌, Bool, ◌&&◌, ◌||◌, List, [], ◌∷◌, ◌++◌, length, map, nat_lt, if◌then◌else◌}
use Rattle.std.specs.Option.{is_some}
use Rattle.rad_words.specs.declared.codes.Code.{Code}
use Rattle.rad_words.specs.declared.codes.Code.TheVariants as code
use Rattle.mod_realm.specs.declared.realms.Realm.{Realm}
use Rattle.unlang_tree.specs.Instances.{Instance, number_of}
use Rattle.rad_modules.specs.declared.site_module.SiteModule.{SiteModule}
use Rattle.rad_modules.specs.declared.site_module.SiteModule.TheVariants as site
use Rattle.rad_words.specs.Codes.{code_name}
use Rattle.rad_build.specs.Codes.{is_code_name}
use Rattle.rad_modules.specs.SiteModules.{methods_of}

-- The realms of the site, its instances, the modules behind their numbers, and how many instances have a name that is no
-- return code's.
pub record Modules : Type 0 where
  pub realms : List Realm
  pub instances : List Instance
  pub stack : List SiteModule
  pub others : ℕ

-- Before the first module a site has its realms alone.
abbrev pub no_modules : List Realm → Modules
no_modules realms = record { realms = realms; instances = []; stack = []; others = 0 }

-- The instance of a module by this name.
abbrev pub instance_by : List ℕ → SiteModule → Instance
instance_by name m = record { name = name; methods = record { methods = methods_of m } }

-- Each number is that of an instance and of its module.
abbrev pub AreInStep : List Instance → List SiteModule → Type 0
AreInStep instances stack = map (λ (i : Instance). i.methods.methods) instances ≡ map methods_of stack

-- Whether an instance of this name stands.
abbrev pub is_taken : Modules → List ℕ → Bool
is_taken known name = is_some (number_of known.instances name)

-- Whether there is room for an instance of this name, which isn't taken. Nine of the 1,024 places are those of the return
-- codes.
abbrev pub has_room : Modules → List ℕ → Bool
has_room known name = nat_lt (length known.instances) 1024 && (is_code_name name || nat_lt known.others 1015)

-- The modules with one more by this name, whose number is how many there were.
abbrev pub and_module : Modules → List ℕ → SiteModule → Modules
and_module known name m = record {
  realms = known.realms;
  instances = known.instances ++ instance_by name m ∷ [];
  stack = known.stack ++ m ∷ [];
  others = if is_code_name name then known.others else known.others + 1;
}

-- The modules with that of a return code, where no instance of its name was configured.
unfoldable pub with_code : Modules → Code → Modules
with_code known answer =
    if is_taken known (code_name answer) then known
    else (if has_room known (code_name answer) then and_module known (code_name answer) (site.Always (record { code = answer })) else known)

-- The modules with those of three return codes.
abbrev pub with_three : Modules → Code → Code → Code → Modules
with_three known first second third = with_code (with_code (with_code known first) second) third

-- The modules with those of the nine.
abbrev pub with_codes : Modules → Modules
with_codes known =
    with_three (with_three (with_three known code.Reject code.Fail code.Ok) code.Handled code.Invalid code.Userlock) code.Notfound code.Noop code.Updated
