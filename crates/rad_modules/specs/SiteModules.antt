-- What the modules of a site mean, kind by kind. After the manual page radiusd.conf(5).
use Rattle.std.specs.Prelude.{Bool, true, false, List, replicate}
use Rattle.rad_words.specs.declared.attributes.AttrId.{AttrId}
use Rattle.rad_words.specs.declared.codes.Code.{Code}
use Rattle.rad_words.specs.declared.sections.Section.{Section}
use Rattle.rad_value.specs.declared.edits.ListName.{ListName}
use Rattle.rad_value.specs.declared.scope.Scope.{Scope}
use Rattle.rad_dict.specs.Definitions.{Definitions}
use Rattle.mod_base.specs.Meaning.{Meaning}
use Rattle.mod_base.specs.Situation.{Situation}
use Rattle.mod_lists.specs.Done.{done_to_lists}
use Rattle.mod_users.specs.Module as files
use Rattle.mod_auth.specs.Pap.{pap_methods, auth_type_alone, pap_done}
use Rattle.mod_auth.specs.Chap.{chap_done}
use Rattle.mod_realm.specs.Named.{realm_methods, realm_edits, realm_done}
use Rattle.mod_filter.specs.Module.{filter_methods, filter_edits, filter_in}
use Rattle.rad_modules.specs.declared.site_module.SiteModule.{SiteModule}
use Rattle.rad_modules.specs.declared.site_module.SiteModule.TheVariants as site

-- The sections for which a module has a method.
abbrev pub methods_of : SiteModule → List Bool
methods_of (site.Always m) = replicate 6 true
methods_of (site.Files m) = files.methods_of
methods_of (site.Pap m) = pap_methods
methods_of (site.Chap m) = pap_methods
methods_of (site.Realm m) = realm_methods
methods_of (site.Filter m) = filter_methods

-- The attributes of each list that a module may edit.
abbrev pub edits_of : SiteModule → ListName → AttrId → Bool
edits_of (site.Always m) = λ list attr. false
edits_of (site.Files m) = files.edits m
edits_of (site.Pap m) = auth_type_alone
edits_of (site.Chap m) = auth_type_alone
edits_of (site.Realm m) = realm_edits
edits_of (site.Filter m) = filter_edits

-- What a module does for a section.
abbrev pub does : SiteModule → Definitions → Section → Situation → Situation × Code
does (site.Always m) dict method situation = (situation, m.code)
does (site.Files m) dict method situation = files.does m dict situation
does (site.Pap m) dict method situation = done_to_lists (λ (scope : Scope). pap_done m.name method scope.lists) situation
does (site.Chap m) dict method situation = done_to_lists (λ (scope : Scope). chap_done m.name method scope.authenticator scope.lists) situation
does (site.Realm m) dict method situation = done_to_lists (λ (scope : Scope). realm_done m.realms m.format m.delimiter method scope.lists) situation
does (site.Filter m) dict method situation = done_to_lists (filter_in m dict method) situation

-- The meaning of a site's modules.
abbrev pub site_module : Meaning SiteModule
site_module = record { methods = methods_of; edits = edits_of; does = does }
