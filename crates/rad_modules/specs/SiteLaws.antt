-- What every module of a site keeps, kind by kind.
use Rattle.std.proofs.Common.{false}
use Rattle.rad_words.specs.declared.sections.Section.{Section}
use Rattle.rad_dict.specs.Definitions.{Definitions}
use Rattle.mod_base.specs.Situation.{Situation}
use Rattle.mod_base.specs.Meaning.{IsLawful}
use Rattle.mod_base.specs.Lawful.{lawful_alone}
use Rattle.mod_users.specs.Framed.{is_lawful}
use Rattle.mod_auth.specs.Lawful.{pap_is_lawful, chap_is_lawful}
use Rattle.mod_realm.specs.Lawful.{realm_is_lawful}
use Rattle.mod_filter.specs.Lawful.{filter_is_lawful}
use Rattle.rad_modules.specs.declared.site_module.SiteModule.{SiteModule}
use Rattle.rad_modules.specs.declared.site_module.SiteModule.TheVariants as site
use Rattle.rad_modules.specs.SiteModules.{site_module}

pub site_module_lawful : (m : SiteModule) (dict : Definitions) (method : Section) (situation : Situation) → IsLawful (site_module.edits m) method situation (site_module.does m dict method situation).0
site_module_lawful (site.Always m) dict method situation = lawful_alone (λ list attr. false) method situation
site_module_lawful (site.Files m) dict method situation = is_lawful m dict method situation
site_module_lawful (site.Pap m) dict method situation = pap_is_lawful m.name method situation
site_module_lawful (site.Chap m) dict method situation = chap_is_lawful m.name method situation
site_module_lawful (site.Realm m) dict method situation = realm_is_lawful m.realms m.format m.delimiter method situation
site_module_lawful (site.Filter m) dict method situation = filter_is_lawful m dict method situation
