pub mod SiteModules
pub mod SiteLaws
