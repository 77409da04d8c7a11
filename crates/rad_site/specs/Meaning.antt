-- What a generation of a site means to the core: what its files are built to, and what it answers.
use Rattle.rad_policy.specs.Policy.{Meaning}
use Rattle.rad_build.specs.declared.fault.BuildFault.{BuildFault}
use Rattle.rad_build.specs.declared.fault.BuildFault.TheVariants as fault
use Rattle.rad_site.specs.Site.{Site}
use Rattle.rad_site.specs.Built.{built}
use Rattle.rad_site.specs.Request.{client_of, has_server_of, access_of}

-- The meaning of a site: how many requests a full table has and how long a reply is kept are settings.
abbrev pub site_meaning : Meaning Site BuildFault
site_meaning = record {
  built = built;
  memory_fault = fault.NoMemory;
  read_fault = fault.ReadFault;
  client = client_of;
  has_server = has_server_of;
  max_requests = λ site. site.settings.max_requests;
  cleanup_delay = λ site. site.settings.cleanup_delay;
  access = access_of;
}
