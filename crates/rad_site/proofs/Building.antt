-- A whole build, from the configuration's file through the dictionary to the site.
use Rattle.std.proofs.Common.{◌≡◌, ℕ, List, Option, Some, None, Result, Ok, Err, refl, sym, ap, subst, ◌∙◌, inl, inr}
use Rattle.rad_outside.specs.Files.{FilesTold, begun}
use Rattle.rad_outside.specs.Telling.{Tells}
use Rattle.rad_dict.specs.Definitions.{Definitions}
use Rattle.rad_conf.specs.declared.fault.ConfFault.{ConfFault}
use Rattle.rad_conf.specs.declared.fault.ConfFault.TheVariants as conf
use Rattle.rad_conf.specs.declared.tree.Node.{Node}
use Rattle.rad_conf.specs.Answers.{IsFault}
use Rattle.rad_conf.specs.Conf.{conf_at}
use Rattle.rad_policy.specs.Policy.{Sources, IsBuilt}
use Rattle.rad_build.specs.declared.fault.BuildFault.{BuildFault}
use Rattle.rad_build.specs.declared.fault.BuildFault.TheVariants as fault
use Rattle.rad_site.specs.Site.{Site}
use Rattle.rad_build.specs.Nodes.{◌>>=◌}
use Rattle.rad_build.specs.ConfFault.{fault_of, of_conf}
use Rattle.rad_build.specs.Sources.{Misses, Finds, FindsIn}
use Rattle.rad_site.specs.Built.{conf_name, dict_at, site_of, built}
use Rattle.rad_site.specs.Meaning.{site_meaning}
use Rattle.rad_build.proofs.Finding.{FindsIn-then}

-- what is found in a site's files is what they are built to, unless memory ran out or the files failed
is_built : (sources : Sources) (answer : Result Site BuildFault) → Finds answer (built sources) → IsBuilt site_meaning sources answer
is_built sources (Ok site) finds = finds
is_built sources (Err (fault.Conf wrong)) finds = inl finds
is_built sources (Err (fault.Dict wrong)) finds = inl finds
is_built sources (Err (fault.Users file wrong)) finds = inl finds
is_built sources (Err (fault.Tree wrong)) finds = inl finds
is_built sources (Err (fault.UnknownModule place kind)) finds = inl finds
is_built sources (Err (fault.BadSetting place name)) finds = inl finds
is_built sources (Err fault.ReadFault) finds = inr (inr refl)
is_built sources (Err fault.NoMemory) finds = inr (inl refl)

-- behind the configuration's file
behind_conf : (folder : List ℕ) (nodes : List Node) (answer : Result Site BuildFault) (before now : FilesTold) → conf_at folder conf_name before.present ≡ Ok nodes
    → FindsIn folder (λ sources. dict_at sources >>= λ dict. site_of sources dict nodes) answer (Some before) (Some now) → (now ≡ before) × Finds answer (built (record { files = before.present; folder = folder }))
behind_conf folder nodes answer before now read found = (
  found.0,
  let at : Sources = record { files = before.present; folder = folder } in
      subst (λ r. Finds answer r) (sym (ap (λ (r : Result (List Node) ConfFault). of_conf r >>= λ ns. dict_at at >>= λ dict. site_of at dict ns) read)) found.1,
)

pub builds : (folder : List ℕ) (nodes : List Node) (dict : Definitions) (answer : Result Site BuildFault) (a b c d e : Option FilesTold)
    → Tells a b (λ before now. now ≡ begun before) → Tells b c (λ before now. (now ≡ before) × (conf_at folder conf_name before.present ≡ Ok nodes))
    → FindsIn folder dict_at (Ok dict) c d → FindsIn folder (λ sources. site_of sources dict nodes) answer d e
    → Tells a e (λ before now. (now ≡ begun before) × IsBuilt site_meaning (record { files = (begun before).present; folder = folder }) answer)
builds folder nodes dict answer a b c d None begins read found site = tt
builds folder nodes dict answer a b c None (Some e) begins read found site = absurd site
builds folder nodes dict answer a b None (Some d) (Some e) begins read found site = absurd found
builds folder nodes dict answer a None (Some c) (Some d) (Some e) begins read found site = absurd read
builds folder nodes dict answer None (Some b) (Some c) (Some d) (Some e) begins read found site = absurd begins
builds folder nodes dict answer (Some a) (Some b) (Some c) (Some d) (Some e) begins read found site =
    let whole = FindsIn-then folder dict_at (λ sources dict. site_of sources dict nodes) dict answer (Some c) (Some d) (Some e) found site in
    let same : c ≡ begun a = read.0 ∙ begins in
    let first = subst (λ (told : FilesTold). conf_at folder conf_name told.present ≡ Ok nodes) (sym read.0) read.1 in
    let end = behind_conf folder nodes answer c e first whole in (
      end.0 ∙ same,
      is_built (record { files = (begun a).present; folder = folder }) answer
          (subst (λ (told : FilesTold). Finds answer (built (record { files = told.present; folder = folder }))) same end.1),
    )

-- a fault of the configuration's files is that of the whole build
conf_misses : (sources : Sources) (wrong : ConfFault) → IsFault (conf_at sources.folder conf_name sources.files) wrong → Misses (fault_of wrong) (built sources)
conf_misses sources (conf.Unclosed place) same = rw same refl
conf_misses sources (conf.Stray place) same = rw same refl
conf_misses sources (conf.BadQuote place) same = rw same refl
conf_misses sources (conf.NoVariable place) same = rw same refl
conf_misses sources (conf.TooDeep place) same = rw same refl
conf_misses sources (conf.Missing place) same = rw same refl
conf_misses sources (conf.TooLong place) same = rw same refl
conf_misses sources conf.ReadFault same = tt
conf_misses sources conf.NoMemory same = tt

pub stops_at_conf : (folder : List ℕ) (wrong : ConfFault) (a b c : Option FilesTold)
    → Tells a b (λ before now. now ≡ begun before) → Tells b c (λ before now. (now ≡ before) × IsFault (conf_at folder conf_name before.present) wrong)
    → Tells a c (λ before now. (now ≡ begun before) × IsBuilt site_meaning (record { files = (begun before).present; folder = folder }) (Err (fault_of wrong)))
stops_at_conf folder wrong a b None begins read = tt
stops_at_conf folder wrong a None (Some c) begins read = absurd read
stops_at_conf folder wrong None (Some b) (Some c) begins read = absurd begins
stops_at_conf folder wrong (Some a) (Some b) (Some c) begins read = (
  read.0 ∙ begins,
  is_built (record { files = (begun a).present; folder = folder }) (Err (fault_of wrong))
      (conf_misses (record { files = (begun a).present; folder = folder }) wrong (subst (λ (told : FilesTold). IsFault (conf_at folder conf_name told.present) wrong) begins read.1)),
)

-- a fault of the dictionary is that of the whole build where the configuration's files have none
dict_misses : (sources : Sources) (nodes : List Node) (e : BuildFault) → conf_at sources.folder conf_name sources.files ≡ Ok nodes → Misses e (dict_at sources) → Misses e (built sources)
dict_misses sources nodes (fault.Conf wrong) read same = rw (read, same) refl
dict_misses sources nodes (fault.Dict wrong) read same = rw (read, same) refl
dict_misses sources nodes (fault.Users file wrong) read same = rw (read, same) refl
dict_misses sources nodes (fault.Tree wrong) read same = rw (read, same) refl
dict_misses sources nodes (fault.UnknownModule place kind) read same = rw (read, same) refl
dict_misses sources nodes (fault.BadSetting place name) read same = rw (read, same) refl
dict_misses sources nodes fault.ReadFault read same = tt
dict_misses sources nodes fault.NoMemory read same = tt

pub stops_at_dict : (folder : List ℕ) (nodes : List Node) (e : BuildFault) (a b c d : Option FilesTold)
    → Tells a b (λ before now. now ≡ begun before) → Tells b c (λ before now. (now ≡ before) × (conf_at folder conf_name before.present ≡ Ok nodes)) → FindsIn folder dict_at (Err e) c d
    → Tells a d (λ before now. (now ≡ begun before) × IsBuilt site_meaning (record { files = (begun before).present; folder = folder }) (Err e))
stops_at_dict folder nodes e a b c None begins read found = tt
stops_at_dict folder nodes e a b None (Some d) begins read found = absurd found
stops_at_dict folder nodes e a None (Some c) (Some d) begins read found = absurd read
stops_at_dict folder nodes e None (Some b) (Some c) (Some d) begins read found = absurd begins
stops_at_dict folder nodes e (Some a) (Some b) (Some c) (Some d) begins read found =
    let same : c ≡ begun a = read.0 ∙ begins in (
      found.0 ∙ same,
      is_built (record { files = (begun a).present; folder = folder }) (Err e)
          (dict_misses (record { files = (begun a).present; folder = folder }) nodes e
          (subst (λ (told : FilesTold). conf_at folder conf_name told.present ≡ Ok nodes) begins read.1)
          (subst (λ (told : FilesTold). Misses e (dict_at (record { files = told.present; folder = folder }))) same found.1)),
    )
