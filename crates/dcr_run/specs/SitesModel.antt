-- What the fields of the sites stand for.
use Rattle.std.specs.Prelude.{◌≡◌, List, map}
use Rattle.dcr_set.specs.EventSet.{Set}
use Rattle.dcr_proj.specs.CoverValue.{atoms_of}
use Rattle.dcr_site.specs.Seen.{Seen}
use Rattle.dcr_site.specs.Together.{AreOver}
use Rattle.dcr_run.specs.Engine.{Engine}
use Rattle.dcr_run.specs.declared.sites.Sites.TheInside.{Inside}

abbrev pub engine_of : Inside → Engine
engine_of s = record { atoms = atoms_of s.network; sites = s.members.items }

-- the alphabets of sites
abbrev pub alphabets_in : List Seen → List Set
alphabets_in sites = map (λ site. site.projection.alphabet) sites

-- each projection is one over the atoms, and the network is that of the alphabets
pub record AreInNetwork (s : Inside) : Type 0 where
  pub over : AreOver (atoms_of s.network) s.members.items
  pub alphabets : s.network ≡ alphabets_in s.members.items
