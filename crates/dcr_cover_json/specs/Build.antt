-- The facts by which sites are a cover of a nested graph.
use Rattle.std.specs.Prelude.{ℕ, List, [], ◌∷◌, ◌++◌, length, is_some, slice_index_or}
use Rattle.dcr_nest.specs.Nest.{Nest}
use Rattle.dcr_proj.specs.CoverValue.{is_owned}
use Rattle.dcr_format.specs.Facts.{Fact, unless, each_below, facts_below, first}
use Rattle.dcr_format.specs.declared.stop.CaseStop.TheVariants.{SiteName, Owned, Uncovered}
use Rattle.dcr_graph_json.specs.Build.{atom_names, is_new_name}
use Rattle.dcr_cover_json.specs.Sites.{Site, site_at, owned_at, names_in, atom_count, node_named, cover_in}

-- the name of site i is a name and no earlier site's
abbrev pub name_fact : List Site → ℕ → Fact
name_fact sites i = unless (is_new_name (names_in sites) i (site_at sites i).0) (SiteName i)

-- each of its texts names a node
abbrev pub texts_fact : Nest → List Site → ℕ → Fact
texts_fact N sites i = each_below (length (site_at sites i).1) (λ j. is_some (node_named N (owned_at (site_at sites i) j))) (Owned i)

-- its name and then its texts
abbrev pub site_fact : Nest → List Site → ℕ → Fact
site_fact N sites i = first (name_fact sites i ∷ texts_fact N sites i ∷ [])

-- each atom is owned by one of the sites; else it is refused by its name
abbrev pub uncovered_fact : Nest → List Site → Fact
uncovered_fact N sites = each_below (atom_count N) (is_owned (cover_in N sites).owned) (λ atom. Uncovered (slice_index_or (atom_names N) atom []))

-- site by site, and then the atoms
unfoldable pub build_facts : Nest → List Site → List Fact
build_facts N sites = facts_below (length sites) (site_fact N sites) ++ uncovered_fact N sites ∷ []
