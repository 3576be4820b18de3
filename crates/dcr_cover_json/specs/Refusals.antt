-- When sites are a cover of a nested graph, and when each refusal comes, in plain words.
use Rattle.std.specs.Prelude.{◌≡◌, ◌↔◌, ℕ, ◌<◌, true, false, not, List, [], length, None, Some, is_some, slice_index_or}
use Rattle.dcr_set.specs.Least.{IsLeast}
use Rattle.dcr_nest.specs.Nest.{Nest}
use Rattle.dcr_proj.specs.CoverValue.{is_owned}
use Rattle.dcr_format.specs.Facts.{Fact, first}
use Rattle.dcr_format.specs.declared.stop.CaseStop.TheVariants.{SiteName, Owned, Uncovered}
use Rattle.dcr_graph_json.specs.Build.{atom_names, is_new_name}
use Rattle.dcr_cover_json.specs.Build.{build_facts}
use Rattle.dcr_cover_json.specs.Sites.{Site, site_at, owned_at, names_in, atom_count, node_named, cover_in}

-- nothing is wrong with a site: its name is a name and no earlier site's, and each of its texts names a node
pub record IsGood (N : Nest) (sites : List Site) (i : ℕ) : Type 0 where
  pub name : is_new_name (names_in sites) i (site_at sites i).0 ≡ true
  pub texts : (j : ℕ) → j < length (site_at sites i).1 → is_some (node_named N (owned_at (site_at sites i) j)) ≡ true

-- nothing is wrong before site i, and its name is no name or an earlier site's
pub record RefusesName (N : Nest) (sites : List Site) (i : ℕ) : Type 0 where
  pub within : i < length sites
  pub before : (k : ℕ) → k < i → IsGood N sites k
  pub bad : is_new_name (names_in sites) i (site_at sites i).0 ≡ false

-- nothing is wrong before text j of site i, and it names no node
pub record RefusesText (N : Nest) (sites : List Site) (i j : ℕ) : Type 0 where
  pub within : i < length sites
  pub before : (k : ℕ) → k < i → IsGood N sites k
  pub name : is_new_name (names_in sites) i (site_at sites i).0 ≡ true
  pub unknown : IsLeast (length (site_at sites i).1) (λ k. not (is_some (node_named N (owned_at (site_at sites i) k)))) j

-- nothing is wrong with any site, and the least atom that no site owns has this name
pub record IsUncovered (N : Nest) (sites : List Site) (name : List ℕ) : Type 0 where
  pub sites_good : (i : ℕ) → i < length sites → IsGood N sites i
  pub atom : ℕ
  pub unowned : IsLeast (atom_count N) (λ a. not (is_owned (cover_in N sites).owned a)) atom
  pub named : name ≡ slice_index_or (atom_names N) atom []

-- nothing is wrong with any site, and each atom is owned
pub record AreCover (N : Nest) (sites : List Site) : Type 0 where
  pub sites_good : (i : ℕ) → i < length sites → IsGood N sites i
  pub covered : (atom : ℕ) → atom < atom_count N → is_owned (cover_in N sites).owned atom ≡ true

-- a refusal comes, or none
abbrev pub Comes : Nest → List Site → Fact → Type 0
Comes N sites None = AreCover N sites
Comes N sites (Some (SiteName i)) = RefusesName N sites i
Comes N sites (Some (Owned i j)) = RefusesText N sites i j
Comes N sites (Some (Uncovered name)) = IsUncovered N sites name
Comes N sites (Some _) = ⊥

-- each exactly there, and no other
abbrev pub RefusalsAreTheFormats : Type 0
RefusalsAreTheFormats = (N : Nest) (sites : List Site) (fact : Fact) → (first (build_facts N sites) ≡ fact) ↔ Comes N sites fact
