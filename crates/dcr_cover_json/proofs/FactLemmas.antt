-- The facts of sites: of one site, of all, and of the atoms after them.
use Rattle.std.proofs.Common.{◌≡◌, ℕ, ◌<◌, Bool, true, false, not, List, [], ◌∷◌, length, get_or, is_some, Option, Some, None, option_map, refl, sym, ap, ◌∙◌}
use Rattle.dcr_set.specs.EventSet.{Set}
use Rattle.dcr_set.specs.Least.{IsLeast, least}
use Rattle.dcr_set.proofs.LeastLemmas.{least-from}
use Rattle.dcr_nest.specs.Nest.{Nest}
use Rattle.dcr_proj.specs.CoverValue.{is_owned}
use Rattle.dcr_format.specs.Facts.{Fact, facts_below, first, unless}
use Rattle.dcr_format.specs.declared.stop.CaseStop.{CaseStop}
use Rattle.dcr_format.specs.declared.stop.CaseStop.TheVariants.{SiteName, Owned, Uncovered}
use Rattle.dcr_format.proofs.FactLemmas.{append_here, append_none, append_past, below_holds, below_none, facts_hold, first_none, unless_holds}
use Rattle.dcr_graph_json.specs.Build.{atom_names, is_new_name}
use Rattle.dcr_cover_json.specs.Build.{build_facts, name_fact, site_fact, texts_fact, uncovered_fact}
use Rattle.dcr_cover_json.specs.Sites.{Site, atom_count, cover_in, names_in, node_named, owned_at, site_at}

only : (f : Fact) → first (f ∷ []) ≡ f
only None = refl
only (Some stop) = refl

-- ---- one site

module _ (N : Nest) (sites : List Site) (i : ℕ) where
  abbrev is_new : Bool
  is_new = is_new_name (names_in sites) i (site_at sites i).0

  abbrev is_known : ℕ → Bool
  is_known j = is_some (node_named N (owned_at (site_at sites i) j))

  abbrev many : ℕ
  many = length (site_at sites i).1

  pub name_stop : is_new ≡ false → site_fact N sites i ≡ Some (SiteName i)
  name_stop e = ap (λ b. first (unless b (SiteName i) ∷ texts_fact N sites i ∷ [])) e

  past_name : is_new ≡ true → site_fact N sites i ≡ texts_fact N sites i
  past_name e = ap (λ b. first (unless b (SiteName i) ∷ texts_fact N sites i ∷ [])) e ∙ only (texts_fact N sites i)

  pub text_stop : (j : ℕ) → is_new ≡ true → IsLeast many (λ k. not (is_known k)) j → site_fact N sites i ≡ Some (Owned i j)
  text_stop j e unknown = past_name e ∙ ap (option_map (Owned i)) (least-from many (λ k. not (is_known k)) j unknown)

  pub site_good : is_new ≡ true → ((j : ℕ) → j < many → is_known j ≡ true) → site_fact N sites i ≡ None
  site_good e known = past_name e ∙ below_none many is_known (Owned i) known

  pub good_name : site_fact N sites i ≡ None → is_new ≡ true
  good_name e = unless_holds is_new (SiteName i) (first_none (name_fact sites i) (texts_fact N sites i ∷ []) e).0

  pub good_texts : site_fact N sites i ≡ None → (j : ℕ) → j < many → is_known j ≡ true
  good_texts e = below_holds many is_known (Owned i) (sym (only (texts_fact N sites i)) ∙ (first_none (name_fact sites i) (texts_fact N sites i ∷ []) e).1)

-- ---- all sites, and then the atoms

module _ (N : Nest) (sites : List Site) where
  abbrev by_site : List Fact
  by_site = facts_below (length sites) (site_fact N sites)

  pub sites_stop : (stop : CaseStop) → first by_site ≡ Some stop → first (build_facts N sites) ≡ Some stop
  unfolding build_facts
  sites_stop stop e = append_here by_site (uncovered_fact N sites ∷ []) stop e

  pub past_sites : first by_site ≡ None → first (build_facts N sites) ≡ uncovered_fact N sites
  unfolding build_facts
  past_sites e = append_past by_site (uncovered_fact N sites ∷ []) e ∙ only (uncovered_fact N sites)

  pub sites_hold : first (build_facts N sites) ≡ None → (i : ℕ) → i < length sites → site_fact N sites i ≡ None
  unfolding build_facts
  sites_hold e = facts_hold (site_fact N sites) (length sites) (append_none by_site (uncovered_fact N sites ∷ []) e).0

  pub atoms_hold : first (build_facts N sites) ≡ None → (atom : ℕ) → atom < atom_count N → is_owned (cover_in N sites).owned atom ≡ true
  unfolding build_facts
  atoms_hold e =
      below_holds (atom_count N) (is_owned (cover_in N sites).owned) (λ atom. Uncovered (get_or (atom_names N) atom []))
      (sym (only (uncovered_fact N sites)) ∙ (append_none by_site (uncovered_fact N sites ∷ []) e).1)

  -- what the search for an atom that none of these sets has found
  pub atoms_tell : (owned : List Set) (n : ℕ) (found : Option ℕ) → owned ≡ (cover_in N sites).owned → n ≡ atom_count N → found ≡ least n (λ atom. not (is_owned owned atom))
      → uncovered_fact N sites ≡ option_map (λ atom. Uncovered (get_or (atom_names N) atom [])) found
  atoms_tell owned n found same room is =
      ap (option_map (λ atom. Uncovered (get_or (atom_names N) atom []))) (sym (is ∙ ap (λ m. least m (λ atom. not (is_owned owned atom))) room ∙ ap (λ (sets : List Set). least (atom_count N) (λ atom. not (is_owned sets atom))) same))
