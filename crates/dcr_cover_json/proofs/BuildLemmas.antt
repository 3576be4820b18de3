-- Sites by the facts of a cover are an accepted one.
use Rattle.std.proofs.Common.{◌≡◌, ℕ, ◌<◌, ◌≤◌, ◌&&◌, true, false, not, eqb, nat_le, List, [], length, get_or, Option, Some, None, option_map, sym, ap, ◌∙◌, arith}
use Rattle.std.specs.List.{All}
use Rattle.std.specs.Option.{option_map_or}
use Rattle.std.specs.Str.{bytes_eq}
use Rattle.std.proofs.lemmas.Bool.{and_parts, leb-true}
use Rattle.std.proofs.lemmas.List.{get_or-map, length-map}
use Rattle.std.proofs.lemmas.List.Elements.{All-map}
use Rattle.dcr_set.specs.EventSet.{Set}
use Rattle.dcr_set.specs.Least.{IsLeast, least}
use Rattle.dcr_set.proofs.LeastLemmas.{least-some}
use Rattle.dcr_set.proofs.SetLemmas.{length-those}
use Rattle.dcr_graph.specs.Names.{AreDistinct, is_name, number_of}
use Rattle.dcr_nest.specs.Nest.{Nest}
use Rattle.dcr_proj.specs.CoverValue.{Owners, atoms_of, is_owned, owners}
use Rattle.dcr_format.specs.Facts.{facts_below, first}
use Rattle.dcr_format.specs.Texts.{AreAllNames}
use Rattle.dcr_format.specs.declared.stop.CaseStop.TheVariants.{Limit, Uncovered}
use Rattle.dcr_format.specs.declared.stop.LimitKind.TheVariants as kind
use Rattle.dcr_format.proofs.FactLemmas.{first_none, unless_holds}
use Rattle.dcr_graph_json.specs.Build.{atom_names}
use Rattle.dcr_graph_json.proofs.NodeLemmas.{new_number}
use Rattle.dcr_cover_json.specs.Accepted.{IsAcceptedCover}
use Rattle.dcr_cover_json.specs.Build.{build_facts, site_fact}
use Rattle.dcr_cover_json.specs.Limits.{limit_facts}
use Rattle.dcr_cover_json.specs.Sites.{Site, atom_count, cover_in, names_in, set_meant, site_at}
use Rattle.dcr_cover_json.proofs.FactLemmas.{atoms_hold, atoms_tell, good_name, past_sites, sites_hold}

-- there are 1 to 64 sites
pub sites_kept : (sites : List Site) → first (limit_facts sites) ≡ None → (1 ≤ length sites) × (length sites ≤ 64)
unfolding limit_facts
sites_kept sites e =
    let n = length sites in
    let both = and_parts (nat_le 1 n) (nat_le n 64) (unless_holds (nat_le 1 n && nat_le n 64) (Limit kind.Sites n) (first_none _ [] e).0) in
    (leb-true 1 n both.0, leb-true n 64 both.1)

-- each set has a place for each atom
pub rooms_told : (N : Nest) (sites : List Site) → All (λ set. length set ≡ atom_count N) (cover_in N sites).owned
unfolding cover_in
rooms_told N sites = All-map (λ (set : Set). length set ≡ atom_count N) (λ (site : Site). set_meant N site.1) sites (λ k d l. length-those (atom_count N) _)

many_sets : (N : Nest) (sites : List Site) → length (cover_in N sites).owned ≡ length sites
unfolding cover_in
many_sets N sites = length-map sites (λ (site : Site). set_meant N site.1)

first_room : (N : Nest) (sites : List Site) → 1 ≤ length sites → atoms_of (cover_in N sites).owned ≡ atom_count N
first_room N sites some = rooms_told N sites 0 [] (let many = many_sets N sites in omega arith)

module _ (N : Nest) (sites : List Site) (some : 1 ≤ length sites) (most : length sites ≤ 64) (hold : first (build_facts N sites) ≡ None) where
  abbrev names : List (List ℕ)
  names = names_in sites

  many : length names ≡ length sites
  many = length-map sites (λ (site : Site). site.0)

  name_at : (i : ℕ) (d : List ℕ) → i < length sites → get_or names i d ≡ (site_at sites i).0
  name_at i d l = get_or-map (λ (site : Site). site.0) sites i ([], []) d l

  is_new : (i : ℕ) → i < length sites → (number_of names (site_at sites i).0 ≡ Some i) × (is_name (site_at sites i).0 ≡ true)
  is_new i l =
      let name = (site_at sites i).0 in
      let good = good_name N sites i (sites_hold N sites hold i l) in
      (new_number names i name good, (and_parts (option_map_or (λ k. eqb k i) (number_of names name) false) (is_name name) good).1)

  distinct : AreDistinct names
  distinct i j before within =
      let l : j < length sites = (let as_many = many in omega arith) in
      (least-some (length names) (λ k. bytes_eq (get_or names k []) (get_or names j [])) j (ap (number_of names) (name_at j [] l) ∙ (is_new j l).0)).none_before i before

  named : AreAllNames names
  named i d l = let within : i < length sites = (let as_many = many in omega arith) in ap is_name (name_at i d within) ∙ (is_new i within).1

  pub cover_accepted : IsAcceptedCover N (cover_in N sites)
  unfolding cover_in
  cover_accepted =
      let room = first_room N sites some in
      let as_many = many in
      record {
        is_cover = record {
          some_site = omega arith;
          most_sites = omega arith;
          as_many = length-map sites (λ (site : Site). set_meant N site.1) ∙ sym as_many;
          distinct = distinct;
          rooms = λ k d l. rooms_told N sites k d l ∙ sym room;
          covered = λ atom below. atoms_hold N sites hold atom (omega arith);
        };
        names = named;
        rooms = rooms_told N sites;
      }

-- what was read of the sites, and the search for an atom that none of them owns
module _ (M N : Nest) (sites : List Site) (names : List (List ℕ)) (owned seen : List Set) (n : ℕ) (same : M ≡ N) (read : owners names owned ≡ cover_in M sites) (lent : seen ≡ owned) (room : n ≡ atom_count N) where
  pub cover_read : owners names owned ≡ cover_in N sites
  cover_read = read ∙ ap (λ K. cover_in K sites) same

  seen_is : seen ≡ (cover_in N sites).owned
  seen_is = lent ∙ ap (λ (C : Owners). C.owned) cover_read

  module _ (good : first (facts_below (length sites) (site_fact M sites)) ≡ None) where
    here : first (facts_below (length sites) (site_fact N sites)) ≡ None
    here = ap (λ K. first (facts_below (length sites) (site_fact K sites))) (sym same) ∙ good

    pub facts_read : (found : Option ℕ) → found ≡ least n (λ atom. not (is_owned seen atom)) → first (build_facts N sites) ≡ option_map (λ atom. Uncovered (get_or (atom_names N) atom [])) found
    facts_read found is = past_sites N sites here ∙ atoms_tell N sites seen n found seen_is room is

  pub atom_read : (atom : ℕ) → Some atom ≡ least n (λ a. not (is_owned seen a)) → IsLeast (atom_count N) (λ a. not (is_owned (cover_in N sites).owned a)) atom
  atom_read atom is =
      least-some (atom_count N) (λ a. not (is_owned (cover_in N sites).owned a)) atom
      (ap (λ (sets : List Set). least (atom_count N) (λ a. not (is_owned sets a))) (sym seen_is) ∙ (ap (λ m. least m (λ a. not (is_owned seen a))) (sym room) ∙ sym is))
