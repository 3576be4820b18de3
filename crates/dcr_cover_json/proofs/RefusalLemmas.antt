-- The plain words on refusals are what the facts compute.
use Rattle.std.proofs.Common.{◌≡◌, ℕ, ◌<◌, Bool, true, false, not, List, [], length, get_or, is_some, Option, Some, None, option_map, refl, sym, ap, subst, ◌∙◌}
use Rattle.std.proofs.lemmas.Bool.{false≢true}
use Rattle.dcr_set.specs.Least.{least}
use Rattle.dcr_set.proofs.LeastLemmas.{least-from, least-none, least-some}
use Rattle.dcr_nest.specs.Nest.{Nest}
use Rattle.dcr_proj.specs.CoverValue.{is_owned}
use Rattle.dcr_format.specs.Facts.{Fact, first}
use Rattle.dcr_format.specs.declared.stop.CaseStop.{CaseStop}
use Rattle.dcr_format.specs.declared.stop.CaseStop.TheVariants.{TooLong, NotJson, Shape, Limit, EventName, Parent, MarkOnNest, RelationEnd, Clash, SiteName, Owned, Uncovered, CallLine, NoMemory}
use Rattle.dcr_format.proofs.FactLemmas.{below_none, facts_none, facts_stop}
use Rattle.dcr_graph_json.specs.Build.{atom_names, is_new_name}
use Rattle.dcr_cover_json.specs.Build.{build_facts, site_fact, uncovered_fact}
use Rattle.dcr_cover_json.specs.Refusals.{Comes, IsGood}
use Rattle.dcr_cover_json.specs.Sites.{Site, atom_count, cover_in, names_in, node_named, owned_at, site_at}
use Rattle.dcr_cover_json.proofs.FactLemmas.{good_name, good_texts, name_stop, past_sites, site_good, sites_stop, text_stop}

no_fact : (f : Fact) → is_some f ≡ false → f ≡ None
no_fact None e = refl
no_fact (Some stop) e = absurd (false≢true (sym e))

is_so : (b : Bool) → not b ≡ false → b ≡ true
is_so true e = refl
is_so false e = absurd (false≢true (sym e))

module _ (N : Nest) (sites : List Site) where
  abbrev fact : ℕ → Fact
  fact = site_fact N sites

  abbrev is_unowned : ℕ → Bool
  is_unowned atom = not (is_owned (cover_in N sites).owned atom)

  abbrev uncovered : ℕ → CaseStop
  uncovered atom = Uncovered (get_or (atom_names N) atom [])

  abbrev is_unknown : ℕ → ℕ → Bool
  is_unknown i j = not (is_some (node_named N (owned_at (site_at sites i) j)))

  good : (i : ℕ) → fact i ≡ None → IsGood N sites i
  good i e = record { name = good_name N sites i e; texts = good_texts N sites i e }

  none : (i : ℕ) → IsGood N sites i → fact i ≡ None
  none i is = site_good N sites i is.name is.texts

  all_good : ((i : ℕ) → i < length sites → IsGood N sites i) → first (build_facts N sites) ≡ uncovered_fact N sites
  all_good are = past_sites N sites (facts_none fact (length sites) (λ i l. none i (are i l)))

  stops_at : (i : ℕ) (stop : CaseStop) → i < length sites → ((k : ℕ) → k < i → IsGood N sites k) → fact i ≡ Some stop → first (build_facts N sites) ≡ Some stop
  stops_at i stop l before here = sites_stop N sites stop (facts_stop fact (length sites) i stop l (λ k b. none k (before k b)) here)

  -- what comes where the words hold
  pub from_words : (f : Fact) → Comes N sites f → first (build_facts N sites) ≡ f
  from_words None r = all_good r.sites_good ∙ below_none (atom_count N) (is_owned (cover_in N sites).owned) uncovered r.covered
  from_words (Some (SiteName i)) r = stops_at i (SiteName i) r.within r.before (name_stop N sites i r.bad)
  from_words (Some (Owned i j)) r = stops_at i (Owned i j) r.within r.before (text_stop N sites i j r.name r.unknown)
  from_words (Some (Uncovered name)) r = all_good r.sites_good ∙ ap (option_map uncovered) (least-from (atom_count N) is_unowned r.atom r.unowned) ∙ ap (λ n. Some (Uncovered n)) (sym r.named)
  from_words (Some TooLong) r = absurd r
  from_words (Some NotJson) r = absurd r
  from_words (Some (Shape p i)) r = absurd r
  from_words (Some (Limit k n)) r = absurd r
  from_words (Some (EventName i)) r = absurd r
  from_words (Some (Parent i)) r = absurd r
  from_words (Some (MarkOnNest i)) r = absurd r
  from_words (Some (RelationEnd i)) r = absurd r
  from_words (Some (Clash a b)) r = absurd r
  from_words (Some (CallLine k j)) r = absurd r
  from_words (Some NoMemory) r = absurd r

  -- the words hold of what comes
  by_atom : ((i : ℕ) → i < length sites → IsGood N sites i) → (o : Option ℕ) → least (atom_count N) is_unowned ≡ o → Comes N sites (option_map uncovered o)
  by_atom are None e = record { sites_good = are; covered = λ atom l. is_so (is_owned (cover_in N sites).owned atom) (least-none (atom_count N) is_unowned e atom l) }
  by_atom are (Some atom) e = record { sites_good = are; atom = atom; unowned = least-some (atom_count N) is_unowned atom e; named = refl }

  by_text : (i : ℕ) → i < length sites → ((k : ℕ) → k < i → IsGood N sites k) → is_some (fact i) ≡ true → is_new_name (names_in sites) i (site_at sites i).0 ≡ true
      → (o : Option ℕ) → least (length (site_at sites i).1) (is_unknown i) ≡ o → Comes N sites (first (build_facts N sites))
  by_text i l before some new None e =
      absurd (false≢true (sym (ap is_some (site_good N sites i new (λ j m. is_so _ (least-none (length (site_at sites i).1) (is_unknown i) e j m)))) ∙ some))
  by_text i l before some new (Some j) e =
      let unknown = least-some (length (site_at sites i).1) (is_unknown i) j e in
      subst (Comes N sites) (sym (stops_at i (Owned i j) l before (text_stop N sites i j new unknown))) (record { within = l; before = before; name = new; unknown = unknown })

  by_name : (i : ℕ) → i < length sites → ((k : ℕ) → k < i → IsGood N sites k) → is_some (fact i) ≡ true → (b : Bool) → is_new_name (names_in sites) i (site_at sites i).0 ≡ b → Comes N sites (first (build_facts N sites))
  by_name i l before some false bad = subst (Comes N sites) (sym (stops_at i (SiteName i) l before (name_stop N sites i bad))) (record { within = l; before = before; bad = bad })
  by_name i l before some true new = by_text i l before some new (least (length (site_at sites i).1) (is_unknown i)) refl

  by_site : (o : Option ℕ) → least (length sites) (λ i. is_some (fact i)) ≡ o → Comes N sites (first (build_facts N sites))
  by_site None e =
      let are : (i : ℕ) → i < length sites → IsGood N sites i = λ i l. good i (no_fact (fact i) (least-none (length sites) (λ k. is_some (fact k)) e i l)) in
      subst (Comes N sites) (sym (all_good are)) (by_atom are (least (atom_count N) is_unowned) refl)
  by_site (Some i) e =
      let at = least-some (length sites) (λ k. is_some (fact k)) i e in
      by_name i at.below (λ k b. good k (no_fact (fact k) (at.none_before k b))) at.passes (is_new_name (names_in sites) i (site_at sites i).0) refl

  pub to_words : (f : Fact) → first (build_facts N sites) ≡ f → Comes N sites f
  to_words f e = subst (Comes N sites) e (by_site (least (length sites) (λ i. is_some (fact i))) refl)
