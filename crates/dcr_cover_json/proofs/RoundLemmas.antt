-- The value of an accepted cover is read back: each fact of a cover holds of it, and what it writes is the cover.
use Rattle.std.proofs.Common.{◌≡◌, ℕ, zero, suc, ◌+◌, ◌<◌, inl, inr, Bool, true, false, not, eqb, nat_le, ◌&&◌, ◌||◌, List, [], ◌∷◌, ◌++◌, length, get_or, map, Option, Some, None, is_some, unwrap_or, refl, sym, ap, ◌∙◌, arith}
use Rattle.std.specs.List.{list_all, list_any, range_with_len}
use Rattle.std.specs.Option.{option_map_or}
use Rattle.std.proofs.lemmas.Bool.{cases_lt, eq-eqb, eqb-true, le-leb, ne_eqb, not-true, true≢false}
use Rattle.std.proofs.lemmas.List.{ext_get_or, get_or-map, length-map}
use Rattle.std.proofs.lemmas.List.Elements.{All-map, Contains-get_or}
use Rattle.std.proofs.lemmas.List.Folds.{Any-from_list_any, list_any_at}
use Rattle.std.proofs.lemmas.List.FromFn.{get_or-map-range_with_len, length-map-range_with_len}
use Rattle.std.proofs.lemmas.Simd.{map-map}
use Rattle.serde_json.specs.Data.{Data}
use Rattle.serde_json.specs.Find.{as_str}
use Rattle.serde_json.specs.View.{items_of}
use Rattle.dcr_set.specs.EventSet.{Set, has, numbers}
use Rattle.dcr_set.proofs.NumbersLemmas.{numbers-below, member_from_numbers, numbers_from_member}
use Rattle.dcr_set.proofs.SetLemmas.{has-those, length-those, same_set}
use Rattle.dcr_graph.specs.Names.{is_name, number_of}
use Rattle.dcr_graph.proofs.BoolLemmas.{or_false}
use Rattle.dcr_nest.specs.Nest.{Nest, IsNested, names_of, parents_of}
use Rattle.dcr_nest.specs.Tree.{Parents, AreEarlier, parent_of, is_at_or_below, is_parent, atoms}
use Rattle.dcr_nest.specs.declared.node.Node.{Node}
use Rattle.dcr_nest.proofs.AtomLemmas.{atoms-within, atoms-ascend, picked-passes}
use Rattle.dcr_nest.proofs.TreeLemmas.{meets_at_top, meets_once, parent_within}
use Rattle.dcr_proj.specs.CoverValue.{Owners, is_owned, owners}
use Rattle.dcr_format.specs.Facts.{first, unless}
use Rattle.dcr_format.specs.Members.{listed}
use Rattle.dcr_format.specs.declared.stop.CaseStop.TheVariants.{Limit, Shape, Uncovered}
use Rattle.dcr_format.specs.declared.stop.LimitKind.TheVariants as kind
use Rattle.dcr_format.specs.declared.stop.Part.TheVariants as part
use Rattle.dcr_format.proofs.FactLemmas.{append_past, below_none, each_none, facts_none, first_past}
use Rattle.dcr_format.proofs.MemberLemmas.{listed-items_of}
use Rattle.dcr_graph_json.specs.Build.{atom_names, is_new_name}
use Rattle.dcr_graph_json.specs.Text.{name_value}
use Rattle.dcr_graph_json.proofs.RoundLemmas.{by_numbers, map-ext, numbered}
use Rattle.dcr_cover_json.specs.Accepted.{IsAcceptedCover, cover_facts}
use Rattle.dcr_cover_json.specs.Build.{build_facts, site_fact}
use Rattle.dcr_cover_json.specs.Limits.{limit_facts}
use Rattle.dcr_cover_json.specs.Shape.{is_site, shape_facts, sites_in, values_in}
use Rattle.dcr_cover_json.specs.Sites.{Site, atom_count, cover_in, means, names_in, node_named, node_of, owned_at, set_meant, site_at, site_in}
use Rattle.dcr_cover_json.specs.Text.{cover_value, site_value, site_value_at, site_values}
use Rattle.dcr_cover_json.proofs.FactLemmas.{past_sites, site_good}

-- ---- atoms

-- what is nobody's parent has only itself below it
not_its_parent : (parents : Parents) (x p y : ℕ) → parent_of parents x ≡ Some p → is_parent parents y ≡ false → eqb p y ≡ false
not_its_parent parents x p y told nobody = at (eqb p y) refl
  where
    at : (b : Bool) → eqb p y ≡ b → eqb p y ≡ false
    at false e = e
    at true e =
        let found = list_any_at (λ parent. option_map_or (λ q. eqb q y) parent false) parents x None (parent_within parents x p told) (ap (λ parent. option_map_or (λ q. eqb q y) parent false) told ∙ e) in
        absurd (true≢false (sym found ∙ nobody))

below_atom : (parents : Parents) (y : ℕ) → AreEarlier parents → is_parent parents y ≡ false → (n x : ℕ) → x < n → is_at_or_below parents x y ≡ eqb x y
below_atom parents y earlier nobody zero x few = absurd (omega arith)
below_atom parents y earlier nobody (suc n) x few = at (parent_of parents x) refl (below_atom parents y earlier nobody n)
  where
    at : (parent : Option ℕ) → parent_of parents x ≡ parent → ((p : ℕ) → p < n → is_at_or_below parents p y ≡ eqb p y) → is_at_or_below parents x y ≡ eqb x y
    at None told before = meets_at_top parents (λ z. eqb z y) (length parents) x told
    at (Some p) told before =
        let less : p < x = earlier x p told in
        meets_once parents (λ z. eqb z y) earlier (length parents) x refl
        ∙ ap (λ parent. eqb x y || option_map_or (λ q. is_at_or_below parents q y) parent false) told
        ∙ ap (λ b. eqb x y || b) (before p (omega arith) ∙ not_its_parent parents x p y told nobody)
        ∙ or_false (eqb x y)

no_parent : (parents : Parents) (e : ℕ) → e < length (atoms parents) → is_parent parents (get_or (atoms parents) e 0) ≡ false
unfolding atoms
no_parent parents e within = not-true (is_parent parents _) (picked-passes (λ x. not (is_parent parents x)) (length parents) e 0 within).1

-- atoms of one node are one
same_atom : (parents : Parents) (a b : ℕ) → a < length (atoms parents) → b < length (atoms parents) → eqb (get_or (atoms parents) a 0) (get_or (atoms parents) b 0) ≡ eqb a b
same_atom parents a b l m =
    let x = get_or (atoms parents) a 0 in let y = get_or (atoms parents) b 0 in
    elim (cases_lt a b) [
      | inl less ↦ (let below = atoms-ascend parents a b 0 less m in ne_eqb x y (λ e. omega arith) ∙ sym (ne_eqb a b (λ e. omega arith)))
      | inr not_less ↦ elim (cases_lt b a) [
        | inl more ↦ (let below = atoms-ascend parents b a 0 more l in ne_eqb x y (λ e. omega arith) ∙ sym (ne_eqb a b (λ e. omega arith)))
        | inr not_more ↦ (let same : a ≡ b = omega arith in eq-eqb x y (ap (λ k. get_or (atoms parents) k 0) same) ∙ sym (eq-eqb a b same))
      ]
    ]

-- ---- a set by the tests of its numbers

same_truth : (a b : Bool) → (a ≡ true → b ≡ true) → (b ≡ true → a ≡ true) → a ≡ b
same_truth true b to from = sym (to refl)
same_truth false true to from = from refl
same_truth false false to from = refl

any_number : (s : Set) (p : ℕ → Bool) (atom : ℕ) → ((e : ℕ) → e < length s → p e ≡ eqb atom e) → list_any p (numbers s) ≡ has s atom
any_number s p atom is = same_truth (list_any p (numbers s)) (has s atom) there found
  where
    there : list_any p (numbers s) ≡ true → has s atom ≡ true
    there told =
        let some = Any-from_list_any p (numbers s) told in
        let e = get_or (numbers s) some.0 some.1 in
        let below = numbers-below s some.0 some.1 some.2 in
        let same : atom ≡ e = eqb-true atom e (sym (is e below) ∙ ap p some.3 ∙ some.4) in
        ap (has s) same ∙ member_from_numbers s e (Contains-get_or (numbers s) some.0 some.1 some.2)

    found : has s atom ≡ true → list_any p (numbers s) ≡ true
    found told =
        let at = numbers_from_member s atom told in
        let below = numbers-below s at.0 atom at.1 in
        list_any_at p (numbers s) at.0 atom at.1 (is (get_or (numbers s) at.0 atom) below ∙ eq-eqb atom (get_or (numbers s) at.0 atom) (sym at.2))

-- ---- what the value of a cover writes

abbrev text_of : Data → List ℕ
text_of text = unwrap_or (as_str text) []

abbrev named_by : List (List ℕ) → ℕ → List ℕ
named_by atoms e = get_or atoms e []

texts_back : (atoms : List (List ℕ)) (es : List ℕ) → map text_of (listed (items_of (map (name_value atoms) es))) ≡ map (named_by atoms) es
texts_back atoms es = ap (map text_of) (listed-items_of (map (name_value atoms) es)) ∙ map-map text_of (name_value atoms) es

all_texts : (atoms : List (List ℕ)) (es : List ℕ) → list_all (λ text. is_some (as_str text)) (map (name_value atoms) es) ≡ true
all_texts atoms [] = refl
all_texts atoms (e ∷ es) = all_texts atoms es

site_shaped : (atoms : List (List ℕ)) (name : List ℕ) (owned : Set) → is_site (site_value atoms name owned) ≡ true
site_shaped atoms name owned = ap (list_all (λ text. is_some (as_str text))) (listed-items_of (map (name_value atoms) (numbers owned))) ∙ all_texts atoms (numbers owned)

site_back : (atoms : List (List ℕ)) (name : List ℕ) (owned : Set) → site_in (site_value atoms name owned) ≡ (name, map (named_by atoms) (numbers owned))
site_back atoms name owned = ap (λ texts. (name, texts)) (texts_back atoms (numbers owned))

pub values_back : (atoms : List (List ℕ)) (C : Owners) → values_in (Some (cover_value atoms C)) ≡ site_values atoms C
unfolding cover_value
values_back atoms C = listed-items_of (site_values atoms C)

-- ---- the sites of an accepted cover

module _ (N : Nest) (nested : IsNested N) (C : Owners) (ok : IsAcceptedCover N C) where
  abbrev names : List (List ℕ)
  names = atom_names N

  abbrev owned_by : ℕ → Set
  owned_by i = get_or C.owned i []

  abbrev site_of : ℕ → Site
  site_of i = (get_or C.names i [], map (named_by names) (numbers (owned_by i)))

  abbrev sites : List Site
  sites = map site_of (range_with_len 0 (length C.names))

  abbrev value : Option Data
  value = Some (cover_value names C)

  sites_back : sites_in value ≡ sites
  sites_back =
      ap (map site_in) (values_back names C) ∙ map-map site_in (site_value_at names C) (range_with_len 0 (length C.names))
      ∙ map-ext (λ i. site_in (site_value_at names C i)) site_of (λ i. site_back names (get_or C.names i []) (owned_by i)) (range_with_len 0 (length C.names))

  many : length sites ≡ length C.names
  many = length-map-range_with_len site_of 0 (length C.names)

  site_is : (i : ℕ) → i < length C.names → site_at sites i ≡ site_of i
  site_is i l = get_or-map-range_with_len site_of 0 (length C.names) i i ([], []) l (omega arith)

  same_names : names_in sites ≡ C.names
  same_names = map-map (λ (site : Site). site.0) site_of (range_with_len 0 (length C.names)) ∙ by_numbers C.names []

  room : (i : ℕ) → i < length C.names → length (owned_by i) ≡ atom_count N
  room i l = ok.rooms i [] (let as_many = ok.is_cover.as_many in omega arith)

  -- the name of an atom names its node
  node_told : (e : ℕ) → e < atom_count N → node_named N (named_by names e) ≡ Some (node_of N e)
  node_told e l =
      let within = atoms-within (parents_of N.nodes) e 0 l in
      ap (node_named N) (get_or-map (λ x. get_or (names_of N.nodes) x []) (atoms (parents_of N.nodes)) e 0 [] l)
      ∙ numbered (names_of N.nodes) (node_of N e) nested.distinct (omega (arith, length-map N.nodes (λ (node : Node). node.parent), length-map N.nodes (λ (node : Node). node.name)))

  means_atom : (atom e : ℕ) → atom < atom_count N → e < atom_count N → means N (named_by names e) atom ≡ eqb atom e
  means_atom atom e l m =
      let parents = parents_of N.nodes in
      ap (λ o. option_map_or (is_at_or_below parents (node_of N atom)) o false) (node_told e m)
      ∙ below_atom parents (node_of N e) nested.earlier (no_parent parents e m) (node_of N atom + 1) (node_of N atom) (omega arith)
      ∙ same_atom parents atom e l m

  set_back : (i : ℕ) → i < length C.names → set_meant N (site_of i).1 ≡ owned_by i
  set_back i l =
      let es = numbers (owned_by i) in
      let fits = room i l in
      same_set (set_meant N (site_of i).1) (owned_by i) (length-those (atom_count N) _ ∙ sym fits) (λ atom below.
      let within : atom < atom_count N = (let size = length-those (atom_count N) (λ a. list_any (λ text. means N text a) (site_of i).1) in omega arith) in
      has-those (atom_count N) (λ a. list_any (λ text. means N text a) (site_of i).1) atom within
      ∙ any-map (λ text. means N text atom) (named_by names) es
      ∙ any_number (owned_by i) (λ e. means N (named_by names e) atom) atom (λ e few. means_atom atom e within (omega arith)))
    where
      any-map : {A B : Type 0} (p : B → Bool) (f : A → B) (xs : List A) → list_any p (map f xs) ≡ list_any (λ x. p (f x)) xs
      any-map p f [] = refl
      any-map p f (x ∷ xs) = ap (λ b. p (f x) || b) (any-map p f xs)

  cover_of_sites : cover_in N sites ≡ C
  unfolding cover_in
  cover_of_sites =
      let f : ℕ → Set = λ i. set_meant N (site_of i).1 in
      let sets : map (λ (site : Site). set_meant N site.1) sites ≡ C.owned =
      map-map (λ (site : Site). set_meant N site.1) site_of (range_with_len 0 (length C.names))
      ∙ ext_get_or [] (map f (range_with_len 0 (length C.names))) C.owned (length-map-range_with_len f 0 (length C.names) ∙ sym ok.is_cover.as_many) (λ i l.
      let within : i < length C.names = (let size = length-map-range_with_len f 0 (length C.names) in omega arith) in
      get_or-map-range_with_len f 0 (length C.names) i i [] within (omega arith) ∙ set_back i within) in
      ap (λ ns. owners ns (map (λ (site : Site). set_meant N site.1) sites)) same_names ∙ ap (owners C.names) sets

  pub cover_back : cover_in N (sites_in value) ≡ C
  cover_back = ap (cover_in N) sites_back ∙ cover_of_sites

  -- ---- its facts

  shape_holds : first (shape_facts value) ≡ None
  unfolding shape_facts cover_value
  shape_holds =
      first_past _ [] (each_none is_site (Shape part.Site) (listed (items_of (site_values names C))) (λ k d l.
      let all = All-map (λ v. is_site v ≡ true) (site_value_at names C) (range_with_len 0 (length C.names)) (λ j e m. let i = get_or (range_with_len 0 (length C.names)) j e in site_shaped names (get_or C.names i []) (get_or C.owned i [])) in
      let same = listed-items_of (site_values names C) in
      ap (λ (vs : List Data). is_site (get_or vs k d)) same ∙ all k d (omega (arith, ap (λ (vs : List Data). length vs) same))))

  limit_holds : first (limit_facts sites) ≡ None
  unfolding limit_facts
  limit_holds =
      let some : nat_le 1 (length sites) ≡ true = le-leb 1 (length sites) (let as_many = many in let least = ok.is_cover.some_site in omega arith) in
      let few : nat_le (length sites) 64 ≡ true = le-leb (length sites) 64 (let as_many = many in let most = ok.is_cover.most_sites in omega arith) in
      ap (λ b. first (unless (b && nat_le (length sites) 64) (Limit kind.Sites (length sites)) ∷ [])) some
      ∙ ap (λ b. first (unless b (Limit kind.Sites (length sites)) ∷ [])) few

  good_site : (i : ℕ) → i < length sites → site_fact N sites i ≡ None
  good_site i l =
      let within : i < length C.names = (let as_many = many in omega arith) in
      let name : (site_at sites i).0 ≡ get_or C.names i [] = ap (λ (s : Site). s.0) (site_is i within) in
      let found : number_of (names_in sites) (site_at sites i).0 ≡ Some i = ap (λ ns. number_of ns (site_at sites i).0) same_names ∙ ap (number_of C.names) name ∙ numbered C.names i ok.is_cover.distinct within in
      let new : is_new_name (names_in sites) i (site_at sites i).0 ≡ true =
      ap (λ o. option_map_or (λ k. eqb k i) o false && is_name (site_at sites i).0) found
      ∙ ap (λ b. b && is_name (site_at sites i).0) (eq-eqb i i refl) ∙ (ap is_name name ∙ ok.names i [] within) in
      site_good N sites i new (λ j m.
      let es = numbers (owned_by i) in
      let below : j < length es = (let size : length (site_at sites i).1 ≡ length es = ap (λ (s : Site). length s.1) (site_is i within) ∙ length-map es (named_by names) in omega arith) in
      let text : owned_at (site_at sites i) j ≡ named_by names (get_or es j 0) = ap (λ (s : Site). owned_at s j) (site_is i within) ∙ get_or-map (named_by names) es j 0 [] below in
      let atom = numbers-below (owned_by i) j 0 below in
      let fits = room i within in
      ap (λ t. is_some (node_named N t)) text ∙ ap is_some (node_told (get_or es j 0) (omega arith)))

  build_holds : first (build_facts N sites) ≡ None
  build_holds =
      let some = ok.is_cover.some_site in
      let as_many = ok.is_cover.as_many in
      let size = ok.rooms 0 [] (omega arith) in
      past_sites N sites (facts_none (site_fact N sites) (length sites) good_site)
      ∙ below_none (atom_count N) (is_owned (cover_in N sites).owned) (λ atom. Uncovered (get_or names atom [])) (λ atom l. ap (λ (D : Owners). is_owned D.owned atom) cover_of_sites ∙ ok.is_cover.covered atom (omega arith))

  pub all_hold : first (cover_facts N value) ≡ None
  all_hold =
      append_past (shape_facts value) (limit_facts (sites_in value) ++ build_facts N (sites_in value)) shape_holds
      ∙ append_past (limit_facts (sites_in value)) (build_facts N (sites_in value)) (ap (λ ss. first (limit_facts ss)) sites_back ∙ limit_holds)
      ∙ (ap (λ ss. first (build_facts N ss)) sites_back ∙ build_holds)
