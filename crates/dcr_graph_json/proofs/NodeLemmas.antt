-- What is written within the limits and by the facts of a graph is a nested graph: its names, parents, atoms and relations.
use Rattle.std.proofs.Common.{◌≡◌, ℕ, zero, suc, ◌+◌, ◌<◌, ◌≤◌, inl, inr, Bool, true, false, not, eqb, nat_le, nat_lt, ◌||◌, List, [], ◌∷◌, length, get_or, take, map, count_by, Option, Some, None, is_some, option_map, unwrap_or, refl, sym, ap, subst, ◌∙◌, arith}
use Rattle.std.specs.List.{All, list_any}
use Rattle.std.specs.Option.{option_and_then, option_map_or}
use Rattle.std.specs.Str.{bytes_eq}
use Rattle.std.proofs.lemmas.Bool.{and_parts, le-leb, cases_Bool, cases_eq, eq-eqb, eqb-true, ltb-true, ne_eqb}
use Rattle.std.proofs.lemmas.List.{length-map, get_or-map, take_all}
use Rattle.std.proofs.lemmas.List.Elements.{All-map}
use Rattle.std.proofs.lemmas.List.Sums.{count_by_more_yes, count_by_more_no}
use Rattle.std.proofs.lemmas.Option.{get_or_from_slice_get, slice_get-get_or}
use Rattle.std.proofs.lemmas.Simd.{map-map}
use Rattle.std.proofs.lemmas.Slice.Eq.{bytes_eq-Decides}
use Rattle.serde_json.specs.Data.{Data, null}
use Rattle.dcr_set.proofs.LeastLemmas.{least-some}
use Rattle.dcr_graph.specs.Names.{is_label, is_name, number_of, AreDistinct}
use Rattle.dcr_graph.specs.Pairs.{Pair}
use Rattle.dcr_graph.specs.Rules.{same_kind}
use Rattle.dcr_graph.specs.declared.kind.Kind.{Kind}
use Rattle.dcr_graph.specs.declared.kind.Kind.TheVariants.{Cancel}
use Rattle.dcr_nest.specs.Nest.{names_of, labels_of, parents_of, IsNested}
use Rattle.dcr_nest.specs.Tree.{parent_of, AreEarlier, is_parent, atoms}
use Rattle.dcr_nest.specs.declared.node.Node.{Node}
use Rattle.dcr_nest.specs.declared.node.Version.TheVariants.{V1}
use Rattle.dcr_nest.proofs.AtomLemmas.{picked, picked-no, length-picked_yes}
use Rattle.dcr_nest.proofs.TreeLemmas.{parent_within}
use Rattle.dcr_format.specs.Facts.{at_most, first}
use Rattle.dcr_format.specs.declared.limits.TheConstants.{MAX_NODES, MAX_ATOMS, MAX_RELATIONS}
use Rattle.dcr_format.specs.declared.stop.CaseStop.TheVariants.{EventName, Parent, RelationEnd, Limit}
use Rattle.dcr_format.specs.declared.stop.LimitKind.TheVariants as kind
use Rattle.dcr_format.specs.Texts.{AreAllNames}
use Rattle.dcr_format.proofs.NameLemmas.{names_short}
use Rattle.dcr_format.proofs.FactLemmas.{first_none, at_most_holds, each_holds, below_holds}
use Rattle.dcr_graph_json.specs.Written.{Written, Relation, label_in, name_in, parent_in, event_at, names_in, relation_in}
use Rattle.dcr_graph_json.specs.Shape.{is_of_version, is_relation}
use Rattle.dcr_graph_json.specs.Limits.{is_parent_name, atoms_in, label_bytes, has_short_label, labels_fact, limit_facts}
use Rattle.dcr_graph_json.specs.Build.{node_in, nodes_in, pair_of, pair_in, no_pair, nest_in, is_new_name, has_earlier_parent, names_fact, parents_fact, ends_fact}

-- ---- the limits

pub record IsKept (w : Written) : Type 0 where
  pub nodes : length w.events ≤ 2048
  pub atoms : atoms_in w.events ≤ 1024
  pub relations : length w.relations ≤ 4096
  pub labels : All (λ event. has_short_label event ≡ true) w.events

pub kept : (w : Written) → first (limit_facts w) ≡ None → IsKept w
unfolding limit_facts
kept w e =
    let nodes = at_most kind.Nodes MAX_NODES (length w.events) in
    let few_atoms = at_most kind.Atoms MAX_ATOMS (atoms_in w.events) in
    let relations = at_most kind.Relations MAX_RELATIONS (length w.relations) in
    let labels = labels_fact w.events in
    let one = first_none nodes (few_atoms ∷ relations ∷ labels ∷ []) e in
    let two = first_none few_atoms (relations ∷ labels ∷ []) one.1 in
    let three = first_none relations (labels ∷ []) two.1 in
    let four = first_none labels [] three.1 in
    record {
      nodes = at_most_holds kind.Nodes MAX_NODES (length w.events) one.0;
      atoms = at_most_holds kind.Atoms MAX_ATOMS (atoms_in w.events) two.0;
      relations = at_most_holds kind.Relations MAX_RELATIONS (length w.relations) three.0;
      labels = each_holds has_short_label (λ i. Limit kind.Label (label_bytes (event_at w.events i))) w.events four.0;
    }

-- ---- numbers of names

number_is : (o : Option ℕ) (i : ℕ) → option_map_or (λ k. eqb k i) o false ≡ true → o ≡ Some i
number_is None i e = absurd cc
number_is (Some k) i e = ap Some (eqb-true k i e)

pub new_number : (names : List (List ℕ)) (i : ℕ) (name : List ℕ) → is_new_name names i name ≡ true → number_of names name ≡ Some i
new_number names i name e = number_is (number_of names name) i (and_parts (option_map_or (λ k. eqb k i) (number_of names name) false) (is_name name) e).0

-- what has a number is the name there
numbered : (names : List (List ℕ)) (text : List ℕ) (k : ℕ) → number_of names text ≡ Some k → get_or names k [] ≡ text
numbered names text k e = (bytes_eq-Decides (get_or names k []) text).0 (least-some (length names) (λ j. bytes_eq (get_or names j []) text) k e).passes

number_within : (names : List (List ℕ)) (text : List ℕ) (k : ℕ) → number_of names text ≡ Some k → k < length names
number_within names text k e = (least-some (length names) (λ j. bytes_eq (get_or names j []) text) k e).below

-- a parent is event x where its text is the name of x
same_parent : (names : List (List ℕ)) (x : ℕ) (name : List ℕ) → number_of names name ≡ Some x → (parent : Option (List ℕ))
    → option_map_or (λ p. eqb p x) (option_and_then (number_of names) parent) false ≡ option_map_or (λ text. bytes_eq name text) parent false
same_parent names x name h None = refl
same_parent names x name h (Some text) = at (bytes_eq name text) refl
  where
    other : bytes_eq name text ≡ false → (o : Option ℕ) → number_of names text ≡ o → option_map_or (λ p. eqb p x) o false ≡ false
    other differ None e = refl
    other differ (Some k) e = elim (cases_eq k x) [
      | inl same ↦ absurd (
          let one = sym (numbered names name x h) ∙ ap (λ j. get_or names j []) (sym same) ∙ numbered names text k e in
          let bad = sym ((bytes_eq-Decides name text).1 one) ∙ differ in cc)
      | inr not_same ↦ ne_eqb k x not_same
    ]

    at : (b : Bool) → bytes_eq name text ≡ b → option_map_or (λ p. eqb p x) (number_of names text) false ≡ b
    at true is = ap (λ o. option_map_or (λ p. eqb p x) o false) (ap (number_of names) (sym ((bytes_eq-Decides name text).0 is)) ∙ h) ∙ eq-eqb x x refl
    at false is = other is (number_of names text) refl

any-map : {A B : Type 0} (p : B → Bool) (f : A → B) (xs : List A) → list_any p (map f xs) ≡ list_any (λ x. p (f x)) xs
any-map p f [] = refl
any-map p f (x ∷ xs) = ap (λ b. p (f x) || b) (any-map p f xs)

any-ext : {A : Type 0} (p q : A → Bool) → ((x : A) → p x ≡ q x) → (xs : List A) → list_any p xs ≡ list_any q xs
any-ext p q same [] = refl
any-ext p q same (x ∷ xs) = ap (λ b. b || list_any p xs) (same x) ∙ ap (λ b. q x || b) (any-ext p q same xs)

earlier_number : (names : List (List ℕ)) (i : ℕ) (parent : Option (List ℕ)) (p : ℕ) → option_map_or (λ text. option_map_or (λ k. nat_lt k i) (number_of names text) false) parent true ≡ true
    → option_and_then (number_of names) parent ≡ Some p → p < i
earlier_number names i None p e is = absurd cc
earlier_number names i (Some text) p e is = ltb-true p i (sym (ap (λ o. option_map_or (λ k. nat_lt k i) o false) is) ∙ e)

-- ---- the nodes

module _ (events : List Data) (named : names_fact events ≡ None) where
  abbrev names : List (List ℕ)
  names = names_in events

  abbrev nodes : List Node
  nodes = nodes_in events

  abbrev parent_number : Data → Option ℕ
  parent_number event = option_and_then (number_of names) (parent_in event)

  as_many : length names ≡ length events
  as_many = length-map events name_in

  pub name_at : (i : ℕ) → i < length events → get_or names i [] ≡ name_in (event_at events i)
  name_at i l = get_or-map name_in events i null [] l

  number_at : (i : ℕ) → i < length events → number_of names (name_in (event_at events i)) ≡ Some i
  number_at i l = new_number names i (name_in (event_at events i)) (below_holds (length events) (λ k. is_new_name names k (name_in (event_at events k))) EventName named i l)

  pub node_names : names_of nodes ≡ names
  node_names = map-map (λ (node : Node). node.name) (node_in names) events

  pub parents_are : parents_of nodes ≡ map parent_number events
  parents_are = map-map (λ (node : Node). node.parent) (node_in names) events

  pub distinct_names : AreDistinct names
  distinct_names i j before within =
      let l : j < length events = (let many = as_many in omega arith) in
      (least-some (length names) (λ k. bytes_eq (get_or names k []) (get_or names j [])) j (ap (number_of names) (name_at j l) ∙ number_at j l)).none_before i before

  pub parent_by_name : (x : ℕ) → x < length events → is_parent (parents_of nodes) x ≡ is_parent_name events (name_in (event_at events x))
  parent_by_name x l =
      ap (list_any (λ parent. option_map_or (λ p. eqb p x) parent false)) parents_are
      ∙ any-map (λ parent. option_map_or (λ p. eqb p x) parent false) parent_number events
      ∙ any-ext _ _ (λ event. same_parent names x (name_in (event_at events x)) (number_at x l) (parent_in event)) events

  abbrev is_atom : Data → Bool
  is_atom event = not (is_parent_name events (name_in event))

  abbrev is_free : ℕ → Bool
  is_free x = not (is_parent (parents_of nodes) x)

  atoms_counted : (n : ℕ) → n ≤ length events → length (picked is_free n) ≡ count_by is_atom (take n events)
  atoms_counted zero l = refl
  atoms_counted (suc n) l =
      let before = atoms_counted n (omega arith) in
      let here : n < length events = omega arith in
      let same : is_free n ≡ is_atom (event_at events n) = ap not (parent_by_name n here) in
      let next : suc n ≡ n + 1 = omega arith in
      ap (λ k. length (picked is_free k)) next ∙ (elim (cases_Bool (is_free n)) [
        | inl free ↦ (let more = count_by_more_yes is_atom events n null here (sym same ∙ free) in let longer = length-picked_yes is_free n free in omega arith)
        | inr taken ↦ (let more = count_by_more_no is_atom events n null here (sym same ∙ taken) in let longer = ap (λ xs. length xs) (picked-no is_free n taken) in omega arith)
      ] ∙ ap (λ k. count_by is_atom (take k events)) (sym next))

  pub as_many_atoms : length (atoms (parents_of nodes)) ≡ atoms_in events
  unfolding atoms
  as_many_atoms =
      let many : length (parents_of nodes) ≡ length events = ap (λ ps. length ps) parents_are ∙ length-map events parent_number in
      ap (λ n. length (picked is_free n)) many ∙ (atoms_counted (length events) (omega arith) ∙ ap (count_by is_atom) (take_all (length events) events (omega arith)))

pub earlier_parents : (events : List Data) → parents_fact events ≡ None → AreEarlier (parents_of (nodes_in events))
earlier_parents events parents x p is =
    let names = names_in events in
    let number : Data → Option ℕ = λ event. option_and_then (number_of names) (parent_in event) in
    let same = map-map (λ (node : Node). node.parent) (node_in names) events in
    let many : length (parents_of (nodes_in events)) ≡ length events = ap (λ ps. length ps) same ∙ length-map events number in
    let l : x < length events = (let within = parent_within (parents_of (nodes_in events)) x p is in omega arith) in
    let here : parent_of (parents_of (nodes_in events)) x ≡ number (event_at events x) = ap (λ ps. get_or ps x None) same ∙ get_or-map number events x null None l in
    earlier_number names x (parent_in (event_at events x)) p (below_holds (length events) (λ i. has_earlier_parent names i (event_at events i)) Parent parents x l) (sym here ∙ is)

-- ---- the relations

pub record IsPairOf (names : List (List ℕ)) (relation : Relation) (pair : Pair) : Type 0 where
  pub kind : pair.0 ≡ relation.kind
  pub source : pair.1 < length names
  pub target : pair.2 < length names

pair_made : (names : List (List ℕ)) (o : Option Relation) → is_some (option_and_then (pair_of names) o) ≡ true
    → (relation : Relation) × (o ≡ Some relation) × IsPairOf names relation (unwrap_or (option_and_then (pair_of names) o) no_pair)
pair_made names None e = absurd cc
pair_made names (Some relation) e = (relation, refl, at (number_of names relation.source) (number_of names relation.target) refl refl e)
  where
    at : (a b : Option ℕ) → number_of names relation.source ≡ a → number_of names relation.target ≡ b
        → is_some {T = Pair} (option_and_then (λ x. option_map {U = Pair} (λ y. (relation.kind, x, y)) b) a) ≡ true → IsPairOf names relation (unwrap_or (option_and_then (λ x. option_map {U = Pair} (λ y. (relation.kind, x, y)) b) a) no_pair)
    at None b source target h = absurd cc
    at (Some x) None source target h = absurd cc
    at (Some x) (Some y) source target h = record { kind = refl; source = number_within names relation.source x source; target = number_within names relation.target y target }

pub other_default : {A : Type 0} (xs : List A) (i : ℕ) (d e : A) → i < length xs → get_or xs i d ≡ get_or xs i e
other_default xs i d e l = get_or_from_slice_get xs i (get_or xs i e) d (slice_get-get_or xs i e l)

pub pairs_made : (names : List (List ℕ)) (relations : List Data) → ends_fact names relations ≡ None → (i : ℕ) (d : Data) → i < length relations
    → (relation : Relation) × (relation_in (get_or relations i d) ≡ Some relation) × IsPairOf names relation (unwrap_or (pair_in names (get_or relations i d)) no_pair)
pairs_made names relations e i d l =
    let has = below_holds (length relations) (λ k. is_some (pair_in names (get_or relations k null))) RelationEnd e i l in
    pair_made names (relation_in (get_or relations i d)) (ap (λ x. is_some (pair_in names x)) (other_default relations i d null l) ∙ has)

not_cancel : (k : Kind) → is_of_version V1 k ≡ true → same_kind k Cancel ≡ false
not_cancel k e = at (same_kind k Cancel) e
  where
    at : (b : Bool) → not b ≡ true → b ≡ false
    at true h = absurd cc
    at false h = refl

-- ---- the texts

pub names_named : (events : List Data) → names_fact events ≡ None → AreAllNames (names_in events)
names_named events named k d l =
    let many = length-map events name_in in
    let within : k < length events = omega arith in
    let e = below_holds (length events) (λ i. is_new_name (names_in events) i (name_in (event_at events i))) EventName named k within in
    ap is_name (get_or-map name_in events k null d within) ∙ (and_parts (option_map_or (λ j. eqb j k) (number_of (names_in events) (name_in (event_at events k))) false) (is_name (name_in (event_at events k))) e).1

labelled : (name : List ℕ) (label : Option (List ℕ)) → is_name name ≡ true → nat_le (option_map_or length label 0) 200 ≡ true → is_label (unwrap_or label name) ≡ true
labelled name None named short = le-leb (length name) 200 (let few = names_short (name ∷ []) (λ k d l. subst (λ n. is_name n ≡ true) (sym (let first : k ≡ 0 = omega arith in ap (λ j. get_or (name ∷ []) j d) first)) named) 0 in omega arith)
labelled name (Some label) named short = short

pub labels_short : (events : List Data) → names_fact events ≡ None → All (λ event. has_short_label event ≡ true) events → All (λ label. is_label label ≡ true) (labels_of (nodes_in events))
labels_short events named short =
    let P : List (List ℕ) → Type 0 = All (λ label. is_label label ≡ true) in
    subst P (sym (map-map (λ (node : Node). node.label) (node_in (names_in events)) events)) (All-map (λ label. is_label label ≡ true) (λ event. unwrap_or (label_in event) (name_in event)) events (λ k d l.
    let many = length-map events name_in in
    labelled (name_in (get_or events k d)) (label_in (get_or events k d)) (ap is_name (sym (get_or-map name_in events k d [] l)) ∙ names_named events named k [] (omega arith)) (short k d l)))

-- ---- the whole

pub is_nested : (w : Written) → first (limit_facts w) ≡ None → All (λ d. is_relation w.version d ≡ true) w.relations
    → names_fact w.events ≡ None → parents_fact w.events ≡ None → ends_fact (names_in w.events) w.relations ≡ None → IsNested (nest_in w)
unfolding nest_in
is_nested w limits kinds named parents ends =
    let names = names_in w.events in
    let within = kept w limits in
    let few_nodes = within.nodes in
    let few_atoms = within.atoms in
    let few_relations = within.relations in
    let many_nodes = length-map w.events (node_in names) in
    let many_names = length-map w.events name_in in
    let many_atoms = as_many_atoms w.events named in
    let many_pairs = length-map w.relations (λ d. unwrap_or (pair_in names d) no_pair) in
    record {
      most_nodes = omega arith;
      most_atoms = omega arith;
      most_relations = omega arith;
      distinct = subst AreDistinct (sym (node_names w.events named)) (distinct_names w.events named);
      earlier = earlier_parents w.events parents;
      ends = All-map (λ (pair : Pair). (pair.1 < length (nodes_in w.events)) × (pair.2 < length (nodes_in w.events))) (λ d. unwrap_or (pair_in names d) no_pair) w.relations (λ i d l.
          let pair = (pairs_made names w.relations ends i d l).2 in
          let source = pair.source in
          let target = pair.target in (omega arith, omega arith));
      cancels = λ one. All-map (λ (pair : Pair). same_kind pair.0 Cancel ≡ false) (λ d. unwrap_or (pair_in names d) no_pair) w.relations (λ i d l.
          let pair = pairs_made names w.relations ends i d l in
          let version = ap (λ o. option_map_or (λ (relation : Relation). is_of_version w.version relation.kind) o false) (sym pair.1) in
          ap (λ k. same_kind k Cancel) pair.2.kind ∙ not_cancel pair.0.kind (ap (λ v. is_of_version v pair.0.kind) (sym one) ∙ version ∙ kinds i d l));
    }
