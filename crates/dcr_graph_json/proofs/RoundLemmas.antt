-- The value of a nested graph is read back: each fact of a graph holds of it, and what it writes is the graph and its opening.
use Rattle.std.proofs.Common.{◌≡◌, ℕ, suc, ◌<◌, inl, inr, Bool, true, false, not, nat_le, nat_lt, eqb, ◌&&◌, List, [], ◌∷◌, ◌++◌, length, get_or, map, Option, Some, None, is_some, option_map, unwrap_or, refl, sym, ap, subst, ◌∙◌, arith}
use Rattle.std.specs.List.{All, range_with_len, slice_get}
use Rattle.std.specs.Option.{option_and_then, option_map_or}
use Rattle.std.specs.Str.{bytes_eq}
use Rattle.std.proofs.lemmas.Bool.{cases_lt, eq-eqb, lt-ltb}
use Rattle.std.proofs.lemmas.List.{ext_get_or, get_or-map, get_or_past, length-map}
use Rattle.std.proofs.lemmas.List.Elements.{All-map}
use Rattle.std.proofs.lemmas.List.FromFn.{get_or-map-range_with_len, length-map-range_with_len}
use Rattle.std.proofs.lemmas.Option.{get_or_from_slice_get, slice_get_within}
use Rattle.std.proofs.lemmas.Simd.{map-map}
use Rattle.std.proofs.lemmas.Slice.Eq.{bytes_eq-Decides}
use Rattle.serde_json.specs.Data.{Data, null}
use Rattle.serde_json.specs.View.{items_of}
use Rattle.dcr_set.proofs.LeastLemmas.{least-from}
use Rattle.dcr_graph.specs.Names.{is_label, is_name, number_of, AreDistinct}
use Rattle.dcr_graph.specs.Pairs.{Pair, first_clash}
use Rattle.dcr_graph.specs.declared.marking.Marking.{Marking}
use Rattle.dcr_nest.specs.FlatRelation.{flat_relation}
use Rattle.dcr_nest.specs.Nest.{Nest, nest, names_of, labels_of, parents_of, IsNested}
use Rattle.dcr_nest.specs.Tree.{Parents, parent_of, is_parent, atoms, atom_number}
use Rattle.dcr_nest.specs.declared.node.Node.{Node}
use Rattle.dcr_nest.proofs.AtomLemmas.{number-none}
use Rattle.dcr_format.specs.Facts.{first, each}
use Rattle.dcr_format.specs.Texts.{AreAllNames}
use Rattle.dcr_format.specs.declared.limits.TheConstants.{MAX_NODES, MAX_ATOMS, MAX_RELATIONS}
use Rattle.dcr_format.specs.declared.stop.CaseStop.TheVariants.{EventName, Parent, MarkOnNest, RelationEnd, Limit, Shape}
use Rattle.dcr_format.specs.declared.stop.LimitKind.TheVariants as kind
use Rattle.dcr_format.specs.declared.stop.Part.TheVariants as part
use Rattle.dcr_format.proofs.FactLemmas.{append_past, at_most_none, below_none, each_none, first_past}
use Rattle.dcr_format.specs.Members.{listed}
use Rattle.dcr_format.proofs.MemberLemmas.{listed-items_of}
use Rattle.dcr_graph_json.specs.Accepted.{graph_facts}
use Rattle.dcr_graph_json.specs.Build.{build_facts, clash_fact, ends_fact, has_earlier_parent, has_its_marks, is_new_name, marks_fact, names_fact, nest_in, no_pair, node_in, nodes_in, pair_in, pair_of, pairs_in, parents_fact}
use Rattle.dcr_graph_json.specs.Limits.{atoms_in, has_short_label, is_parent_name, label_bytes, limit_facts}
use Rattle.dcr_graph_json.specs.Shape.{is_event, is_relation, shape_facts, written_in}
use Rattle.dcr_graph_json.specs.Text.{event_value_at, event_values, graph_value, marks_of, no_node, relation_value, relation_values}
use Rattle.dcr_graph_json.specs.Written.{Written, event_at, label_in, name_in, names_in, parent_in, writes_mark}
use Rattle.dcr_graph_json.specs.declared.text.Marks.{Marks}
use Rattle.dcr_graph_json.proofs.BuildLemmas.{clash_last}
use Rattle.dcr_graph_json.proofs.NodeLemmas.{as_many_atoms, parent_by_name}
use Rattle.dcr_graph_json.proofs.TextLemmas.{event_shaped, reads_label, reads_name, reads_parent, reads_relation, relation_shaped, writes_none}

-- ---- lists

pub map-ext : {A B : Type 0} (f g : A → B) → ((x : A) → f x ≡ g x) → (xs : List A) → map f xs ≡ map g xs
map-ext f g same [] = refl
map-ext f g same (x ∷ xs) = ap (λ y. y ∷ map f xs) (same x) ∙ ap (λ ys. g x ∷ ys) (map-ext f g same xs)

same_each : {A : Type 0} (f : A → A) (xs : List A) → ((i : ℕ) (x : A) → slice_get xs i ≡ Some x → f x ≡ x) → map f xs ≡ xs
same_each f [] h = refl
same_each f (x ∷ xs) h = ap (λ y. y ∷ map f xs) (h 0 x refl) ∙ ap (λ ys. x ∷ ys) (same_each f xs (λ i y is. h (suc i) y is))

-- a list by the numbers of its elements
pub by_numbers : {A : Type 0} (xs : List A) (d : A) → map (λ i. get_or xs i d) (range_with_len 0 (length xs)) ≡ xs
by_numbers {A = A} xs d =
    let f : ℕ → A = λ i. get_or xs i d in
    ext_get_or d (map f (range_with_len 0 (length xs))) xs (length-map-range_with_len f 0 (length xs)) (λ i l. get_or-map-range_with_len f 0 (length xs) i i d (let long = length-map-range_with_len f 0 (length xs) in omega arith) (omega arith))

-- a name has its place for its number
pub numbered : (names : List (List ℕ)) (p : ℕ) → AreDistinct names → p < length names → number_of names (get_or names p []) ≡ Some p
numbered names p distinct within = least-from (length names) (λ k. bytes_eq (get_or names k []) (get_or names p [])) p (record {
  below = within;
  passes = (bytes_eq-Decides (get_or names p []) (get_or names p [])).1 refl;
  none_before = λ j l. distinct j p l within;
})

abbrev made : List ℕ → Option ℕ → List ℕ → Node
made name parent label = record { name = name; parent = parent; label = label }

no_marks : (opening : Option Marking) (atom : Option ℕ) → atom ≡ None → marks_of opening atom ≡ marks_of None None
no_marks None atom e = refl
no_marks (Some opening) atom e = ap (marks_of (Some opening)) e

module _ (N : Nest) (opening : Option Marking) (nested : IsNested N) (are : AreAllNames (names_of N.nodes)) (labels : All (λ label. is_label label ≡ true) (labels_of N.nodes)) where
  abbrev names : List (List ℕ)
  names = names_of N.nodes

  abbrev parents : Parents
  parents = parents_of N.nodes

  abbrev count : ℕ
  count = length N.nodes

  abbrev node : ℕ → Node
  node x = get_or N.nodes x no_node

  abbrev event : ℕ → Data
  event = event_value_at N opening

  abbrev marks : ℕ → Marks
  marks x = marks_of opening (atom_number parents x)

  abbrev events : List Data
  events = event_values N opening

  abbrev relations : List Data
  relations = relation_values names N.relations

  abbrev w : Written
  w = record { version = N.version; events = events; relations = relations }

  abbrev writes : List Data → List Data → Written
  writes es rs = record { version = N.version; events = es; relations = rs }

  pub written_is : written_in N.version (Some (graph_value N opening)) ≡ w
  unfolding graph_value
  written_is = ap (λ ds. writes ds (listed (items_of relations))) (listed-items_of events) ∙ ap (writes events) (listed-items_of relations)

  many_names : length names ≡ count
  many_names = length-map N.nodes (λ (n : Node). n.name)

  many_events : length events ≡ count
  many_events = length-map-range_with_len event 0 count

  pub at_event : (i : ℕ) → i < count → event_at events i ≡ event i
  at_event i l = get_or-map-range_with_len event 0 count i i null l (omega arith)

  -- ---- what is written

  same_names : names_in events ≡ names
  same_names =
      map-map name_in event (range_with_len 0 count)
      ∙ map-ext (λ x. name_in (event x)) (λ x. (node x).name) (λ x. reads_name names (node x) (marks x)) (range_with_len 0 count)
      ∙ sym (map-map (λ (n : Node). n.name) node (range_with_len 0 count))
      ∙ ap (map (λ (n : Node). n.name)) (by_numbers N.nodes no_node)

  name_at : (i : ℕ) → i < count → name_in (event_at events i) ≡ get_or names i []
  name_at i l = ap name_in (at_event i l) ∙ reads_name names (node i) (marks i) ∙ sym (get_or-map (λ (n : Node). n.name) N.nodes i no_node [] l)

  parent_at : (i : ℕ) → i < count → parent_of parents i ≡ (node i).parent
  parent_at i l = get_or-map (λ (n : Node). n.parent) N.nodes i no_node None l

  parent_small : (x p : ℕ) → (node x).parent ≡ Some p → p < count
  parent_small x p e = elim (cases_lt x count) [
    | inl l ↦ (let before = nested.earlier x p (parent_at x l ∙ e) in omega arith)
    | inr past ↦ absurd (let none = sym (ap (λ (n : Node). n.parent) (get_or_past N.nodes x no_node past)) ∙ e in cc)
  ]

  numbered_at : (p : ℕ) → p < count → number_of names (get_or names p []) ≡ Some p
  numbered_at p l = numbered names p nested.distinct (omega (arith, many_names))

  same_number : (o : Option ℕ) → ((p : ℕ) → o ≡ Some p → p < count) → option_and_then (number_of names) (option_map (λ p. get_or names p []) o) ≡ o
  same_number None small = refl
  same_number (Some p) small = numbered_at p (small p refl)

  same_node : (x : ℕ) → node_in names (event x) ≡ node x
  same_node x =
      ap (λ n. made n (option_and_then (number_of names) (parent_in (event x))) (unwrap_or (label_in (event x)) (name_in (event x)))) (reads_name names (node x) (marks x))
      ∙ ap (λ p. made (node x).name p (unwrap_or (label_in (event x)) (name_in (event x)))) (ap (option_and_then (number_of names)) (reads_parent names (node x) (marks x)) ∙ same_number (node x).parent (parent_small x))
      ∙ ap (λ o. made (node x).name (node x).parent (unwrap_or o (name_in (event x)))) (reads_label names (node x) (marks x))

  pub same_nodes : nodes_in events ≡ N.nodes
  same_nodes =
      ap (λ ns. map (node_in ns) events) same_names
      ∙ map-map (node_in names) event (range_with_len 0 count)
      ∙ map-ext (λ x. node_in names (event x)) node same_node (range_with_len 0 count)
      ∙ by_numbers N.nodes no_node

  abbrev InRange : Pair → Type 0
  InRange pair = (pair.1 < count) × (pair.2 < count)

  in_range : (i : ℕ) (pair : Pair) → slice_get N.relations i ≡ Some pair → InRange pair
  in_range i pair is = subst InRange (get_or_from_slice_get N.relations i pair pair is) (nested.ends i pair (slice_get_within N.relations i pair is))

  read_pair : (pair : Pair) → InRange pair → pair_in names (relation_value names pair) ≡ Some pair
  read_pair pair within =
      ap (option_and_then (pair_of names)) (reads_relation names pair.0 pair.1 pair.2)
      ∙ ap (option_and_then (λ a. option_map (λ b. (pair.0, a, b)) (number_of names (get_or names pair.2 [])))) (numbered_at pair.1 within.0)
      ∙ ap (option_map (λ b. (pair.0, pair.1, b))) (numbered_at pair.2 within.1)

  same_pairs : pairs_in (names_in events) relations ≡ N.relations
  same_pairs =
      ap (λ ns. pairs_in ns relations) same_names
      ∙ map-map (λ d. unwrap_or (pair_in names d) no_pair) (relation_value names) N.relations
      ∙ same_each (λ pair. unwrap_or (pair_in names (relation_value names pair)) no_pair) N.relations (λ i pair is. ap (λ o. unwrap_or o no_pair) (read_pair pair (in_range i pair is)))

  pub same_nest : nest_in w ≡ N
  unfolding nest_in
  same_nest = ap (λ nodes. nest N.version nodes (pairs_in (names_in events) relations)) same_nodes ∙ ap (nest N.version N.nodes) same_pairs

  -- ---- the facts

  pub shape_holds : first (shape_facts N.version (Some (graph_value N opening))) ≡ None
  unfolding shape_facts graph_value
  shape_holds =
      let of_event = each_none is_event (Shape part.Event) events (All-map (λ d. is_event d ≡ true) event (range_with_len 0 count) (λ k d l. let x = get_or (range_with_len 0 count) k d in event_shaped names (node x) (marks x))) in
      let of_relation = each_none (is_relation N.version) (Shape part.Relation) relations (All-map (λ d. is_relation N.version d ≡ true) (relation_value names) N.relations (λ k d l.
      let pair = get_or N.relations k d in relation_shaped N.version names pair.0 pair.1 pair.2 (λ one. nested.cancels one k d l))) in
      ap (λ ds. first (each is_event (Shape part.Event) ds ∷ each (is_relation N.version) (Shape part.Relation) (listed (items_of relations)) ∷ [])) (listed-items_of events)
      ∙ first_past (each is_event (Shape part.Event) events) (each (is_relation N.version) (Shape part.Relation) (listed (items_of relations)) ∷ []) of_event
      ∙ ap (λ ds. first (each (is_relation N.version) (Shape part.Relation) ds ∷ [])) (listed-items_of relations)
      ∙ first_past (each (is_relation N.version) (Shape part.Relation) relations) [] of_relation

  names_hold : names_fact events ≡ None
  names_hold = below_none (length events) (λ i. is_new_name (names_in events) i (name_in (event_at events i))) EventName (λ i l.
      let within : i < count = omega (arith, many_events) in
      let new : is_new_name names i (get_or names i []) ≡ true =
      ap (λ o. option_map_or (λ k. eqb k i) o false && is_name (get_or names i [])) (numbered_at i within)
      ∙ ap (λ b. b && is_name (get_or names i [])) (eq-eqb i i refl) ∙ are i [] (omega (arith, many_names)) in
      ap (λ ns. is_new_name ns i (name_in (event_at events i))) same_names ∙ ap (is_new_name names i) (name_at i within) ∙ new)

  earlier : (i : ℕ) (o : Option ℕ) → ((p : ℕ) → o ≡ Some p → p < i) → i < count
      → option_map_or (λ text. option_map_or (λ k. nat_lt k i) (number_of names text) false) (option_map (λ p. get_or names p []) o) true ≡ true
  earlier i None below l = refl
  earlier i (Some p) below l =
      let before = below p refl in
      ap (λ o. option_map_or (λ k. nat_lt k i) o false) (numbered_at p (omega arith)) ∙ lt-ltb p i before

  parents_hold : parents_fact events ≡ None
  parents_hold = below_none (length events) (λ i. has_earlier_parent (names_in events) i (event_at events i)) Parent (λ i l.
      let within : i < count = omega (arith, many_events) in
      ap (λ ns. has_earlier_parent ns i (event_at events i)) same_names ∙ ap (has_earlier_parent names i) (at_event i within)
      ∙ ap (λ o. option_map_or (λ text. option_map_or (λ k. nat_lt k i) (number_of names text) false) o true) (reads_parent names (node i) (marks i))
      ∙ earlier i (node i).parent (λ p e. nested.earlier i p (parent_at i within ∙ e)) within)

  marks_hold : marks_fact events ≡ None
  marks_hold = below_none (length events) (λ i. has_its_marks events (event_at events i)) MarkOnNest (λ i l.
      let within : i < count = omega (arith, many_events) in
      let parent : is_parent parents i ≡ is_parent_name events (name_in (event_at events i)) = ap (λ nodes. is_parent (parents_of nodes) i) (sym same_nodes) ∙ parent_by_name events names_hold i l in
      ap (λ b. not (b && writes_mark (event_at events i))) (sym parent) ∙ ap (λ d. not (is_parent parents i && writes_mark d)) (at_event i within) ∙ so i (is_parent parents i) refl)
    where
      so : (i : ℕ) (b : Bool) → is_parent parents i ≡ b → not (b && writes_mark (event i)) ≡ true
      so i false e = refl
      so i true e =
          let none = no_marks opening (atom_number parents i) (number-none parents i e) in
          ap not (writes_none names (node i) (marks i) (ap (λ (m : Marks). m.executed) none) (ap (λ (m : Marks). m.pending) none) (ap (λ (m : Marks). m.included) none))

  ends_hold : ends_fact (names_in events) relations ≡ None
  ends_hold = below_none (length relations) (λ i. is_some (pair_in (names_in events) (get_or relations i null))) RelationEnd (λ i l.
      let within : i < length N.relations = omega (arith, length-map N.relations (relation_value names)) in
      let pair = get_or N.relations i no_pair in
      ap (λ ns. is_some (pair_in ns (get_or relations i null))) same_names
      ∙ ap (λ d. is_some (pair_in names d)) (get_or-map (relation_value names) N.relations i no_pair null within)
      ∙ ap is_some (read_pair pair (nested.ends i no_pair within)))

  pub build_holds : first_clash (flat_relation N) ≡ None → first (build_facts w) ≡ None
  build_holds apart = clash_last w names_hold parents_hold marks_hold ends_hold None (ap clash_fact same_nest ∙ ap (option_map _) apart)

  pub limits_hold : first (limit_facts w) ≡ None
  unfolding limit_facts
  limits_hold =
      let most = nested.most_nodes in
      let most_atoms = nested.most_atoms in
      let most_relations = nested.most_relations in
      let many_atoms : length (atoms parents) ≡ atoms_in events = ap (λ nodes. length (atoms (parents_of nodes))) (sym same_nodes) ∙ as_many_atoms events names_hold in
      let labels_short = each_none has_short_label (λ i. Limit kind.Label (label_bytes (event_at events i))) events
      (All-map (λ d. has_short_label d ≡ true) event (range_with_len 0 count) (λ k d l. let x = get_or (range_with_len 0 count) k d in
      ap (λ o. nat_le (option_map_or length o 0) 200) (reads_label names (node x) (marks x)) ∙ label_short x)) in
      first_past _ _ (at_most_none kind.Nodes MAX_NODES (length events) (omega (arith, many_events)))
      ∙ first_past _ _ (at_most_none kind.Atoms MAX_ATOMS (atoms_in events) (omega arith))
      ∙ first_past _ _ (at_most_none kind.Relations MAX_RELATIONS (length relations) (omega (arith, length-map N.relations (relation_value names))))
      ∙ first_past _ _ labels_short
    where
      label_short : (x : ℕ) → nat_le (length (node x).label) 200 ≡ true
      label_short x = elim (cases_lt x count) [
        | inl l ↦ ap is_label (sym (get_or-map (λ (n : Node). n.label) N.nodes x no_node [] l)) ∙ labels x [] (omega (arith, length-map N.nodes (λ (n : Node). n.label)))
        | inr past ↦ ap (λ (n : Node). is_label n.label) (get_or_past N.nodes x no_node past)
      ]

  pub all_hold : first_clash (flat_relation N) ≡ None → first (graph_facts N.version (Some (graph_value N opening))) ≡ None
  all_hold apart =
      let written = written_in N.version (Some (graph_value N opening)) in
      append_past (shape_facts N.version (Some (graph_value N opening))) (limit_facts written ++ build_facts written) shape_holds
      ∙ append_past (limit_facts written) (build_facts written) (ap (λ v. first (limit_facts v)) written_is ∙ limits_hold)
      ∙ (ap (λ v. first (build_facts v)) written_is ∙ build_holds apart)
