use Rattle.std.proofs.Common.{◌≡◌, ◌≢◌, ◌≤◌, true, List, ℕ, Some, None, IsUtf8, refl, length, sym, ap, subst, ◌∙◌, arith, rules}
use Rattle.std.proofs.lemmas.List.{length-map}
use Rattle.std.proofs.lemmas.List.Elements.{All-map}
use Rattle.serde_json.specs.View.{view}
use Rattle.dcr_graph.specs.Pairs.{Pair}
use Rattle.dcr_nest.specs.Nest.{Nest, nest, labels_of, parents_of, IsNested}
use Rattle.dcr_nest.specs.Tree.{AreEarlier, atoms}
use Rattle.dcr_nest.specs.declared.node.Node.{Node}
use Rattle.dcr_format.specs.declared.stop.CaseStop.TheVariants.{NoMemory}
use Rattle.std.specs.List.{All}
use Rattle.dcr_format.specs.Texts.{AreAllNames}
use Rattle.dcr_format.proofs.NameLemmas.{names_utf8}
use Rattle.dcr_graph_json.specs.Accepted.{IsAcceptedGraph}
use Rattle.dcr_graph_json.specs.Build.{clash_fact, nest_in, node_in, nodes_in, pairs_in, opening_in, opening_with}
use Rattle.dcr_graph_json.specs.Limits.{has_short_label}
use Rattle.dcr_graph_json.specs.Seen.{written}
use Rattle.dcr_graph_json.specs.Shape.{is_relation}
use Rattle.dcr_graph_json.specs.Written.{names_in}
use Rattle.dcr_graph_json.proofs.BuildLemmas.{of_views, names_stop, parents_stop, marks_stop, ends_stop, clash_last, same_ends, same_nest}
use Rattle.dcr_graph_json.proofs.NodeLemmas.{as_many_atoms, earlier_parents, is_nested, kept, labels_short, names_named, node_names}
use Rattle.dcr_graph_json.proofs.FlatLemmas.{unclashed}
use Rattle.dcr_graph_json.proofs.written.GraphText.build.Goals as goal

pub index_names-requires : goal.index_names-requires
index_names-requires c = let most = (kept (written c.args.self.now) c.requires).nodes in omega (arith, length-map c.args.self.now.events.now view)

pub read_nodes-requires-clause-short : goal.read_nodes-requires-clause-short
read_nodes-requires-clause-short c = of_views (λ d. has_short_label d ≡ true) c.args.self.now.events.now (kept (written c.args.self.now) c.requires).labels

pub read_opening-requires-clause-most : goal.read_opening-requires-clause-most
read_opening-requires-clause-most c =
    let w = written c.args.self.now in
    let P : List Node → Type 0 = λ nodes. length nodes ≤ 2048 in
    let most = (kept w c.requires).nodes in
    subst P (sym (c.deref-2.ensures.value ∙ c.in_ok-nodes.ensures.nodes)) (omega (arith, length-map w.events (node_in (names_in w.events))))

pub read_opening-requires-clause-earlier : goal.read_opening-requires-clause-earlier
read_opening-requires-clause-earlier c =
    let w = written c.args.self.now in
    let P : List Node → Type 0 = λ nodes. AreEarlier (parents_of nodes) in
    subst P (sym (c.deref-2.ensures.value ∙ c.in_ok-nodes.ensures.nodes)) (earlier_parents w.events c.in_ok-nodes.ensures.fact)

pub read_opening-requires-clause-most_atoms : goal.read_opening-requires-clause-most_atoms
read_opening-requires-clause-most_atoms c =
    let w = written c.args.self.now in
    let P : List Node → Type 0 = λ nodes. length (atoms (parents_of nodes)) ≤ 1024 in
    let most = (kept w c.requires).atoms in
    subst P (sym (c.deref-2.ensures.value ∙ c.in_ok-nodes.ensures.nodes)) (omega (arith, as_many_atoms w.events c.in_ok-names.ensures.fact))

pub read_opening-requires-clause-events : goal.read_opening-requires-clause-events
read_opening-requires-clause-events c =
    let w = written c.args.self.now in
    let same = ap (λ (nodes : List Node). length nodes) (c.deref-2.ensures.value ∙ c.in_ok-nodes.ensures.nodes) in
    omega (arith, length-map c.args.self.now.events.now view, length-map w.events (node_in (names_in w.events)))

pub new-nested-requires : goal.new-nested-requires
unfolding nest_in
new-nested-requires c =
    let w = written c.args.self.now in
    let relations = c.args.self.now.relations.now in
    let named = c.in_ok-index.ensures.index in
    let ends = same_ends w c.in_ok-index.index None named c.in_ok-pairs.ensures.fact in
    let kinds = All-map (λ d. is_relation w.version d ≡ true) view relations c.args.self.now.kinds in
    let P : List Node → Type 0 = λ nodes. IsNested (nest w.version nodes c.in_ok-pairs.pairs.items) in
    let Q : List Pair → Type 0 = λ pairs. IsNested (nest w.version (nodes_in w.events) pairs) in
    subst P (sym c.in_ok-nodes.ensures.nodes) (subst Q (sym (c.in_ok-pairs.ensures.pairs ∙ ap (λ names. pairs_in names w.relations) named))
    (is_nested w c.requires kinds c.in_ok-names.ensures.fact c.in_ok-nodes.ensures.fact ends))

pub returns-in_err-names-clause-facts : goal.returns-in_err-names-clause-facts
returns-in_err-names-clause-facts c =
    let w = written c.args.self.now in
    let stopped = λ (memory : c.in_err-names.field-0.0 ≢ NoMemory). names_stop w c.in_err-names.field-0.0 (c.in_err-names.ensures.fact memory) in search rules

pub returns-in_err-nodes-clause-facts : goal.returns-in_err-nodes-clause-facts
returns-in_err-nodes-clause-facts c =
    let w = written c.args.self.now in
    let stopped = λ (memory : c.in_err-nodes.field-0.0 ≢ NoMemory). parents_stop w c.in_ok-names.ensures.fact c.in_err-nodes.field-0.0 (c.in_err-nodes.ensures.fact memory) in search rules

pub returns-in_err-try_marks-clause-facts : goal.returns-in_err-try_marks-clause-facts
returns-in_err-try_marks-clause-facts c =
    let w = written c.args.self.now in
    let stopped = λ (memory : c.in_err-try_marks.field-0.0 ≢ NoMemory). marks_stop w c.in_ok-names.ensures.fact c.in_ok-nodes.ensures.fact c.in_err-try_marks.field-0.0 (sym c.in_err-try_marks.ensures) in search rules

pub returns-in_err-pairs-clause-facts : goal.returns-in_err-pairs-clause-facts
returns-in_err-pairs-clause-facts c =
    let w = written c.args.self.now in
    let stopped = λ (memory : c.in_err-pairs.field-0.0 ≢ NoMemory). ends_stop w c.in_ok-names.ensures.fact c.in_ok-nodes.ensures.fact (sym c.in_ok-try_marks.ensures) c.in_err-pairs.field-0.0
    (same_ends w c.in_ok-index.index (Some c.in_err-pairs.field-0.0) c.in_ok-index.ensures.index (c.in_err-pairs.ensures.fact memory)) in search rules

pub returns-in_err-graph-clause-facts : goal.returns-in_err-graph-clause-facts
returns-in_err-graph-clause-facts c =
    let w = written c.args.self.now in
    let stopped = λ (memory : c.in_err-graph.field-0.0 ≢ NoMemory). clash_last w c.in_ok-names.ensures.fact c.in_ok-nodes.ensures.fact (sym c.in_ok-try_marks.ensures) (same_ends w c.in_ok-index.index None c.in_ok-index.ensures.index c.in_ok-pairs.ensures.fact) (Some c.in_err-graph.field-0.0)
    (ap clash_fact (sym (same_nest w c.new-nested.result c.in_ok-nodes.nodes.items c.in_ok-pairs.pairs.items c.in_ok-index.index c.new-nested.ensures c.in_ok-nodes.ensures.nodes c.in_ok-pairs.ensures.pairs c.in_ok-index.ensures.index)) ∙ c.in_err-graph.ensures.fact memory) in search rules

pub returns-clause-facts : goal.returns-clause-facts
returns-clause-facts c =
    let w = written c.args.self.now in
    clash_last w c.in_ok-names.ensures.fact c.in_ok-nodes.ensures.fact (sym c.in_ok-try_marks.ensures) (same_ends w c.in_ok-index.index None c.in_ok-index.ensures.index c.in_ok-pairs.ensures.fact) None (ap clash_fact (sym (same_nest w c.new-nested.result c.in_ok-nodes.nodes.items c.in_ok-pairs.pairs.items c.in_ok-index.index c.new-nested.ensures c.in_ok-nodes.ensures.nodes c.in_ok-pairs.ensures.pairs c.in_ok-index.ensures.index)) ∙ c.in_ok-graph.ensures.fact)

pub read_nodes-requires-clause-texts : goal.read_nodes-requires-clause-texts
read_nodes-requires-clause-texts c =
    let w = written c.args.self.now in
    let P : List (List ℕ) → Type 0 = All IsUtf8 in
    subst P (sym c.in_ok-names.ensures.names) (names_utf8 (names_in w.events) (names_named w.events c.in_ok-names.ensures.fact))

pub returns-clause-accepted : goal.returns-clause-accepted
unfolding nest_in
returns-clause-accepted c =
    let w = written c.args.self.now in
    let N = c.new-nested.result in
    let nodes = c.in_ok-nodes.ensures.nodes in
    let ends = same_ends w c.in_ok-index.index None c.in_ok-index.ensures.index c.in_ok-pairs.ensures.fact in
    let kinds = All-map (λ d. is_relation w.version d ≡ true) view c.args.self.now.relations.now c.args.self.now.kinds in
    let same : N ≡ nest_in w = same_nest w N c.in_ok-nodes.nodes.items c.in_ok-pairs.pairs.items c.in_ok-index.index c.new-nested.ensures nodes c.in_ok-pairs.ensures.pairs c.in_ok-index.ensures.index in
    let P : Nest → Type 0 = IsAcceptedGraph w.version in
    subst P (sym same) (record {
      of_version = refl;
      nested = is_nested w c.requires kinds c.in_ok-names.ensures.fact c.in_ok-nodes.ensures.fact ends;
      names = subst AreAllNames (sym (node_names w.events c.in_ok-names.ensures.fact)) (names_named w.events c.in_ok-names.ensures.fact);
      labels = labels_short w.events c.in_ok-names.ensures.fact (kept w c.requires).labels;
      texts = (let Q : List Node → Type 0 = λ ns. All IsUtf8 (labels_of ns) in subst Q nodes c.in_ok-nodes.ensures.texts);
      unclashed = unclashed (nest_in w) (ap clash_fact (sym same) ∙ c.in_ok-graph.ensures.fact);
    })

pub returns-clause-nested : goal.returns-clause-nested
returns-clause-nested c =
    let w = written c.args.self.now in
    same_nest w c.new-nested.result c.in_ok-nodes.nodes.items c.in_ok-pairs.pairs.items c.in_ok-index.index c.new-nested.ensures c.in_ok-nodes.ensures.nodes c.in_ok-pairs.ensures.pairs c.in_ok-index.ensures.index

pub returns-clause-opening : goal.returns-clause-opening
unfolding opening_in
returns-clause-opening c =
    let w = written c.args.self.now in
    c.in_ok-opening.ensures.opening ∙ ap (λ (nodes : List Node). opening_with (atoms (parents_of nodes)) w.events) (c.deref-2.ensures.value ∙ c.in_ok-nodes.ensures.nodes)
