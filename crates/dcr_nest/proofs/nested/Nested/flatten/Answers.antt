use Rattle.std.proofs.Common.{◌≡◌, ℕ, ◌<◌, List, [], length, get_or, map, None, IfErr, OnOk, ap, sym, subst, ◌∙◌, arith}
use Rattle.std.specs.List.{All, range_with_len}
use Rattle.std.proofs.lemmas.List.{length-map}
use Rattle.std.proofs.lemmas.List.Elements.{All-same, All-map}
use Rattle.std.proofs.lemmas.Result.{IfOk-weaker}
use Rattle.dcr_set.specs.EventSet.{Set}
use Rattle.dcr_graph.specs.GraphValue.{Flat, flat, rules_of}
use Rattle.dcr_graph.specs.Names.{AreDistinct}
use Rattle.dcr_graph.specs.Pairs.{Pair, first_clash, TellsClash}
use Rattle.dcr_graph.specs.Rules.{Rules}
use Rattle.dcr_nest.specs.FlatRelation.{flat_relation, of_atoms, related_rows, IsFlattening}
use Rattle.dcr_nest.specs.Nest.{names_of, labels_of, parents_of}
use Rattle.dcr_nest.specs.Tree.{Parents, atoms}
use Rattle.dcr_nest.specs.declared.node.Node.{Node}
use Rattle.dcr_nest.proofs.AtomLemmas.{atoms-within}
use Rattle.dcr_nest.proofs.FlatLemmas.{flat_rules, length-of_atoms, length-related, distinct_atoms}
use Rattle.dcr_nest.proofs.nested.Nested.flatten.Goals as goal
use Rattle.dcr_nest.proofs.nested.Nested.flatten.Goals.{In_ok-tree, In_ok-names}

-- the nodes of the fields are those that contracts see
nodes : (c : In_ok-names) → c.self.inside.nodes.items ≡ c.args.self.now.nodes
nodes c = ap (λ N. N.nodes) c.self.view_is

tree : (c : In_ok-names) → c.in_ok-tree.tree ≡ parents_of c.args.self.now.nodes
tree c = c.in_ok-tree.ensures ∙ ap parents_of (c.deref.ensures.value ∙ nodes c)

-- the atoms are nodes
inside : (c : In_ok-tree) (xs : List ℕ) (all : List Node) → xs ≡ atoms c.in_ok-tree.tree → all ≡ c.self.inside.nodes.items → All (λ x. x < length all) xs
inside c xs all these same =
    let parents = c.in_ok-tree.tree in
    let many : length parents ≡ length all = ap (λ (ps : Parents). length ps) (c.in_ok-tree.ensures ∙ ap parents_of (c.deref.ensures.value ∙ sym same)) ∙ length-map all (λ (node : Node). node.parent) in
    All-same (λ x. x < length all) xs (atoms parents) these (λ k d within. let below = atoms-within parents k d within in omega arith)

pub names-requires : goal.names-requires
names-requires c = inside (goal.at.names-requires c).In_ok-tree c.atoms.result.now c.deref-2.result.now c.atoms.ensures.atoms c.deref-2.ensures.value

pub labels-requires : goal.labels-requires
labels-requires c = inside (goal.at.labels-requires c).In_ok-tree c.atoms-2.result.now c.deref-3.result.now c.atoms-2.ensures.atoms c.deref-3.ensures.value

names : (c : In_ok-names) → c.in_ok-names.names ≡ of_atoms (parents_of c.args.self.now.nodes) (names_of c.args.self.now.nodes)
names c =
    c.in_ok-names.ensures ∙ c.in_ok-texts.ensures
    ∙ ap (λ (xs : List ℕ). map (λ x. get_or (names_of c.deref-2.result.now) x []) xs) (c.atoms.ensures.atoms ∙ ap atoms (tree c))
    ∙ ap (λ (all : List Node). of_atoms (parents_of c.args.self.now.nodes) (names_of all)) (c.deref-2.ensures.value ∙ nodes c)

labels : (c : In_ok-names) → c.in_ok-labels.labels.items ≡ of_atoms (parents_of c.args.self.now.nodes) (labels_of c.args.self.now.nodes)
labels c =
    c.in_ok-labels.ensures
    ∙ ap (λ (xs : List ℕ). map (λ x. get_or (labels_of c.deref-3.result.now) x []) xs) (c.atoms-2.ensures.atoms ∙ ap atoms (tree c))
    ∙ ap (λ (all : List Node). of_atoms (parents_of c.args.self.now.nodes) (labels_of all)) (c.deref-3.ensures.value ∙ nodes c)

tables : (c : In_ok-names) → c.in_ok-tables.tables.items ≡ map (related_rows (parents_of c.args.self.now.nodes) c.args.self.now.relations) (range_with_len 0 6)
tables c =
    c.in_ok-tables.ensures
    ∙ ap (λ (parents : Parents). map (related_rows parents c.deref-4.result.now) (range_with_len 0 6)) (tree c)
    ∙ ap (λ (relations : List Pair). map (related_rows (parents_of c.args.self.now.nodes) relations) (range_with_len 0 6)) (c.deref-4.ensures.value ∙ ap (λ N. N.relations) c.self.view_is)

many_names : (c : In_ok-names) → length c.in_ok-names.names ≡ length (atoms (parents_of c.args.self.now.nodes))
many_names c = ap (λ (texts : List (List ℕ)). length texts) (names c) ∙ length-of_atoms (parents_of c.args.self.now.nodes) (names_of c.args.self.now.nodes)

pub of_tables-requires-clause-distinct : goal.of_tables-requires-clause-distinct
of_tables-requires-clause-distinct c =
    let all = c.args.self.now.nodes in
    let P : List Node → Type 0 = λ ns. AreDistinct (names_of ns) in
    subst AreDistinct (sym (names (goal.at.of_tables-requires-clause-distinct c).In_ok-names))
    (distinct_atoms (parents_of all) (names_of all) (length-map all (λ (node : Node). node.parent) ∙ sym (length-map all (λ (node : Node). node.name)))
    (subst P (nodes (goal.at.of_tables-requires-clause-distinct c).In_ok-names) c.self.invariant.distinct))

pub of_tables-requires-clause-as_many_rows : goal.of_tables-requires-clause-as_many_rows
of_tables-requires-clause-as_many_rows c =
    let t = (goal.at.of_tables-requires-clause-as_many_rows c).In_ok-names in
    let N = c.args.self.now in
    let many = many_names t in
    let Fits : List Set → Type 0 = λ table. length table ≡ length c.in_ok-names.names in
    All-same Fits c.in_ok-tables.tables.items (map (related_rows (parents_of N.nodes) N.relations) (range_with_len 0 6)) (tables t)
    (All-map Fits (related_rows (parents_of N.nodes) N.relations) (range_with_len 0 6) (λ k d _.
    length-related (parents_of N.nodes) N.relations (get_or (range_with_len 0 6) k d) ∙ sym many))

rules : (c : In_ok-names) → rules_of (flat c.in_ok-names.names c.in_ok-labels.labels.items c.in_ok-tables.tables.items) ≡ flat_relation c.args.self.now
rules c = flat_rules c.args.self.now c.in_ok-names.names c.in_ok-labels.labels.items c.in_ok-tables.tables.items (many_names c) (tables c)

pub returns-clause-flat : goal.returns-clause-flat
returns-clause-flat c =
    let t = (goal.at.returns-clause-flat c).In_ok-names in
    IfOk-weaker c.of_tables.result _ _ (λ graph made.
    let P : Flat → Type 0 = IsFlattening c.args.self.now in
    subst P (sym made) (record { names = names t; labels = labels t; related = rules t })) c.of_tables.ensures.made

pub returns-clause-no_clash : goal.returns-clause-no_clash
returns-clause-no_clash c =
    let P : Rules → Type 0 = λ G. OnOk c.of_tables.result (first_clash G ≡ None) in
    subst P (rules (goal.at.returns-clause-no_clash c).In_ok-names) c.of_tables.ensures.no_clash

pub returns-clause-clash : goal.returns-clause-clash
returns-clause-clash c =
    let P : Rules → Type 0 = λ G. IfErr c.of_tables.result (TellsClash (first_clash G)) in
    subst P (rules (goal.at.returns-clause-clash c).In_ok-names) c.of_tables.ensures.clash
