use Rattle.std.proofs.Common.{◌≡◌, ◌<◌, [], length, get_or, ap, sym, ◌∙◌, below_more, arith}
use Rattle.std.specs.Str.{bytes_eq}
use Rattle.std.proofs.lemmas.List.{length-map}
use Rattle.dcr_set.proofs.LeastLemmas.{least-from, least-none_from}
use Rattle.dcr_graph.specs.Names.{number_of}
use Rattle.dcr_nest.specs.Nest.{names_of}
use Rattle.dcr_nest.specs.declared.node.Node.{Node}
use Rattle.dcr_nest.proofs.MarkLemmas.{read_map}
use Rattle.dcr_nest.proofs.nested.Nested.find.Goals as goal
use Rattle.dcr_nest.proofs.nested.Nested.find.Goals.{After-eq}

-- the name that was compared
here : (c : After-eq) → bytes_eq (get_or (names_of c.self.inside.nodes.items) c.loop-number.number []) c.args.name.now ≡ c.eq.result
here c =
    let nodes = c.self.inside.nodes.items in
    let len = c.self.inside.nodes.ok.0 in
    let end = c.len-number-end.ensures in
    let within : c.from.result < length nodes = omega arith in
    ap (λ t. bytes_eq t c.args.name.now) (
    sym (ap (λ x. get_or (names_of nodes) x []) c.from.ensures)
    ∙ read_map (λ (node : Node). node.name) nodes c.from.result c.index.result.now [] within c.index.ensures
    ∙ sym c.text.ensures.text)
    ∙ sym c.eq.ensures

pub returns-then-eq : goal.returns-then-eq
returns-then-eq c =
    let len = c.self.inside.nodes.ok.0 in
    let end = c.len-number-end.ensures in
    let many = length-map c.self.inside.nodes.items (λ (node : Node). node.name) in
    sym (least-from _ _ c.loop-number.number (record {
      below = omega arith;
      passes = here (goal.at.returns-then-eq c).After-eq ∙ c.if-eq.true;
      none_before = c.loop-number.invariant;
    }))
    ∙ ap (λ N. number_of (names_of N.nodes) c.args.name.now) c.self.view_is

pub loop-number-preserved : goal.loop-number-preserved
loop-number-preserved c = below_more _ _ c.loop-number.invariant (here (goal.at.loop-number-preserved c).After-eq ∙ c.if-eq.false)

pub returns : goal.returns
returns c =
    let len = c.self.inside.nodes.ok.0 in
    let end = c.len-number-end.ensures in
    let many = length-map c.self.inside.nodes.items (λ (node : Node). node.name) in
    sym (least-none_from _ _ (λ k below. c.loop-number.invariant k (omega arith)))
    ∙ ap (λ N. number_of (names_of N.nodes) c.args.name.now) c.self.view_is
