use Rattle.std.proofs.Common.{◌≡◌, ℕ, ◌||◌, ap, sym, subst, ◌∙◌, length, vec_len, Option, None, IfErr, OnOk}
use Rattle.dcr_graph.specs.Pairs.{is_listed, rules_listed, first_clash, TellsClash}
use Rattle.dcr_graph.specs.GraphValue.{rules_of}
use Rattle.dcr_graph.proofs.GraphLemmas.{same_clash}
use Rattle.dcr_graph.proofs.graph.Graph.new.Goals as goal
use Rattle.dcr_graph.proofs.graph.Graph.new.Goals.{After-without_clash}

-- the clash of the graph is that of the pairs
clash : (c : After-without_clash) → first_clash (rules_of c.relate_all.new.self) ≡ first_clash (rules_listed (vec_len c.args.names) c.args.pairs.items)
clash c =
    sym (same_clash (rules_listed (length c.args.names.items) c.args.pairs.items) (rules_of c.relate_all.new.self)
    (sym (ap (λ names. length names) (c.relate_all.ensures.names ∙ c.in_ok-graph.ensures.names)))
    (λ kind a b. sym (
    c.relate_all.ensures.related kind a b
    ∙ ap (λ t. t || is_listed c.deref.result.now kind a b) (c.in_ok-graph.ensures.related kind a b)
    ∙ ap (λ pairs. is_listed pairs kind a b) c.deref.ensures.value)))
    ∙ sym (ap (λ n. first_clash (rules_listed n c.args.pairs.items)) c.args.names.ok.0)

pub returns-clause-clash : goal.returns-clause-clash
returns-clause-clash c =
    let P : Option (ℕ × ℕ) → Type 0 = λ least. IfErr c.without_clash.result (TellsClash least) in
    subst P (clash (goal.at.returns-clause-clash c).After-without_clash) c.without_clash.ensures.clash

pub returns-clause-no_clash : goal.returns-clause-no_clash
returns-clause-no_clash c =
    let P : Option (ℕ × ℕ) → Type 0 = λ least. OnOk c.without_clash.result (least ≡ None) in
    subst P (clash (goal.at.returns-clause-no_clash c).After-without_clash) c.without_clash.ensures.no_clash
