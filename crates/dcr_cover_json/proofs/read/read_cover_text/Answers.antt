use Rattle.std.proofs.Common.{◌≡◌, ◌≢◌, ℕ, List, Some, Option, option_map, sym, ap, subst, ◌∙◌}
use Rattle.std.specs.Prelude.{IfSome}
use Rattle.serde_json.specs.View.{view}
use Rattle.dcr_nest.specs.Nest.{names_of}
use Rattle.dcr_nest.specs.declared.node.Node.{Node}
use Rattle.dcr_proj.specs.CoverValue.{Owners}
use Rattle.dcr_format.specs.Texts.{AreAllNames}
use Rattle.dcr_graph_json.proofs.ReadLemmas.{told_no, told_yes}
use Rattle.dcr_cover_json.specs.Accepted.{IsAcceptedCover}
use Rattle.dcr_cover_json.specs.Shape.{sites_in}
use Rattle.dcr_cover_json.specs.Sites.{cover_in}
use Rattle.dcr_cover_json.specs.Text.{cover_text}
use Rattle.dcr_cover_json.proofs.ReadLemmas.{none_json, none_long, none_text, none_value}
use Rattle.dcr_cover_json.proofs.read.read_cover_text.Goals as goal
use Rattle.dcr_cover_json.proofs.read.read_cover_text.Goals.{After-see_names}

named : (c : After-see_names) → AreAllNames (names_of c.args.nested.now.nodes)
named c = subst (λ (nodes : List Node). AreAllNames (names_of nodes)) c.nodes.ensures.nodes c.see_names.ensures

pub returns-then-bytes-gt-MAX_BYTES-clause-found : goal.returns-then-bytes-gt-MAX_BYTES-clause-found
returns-then-bytes-gt-MAX_BYTES-clause-found c =
    none_long c.args.nested.now c.nodes.ensures.nested (named (goal.at.returns-then-bytes-gt-MAX_BYTES-clause-found c).After-see_names) c.args.bytes.now c.if-bytes-gt-MAX_BYTES.true

pub returns-in_default-clause-found : goal.returns-in_default-clause-found
returns-in_default-clause-found c =
    none_json c.args.nested.now c.nodes.ensures.nested (named (goal.at.returns-in_default-clause-found c).After-see_names) c.args.bytes.now (ap (option_map view) (sym c.in_default.is) ∙ c.in_ok-value.ensures.json)

pub returns-in_default-2-clause-found : goal.returns-in_default-2-clause-found
returns-in_default-2-clause-found c =
    none_value c.args.nested.now c.nodes.ensures.nested (named (goal.at.returns-in_default-2-clause-found c).After-see_names) c.args.bytes.now (view c.in-Some.value) (ap (option_map view) (sym c.in-Some.is) ∙ c.in_ok-value.ensures.json)
    (c.in_ok-cover.ensures.fails c.in_default-2.is)

pub returns-then-not-branch-clause-found : goal.returns-then-not-branch-clause-found
returns-then-not-branch-clause-found c =
    let N = c.args.nested.now in
    let C = c.in-Some-2.cover in
    let text = λ (atoms : List (List ℕ)). cover_text atoms C in
    let P : Option Owners → Type 0 = λ found. IfSome found (λ D. D ≡ cover_in N (sites_in (Some (view c.in-Some.value)))) in
    let differ = told_no (c.args.bytes.now ≡ text c.args.graph.now.names) (c.args.bytes.now ≢ text c.args.graph.now.names) c.in_ok-is_cover_text.field-0 c.in_ok-is_cover_text.ensures c.if-not-branch.true in
    none_text N c.nodes.ensures.nested (named (goal.at.returns-then-not-branch-clause-found c).After-see_names) c.args.bytes.now (view c.in-Some.value) C (ap (option_map view) (sym c.in-Some.is) ∙ c.in_ok-value.ensures.json)
    (subst P c.in-Some-2.is c.in_ok-cover.ensures.cover) (λ same. differ (same ∙ ap text (sym c.requires.names)))

pub returns-clause-found : goal.returns-clause-found
returns-clause-found c =
    let C = c.in-Some-2.cover in
    let text = λ (atoms : List (List ℕ)). cover_text atoms C in
    let P : Option Owners → Type 0 = λ found. IfSome found (λ D. IsAcceptedCover c.args.nested.now D) in
    let same = told_yes (c.args.bytes.now ≡ text c.args.graph.now.names) (c.args.bytes.now ≢ text c.args.graph.now.names) c.in_ok-is_cover_text.field-0 c.in_ok-is_cover_text.ensures c.if-not-branch.false in
    (subst P c.in-Some-2.is c.in_ok-cover.ensures.accepted, same ∙ ap text c.requires.names)
