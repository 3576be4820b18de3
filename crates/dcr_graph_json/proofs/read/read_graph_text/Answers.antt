use Rattle.std.proofs.Common.{◌≡◌, ◌≢◌, Some, option_map, sym, ap, ◌∙◌, Option, subst}
use Rattle.std.specs.Prelude.{IfSome}
use Rattle.serde_json.specs.View.{view}
use Rattle.dcr_graph_json.specs.Accepted.{IsAcceptedGraph}
use Rattle.dcr_graph_json.specs.Build.{nest_in}
use Rattle.dcr_graph_json.specs.Shape.{written_in}
use Rattle.dcr_graph_json.specs.declared.written.Flattened.{Flattened}
use Rattle.dcr_graph_json.specs.Text.{graph_text}
use Rattle.dcr_graph_json.proofs.ReadLemmas.{none_json, none_long, none_text, none_value, told_no, told_yes}
use Rattle.dcr_graph_json.proofs.read.read_graph_text.Goals as goal

pub returns-then-bytes-gt-MAX_BYTES-clause-found : goal.returns-then-bytes-gt-MAX_BYTES-clause-found
returns-then-bytes-gt-MAX_BYTES-clause-found c = none_long c.args.version c.args.bytes.now c.if-bytes-gt-MAX_BYTES.true

pub returns-in_default-clause-found : goal.returns-in_default-clause-found
returns-in_default-clause-found c = none_json c.args.version c.args.bytes.now (ap (option_map view) (sym c.in_default.is) ∙ c.in_ok-value.ensures.json)

pub returns-in_default-2-clause-found : goal.returns-in_default-2-clause-found
returns-in_default-2-clause-found c =
    none_value c.args.version c.args.bytes.now (view c.in-Some.value) (ap (option_map view) (sym c.in-Some.is) ∙ c.in_ok-value.ensures.json) (c.in_ok-built.ensures.fails c.in_default-2.is)

pub returns-then-not-branch-clause-found : goal.returns-then-not-branch-clause-found
returns-then-not-branch-clause-found c =
    let M = c.in-Some-2.built.nested in
    none_text c.args.version c.args.bytes.now (view c.in-Some.value) M (ap (option_map view) (sym c.in-Some.is) ∙ c.in_ok-value.ensures.json) (let P : Option Flattened → Type 0 = λ found. IfSome found (λ (built : Flattened). built.nested ≡ nest_in (written_in c.args.version (Some (view c.in-Some.value)))) in subst P c.in-Some-2.is c.in_ok-built.ensures.nested)
    (told_no (c.args.bytes.now ≡ graph_text M) (c.args.bytes.now ≢ graph_text M) c.in_ok-is_graph_text.field-0 c.in_ok-is_graph_text.ensures c.if-not-branch.true)

pub returns-clause-found : goal.returns-clause-found
returns-clause-found c =
    let M = c.in-Some-2.built.nested in
    (let P : Option Flattened → Type 0 = λ found. IfSome found (λ (built : Flattened). IsAcceptedGraph c.args.version built.nested) in subst P c.in-Some-2.is c.in_ok-built.ensures.accepted, told_yes (c.args.bytes.now ≡ graph_text M) (c.args.bytes.now ≢ graph_text M) c.in_ok-is_graph_text.field-0 c.in_ok-is_graph_text.ensures c.if-not-branch.false)
