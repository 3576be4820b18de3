use Rattle.std.proofs.Common.{◌≡◌, ◌<◌, [], length, codes, get_or, Option, Some, None, option_map, refl, sym, ap, ◌∙◌, arith}
use Rattle.std.proofs.lemmas.List.{get_or-map}
use Rattle.serde_json.specs.Data.{boolean, string, object}
use Rattle.serde_json.specs.View.{members_view}
use Rattle.serde_json.proofs.Views.{view-Object}
use Rattle.dcr_nest.specs.Nest.{names_of, parents_of}
use Rattle.dcr_nest.specs.Tree.{atom_number, parent_of}
use Rattle.dcr_nest.specs.declared.node.Node.{Node}
use Rattle.dcr_format.specs.Objects.{with_entry}
use Rattle.dcr_graph_json.specs.Text.{marks_of, name_value, no_node}
use Rattle.dcr_graph_json.specs.declared.text.Marks.{Marks}
use Rattle.dcr_graph_json.proofs.NodeLemmas.{other_default}
use Rattle.dcr_graph_json.proofs.TextLemmas.{event_put}
use Rattle.dcr_graph_json.proofs.text.event_value.Goals as goal

mapped_twice : {X Y Z : Type 0} (g : Y → Z) (f : X → Y) (o : Option X) → option_map (λ x. g (f x)) o ≡ option_map g (option_map f o)
mapped_twice g f None = refl
mapped_twice g f (Some x) = refl

pub parent_name-parent-requires : goal.parent_name-parent-requires
parent_name-parent-requires c = λ p is.
    let N = c.args.nested.now in
    let x = c.args.x in
    let node = c.index-nodes-from.result in
    let within : x < length N.nodes = c.requires in
    let here : node ≡ get_or N.nodes x node = c.index-nodes-from.is ∙ ap (λ i. get_or c.nodes.result.now i node) c.from.ensures ∙ ap (λ ns. get_or ns x node) c.nodes.ensures.nodes in
    let told : parent_of (parents_of N.nodes) x ≡ Some p = get_or-map (λ (n : Node). n.parent) N.nodes x node None within ∙ ap (λ (n : Node). n.parent) (sym here) ∙ is in
    let before : p < x = c.nodes.ensures.nested.earlier x p told in
    omega arith

pub returns : goal.returns
returns c =
    let N = c.args.nested.now in
    let x = c.args.x in
    let names = names_of N.nodes in
    let node = c.index-nodes-from.result in
    let marks = marks_of (option_map (λ m. m.now) c.args.opening) (atom_number (parents_of N.nodes) x) in
    let here : node ≡ get_or N.nodes x node = c.index-nodes-from.is ∙ ap (λ i. get_or c.nodes.result.now i node) c.from.ensures ∙ ap (λ ns. get_or ns x node) c.nodes.ensures.nodes in
    let same : node ≡ get_or N.nodes x no_node = here ∙ other_default N.nodes x node no_node c.requires in
    let m0 = members_view c.new-members.result.entries in
    let m1 = members_view c.put_mark.new.members.entries in
    let m2 = members_view c.put_mark-2.new.members.entries in
    let m3 = members_view c.put_text.new.members.entries in
    let m4 = members_view c.put_text-2.new.members.entries in
    let m5 = members_view c.put_text-3.new.members.entries in
    view-Object c.put_mark-3.new.members
    ∙ ap object (
    event_put names (get_or N.nodes x no_node) marks m0 m1 m2 m3 m4 m5 (members_view c.put_mark-3.new.members.entries) (ap members_view c.new-members.ensures.empty)
    (c.in_ok-put_mark.ensures ∙ ap (λ (m : Marks). with_entry (codes "executed") (option_map boolean m.executed) m0) c.marks_written-marks.ensures)
    (c.in_ok-put_mark-2.ensures ∙ ap (λ (m : Marks). with_entry (codes "included") (option_map boolean m.included) m1) c.marks_written-marks.ensures)
    (c.in_ok-put_text.ensures ∙ ap (λ t. with_entry (codes "label") (Some (string t)) m2) (c.text.ensures.text ∙ ap (λ (n : Node). n.label) same))
    (c.in_ok-put_text-2.ensures ∙ ap (λ t. with_entry (codes "name") (Some (string t)) m3) (c.text-2.ensures.text ∙ ap (λ (n : Node). n.name) same))
    (c.in_ok-put_text-3.ensures ∙ ap (λ o. with_entry (codes "parent") o m4)
    (mapped_twice string (λ t. t.now) c.parent_name-parent.result ∙ ap (option_map string) c.parent_name-parent.ensures ∙ sym (mapped_twice string (λ p. get_or names p []) node.parent) ∙ ap (λ (n : Node). option_map (name_value names) n.parent) same))
    (c.in_ok-put_mark-3.ensures ∙ ap (λ (m : Marks). with_entry (codes "pending") (option_map boolean m.pending) m5) c.marks_written-marks.ensures))
