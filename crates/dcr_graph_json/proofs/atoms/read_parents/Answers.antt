use Rattle.std.proofs.Common.{◌≡◌, ◌<◌, ℕ, ◌+◌, Vec, length, Bool, Bor, List, map, take, Option, false, ◌||◌, option_map, sym, ap, ◌∙◌, arith}
use Rattle.std.specs.List.{list_any}
use Rattle.std.specs.Option.{option_map_or}
use Rattle.std.specs.Str.{bytes_eq}
use Rattle.std.specs.declared.alloc.Global.{Global}
use Rattle.std.proofs.lemmas.List.{length_push, length-map}
use Rattle.serde_json.specs.Data.{Data, null}
use Rattle.serde_json.specs.View.{view}
use Rattle.dcr_graph_json.specs.Limits.{is_parent_name}
use Rattle.dcr_graph_json.specs.Written.{parent_in}
use Rattle.dcr_graph_json.proofs.LoopLemmas.{any_more, any_none, any_push, value_at}
use Rattle.dcr_graph_json.proofs.atoms.read_parents.Goals as goal
use Rattle.dcr_graph_json.proofs.atoms.read_parents.Goals.{in-Some+in_ok-push, in_default}

pub loop-event-preserved : goal.loop-event-preserved
loop-event-preserved c =
    let before = c.loop-event.invariant in
    elim c.match-parent.branch [
      | in-Some+in_ok-push w ↦
          record {
            most = (omega (arith, before.most, ap (λ (v : Vec (Bor (List ℕ)) Global). length v.items) w.parents-is, ap length w.in_ok-push.ensures.items, length_push c.loop-event.parents.items w.as_bytes.result));
            parents = λ name.
                ap (list_any (λ (parent : Bor (List ℕ)). bytes_eq name parent.now)) (ap (λ (v : Vec (Bor (List ℕ)) Global). v.items) w.parents-is ∙ w.in_ok-push.ensures.items)
                ∙ (any_push (λ (parent : Bor (List ℕ)). bytes_eq name parent.now) c.loop-event.parents.items w.as_bytes.result
                ∙ (ap (λ b. b || bytes_eq name w.as_bytes.result.now) (before.parents name)
                ∙ (ap (λ b. is_parent_name (take i events) name || b) (ap (bytes_eq name) w.as_bytes.ensures.value ∙ sym (ap (same name) w.in-Some.is) ∙ told name) ∙ sym (more name))));
          }
      | in_default w ↦
          record {
            most = (omega (arith, before.most, ap (λ (v : Vec (Bor (List ℕ)) Global). length v.items) w.parents-is));
            parents = λ name.
                ap (λ (v : Vec (Bor (List ℕ)) Global). list_any (λ (parent : Bor (List ℕ)). bytes_eq name parent.now) v.items) w.parents-is
                ∙ (before.parents name ∙ (any_none (is_parent_name (take i events) name)
                ∙ (ap (λ b. is_parent_name (take i events) name || b) (sym (ap (same name) w.in_default.is) ∙ told name) ∙ sym (more name))));
          }
    ]
  where
    i : ℕ
    i = c.loop-event.event-index

    events : List Data
    events = map view c.args.events.now

    same : List ℕ → Option (Bor (List ℕ)) → Bool
    same name o = option_map_or (λ (parent : List ℕ). bytes_eq name parent) (option_map (λ (text : Bor (List ℕ)). text.now) o) false

    told : (name : List ℕ) → same name c.parent.result ≡ option_map_or (λ parent. bytes_eq name parent) (parent_in (view c.event-item.result)) false
    told name = ap (λ (o : Option (List ℕ)). option_map_or (λ parent. bytes_eq name parent) o false) c.parent.ensures

    more : (name : List ℕ) → is_parent_name (take (i + 1) events) name ≡ (is_parent_name (take i events) name || option_map_or (λ parent. bytes_eq name parent) (parent_in (view c.event-item.result)) false)
    more name =
        let test = λ (event : Data). option_map_or (λ parent. bytes_eq name parent) (parent_in event) false in
        let here : i < length events = omega (arith, length-map c.args.events.now view, c.loop-event-test.true) in
        any_more test events i null here ∙ ap (λ d. list_any test (take i events) || test d) (value_at c.args.events.now i c.event-item.result c.loop-event-test.true c.event-item.is)
