-- Where there is no nested graph whose canonical text the bytes are.
use Rattle.std.proofs.Common.{◌≡◌, ◌≢◌, ℕ, zero, suc, ◌<◌, ◌≤◌, inl, inr, Bool, true, false, not, codes, List, [], ◌∷◌, length, get_or, map, Option, Some, None, option_map, Result, Err, IsUtf8, refl, sym, ap, ◌∙◌, subst, arith}
use Rattle.std.specs.Bool.{MatchBool}
use Rattle.std.specs.List.{AllByRecursion, position, range_with_len}
use Rattle.std.specs.Option.{IfSome, option_map_or}
use Rattle.std.proofs.lemmas.Bool.{cases_lt, false≢true, leb-true}
use Rattle.std.proofs.lemmas.List.{get_or_past}
use Rattle.std.proofs.lemmas.List.Elements.{recursion_from_All}
use Rattle.std.proofs.lemmas.List.FromFn.{length-range_with_len}
use Rattle.std.proofs.lemmas.Option.{none-some, same_Some}
use Rattle.json.specs.Print.{quoted}
use Rattle.json.proofs.Printed.Utf8.{IsUtf8-are_ascii}
use Rattle.serde_json.specs.Data.{Data, boolean, string, array, item, no_items, member, no_members}
use Rattle.serde_json.specs.View.{items_of}
use Rattle.serde_json.specs.Written.{compact_text}
use Rattle.dcr_format.specs.SizeLaws.{json_in}
use Rattle.dcr_graph.specs.KindText.{kind_text}
use Rattle.dcr_graph.specs.Pairs.{Pair}
use Rattle.dcr_graph.specs.declared.kind.Kind.{Kind}
use Rattle.dcr_graph.specs.declared.marking.Marking.{Marking}
use Rattle.dcr_graph.specs.declared.kind.Kind.TheVariants.{Condition, Response, Milestone, Include, Exclude, Cancel}
use Rattle.dcr_nest.specs.Nest.{Nest, names_of, labels_of, parents_of}
use Rattle.dcr_nest.specs.Tree.{atom_number}
use Rattle.dcr_nest.specs.declared.node.Node.{Node}
use Rattle.dcr_nest.specs.declared.node.Version.{Version}
use Rattle.dcr_format.specs.Facts.{Fact, first, unless}
use Rattle.dcr_format.specs.Texts.{AreAllNames}
use Rattle.dcr_format.specs.declared.json_value.TheConstants.{MAX_BYTES}
use Rattle.dcr_format.specs.declared.stop.CaseStop.{CaseStop}
use Rattle.dcr_format.specs.declared.stop.CaseStop.TheVariants.{NoMemory, Shape}
use Rattle.dcr_format.specs.declared.stop.Part.TheVariants as part
use Rattle.dcr_format.proofs.EntryLemmas.{bytes_of, entries_short, entries_utf8, of_mapped}
use Rattle.dcr_format.proofs.EscapeLemmas.{quoted_any, quoted_short}
use Rattle.dcr_format.proofs.LengthLemmas.{item_short, items_short, member_short}
use Rattle.dcr_format.proofs.NameLemmas.{names_utf8}
use Rattle.dcr_format.proofs.PlainLemmas.{json_written}
use Rattle.dcr_format.proofs.Utf8Lemmas.{IsUtf8Value, all_utf8, name_utf8, value_utf8}
use Rattle.dcr_graph_json.specs.Accepted.{IsAcceptedGraph, IsGraphIn, graph_facts}
use Rattle.dcr_graph_json.specs.Build.{nest_in}
use Rattle.dcr_graph_json.specs.Shape.{is_event, is_graph, is_relation, shape_facts, written_in}
use Rattle.dcr_graph_json.specs.Text.{event_entries, event_value, event_value_at, event_values, graph_text, graph_value, marks_of, name_value, no_node, relation_value, relation_values}
use Rattle.dcr_graph_json.specs.declared.text.Marks.{Marks}
use Rattle.dcr_graph_json.proofs.RoundLemmas.{all_hold, same_nest, written_is}
use Rattle.dcr_graph_json.proofs.ValueLemmas.{plain_graph}

-- what stands at a number of a mapped list, also past its end
map_at : {A B : Type 0} (f : A → B) (xs : List A) (x : ℕ) (d : A) → get_or (map f xs) x (f d) ≡ f (get_or xs x d)
map_at f [] x d = refl
map_at f (y ∷ ys) zero d = refl
map_at f (y ∷ ys) (suc x) d = map_at f ys x d

-- ---- the bytes of the text

kind_utf8 : (kind : Kind) → IsUtf8 (kind_text kind)
kind_utf8 Condition = IsUtf8-are_ascii (codes "condition") refl
kind_utf8 Response = IsUtf8-are_ascii (codes "response") refl
kind_utf8 Milestone = IsUtf8-are_ascii (codes "milestone") refl
kind_utf8 Include = IsUtf8-are_ascii (codes "include") refl
kind_utf8 Exclude = IsUtf8-are_ascii (codes "exclude") refl
kind_utf8 Cancel = IsUtf8-are_ascii (codes "cancel") refl

event_utf8 : (names : List (List ℕ)) → AllByRecursion IsUtf8 names → (node : Node) → IsUtf8 node.name → IsUtf8 node.label → (marks : Marks) → IsUtf8Value (event_value names node marks)
event_utf8 names all node named labelled marks =
    let bools = of_mapped IsUtf8Value boolean (λ mark. tt) in
    let texts = of_mapped IsUtf8Value (name_value names) (λ p. name_utf8 names all p) in
    entries_utf8 (event_entries names node marks)
    (IsUtf8-are_ascii (codes "executed") refl, (IsUtf8-are_ascii (codes "included") refl, (IsUtf8-are_ascii (codes "label") refl, (IsUtf8-are_ascii (codes "name") refl, (IsUtf8-are_ascii (codes "parent") refl, (IsUtf8-are_ascii (codes "pending") refl, tt))))))
    (bools marks.executed, (bools marks.included, (labelled, (named, (texts node.parent, (bools marks.pending, tt))))))

kind_short : (kind : Kind) → length (kind_text kind) ≤ 9
kind_short Condition = omega arith
kind_short Response = omega arith
kind_short Milestone = omega arith
kind_short Include = omega arith
kind_short Exclude = omega arith
kind_short Cancel = omega arith

relation_short : (names : List (List ℕ)) → AreAllNames names → (relation : Pair) → length (compact_text (relation_value names relation)) ≤ 193
relation_short names are relation =
    let source = name_value names relation.1 in let target = name_value names relation.2 in
    let first = item_short false (string (kind_text relation.0)) (item source (item target no_items)) in
    let second = item_short true source (item target no_items) in
    let third = item_short true target no_items in
    let kind = quoted_short (kind_text relation.0) in let few_kind = kind_short relation.0 in
    let a = quoted_any names are relation.1 in
    let b = quoted_any names are relation.2 in omega arith

parent_short : (names : List (List ℕ)) → AreAllNames names → (o : Option ℕ) → bytes_of (option_map (name_value names) o) ≤ 66
parent_short names are None = omega arith
parent_short names are (Some p) = quoted_any names are p

mark_short : (o : Option Bool) → bytes_of (option_map boolean o) ≤ 5
mark_short None = omega arith
mark_short (Some true) = omega arith
mark_short (Some false) = omega arith

module _ (version : Version) (N : Nest) (ok : IsAcceptedGraph version N) where
  abbrev names : List (List ℕ)
  names = names_of N.nodes

  abbrev node : ℕ → Node
  node x = get_or N.nodes x no_node

  name_is : (x : ℕ) → get_or names x [] ≡ (node x).name
  name_is x = map_at (λ (n : Node). n.name) N.nodes x no_node

  label_is : (x : ℕ) → get_or (labels_of N.nodes) x [] ≡ (node x).label
  label_is x = map_at (λ (n : Node). n.label) N.nodes x no_node

  pub graph_utf8 : (opening : Option Marking) → IsUtf8Value (graph_value N opening)
  unfolding graph_value
  graph_utf8 opening =
      let named = recursion_from_All IsUtf8 names (names_utf8 names ok.names) in
      let labelled = recursion_from_All IsUtf8 (labels_of N.nodes) ok.texts in (
        IsUtf8-are_ascii (codes "events") refl,
        all_utf8 (event_value_at N opening) (λ x. event_utf8 names named (node x) (subst IsUtf8 (name_is x) (name_utf8 names named x)) (subst IsUtf8 (label_is x) (name_utf8 (labels_of N.nodes) labelled x)) (marks_of opening (atom_number (parents_of N.nodes) x))) (range_with_len 0 (length N.nodes)),
        (
          IsUtf8-are_ascii (codes "relations") refl,
          all_utf8 (relation_value names) (λ (r : Pair). (kind_utf8 r.0, (name_utf8 names named r.1, (name_utf8 names named r.2, tt)))) N.relations,
          tt,
        ),
      )

  pub text_json : json_in (graph_text N) ≡ Some (graph_value N None)
  unfolding graph_text
  text_json = json_written 3 (graph_value N None) (compact_text (graph_value N None)) (plain_graph N None) (omega arith) refl (value_utf8 (graph_value N None) (graph_utf8 None))

  label_few : (x : ℕ) → length (node x).label ≤ 200
  label_few x = subst (λ (l : List ℕ). length l ≤ 200) (label_is x) (elim (cases_lt x (length (labels_of N.nodes))) [
    | inl within ↦ leb-true (length (get_or (labels_of N.nodes) x [])) 200 (ok.labels x [] within)
    | inr past ↦ (let none : length (get_or (labels_of N.nodes) x []) ≡ 0 = ap (λ (label : List ℕ). length label) (get_or_past (labels_of N.nodes) x [] past) in omega arith)
  ])

  event_short : (opening : Option Marking) (x : ℕ) → length (compact_text (event_value_at N opening x)) ≤ 1700
  event_short opening x =
      let marks = marks_of opening (atom_number (parents_of N.nodes) x) in
      let whole = entries_short (event_entries names (node x) marks) false in
      let executed = mark_short marks.executed in
      let included = mark_short marks.included in
      let pending = mark_short marks.pending in
      let label = quoted_short (node x).label in
      let few_label = label_few x in
      let name = subst (λ (n : List ℕ). length (quoted n) ≤ 66) (name_is x) (quoted_any names ok.names x) in
      let parent = parent_short names ok.names (node x).parent in omega arith

  pub graph_short : (opening : Option Marking) → length (compact_text (graph_value N opening)) ≤ MAX_BYTES
  unfolding graph_value
  graph_short opening =
      let events = array (items_of (event_values N opening)) in
      let relations = array (items_of (relation_values names N.relations)) in
      let first = member_short false (codes "events") events (member (codes "relations") relations no_members) in
      let second = member_short true (codes "relations") relations no_members in
      let nodes = items_short 1700 (event_value_at N opening) (range_with_len 0 (length N.nodes)) (λ i x is. event_short opening x) false in
      let many = length-range_with_len 0 (length N.nodes) in
      let pairs = items_short 193 (relation_value names) N.relations (λ i pair is. relation_short names ok.names pair) false in
      let few = ok.nested.most_nodes in let few_pairs = ok.nested.most_relations in omega arith

  pub text_short : length (graph_text N) ≤ MAX_BYTES
  unfolding graph_text
  text_short = graph_short None

  pub facts_hold : first (graph_facts version (Some (graph_value N None))) ≡ None
  facts_hold = ap (λ v. first (graph_facts v (Some (graph_value N None)))) (sym ok.of_version) ∙ all_hold N None ok.nested ok.names ok.labels ok.unclashed

  pub reads_as : nest_in (written_in version (Some (graph_value N None))) ≡ N
  reads_as =
      ap (λ v. nest_in (written_in v (Some (graph_value N None)))) (sym ok.of_version)
      ∙ ap nest_in (written_is N None ok.nested ok.names ok.labels) ∙ same_nest N None ok.nested ok.names ok.labels

-- ---- what a reader finds

pub none_long : (version : Version) (bytes : List ℕ) → MAX_BYTES < length bytes → IsGraphIn version bytes None
none_long version bytes long = λ N ok same. (let short = text_short version N ok in let many : length bytes ≡ length (graph_text N) = ap (λ (text : List ℕ). length text) same in omega arith)

pub none_json : (version : Version) (bytes : List ℕ) → None ≡ json_in bytes → IsGraphIn version bytes None
none_json version bytes none = λ N ok same. none-some (graph_value N None) (none ∙ ap json_in same ∙ text_json version N ok)

value_is : (version : Version) (bytes : List ℕ) (d : Data) → Some d ≡ json_in bytes → (N : Nest) → IsAcceptedGraph version N → bytes ≡ graph_text N → d ≡ graph_value N None
value_is version bytes d json N ok same = same_Some _ _ (json ∙ ap json_in same ∙ text_json version N ok)

pub none_value : (version : Version) (bytes : List ℕ) (d : Data) → Some d ≡ json_in bytes → first (graph_facts version (Some d)) ≢ None → IsGraphIn version bytes None
none_value version bytes d json fails = λ N ok same. fails (ap (λ e. first (graph_facts version (Some e))) (value_is version bytes d json N ok same) ∙ facts_hold version N ok)

pub none_text : (version : Version) (bytes : List ℕ) (d : Data) (M : Nest) → Some d ≡ json_in bytes → M ≡ nest_in (written_in version (Some d)) → bytes ≢ graph_text M → IsGraphIn version bytes None
none_text version bytes d M json is differ = λ N ok same.
    let one : M ≡ N = is ∙ ap (λ e. nest_in (written_in version (Some e))) (value_is version bytes d json N ok same) ∙ reads_as version N ok in
    differ (same ∙ ap graph_text (sym one))

-- what a test told
pub told_no : (P Q : Type 0) (b : Bool) → MatchBool b P Q → b ≡ false → Q
told_no P Q true told e = absurd (false≢true (sym e))
told_no P Q false told e = told

pub told_yes : (P Q : Type 0) (b : Bool) → MatchBool b P Q → b ≡ true → P
told_yes P Q true told e = told
told_yes P Q false told e = absurd (false≢true e)

-- no shape is refused for want of memory
shape_wants_none : (version : Version) (d : Option Data) (stop : CaseStop) → first (shape_facts version d) ≡ Some stop → stop ≢ NoMemory
unfolding shape_facts
shape_wants_none version d stop e =
    let w = written_in version d in
    at (option_map_or is_graph d false) (position (λ x. not (is_event x)) w.events) (position (λ x. not (is_relation version x)) w.relations) e
  where
    at : (b : Bool) (o p : Option ℕ) → first (unless b (Shape part.Graph 0) ∷ option_map (Shape part.Event) o ∷ option_map (Shape part.Relation) p ∷ []) ≡ Some stop → stop ≢ NoMemory
    at false o p e = λ same. cc
    at true (Some i) p e = λ same. cc
    at true None (Some i) e = λ same. cc
    at true None None e = absurd cc

-- a step that tells each refusal of a shape has found none where it wants memory
pub is_shaped : {A : Type 0} (version : Version) (d : Option Data) (result : Result A CaseStop) (P : CaseStop → Type 0) → result ≡ Err NoMemory → IfSome (first (shape_facts version d)) (λ stop. result ≡ Err stop)
    → IfSome (first (shape_facts version d)) P
is_shaped version d result P memory told = at (first (shape_facts version d)) refl told
  where
    at : (f : Fact) → first (shape_facts version d) ≡ f → IfSome f (λ stop. result ≡ Err stop) → IfSome f P
    at None e told = tt
    at (Some stop) e told = absurd (shape_wants_none version d stop e (let both = sym memory ∙ told in cc))
