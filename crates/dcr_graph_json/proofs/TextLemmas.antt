-- The values of events and of relations: how an event's is put together, and what is read of them.
use Rattle.std.proofs.Common.{◌≡◌, ℕ, Bool, true, false, ◌&&◌, codes, List, [], ◌∷◌, get_or, Option, Some, None, is_some, not, option_map, unwrap_or, refl, ap, ◌∙◌}
use Rattle.std.specs.Option.{option_and_then, option_map_or}
use Rattle.serde_json.specs.Data.{Data, boolean, string, Members, no_members}
use Rattle.serde_json.specs.Find.{get, as_bool, as_str}
use Rattle.dcr_graph.specs.Rules.{same_kind}
use Rattle.dcr_graph.specs.declared.kind.Kind.{Kind}
use Rattle.dcr_graph.specs.declared.kind.Kind.TheVariants.{Condition, Response, Milestone, Include, Exclude, Cancel}
use Rattle.dcr_nest.specs.declared.node.Node.{Node}
use Rattle.dcr_nest.specs.declared.node.Version.{Version}
use Rattle.dcr_nest.specs.declared.node.Version.TheVariants.{V1, V2}
use Rattle.dcr_format.specs.Members.{mark_at}
use Rattle.dcr_format.specs.Objects.{Entry, members_of, with_entry}
use Rattle.dcr_format.proofs.EntryLemmas.{alone, get_entry, one_more}
use Rattle.dcr_graph_json.specs.Shape.{is_event, is_of_version, is_relation}
use Rattle.dcr_graph_json.specs.Text.{event_entries, event_value, name_value, relation_value}
use Rattle.dcr_graph_json.specs.Written.{Relation, label_in, name_in, parent_in, relation_in, writes_mark}
use Rattle.dcr_graph_json.specs.declared.text.Marks.{Marks}

-- ---- an event, put together member by member

pub event_put : (names : List (List ℕ)) (node : Node) (marks : Marks) (none executed included label name parent pending : Members) → none ≡ no_members
    → executed ≡ with_entry (codes "executed") (option_map boolean marks.executed) none
    → included ≡ with_entry (codes "included") (option_map boolean marks.included) executed
    → label ≡ with_entry (codes "label") (Some (string node.label)) included
    → name ≡ with_entry (codes "name") (Some (string node.name)) label
    → parent ≡ with_entry (codes "parent") (option_map (name_value names) node.parent) name
    → pending ≡ with_entry (codes "pending") (option_map boolean marks.pending) parent
    → pending ≡ members_of (event_entries names node marks)
event_put names node marks none executed included label name parent pending e0 e1 e2 e3 e4 e5 e6 =
    let k1 : Entry = (codes "executed", option_map boolean marks.executed) in
    let k2 : Entry = (codes "included", option_map boolean marks.included) in
    let k3 : Entry = (codes "label", Some (string node.label)) in
    let k4 : Entry = (codes "name", Some (string node.name)) in
    let k5 : Entry = (codes "parent", option_map (name_value names) node.parent) in
    let s1 = one_more k1.0 k1.1 [] none executed tt e1 e0 in
    let s2 = one_more (codes "included") k2.1 (k1 ∷ []) executed included (refl, tt) e2 s1 in
    let s3 = one_more (codes "label") k3.1 (k1 ∷ k2 ∷ []) included label (refl, (refl, tt)) e3 s2 in
    let s4 = one_more (codes "name") k4.1 (k1 ∷ k2 ∷ k3 ∷ []) label name (refl, (refl, (refl, tt))) e4 s3 in
    let s5 = one_more (codes "parent") k5.1 (k1 ∷ k2 ∷ k3 ∷ k4 ∷ []) name parent (refl, (refl, (refl, (refl, tt)))) e5 s4 in
    one_more (codes "pending") (option_map boolean marks.pending) (k1 ∷ k2 ∷ k3 ∷ k4 ∷ k5 ∷ []) parent pending (refl, (refl, (refl, (refl, (refl, tt))))) e6 s5

-- ---- what is read of it

texts_back : {X : Type 0} (f : X → List ℕ) (o : Option X) → option_and_then as_str (option_map (λ x. string (f x)) o) ≡ option_map f o
texts_back f None = refl
texts_back f (Some x) = refl

marks_back : (o : Option Bool) → option_and_then as_bool (option_map boolean o) ≡ o
marks_back None = refl
marks_back (Some b) = refl

may_be_text : {X : Type 0} (f : X → List ℕ) (o : Option X) → option_map_or (λ e. is_some (as_str e)) (option_map (λ x. string (f x)) o) true ≡ true
may_be_text f None = refl
may_be_text f (Some x) = refl

may_be_mark : (o : Option Bool) → option_map_or (λ e. is_some (as_bool e)) (option_map boolean o) true ≡ true
may_be_mark None = refl
may_be_mark (Some b) = refl

all_six : (a b c d e f : Bool) → a ≡ true → b ≡ true → c ≡ true → d ≡ true → e ≡ true → f ≡ true → (a && (b && (c && (d && (e && f))))) ≡ true
all_six a b c d e f p q r s t u = rw (p, q, r, s, t, u) refl

module _ (names : List (List ℕ)) (node : Node) (marks : Marks) where
  abbrev entries : List Entry
  entries = event_entries names node marks

  abbrev value : Data
  value = event_value names node marks

  has_name : get (codes "name") value ≡ Some (string node.name)
  has_name = get_entry (codes "name") entries

  has_parent : get (codes "parent") value ≡ option_map (name_value names) node.parent
  has_parent = get_entry (codes "parent") entries ∙ alone (option_map (name_value names) node.parent)

  has_label : get (codes "label") value ≡ Some (string node.label)
  has_label = get_entry (codes "label") entries

  has_executed : get (codes "executed") value ≡ option_map boolean marks.executed
  has_executed = get_entry (codes "executed") entries ∙ alone (option_map boolean marks.executed)

  has_pending : get (codes "pending") value ≡ option_map boolean marks.pending
  has_pending = get_entry (codes "pending") entries ∙ alone (option_map boolean marks.pending)

  has_included : get (codes "included") value ≡ option_map boolean marks.included
  has_included = get_entry (codes "included") entries ∙ alone (option_map boolean marks.included)

  pub reads_name : name_in value ≡ node.name
  reads_name = ap (λ o. unwrap_or (option_and_then as_str o) []) has_name

  pub reads_parent : parent_in value ≡ option_map (λ p. get_or names p []) node.parent
  reads_parent = ap (option_and_then as_str) has_parent ∙ texts_back (λ p. get_or names p []) node.parent

  pub reads_label : label_in value ≡ Some node.label
  reads_label = ap (option_and_then as_str) has_label

  pub reads_executed : mark_at (codes "executed") value ≡ marks.executed
  reads_executed = ap (option_and_then as_bool) has_executed ∙ marks_back marks.executed

  pub reads_pending : mark_at (codes "pending") value ≡ marks.pending
  reads_pending = ap (option_and_then as_bool) has_pending ∙ marks_back marks.pending

  pub reads_included : mark_at (codes "included") value ≡ marks.included
  reads_included = ap (option_and_then as_bool) has_included ∙ marks_back marks.included

  pub writes_none : marks.executed ≡ None → marks.pending ≡ None → marks.included ≡ None → writes_mark value ≡ false
  writes_none a b c = rw (reads_executed ∙ a, reads_pending ∙ b, reads_included ∙ c) refl

  pub event_shaped : is_event value ≡ true
  event_shaped = all_six _ _ _ _ _ _
      (ap (λ o. is_some (option_and_then as_str o)) has_name)
      (ap (λ o. option_map_or (λ e. is_some (as_str e)) o true) has_parent ∙ may_be_text (λ p. get_or names p []) node.parent)
      (ap (λ o. option_map_or (λ e. is_some (as_str e)) o true) has_label)
      (ap (λ o. option_map_or (λ e. is_some (as_bool e)) o true) has_executed ∙ may_be_mark marks.executed)
      (ap (λ o. option_map_or (λ e. is_some (as_bool e)) o true) has_pending ∙ may_be_mark marks.pending)
      (ap (λ o. option_map_or (λ e. is_some (as_bool e)) o true) has_included ∙ may_be_mark marks.included)

-- ---- a relation

pub reads_relation : (names : List (List ℕ)) (kind : Kind) (a b : ℕ) → relation_in (relation_value names (kind, a, b)) ≡ Some (record { kind = kind; source = get_or names a []; target = get_or names b [] })
reads_relation names Condition a b = refl
reads_relation names Response a b = refl
reads_relation names Milestone a b = refl
reads_relation names Include a b = refl
reads_relation names Exclude a b = refl
reads_relation names Cancel a b = refl

of_version : (version : Version) (kind : Kind) → (version ≡ V1 → same_kind kind Cancel ≡ false) → is_of_version version kind ≡ true
of_version V1 kind h = ap not (h refl)
of_version V2 kind h = refl

pub relation_shaped : (version : Version) (names : List (List ℕ)) (kind : Kind) (a b : ℕ) → (version ≡ V1 → same_kind kind Cancel ≡ false) → is_relation version (relation_value names (kind, a, b)) ≡ true
relation_shaped version names kind a b h = ap (λ o. option_map_or (λ (relation : Relation). is_of_version version relation.kind) o false) (reads_relation names kind a b) ∙ of_version version kind h
