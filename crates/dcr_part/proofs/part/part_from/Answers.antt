use Rattle.std.proofs.Common.{◌≡◌, ◌≢◌, ℕ, ◌<◌, ◌≤◌, Option, None, true, is_some, get_or, length, refl, sym, ap, subst, ◌∙◌, arith}
use Rattle.std.specs.Option.{IfSome}
use Rattle.std.proofs.lemmas.Bool.{false≢true, MatchBool-at_true, MatchBool-at_false}
use Rattle.dcr_set.specs.EventSet.{has}
use Rattle.dcr_graph.specs.GraphValue.{Flat, rules_of}
use Rattle.dcr_graph.specs.Pairs.{first_clash}
use Rattle.dcr_graph.specs.Projection.{local_rules, HasRoom}
use Rattle.dcr_part.specs.PartText.{told_text}
use Rattle.dcr_part.specs.Read.{table_rules}
use Rattle.dcr_part.specs.Told.{told as what_is_told}
use Rattle.dcr_part.specs.Whole.{AreToldNames}
use Rattle.dcr_part.proofs.TextLemmas.{below_room}
use Rattle.dcr_part.proofs.WholeLemmas.{fields_unclashed, fields_just, fields_site, fields_text, fields_stand, case_of, case_names, is_case, case_text}
use Rattle.dcr_part.proofs.part.part_from.Goals as goal
use Rattle.dcr_part.proofs.part.part_from.Goals.{In-Some, In_ok-text}

-- the graph has the relations of the tables
relates : (c : In-Some) → rules_of c.in-Some.graph ≡ table_rules (length c.args.fields.own) c.args.fields.tables.items
relates c =
    subst (λ (found : Option Flat). IfSome found (λ graph. rules_of graph ≡ table_rules c.room.result c.args.fields.tables.items)) c.in-Some.is c.in_ok-graph.ensures.rules
    ∙ ap (λ n. table_rules n c.args.fields.tables.items) c.room.ensures.room

pub returns-in_default-clause-each_case : goal.returns-in_default-clause-each_case
returns-in_default-clause-each_case c = λ W it are is.
    c.in_ok-graph.ensures.clash c.in_default.is (ap (λ n. first_clash (table_rules n c.args.fields.tables.items)) c.room.ensures.room ∙ fields_unclashed W it c.args.fields are)

pub returns-then-not-are_names_of-clause-each_case : goal.returns-then-not-are_names_of-clause-each_case
returns-then-not-are_names_of-clause-each_case c = λ W it are is.
    let site = fields_site W it c.args.fields are (rules_of c.in-Some.graph) c.in_ok-projection.projection (relates (goal.at.returns-then-not-are_names_of-clause-each_case c).In-Some) c.in_ok-projection.ensures in
    false≢true (sym c.if-not-are_names_of.true
    ∙ c.are_names_of.ensures.1 (subst (λ names. (e : ℕ) → e < length c.alphabet.result.now → is_some (get_or names e None) ≡ has c.alphabet.result.now e) (sym c.deref.ensures.value)
    (fields_just W it c.args.fields are c.alphabet.result.now (c.alphabet.ensures.alphabet ∙ ap (λ P. P.alphabet) site))))

pub written-requires-clause-named : goal.written-requires-clause-named
written-requires-clause-named c = λ e heard.
    let there : has c.alphabet.result.now e ≡ true = ap (λ s. has s e) c.alphabet.ensures.alphabet ∙ heard in
    ap (λ names. is_some (get_or names e None)) (c.deref-3.ensures.value ∙ sym c.deref.ensures.value)
    ∙ c.are_names_of.ensures.0 c.if-not-are_names_of.false e (below_room c.alphabet.result.now e there) ∙ there

-- what was written
wrote : (c : In_ok-text) → c.in_ok-text.text.items
    ≡ told_text (what_is_told c.args.fields.head (local_rules (rules_of c.in-Some.graph) c.in_ok-projection.projection.own) c.in_ok-projection.projection.own c.in_ok-projection.projection.alphabet c.args.fields.names.items c.start-mark.result)
wrote c =
    c.in_ok-text.ensures
    ∙ ap (λ names. told_text (what_is_told c.args.fields.head (local_rules (rules_of c.in-Some.graph) c.in_ok-projection.projection.own) c.in_ok-projection.projection.own c.in_ok-projection.projection.alphabet names c.start-mark.result))
    c.deref-3.ensures.value

pub returns-then-not-are_same-clause-each_case : goal.returns-then-not-are_same-clause-each_case
returns-then-not-are_same-clause-each_case c = λ W it are is.
    let same = fields_text W it c.args.fields are (rules_of c.in-Some.graph) c.in_ok-projection.projection c.start-mark.result c.in_ok-text.text.items
    (relates (goal.at.returns-then-not-are_same-clause-each_case c).In-Some) c.in_ok-projection.ensures c.start-mark.ensures.cut
    (wrote (goal.at.returns-then-not-are_same-clause-each_case c).In_ok-text) in
    MatchBool-at_false (c.args.bytes.now ≡ c.as_slice.result.now) (c.args.bytes.now ≢ c.as_slice.result.now) c.if-not-are_same.true c.are_same.ensures
    (is ∙ sym same ∙ sym c.as_slice.ensures.value)

pub returns-clause-some_case : goal.returns-clause-some_case
returns-clause-some_case c =
    let f = c.args.fields in let R = rules_of c.in-Some.graph in let P = c.in_ok-projection.projection in let fit = c.requires in
    let rules = relates (goal.at.returns-clause-some_case c).In-Some in
    let projection = c.in_ok-projection.ensures in
    let atoms : R.atoms ≡ length f.own = ap (λ H. H.atoms) rules in
    let few : R.atoms ≤ 1024 = (let most = fit.atoms in omega arith) in
    let marks : HasRoom R.atoms f.opening = subst (λ n. HasRoom n f.opening) (sym atoms) fit.opening in
    let just = subst (λ names. (e : ℕ) → e < length c.alphabet.result.now → is_some (get_or names e None) ≡ has c.alphabet.result.now e) c.deref.ensures.value
    (c.are_names_of.ensures.0 c.if-not-are_names_of.false) in
    let named = case_names f.head f.names.items R f.own f.opening (fit.names ∙ sym atoms) c.alphabet.result.now (c.alphabet.ensures.alphabet ∙ ap (λ Q. Q.alphabet) projection) just in
    let told : AreToldNames f.names.items = subst AreToldNames c.deref-2.ensures.value (record {
      are_names = c.are_distinct.ensures.are_names c.if-not-are_distinct.false;
      distinct = c.are_distinct.ensures.distinct.0 c.if-not-are_distinct.false;
    }) in
    let unclashed : first_clash R ≡ None =
    ap first_clash (rules ∙ ap (λ n. table_rules n f.tables.items) (sym c.room.ensures.room))
    ∙ subst (λ (found : Option Flat). IfSome found (λ _. first_clash (table_rules c.room.result f.tables.items) ≡ None)) c.in-Some.is c.in_ok-graph.ensures.unclashed in
    let text = case_text f.head f.names.items R f.own f.opening P c.start-mark.result c.in_ok-text.text.items projection marks c.start-mark.ensures.cut named
    (wrote (goal.at.returns-clause-some_case c).In_ok-text) in
    let same = MatchBool-at_true (c.args.bytes.now ≡ c.as_slice.result.now) (c.args.bytes.now ≢ c.as_slice.result.now) c.if-not-are_same.false c.are_same.ensures in (
      case_of f.head f.names.items R f.own f.opening,
      is_case f.head f.names.items R f.own f.opening few (sym atoms) marks fit.digest fit.bytes fit.site c.text-name.ensures.name named told unclashed,
      same ∙ c.as_slice.ensures.value ∙ text,
      record { head = refl; names = named; site = c.open-site.ensures.stands R f.own projection },
    )

pub returns-clause-each_case : goal.returns-clause-each_case
returns-clause-each_case c = λ W it are is.
    let site = fields_site W it c.args.fields are (rules_of c.in-Some.graph) c.in_ok-projection.projection (relates (goal.at.returns-clause-each_case c).In-Some) c.in_ok-projection.ensures in
    record { head = are.head; names = are.names; site = fields_stand W it c.args.fields are _ (c.open-site.ensures.stands W.rules W.own site) }
