-- A world is opened as the machine's, and closes with what the graph has after the journal.
use Rattle.std.proofs.Common.{◌≡◌, ℕ, ◌+◌, ◌<◌, List, [], ◌∷◌, ◌++◌, length, get_or, map, take, Option, Some, None, inl, inr, refl, sym, ap, subst, ◌∙◌, arith}
use Rattle.std.specs.Prelude.{slice_get}
use Rattle.std.specs.List.{range_with_len}
use Rattle.std.specs.Option.{option_map}
use Rattle.std.proofs.lemmas.List.{length-append, length-map, get_or-map, ext_get_or, take_all}
use Rattle.std.proofs.lemmas.List.FromFn.{fill_by_all}
use Rattle.std.proofs.lemmas.Option.{slice_get_within, slice_get-get_or, get_or_from_slice_get, slice_get-map, same_Some, none-some}
use Rattle.dcr_set.specs.EventSet.{Set, has}
use Rattle.dcr_set.proofs.ListLemmas.{push_cases}
use Rattle.dcr_graph.specs.Rows.{row}
use Rattle.dcr_graph.specs.Rules.{Rules}
use Rattle.dcr_graph.specs.Projection.{project}
use Rattle.dcr_graph.specs.declared.marking.Marking.{Marking}
use Rattle.dcr_graph.specs.declared.marking.SiteMark.{SiteMark}
use Rattle.dcr_journal.specs.Run.{after, marks_at}
use Rattle.dcr_run.specs.SitesModel.{alphabets_in}
use Rattle.dcr_site.specs.Seen.{Seen, StandsAt}
use Rattle.dcr_site.specs.Together.{AllStand}
use Rattle.dcr_node.specs.Heard.{heard}
use Rattle.dcr_node.specs.SiteState.{SiteState, new_site}
use Rattle.dcr_node.specs.WorldState.{WorldState, site_at, alphabets_over, HaveHeardAll}
use Rattle.dcr_node.specs.Right.{alphabet_of, IsRight}
use Rattle.dcr_node.specs.Parts.{AreNumbered}
use Rattle.dcr_node.proofs.TruthLemmas.{slice_get_left, slice_get_last, marks_at_beginning}
use Rattle.dcr_node.proofs.RightLemmas.{right_alphabet}

-- ---- opening

pub numbered_none : AreNumbered [] []
numbered_none = record { as_many = refl; each = λ i node is. absurd (let below : i < 0 = slice_get_within [] i node is in omega arith) }

pub numbered_more : (sites : List Seen) (nodes : List SiteState) (site : Seen) (id : ℕ) → AreNumbered sites nodes → id ≡ length nodes
    → AreNumbered (sites ++ site ∷ []) (nodes ++ new_site id site ∷ [])
numbered_more sites nodes site id are is = record {
  as_many = length-append nodes (new_site id site ∷ []) ∙ ap (λ n. n + 1) are.as_many ∙ sym (length-append sites (site ∷ []));
  each = λ i node found. elim (push_cases nodes (new_site id site) i node found) [
    | inl at ↦ (
      slice_get_last sites site i (at.0 ∙ are.as_many) ∙ ap (λ (n : SiteState). Some n.site) (sym at.1),
      ap (λ (n : SiteState). n.id) at.1 ∙ is ∙ sym at.0,
      ap (λ (n : SiteState). n.count) at.1,
    )
    | inr old ↦ let was = are.each i node old in (slice_get_left sites (site ∷ []) i node.site was.0, was.1, was.2)
  ];
}

-- a site that stands is the one at that marking
pub stands_is : (G : Rules) (C : List Set) (M : Marking) (i : ℕ) (node : SiteState) → StandsAt G (row C i) M node.site → node.id ≡ i → node.count ≡ 0 → node ≡ site_at G C M i
stands_is G C M i node at id count =
    ap (λ P. let s : Seen = record { projection = P; mark = node.site.mark } in let n : SiteState = record { id = node.id; count = node.count; site = s } in n) at.projection
    ∙ ap (λ m. let s : Seen = record { projection = (site_at G C M i).site.projection; mark = m } in let n : SiteState = record { id = node.id; count = node.count; site = s } in n) at.mark
    ∙ ap (λ k. let n : SiteState = record { id = k; count = node.count; site = (site_at G C M i).site } in n) id
    ∙ ap (λ k. let n : SiteState = record { id = i; count = k; site = (site_at G C M i).site } in n) count

-- numbered sites that stand at the opening are those of the opened world
pub opened_sites : (G : Rules) (C : List Set) (M : Marking) (sites : List Seen) (nodes : List SiteState) → AllStand G C M sites → AreNumbered sites nodes
    → nodes ≡ map (site_at G C M) (range_with_len 0 (length C))
opened_sites G C M sites nodes stand are =
    fill_by_all (site_at G C M) nodes (length C) (site_at G C M 0) (are.as_many ∙ stand.as_many) (λ k below.
    let d = site_at G C M 0 in
    let within : k < length nodes = (let a = are.as_many in let b = stand.as_many in omega arith) in
    let node = get_or nodes k d in
    let was = are.each k node (slice_get-get_or nodes k d within) in
    stands_is G C M k node (stand.each k node.site was.0) was.1 was.2)

-- the alphabets of sites that stand are those of their owned sets
pub opened_alphabets : (G : Rules) (C : List Set) (M : Marking) (sites : List Seen) → AllStand G C M sites → alphabets_in sites ≡ alphabets_over G C
opened_alphabets G C M sites stand =
    let many_sites = length-map sites (λ (s : Seen). s.projection.alphabet) in
    let many_sets = length-map C (alphabet_of G) in
    ext_get_or [] (alphabets_in sites) (alphabets_over G C) (many_sites ∙ stand.as_many ∙ sym many_sets) (λ k l.
    let within : k < length sites = omega arith in
    let below : k < length C = (let a = stand.as_many in omega arith) in
    by_site sites k within (λ site is.
    get_or-map (λ (s : Seen). s.projection.alphabet) sites k site [] within
    ∙ ap (λ (s : Seen). s.projection.alphabet) (get_or_from_slice_get sites k site site is)
    ∙ ap (λ P. P.alphabet) (stand.each k site is).projection
    ∙ sym (get_or-map (alphabet_of G) C k [] [] below)))
  where
    by_site : {P : Type 0} (xs : List Seen) (k : ℕ) → k < length xs → ((site : Seen) → slice_get xs k ≡ Some site → P) → P
    by_site [] k l f = absurd (omega arith)
    by_site (x ∷ xs) k l f = f (get_or (x ∷ xs) k x) (slice_get-get_or (x ∷ xs) k x l)

-- ---- closing

-- sites that have heard of their whole streams stand together at the marking after the journal
pub closed_stand : (G : Rules) (C : List Set) (M : Marking) (w : WorldState) → IsRight G C M w → HaveHeardAll w
    → AllStand G C (after G M w.journal.history.entries) (map (λ (node : SiteState). node.site) w.sites)
closed_stand G C M w right all = record {
  as_many = length-map w.sites (λ (node : SiteState). node.site) ∙ right.as_many;
  each = λ i site is. by_node i site (slice_get w.sites i) refl (sym (slice_get-map (λ (node : SiteState). node.site) w.sites i) ∙ is);
}
  where
    by_node : (i : ℕ) (site : Seen) (o : Option SiteState) → slice_get w.sites i ≡ o → option_map (λ (node : SiteState). node.site) o ≡ Some site
        → StandsAt G (row C i) (after G M w.journal.history.entries) site
    by_node i site None none is = absurd (none-some site is)
    by_node i site (Some node) some is =
        let J = w.journal.history.entries in
        let at = right.sites i node some in
        let within : i < length C = (let below : i < length w.sites = slice_get_within w.sites i node some in let room = right.as_many in omega arith) in
        let whole : take (length J) J ≡ J = take_all (length J) J (omega arith) in
        let count : node.count ≡ length (heard (has (row w.journal.alphabets i)) (take (length J) J)) = all i node some ∙ ap (λ K. length (heard (has (row w.journal.alphabets i)) K)) (sym whole) in
        let mark = marks_at_beginning G C M w.journal i (length J) node right.sound (right_alphabet G C M w i right within) at count in
        subst (StandsAt G (row C i) (after G M J)) (same_Some node.site site is) (record { projection = at.stands.projection; mark = mark ∙ ap (λ K. project G (row C i) (after G M K)) whole })

-- the marks of sites that stand are the graph's
pub closed_marks : (G : Rules) (C : List Set) (N : Marking) (nodes : List SiteState) → AllStand G C N (map (λ (node : SiteState). node.site) nodes)
    → map (λ (node : SiteState). node.site.mark) nodes ≡ marks_at G C N
closed_marks G C N nodes stand =
    let many_nodes = length-map nodes (λ (node : SiteState). node.site.mark) in
    let many_sets = length-map C (λ S. project G S N) in
    let many : length nodes ≡ length C = sym (length-map nodes (λ (node : SiteState). node.site)) ∙ stand.as_many in
    let none : SiteMark = record { executed = []; pending = []; included = [] } in
    ext_get_or none (map (λ (node : SiteState). node.site.mark) nodes) (marks_at G C N) (many_nodes ∙ many ∙ sym many_sets) (λ k l.
    let within : k < length nodes = omega arith in
    let below : k < length C = omega arith in
    by_node nodes k within (λ node is.
    get_or-map (λ (n : SiteState). n.site.mark) nodes k node none within
    ∙ ap (λ (n : SiteState). n.site.mark) (get_or_from_slice_get nodes k node node is)
    ∙ (stand.each k node.site (slice_get-map (λ (n : SiteState). n.site) nodes k ∙ ap (option_map (λ (n : SiteState). n.site)) is)).mark
    ∙ sym (get_or-map (λ S. project G S N) C k [] none below)))
  where
    by_node : {P : Type 0} (xs : List SiteState) (k : ℕ) → k < length xs → ((node : SiteState) → slice_get xs k ≡ Some node → P) → P
    by_node [] k l f = absurd (omega arith)
    by_node (x ∷ xs) k l f = f (get_or (x ∷ xs) k x) (slice_get-get_or (x ∷ xs) k x l)
