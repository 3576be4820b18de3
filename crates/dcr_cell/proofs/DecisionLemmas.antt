-- Why what a site answers by its own marks the graph answers after all entries, of which the site's front has missed none.
use Rattle.std.proofs.Common.{◌≡◌, ℕ, ◌<◌, List, [], ◌∷◌, length, get_or, map, Some, None, cond, refl, sym, ap, ◌∙◌, subst, arith}
use Rattle.std.specs.Prelude.{slice_index_or}
use Rattle.std.specs.List.{All, fold, range_with_len, zip}
use Rattle.std.proofs.Math.ListN.{get_or-map as get_or-map_at}
use Rattle.std.proofs.lemmas.List.{get_or-map, length-map}
use Rattle.std.proofs.lemmas.List.Elements.{All-head, All-tail}
use Rattle.std.proofs.lemmas.List.FromFn.{fill_by_all, length-range_with_len, get_or-range_with_len}
use Rattle.dcr_set.specs.EventSet.{Set, has}
use Rattle.dcr_set.specs.Least.{lesser}
use Rattle.dcr_graph.specs.Projection.{project}
use Rattle.dcr_graph.specs.Rows.{row}
use Rattle.dcr_graph.specs.Rules.{Rules}
use Rattle.dcr_graph.specs.declared.marking.Marking.{Marking}
use Rattle.dcr_graph.specs.declared.marking.SiteMark.{SiteMark}
use Rattle.dcr_journal.specs.Answer.{answer, outcome_of, verdict_of}
use Rattle.dcr_journal.specs.Run.{marks_at}
use Rattle.dcr_journal.specs.declared.call.Call.{Call}
use Rattle.dcr_journal.specs.declared.call.Call.TheVariants.{Exec, Look, Enabled, Accepting}
use Rattle.dcr_journal.specs.declared.call.Entry.{Entry}
use Rattle.dcr_journal.specs.declared.call.Outcome.TheVariants.{NotHere, Marks, Can}
use Rattle.dcr_laws.specs.AtSites.{Site, cause_at, enabled_at, waits_at}
use Rattle.dcr_laws.proofs.SitesRunLemmas.{decided, enabled_at-project}
use Rattle.dcr_laws.proofs.WaitsLemmas.{waits_at-project, sites_wait_as_the_graph}
use Rattle.dcr_site.specs.Decision.{owned_waits}
use Rattle.dcr_turn.specs.Covers.{Covers, is_heard}
use Rattle.dcr_turn.specs.FrontValue.{FrontValue, HasMissedNone}
use Rattle.dcr_turn.specs.TurnId.{TurnId}
use Rattle.dcr_turn.proofs.Covered.{covered_marks_stay}
use Rattle.dcr_cell.specs.ClusterId.{ClusterId, IsNamed, IsCall, alphabet_of, begun, marking_after}
use Rattle.dcr_cell.specs.Laws.{AnswersHold, WaitsHold, AreCalls, asked}

-- the alphabet of a site of the turn
pub alphabet_at : (c : ClusterId) (turn : TurnId) (i : ℕ) → IsNamed c turn → i < length c.owned → slice_index_or turn.alphabets i [] ≡ alphabet_of c (row c.owned i)
alphabet_at c turn i named within =
    ap (λ (sets : List Set). slice_index_or sets i []) named.alphabets ∙ get_or-map (alphabet_of c) c.owned i [] [] within

-- the marks after the entries that a front has seen are those after all entries
pub marks_stay : (c : ClusterId) (turn : TurnId) (front : FrontValue) (J : List Entry) → IsNamed c turn → front.site < length c.owned → AreCalls c J → HasMissedNone turn front J
    → project c.rules (row c.owned front.site) (marking_after c front.front) ≡ project c.rules (row c.owned front.site) (marking_after c J)
marks_stay c turn front J named within calls none =
    covered_marks_stay c.rules (row c.owned front.site) (begun c) (length c.owned) front.front J
    (subst (λ (set : Set). Covers (is_heard set) front.front J) (alphabet_at c turn front.site named within) none) calls

-- the marks that the asked site has decide the answer
answers_by_marks : (c : ClusterId) (i : ℕ) (M N : Marking) (call : Call) → IsCall c call → asked call ≡ Some i
    → project c.rules (row c.owned i) M ≡ project c.rules (row c.owned i) N → answer c.rules c.owned M call ≡ answer c.rules c.owned N call
answers_by_marks c i M N (Exec j e) (site, atom) is same =
    let at : j ≡ i = cc in
    let S = row c.owned j in
    let here : project c.rules S M ≡ project c.rules S N = subst (λ (k : ℕ). project c.rules (row c.owned k) M ≡ project c.rules (row c.owned k) N) (sym at) same in
    sym (decided c.rules S M e atom (has S e) refl)
    ∙ ap (λ (m : SiteMark). cond (has S e) (outcome_of (cause_at c.rules S m e)) NotHere) here
    ∙ decided c.rules S N e atom (has S e) refl
answers_by_marks c i M N (Look j) site is same =
    let at : j ≡ i = cc in
    ap Marks (subst (λ (k : ℕ). project c.rules (row c.owned k) M ≡ project c.rules (row c.owned k) N) (sym at) same)
answers_by_marks c i M N (Enabled j) site is same =
    let at : j ≡ i = cc in
    let S = row c.owned j in
    let here : project c.rules S M ≡ project c.rules S N = subst (λ (k : ℕ). project c.rules (row c.owned k) M ≡ project c.rules (row c.owned k) N) (sym at) same in
    ap Can (sym (enabled_at-project c.rules S M) ∙ ap (enabled_at c.rules S) here ∙ enabled_at-project c.rules S N)
answers_by_marks c i M N Accepting _ is same = absurd cc

-- the asked site is one of the cluster
asked_within : (c : ClusterId) (i : ℕ) (call : Call) → IsCall c call → asked call ≡ Some i → i < length c.owned
asked_within c i (Exec j e) (site, atom) is = let at : j ≡ i = cc in omega arith
asked_within c i (Look j) site is = let at : j ≡ i = cc in omega arith
asked_within c i (Enabled j) site is = let at : j ≡ i = cc in omega arith
asked_within c i Accepting _ is = absurd cc

pub answers_hold : AnswersHold
answers_hold c turn front J call named is_call is calls none =
    answers_by_marks c front.site (marking_after c front.front) (marking_after c J) call is_call is
    (marks_stay c turn front J named (asked_within c front.site call is_call is) calls none)

-- what a site waits for, by its marks
waits_by_marks : (G : Rules) (S : Set) (M N : Marking) → project G S M ≡ project G S N → owned_waits G S M ≡ owned_waits G S N
waits_by_marks G S M N same = sym (waits_at-project G S M) ∙ ap (waits_at G.atoms S) same ∙ waits_at-project G S N

-- the fronts' sites wait as they do after all entries
wait_alike : (c : ClusterId) (turn : TurnId) (J : List Entry) (fronts : List FrontValue) → IsNamed c turn → AreCalls c J
    → All (λ (f : FrontValue). f.site < length c.owned) fronts → All (λ f. HasMissedNone turn f J) fronts
    → map (λ (f : FrontValue). owned_waits c.rules (row c.owned f.site) (marking_after c f.front)) fronts
    ≡ map (λ (i : ℕ). owned_waits c.rules (row c.owned i) (marking_after c J)) (map (λ (f : FrontValue). f.site) fronts)
wait_alike c turn J [] named calls within none = refl
wait_alike c turn J (f ∷ fronts) named calls within none =
    let here = waits_by_marks c.rules (row c.owned f.site) (marking_after c f.front) (marking_after c J)
    (marks_stay c turn f J named (All-head (λ (g : FrontValue). g.site < length c.owned) f fronts within) calls (All-head (λ g. HasMissedNone turn g J) f fronts none)) in
    let rest = wait_alike c turn J fronts named calls (All-tail (λ (g : FrontValue). g.site < length c.owned) f fronts within) (All-tail (λ g. HasMissedNone turn g J) f fronts none) in cc

-- each of the sets, by its number
each_row : {X : Type 0} (g : Set → X) (C : List Set) (d : X) → map g C ≡ map (λ (i : ℕ). g (row C i)) (range_with_len 0 (length C))
each_row g C d = fill_by_all (λ (i : ℕ). g (row C i)) (map g C) (length C) d (length-map C g) (λ k within. get_or-map g C k [] d within)

-- the sets beside their marks
beside : (G : Rules) (M : Marking) (C : List Set) → map (λ (S : Set). owned_waits G S M) C ≡ map (λ (site : Site). waits_at G.atoms site.0 site.1) (zip C (marks_at G C M))
beside G M [] = refl
beside G M (S ∷ C) = let here = waits_at-project G S M in let rest = beside G M C in cc

-- the sites of fronts that are all sites
all_within : (fronts : List FrontValue) (n : ℕ) → map (λ (f : FrontValue). f.site) fronts ≡ range_with_len 0 n → All (λ (f : FrontValue). f.site < n) fronts
all_within fronts n are = λ k d below.
    let many : length fronts ≡ n = sym (length-map fronts (λ (f : FrontValue). f.site)) ∙ ap length are ∙ length-range_with_len 0 n in
    let at = get_or-range_with_len 0 n k d.site (omega arith) in
    let here : get_or (map (λ (f : FrontValue). f.site) fronts) k d.site ≡ (get_or fronts k d).site = get_or-map_at (λ (f : FrontValue). f.site) fronts k d in
    let there : get_or (map (λ (f : FrontValue). f.site) fronts) k d.site ≡ get_or (range_with_len 0 n) k d.site = ap (λ (xs : List ℕ). get_or xs k d.site) are in
    omega arith

pub waits_hold : WaitsHold
waits_hold c turn fronts J named are calls none =
    let M = marking_after c J in
    ap (λ waiting. verdict_of (fold lesser None waiting))
    (wait_alike c turn J fronts named calls (all_within fronts (length c.owned) are) none
    ∙ ap (map (λ (i : ℕ). owned_waits c.rules (row c.owned i) M)) are
    ∙ sym (each_row (λ (S : Set). owned_waits c.rules S M) c.owned None)
    ∙ beside c.rules M c.owned)
    ∙ ap verdict_of (sites_wait_as_the_graph c.rules c.owned M named.covered)
