-- What lies under a site's lock, as the journal's list grows.
use Rattle.std.proofs.Common.{◌≡◌, ℕ, ◌<◌, Bool, true, List, [], ◌∷◌, ◌++◌, length, Option, Some, None, sym, ap, ◌∙◌, subst, arith}
use Rattle.std.specs.Prelude.{slice_index_or}
use Rattle.std.specs.List.{Contains}
use Rattle.std.specs.Option.{option_map_or}
use Rattle.dcr_set.specs.EventSet.{Set, has, those}
use Rattle.dcr_set.proofs.NumbersLemmas.{member_from_numbers}
use Rattle.dcr_set.proofs.SetLemmas.{has-those}
use Rattle.dcr_graph.specs.Projection.{project}
use Rattle.dcr_graph.specs.Rows.{row}
use Rattle.dcr_graph.specs.Rules.{Rules}
use Rattle.dcr_graph.specs.Step.{step}
use Rattle.dcr_graph.specs.declared.marking.Marking.{Marking}
use Rattle.dcr_journal.specs.Run.{event_done}
use Rattle.dcr_journal.proofs.RunLemmas.{after_next}
use Rattle.dcr_journal.specs.declared.call.Entry.{Entry}
use Rattle.dcr_proj.specs.NetworkValue.{participants_of}
use Rattle.dcr_site.specs.Seen.{Seen, StandsAt}
use Rattle.dcr_turn.specs.FrontValue.{FrontValue, HasMissedNone}
use Rattle.dcr_turn.specs.TurnId.{TurnId}
use Rattle.dcr_cell.specs.CellStands.{CellStands}
use Rattle.dcr_cell.specs.ClusterId.{ClusterId, IsNamed, begun, marking_after}
use Rattle.dcr_cell.specs.Laws.{AreCalls}
use Rattle.dcr_cell.proofs.AskLemmas.{as_many_sites}
use Rattle.dcr_cell.proofs.DecisionLemmas.{alphabet_at, marks_stay}

-- a site stands after all entries of which its front has missed none
pub cell_stays : (c : ClusterId) (turn : TurnId) (i : ℕ) (site : Seen) (front : FrontValue) (J : List Entry) → IsNamed c turn → i < length c.owned → AreCalls c J
    → CellStands c i site front → HasMissedNone turn front J → CellStands c i site record { site = front.site; front = J }
cell_stays c turn i site front J named within calls stands none =
    let same = marks_stay c turn front J named (subst (λ (k : ℕ). k < length c.owned) (sym stands.at) within) calls none in
    record {
      at = stands.at;
      stands = record {
        projection = stands.stands.projection;
        mark = stands.stands.mark
            ∙ subst (λ (k : ℕ). project c.rules (row c.owned k) (marking_after c front.front) ≡ project c.rules (row c.owned k) (marking_after c J)) stands.at same;
      };
    }

-- an entry that is no execution that was done leaves it where it is
pub cell_spared : (c : ClusterId) (i : ℕ) (site : Seen) (number : ℕ) (J : List Entry) (entry : Entry) → event_done entry.call entry.outcome ≡ None
    → CellStands c i site record { site = number; front = J } → CellStands c i site record { site = number; front = J ++ entry ∷ [] }
cell_spared c i site number J entry spared stands =
    let M = marking_after c J in
    let same : marking_after c (J ++ entry ∷ []) ≡ M = after_next c.rules (begun c) J entry ∙ ap (λ (event : Option ℕ). option_map_or (step c.rules M) event M) spared in
    record { at = stands.at; stands = subst (λ N. StandsAt c.rules (row c.owned i) N site) (sym same) stands.stands }

-- an execution that was done steps it
pub cell_steps : (c : ClusterId) (i : ℕ) (old new : Seen) (number : ℕ) (J : List Entry) (entry : Entry) (event : ℕ) → event_done entry.call entry.outcome ≡ Some event
    → ((G : Rules) (S : Set) (M : Marking) → StandsAt G S M old → StandsAt G S (step G M event) new)
    → CellStands c i old record { site = number; front = J } → CellStands c i new record { site = number; front = J ++ entry ∷ [] }
cell_steps c i old new number J entry event done stepped stands =
    let M = marking_after c J in
    let next : marking_after c (J ++ entry ∷ []) ≡ step c.rules M event = after_next c.rules (begun c) J entry ∙ ap (λ (found : Option ℕ). option_map_or (step c.rules M) found M) done in
    record { at = stands.at; stands = subst (λ N. StandsAt c.rules (row c.owned i) N new) (sym next) (stepped c.rules (row c.owned i) M stands.stands) }

-- what a participant must hear of is in its alphabet
pub cell_hears : (c : ClusterId) (turn : TurnId) (i : ℕ) (site : Seen) (front : FrontValue) (event : ℕ) → IsNamed c turn → i < length c.owned
    → CellStands c i site front → Contains (participants_of turn.alphabets event) i → has site.projection.alphabet event ≡ true
cell_hears c turn i site front event named within stands there =
    let A = turn.alphabets in
    let hears : ℕ → Bool = λ k. has (slice_index_or A k []) event in
    let known : i < length A = (let many = as_many_sites c turn named in omega arith) in
    ap (λ P. has P.alphabet event) stands.stands.projection
    ∙ sym (ap (λ (set : Set). has set event) (alphabet_at c turn i named within))
    ∙ sym (has-those (length A) hears i known)
    ∙ member_from_numbers (those (length A) hears) i there
