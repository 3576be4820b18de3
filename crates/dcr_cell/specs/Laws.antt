-- Why a decision that a site makes from its own marks still holds at the entry's place.
use Rattle.std.specs.Prelude.{◌≡◌, ℕ, List, length, map, fold, Option, Some, None}
use Rattle.std.specs.List.{All, range_with_len}
use Rattle.dcr_graph.specs.Rows.{row}
use Rattle.dcr_journal.specs.Answer.{verdict_of}
use Rattle.dcr_journal.specs.declared.call.Call.{Call}
use Rattle.dcr_journal.specs.declared.call.Call.TheVariants.{Exec, Look, Enabled, Accepting}
use Rattle.dcr_journal.specs.declared.call.Entry.{Entry}
use Rattle.dcr_set.specs.Least.{lesser}
use Rattle.dcr_site.specs.Decision.{owned_waits}
use Rattle.dcr_turn.specs.FrontValue.{FrontValue, HasMissedNone}
use Rattle.dcr_turn.specs.TurnId.{TurnId}
use Rattle.dcr_cell.specs.ClusterId.{ClusterId, IsNamed, IsCall, marking_after, answer_after}

-- the site that alone answers the call; whether the marking is accepting all sites answer together
abbrev pub asked : Call → Option ℕ
asked (Exec i e) = Some i
asked (Look i) = Some i
asked (Enabled i) = Some i
asked Accepting = None

-- the least of what the sites of these fronts wait for, each by the entries that its front has seen
abbrev pub waits_by : ClusterId → List FrontValue → Option ℕ
waits_by c fronts = fold lesser None (map (λ (f : FrontValue). owned_waits c.rules (row c.owned f.site) (marking_after c f.front)) fronts)

-- the entries' calls have numbers of sites and atoms
abbrev pub AreCalls : ClusterId → List Entry → Type 0
AreCalls c J = All (λ (entry : Entry). IsCall c entry.call) J

-- What the graph answers after the entries that the asked site's front has seen, it answers after all entries of the
-- journal, of which the front has missed none.
abbrev pub AnswersHold : Type 0
AnswersHold = (c : ClusterId) (turn : TurnId) (front : FrontValue) (J : List Entry) (call : Call) → IsNamed c turn → IsCall c call
    → asked call ≡ Some front.site → AreCalls c J → HasMissedNone turn front J → answer_after c front.front call ≡ answer_after c J call

-- What the sites wait for, each by the entries that its front has seen, the graph waits for after all entries, of which
-- no front has missed one.
abbrev pub WaitsHold : Type 0
WaitsHold = (c : ClusterId) (turn : TurnId) (fronts : List FrontValue) (J : List Entry) → IsNamed c turn
    → map (λ (f : FrontValue). f.site) fronts ≡ range_with_len 0 (length c.owned) → AreCalls c J → All (λ f. HasMissedNone turn f J) fronts
    → verdict_of (waits_by c fronts) ≡ answer_after c J Accepting
