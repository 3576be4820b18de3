-- The parts of a cluster of a case, and what it ends with.
use Rattle.std.proofs.Common.{◌≡◌, ℕ, ◌≤◌, List, length, Option, sym, ap, subst, ◌∙◌, arith}
use Rattle.std.specs.List.{All}
use Rattle.dcr_base.specs.Disk.{DiskView}
use Rattle.dcr_graph.specs.Cause.{waits}
use Rattle.dcr_graph.specs.GraphValue.{rules_of}
use Rattle.dcr_graph.specs.Projection.{HasRoom}
use Rattle.dcr_graph.specs.declared.marking.Marking.{Marking}
use Rattle.dcr_journal.specs.Run.{IsInRange, IsLegal, after, marks_at}
use Rattle.dcr_journal.specs.declared.call.Call.{Call}
use Rattle.dcr_journal.specs.declared.closed.Closed.{Closed}
use Rattle.dcr_json.specs.Built.{IsCase}
use Rattle.dcr_json.specs.declared.case.Case.{Case}
use Rattle.dcr_proj.specs.CoverValue.{IsCovered}
use Rattle.dcr_run.specs.SitesModel.{alphabets_in}
use Rattle.dcr_site.specs.Seen.{Seen}
use Rattle.dcr_site.specs.Together.{AllStand}
use Rattle.dcr_tape.specs.declared.entry.TapeEntry.{TapeEntry}
use Rattle.dcr_tape.specs.declared.tape.Store.{Store}
use Rattle.dcr_turn.specs.PassValue.{PassValue}
use Rattle.dcr_turn.specs.TurnId.{TurnId}
use Rattle.dcr_cell.specs.ClusterId.{ClusterId, IsCall}
use Rattle.dcr_cluster.specs.Closing.{IsEnd}
use Rattle.dcr_cluster.proofs.OpeningLemmas.{alphabets_of_stand, begun_room}
use Rattle.dcr_cluster_rows.specs.Made.{AreOfCase, IsOfCase, cluster_of}

-- sites that stand at the opening marking of a case, and the turn of their alphabets
pub parts_named : (case : Case) (turn : TurnId) (sites : List Seen) → IsCase case → IsCovered (length case.graph.names) case.cover.owned
    → AllStand (rules_of case.graph) case.cover.owned case.opening sites → turn.alphabets ≡ alphabets_in sites → AreOfCase case turn sites
parts_named case turn sites is covered stand alphabets =
    let cover = is.accepted_cover.is_cover in
    record {
      named = λ old few. record {
        alphabets = alphabets ∙ alphabets_of_stand (rules_of case.graph) case.cover.owned case.opening sites stand;
        some_site = omega (arith, cover.some_site, cover.as_many);
        most_sites = omega (arith, cover.most_sites, cover.as_many);
        rooms = is.rooms;
        covered = covered;
        opening = is.opening;
        few_old = few;
      };
      stand = stand;
    }

-- a call of so many sites and atoms is one of the cluster
pub is_call : (case : Case) (old : List TapeEntry) (c : ClusterId) (call : Call) → c ≡ cluster_of case old → IsCase case
    → IsInRange (length case.cover.names) (length case.graph.names) call → IsCall c call
is_call case old c call is fits range =
    subst (λ (d : ClusterId). IsCall d call) (sym is)
    (subst (λ n. IsInRange n (length case.graph.names) call) (sym fits.accepted_cover.is_cover.as_many) range)

-- what the cluster of a case ends with
pub ended : {D : Type 0} (view : D → DiskView) (faults : D → ℕ) (case : Case) (old : List TapeEntry) (c : ClusterId) (turn blank : TurnId) (sites : List Seen) (first : Option (Store D))
    (capacity : ℕ) (passes : List PassValue) (closed : Closed) (store : Store D) → c ≡ cluster_of case old → AreOfCase case blank sites → length old ≤ 1000000
    → IsEnd view faults c turn first capacity passes closed store → IsOfCase case closed
ended view faults case old c turn blank sites first capacity passes closed store is parts few end =
    let k = cluster_of case old in
    let G = rules_of case.graph in
    let J = closed.history.entries in
    let at : IsEnd view faults k turn first capacity passes closed store = subst (λ (d : ClusterId). IsEnd view faults d turn first capacity passes closed store) is end in
    record {
      room = subst (λ (M : Marking). HasRoom (length case.graph.names) M) (sym at.opening) (begun_room k blank (parts.named old few));
      legal = subst (λ (M : Marking). IsLegal G case.cover.owned M J) (sym at.opening) at.legal;
      marks = at.marks ∙ ap (λ (M : Marking). marks_at G case.cover.owned (after G M J)) (sym at.opening);
      waits = at.waits ∙ ap (λ (M : Marking). waits G.atoms (after G M J)) (sym at.opening);
    }

-- the calls of a case's sessions are calls of its cluster
pub are_calls : (case : Case) (old : List TapeEntry) (c : ClusterId) → c ≡ cluster_of case old → IsCase case → All (λ (calls : List Call). All (IsCall c) calls) case.sessions
are_calls case old c is fits =
    subst (λ (d : ClusterId). All (λ (calls : List Call). All (IsCall d) calls) case.sessions) (sym is)
    (subst (λ n. All (λ (calls : List Call). All (IsInRange n (length case.graph.names)) calls) case.sessions)
    (sym fits.accepted_cover.is_cover.as_many) fits.calls_in_range)
