-- The fronts that a call lays beside the journal.
use Rattle.std.proofs.Common.{◌≡◌, ℕ, List, [], ◌∷◌, ◌++◌, map, Option, Result, Ok, Err, refl, sym, ap, ◌∙◌, subst, append-nil, append_assoc}
use Rattle.std.specs.Prelude.{MatchResult}
use Rattle.std.specs.List.{All}
use Rattle.std.proofs.lemmas.List.{map-append}
use Rattle.dcr_base.specs.Disk.{DiskView}
use Rattle.dcr_journal.specs.declared.call.Call.{Call}
use Rattle.dcr_journal.specs.declared.call.Entry.{Entry}
use Rattle.dcr_journal.specs.declared.call.Outcome.{Outcome}
use Rattle.dcr_tape.specs.declared.tape.Store.{Store}
use Rattle.dcr_turn.specs.FrontValue.{FrontValue, HasMissedNone, fronts_at}
use Rattle.dcr_turn.specs.GuardValue.{GuardValue, with_enlisted}
use Rattle.dcr_turn.specs.PassValue.{PassValue}
use Rattle.dcr_turn.specs.TurnId.{TurnId}
use Rattle.dcr_cell.specs.Asking.{sites_of}
use Rattle.dcr_cell.specs.ClusterId.{ClusterId}
use Rattle.dcr_cell.specs.declared.kept.Kept.{Kept}
use Rattle.dcr_cluster.specs.Calls.{seeing}
use Rattle.dcr_cluster.specs.Entering.{Entered, MayEnter, Pushed, PushedAs, PushedNone}
use Rattle.dcr_cluster.specs.declared.halt.Halt.{Halt}

-- the sites stay the same when the last front is laid beside the journal
pub same_sites : (row rest : List FrontValue) (last : FrontValue) (enlisted : List ℕ) → row ≡ rest ++ last ∷ []
    → sites_of row ++ enlisted ≡ sites_of rest ++ last.site ∷ enlisted
same_sites row rest last enlisted is =
    ap (λ l. sites_of l ++ enlisted) is
    ∙ ap (λ l. l ++ enlisted) (map-append (λ (f : FrontValue). f.site) rest (last ∷ []))
    ∙ append_assoc (sites_of rest) (last.site ∷ []) enlisted

-- ---- what was done is seen from before the fronts were laid down

-- the fronts of these sites are the old ones, which have seen more
seen_by_all : (J : List Entry) (fronts : List FrontValue) → fronts_at J (sites_of fronts) ≡ map (seeing J) fronts
seen_by_all J [] = refl
seen_by_all J (f ∷ fronts) = ap (λ (l : List FrontValue). seeing J f ∷ l) (seen_by_all J fronts)

module _ {D N : Type 0} (view : D → DiskView) (faults : D → ℕ) (c : ClusterId) (first : Option (Store D)) (capacity : ℕ) where
  ends_alike : (guard after : GuardValue (Kept D N)) (E F : List ℕ) (before then : PassValue) (call : Call) (found : Outcome) (result : Result Outcome Halt)
      → MatchResult result (PushedAs view faults c first capacity (with_enlisted guard E) after before then call found) (PushedNone view faults c first capacity (with_enlisted guard E) after before then)
      → MatchResult result (PushedAs view faults c first capacity guard (with_enlisted after F) before then call found) (PushedNone view faults c first capacity guard (with_enlisted after F) before then)
  ends_alike guard after E F before then call found (Ok outcome) p = record {
    no_fault = p.no_fault;
    room = p.room;
    told = p.told;
    entries = p.entries;
    session = p.session;
    made = p.made;
    stands = p.stands;
  }
  ends_alike guard after E F before then call found (Err halt) p = record {
    entries = p.entries;
    shows = p.shows;
    session = p.session;
    made = p.made;
    stands = p.stands;
  }

  -- with the fronts beside the journal the entry may be made
  pub ready_below : (turn : TurnId) (guard inside : GuardValue (Kept D N)) (pass : PassValue) (call : Call) (found : Outcome) (fronts : List FrontValue)
      → inside ≡ with_enlisted guard (sites_of fronts ++ guard.enlisted)
      → MayEnter view faults c first capacity turn guard pass call found (sites_of fronts ++ guard.enlisted)
      → MayEnter view faults c first capacity turn inside pass call found inside.enlisted
  ready_below turn guard inside pass call found fronts is_inside ready =
      subst (λ (g : GuardValue (Kept D N)). MayEnter view faults c first capacity turn g pass call found g.enlisted) (sym is_inside) record {
        named = ready.named;
        most_entries = ready.most_entries;
        in_range = ready.in_range;
        met = ready.met;
        made = ready.made;
        stands = ready.stands;
        hear = ready.hear;
      }

  -- the fronts go down and come back
  pub entered_row : (turn : TurnId) (guard inside after last : GuardValue (Kept D N)) (before then : PassValue) (call : Call) (found : Outcome) (result : Result Outcome Halt)
      (fronts fronts_after : List FrontValue) → guard.enlisted ≡ []
      → inside ≡ with_enlisted guard (sites_of fronts ++ guard.enlisted) → All (λ f. HasMissedNone turn f guard.entries) fronts
      → Pushed view faults c first capacity inside after before then call found result
      → last ≡ with_enlisted after [] → fronts_after ≡ fronts_at after.entries after.enlisted
      → Entered view faults c first capacity turn guard last before then fronts fronts_after call found result
  entered_row turn guard inside after last before then call found result fronts fronts_after none is_inside missed pushed is_last back =
      let p : Pushed view faults c first capacity (with_enlisted guard (sites_of fronts ++ guard.enlisted)) after before then call found result =
      subst (λ (g : GuardValue (Kept D N)). Pushed view faults c first capacity g after before then call found result) is_inside pushed in
      let sites : after.enlisted ≡ sites_of fronts = p.enlisted ∙ ap (λ l. sites_of fronts ++ l) none ∙ append-nil (sites_of fronts) in
      let entered : Entered view faults c first capacity turn guard (with_enlisted after []) before then fronts fronts_after call found result = record {
        pushed = record {
          enlisted = sym none;
          front = p.front;
          call_ends = ends_alike guard after (sites_of fronts ++ guard.enlisted) [] before then call found result p.call_ends;
        };
        returned = record {
          missed_none = missed;
          fronts = back ∙ ap (fronts_at after.entries) sites ∙ seen_by_all after.entries fronts;
        };
      } in
      subst (λ (g : GuardValue (Kept D N)). Entered view faults c first capacity turn guard g before then fronts fronts_after call found result) (sym is_last) entered
