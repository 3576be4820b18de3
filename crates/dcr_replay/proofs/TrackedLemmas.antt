-- What a site tracks, by words on sets, and the marks that are cut from a marking.
use Rattle.std.proofs.Common.{◌≡◌, ℕ, ◌<◌, ◌||◌, List, [], length, map, get_or, ap, ◌∙◌}
use Rattle.std.proofs.lemmas.List.{get_or-map}
use Rattle.dcr_set.specs.EventSet.{Set, those, union, intersection}
use Rattle.dcr_set.proofs.SetLemmas.{length-those}
use Rattle.dcr_set.proofs.ToldLemmas.{union-those, union_set-those, intersection_set-those}
use Rattle.dcr_graph.specs.Rules.{Rules}
use Rattle.dcr_graph.specs.Rows.{row}
use Rattle.dcr_graph.specs.Projection.{HasRoom, project, is_condition_source, is_milestone_source, tracks_executed, tracks_pending, tracks_included}
use Rattle.dcr_graph.specs.declared.marking.Marking.{Marking}
use Rattle.dcr_graph.specs.declared.marking.SiteMark.{SiteMark}
use Rattle.dcr_graph.proofs.LocalLaws.{same_marks}
use Rattle.dcr_replay.specs.Tracks.{tracked_of}
use Rattle.dcr_replay.specs.declared.tracked.Tracked.{Tracked}

same_tracked : (a b c : Set) (d e f : Set) → a ≡ d → b ≡ e → c ≡ f
    → (let x : Tracked = record { executed = a; pending = b; included = c } in x) ≡ record { executed = d; pending = e; included = f }
same_tracked a b c d e f p q r =
    ap (λ s. let x : Tracked = record { executed = s; pending = b; included = c } in x) p
    ∙ ap (λ s. let x : Tracked = record { executed = d; pending = s; included = c } in x) q
    ∙ ap (λ s. let x : Tracked = record { executed = d; pending = e; included = s } in x) r

-- what is tracked, from the owned atoms and the sources of conditions and milestones
pub tracked_is : (G : Rules) (S conditions milestones executed pending both included : Set) → length S ≡ G.atoms
    → conditions ≡ those G.atoms (is_condition_source G S) → milestones ≡ those G.atoms (is_milestone_source G S)
    → executed ≡ union S conditions → pending ≡ union S milestones → both ≡ union conditions milestones → included ≡ union S both
    → (let x : Tracked = record { executed = executed; pending = pending; included = included } in x) ≡ tracked_of G S
tracked_is G S conditions milestones executed pending both included room c m ex re b inc =
    same_tracked executed pending included _ _ _
    (ex ∙ ap (union S) c ∙ union_set-those S G.atoms (is_condition_source G S) room)
    (re ∙ ap (union S) m ∙ union_set-those S G.atoms (is_milestone_source G S) room)
    (inc ∙ ap (union S) (b ∙ ap (λ s. union s milestones) c ∙ ap (union _) m ∙ union-those G.atoms (is_condition_source G S) (is_milestone_source G S))
    ∙ union_set-those S G.atoms (λ k. is_condition_source G S k || is_milestone_source G S k) room)

-- the marks that are cut are the projection
pub cut_told : (G : Rules) (S : Set) (M : Marking) (T : Tracked) (m : SiteMark) → T ≡ tracked_of G S → HasRoom G.atoms M
    → m.executed ≡ intersection M.executed T.executed → m.pending ≡ intersection M.pending T.pending → m.included ≡ intersection M.included T.included
    → m ≡ project G S M
cut_told G S M T m told room ex re inc =
    same_marks m.executed _ m.pending _ m.included _
    (ex ∙ ap (λ (t : Tracked). intersection M.executed t.executed) told ∙ intersection_set-those M.executed G.atoms (tracks_executed G S) room.executed)
    (re ∙ ap (λ (t : Tracked). intersection M.pending t.pending) told ∙ intersection_set-those M.pending G.atoms (tracks_pending G S) room.pending)
    (inc ∙ ap (λ (t : Tracked). intersection M.included t.included) told ∙ intersection_set-those M.included G.atoms (tracks_included G S) room.included)

-- what is tracked at a place
pub tracked_at : (G : Rules) (owned : List Set) (tracked : List Tracked) (i : ℕ) (T : Tracked) → tracked ≡ map (tracked_of G) owned → i < length owned
    → T ≡ get_or tracked i T → T ≡ tracked_of G (row owned i)
tracked_at G owned tracked i T all within is = is ∙ ap (λ each. get_or each i T) all ∙ get_or-map (tracked_of G) owned i [] T within

-- the three sets have a place for each atom
pub record HasRooms (n : ℕ) (T : Tracked) : Type 0 where
  pub executed : length T.executed ≡ n
  pub pending : length T.pending ≡ n
  pub included : length T.included ≡ n

pub tracked_rooms : (G : Rules) (S : Set) (T : Tracked) → T ≡ tracked_of G S → HasRooms G.atoms T
tracked_rooms G S T is = record {
  executed = ap (λ (t : Tracked). length t.executed) is ∙ length-those G.atoms (tracks_executed G S);
  pending = ap (λ (t : Tracked). length t.pending) is ∙ length-those G.atoms (tracks_pending G S);
  included = ap (λ (t : Tracked). length t.included) is ∙ length-those G.atoms (tracks_included G S);
}
