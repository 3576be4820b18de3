-- What the masks of a site decide and do, where the site stands at a marking.
use Rattle.std.proofs.Common.{◌≡◌, ℕ, ◌<◌, Bool, true, false, not, ◌&&◌, ◌||◌, eqb, cond, length, get_or, Option, Some, None, refl, sym, ap, subst, ◌∙◌, arith}
use Rattle.std.proofs.lemmas.Bool.{eqb-true, or_left}
use Rattle.dcr_set.specs.Least.{least}
use Rattle.dcr_set.specs.EventSet.{Set, has, those, with_event, without_event, union, difference, first_in_both_without, first_in_three}
use Rattle.dcr_set.proofs.LeastLemmas.{least-ext}
use Rattle.dcr_set.proofs.SetLemmas.{has-those, length-those, those-ext, those-has}
use Rattle.dcr_set.proofs.ToldLemmas.{union-those, union_set-those, difference-those, intersection_set-those}
use Rattle.dcr_graph.specs.Rules.{Rules}
use Rattle.dcr_graph.specs.Cause.{cause, is_open_condition, is_pending_milestone}
use Rattle.dcr_graph.specs.Step.{step}
use Rattle.dcr_graph.specs.Projection.{tracks_included, tracks_executed, tracks_pending, in_alphabet, local_rules, project, as_marking, local_step, HasRoom}
use Rattle.dcr_graph.specs.declared.kind.Kind.TheVariants as kind
use Rattle.dcr_graph.specs.declared.kind.Cause.{Cause}
use Rattle.dcr_graph.specs.declared.kind.Cause.TheVariants.{Excluded}
use Rattle.dcr_graph.specs.declared.marking.Marking.{Marking}
use Rattle.dcr_graph.specs.declared.marking.SiteMark.{SiteMark}
use Rattle.dcr_graph.proofs.BoolLemmas.{and_true, left_out}
use Rattle.dcr_graph.proofs.LocalLaws.{local_cause, local_step_is, outside_step, same_marks}
use Rattle.dcr_graph.proofs.CauseLemmas.{first_block}
use Rattle.dcr_proj.specs.Rows.{GuardMasks, EffectMasks, guards_of, effects_of}
use Rattle.dcr_proj.specs.Local.{Local, projection_of, cut_to}
use Rattle.dcr_site.specs.Decision.{by_cause, decision, owned_waits}
use Rattle.dcr_site.specs.Seen.{Seen, StandsAt}
use Rattle.dcr_site.specs.declared.site.Decision.TheVariants.{NotHere, Blocked}
use Rattle.dcr_proj.specs.MarksAfter.{marks_after}
use Rattle.dcr_proj.proofs.RowLemmas.{row_at}
use Rattle.dcr_proj.proofs.ProjectionLemmas.{below_room}

-- ---- deciding

-- the cause that masks and marks tell
abbrev pub cause_by_masks : GuardMasks → SiteMark → ℕ → Option Cause
cause_by_masks row m e = cond (has m.included e) (first_block (first_in_both_without row.condition m.included m.executed) (first_in_three row.milestone m.included m.pending)) (Some Excluded)

module _ (G : Rules) (S : Set) (M : Marking) (e : ℕ) (owned : has S e ≡ true) (atom : e < G.atoms) where
  conditions : first_in_both_without (guards_of G e).condition (project G S M).included (project G S M).executed ≡ least G.atoms (is_open_condition (local_rules G S) (as_marking (project G S M)) e)
  conditions =
      ap (λ n. least n (λ k. has (guards_of G e).condition k && (has (project G S M).included k && not (has (project G S M).executed k)))) (length-those G.atoms (λ c. G.related kind.Condition c e))
      ∙ least-ext G.atoms _ _ (λ c below.
      ap (λ t. t && (has (project G S M).included c && not (has (project G S M).executed c)))
      (has-those G.atoms (λ k. G.related kind.Condition k e) c below ∙ sym (ap (λ t. G.related kind.Condition c e && t) owned ∙ and_true (G.related kind.Condition c e))))

  milestones : first_in_three (guards_of G e).milestone (project G S M).included (project G S M).pending ≡ least G.atoms (is_pending_milestone (local_rules G S) (as_marking (project G S M)) e)
  milestones =
      ap (λ n. least n (λ k. has (guards_of G e).milestone k && (has (project G S M).included k && has (project G S M).pending k))) (length-those G.atoms (λ m. G.related kind.Milestone m e))
      ∙ least-ext G.atoms _ _ (λ m below.
      ap (λ t. t && (has (project G S M).included m && has (project G S M).pending m))
      (has-those G.atoms (λ k. G.related kind.Milestone k e) m below ∙ sym (ap (λ t. G.related kind.Milestone m e && t) owned ∙ and_true (G.related kind.Milestone m e))))

  pub masks_tell : cause_by_masks (guards_of G e) (project G S M) e ≡ cause G M e
  masks_tell =
      ap (λ o. cond (has (project G S M).included e) (first_block o (first_in_three (guards_of G e).milestone (project G S M).included (project G S M).pending)) (Some Excluded)) conditions
      ∙ ap (λ o. cond (has (project G S M).included e) (first_block (least G.atoms (is_open_condition (local_rules G S) (as_marking (project G S M)) e)) o) (Some Excluded)) milestones
      ∙ local_cause G S M e owned atom

  pub decided : by_cause (cause_by_masks (guards_of G e) (project G S M) e) ≡ decision G S M e
  decided = ap by_cause masks_tell ∙ sym (ap (λ t. cond t (by_cause (cause G M e)) NotHere) owned)

pub not_owned : (G : Rules) (S : Set) (M : Marking) (e : ℕ) → has S e ≡ false → NotHere ≡ decision G S M e
not_owned G S M e outside = sym (ap (λ t. cond t (by_cause (cause G M e)) NotHere) outside)

-- ---- applying

module _ (G : Rules) (S : Set) (M : Marking) (e : ℕ) where
  executed_next : (tracked : Bool) → tracks_executed G S e ≡ tracked
      → cond tracked (with_event (project G S M).executed e) (project G S M).executed ≡ (local_step G S (project G S M) e).executed
  executed_next true is =
      ap (λ n. those n (λ k. eqb k e || has (project G S M).executed k)) (length-those G.atoms (λ k. has M.executed k && tracks_executed G S k))
      ∙ those-ext G.atoms _ _ (λ k _. ap (λ t. t || has (project G S M).executed k) (itself k (eqb k e) refl))
    where
      itself : (k : ℕ) (b : Bool) → eqb k e ≡ b → b ≡ (b && tracks_executed G S k)
      itself k true same = sym (ap (tracks_executed G S) (eqb-true k e same) ∙ is)
      itself k false same = refl
  executed_next false is =
      sym (those-has (project G S M).executed) ∙ ap (λ n. those n (has (project G S M).executed)) (length-those G.atoms (λ k. has M.executed k && tracks_executed G S k))
      ∙ those-ext G.atoms _ _ (λ k _. ap (λ t. t || has (project G S M).executed k) (nothing k (eqb k e) refl))
    where
      nothing : (k : ℕ) (b : Bool) → eqb k e ≡ b → false ≡ (b && tracks_executed G S k)
      nothing k true same = sym (ap (tracks_executed G S) (eqb-true k e same) ∙ is)
      nothing k false same = refl

  pending_next : union (difference (without_event (project G S M).pending e) (effects_of G S e).cancel) (effects_of G S e).response ≡ (local_step G S (project G S M) e).pending
  pending_next =
      let p = (project G S M).pending in let n = G.atoms in
      let without : without_event p e ≡ those n (λ k. has p k && not (eqb k e)) = ap (λ m. those m (λ k. has p k && not (eqb k e))) (length-those n (λ k. has M.pending k && tracks_pending G S k)) in
      ap (λ s. union (difference s (effects_of G S e).cancel) (effects_of G S e).response) without
      ∙ ap (λ s. union s (effects_of G S e).response) (difference-those n (λ k. has p k && not (eqb k e)) (λ k. (local_rules G S).related kind.Cancel e k))
      ∙ union-those n (λ k. (has p k && not (eqb k e)) && not ((local_rules G S).related kind.Cancel e k)) (λ k. (local_rules G S).related kind.Response e k)

  included_next : difference (union (project G S M).included (effects_of G S e).include) (effects_of G S e).exclude ≡ (local_step G S (project G S M) e).included
  included_next =
      let i = (project G S M).included in let n = G.atoms in
      ap (λ s. difference s (effects_of G S e).exclude) (union_set-those i n (λ k. (local_rules G S).related kind.Include e k) (length-those n (λ k. has M.included k && tracks_included G S k)))
      ∙ difference-those n (λ k. has i k || (local_rules G S).related kind.Include e k) (λ k. (local_rules G S).related kind.Exclude e k)

  -- the masks step the projection
  pub masks_step : (tracked : Bool) → tracks_executed G S e ≡ tracked → marks_after (effects_of G S e) tracked (project G S M) e ≡ project G S (step G M e)
  masks_step tracked is = same_marks _ _ _ _ _ _ (executed_next tracked is) pending_next included_next ∙ local_step_is G S M e

-- ---- a site that stands at a marking

module _ (G : Rules) (S : Set) (M : Marking) (site : Seen) (at : StandsAt G S M site) (e : ℕ) where
  pub atoms_are : length site.projection.tracked_in ≡ length site.projection.own → length site.projection.own ≡ G.atoms
  atoms_are room = sym room ∙ ap (λ P. length P.tracked_in) at.projection ∙ length-those G.atoms (tracks_included G S)

  pub decided_by_masks : (row : GuardMasks) → length site.projection.tracked_in ≡ length site.projection.own → e < length site.projection.own
      → has site.projection.own e ≡ true → get_or site.projection.guards e None ≡ Some row → by_cause (cause_by_masks row site.mark e) ≡ decision G S M e
  decided_by_masks row room within owned there =
      let atom : e < G.atoms = (let n = atoms_are room in omega arith) in
      let own : has S e ≡ true = ap (λ P. has P.own e) (sym at.projection) ∙ owned in
      let found : Some row ≡ Some (guards_of G e) =
      sym there ∙ ap (λ P. get_or P.guards e None) at.projection ∙ row_at G.atoms (has S) (guards_of G) e atom ∙ ap (λ t. cond t (Some (guards_of G e)) None) own in
      let same : row ≡ guards_of G e = cc in
      ap (λ r. by_cause (cause_by_masks r site.mark e)) same ∙ ap (λ m. by_cause (cause_by_masks (guards_of G e) m e)) at.mark ∙ decided G S M e own atom

  pub excluded_by_mark : length site.projection.tracked_in ≡ length site.projection.own → e < length site.projection.own
      → has site.projection.own e ≡ true → has site.mark.included e ≡ false → Blocked Excluded ≡ decision G S M e
  excluded_by_mark room within owned out =
      let atom : e < G.atoms = (let n = atoms_are room in omega arith) in
      let own : has S e ≡ true = ap (λ P. has P.own e) (sym at.projection) ∙ owned in
      sym (ap (λ t. by_cause (cond t (first_block (first_in_both_without (guards_of G e).condition (project G S M).included (project G S M).executed) (first_in_three (guards_of G e).milestone (project G S M).included (project G S M).pending)) (Some Excluded)))
      (ap (λ m. has m.included e) (sym at.mark) ∙ out)) ∙ decided G S M e own atom

  pub stepped_by_masks : (row : EffectMasks) (mark : SiteMark) → has site.projection.alphabet e ≡ true → get_or site.projection.effects e None ≡ Some row
      → mark ≡ marks_after row (has site.projection.tracked_ex e) site.mark e
      → StandsAt G S (step G M e) (record { projection = site.projection; mark = mark })
  stepped_by_masks row mark heard there is =
      let atoms : length site.projection.alphabet ≡ G.atoms = ap (λ P. length P.alphabet) at.projection ∙ length-those G.atoms (in_alphabet G S) in
      let atom : e < G.atoms = (let below = below_room site.projection.alphabet e heard in omega arith) in
      let hears : in_alphabet G S e ≡ true = sym (has-those G.atoms (in_alphabet G S) e atom) ∙ ap (λ P. has P.alphabet e) (sym at.projection) ∙ heard in
      let found : Some row ≡ Some (effects_of G S e) =
      sym there ∙ ap (λ P. get_or P.effects e None) at.projection ∙ row_at G.atoms (in_alphabet G S) (effects_of G S) e atom ∙ ap (λ t. cond t (Some (effects_of G S e)) None) hears in
      let same : row ≡ effects_of G S e = cc in
      let tracked : tracks_executed G S e ≡ has site.projection.tracked_ex e = sym (ap (λ P. has P.tracked_ex e) at.projection ∙ has-those G.atoms (tracks_executed G S) e atom) in
      record {
        projection = at.projection;
        mark = is ∙ ap (λ r. marks_after r (has site.projection.tracked_ex e) site.mark e) same ∙ ap (λ m. marks_after (effects_of G S e) (has site.projection.tracked_ex e) m e) at.mark
            ∙ masks_step G S M e (has site.projection.tracked_ex e) tracked;
      }

-- the least owned event that waits
pub waits_by_marks : (G : Rules) (S : Set) (M : Marking) (site : Seen) → StandsAt G S M site → length site.projection.tracked_in ≡ length site.projection.own
    → first_in_three site.projection.own site.mark.included site.mark.pending ≡ owned_waits G S M
waits_by_marks G S M site at room =
    let atoms : length S ≡ G.atoms = (let n = atoms_are G S M site at 0 room in ap (λ P. length P.own) (sym at.projection) ∙ n) in
    ap (λ P. first_in_three P.own site.mark.included site.mark.pending) at.projection ∙ ap (λ m. first_in_three S m.included m.pending) at.mark
    ∙ ap (λ n. least n (λ k. has S k && (has (project G S M).included k && has (project G S M).pending k))) atoms
    ∙ least-ext G.atoms _ _ (λ k below.
    ap (λ t. has S k && (t && has (project G S M).pending k)) (has-those G.atoms (λ j. has M.included j && tracks_included G S j) k below)
    ∙ ap (λ t. has S k && ((has M.included k && tracks_included G S k) && t)) (has-those G.atoms (λ j. has M.pending j && tracks_pending G S j) k below)
    ∙ left_out (has S k) true (λ t. has M.included k && t) (λ t. has M.pending k && t) (tracks_included G S k) (tracks_pending G S k) (λ owned. or_left (has S k) _ owned) (λ owned. or_left (has S k) _ owned)
    ∙ ap (λ t. has S k && (t && (has M.pending k && true))) (and_true (has M.included k)) ∙ ap (λ t. has S k && (has M.included k && t)) (and_true (has M.pending k)))

-- the marks that a projection cuts out of a marking
pub cut_is : (G : Rules) (S : Set) (M : Marking) → HasRoom G.atoms M → cut_to (projection_of G S) M ≡ project G S M
cut_is G S M room = same_marks _ _ _ _ _ _
    (intersection_set-those M.executed G.atoms (tracks_executed G S) room.executed)
    (intersection_set-those M.pending G.atoms (tracks_pending G S) room.pending)
    (intersection_set-those M.included G.atoms (tracks_included G S) room.included)

pub stands_open : (G : Rules) (S : Set) (M : Marking) (P : Local) (mark : SiteMark) → P ≡ projection_of G S → length P.tracked_in ≡ length P.own → HasRoom (length P.own) M
    → mark ≡ cut_to P M → StandsAt G S M (record { projection = P; mark = mark })
stands_open G S M P mark same room fits cut =
    let atoms : length P.own ≡ G.atoms = sym room ∙ ap (λ Q. length Q.tracked_in) same ∙ length-those G.atoms (tracks_included G S) in
    record { projection = same; mark = cut ∙ ap (λ Q. cut_to Q M) same ∙ cut_is G S M (subst (λ n. HasRoom n M) atoms fits) }

-- an execution outside of the alphabet leaves the site where it is
pub unheard : (G : Rules) (S : Set) (M : Marking) (site : Seen) (e : ℕ) → StandsAt G S M site → length site.projection.alphabet ≡ length site.projection.own
    → e < length site.projection.own → has site.projection.alphabet e ≡ false → StandsAt G S (step G M e) site
unheard G S M site e at room within deaf =
    let atoms : length site.projection.alphabet ≡ G.atoms = ap (λ P. length P.alphabet) at.projection ∙ length-those G.atoms (in_alphabet G S) in
    let outside : in_alphabet G S e ≡ false = sym (has-those G.atoms (in_alphabet G S) e (omega arith)) ∙ ap (λ P. has P.alphabet e) (sym at.projection) ∙ deaf in
    record { projection = at.projection; mark = at.mark ∙ sym (outside_step G S M e outside) }
