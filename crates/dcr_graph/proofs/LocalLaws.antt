-- Local decisions are global ones: the cause read over a site's marks and rules is the graph's, and the step over
-- them is the projection of the graph's step.
use Rattle.std.proofs.Common.{◌≡◌, ℕ, ◌<◌, Bool, true, false, not, ◌&&◌, ◌||◌, eqb, cond, Some, refl, sym, ap, ◌∙◌}
use Rattle.std.proofs.lemmas.Bool.{false≢true, or_left, or_right, eqb-true, false_from_ne_true}
use Rattle.dcr_set.specs.Least.{least}
use Rattle.dcr_set.specs.EventSet.{Set, has}
use Rattle.dcr_set.proofs.LeastLemmas.{least-ext, some_below-at}
use Rattle.dcr_set.proofs.SetLemmas.{has-those, those-ext}
use Rattle.dcr_graph.specs.Rules.{Rules}
use Rattle.dcr_graph.specs.Cause.{cause, is_open_condition, is_pending_milestone}
use Rattle.dcr_graph.specs.Step.{step, executed_after, pending_after, included_after}
use Rattle.dcr_graph.specs.Projection.{leads_to, is_condition_source, is_milestone_source, tracks_included, tracks_executed, tracks_pending, in_alphabet, local_rules, project, as_marking, local_step}
use Rattle.dcr_graph.specs.declared.kind.Kind.{Kind}
use Rattle.dcr_graph.specs.declared.kind.Kind.TheVariants.{Condition, Response, Milestone, Include, Exclude, Cancel}
use Rattle.dcr_graph.specs.declared.kind.Cause.TheVariants.{Excluded}
use Rattle.dcr_graph.specs.declared.marking.Marking.{Marking}
use Rattle.dcr_graph.specs.declared.marking.SiteMark.{SiteMark}
use Rattle.dcr_graph.proofs.CauseLemmas.{first_block}
use Rattle.dcr_graph.proofs.BoolLemmas.{and_true, cut_or, cut_pending, cut_included, left_out, kept_or, kept_pending, kept_included}

and_both : (a b : Bool) → a ≡ true → b ≡ true → (a && b) ≡ true
and_both a b ea eb = ap (λ t. t && b) ea ∙ eb

pub leads_to-at : (G : Rules) (kind : Kind) (p : ℕ → Bool) (a b : ℕ) → b < G.atoms → p b ≡ true → G.related kind a b ≡ true → leads_to G kind p a ≡ true
leads_to-at G kind p a b below passes related = some_below-at G.atoms (λ k. p k && G.related kind a k) b below (and_both (p b) (G.related kind a b) passes related)

-- the site's marks at an atom
executed_at : (G : Rules) (S : Set) (M : Marking) (k : ℕ) → k < G.atoms → has (project G S M).executed k ≡ (has M.executed k && tracks_executed G S k)
executed_at G S M k below = has-those G.atoms (λ j. has M.executed j && tracks_executed G S j) k below

pending_at : (G : Rules) (S : Set) (M : Marking) (k : ℕ) → k < G.atoms → has (project G S M).pending k ≡ (has M.pending k && tracks_pending G S k)
pending_at G S M k below = has-those G.atoms (λ j. has M.pending j && tracks_pending G S j) k below

included_at : (G : Rules) (S : Set) (M : Marking) (k : ℕ) → k < G.atoms → has (project G S M).included k ≡ (has M.included k && tracks_included G S k)
included_at G S M k below = has-those G.atoms (λ j. has M.included j && tracks_included G S j) k below

-- Law of the local cause: for an owned event the cause read over the projection and the local relations is the cause.
module _ (G : Rules) (S : Set) (M : Marking) (e : ℕ) (owned : has S e ≡ true) (atom : e < G.atoms) where
  local : Marking
  local = as_marking (project G S M)

  open_conditions : (c : ℕ) → c < G.atoms → is_open_condition (local_rules G S) (as_marking (project G S M)) e c ≡ is_open_condition G M e c
  open_conditions c below =
      ap (λ t. (G.related Condition c e && t) && (has (project G S M).included c && not (has (project G S M).executed c))) owned
      ∙ ap (λ t. t && (has (project G S M).included c && not (has (project G S M).executed c))) (and_true (G.related Condition c e))
      ∙ ap (λ t. G.related Condition c e && (t && not (has (project G S M).executed c))) (included_at G S M c below)
      ∙ ap (λ t. G.related Condition c e && ((has M.included c && tracks_included G S c) && not t)) (executed_at G S M c below)
      ∙ left_out (G.related Condition c e) true (λ t. has M.included c && t) (λ t. not (has M.executed c && t)) (tracks_included G S c) (tracks_executed G S c)
      (λ related. or_right (has S c) (is_condition_source G S c || is_milestone_source G S c) (or_left (is_condition_source G S c) (is_milestone_source G S c) (leads_to-at G Condition (has S) c e atom owned related)))
      (λ related. or_right (has S c) (is_condition_source G S c) (leads_to-at G Condition (has S) c e atom owned related))
      ∙ ap (λ t. G.related Condition c e && (t && not (has M.executed c && true))) (and_true (has M.included c))
      ∙ ap (λ t. G.related Condition c e && (has M.included c && not t)) (and_true (has M.executed c))

  pending_milestones : (m : ℕ) → m < G.atoms → is_pending_milestone (local_rules G S) (as_marking (project G S M)) e m ≡ is_pending_milestone G M e m
  pending_milestones m below =
      ap (λ t. (G.related Milestone m e && t) && (has (project G S M).included m && has (project G S M).pending m)) owned
      ∙ ap (λ t. t && (has (project G S M).included m && has (project G S M).pending m)) (and_true (G.related Milestone m e))
      ∙ ap (λ t. G.related Milestone m e && (t && has (project G S M).pending m)) (included_at G S M m below)
      ∙ ap (λ t. G.related Milestone m e && ((has M.included m && tracks_included G S m) && t)) (pending_at G S M m below)
      ∙ left_out (G.related Milestone m e) true (λ t. has M.included m && t) (λ t. has M.pending m && t) (tracks_included G S m) (tracks_pending G S m)
      (λ related. or_right (has S m) (is_condition_source G S m || is_milestone_source G S m) (or_right (is_condition_source G S m) (is_milestone_source G S m) (leads_to-at G Milestone (has S) m e atom owned related)))
      (λ related. or_right (has S m) (is_milestone_source G S m) (leads_to-at G Milestone (has S) m e atom owned related))
      ∙ ap (λ t. G.related Milestone m e && (t && (has M.pending m && true))) (and_true (has M.included m))
      ∙ ap (λ t. G.related Milestone m e && (has M.included m && t)) (and_true (has M.pending m))

  pub local_cause : cause (local_rules G S) (as_marking (project G S M)) e ≡ cause G M e
  local_cause =
      ap (λ t. cond t (first_block (least G.atoms (is_open_condition (local_rules G S) (as_marking (project G S M)) e)) (least G.atoms (is_pending_milestone (local_rules G S) (as_marking (project G S M)) e))) (Some Excluded))
      (included_at G S M e atom ∙ ap (λ t. has M.included e && t) (or_left (has S e) (is_condition_source G S e || is_milestone_source G S e) owned) ∙ and_true (has M.included e))
      ∙ ap (λ o. cond (has M.included e) (first_block o (least G.atoms (is_pending_milestone (local_rules G S) (as_marking (project G S M)) e))) (Some Excluded)) (least-ext G.atoms (is_open_condition (local_rules G S) (as_marking (project G S M)) e) (is_open_condition G M e) open_conditions)
      ∙ ap (λ o. cond (has M.included e) (first_block (least G.atoms (is_open_condition G M e)) o) (Some Excluded)) (least-ext G.atoms (is_pending_milestone (local_rules G S) (as_marking (project G S M)) e) (is_pending_milestone G M e) pending_milestones)

-- marks with the same sets are the same
pub same_marks : (ex ex' re re' inc inc' : Set) → ex ≡ ex' → re ≡ re' → inc ≡ inc'
    → (let m : SiteMark = record { executed = ex; pending = re; included = inc } in m) ≡ record { executed = ex'; pending = re'; included = inc' }
same_marks ex ex' re re' inc inc' p q r =
    ap (λ s. let m : SiteMark = record { executed = s; pending = re; included = inc } in m) p
    ∙ ap (λ s. let m : SiteMark = record { executed = ex'; pending = s; included = inc } in m) q
    ∙ ap (λ s. let m : SiteMark = record { executed = ex'; pending = re'; included = s } in m) r

-- Law of the local step: the local step of a projection is the projection of the step.
pub local_step_is : (G : Rules) (S : Set) (M : Marking) (e : ℕ) → local_step G S (project G S M) e ≡ project G S (step G M e)
local_step_is G S M e = same_marks _ _ _ _ _ _
    (those-ext G.atoms (λ k. (eqb k e && tracks_executed G S k) || has (project G S M).executed k) (λ k. has (step G M e).executed k && tracks_executed G S k) (λ k below.
    ap (λ t. (eqb k e && tracks_executed G S k) || t) (executed_at G S M k below)
    ∙ cut_or (tracks_executed G S k) (eqb k e) (has M.executed k)
    ∙ ap (λ t. t && tracks_executed G S k) (sym (has-those G.atoms (executed_after G M e) k below))))
    (those-ext G.atoms (pending_after (local_rules G S) (as_marking (project G S M)) e) (λ k. has (step G M e).pending k && tracks_pending G S k) (λ k below.
    ap (λ t. ((t && not (eqb k e)) && not (G.related Cancel e k && tracks_pending G S k)) || (G.related Response e k && tracks_pending G S k)) (pending_at G S M k below)
    ∙ cut_pending (tracks_pending G S k) (has M.pending k) (eqb k e) (G.related Cancel e k) (G.related Response e k)
    ∙ ap (λ t. t && tracks_pending G S k) (sym (has-those G.atoms (pending_after G M e) k below))))
    (those-ext G.atoms (included_after (local_rules G S) (as_marking (project G S M)) e) (λ k. has (step G M e).included k && tracks_included G S k) (λ k below.
    ap (λ t. (t || (G.related Include e k && tracks_included G S k)) && not (G.related Exclude e k && tracks_included G S k)) (included_at G S M k below)
    ∙ cut_included (tracks_included G S k) (has M.included k) (G.related Include e k) (G.related Exclude e k)
    ∙ ap (λ t. t && tracks_included G S k) (sym (has-those G.atoms (included_after G M e) k below))))

-- what isn't in the alphabet changes no mark that the site has
module _ (G : Rules) (S : Set) (M : Marking) (e : ℕ) (outside : in_alphabet G S e ≡ false) where
  not_tracked : tracks_included G S e ≡ true → ⊥
  not_tracked tracked = false≢true (sym outside ∙ or_left (tracks_included G S e) _ tracked)

  never : (kind : Kind) (t : ℕ → Bool) → (leads_to G kind t e ≡ true → in_alphabet G S e ≡ true) → (k : ℕ) → k < G.atoms → t k ≡ true → G.related kind e k ≡ false
  never kind t heard k below tracked = false_from_ne_true (G.related kind e k) (λ related. false≢true (sym outside ∙ heard (leads_to-at G kind t e k below tracked related)))

  responses_heard : leads_to G Response (tracks_pending G S) e ≡ true → in_alphabet G S e ≡ true
  responses_heard h = or_right (tracks_included G S e) _ (or_left _ _ (or_left _ _ h))

  cancels_heard : leads_to G Cancel (tracks_pending G S) e ≡ true → in_alphabet G S e ≡ true
  cancels_heard h = or_right (tracks_included G S e) _ (or_left _ _ (or_right _ _ h))

  includes_heard : leads_to G Include (tracks_included G S) e ≡ true → in_alphabet G S e ≡ true
  includes_heard h = or_right (tracks_included G S e) _ (or_right _ _ (or_left _ _ h))

  excludes_heard : leads_to G Exclude (tracks_included G S) e ≡ true → in_alphabet G S e ≡ true
  excludes_heard h = or_right (tracks_included G S e) _ (or_right _ _ (or_right _ _ h))

  executed_tracked : tracks_executed G S e ≡ true → tracks_included G S e ≡ true
  executed_tracked h = widen (has S e) (is_condition_source G S e) (is_milestone_source G S e) h
    where
      widen : (a b c : Bool) → (a || b) ≡ true → (a || (b || c)) ≡ true
      widen true b c h = refl
      widen false true c h = refl
      widen false false c h = absurd (false≢true h)

  pending_tracked : tracks_pending G S e ≡ true → tracks_included G S e ≡ true
  pending_tracked h = widen (has S e) (is_condition_source G S e) (is_milestone_source G S e) h
    where
      widen : (a b c : Bool) → (a || c) ≡ true → (a || (b || c)) ≡ true
      widen true b c h = refl
      widen false true c h = refl
      widen false false c h = h

  other : (t : ℕ → Bool) → (t e ≡ true → tracks_included G S e ≡ true) → (k : ℕ) → t k ≡ true → eqb k e ≡ false
  other t tracks k tracked = false_from_ne_true (eqb k e) (λ same. not_tracked (tracks (ap t (sym (eqb-true k e same)) ∙ tracked)))

  pub outside_step : project G S (step G M e) ≡ project G S M
  outside_step = same_marks _ _ _ _ _ _
      (those-ext G.atoms (λ k. has (step G M e).executed k && tracks_executed G S k) (λ k. has M.executed k && tracks_executed G S k) (λ k below.
      ap (λ t. t && tracks_executed G S k) (has-those G.atoms (executed_after G M e) k below)
      ∙ kept_or (tracks_executed G S k) (eqb k e) (has M.executed k) (other (tracks_executed G S) executed_tracked k)))
      (those-ext G.atoms (λ k. has (step G M e).pending k && tracks_pending G S k) (λ k. has M.pending k && tracks_pending G S k) (λ k below.
      ap (λ t. t && tracks_pending G S k) (has-those G.atoms (pending_after G M e) k below)
      ∙ kept_pending (tracks_pending G S k) (has M.pending k) (eqb k e) (G.related Cancel e k) (G.related Response e k)
      (other (tracks_pending G S) pending_tracked k) (never Cancel (tracks_pending G S) cancels_heard k below) (never Response (tracks_pending G S) responses_heard k below)))
      (those-ext G.atoms (λ k. has (step G M e).included k && tracks_included G S k) (λ k. has M.included k && tracks_included G S k) (λ k below.
      ap (λ t. t && tracks_included G S k) (has-those G.atoms (included_after G M e) k below)
      ∙ kept_included (tracks_included G S k) (has M.included k) (G.related Include e k) (G.related Exclude e k)
      (never Include (tracks_included G S) includes_heard k below) (never Exclude (tracks_included G S) excludes_heard k below)))
