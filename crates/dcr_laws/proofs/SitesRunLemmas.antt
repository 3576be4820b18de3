-- One call taken by the sites alone is one call of the graph, and so for lists of calls.
use Rattle.std.proofs.Common.{◌≡◌, ℕ, ◌<◌, Bool, true, false, ◌&&◌, List, [], ◌∷◌, ◌++◌, length, Option, Some, None, cond, refl, sym, ap, ◌∙◌}
use Rattle.std.specs.List.{All, fold}
use Rattle.std.specs.Option.{option_map_or, is_none}
use Rattle.std.proofs.lemmas.List.{get_or-map}
use Rattle.std.proofs.lemmas.List.Elements.{All-head, All-tail}
use Rattle.std.proofs.lemmas.List.Sums.{fold_push}
use Rattle.dcr_set.specs.EventSet.{Set, has}
use Rattle.dcr_set.proofs.SetLemmas.{those-ext}
use Rattle.dcr_graph.specs.Rules.{Rules}
use Rattle.dcr_graph.specs.Rows.{row}
use Rattle.dcr_graph.specs.Cause.{enabled_in, cause}
use Rattle.dcr_graph.specs.Step.{step}
use Rattle.dcr_graph.specs.Projection.{in_alphabet, project, local_step}
use Rattle.dcr_graph.specs.declared.marking.Marking.{Marking}
use Rattle.dcr_graph.proofs.LocalLaws.{local_cause, local_step_is, outside_step}
use Rattle.dcr_journal.specs.Answer.{answer, outcome_of, verdict_of}
use Rattle.dcr_journal.specs.Run.{IsInRange, event_done, stepped_by, after, made_by, told_next, marks_at}
use Rattle.dcr_journal.specs.declared.call.Call.{Call}
use Rattle.dcr_journal.specs.declared.call.Call.TheVariants.{Exec, Look, Enabled, Accepting}
use Rattle.dcr_journal.specs.declared.call.Outcome.{Outcome}
use Rattle.dcr_journal.specs.declared.call.Outcome.TheVariants.{NotHere, Marks, Can}
use Rattle.dcr_journal.specs.declared.call.Entry.{Entry}
use Rattle.dcr_proj.specs.CoverValue.{IsCovered}
use Rattle.dcr_laws.specs.AtSites.{no_mark, mark_of, cause_at, enabled_at, stepped_over}
use Rattle.dcr_laws.specs.SitesRun.{Run, local_answer, local_next, seen_after}
use Rattle.dcr_laws.specs.Laws.{SitesRunAsTheGraph}
use Rattle.dcr_laws.proofs.WaitsLemmas.{sites_wait_as_the_graph}

mark_of-marks_at : (G : Rules) (C : List Set) (N : Marking) (i : ℕ) → i < length C → mark_of (marks_at G C N) i ≡ project G (row C i) N
mark_of-marks_at G C N i below = get_or-map (λ S. project G S N) C i [] no_mark below

-- what a site decides of an event, where it owns it or not
pub decided : (G : Rules) (S : Set) (N : Marking) (e : ℕ) → e < G.atoms → (owned : Bool) → has S e ≡ owned
    → cond owned (outcome_of (cause_at G S (project G S N) e)) NotHere ≡ cond owned (outcome_of (cause G N e)) NotHere
decided G S N e atom true owned = ap outcome_of (local_cause G S N e owned atom)
decided G S N e atom false owned = refl

-- whether an event is enabled, where the site owns it or not
enabled_alike : (G : Rules) (S : Set) (N : Marking) (e : ℕ) → e < G.atoms → (owned : Bool) → has S e ≡ owned
    → (owned && is_none (cause_at G S (project G S N) e)) ≡ (owned && is_none (cause G N e))
enabled_alike G S N e atom true owned = ap is_none (local_cause G S N e owned atom)
enabled_alike G S N e atom false owned = refl

-- what is enabled at a site, by its projection
pub enabled_at-project : (G : Rules) (S : Set) (N : Marking) → enabled_at G S (project G S N) ≡ enabled_in G S N
enabled_at-project G S N = those-ext G.atoms (λ a. has S a && is_none (cause_at G S (project G S N) a)) (λ a. has S a && is_none (cause G N a))
    (λ a below. enabled_alike G S N a below (has S a) refl)

answers_alike : (G : Rules) (C : List Set) (N : Marking) → IsCovered G.atoms C → (call : Call) → IsInRange (length C) G.atoms call
    → local_answer G C (marks_at G C N) call ≡ answer G C N call
answers_alike G C N covered (Exec i e) (site, atom) =
    ap (λ m. cond (has (row C i) e) (outcome_of (cause_at G (row C i) m e)) NotHere) (mark_of-marks_at G C N i site)
    ∙ decided G (row C i) N e atom (has (row C i) e) refl
answers_alike G C N covered (Look i) site = ap Marks (mark_of-marks_at G C N i site)
answers_alike G C N covered (Enabled i) site =
    ap Can (ap (λ m. enabled_at G (row C i) m) (mark_of-marks_at G C N i site) ∙ enabled_at-project G (row C i) N)
answers_alike G C N covered Accepting _ = ap verdict_of (sites_wait_as_the_graph G C N covered)

-- a site steps, or doesn't hear of the event
site_steps : (G : Rules) (S : Set) (N : Marking) (e : ℕ) (heard : Bool) → in_alphabet G S e ≡ heard
    → cond heard (local_step G S (project G S N) e) (project G S N) ≡ project G S (step G N e)
site_steps G S N e true heard = local_step_is G S N e
site_steps G S N e false heard = sym (outside_step G S N e heard)

sites_step : (G : Rules) (C : List Set) (N : Marking) (e : ℕ) → stepped_over G C (marks_at G C N) e ≡ marks_at G C (step G N e)
sites_step G [] N e = refl
sites_step G (S ∷ C) N e =
    ap (λ m. m ∷ stepped_over G C (marks_at G C N) e) (site_steps G S N e (in_alphabet G S e) refl)
    ∙ ap (λ ms. project G S (step G N e) ∷ ms) (sites_step G C N e)

stepped_alike : (G : Rules) (C : List Set) (N : Marking) (event : Option ℕ)
    → option_map_or (stepped_over G C (marks_at G C N)) event (marks_at G C N) ≡ marks_at G C (option_map_or (step G N) event N)
stepped_alike G C N None = refl
stepped_alike G C N (Some e) = sites_step G C N e

next_alike : (G : Rules) (C : List Set) (M : Marking) → IsCovered G.atoms C → (J : List Entry) (asked : ℕ × Call) → IsInRange (length C) G.atoms asked.1
    → local_next G C (seen_after G C M J) asked ≡ seen_after G C M (told_next G C M J asked)
next_alike G C M covered J asked in_range =
    let N = after G M J in
    let marks = marks_at G C N in
    let entry : Outcome → Entry = λ o. record { session = asked.0; seq = made_by asked.0 J; call = asked.1; outcome = o } in
    let next : Outcome → Run = λ o. record { entries = J ++ entry o ∷ []; marks = option_map_or (stepped_over G C marks) (event_done asked.1 o) marks } in
    let o = answer G C N asked.1 in
    ap next (answers_alike G C N covered asked.1 in_range)
    ∙ ap (λ ms. let r : Run = record { entries = J ++ entry o ∷ []; marks = ms } in r)
    (stepped_alike G C N (event_done asked.1 o) ∙ ap (λ X. marks_at G C X) (sym (fold_push (λ X (x : Entry). stepped_by G X x.call x.outcome) M J (entry o))))

runs_alike : (G : Rules) (C : List Set) (M : Marking) → IsCovered G.atoms C → (asked : List (ℕ × Call)) (J : List Entry)
    → All (λ (a : ℕ × Call). IsInRange (length C) G.atoms a.1) asked
    → fold (local_next G C) (seen_after G C M J) asked ≡ seen_after G C M (fold (told_next G C M) J asked)
runs_alike G C M covered [] J in_range = refl
runs_alike G C M covered (a ∷ asked) J in_range =
    ap (λ r. fold (local_next G C) r asked) (next_alike G C M covered J a (All-head (λ (x : ℕ × Call). IsInRange (length C) G.atoms x.1) a asked in_range))
    ∙ runs_alike G C M covered asked (told_next G C M J a) (All-tail (λ (x : ℕ × Call). IsInRange (length C) G.atoms x.1) a asked in_range)

pub sites_run_as_the_graph : SitesRunAsTheGraph
sites_run_as_the_graph G C M asked covered in_range = runs_alike G C M covered asked [] in_range
