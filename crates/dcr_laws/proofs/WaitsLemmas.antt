-- What the sites of a cover wait for is what the graph waits for.
use Rattle.std.proofs.Common.{◌≡◌, ℕ, Bool, true, false, ◌&&◌, ◌||◌, List, [], ◌∷◌, map, refl, sym, ap, ◌∙◌}
use Rattle.std.specs.List.{zip, fold}
use Rattle.dcr_set.specs.Least.{least, lesser}
use Rattle.dcr_set.specs.EventSet.{Set, has}
use Rattle.dcr_set.proofs.LeastLemmas.{least-ext, least-none_from, lesser-least}
use Rattle.dcr_set.proofs.SetLemmas.{has-those}
use Rattle.dcr_graph.specs.Rules.{Rules}
use Rattle.dcr_graph.specs.Projection.{project, tracks_included, tracks_pending, is_condition_source, is_milestone_source}
use Rattle.dcr_graph.specs.declared.marking.Marking.{Marking}
use Rattle.dcr_graph.proofs.BoolLemmas.{and_true, or_false}
use Rattle.dcr_proj.specs.CoverValue.{is_owned}
use Rattle.dcr_journal.specs.Run.{marks_at}
use Rattle.dcr_laws.specs.AtSites.{Site, waits_at}
use Rattle.dcr_laws.specs.Laws.{SitesWaitAsTheGraph}

-- an owned event is tracked
owned_and_tracked : (owned included pending x y : Bool) → (owned && ((included && (owned || x)) && (pending && (owned || y)))) ≡ (owned && (included && pending))
owned_and_tracked true included pending x y = ap (λ t. t && (pending && true)) (and_true included) ∙ ap (λ t. included && t) (and_true pending)
owned_and_tracked false included pending x y = refl

-- what a site waits for, by its projection
pub waits_at-project : (G : Rules) (S : Set) (M : Marking) → waits_at G.atoms S (project G S M) ≡ least G.atoms (λ a. has S a && (has M.included a && has M.pending a))
waits_at-project G S M = least-ext G.atoms (λ a. has S a && (has (project G S M).included a && has (project G S M).pending a)) (λ a. has S a && (has M.included a && has M.pending a)) (λ a below.
    ap (λ t. has S a && (t && has (project G S M).pending a)) (has-those G.atoms (λ k. has M.included k && tracks_included G S k) a below)
    ∙ ap (λ t. has S a && ((has M.included a && tracks_included G S a) && t)) (has-those G.atoms (λ k. has M.pending k && tracks_pending G S k) a below)
    ∙ owned_and_tracked (has S a) (has M.included a) (has M.pending a) (is_condition_source G S a || is_milestone_source G S a) (is_milestone_source G S a))

one_more : (before here after waits : Bool) → ((before || (here && waits)) || (after && waits)) ≡ (before || ((here || after) && waits))
one_more true here after waits = refl
one_more false true true true = refl
one_more false true true false = refl
one_more false true false true = refl
one_more false true false false = refl
one_more false false after waits = refl

-- what some sites wait for, after a number that was found before
waits_from : (G : Rules) (M : Marking) (C : List Set) (p : ℕ → Bool)
    → fold lesser (least G.atoms p) (map (λ (site : Site). waits_at G.atoms site.0 site.1) (zip C (marks_at G C M)))
    ≡ least G.atoms (λ a. p a || (is_owned C a && (has M.included a && has M.pending a)))
waits_from G M [] p = least-ext G.atoms p (λ a. p a || false) (λ a below. sym (or_false (p a)))
waits_from G M (S ∷ C) p =
    let w : ℕ → Bool = λ a. has M.included a && has M.pending a in
    ap (λ o. fold lesser (lesser (least G.atoms p) o) (map (λ (site : Site). waits_at G.atoms site.0 site.1) (zip C (marks_at G C M)))) (waits_at-project G S M)
    ∙ ap (λ o. fold lesser o (map (λ (site : Site). waits_at G.atoms site.0 site.1) (zip C (marks_at G C M)))) (lesser-least G.atoms p (λ a. has S a && w a))
    ∙ waits_from G M C (λ a. p a || (has S a && w a))
    ∙ least-ext G.atoms (λ a. (p a || (has S a && w a)) || (is_owned C a && w a)) (λ a. p a || (is_owned (S ∷ C) a && w a))
    (λ a below. one_more (p a) (has S a) (is_owned C a) (w a))

pub sites_wait_as_the_graph : SitesWaitAsTheGraph
sites_wait_as_the_graph G C M covered =
    let sites = map (λ (site : Site). waits_at G.atoms site.0 site.1) (zip C (marks_at G C M)) in
    ap (λ o. fold lesser o sites) (sym (least-none_from G.atoms (λ _. false) (λ _ _. refl)))
    ∙ waits_from G M C (λ _. false)
    ∙ least-ext G.atoms (λ a. is_owned C a && (has M.included a && has M.pending a)) (λ a. has M.included a && has M.pending a)
    (λ a below. ap (λ t. t && (has M.included a && has M.pending a)) (covered a below))
