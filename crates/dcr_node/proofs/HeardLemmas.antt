-- What is heard of entries: one entry more, how many executions that are, and the marks that they lead to.
use Rattle.std.proofs.Common.{◌≡◌, ℕ, ◌+◌, ◌<◌, Bool, true, false, cond, List, [], ◌∷◌, ◌++◌, length, take, drop, Option, Some, None, refl, sym, ap, ◌∙◌}
use Rattle.std.specs.List.{All, filter, cons_option}
use Rattle.std.specs.Option.{option_map_or, IfSome}
use Rattle.std.proofs.lemmas.List.{append-nil, length-append, take-append-drop}
use Rattle.std.proofs.lemmas.List.Elements.{filter-append, filter_map-append, All-head, All-tail}
use Rattle.std.proofs.lemmas.List.Sums.{sum_by-cons, fold-append}
use Rattle.dcr_set.specs.EventSet.{Set, has}
use Rattle.dcr_set.proofs.SetLemmas.{has-those}
use Rattle.dcr_graph.specs.Rules.{Rules}
use Rattle.dcr_graph.specs.Step.{step}
use Rattle.dcr_graph.specs.Projection.{in_alphabet, project, local_step}
use Rattle.dcr_graph.specs.declared.marking.Marking.{Marking}
use Rattle.dcr_graph.proofs.LocalLaws.{local_step_is, outside_step}
use Rattle.dcr_journal.specs.Run.{IsInRange, event_done, stepped_by, after, touches}
use Rattle.dcr_journal.specs.declared.call.Call.{Call}
use Rattle.dcr_journal.specs.declared.call.Call.TheVariants.{Exec}
use Rattle.dcr_journal.specs.declared.call.Outcome.{Outcome}
use Rattle.dcr_journal.specs.declared.call.Outcome.TheVariants.{Done}
use Rattle.dcr_journal.specs.declared.call.Entry.{Entry}
use Rattle.dcr_node.specs.Heard.{done_events, heard, stepped_by_all}
use Rattle.dcr_node.specs.Right.{alphabet_of}

-- the event of an entry that was done
abbrev pub event_in : Entry → Option ℕ
event_in entry = event_done entry.call entry.outcome

-- what an event adds to what is heard
abbrev pub heard_of : (ℕ → Bool) → Option ℕ → List ℕ
heard_of alphabet None = []
heard_of alphabet (Some e) = cond (alphabet e) (e ∷ []) []

heard_first : (alphabet : ℕ → Bool) (o : Option ℕ) (es : List ℕ) → filter alphabet (cons_option o es) ≡ heard_of alphabet o ++ filter alphabet es
heard_first alphabet None es = refl
heard_first alphabet (Some e) es = passed (alphabet e)
  where
    passed : (b : Bool) → cond b (e ∷ filter alphabet es) (filter alphabet es) ≡ cond b (e ∷ []) [] ++ filter alphabet es
    passed true = refl
    passed false = refl

pub heard-append : (alphabet : ℕ → Bool) (J K : List Entry) → heard alphabet (J ++ K) ≡ heard alphabet J ++ heard alphabet K
heard-append alphabet J K = ap (filter alphabet) (filter_map-append event_in J K) ∙ filter-append alphabet (done_events J) (done_events K)

heard-cons : (alphabet : ℕ → Bool) (entry : Entry) (J : List Entry) → heard alphabet (entry ∷ J) ≡ heard_of alphabet (event_in entry) ++ heard alphabet J
heard-cons alphabet entry J = heard_first alphabet (event_in entry) (done_events J)

-- one entry more
pub heard_push : (alphabet : ℕ → Bool) (J : List Entry) (entry : Entry) → heard alphabet (J ++ entry ∷ []) ≡ heard alphabet J ++ heard_of alphabet (event_in entry)
heard_push alphabet J entry =
    heard-append alphabet J (entry ∷ [])
    ∙ ap (λ es. heard alphabet J ++ es) (heard-cons alphabet entry [] ∙ append-nil (heard_of alphabet (event_in entry)))

-- what is heard of a beginning begins what is heard of all
pub heard_front : (alphabet : ℕ → Bool) (J : List Entry) (n : ℕ) → heard alphabet J ≡ heard alphabet (take n J) ++ heard alphabet (drop n J)
heard_front alphabet J n = ap (heard alphabet) (sym (take-append-drop n J)) ∙ heard-append alphabet (take n J) (drop n J)

-- as many are heard as touch the alphabet
pub length-heard : (alphabet : ℕ → Bool) (J : List Entry) → length (heard alphabet J) ≡ touches alphabet J
length-heard alphabet [] = refl
length-heard alphabet (entry ∷ J) =
    ap (λ es. length es) (heard-cons alphabet entry J)
    ∙ length-append (heard_of alphabet (event_in entry)) (heard alphabet J)
    ∙ ap (λ n. n + length (heard alphabet J)) (one (event_in entry))
    ∙ ap (λ n. cond (option_map_or alphabet (event_in entry) false) 1 0 + n) (length-heard alphabet J)
    ∙ sym (sum_by-cons (λ (x : Entry). cond (option_map_or alphabet (event_in x) false) 1 0) entry J)
  where
    passed : (e : ℕ) (b : Bool) → length (cond b (e ∷ []) []) ≡ cond b 1 0
    passed e true = refl
    passed e false = refl

    one : (o : Option ℕ) → length (heard_of alphabet o) ≡ cond (option_map_or alphabet o false) 1 0
    one None = refl
    one (Some e) = passed e (alphabet e)

-- ---- the marks

-- marks that are alike step alike
steps_alike : (G : Rules) (S : Set) (N N' : Marking) (e : ℕ) → project G S N ≡ project G S N' → project G S (step G N e) ≡ project G S (step G N' e)
steps_alike G S N N' e alike = sym (local_step_is G S N e) ∙ ap (λ m. local_step G S m e) alike ∙ local_step_is G S N' e

-- an event that is heard, or isn't
hears_or_not : (G : Rules) (S : Set) (N N' : Marking) (e : ℕ) → e < G.atoms → project G S N ≡ project G S N' → (b : Bool) → has (alphabet_of G S) e ≡ b
    → project G S (stepped_by_all G N (cond b (e ∷ []) [])) ≡ project G S (step G N' e)
hears_or_not G S N N' e below alike true h = steps_alike G S N N' e alike
hears_or_not G S N N' e below alike false h = alike ∙ sym (outside_step G S N' e (sym (has-those G.atoms (in_alphabet G S) e below) ∙ h))

one_alike : (G : Rules) (S : Set) (N N' : Marking) (o : Option ℕ) → IfSome o (λ e. e < G.atoms) → project G S N ≡ project G S N'
    → project G S (stepped_by_all G N (heard_of (has (alphabet_of G S)) o)) ≡ project G S (option_map_or (step G N') o N')
one_alike G S N N' None below alike = alike
one_alike G S N N' (Some e) below alike = hears_or_not G S N N' e below alike (has (alphabet_of G S) e) refl

-- an event that was done is an atom
done_below : (sites atoms : ℕ) (call : Call) (outcome : Outcome) → IsInRange sites atoms call → IfSome (event_done call outcome) (λ e. e < atoms)
done_below sites atoms (Exec i e) Done in_range = in_range.1
done_below sites atoms call outcome in_range = tt

marks_from : (G : Rules) (S : Set) (sites : ℕ) (J : List Entry) (N N' : Marking) → All (λ (entry : Entry). IsInRange sites G.atoms entry.call) J → project G S N ≡ project G S N'
    → project G S (stepped_by_all G N (heard (has (alphabet_of G S)) J)) ≡ project G S (after G N' J)
marks_from G S sites [] N N' in_range alike = alike
marks_from G S sites (entry ∷ J) N N' in_range alike =
    let alphabet : ℕ → Bool = has (alphabet_of G S) in
    let first = heard_of alphabet (event_in entry) in
    ap (λ es. project G S (stepped_by_all G N es)) (heard-cons alphabet entry J)
    ∙ ap (λ X. project G S X) (fold-append (step G) N first (heard alphabet J))
    ∙ marks_from G S sites J (stepped_by_all G N first) (stepped_by G N' entry.call entry.outcome)
    (All-tail (λ (x : Entry). IsInRange sites G.atoms x.call) entry J in_range)
    (one_alike G S N N' (event_in entry) (done_below sites G.atoms entry.call entry.outcome (All-head (λ (x : Entry). IsInRange sites G.atoms x.call) entry J in_range)) alike)

-- the opening stepped by what a site heard has the site's projection of the marking after the entries
pub heard_marks : (G : Rules) (S : Set) (sites : ℕ) (M : Marking) (J : List Entry) → All (λ (entry : Entry). IsInRange sites G.atoms entry.call) J
    → project G S (stepped_by_all G M (heard (has (alphabet_of G S)) J)) ≡ project G S (after G M J)
heard_marks G S sites M J in_range = marks_from G S sites J M M in_range refl
