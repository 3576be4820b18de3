-- Entries without an execution of the alphabet leave the projection as it was.
use Rattle.std.proofs.Common.{◌≡◌, ℕ, ◌+◌, Bool, true, false, List, [], ◌∷◌, ◌++◌, Option, Some, None, cond, refl, sym, ap, ◌∙◌, arith}
use Rattle.std.specs.List.{All}
use Rattle.std.specs.Option.{option_map_or}
use Rattle.std.proofs.lemmas.List.Elements.{All-head, All-tail}
use Rattle.std.proofs.lemmas.List.Sums.{sum_by-cons, sum_by-append, fold-append}
use Rattle.dcr_set.specs.EventSet.{Set, has}
use Rattle.dcr_set.proofs.SetLemmas.{has-those}
use Rattle.dcr_graph.specs.Rules.{Rules}
use Rattle.dcr_graph.specs.Step.{step}
use Rattle.dcr_graph.specs.Projection.{in_alphabet, project}
use Rattle.dcr_graph.specs.declared.marking.Marking.{Marking}
use Rattle.dcr_graph.proofs.LocalLaws.{outside_step}
use Rattle.dcr_proj.specs.Local.{projection_of}
use Rattle.dcr_journal.specs.Run.{IsInRange, event_done, stepped_by, after, touches}
use Rattle.dcr_journal.specs.declared.call.Call.{Call}
use Rattle.dcr_journal.specs.declared.call.Call.TheVariants.{Exec}
use Rattle.dcr_journal.specs.declared.call.Outcome.{Outcome}
use Rattle.dcr_journal.specs.declared.call.Outcome.TheVariants.{Done}
use Rattle.dcr_journal.specs.declared.call.Entry.{Entry}
use Rattle.dcr_laws.specs.Laws.{UntouchedMarksStay, UntouchedByTheSet}

-- whether an entry is a done execution of the alphabet
abbrev is_touch : Rules → Set → Entry → Bool
is_touch G S entry = option_map_or (in_alphabet G S) (event_done entry.call entry.outcome) false

none_more : (b : Bool) (n : ℕ) → cond b 1 0 + n ≡ 0 → (b ≡ false) × (n ≡ 0)
none_more true n h = absurd (omega arith)
none_more false n h = (refl, omega arith)

-- an event that isn't in the alphabet, or no event
step_outside : (G : Rules) (S : Set) (N : Marking) (event : Option ℕ) → option_map_or (in_alphabet G S) event false ≡ false
    → project G S (option_map_or (step G N) event N) ≡ project G S N
step_outside G S N None h = refl
step_outside G S N (Some e) h = outside_step G S N e h

-- what no execution of the rest touches stays
pub untouched : (G : Rules) (S : Set) (rest : List Entry) (N : Marking) → touches (in_alphabet G S) rest ≡ 0 → project G S (after G N rest) ≡ project G S N
untouched G S [] N h = refl
untouched G S (entry ∷ rest) N h =
    let both = none_more (is_touch G S entry) (touches (in_alphabet G S) rest) (sym (sum_by-cons (λ x. cond (is_touch G S x) 1 0) entry rest) ∙ h) in
    untouched G S rest (stepped_by G N entry.call entry.outcome) both.1
    ∙ step_outside G S N (event_done entry.call entry.outcome) both.0

pub untouched_marks_stay : UntouchedMarksStay
untouched_marks_stay G S M beginning rest same =
    let none : touches (in_alphabet G S) rest ≡ 0 = (let both = sum_by-append (λ x. cond (is_touch G S x) 1 0) beginning rest in omega arith) in
    sym (ap (λ N. project G S N) (fold-append (λ N (entry : Entry). stepped_by G N entry.call entry.outcome) M beginning rest)
    ∙ untouched G S rest (after G M beginning) none)

-- ---- the alphabet as a set

-- an atom outside the set is outside the alphabet
outside_both : (G : Rules) (S : Set) (sites : ℕ) (call : Call) (outcome : Outcome) → IsInRange sites G.atoms call
    → option_map_or (has (projection_of G S).alphabet) (event_done call outcome) false ≡ false → option_map_or (in_alphabet G S) (event_done call outcome) false ≡ false
outside_both G S sites (Exec i e) Done in_range outside = sym (has-those G.atoms (in_alphabet G S) e in_range.1) ∙ outside
outside_both G S sites call outcome in_range outside = refl

-- where the set is not touched the alphabet isn't
none_touched : (G : Rules) (S : Set) (sites : ℕ) (rest : List Entry) → All (λ (entry : Entry). IsInRange sites G.atoms entry.call) rest
    → touches (has (projection_of G S).alphabet) rest ≡ 0 → touches (in_alphabet G S) rest ≡ 0
none_touched G S sites [] in_range h = refl
none_touched G S sites (entry ∷ rest) in_range h =
    let by_set : Entry → Bool = λ x. option_map_or (has (projection_of G S).alphabet) (event_done x.call x.outcome) false in
    let both = none_more (by_set entry) (touches (has (projection_of G S).alphabet) rest) (sym (sum_by-cons (λ x. cond (by_set x) 1 0) entry rest) ∙ h) in
    let here : is_touch G S entry ≡ false = outside_both G S sites entry.call entry.outcome (All-head (λ (x : Entry). IsInRange sites G.atoms x.call) entry rest in_range) both.0 in
    sum_by-cons (λ x. cond (is_touch G S x) 1 0) entry rest
    ∙ ap (λ b. cond b 1 0 + touches (in_alphabet G S) rest) here
    ∙ still_none (touches (in_alphabet G S) rest) (none_touched G S sites rest (All-tail (λ (x : Entry). IsInRange sites G.atoms x.call) entry rest in_range) both.1)
  where
    still_none : (n : ℕ) → n ≡ 0 → cond false 1 0 + n ≡ 0
    still_none n h = omega arith

pub untouched_by_the_set : UntouchedByTheSet
untouched_by_the_set G S M sites beginning rest in_range same =
    let by_set : Entry → Bool = λ x. option_map_or (has (projection_of G S).alphabet) (event_done x.call x.outcome) false in
    let none : touches (has (projection_of G S).alphabet) rest ≡ 0 = (let both = sum_by-append (λ x. cond (by_set x) 1 0) beginning rest in omega arith) in
    let still : touches (in_alphabet G S) (beginning ++ rest) ≡ touches (in_alphabet G S) beginning =
    (let none_here = none_touched G S sites rest in_range none in let both = sum_by-append (λ x. cond (is_touch G S x) 1 0) beginning rest in omega arith) in
    untouched_marks_stay G S M beginning rest (sym still)
