-- A list that ends with a fault, and one that doesn't.
use Rattle.std.proofs.Common.{◌≡◌, ◌-◌, true, false, List, [], ◌∷◌, ◌++◌, length, Option, Some, None, refl, ap, ◌∙◌, arith, length-append}
use Rattle.std.specs.Prelude.{slice_get}
use Rattle.std.specs.Option.{option_map_or}
use Rattle.std.proofs.Math.Seq.{get_or-append_seam}
use Rattle.std.proofs.lemmas.Option.{slice_get-get_or}
use Rattle.dcr_journal.specs.declared.call.Entry.{Entry}
use Rattle.dcr_journal.specs.declared.call.Outcome.{Outcome}
use Rattle.dcr_journal.specs.declared.call.Outcome.TheVariants.{Faulted}
use Rattle.dcr_turn.specs.Pushing.{EndsWithoutFault, ends_in_fault, is_fault}

last_pushed : (J : List Entry) (entry : Entry) → slice_get (J ++ entry ∷ []) (length (J ++ entry ∷ []) - 1) ≡ Some entry
last_pushed J entry =
    let many = length-append J (entry ∷ []) in
    let last : length (J ++ entry ∷ []) - 1 ≡ length J = omega arith in
    ap (slice_get (J ++ entry ∷ [])) last
    ∙ slice_get-get_or (J ++ entry ∷ []) (length J) entry (omega arith)
    ∙ ap (λ (e : Entry). Some e) (get_or-append_seam J entry [] entry)

-- a list ends with a fault where the entry that was pushed last is one
pub fault_pushed : (J : List Entry) (entry : Entry) → ends_in_fault (J ++ entry ∷ []) ≡ is_fault entry.outcome
fault_pushed J entry = ap (λ (o : Option Entry). option_map_or (λ (e : Entry). is_fault e.outcome) o false) (last_pushed J entry)

outcome_is : (outcome : Outcome) → is_fault outcome ≡ true → outcome ≡ Faulted
outcome_is Faulted is = refl
outcome_is outcome is = absurd cc

last_is : (last : Option Entry) → option_map_or (λ (e : Entry). is_fault e.outcome) last false ≡ true → (entry : Entry) × (last ≡ Some entry) × (entry.outcome ≡ Faulted)
last_is (Some entry) is = (entry, refl, outcome_is entry.outcome is)
last_is None is = absurd cc

-- the fault that ends a list
pub fault_at_end : (J : List Entry) → ends_in_fault J ≡ true → (entry : Entry) × (slice_get J (length J - 1) ≡ Some entry) × (entry.outcome ≡ Faulted)
fault_at_end J is = last_is (slice_get J (length J - 1)) is

-- none ends it
pub no_fault_at_end : (J : List Entry) → ends_in_fault J ≡ false → EndsWithoutFault J
no_fault_at_end J none entry at fault =
    let is : ends_in_fault J ≡ true = ap (λ (o : Option Entry). option_map_or (λ (e : Entry). is_fault e.outcome) o false) at ∙ ap is_fault fault in
    absurd cc
