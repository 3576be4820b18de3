-- The executions from before are a run of the graph, where each could be done after those before it.
use Rattle.std.proofs.Common.{◌≡◌, ℕ, ◌<◌, List, length, get_or, take, Some, inl, sym, ap, subst, ◌∙◌, arith}
use Rattle.std.specs.Prelude.{slice_get}
use Rattle.std.proofs.lemmas.List.FromFn.{get_or-map-range_with_len, length-map-range_with_len, take-map-range_with_len}
use Rattle.std.proofs.lemmas.Option.{slice_get_within, slice_get-get_or, get_or_from_slice_get}
use Rattle.dcr_journal.specs.Answer.{answer}
use Rattle.dcr_journal.specs.Run.{IsLegalAt, IsSound, after, made_by}
use Rattle.dcr_journal.specs.declared.call.Call.TheVariants.{Exec}
use Rattle.dcr_journal.specs.declared.call.Entry.{Entry}
use Rattle.dcr_journal.specs.declared.call.Outcome.TheVariants.{Done, Faulted}
use Rattle.dcr_tape.specs.declared.entry.TapeEntry.{TapeEntry}
use Rattle.dcr_cell.specs.ClusterId.{ClusterId, IsCall, marking_by}
use Rattle.dcr_order.specs.Orders.{old_entries, old_entry}
use Rattle.dcr_order.proofs.BeginLemmas.{front_made, old_front}
use Rattle.dcr_order.proofs.CloseLemmas.{after_old}

-- an execution that was done is no fault
done_is_no_fault : Done ≡ Faulted → ⊥
done_is_no_fault is = cc

-- each could be done after those before it
abbrev pub CouldBeDone : ClusterId → Type 0
CouldBeDone c = (place : ℕ) (x : TapeEntry) → slice_get c.old place ≡ Some x
    → IsCall c (Exec x.site x.event) × (answer c.rules c.owned (marking_by c (take place c.old)) (Exec x.site x.event) ≡ Done)

pub old_sound : (c : ClusterId) (session : ℕ) → CouldBeDone c → IsSound c.rules c.owned c.opening (old_entries session c.old)
old_sound c session possible = record {
  legal = λ place entry there.
      let below = within place entry there in
      let is : old_entry session c.old place ≡ entry = at place entry below ∙ get_or_from_slice_get (old_entries session c.old) place entry entry there in
      subst (λ (e : Entry). IsLegalAt c.rules c.owned c.opening (old_entries session c.old) place e) is (legal_at place below);
  no_fault = λ k d inside.
      let long : length (old_entries session c.old) ≡ length c.old = length-map-range_with_len (old_entry session c.old) 0 (length c.old) in
      subst (λ (e : Entry). e.outcome ≡ Faulted → ⊥) (at k d (omega arith)) done_is_no_fault;
}
  where
    none : TapeEntry
    none = record { event = 0; site = 0 }

    within : (place : ℕ) (entry : Entry) → slice_get (old_entries session c.old) place ≡ Some entry → place < length c.old
    within place entry there =
        let inside = slice_get_within (old_entries session c.old) place entry there in
        let long : length (old_entries session c.old) ≡ length c.old = length-map-range_with_len (old_entry session c.old) 0 (length c.old) in
        omega arith

    at : (place : ℕ) (d : Entry) → place < length c.old → old_entry session c.old place ≡ get_or (old_entries session c.old) place d
    at place d below = sym (get_or-map-range_with_len (old_entry session c.old) 0 (length c.old) place place d below (omega arith))

    legal_at : (place : ℕ) → place < length c.old → IsLegalAt c.rules c.owned c.opening (old_entries session c.old) place (old_entry session c.old place)
    legal_at place below =
        let x = get_or c.old place none in
        let is = possible place x (slice_get-get_or c.old place none below) in
        let front : take place (old_entries session c.old) ≡ old_front session c.old place = take-map-range_with_len (old_entry session c.old) 0 (length c.old) place (omega arith) in
        record {
          in_range = is.0;
          seq = sym (ap (made_by session) front ∙ front_made session c.old place);
          outcome = inl (sym
              (ap (λ (J : List Entry). answer c.rules c.owned (after c.rules c.opening J) (Exec x.site x.event)) front
              ∙ ap (λ N. answer c.rules c.owned N (Exec x.site x.event)) (after_old c.rules c.opening session c.old place (omega arith))
              ∙ is.1));
        }
