-- What a crash leaves of a tape in each of the two steps of an append.
use Rattle.std.proofs.Common.{◌≡◌, ◌⊎◌, inl, inr, ℕ, ◌+◌, ◌*◌, List, [], ◌∷◌, ◌++◌, length, get_or, take, sym, ◌∙◌, ap, subst, arith}
use Rattle.std.proofs.lemmas.Bool.{cases_eq}
use Rattle.std.proofs.lemmas.List.{length-append}
use Rattle.dcr_base.specs.Disk.{Torn, bytes_at}
use Rattle.dcr_base.proofs.DiskLemmas.{bytes_at-add, bytes_at-part, torn_below, torn_behind}
use Rattle.dcr_tape.specs.Tape.{Part, Holds, IsShut, record_at, record_bytes, payload_bytes, size_of}
use Rattle.dcr_tape.specs.declared.entry.TapeEntry.{TapeEntry}
use Rattle.dcr_tape.specs.declared.width.Width.TheVariants.{Twelve}
use Rattle.dcr_tape.proofs.PartLemmas.{in_force_keeps, holds_keeps, has_records_push, one_there, there_within}

module _ (c : List ℕ) (part : Part) (entries : List TapeEntry) (holds : Holds c part entries) where
  abbrev pub gate_at : ℕ
  gate_at = record_at part (length entries)

  -- behind the gate a write touches no entry
  pub torn_payload : (count : ℕ) (d : List ℕ) → Torn (gate_at + 1) count c d → Holds d part entries
  torn_payload count d torn =
      holds_keeps c d (gate_at + 1) (torn_below (gate_at + 1) count c d torn) torn.no_shorter part entries (omega arith) holds

  module _ (wide : part.width ≡ Twelve) (entry : TapeEntry) (there : bytes_at c (gate_at + 1) 12 ≡ payload_bytes (length entries) entry) where
    is_record : (d : List ℕ) → bytes_at d gate_at 1 ≡ 1 ∷ [] → bytes_at d (gate_at + 1) 12 ≡ payload_bytes (length entries) entry
        → bytes_at d gate_at (size_of part.width) ≡ record_bytes part.width (length entries) entry
    is_record d opened behind =
        let front : bytes_at d (gate_at + 1) 11 ≡ take 11 (payload_bytes (length entries) entry) =
        sym (bytes_at-part d (gate_at + 1) 12 0 11 (omega arith) ∙ ap (λ (k : ℕ). bytes_at d k 11) (omega arith)) ∙ ap (take 11) behind in
        let whole : bytes_at d gate_at 12 ≡ record_bytes Twelve (length entries) entry =
        bytes_at-add d gate_at 1 11 ∙ ap (λ (l : List ℕ). l ++ bytes_at d (gate_at + 1) 11) opened ∙ ap (λ (l : List ℕ). 1 ∷ l) front in
        subst (λ w. bytes_at d gate_at (size_of w) ≡ record_bytes w (length entries) entry) (sym wide) whole

    next_shut : (d : List ℕ) → bytes_at d (gate_at + 1) 12 ≡ payload_bytes (length entries) entry → IsShut d (record_at part (length (entries ++ entry ∷ [])))
    next_shut d behind =
        let place : record_at part (length (entries ++ entry ∷ [])) ≡ gate_at + 1 + 11 =
        ap (λ (n : ℕ). part.start + 64 + size_of part.width * n) (length-append entries (entry ∷ []))
        ∙ subst (λ w. part.start + 64 + size_of w * (length entries + 1) ≡ part.start + 64 + size_of w * length entries + 1 + 11) (sym wide) (omega arith) in
        record {
          gate = 0;
          there = ap (λ (k : ℕ). bytes_at d k 1) place ∙ sym (bytes_at-part d (gate_at + 1) 12 11 1 (omega arith)) ∙ ap (λ (l : List ℕ). bytes_at l 11 1) behind;
          not_open = λ is. absurd (omega (arith, is));
        }

    -- with the gate open the entry counts
    pub with_gate : (d : List ℕ) → Torn gate_at 1 c d → bytes_at d gate_at 1 ≡ 1 ∷ [] → Holds d part (entries ++ entry ∷ [])
    with_gate d torn opened =
        let behind : bytes_at d (gate_at + 1) 12 ≡ payload_bytes (length entries) entry = torn_behind gate_at 1 c d torn (gate_at + 1) 12 (omega arith) ∙ there in
        record {
          in_force = in_force_keeps c d gate_at (torn_below gate_at 1 c d torn) torn.no_shorter part (omega arith) holds.in_force;
          has_records = has_records_push d part entries entry
              (torn_below gate_at 1 c d torn (part.start + 64) (size_of part.width * length entries) (omega arith) ∙ holds.has_records)
              (is_record d opened behind);
          shut = next_shut d behind;
        }

    -- whatever the write of the gate leaves, the entry counts or it doesn't
    pub torn_gate : (d : List ℕ) → Torn gate_at 1 c d → Holds d part entries ⊎ Holds d part (entries ++ entry ∷ [])
    torn_gate d torn = elim (cases_eq gate 1) [
      | inl opened ↦ inr (with_gate d torn (is_gate ∙ ap (λ (g : ℕ). g ∷ []) opened))
      | inr shut ↦ inl (record {
        in_force = in_force_keeps c d gate_at (torn_below gate_at 1 c d torn) torn.no_shorter part (omega arith) holds.in_force;
        has_records = torn_below gate_at 1 c d torn (part.start + 64) (size_of part.width * length entries) (omega arith) ∙ holds.has_records;
        shut = record { gate = gate; there = is_gate; not_open = shut };
      })
    ]
      where
        gate : ℕ
        gate = get_or d gate_at 0

        is_gate : bytes_at d gate_at 1 ≡ gate ∷ []
        is_gate = one_there d gate_at (omega (arith, there_within c gate_at holds.shut.gate holds.shut.there, torn.no_shorter))
