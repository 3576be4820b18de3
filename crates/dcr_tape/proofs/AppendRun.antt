-- The two steps of an append as runs of calls.
use Rattle.std.proofs.Common.{◌≡◌, ◌⊎◌, inl, inr, ⊎_elim, IsTrue, ℕ, ◌+◌, List, [], ◌∷◌, ◌++◌, length, refl, sym, ◌∙◌, ap, subst, arith}
use Rattle.dcr_base.specs.Disk.{DiskView, Torn, Wrote, LeavesOnly, bytes_at}
use Rattle.dcr_base.proofs.DiskLemmas.{joined, weaker, torn_written, written_there}
use Rattle.dcr_tape.specs.Tape.{Part, Holds, StandsFor, record_at, payload_bytes}
use Rattle.dcr_tape.specs.declared.entry.TapeEntry.{TapeEntry}
use Rattle.dcr_tape.specs.declared.width.Width.TheVariants.{Twelve}
use Rattle.dcr_tape.proofs.AppendLemmas.{torn_payload, torn_gate, with_gate}

-- the image stands for the entries, or for these and the one in flight
abbrev pub WithOrWithout : List ℕ → List TapeEntry → TapeEntry → List ℕ → Type 0
WithOrWithout digest entries entry image = StandsFor digest entries image ⊎ StandsFor digest (entries ++ entry ∷ []) image

module _ (old : DiskView) (part : Part) (entries : List TapeEntry) (entry : TapeEntry) (told : IsTrue old.told) (holds : Holds old.content part entries)
    (wide : part.width ≡ Twelve) (gate : ℕ) (at_gate : gate ≡ record_at part (length entries))
    (payload : List ℕ) (is : payload ≡ payload_bytes (length entries) entry) where
  abbrev P : List ℕ → Type 0
  P = WithOrWithout part.digest entries entry

  first_torn : (c : List ℕ) → Torn (gate + 1) (length payload) old.content c → P c
  first_torn c torn = inl (record {
    part = part;
    same_case = refl;
    holds = torn_payload old.content part entries holds (length payload) c (subst (λ g. Torn (g + 1) (length payload) old.content c) at_gate torn);
  })

  pub first_leaves : (mid : DiskView) → LeavesOnly old mid (Torn (gate + 1) (length payload) old.content) → LeavesOnly old mid P
  first_leaves mid run = weaker old mid (Torn (gate + 1) (length payload) old.content) P first_torn run

  module _ (mid : DiskView) (wrote : Wrote (gate + 1) payload old mid) where
    same_content : old.content ≡ wrote.content
    same_content = wrote.was told

    first_tears : Torn (gate + 1) (length payload) old.content mid.content
    first_tears =
        subst (λ c. Torn (gate + 1) (length payload) c mid.content) (sym same_content)
        (subst (λ c. Torn (gate + 1) (length payload) wrote.content c) (sym wrote.holds) (torn_written (gate + 1) payload wrote.content (length payload) wrote.within (omega arith)))

    pub mid_holds : Holds mid.content part entries
    mid_holds = torn_payload old.content part entries holds (length payload) mid.content (subst (λ g. Torn (g + 1) (length payload) old.content mid.content) at_gate first_tears)

    there : bytes_at mid.content (record_at part (length entries) + 1) 12 ≡ payload_bytes (length entries) entry
    there =
        ap (λ (g : ℕ). bytes_at mid.content (g + 1) 12) (sym at_gate)
        ∙ ap (λ (n : ℕ). bytes_at mid.content (gate + 1) n) (sym (ap length is))
        ∙ ap (λ (c : List ℕ). bytes_at c (gate + 1) (length payload)) wrote.holds
        ∙ written_there (gate + 1) payload wrote.content wrote.within
        ∙ is

    second_torn : (c : List ℕ) → Torn gate 1 mid.content c → P c
    second_torn c torn = ⊎_elim
        (λ (without : Holds c part entries). inl (record { part = part; same_case = refl; holds = without }))
        (λ (with_it : Holds c part (entries ++ entry ∷ [])). inr (record { part = part; same_case = refl; holds = with_it }))
        (torn_gate mid.content part entries mid_holds wide entry there c (subst (λ g. Torn g 1 mid.content c) at_gate torn))

    pub both_leave : (new : DiskView) → LeavesOnly old mid (Torn (gate + 1) (length payload) old.content)
        → LeavesOnly mid new (Torn gate 1 mid.content) → LeavesOnly old new P
    both_leave new first second = joined old mid new P (first_leaves mid first) (weaker mid new (Torn gate 1 mid.content) P second_torn second)

    pub new_holds : (new : DiskView) → Wrote gate (1 ∷ []) mid new → Holds new.content part (entries ++ entry ∷ [])
    new_holds new last =
        let was : mid.content ≡ last.content = last.was wrote.told in
        let tears : Torn gate 1 mid.content new.content = subst (λ c. Torn gate 1 c new.content) (sym was) (subst (λ c. Torn gate 1 last.content c) (sym last.holds) (torn_written gate (1 ∷ []) last.content 1 last.within (omega arith))) in
        let opened : bytes_at new.content gate 1 ≡ 1 ∷ [] = ap (λ (c : List ℕ). bytes_at c gate 1) last.holds ∙ written_there gate (1 ∷ []) last.content last.within in
        with_gate mid.content part entries mid_holds wide entry there new.content
        (subst (λ g. Torn g 1 mid.content new.content) at_gate tears)
        (ap (λ (g : ℕ). bytes_at new.content g 1) (sym at_gate) ∙ opened)
