-- Each content is told of: a part is in force or none, and its records are read to an end.
use Rattle.std.proofs.Common.{true, false, ◌≡◌, ◌⊎◌, inl, inr, ℕ, suc, zero, ◌+◌, ◌*◌, ◌/◌, ◌%◌, ◌^◌, ◌<◌, ◌≤◌, List, [], ◌∷◌, ◌++◌, length, get_or, refl, ◌∙◌, ap, arith, All}
use Rattle.std.proofs.lemmas.Bool.{cases_Bool, cases_eq, cases_lt}
use Rattle.std.proofs.lemmas.Bool.Decides.{not_from_Decides}
use Rattle.std.proofs.lemmas.List.{length-append}
use Rattle.std.proofs.lemmas.Slice.Eq.{bytes_eq-Decides}
use Rattle.std.specs.Prelude.{bytes_eq}
use Rattle.std.specs.Int.{w32, w64, to_be_bytes, from_be_bytes}
use Rattle.dcr_base.specs.Disk.{bytes_at}
use Rattle.dcr_base.proofs.DiskLemmas.{bytes_at-add}
use Rattle.dcr_tape.specs.Tape.{Part, InForce, HasRecords, record_at, size_of, tail_of, two_bytes, zeros}
use Rattle.dcr_tape.specs.Opening.{IsOfCase, is_cut, is_soiled, is_misnumbered, most_records}
use Rattle.dcr_tape.specs.Found.{HasNoPartAt, IsPartAt, IsRecord, part_found}
use Rattle.dcr_tape.specs.Laws.{EachContentIs, IsTold, stands, shows}
use Rattle.dcr_tape.specs.declared.cause.TapeCause.TheVariants.{NotTape, OtherGraph, BadTape, Long}
use Rattle.dcr_tape.specs.declared.entry.TapeEntry.{TapeEntry}
use Rattle.dcr_tape.specs.declared.find.FoundPart.{FoundPart}
use Rattle.dcr_tape.specs.declared.record.Record.{Record}
use Rattle.dcr_tape.specs.declared.record.Record.TheVariants.{Shut, Bad, Sound}
use Rattle.dcr_tape.specs.declared.width.Width.{Width}
use Rattle.dcr_tape.specs.declared.width.Width.TheVariants.{Eight, Twelve}
use Rattle.dcr_tape.proofs.FindLemmas.{NewHead, OldHead, found_new, found_none, found_old, found_renewed, new_head, new_header, one_in_head, renewed_none}
use Rattle.dcr_tape.proofs.PartLemmas.{has_records_push, one_there}

-- ---- what is so or isn't

-- it is so, or it isn't
abbrev Settled : Type 0 → Type 0
Settled P = P ⊎ (P → ⊥)

-- of two facts
both : {P Q : Type 0} → Settled P → Settled Q → Settled (P × Q)
both (inl is) (inl too) = inl (is, too)
both (inl is) (inr off) = inr (λ are. off are.1)
both (inr off) other = inr (λ are. off are.0)

-- two lists are the same
same_bytes : (xs ys : List ℕ) → Settled (xs ≡ ys)
same_bytes xs ys = by_test (cases_Bool (bytes_eq xs ys))
  where
    by_test : (bytes_eq xs ys ≡ true) ⊎ (bytes_eq xs ys ≡ false) → Settled (xs ≡ ys)
    by_test (inl same) = inl ((bytes_eq-Decides xs ys).0 same)
    by_test (inr differ) = inr (not_from_Decides (bytes_eq xs ys) (bytes_eq-Decides xs ys) differ)

-- one number is at most the other
at_most : (m n : ℕ) → Settled (m ≤ n)
at_most m n = by_order (cases_lt n m)
  where
    by_order : (n < m) ⊎ (m ≤ n) → Settled (m ≤ n)
    by_order (inl over) = inr (λ is. absurd (omega arith))
    by_order (inr is) = inl is

-- a part of width 12 begins at an offset, or none
abbrev PartAt : List ℕ → ℕ → Type 0
PartAt c start = ((found : FoundPart) × IsPartAt c start found) ⊎ HasNoPartAt c start

-- a part is in force, or none
abbrev PartIn : List ℕ → Type 0
PartIn c = Settled ((part : Part) × InForce c part)

-- what stands where a record would begin
abbrev RecordAt : List ℕ → Width → ℕ → ℕ → Type 0
RecordAt c width number at = (found : Record) × IsRecord c width number at found

module _ (c : List ℕ) where
  -- ---- the part in force

  -- these bytes are the header of a part of width 12
  is_new : (head : List ℕ) → Settled (NewHead head)
  is_new head = both (same_bytes _ _) (same_bytes _ _)

  -- they begin a tape of version 1
  is_old : (head : List ℕ) → Settled (OldHead head)
  is_old head = both (same_bytes _ _) (same_bytes _ _)

  -- at each offset it is one of the two
  part_at : (start : ℕ) → PartAt c start
  part_at start = by_head (both (at_most start (2 ^ 62)) (both (at_most (start + 65) (length c)) (is_new head)))
    where
      head : List ℕ
      head = bytes_at c start 64

      by_head : Settled ((start ≤ 2 ^ 62) × ((start + 65 ≤ length c) × NewHead head)) → PartAt c start
      by_head (inl (near, (long, is))) = inl (
        record { start = start; width = Twelve; digest = bytes_at head 8 32 },
        record { here = refl; width = refl; near = near; long = long; header = new_header c head start refl is _ refl },
      )
      by_head (inr off) = inr (λ digest near long header. off (near, (long, new_head c head start refl digest header)))

  -- and in the content, by its first 64 bytes
  a_part : PartIn c
  a_part = by_head (at_most 65 (length c)) (is_new head) (is_old head) (cases_eq (get_or head 40 0) 1) (part_at start)
    where
      head : List ℕ
      head = bytes_at c 0 64

      start : ℕ
      start = from_be_bytes w64 (bytes_at head 41 8)

      switch : 65 ≤ length c → bytes_at head 40 1 ≡ get_or head 40 0 ∷ []
      switch long = one_in_head c head 0 refl (omega arith)

      opened : 65 ≤ length c → get_or head 40 0 ≡ 1 → bytes_at head 40 1 ≡ 1 ∷ []
      opened long on = switch long ∙ ap (λ (b : ℕ). b ∷ []) on

      by_head : Settled (65 ≤ length c) → Settled (NewHead head) → Settled (OldHead head) → Settled (get_or head 40 0 ≡ 1)
          → PartAt c start → PartIn c
      by_head (inr short) new old on behind = inr (λ some. short (omega (arith, some.1.long)))
      by_head (inl long) (inl is) old on behind = inl (_, found_new c head refl is long (bytes_at head 8 32) refl)
      by_head (inl long) (inr not_new) (inr not_old) on behind = inr (λ some. found_none c head refl not_new not_old some.0 some.1)
      by_head (inl long) (inr not_new) (inl is) (inr off) behind = inl (_, found_old c head refl is long (get_or head 40 0) (switch long) off (bytes_at head 8 32) refl)
      by_head (inl long) (inr not_new) (inl is) (inl on) (inl (found, there)) = inl (part_found found, found_renewed c head refl is (opened long on) start refl found there)
      by_head (inl long) (inr not_new) (inl is) (inl on) (inr none) = inr (λ some. renewed_none c head refl is (opened long on) start refl none some.0 some.1)

  module _ (bytes : All (λ (byte : ℕ). byte < 256) c) where
    -- ---- a record

    -- two bytes are those of a number
    two_there : (at : ℕ) → at + 2 ≤ length c → (n : ℕ) × (bytes_at c at 2 ≡ two_bytes n)
    two_there at within =
        let high = get_or c at 0 in
        let low = get_or c (at + 1) 0 in
        let below : low < 256 = bytes (at + 1) 0 (omega arith) in
        let higher : high ≡ (high * 256 + low) / 256 = omega arith in
        let lower : low ≡ (high * 256 + low) % 256 = omega arith in (
          high * 256 + low,
          bytes_at-add c at 1 1 ∙ (λ i. one_there c at (omega arith) i ++ one_there c (at + 1) (omega arith) i) ∙ (λ i. higher i ∷ lower i ∷ []),
        )

    -- an open gate and the two numbers behind it
    front : (at : ℕ) → at + 5 ≤ length c → bytes_at c at 1 ≡ 1 ∷ [] → (entry : TapeEntry) × (bytes_at c at 5 ≡ 1 ∷ two_bytes entry.event ++ two_bytes entry.site)
    front at within gate =
        let event = two_there (at + 1) (omega arith) in
        let site = two_there (at + 3) (omega arith) in (
          record { event = event.0; site = site.0 },
          bytes_at-add c at 3 2 ∙ (λ i. (bytes_at-add c at 1 2 ∙ (λ j. gate j ++ event.1 j)) i ++ site.1 i),
        )

    -- what stands behind an open gate
    judged : (width : Width) (number at : ℕ) → bytes_at c at 1 ≡ 1 ∷ [] → (length c < at + size_of width) ⊎ (at + size_of width ≤ length c)
        → Settled (bytes_at c (at + tail_of width) 3 ≡ zeros 3) → Settled (bytes_at c (at + 5) 4 ≡ to_be_bytes w32 number)
        → RecordAt c width number at
    judged width number at gate (inl cut) tail named = (Bad, inr (gate, is_cut cut))
    judged width number at gate (inr within) (inr soiled) named = (Bad, inr (gate, is_soiled soiled))
    judged Eight number at gate (inr within) (inl tail) named =
        let is = front at (omega arith) gate in (Sound is.0, bytes_at-add c at 5 3 ∙ (λ i. is.1 i ++ tail i))
    judged Twelve number at gate (inr within) (inl tail) (inr other) = (Bad, inr (gate, is_misnumbered refl other))
    judged Twelve number at gate (inr within) (inl tail) (inl named) =
        let is = front at (omega arith) gate in
        (Sound is.0, bytes_at-add c at 9 3 ∙ (λ i. (bytes_at-add c at 5 4 ∙ (λ j. is.1 j ++ named j)) i ++ tail i))

    -- at each offset there is one of the three
    read_at : (width : Width) (number at : ℕ) → RecordAt c width number at
    read_at width number at = by_gate (cases_lt at (length c)) (cases_eq (get_or c at 0) 1)
      where
        by_gate : (at < length c) ⊎ (length c ≤ at) → Settled (get_or c at 0 ≡ 1) → RecordAt c width number at
        by_gate (inr missing) gate = (Bad, inl missing)
        by_gate (inl there) (inr shut) = (Shut, record { gate = get_or c at 0; there = one_there c at there; not_open = shut })
        by_gate (inl there) (inl opened) =
            judged width number at (one_there c at there ∙ ap (λ (g : ℕ). g ∷ []) opened) (cases_lt (length c) (at + size_of width)) (same_bytes _ _) (same_bytes _ _)

    -- ---- the records of a part of the case

    module _ (digest : List ℕ) where
      -- behind these entries so many records are read at most
      walk : (part : Part) → IsOfCase digest c part → (left : ℕ) (entries : List TapeEntry) → length entries + left ≡ most_records + 1 → HasRecords c part entries → IsTold digest c
      walk part case zero entries count are = shows Long tt (part, case, (entries, omega arith, are))
      walk part case (suc left) entries count are = on (read_at part.width (length entries) (record_at part (length entries))) (walk part case left)
        where
          on : RecordAt c part.width (length entries) (record_at part (length entries))
              → ((more : List TapeEntry) → length more + left ≡ most_records + 1 → HasRecords c part more → IsTold digest c) → IsTold digest c
          on (Shut, is) rest =
              stands entries (record { part = part; same_case = case.same_case; holds = record { in_force = case.in_force; has_records = are; shut = is } }) (omega arith)
          on (Bad, is) rest =
              shows (BadTape (length entries)) tt (part, case, omega arith, record { before = entries; count = refl; has_records = are; bad = is })
          on (Sound entry, is) rest =
              rest (entries ++ entry ∷ []) (omega (arith, length-append entries (entry ∷ []))) (has_records_push c part entries entry are is)

      -- whatever part is in force
      told : PartIn c → IsTold digest c
      told (inr none) = shows NotTape tt (λ part force. none (part, force))
      told (inl (part, force)) = by_digest (same_bytes part.digest digest)
        where
          by_digest : Settled (part.digest ≡ digest) → IsTold digest c
          by_digest (inr other) = shows (OtherGraph part.digest) tt (part, force, refl, other)
          by_digest (inl same) =
              let none : size_of part.width * 0 ≡ 0 = omega arith in
              walk part (record { in_force = force; same_case = same }) (most_records + 1) [] (omega arith) (ap (bytes_at c (part.start + 64)) none)

pub each_content : EachContentIs
each_content digest content bytes = told content bytes digest (a_part content)
