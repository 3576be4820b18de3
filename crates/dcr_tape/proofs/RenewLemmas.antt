-- What a crash leaves of a tape in each step of its renewal.
use Rattle.std.proofs.Common.{◌≡◌, ◌≢◌, ◌⊎◌, inl, inr, ℕ, ◌+◌, ◌*◌, ◌^◌, ◌<◌, ◌≤◌, List, [], ◌∷◌, ◌++◌, length, get_or, take, drop, refl, sym, ◌∙◌, ap, subst, arith}
use Rattle.std.proofs.lemmas.Bool.{cases_eq}
use Rattle.std.proofs.lemmas.List.{append_assoc, append-nil, drop_at, length-append, length-take, take_all, take_at, take_more}
use Rattle.std.proofs.lemmas.Nat.{from_be_bytes-to_be_bytes_8}
use Rattle.std.specs.Int.{w64, to_be_bytes, from_be_bytes}
use Rattle.dcr_base.specs.Disk.{Torn, bytes_at}
use Rattle.dcr_base.proofs.DiskLemmas.{bytes_at-part, length-bytes_at, torn_below, torn_behind}
use Rattle.dcr_tape.specs.Renewing.{TornTwice}
use Rattle.dcr_tape.specs.Tape.{Part, HasHeader, IsOldPart, Begins, as_new, as_old, as_renewed, IsShut, Holds, record_at, record_bytes, payload_bytes, records_from, header_bytes, part_bytes, name_text, zeros, size_of}
use Rattle.dcr_tape.specs.declared.entry.TapeEntry.{TapeEntry}
use Rattle.dcr_tape.specs.declared.width.Width.{Width}
use Rattle.dcr_tape.specs.declared.width.Width.TheVariants.{Eight, Twelve}
use Rattle.dcr_tape.proofs.AppendLemmas.{torn_payload}
use Rattle.dcr_tape.proofs.PartLemmas.{one_there, records_from-push}

pub length-records_from : (width : Width) (number : ℕ) (entries : List TapeEntry) → length (records_from width number entries) ≡ size_of width * length entries
length-records_from Eight number [] = refl
length-records_from Twelve number [] = refl
length-records_from Eight number (entry ∷ entries) = omega (arith, length-records_from Eight (number + 1) entries)
length-records_from Twelve number (entry ∷ entries) = omega (arith, length-records_from Twelve (number + 1) entries)

eight_isn't_twelve : Eight ≡ Twelve → ⊥
eight_isn't_twelve same = cc same

-- a part of width 8 is one of version 1 that isn't renewed
pub old_part : (c : List ℕ) (part : Part) → part.width ≡ Eight → Begins c part → IsOldPart c part
old_part c part narrow (as_new is) = absurd (eight_isn't_twelve (sym narrow ∙ is.width))
old_part c part narrow (as_old is) = is
old_part c part narrow (as_renewed is) = absurd (eight_isn't_twelve (sym narrow ∙ is.width))

module _ (c : List ℕ) (part : Part) (entries : List TapeEntry) (narrow : part.width ≡ Eight) (holds : Holds c part entries) where
  abbrev pub old : IsOldPart c part
  old = old_part c part narrow holds.in_force.begins

  pub at_gate : record_at part (length entries) ≡ 64 + 8 * length entries
  at_gate = subst (λ w. part.start + 64 + size_of w * length entries ≡ 64 + 8 * length entries) (sym narrow) (omega (arith, old.start))

  -- behind the records a write touches no entry
  pub behind_keeps : (start count : ℕ) (d : List ℕ) → start ≡ 65 + 8 * length entries → Torn start count c d → Holds d part entries
  behind_keeps start count d is torn =
      torn_payload c part entries holds count d (subst (λ s. Torn s count c d) (omega (arith, is, at_gate)) torn)

  -- nor does a write of bytes between the version and the zeros, that leaves the switch off
  module _ (at count : ℕ) (d : List ℕ) (torn : Torn at count c d) (low : 40 ≤ at) (high : at + count ≤ 49)
      (switch : ℕ) (off : bytes_at d 40 1 ≡ switch ∷ []) (not_on : switch ≢ 1) where
    behind : (from n : ℕ) → 49 ≤ from → bytes_at d from n ≡ bytes_at c from n
    behind from n le = torn_behind at count c d torn from n (omega (arith, le, high))

    below : (from n : ℕ) → from + n ≤ 40 → bytes_at d from n ≡ bytes_at c from n
    below from n le = torn_below at count c d torn from n (omega (arith, le, low))

    pub switch_keeps : Holds d part entries
    switch_keeps = record {
      in_force = record {
        begins = as_old (record {
          start = old.start;
          width = old.width;
          header = record { version = below 0 8 (omega arith) ∙ old.header.version; blank = behind 49 15 (omega arith) ∙ old.header.blank };
          digest = below 8 32 (omega arith) ∙ old.digest;
          switch = switch;
          off = off;
          not_on = not_on;
        });
        long = omega (arith, holds.in_force.long, torn.no_shorter);
      };
      has_records = behind (part.start + 64) (size_of part.width * length entries) (omega arith) ∙ holds.has_records;
      shut = record {
        gate = holds.shut.gate;
        there = behind (record_at part (length entries)) 1 (omega arith) ∙ holds.shut.there;
        not_open = holds.shut.not_open;
      };
    }

  pub digest_long : length part.digest ≡ 32
  digest_long = ap length (sym old.digest) ∙ omega (arith, length-bytes_at c 8 32, holds.in_force.long)

  pub pointer_keeps : (d : List ℕ) → Torn 41 8 c d → Holds d part entries
  pointer_keeps d torn =
      switch_keeps 41 8 d torn (omega arith) (omega arith) old.switch (torn_below 41 8 c d torn 40 1 (omega arith) ∙ old.off) old.not_on

-- both writes that come first
pub twice_keeps : (c d : List ℕ) (part : Part) (entries : List TapeEntry) (start count : ℕ) → part.width ≡ Eight → Holds c part entries
    → start ≡ 65 + 8 * length entries → TornTwice start count c d → Holds d part entries
twice_keeps c d part entries start count narrow holds is twice =
    pointer_keeps twice.between part entries narrow (behind_keeps c part entries narrow holds start count twice.between is twice.part) d twice.pointer

-- ---- what is put together of the new part

pub next_record : (before after header : List ℕ) (entries : List TapeEntry) (at : ℕ) → at < length entries → (entry : TapeEntry) → get_or entries at entry ≡ entry
    → before ≡ header ++ records_from Twelve 0 (take at entries) → after ≡ (before ++ 1 ∷ []) ++ take 11 (payload_bytes at entry)
    → after ≡ header ++ records_from Twelve 0 (take (at + 1) entries)
next_record before after header entries at within entry is held pushed =
    let count : 0 + length (take at entries) ≡ at = omega (arith, length-take at entries, within) in
    let more : take (at + 1) entries ≡ take at entries ++ entry ∷ [] = take_more entries at entry within ∙ ap (λ (e : TapeEntry). take at entries ++ e ∷ []) is in
    pushed ∙ append_assoc before (1 ∷ []) (take 11 (payload_bytes at entry))
    ∙ ap (λ (l : List ℕ). l ++ record_bytes Twelve at entry) held
    ∙ append_assoc header (records_from Twelve 0 (take at entries)) (record_bytes Twelve at entry)
    ∙ ap (λ (l : List ℕ). header ++ l)
    (ap (λ (n : ℕ). records_from Twelve 0 (take at entries) ++ record_bytes Twelve n entry) (sym count)
    ∙ sym (records_from-push Twelve 0 (take at entries) entry) ∙ ap (records_from Twelve 0) (sym more))

pub header_put : (a b c d digest : List ℕ) (entries : List TapeEntry) → a ≡ [] → b ≡ a ++ name_text 2 → c ≡ b ++ digest → d ≡ c ++ zeros 24
    → d ≡ header_bytes digest ++ records_from Twelve 0 (take 0 entries)
header_put a b c d digest entries none name of_case blank =
    blank ∙ ap (λ (h : List ℕ). h ++ zeros 24) (of_case ∙ ap (λ (h : List ℕ). h ++ digest) (name ∙ ap (λ (h : List ℕ). h ++ name_text 2) none))
    ∙ append_assoc (name_text 2) digest (zeros 24)
    ∙ sym (append-nil (header_bytes digest))

pub whole_part : (bytes digest : List ℕ) (entries : List TapeEntry) (number : ℕ) → length entries ≤ number
    → bytes ≡ header_bytes digest ++ records_from Twelve 0 (take number entries) → bytes ++ 0 ∷ [] ≡ part_bytes digest entries
whole_part bytes digest entries number all is =
    ap (λ (l : List ℕ). l ++ 0 ∷ []) (is ∙ ap (λ (es : List TapeEntry). header_bytes digest ++ records_from Twelve 0 es) (take_all number entries all))
    ∙ append_assoc (header_bytes digest) (records_from Twelve 0 entries) (0 ∷ [])

-- ---- the new part

module _ (c : List ℕ) (start : ℕ) (digest : List ℕ) (entries : List TapeEntry) (long : length digest ≡ 32)
    (there : bytes_at c start (65 + 12 * length entries) ≡ part_bytes digest entries) where
  abbrev recs : List ℕ
  recs = records_from Twelve 0 entries

  len : length recs ≡ 12 * length entries
  len = length-records_from Twelve 0 entries

  -- so many bytes of the part
  of_part : (k m : ℕ) → k + m ≤ 65 + 12 * length entries → bytes_at c (start + k) m ≡ bytes_at (part_bytes digest entries) k m
  of_part k m within = sym (bytes_at-part c start (65 + 12 * length entries) k m within) ∙ ap (λ (l : List ℕ). bytes_at l k m) there

  header_long : length (header_bytes digest) ≡ 64
  header_long = omega (arith, length-append (name_text 2) (digest ++ zeros 24), length-append digest (zeros 24), long)

  pub part_header : HasHeader c start digest
  part_header = record {
    version = ap (λ (k : ℕ). bytes_at c k 8) (omega arith) ∙ of_part 0 8 (omega arith) ∙ refl;
    names = of_part 8 32 (omega arith)
        ∙ ap (take 32) (ap (drop 8) (append_assoc (name_text 2) (digest ++ zeros 24) (recs ++ 0 ∷ [])) ∙ drop_at (name_text 2) ((digest ++ zeros 24) ++ (recs ++ 0 ∷ [])) 8 refl)
        ∙ ap (take 32) (append_assoc digest (zeros 24) (recs ++ 0 ∷ []))
        ∙ take_at digest (zeros 24 ++ (recs ++ 0 ∷ [])) 32 long;
    blank = of_part 40 24 (omega arith)
        ∙ ap (take 24) (ap (drop 40) split ∙ drop_at (name_text 2 ++ digest) (zeros 24 ++ (recs ++ 0 ∷ [])) 40 (omega (arith, length-append (name_text 2) digest, long)))
        ∙ take_at (zeros 24) (recs ++ 0 ∷ []) 24 refl;
  }
    where
      split : part_bytes digest entries ≡ (name_text 2 ++ digest) ++ (zeros 24 ++ (recs ++ 0 ∷ []))
      split =
          ap (λ (l : List ℕ). l ++ (recs ++ 0 ∷ [])) (sym (append_assoc (name_text 2) digest (zeros 24)))
          ∙ append_assoc (name_text 2 ++ digest) (zeros 24) (recs ++ 0 ∷ [])

  pub part_records : bytes_at c (start + 64) (12 * length entries) ≡ recs
  part_records =
      of_part 64 (12 * length entries) (omega arith)
      ∙ ap (take (12 * length entries)) (drop_at (header_bytes digest) (recs ++ 0 ∷ []) 64 header_long)
      ∙ take_at recs (0 ∷ []) (12 * length entries) len

  pub part_shut : IsShut c (start + 64 + 12 * length entries)
  part_shut = record {
    gate = 0;
    there =
        ap (λ (k : ℕ). bytes_at c k 1) (omega arith)
        ∙ of_part (64 + 12 * length entries) 1 (omega arith)
        ∙ ap (take 1) (ap (drop (64 + 12 * length entries)) (sym (append_assoc (header_bytes digest) recs (0 ∷ [])))
        ∙ drop_at (header_bytes digest ++ recs) (0 ∷ []) (64 + 12 * length entries) (omega (arith, length-append (header_bytes digest) recs, header_long, len)));
    not_open = λ is. absurd (omega (arith, is));
  }

  pub part_long : start + 65 ≤ length c
  part_long = omega (arith, length-bytes_at c start (65 + 12 * length entries), ap length there, length-append (header_bytes digest) (recs ++ 0 ∷ []), header_long, length-append recs (0 ∷ []), len)

-- ---- the switch

module _ (c : List ℕ) (part : Part) (entries : List TapeEntry) (narrow : part.width ≡ Eight) (holds : Holds c part entries)
    (start : ℕ) (is : start ≡ 65 + 8 * length entries) (near : start ≤ 2 ^ 62)
    (pointer : bytes_at c 41 8 ≡ to_be_bytes w64 start)
    (there : bytes_at c start (65 + 12 * length entries) ≡ part_bytes part.digest entries) where
  abbrev pub renewed : Part
  renewed = record { start = start; width = Twelve; digest = part.digest }

  of_case : length part.digest ≡ 32
  of_case = digest_long c part entries narrow holds

  module _ (d : List ℕ) (torn : Torn 40 1 c d) where
    behind_switch : (from n : ℕ) → 41 ≤ from → bytes_at d from n ≡ bytes_at c from n
    behind_switch from n le = torn_behind 40 1 c d torn from n (omega (arith, le))

    new_there : bytes_at d start (65 + 12 * length entries) ≡ part_bytes part.digest entries
    new_there = behind_switch start (65 + 12 * length entries) (omega (arith, is)) ∙ there

    pub switched : bytes_at d 40 1 ≡ 1 ∷ [] → Holds d renewed entries
    switched on = record {
      in_force = record {
        begins = as_renewed (record {
          width = refl;
          old_header = record {
            version = torn_below 40 1 c d torn 0 8 (omega arith) ∙ (old c part entries narrow holds).header.version;
            blank = behind_switch 49 15 (omega arith) ∙ (old c part entries narrow holds).header.blank;
          };
          on = on;
          start = ap (from_be_bytes w64) (behind_switch 41 8 (omega arith) ∙ pointer) ∙ from_be_bytes-to_be_bytes_8 start (omega (arith, near));
          near = near;
          header = part_header d start part.digest entries of_case new_there;
        });
        long = part_long d start part.digest entries of_case new_there;
      };
      has_records = part_records d start part.digest entries of_case new_there;
      shut = part_shut d start part.digest entries of_case new_there;
    }

    -- whatever the write of the switch leaves, the entries are the same
    pub torn_switch : Holds d part entries ⊎ Holds d renewed entries
    torn_switch = elim (cases_eq switch 1) [
      | inl on ↦ inr (switched (is_switch ∙ ap (λ (s : ℕ). s ∷ []) on))
      | inr off ↦ inl (switch_keeps c part entries narrow holds 40 1 d torn (omega arith) (omega arith) switch is_switch off)
    ]
      where
        switch : ℕ
        switch = get_or d 40 0

        is_switch : bytes_at d 40 1 ≡ switch ∷ []
        is_switch = one_there d 40 (omega (arith, holds.in_force.long, torn.no_shorter))
