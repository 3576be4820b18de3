-- A part of a tape stays as it is where the bytes that it consists of stay.
use Rattle.std.proofs.Common.{◌≡◌, ℕ, ◌+◌, ◌*◌, ◌<◌, ◌≤◌, List, [], ◌∷◌, ◌++◌, length, get_or, take, sym, ◌∙◌, ap, arith, subst}
use Rattle.std.specs.Int.{w64, from_be_bytes}
use Rattle.std.proofs.lemmas.List.{append-nil, append_assoc, drop_more, length-append}
use Rattle.dcr_base.specs.Disk.{bytes_at}
use Rattle.dcr_base.proofs.DiskLemmas.{bytes_at-add, length-bytes_at}
use Rattle.dcr_tape.specs.Tape.{Part, HasHeader, HasOldHeader, Begins, as_new, as_old, as_renewed, InForce, HasRecords, Holds, record_at, records_from, record_bytes, size_of}
use Rattle.dcr_tape.specs.declared.entry.TapeEntry.{TapeEntry}
use Rattle.dcr_tape.specs.declared.width.Width.{Width}

-- below k the bytes of d are those of c
abbrev pub Agrees : ℕ → List ℕ → List ℕ → Type 0
Agrees k c d = (from n : ℕ) → from + n ≤ k → bytes_at d from n ≡ bytes_at c from n

module _ (c d : List ℕ) (k : ℕ) (agrees : Agrees k c d) where
  header_keeps : (start : ℕ) (digest : List ℕ) → start + 64 ≤ k → HasHeader c start digest → HasHeader d start digest
  header_keeps start digest within header = record {
    version = agrees start 8 (omega (arith, within)) ∙ header.version;
    names = agrees (start + 8) 32 (omega (arith, within)) ∙ header.names;
    blank = agrees (start + 40) 24 (omega (arith, within)) ∙ header.blank;
  }

  old_header_keeps : 64 ≤ k → HasOldHeader c → HasOldHeader d
  old_header_keeps within header = record {
    version = agrees 0 8 (omega (arith, within)) ∙ header.version;
    blank = agrees 49 15 (omega (arith, within)) ∙ header.blank;
  }

  begins_keeps : (part : Part) → part.start + 64 ≤ k → Begins c part → Begins d part
  begins_keeps part within (as_new is) = as_new (record {
    start = is.start;
    width = is.width;
    header = header_keeps 0 part.digest (omega (arith, within)) is.header;
  })
  begins_keeps part within (as_old is) = as_old (record {
    start = is.start;
    width = is.width;
    header = old_header_keeps (omega (arith, within)) is.header;
    digest = agrees 8 32 (omega (arith, within)) ∙ is.digest;
    switch = is.switch;
    off = agrees 40 1 (omega (arith, within)) ∙ is.off;
    not_on = is.not_on;
  })
  begins_keeps part within (as_renewed is) = as_renewed (record {
    width = is.width;
    old_header = old_header_keeps (omega (arith, within)) is.old_header;
    on = agrees 40 1 (omega (arith, within)) ∙ is.on;
    start = ap (from_be_bytes w64) (agrees 41 8 (omega (arith, within))) ∙ is.start;
    near = is.near;
    header = header_keeps part.start part.digest within is.header;
  })

  module _ (no_shorter : length c ≤ length d) where
    pub in_force_keeps : (part : Part) → part.start + 64 ≤ k → InForce c part → InForce d part
    in_force_keeps part within is = record { begins = begins_keeps part within is.begins; long = omega (arith, is.long, no_shorter) }

    pub holds_keeps : (part : Part) (entries : List TapeEntry) → record_at part (length entries) + 1 ≤ k → Holds c part entries → Holds d part entries
    holds_keeps part entries within is = record {
      in_force = in_force_keeps part (omega (arith, within)) is.in_force;
      has_records = agrees (part.start + 64) (size_of part.width * length entries) (omega (arith, within)) ∙ is.has_records;
      shut = record { gate = is.shut.gate; there = agrees (record_at part (length entries)) 1 within ∙ is.shut.there; not_open = is.shut.not_open };
    }

-- ---- one record more

pub records_from-push : (width : Width) (number : ℕ) (entries : List TapeEntry) (entry : TapeEntry)
    → records_from width number (entries ++ entry ∷ []) ≡ records_from width number entries ++ record_bytes width (number + length entries) entry
records_from-push width number [] entry =
    let here : number ≡ number + 0 = omega arith in
    append-nil (record_bytes width number entry) ∙ ap (λ (n : ℕ). record_bytes width n entry) here
records_from-push width number (first ∷ entries) entry =
    let count : number + 1 + length entries ≡ number + length (first ∷ entries) = omega arith in
    ap (λ (l : List ℕ). record_bytes width number first ++ l) (records_from-push width (number + 1) entries entry ∙ ap (λ (n : ℕ). records_from width (number + 1) entries ++ record_bytes width n entry) count)
    ∙ sym (append_assoc (record_bytes width number first) (records_from width (number + 1) entries) (record_bytes width (number + length (first ∷ entries)) entry))

pub has_records_push : (c : List ℕ) (part : Part) (entries : List TapeEntry) (entry : TapeEntry) → HasRecords c part entries
    → bytes_at c (record_at part (length entries)) (size_of part.width) ≡ record_bytes part.width (length entries) entry
    → HasRecords c part (entries ++ entry ∷ [])
has_records_push c part entries entry before here =
    let size = size_of part.width in
    let long : size * length (entries ++ entry ∷ []) ≡ size * length entries + size =
    ap (λ (n : ℕ). size * n) (length-append entries (entry ∷ [])) ∙ grind arith in
    ap (bytes_at c (part.start + 64)) long
    ∙ bytes_at-add c (part.start + 64) (size * length entries) size
    ∙ ap (λ (l : List ℕ). l ++ bytes_at c (record_at part (length entries)) size) before
    ∙ ap (λ (l : List ℕ). records_from part.width 0 entries ++ l) here
    ∙ ap (λ (n : ℕ). records_from part.width 0 entries ++ record_bytes part.width n entry) (omega arith)
    ∙ sym (records_from-push part.width 0 entries entry)

-- the same where the record was read of a content that stayed
pub next_sound : (c mid : List ℕ) (part : Part) (entries : List TapeEntry) (entry : TapeEntry) (at number : ℕ) → mid ≡ c → length entries ≡ number
    → at ≡ record_at part number → HasRecords c part entries → bytes_at mid at (size_of part.width) ≡ record_bytes part.width number entry
    → HasRecords c part (entries ++ entry ∷ [])
next_sound c mid part entries entry at number same count place are here =
    has_records_push c part entries entry are
    (subst (λ (n : ℕ). bytes_at c (record_at part n) (size_of part.width) ≡ record_bytes part.width n entry) (sym count)
    (subst (λ (k : ℕ). bytes_at c k (size_of part.width) ≡ record_bytes part.width number entry) place
    (subst (λ (l : List ℕ). bytes_at l at (size_of part.width) ≡ record_bytes part.width number entry) same here)))

pub next_place : (from size number at step : ℕ) → at ≡ from + size * number → step ≡ size → at + step ≡ from + size * (number + 1)
next_place from size number at step place is =
    let more : size * (number + 1) ≡ size * number + size = grind arith in
    omega (arith, more, place, is)

-- ---- one byte

pub one_there : (c : List ℕ) (at : ℕ) → at < length c → bytes_at c at 1 ≡ get_or c at 0 ∷ []
one_there c at within = ap (take 1) (drop_more c at 0 within)

pub there_within : (c : List ℕ) (at gate : ℕ) → bytes_at c at 1 ≡ gate ∷ [] → at < length c
there_within c at gate there = omega (arith, length-bytes_at c at 1, ap length there)
