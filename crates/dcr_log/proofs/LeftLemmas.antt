-- What a reader of bytes in memory has left. Each record takes a byte, so that there are no more of them than bytes.
use Rattle.std.proofs.Common.{◌≡◌, ℕ, zero, suc, ◌+◌, ◌<◌, ◌≤◌, Bool, true, false, cond, List, [], ◌∷◌, ◌++◌, length, Option, Some, None, refl, sym, ap, subst, ◌∙◌, inl, arith}
use Rattle.std.specs.Borrow.{Bor}
use Rattle.std.specs.Option.{option_map_or}
use Rattle.std.proofs.lemmas.Option.{same_Some}
use Rattle.csv.specs.Machine.{Read, ends_at_end, field_after, fields_after, is_end, next_record, step}
use Rattle.csv.specs.Reading.{ExplainsRead, NextIs, ReadRecord, ReadsNext, default_config, expected_len, is_bom, is_flexible, pending_of, reader_state, records_from, records_next, strip_bom, took_first}
use Rattle.csv.specs.declared.error.ErrorKind.{ErrorKind}
use Rattle.csv.specs.declared.error.ErrorKind.TheVariants as kind
use Rattle.csv.specs.declared.parser.State.{State}
use Rattle.csv.specs.declared.parser.State.TheVariants as st
use Rattle.csv.proofs.ReadFacts.{rows-end}
use Rattle.dcr_log.specs.Records.{Record, records_of}
use Rattle.dcr_log.specs.Left.{SliceReader, HasRead, IsGoing, TellsUneven, left_of, source, stop_by}

-- ---- one record

-- behind a byte that ends a record none has begun
step_ends : (s : State) (c : ℕ) → is_end (step default_config s c).1 ≡ true → ends_at_end (step default_config s c).0 ≡ false
step_ends st.StartRecord c e = grind arith
step_ends st.StartField c e = grind arith
step_ends st.InField c e = grind arith
step_ends st.InQuoted c e = grind arith
step_ends st.InEscape c e = grind arith
step_ends st.AfterQuote c e = grind arith
step_ends st.InComment c e = grind arith
step_ends st.AfterCr c e = grind arith

-- what is left behind a record: none has begun there, and there are no more bytes than before
pub record IsBehind (y : List ℕ) (p : Read) : Type 0 where
  pub between : ends_at_end p.1 ≡ false
  pub shorter : length p.2 ≤ length y

behind : (s : State) (fields : List (List ℕ)) (field y : List ℕ) (p : Read) → next_record default_config s fields field y ≡ Some p → IsBehind y p
unfolding next_record
behind s fields field [] p e = at_end (ends_at_end s) e
  where
    at_end : (b : Bool) → cond b (Some (fields ++ (field ∷ []), st.StartRecord, [])) None ≡ Some p → IsBehind [] p
    at_end false e = cc e
    at_end true e =
        let same = same_Some _ _ e in
        subst (IsBehind []) same (record { between = refl; shorter = omega arith })
behind s fields field (c ∷ rest) p e =
    by_end (is_end (step default_config s c).1) refl e
    (behind (step default_config s c).0 (fields_after (step default_config s c).1 fields field) (field_after (step default_config s c).1 c field) rest p)
  where
    by_end : (b : Bool) → is_end (step default_config s c).1 ≡ b
        → cond b (Some (fields_after (step default_config s c).1 fields field, (step default_config s c).0, rest))
        (next_record default_config (step default_config s c).0 (fields_after (step default_config s c).1 fields field) (field_after (step default_config s c).1 c field) rest) ≡ Some p
        → (next_record default_config (step default_config s c).0 (fields_after (step default_config s c).1 fields field) (field_after (step default_config s c).1 c field) rest ≡ Some p → IsBehind rest p)
        → IsBehind (c ∷ rest) p
    by_end true ends e more = subst (IsBehind (c ∷ rest)) (same_Some _ _ e) (record { between = step_ends s c ends; shorter = omega arith })
    by_end false ends e more = let last = more e in record { between = last.between; shorter = let few = last.shorter in omega arith }

-- a record takes a byte
takes_a_byte : (s : State) (y : List ℕ) (p : Read) → ends_at_end s ≡ false → next_record default_config s [] [] y ≡ Some p → length p.2 < length y
unfolding next_record
takes_a_byte s [] p between e = cc (rw between at e)
takes_a_byte s (c ∷ rest) p between e =
    by_end (is_end (step default_config s c).1) e
    (behind (step default_config s c).0 (fields_after (step default_config s c).1 [] []) (field_after (step default_config s c).1 c []) rest p)
  where
    by_end : (b : Bool)
        → cond b (Some (fields_after (step default_config s c).1 [] [], (step default_config s c).0, rest))
        (next_record default_config (step default_config s c).0 (fields_after (step default_config s c).1 [] []) (field_after (step default_config s c).1 c []) rest) ≡ Some p
        → (next_record default_config (step default_config s c).0 (fields_after (step default_config s c).1 [] []) (field_after (step default_config s c).1 c []) rest ≡ Some p → IsBehind rest p)
        → length p.2 < length (c ∷ rest)
    by_end true e more = let same : rest ≡ p.2 = ap (λ (q : Read). q.2) (same_Some _ _ e) in let long = ap length same in omega arith
    by_end false e more = let few = (more e).shorter in omega arith

-- ---- all records

-- so many steps as there are bytes and one are enough
same_records : (m n : ℕ) (s : State) (y : List ℕ) → ends_at_end s ≡ false → length y < m → length y < n → records_from default_config m s y ≡ records_from default_config n s y
unfolding records_from
same_records zero n s y between l k = absurd (omega arith)
same_records (suc m) zero s y between l k = absurd (omega arith)
same_records (suc m) (suc n) s y between l k =
    by_next (next_record default_config s [] [] y) (λ p e.
    let fewer = takes_a_byte s y p between e in
    same_records m n p.1 p.2 (behind s [] [] y p e).between (omega arith) (omega arith))
  where
    by_next : (o : Option Read) → ((p : Read) → o ≡ Some p → records_from default_config m p.1 p.2 ≡ records_from default_config n p.1 p.2)
        → records_next (records_from default_config m) o ≡ records_next (records_from default_config n) o
    by_next None more = refl
    by_next (Some p) more = ap (λ (rows : List Record). p.0 ∷ rows) (more p refl)

-- no more records than bytes
few_records : (n : ℕ) (s : State) (y : List ℕ) → ends_at_end s ≡ false → length (records_from default_config n s y) ≤ length y
unfolding records_from
few_records zero s y between = omega arith
few_records (suc n) s y between =
    by_next (next_record default_config s [] [] y) (λ p e.
    let fewer = takes_a_byte s y p between e in
    let rest = few_records n p.1 p.2 (behind s [] [] y p e).between in
    omega arith)
  where
    by_next : (o : Option Read) → ((p : Read) → o ≡ Some p → length (records_from default_config n p.1 p.2) < length y) → length (records_next (records_from default_config n) o) ≤ length y
    by_next None more = omega arith
    by_next (Some p) more = let fewer = more p refl in omega arith

-- the next of them, and those behind it
next_left : (s : State) (y : List ℕ) (p : Read) → ends_at_end s ≡ false → next_record default_config s [] [] y ≡ Some p
    → records_from default_config (length y + 1) s y ≡ p.0 ∷ records_from default_config (length p.2 + 1) p.1 p.2
unfolding records_from
next_left s y p between e =
    let more : length y + 1 ≡ suc (length y) = omega arith in
    let fewer = takes_a_byte s y p between e in
    ap (λ n. records_from default_config n s y) more
    ∙ (ap (records_next (records_from default_config (length y))) e
    ∙ ap (λ (rows : List Record). p.0 ∷ rows) (same_records (length y) (length p.2 + 1) p.1 p.2 (behind s [] [] y p e).between fewer (omega arith)))

-- none where there is no next one
none_left : (s : State) (y : List ℕ) → next_record default_config s [] [] y ≡ None → records_from default_config (length y + 1) s y ≡ []
unfolding records_from
none_left s y e =
    let more : length y + 1 ≡ suc (length y) = omega arith in
    ap (λ n. records_from default_config n s y) more ∙ ap (records_next (records_from default_config (length y))) e

-- ---- a reader

left_is : (reader : SliceReader) (bytes : List ℕ) → source reader ≡ Some bytes → left_of reader ≡ records_from default_config (length bytes + 1) (reader_state reader) bytes
unfolding left_of
left_is reader bytes e = ap (λ o. option_map_or (λ (left : List ℕ). records_from default_config (length left + 1) (reader_state reader) left) o []) e

next_is : (o : Option Read) (row : Record) (s : State) (z : List ℕ) → NextIs o true row s z → o ≡ Some (row, s, z)
next_is None row s z n = cc n
next_is (Some p) row s z n = rw (n.1, n.2, n.3) refl

-- the record that was read, in a state
reads_one : (s : State) (y : List ℕ) (k : Option (List ℕ)) (row : Record) (s2 : State) → ReadsNext default_config s (Some y) k true row s2
    → (z : List ℕ) × (k ≡ Some z) × (next_record default_config s [] [] y ≡ Some (row, s2, z))
reads_one s y None row s2 r = absurd r
reads_one s y (Some z) row s2 r = (z, refl, next_is (next_record default_config s [] [] y) row s2 z r)

-- the record that is read next is the first of those that were left
front_read : (a : SliceReader) (row : Record) (s : State) (y z : List ℕ) → source a ≡ Some y → ends_at_end a.state ≡ false → next_record default_config a.state [] [] y ≡ Some (row, s, z)
    → left_of a ≡ row ∷ records_from default_config (length z + 1) s z
front_read a row s y z at_y between e = left_is a y at_y ∙ next_left a.state y (row, s, z) between e

front_left : (a b : SliceReader) (row : Record) (y z : List ℕ) → source a ≡ Some y → ends_at_end a.state ≡ false → next_record default_config a.state [] [] y ≡ Some (row, b.state, z) → source b ≡ Some z
    → left_of a ≡ row ∷ left_of b
front_left a b row y z at_y between e at_z = front_read a row b.state y z at_y between e ∙ ap (λ (rows : List Record). row ∷ rows) (sym (left_is b z at_z))

-- a record was read
pub has_read : (a b : SliceReader) (row : Record) → IsGoing a → ReadRecord (λ (s : Bor (List ℕ)). Some s.now) a b true row → took_first b ≡ true → is_flexible b ≡ is_flexible a → HasRead a b row
has_read a b row g r began even =
    let one = reads_one a.state g.bytes (pending_of (Some b.rdr.now) b) row b.state (rw (g.settings, g.known) at r.0) in
    let (z, at_z, e) = one in
    let known : source b ≡ Some z = rw r.1 at_z in
    let counts = r.5 refl g.even in
    record {
      going = record {
        plain = r.3 ∙ g.plain;
        ready = inl began;
        even = even ∙ g.even;
        settings = r.2 ∙ g.settings;
        between = (behind a.state [] [] g.bytes (row, b.state, z) e).between;
        bytes = z;
        known = known;
      };
      first = front_left a b row g.bytes z g.known g.between e known;
      counted = counts.1;
      kept = counts.0;
    }

-- there was none
pub has_none : (a b : SliceReader) (row : Record) → IsGoing a → ReadRecord (λ (s : Bor (List ℕ)). Some s.now) a b false row → left_of a ≡ []
has_none a b row g r =
    left_is a g.bytes g.known ∙ none_left a.state g.bytes (rows-end (λ (s : Bor (List ℕ)). Some s.now) a b row default_config g.bytes g.settings g.known r)

-- what an error says of the records that are left
pub tells_uneven : (a b : SliceReader) (number : ℕ) (why : ErrorKind) → IsGoing a → ExplainsRead (λ (s : Bor (List ℕ)). Some s.now) a b false why
    → TellsUneven number (expected_len a) (left_of a) (stop_by number why)
tells_uneven a b number (kind.UnequalLengths pos expected len) g h =
    let one = reads_one a.state g.bytes (pending_of (Some b.rdr.now) b) h.3 b.state (rw (g.settings, g.known) at h.4) in
    let (z, at_z, e) = one in (
      refl,
      record {
        width = expected;
        row = h.3;
        more = records_from default_config (length z + 1) b.state z;
        wanted = h.1;
        first = front_read a h.3 b.state g.bytes z g.known g.between e;
        other = λ same. h.2 (sym same ∙ h.5);
      },
    )
tells_uneven a b number (kind.Io e) g h = tt
tells_uneven a b number (kind.Utf8 pos err) g h = tt
tells_uneven a b number kind.OutOfMemory g h = tt
tells_uneven a b number (kind.Serialize text) g h = tt
tells_uneven a b number (kind.Deserialize pos err) g h = tt

-- ---- the start

-- at the start all records are left
pub at_start : (reader : SliceReader) (bytes : List ℕ) → reader_state reader ≡ st.StartRecord → source reader ≡ Some (strip_bom bytes) → left_of reader ≡ records_of bytes
at_start reader bytes state known =
    left_is reader (strip_bom bytes) known ∙ ap (λ s. records_from default_config (length (strip_bom bytes) + 1) s (strip_bom bytes)) state

mark_off : (bytes : List ℕ) → length (strip_bom bytes) ≤ length bytes
unfolding strip_bom
mark_off [] = omega arith
mark_off (a ∷ []) = omega arith
mark_off (a ∷ b ∷ []) = omega arith
mark_off (a ∷ b ∷ c ∷ rest) = by_mark (is_bom a b c)
  where
    by_mark : (m : Bool) → length (cond m rest (a ∷ b ∷ c ∷ rest)) ≤ length (a ∷ b ∷ c ∷ rest)
    by_mark true = omega arith
    by_mark false = omega arith

-- a log has no more records than bytes
pub log_few : (bytes : List ℕ) → length (records_of bytes) ≤ length bytes
log_few bytes = let few = few_records (length (strip_bom bytes) + 1) st.StartRecord (strip_bom bytes) refl in let off = mark_off bytes in omega arith
