-- What stands in a content is one thing.
use Rattle.std.proofs.Common.{◌≡◌, inl, inr, ℕ, ◌+◌, ◌*◌, ◌/◌, ◌%◌, ◌<◌, ◌≤◌, List, [], ◌∷◌, ◌++◌, length, get_or, take, drop, refl, sym, ◌∙◌, ap, subst, arith}
use Rattle.std.proofs.lemmas.List.{take_all, take_at, drop_at}
use Rattle.dcr_base.specs.Disk.{bytes_at}
use Rattle.dcr_base.proofs.DiskLemmas.{bytes_at-part, length-bytes_at}
use Rattle.dcr_tape.specs.Tape.{Part, Begins, as_new, as_old, as_renewed, InForce, HasRecords, IsShut, Holds, record_at, record_bytes, records_from, name_text, size_of}
use Rattle.dcr_tape.specs.Opening.{IsBad, IsBadAt, IsOfCase, is_cut, is_soiled, is_misnumbered, most_records}
use Rattle.dcr_tape.specs.Laws.{NoCause, OneCause, OneList}
use Rattle.dcr_tape.specs.declared.cause.TapeCause.TheVariants.{NotTape, OtherGraph, BadTape, Long, DiskFault, NoMemory}
use Rattle.dcr_tape.specs.declared.entry.TapeEntry.{TapeEntry}
use Rattle.dcr_tape.specs.declared.width.Width.{Width}
use Rattle.dcr_tape.specs.declared.width.Width.TheVariants.{Eight, Twelve}
use Rattle.dcr_tape.proofs.RenewLemmas.{length-records_from}
use Rattle.dcr_tape.proofs.PartLemmas.{there_within}

-- ---- the part in force

same_parts : (p q : Part) → p.start ≡ q.start → p.width ≡ q.width → p.digest ≡ q.digest → p ≡ q
same_parts p q start width digest = λ i. record { start = start i; width = width i; digest = digest i }

versions_differ : (c : List ℕ) → bytes_at c 0 8 ≡ name_text 2 → bytes_at c 0 8 ≡ name_text 1 → ⊥
versions_differ c new old = absurd (omega (arith, ap (λ (l : List ℕ). get_or l 7 0) (sym new ∙ old)))

switch_is : (c : List ℕ) (switch : ℕ) → bytes_at c 40 1 ≡ switch ∷ [] → bytes_at c 40 1 ≡ 1 ∷ [] → switch ≡ 1
switch_is c switch there on = ap (λ (l : List ℕ). get_or l 0 0) (sym there ∙ on)

same_begins : (c : List ℕ) (p q : Part) → Begins c p → Begins c q → p ≡ q
same_begins c p q (as_new a) (as_new b) = same_parts p q (a.start ∙ sym b.start) (a.width ∙ sym b.width) (sym a.header.names ∙ b.header.names)
same_begins c p q (as_new a) (as_old b) = absurd (versions_differ c a.header.version b.header.version)
same_begins c p q (as_new a) (as_renewed b) = absurd (versions_differ c a.header.version b.old_header.version)
same_begins c p q (as_old a) (as_new b) = absurd (versions_differ c b.header.version a.header.version)
same_begins c p q (as_old a) (as_old b) = same_parts p q (a.start ∙ sym b.start) (a.width ∙ sym b.width) (sym a.digest ∙ b.digest)
same_begins c p q (as_old a) (as_renewed b) = absurd (a.not_on (switch_is c a.switch a.off b.on))
same_begins c p q (as_renewed a) (as_new b) = absurd (versions_differ c b.header.version a.old_header.version)
same_begins c p q (as_renewed a) (as_old b) = absurd (b.not_on (switch_is c b.switch b.off a.on))
same_begins c p q (as_renewed a) (as_renewed b) =
    let start : p.start ≡ q.start = sym a.start ∙ b.start in
    same_parts p q start (a.width ∙ sym b.width) (sym a.header.names ∙ ap (λ (s : ℕ). bytes_at c (s + 8) 32) start ∙ b.header.names)

pub same_part : (c : List ℕ) (p q : Part) → InForce c p → InForce c q → p ≡ q
same_part c p q a b = same_begins c p q a.begins b.begins

-- ---- the records

length-record_bytes : (width : Width) (number : ℕ) (entry : TapeEntry) → length (record_bytes width number entry) ≡ size_of width
length-record_bytes Eight number entry = refl
length-record_bytes Twelve number entry = refl

-- the first record, and those behind it
record Split (c : List ℕ) (width : Width) (number at : ℕ) (entry : TapeEntry) (entries : List TapeEntry) : Type 0 where
  here : bytes_at c at (size_of width) ≡ record_bytes width number entry
  behind : bytes_at c (at + size_of width) (size_of width * length entries) ≡ records_from width (number + 1) entries

split : (c : List ℕ) (width : Width) (number at : ℕ) (entry : TapeEntry) (entries : List TapeEntry)
    → bytes_at c at (size_of width * length (entry ∷ entries)) ≡ records_from width number (entry ∷ entries) → Split c width number at entry entries
split c width number at entry entries are =
    let size = size_of width in
    let rest = records_from width (number + 1) entries in
    let whole : size * length (entry ∷ entries) ≡ size + size * length entries = grind arith in
    let all : bytes_at c at (size + size * length entries) ≡ record_bytes width number entry ++ rest = ap (bytes_at c at) (sym whole) ∙ are in
    record {
      here =
          ap (λ (k : ℕ). bytes_at c k size) (omega arith) ∙ sym (bytes_at-part c at (size + size * length entries) 0 size (omega arith))
          ∙ ap (take size) all ∙ take_at (record_bytes width number entry) rest size (length-record_bytes width number entry);
      behind =
          sym (bytes_at-part c at (size + size * length entries) size (size * length entries) (omega arith))
          ∙ ap (λ (l : List ℕ). take (size * length entries) (drop size l)) all
          ∙ ap (take (size * length entries)) (drop_at (record_bytes width number entry) rest size (length-record_bytes width number entry))
          ∙ take_all (size * length entries) rest (omega (arith, length-records_from width (number + 1) entries));
    }

two_same : (m n : ℕ) → m / 256 ≡ n / 256 → m % 256 ≡ n % 256 → m ≡ n
two_same m n high low = omega (arith, high, low)

same_entry : (width : Width) (number : ℕ) (a b : TapeEntry) → record_bytes width number a ≡ record_bytes width number b → a ≡ b
same_entry Eight number a b same =
    let event : a.event ≡ b.event = two_same a.event b.event (ap (λ (l : List ℕ). get_or l 1 0) same) (ap (λ (l : List ℕ). get_or l 2 0) same) in
    let site : a.site ≡ b.site = two_same a.site b.site (ap (λ (l : List ℕ). get_or l 3 0) same) (ap (λ (l : List ℕ). get_or l 4 0) same) in
    λ i. record { event = event i; site = site i }
same_entry Twelve number a b same =
    let event : a.event ≡ b.event = two_same a.event b.event (ap (λ (l : List ℕ). get_or l 1 0) same) (ap (λ (l : List ℕ). get_or l 2 0) same) in
    let site : a.site ≡ b.site = two_same a.site b.site (ap (λ (l : List ℕ). get_or l 3 0) same) (ap (λ (l : List ℕ). get_or l 4 0) same) in
    λ i. record { event = event i; site = site i }

-- a record begins with an open gate
gate_of : (c : List ℕ) (width : Width) (number at : ℕ) (entry : TapeEntry) → bytes_at c at (size_of width) ≡ record_bytes width number entry → bytes_at c at 1 ≡ 1 ∷ []
gate_of c Eight number at entry is =
    ap (λ (k : ℕ). bytes_at c k 1) (omega arith) ∙ sym (bytes_at-part c at 8 0 1 (omega arith)) ∙ ap (take 1) is
gate_of c Twelve number at entry is =
    ap (λ (k : ℕ). bytes_at c k 1) (omega arith) ∙ sym (bytes_at-part c at 12 0 1 (omega arith)) ∙ ap (take 1) is

not_shut : (c : List ℕ) (at : ℕ) → IsShut c at → bytes_at c at 1 ≡ 1 ∷ [] → ⊥
not_shut c at shut opened = shut.not_open (ap (λ (l : List ℕ). get_or l 0 0) (sym shut.there ∙ opened))

-- where the records end that were counted
end_of : (width : Width) (at : ℕ) → List TapeEntry → ℕ
end_of width at entries = at + size_of width * length entries

-- What follows the records, by a list of fewer entries or by one of more: a sound record, which is neither a gate that
-- isn't open nor a bad one.
data Ends (c : List ℕ) (width : Width) (number at : ℕ) : Type 0 where
  shut : IsShut c at → Ends c width number at
  bad : IsBad c width number at → Ends c width number at

ends_not : (c : List ℕ) (width : Width) (number at : ℕ) (entry : TapeEntry) → Ends c width number at → bytes_at c at (size_of width) ≡ record_bytes width number entry → ⊥
ends_not c width number at entry (shut is) record_is = not_shut c at is (gate_of c width number at entry record_is)
ends_not c width number at entry (bad (inl missing)) record_is =
    absurd (omega (arith, there_within c at 1 (gate_of c width number at entry record_is), missing))
ends_not c width number at entry (bad (inr (gate, is_cut cut))) record_is =
    absurd (omega (arith, cut, there_within c at 1 (gate_of c width number at entry record_is), length-bytes_at c at (size_of width), ap length record_is, length-record_bytes width number entry))
ends_not c Eight number at entry (bad (inr (gate, is_soiled soiled))) record_is =
    soiled (sym (bytes_at-part c at 8 5 3 (omega arith)) ∙ ap (λ (l : List ℕ). take 3 (drop 5 l)) record_is)
ends_not c Twelve number at entry (bad (inr (gate, is_soiled soiled))) record_is =
    soiled (sym (bytes_at-part c at 12 9 3 (omega arith)) ∙ ap (λ (l : List ℕ). take 3 (drop 9 l)) record_is)
ends_not c Eight number at entry (bad (inr (gate, is_misnumbered wide is))) record_is = absurd (cc wide)
ends_not c Twelve number at entry (bad (inr (gate, is_misnumbered wide is))) record_is =
    is (sym (bytes_at-part c at 12 5 4 (omega arith)) ∙ ap (λ (l : List ℕ). take 4 (drop 5 l)) record_is)

-- two lists of records at one place, each up to an end, are one list
same_records : (c : List ℕ) (width : Width) (number at : ℕ) (xs ys : List TapeEntry)
    → bytes_at c at (size_of width * length xs) ≡ records_from width number xs → Ends c width (number + length xs) (at + size_of width * length xs)
    → bytes_at c at (size_of width * length ys) ≡ records_from width number ys → Ends c width (number + length ys) (at + size_of width * length ys)
    → xs ≡ ys
same_records c width number at [] [] a ends_a b ends_b = refl
same_records c width number at [] (y ∷ ys) a ends_a b ends_b =
    absurd (ends_not c width number at y (at_start ends_a) (split c width number at y ys b).here)
  where
    at_start : Ends c width (number + 0) (at + size_of width * 0) → Ends c width number at
    at_start ends = subst (λ (n : ℕ). Ends c width n at) (omega arith) (subst (λ (k : ℕ). Ends c width (number + 0) k) (grind arith) ends)
same_records c width number at (x ∷ xs) [] a ends_a b ends_b =
    absurd (ends_not c width number at x (at_start ends_b) (split c width number at x xs a).here)
  where
    at_start : Ends c width (number + 0) (at + size_of width * 0) → Ends c width number at
    at_start ends = subst (λ (n : ℕ). Ends c width n at) (omega arith) (subst (λ (k : ℕ). Ends c width (number + 0) k) (grind arith) ends)
same_records c width number at (x ∷ xs) (y ∷ ys) a ends_a b ends_b =
    let first = split c width number at x xs a in
    let second = split c width number at y ys b in
    let size = size_of width in
    let on : (zs : List TapeEntry) (z : TapeEntry) → Ends c width (number + length (z ∷ zs)) (at + size * length (z ∷ zs)) → Ends c width (number + 1 + length zs) (at + size + size * length zs)
    = λ zs z ends. subst (λ (n : ℕ). Ends c width n (at + size + size * length zs)) (omega arith) (subst (λ (k : ℕ). Ends c width (number + length (z ∷ zs)) k) (grind arith) ends) in
    let rest : xs ≡ ys = same_records c width (number + 1) (at + size) xs ys first.behind (on xs x ends_a) second.behind (on ys y ends_b) in
    let head : x ≡ y = same_entry width number x y (sym first.here ∙ second.here) in
    λ i. head i ∷ rest i

-- no list of records is longer than one that ends
no_longer : (c : List ℕ) (width : Width) (number at : ℕ) (xs ys : List TapeEntry)
    → bytes_at c at (size_of width * length xs) ≡ records_from width number xs
    → bytes_at c at (size_of width * length ys) ≡ records_from width number ys → Ends c width (number + length ys) (at + size_of width * length ys)
    → length ys < length xs → ⊥
no_longer c width number at [] ys a b ends_b longer = absurd (omega arith)
no_longer c width number at (x ∷ xs) [] a b ends_b longer =
    ends_not c width number at x
    (subst (λ (n : ℕ). Ends c width n at) (omega arith) (subst (λ (k : ℕ). Ends c width (number + 0) k) (grind arith) ends_b))
    (split c width number at x xs a).here
no_longer c width number at (x ∷ xs) (y ∷ ys) a b ends_b longer =
    let first = split c width number at x xs a in
    let second = split c width number at y ys b in
    let size = size_of width in
    let on : Ends c width (number + 1 + length ys) (at + size + size * length ys) =
    subst (λ (n : ℕ). Ends c width n (at + size + size * length ys)) (omega arith) (subst (λ (k : ℕ). Ends c width (number + length (y ∷ ys)) k) (grind arith) ends_b) in
    no_longer c width (number + 1) (at + size) xs ys first.behind second.behind on (omega arith)

-- ---- of a part

ends_held : (c : List ℕ) (part : Part) (entries : List TapeEntry) → Holds c part entries → Ends c part.width (0 + length entries) (part.start + 64 + size_of part.width * length entries)
ends_held c part entries holds = shut holds.shut

ends_bad : (c : List ℕ) (part : Part) (at : ℕ) (is : IsBadAt c part at) → Ends c part.width (0 + length is.before) (part.start + 64 + size_of part.width * length is.before)
ends_bad c part at is =
    bad (subst (λ (n : ℕ). IsBad c part.width n (record_at part (length is.before))) (sym is.count ∙ omega arith) (subst (λ (n : ℕ). IsBad c part.width at (record_at part n)) (sym is.count) is.bad))

pub one_list_holds : OneList
one_list_holds content part other entries others first second =
    let parts : part ≡ other = same_part content part other first.in_force second.in_force in
    let moved : Holds content part others = subst (λ (p : Part). Holds content p others) (sym parts) second in (
      parts,
      same_records content part.width 0 (part.start + 64) entries others
          first.has_records (ends_held content part entries first) moved.has_records (ends_held content part others moved),
    )

-- where a content stands for a list, no record of it is bad
not_bad : (content : List ℕ) (part : Part) (entries : List TapeEntry) (at : ℕ) → Holds content part entries → IsBadAt content part at → ⊥
not_bad content part entries at holds is =
    let before : List TapeEntry = is.before in
    let same : entries ≡ before = same_records content part.width 0 (part.start + 64) entries before
    holds.has_records (ends_held content part entries holds) is.has_records (ends_bad content part at is) in
    neither (subst (λ (l : List TapeEntry). IsShut content (record_at part (length l))) same holds.shut) (subst (λ (n : ℕ). IsBad content part.width at (record_at part n)) (sym is.count) is.bad)
  where
    neither : {k : ℕ} → IsShut content k → IsBad content part.width at k → ⊥
    neither shut_here (inl missing) = absurd (omega (arith, missing, there_within content _ shut_here.gate shut_here.there))
    neither shut_here (inr (gate, unsound)) = not_shut content _ shut_here gate

same_case : (digest content : List ℕ) (part other : Part) → IsOfCase digest content part → InForce content other → other.digest ≡ digest
same_case digest content part other is force = ap (λ (p : Part). p.digest) (same_part content other part force is.in_force) ∙ is.same_case

pub no_cause_holds : NoCause
no_cause_holds digest content NotTape entries shown none stands few = none stands.part stands.holds.in_force
no_cause_holds digest content (OtherGraph found) entries shown (part, force, here, differs) stands few =
    differs (sym here ∙ ap (λ (p : Part). p.digest) (same_part content part stands.part force stands.holds.in_force) ∙ stands.same_case)
no_cause_holds digest content (BadTape at) entries shown (part, case, within, is) stands few =
    not_bad content part entries at
    (subst (λ (p : Part). Holds content p entries) (same_part content stands.part part stands.holds.in_force case.in_force) stands.holds)
    is
no_cause_holds digest content Long entries shown (part, case, (xs, count, are)) stands few =
    let holds : Holds content part entries = subst (λ (p : Part). Holds content p entries) (same_part content stands.part part stands.holds.in_force case.in_force) stands.holds in
    no_longer content part.width 0 (part.start + 64) xs entries are holds.has_records (ends_held content part entries holds) (omega (arith, count, few))
no_cause_holds digest content DiskFault entries shown is stands few = shown
no_cause_holds digest content NoMemory entries shown is stands few = shown

bad_apart : (digest content : List ℕ) (part other : Part) (at : ℕ) (xs : List TapeEntry) → IsOfCase digest content part → IsOfCase digest content other
    → IsBadAt content part at → at ≤ most_records → HasRecords content other xs → length xs ≡ most_records + 1 → ⊥
bad_apart digest content part other at xs case case' is within are count =
    let moved : HasRecords content part xs = subst (λ (p : Part). HasRecords content p xs) (same_part content other part case'.in_force case.in_force) are in
    no_longer content part.width 0 (part.start + 64) xs is.before moved is.has_records (ends_bad content part at is) (omega (arith, count, within, is.count))

pub one_cause_holds : OneCause
one_cause_holds digest content NotTape NotTape s s' a b = refl
one_cause_holds digest content NotTape (OtherGraph found) s s' a (part, force, here, differs) = absurd (a part force)
one_cause_holds digest content NotTape (BadTape at) s s' a (part, case, within, is) = absurd (a part case.in_force)
one_cause_holds digest content NotTape Long s s' a (part, case, rest) = absurd (a part case.in_force)
one_cause_holds digest content (OtherGraph found) NotTape s s' (part, force, here, differs) b = absurd (b part force)
one_cause_holds digest content (OtherGraph found) (OtherGraph other) s s' (part, force, here, differs) (part', force', here', differs') =
    ap OtherGraph (sym here ∙ ap (λ (p : Part). p.digest) (same_part content part part' force force') ∙ here')
one_cause_holds digest content (OtherGraph found) (BadTape at) s s' (part, force, here, differs) (part', case, within, is) =
    absurd (differs (sym here ∙ same_case digest content part' part case force))
one_cause_holds digest content (OtherGraph found) Long s s' (part, force, here, differs) (part', case, rest) =
    absurd (differs (sym here ∙ same_case digest content part' part case force))
one_cause_holds digest content (BadTape at) NotTape s s' (part, case, within, is) b = absurd (b part case.in_force)
one_cause_holds digest content (BadTape at) (OtherGraph found) s s' (part, case, within, is) (part', force, here, differs) =
    absurd (differs (sym here ∙ same_case digest content part part' case force))
one_cause_holds digest content (BadTape at) (BadTape at') s s' (part, case, within, is) (part', case', within', is') =
    let moved : IsBadAt content part at' = subst (λ (p : Part). IsBadAt content p at') (same_part content part' part case'.in_force case.in_force) is' in
    let same : is.before ≡ moved.before = same_records content part.width 0 (part.start + 64) is.before moved.before
    is.has_records (ends_bad content part at is) moved.has_records (ends_bad content part at' moved) in
    ap BadTape (sym is.count ∙ ap length same ∙ moved.count)
one_cause_holds digest content (BadTape at) Long s s' (part, case, within, is) (part', case', (xs, count, are)) =
    absurd (bad_apart digest content part part' at xs case case' is within are count)
one_cause_holds digest content Long NotTape s s' (part, case, rest) b = absurd (b part case.in_force)
one_cause_holds digest content Long (OtherGraph found) s s' (part, case, rest) (part', force, here, differs) =
    absurd (differs (sym here ∙ same_case digest content part part' case force))
one_cause_holds digest content Long (BadTape at) s s' (part', case', (xs, count, are)) (part, case, within, is) =
    absurd (bad_apart digest content part part' at xs case case' is within are count)
one_cause_holds digest content Long Long s s' a b = refl
one_cause_holds digest content DiskFault other s s' a b = absurd s
one_cause_holds digest content NoMemory other s s' a b = absurd s
one_cause_holds digest content NotTape DiskFault s s' a b = absurd s'
one_cause_holds digest content NotTape NoMemory s s' a b = absurd s'
one_cause_holds digest content (OtherGraph found) DiskFault s s' a b = absurd s'
one_cause_holds digest content (OtherGraph found) NoMemory s s' a b = absurd s'
one_cause_holds digest content (BadTape at) DiskFault s s' a b = absurd s'
one_cause_holds digest content (BadTape at) NoMemory s s' a b = absurd s'
one_cause_holds digest content Long DiskFault s s' a b = absurd s'
one_cause_holds digest content Long NoMemory s s' a b = absurd s'
