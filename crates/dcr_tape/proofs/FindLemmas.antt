-- Which part is in force, from the first 64 bytes of a content.
use Rattle.std.proofs.Common.{◌≡◌, ◌≢◌, ◌↔◌, Bool, false, IsTrue, Option, Some, None, MatchOption, ℕ, ◌+◌, ◌^◌, ◌≤◌, List, [], ◌∷◌, ◌++◌, length, get_or, take, drop, refl, sym, ◌∙◌, ap, subst, arith}
use Rattle.std.specs.Int.{w64, from_be_bytes}
use Rattle.dcr_base.specs.Disk.{bytes_at}
use Rattle.std.proofs.lemmas.Bool.{false≢true}
use Rattle.std.proofs.lemmas.List.{append_assoc, append-nil, drop_all, take_at}
use Rattle.dcr_base.proofs.DiskLemmas.{bytes_at-part, length-bytes_at}
use Rattle.dcr_tape.specs.Tape.{Part, HasHeader, HasOldHeader, Begins, as_new, as_old, as_renewed, InForce, name_text, zeros}
use Rattle.dcr_tape.specs.Found.{IsPartAt, HasNoPartAt, part_found}
use Rattle.dcr_tape.specs.declared.find.FoundPart.{FoundPart}
use Rattle.dcr_tape.specs.declared.width.Width.TheVariants.{Eight, Twelve}
use Rattle.dcr_tape.proofs.PartLemmas.{one_there}

abbrev pub NewHead : List ℕ → Type 0
NewHead head = (bytes_at head 0 8 ≡ name_text 2) × (bytes_at head 40 24 ≡ zeros 24)

abbrev pub OldHead : List ℕ → Type 0
OldHead head = (bytes_at head 0 8 ≡ name_text 1) × (bytes_at head 49 15 ≡ zeros 15)

module _ (c head : List ℕ) (at : ℕ) (read : head ≡ bytes_at c at 64) where
  pub in_head : (k m : ℕ) → k + m ≤ 64 → bytes_at head k m ≡ bytes_at c (at + k) m
  in_head k m within = ap (λ (h : List ℕ). bytes_at h k m) read ∙ bytes_at-part c at 64 k m within

  first : bytes_at head 0 8 ≡ bytes_at c at 8
  first = in_head 0 8 (omega arith) ∙ ap (λ (k : ℕ). bytes_at c k 8) (omega arith)

  pub new_header : NewHead head → (digest : List ℕ) → digest ≡ bytes_at head 8 32 → HasHeader c at digest
  new_header is digest same = record {
    version = sym first ∙ is.0;
    names = sym (in_head 8 32 (omega arith)) ∙ sym same;
    blank = sym (in_head 40 24 (omega arith)) ∙ is.1;
  }

  pub new_head : (digest : List ℕ) → HasHeader c at digest → NewHead head
  new_head digest header = (first ∙ header.version, in_head 40 24 (omega arith) ∙ header.blank)

pub near_of : (c : List ℕ) (part : Part) → InForce c part → part.start ≤ 2 ^ 62
near_of c part is = near is.begins
  where
    near : Begins c part → part.start ≤ 2 ^ 62
    near (as_new at_start) = omega (arith, at_start.start)
    near (as_old at_start) = omega (arith, at_start.start)
    near (as_renewed behind) = behind.near

-- the two versions have different names
names_differ : name_text 1 ≡ name_text 2 → ⊥
names_differ same = absurd (omega (arith, ap (λ (l : List ℕ). get_or l 7 0) same))

module _ (c head : List ℕ) (read : head ≡ bytes_at c 0 64) where
  old_header : OldHead head → HasOldHeader c
  old_header is = record { version = sym (in_head c head 0 read 0 8 (omega arith)) ∙ is.0; blank = sym (in_head c head 0 read 49 15 (omega arith)) ∙ is.1 }

  old_head : HasOldHeader c → OldHead head
  old_head header = (in_head c head 0 read 0 8 (omega arith) ∙ header.version, in_head c head 0 read 49 15 (omega arith) ∙ header.blank)

  pub found_new : NewHead head → 65 ≤ length c → (digest : List ℕ) → digest ≡ bytes_at head 8 32
      → InForce c (record { start = 0; width = Twelve; digest = digest })
  found_new is long digest same = record {
    begins = as_new (record { start = refl; width = refl; header = new_header c head 0 read is digest same });
    long = omega (arith, long);
  }

  pub found_none : (NewHead head → ⊥) → (OldHead head → ⊥) → (part : Part) → InForce c part → ⊥
  found_none not_new not_old part is = neither is.begins
    where
      neither : Begins c part → ⊥
      neither (as_new new) = not_new (new_head c head 0 read part.digest new.header)
      neither (as_old old) = not_old (old_head old.header)
      neither (as_renewed renewed) = not_old (old_head renewed.old_header)

  switch_read : bytes_at c 40 1 ≡ bytes_at head 40 1
  switch_read = sym (in_head c head 0 read 40 1 (omega arith))

  pub found_old : OldHead head → 65 ≤ length c → (switch : ℕ) → bytes_at head 40 1 ≡ switch ∷ [] → switch ≢ 1 → (digest : List ℕ) → digest ≡ bytes_at head 8 32
      → InForce c (record { start = 0; width = Eight; digest = digest })
  found_old is long switch there off digest same = record {
    begins = as_old (record {
      start = refl;
      width = refl;
      header = old_header is;
      digest = sym (in_head c head 0 read 8 32 (omega arith)) ∙ sym same;
      switch = switch;
      off = switch_read ∙ there;
      not_on = off;
    });
    long = omega (arith, long);
  }

  module _ (is : OldHead head) (on : bytes_at head 40 1 ≡ 1 ∷ []) (start : ℕ) (pointer : start ≡ from_be_bytes w64 (bytes_at head 41 8)) where
    points : from_be_bytes w64 (bytes_at c 41 8) ≡ start
    points = ap (from_be_bytes w64) (sym (in_head c head 0 read 41 8 (omega arith))) ∙ sym pointer

    pub found_renewed : (found : FoundPart) → IsPartAt c start found → InForce c (part_found found)
    found_renewed found part = record {
      begins = as_renewed (record {
        width = part.width;
        old_header = old_header is;
        on = switch_read ∙ on;
        start = points ∙ sym part.here;
        near = subst (λ s. s ≤ 2 ^ 62) (sym part.here) part.near;
        header = subst (λ s. HasHeader c s found.digest) (sym part.here) part.header;
      });
      long = subst (λ s. s + 65 ≤ length c) (sym part.here) part.long;
    }

    pub renewed_none : HasNoPartAt c start → (part : Part) → InForce c part → ⊥
    renewed_none no_part part force = neither force.begins
      where
        neither : Begins c part → ⊥
        neither (as_new new) = names_differ (sym ((old_header is).version) ∙ new.header.version)
        neither (as_old old) = old.not_on (ap (λ (l : List ℕ). get_or l 0 0) (sym old.off ∙ switch_read ∙ on))
        neither (as_renewed renewed) =
            let same : part.start ≡ start = sym renewed.start ∙ points in
            no_part part.digest
            (subst (λ s. s ≤ 2 ^ 62) same renewed.near)
            (subst (λ s. s + 65 ≤ length c) same force.long)
            (subst (λ s. HasHeader c s part.digest) same renewed.header)

-- what a test finds
pub refuted : (result : Bool) (P : Type 0) → IsTrue result ↔ P → result ≡ false → P → ⊥
refuted result P tells off is = false≢true (sym off ∙ tells.1 is)

-- a read that had room for what is there
pub whole_read : (was content : List ℕ) (at n count : ℕ) (before after : List ℕ) → content ≡ was → length before ≡ count → at + count ≤ length was
    → n ≡ length (bytes_at content at (length before)) → after ≡ bytes_at content at (length before) ++ drop n before → after ≡ bytes_at was at count
whole_read was content at n count before after same long there counts is =
    let all : bytes_at content at (length before) ≡ bytes_at was at count = ap (λ (l : List ℕ). bytes_at l at (length before)) same ∙ ap (bytes_at was at) long in
    let full : n ≡ length before = omega (arith, counts, ap length all, length-bytes_at was at count, there, long) in
    is ∙ ap (λ (l : List ℕ). l ++ drop n before) all
    ∙ ap (λ (l : List ℕ). bytes_at was at count ++ l) (drop_all n before (omega (arith, full)))
    ∙ append-nil (bytes_at was at count)

-- what was read of a buffer that may be longer
pub taken_read : (was content : List ℕ) (at n count : ℕ) (before after rest : List ℕ) → content ≡ was → length before ≡ count
    → n ≡ length (bytes_at content at (length before)) → after ≡ bytes_at content at (length before) ++ drop n before → take n (after ++ rest) ≡ bytes_at was at count
taken_read was content at n count before after rest same long counts is =
    let all : bytes_at content at (length before) ≡ bytes_at was at count = ap (λ (l : List ℕ). bytes_at l at (length before)) same ∙ ap (bytes_at was at) long in
    ap (λ (l : List ℕ). take n (l ++ rest)) (is ∙ ap (λ (l : List ℕ). l ++ drop n before) all)
    ∙ ap (take n) (append_assoc (bytes_at was at count) (drop n before) rest)
    ∙ take_at (bytes_at was at count) (drop n before ++ rest) n (sym (counts ∙ ap length all))

-- one byte of a header
pub one_in_head : (c head : List ℕ) (at : ℕ) → head ≡ bytes_at c at 64 → at + 64 ≤ length c → bytes_at head 40 1 ≡ get_or head 40 0 ∷ []
one_in_head c head at read there = one_there head 40 (omega (arith, ap length read, length-bytes_at c at 64, there))

-- the part that was looked for behind an old header
pub renewed_found : (c head : List ℕ) (read : head ≡ bytes_at c 0 64) (is : OldHead head) (on : bytes_at head 40 1 ≡ 1 ∷ []) (start : ℕ)
    (pointer : start ≡ from_be_bytes w64 (bytes_at head 41 8)) (found : Option FoundPart)
    → MatchOption found (HasNoPartAt c start) (λ part. IsPartAt c start part)
    → MatchOption found ((part : Part) → InForce c part → ⊥) (λ part. InForce c (part_found part))
renewed_found c head read is on start pointer None no_part = renewed_none c head read is on start pointer no_part
renewed_found c head read is on start pointer (Some found) part = found_renewed c head read is on start pointer found part
