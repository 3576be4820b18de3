-- What an opening did, exit by exit.
use Rattle.std.proofs.Common.{◌≡◌, ◌≢◌, IsTrue, ℕ, ◌+◌, ◌*◌, ◌≤◌, List, [], ◌∷◌, ◌++◌, length, refl, sym, ◌∙◌, ap, subst, arith}
use Rattle.std.proofs.lemmas.List.{append-nil, drop_all, nil_from_length, take_all, length-append}
use Rattle.dcr_base.specs.Disk.{DiskView, Stays, Torn, Wrote, Durable, IsSteady, LeavesOnly, bytes_at, written}
use Rattle.dcr_base.proofs.DiskLemmas.{joined, weaker}
use Rattle.dcr_tape.specs.Opening.{Opened, Refused, IsCause, IsUnmade, most_records}
use Rattle.dcr_tape.specs.Tape.{Part, Holds, as_new, part_bytes, header_bytes, name_text, zeros}
use Rattle.dcr_tape.specs.declared.cause.TapeCause.{TapeCause}
use Rattle.dcr_tape.specs.declared.cause.TapeCause.TheVariants.{DiskFault}
use Rattle.dcr_tape.specs.declared.entry.TapeEntry.{TapeEntry}
use Rattle.dcr_tape.specs.declared.width.Width.TheVariants.{Twelve}
use Rattle.dcr_tape.proofs.DurableLemmas.{honest_as}
use Rattle.dcr_tape.proofs.RenewLemmas.{part_header, part_records, part_shut, part_long}
use Rattle.dcr_tape.proofs.StaysLemmas.{stays_trans, stays_leaves, stays_steady, steady_stays}

-- ---- an empty disk

length-part : (digest : List ℕ) → length digest ≡ 32 → length (part_bytes digest []) ≡ 65 + 12 * 0
length-part digest long = omega (arith, length-append (header_bytes digest) (0 ∷ []), length-append (name_text 2) (digest ++ zeros 24), length-append digest (zeros 24), long)

empty_unmade : (c : List ℕ) → c ≡ [] → IsUnmade c
empty_unmade c none = let many = ap length none in omega arith

torn_unmade : (n : ℕ) (old new : List ℕ) → old ≡ [] → n ≡ 65 → Torn 0 n old new → IsUnmade new
torn_unmade n old new none many torn = let most = torn.no_longer in let few = ap length none in omega arith

-- where nothing was pending on an empty disk, calls that change nothing leave it empty
still_unmade : (old new : DiskView) → Stays old new → IsSteady old → old.content ≡ [] → LeavesOnly old new IsUnmade
still_unmade old new stays steady none =
    weaker old new old.may_leave IsUnmade (λ c left. empty_unmade c (steady.only c left ∙ none)) (stays_leaves old new stays steady.honest)

-- and then a write of as many bytes as a tape of no entries has
then_torn : (old mid new : DiskView) (n : ℕ) → Stays old mid → n ≡ 65 → mid.content ≡ [] → (IsSteady mid → LeavesOnly mid new (Torn 0 n mid.content)) → IsSteady old → LeavesOnly old new IsUnmade
then_torn old mid new n stays many none moment steady =
    let empty : old.content ≡ [] = sym ((stays.told (old.honest_tells steady.honest)).1) ∙ none in
    joined old mid new IsUnmade (still_unmade old mid stays steady empty)
    (weaker mid new (Torn 0 n mid.content) IsUnmade (λ c torn. torn_unmade n mid.content c none many torn) (moment (steady_stays old mid stays steady)))

-- a fault before anything was written
pub refused_fault : (old new : DiskView) (digest : List ℕ) (cause : TapeCause) → cause ≡ DiskFault → Stays old new → Refused old new digest cause
refused_fault old new digest cause is stays = subst (Refused old new digest) (sym is) (record {
  before = old.content;
  was = λ _. refl;
  stands = tt;
  shown = λ none. absurd none;
  kept = λ _ told. stays.told told;
  any_moment = λ honest _. stays_leaves old new stays honest;
  steady = λ other _. absurd (other refl);
  making = λ steady none. still_unmade old new stays steady none;
})

-- a fault while an empty disk was made a tape
pub refused_making : (old mid new : DiskView) (digest : List ℕ) (cause : TapeCause) → cause ≡ DiskFault → Stays old mid → length mid.content ≡ 0 → length digest ≡ 32
    → (IsSteady mid → LeavesOnly mid new (Torn 0 (length (part_bytes digest [])) mid.content)) → Refused old new digest cause
refused_making old mid new digest cause is stays empty long moment = subst (Refused old new digest) (sym is) (record {
  before = old.content;
  was = λ _. refl;
  stands = tt;
  shown = λ none. absurd none;
  kept = λ some told. absurd (some (nothing told));
  any_moment = λ honest some. absurd (some (nothing (old.honest_tells honest)));
  steady = λ other _. absurd (other refl);
  making = λ steady none. then_torn old mid new (length (part_bytes digest [])) stays (length-part digest long) (nil_from_length mid.content empty) moment steady;
})
  where
    nothing : IsTrue old.told → old.content ≡ []
    nothing told = sym ((stays.told told).1) ∙ nil_from_length mid.content empty

-- a cause that was found by reading
pub refused_reading : (old mid new : DiskView) (digest : List ℕ) (cause : TapeCause) → Stays old mid → Stays mid new → IsTrue mid.told → length mid.content ≢ 0
    → IsCause digest mid.content cause → Refused old new digest cause
refused_reading old mid new digest cause before after told some is = record {
  before = mid.content;
  was = λ was_told. sym ((before.told was_told).1);
  stands = is;
  shown = λ _. ((after.told told).0, (λ none. some (ap length none)), (after.told told).1);
  kept = λ _ _. after.told told;
  any_moment = λ honest _. stays_leaves old new (stays_trans old mid new before after) honest;
  steady = λ _ steady. steady_stays old new (stays_trans old mid new before after) steady;
  making = λ _ none. absurd (some (ap length none));
}

-- a tape that was read
pub opened_reading : (old synced mid new : DiskView) (digest : List ℕ) (part : Part) (entries : List TapeEntry)
    → Stays old synced → Durable synced → Stays synced mid → Stays mid new → IsTrue mid.told → length mid.content ≢ 0
    → part.digest ≡ digest → Holds mid.content part entries → length entries ≤ most_records → Opened old new digest part entries
opened_reading old synced mid new digest part entries first durable second third told some same holds few =
    let before = stays_trans old synced mid first second in
    let kept = third.told told in
    record {
      before = mid.content;
      was = λ was_told. sym ((before.told was_told).1);
      told = kept.0;
      made = λ none. absurd (some (ap length none));
      kept = λ _. kept.1;
      same_case = same;
      holds = subst (λ c. Holds c part entries) (sym kept.1) holds;
      few = few;
      honest = third.honest ∙ (second.honest ∙ first.honest);
      steady = λ honest. stays_steady synced new durable (stays_trans synced mid new second third) (honest_as old synced first.honest honest);
      any_moment = λ honest _. stays_leaves old new (stays_trans old mid new before third) honest;
      making = λ _ none. absurd (some (ap length none));
    }

-- ---- making

written_new : (piece content : List ℕ) → content ≡ [] → written 0 piece content ≡ piece
written_new piece content empty =
    ap (written 0 piece) empty ∙ ap (λ (l : List ℕ). piece ++ l) (drop_all (0 + length piece) [] (omega arith)) ∙ append-nil piece

-- a tape of no entries
pub made_holds : (digest : List ℕ) → length digest ≡ 32 → Holds (part_bytes digest []) (record { start = 0; width = Twelve; digest = digest }) []
made_holds digest long =
    let c : List ℕ = part_bytes digest [] in
    let there : bytes_at c 0 (65 + 12 * 0) ≡ part_bytes digest [] = take_all (65 + 12 * 0) c (omega (arith, length-part digest long)) in
    record {
      in_force = record { begins = as_new (record { start = refl; width = refl; header = part_header c 0 digest [] long there }); long = part_long c 0 digest [] long there };
      has_records = part_records c 0 digest [] long there;
      shut = part_shut c 0 digest [] long there;
    }

pub opened_making : (old synced mid new : DiskView) (digest : List ℕ) → length digest ≡ 32
    → Stays old synced → Durable synced → Stays synced mid → IsTrue mid.told → length mid.content ≡ 0
    → Wrote 0 (part_bytes digest []) mid new → (IsSteady mid → IsSteady new) → new.honest ≡ mid.honest
    → (IsSteady mid → LeavesOnly mid new (Torn 0 (length (part_bytes digest [])) mid.content))
    → Opened old new digest (record { start = 0; width = Twelve; digest = digest }) []
opened_making old synced mid new digest long first durable second told empty wrote steady honest moment =
    let before = stays_trans old synced mid first second in
    let none : mid.content ≡ [] = nil_from_length mid.content empty in
    let made : new.content ≡ part_bytes digest [] = wrote.holds ∙ written_new (part_bytes digest []) wrote.content (sym (wrote.was told) ∙ none) in
    record {
      before = mid.content;
      was = λ was_told. sym ((before.told was_told).1);
      told = wrote.told;
      made = λ _. made;
      kept = λ some. absurd (some none);
      same_case = refl;
      holds = subst (λ c. Holds c (record { start = 0; width = Twelve; digest = digest }) []) (sym made) (made_holds digest long);
      few = omega arith;
      honest = honest ∙ (second.honest ∙ first.honest);
      steady = λ honest. steady (stays_steady synced mid durable second (honest_as old synced first.honest honest));
      any_moment = λ _ some. absurd (some none);
      making = λ is_steady _. then_torn old mid new (length (part_bytes digest [])) before (length-part digest long) none moment is_steady;
    }
