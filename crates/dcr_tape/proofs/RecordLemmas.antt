-- What the bytes of one record are.
use Rattle.std.proofs.Common.{◌≡◌, ◌≢◌, inl, inr, ℕ, ◌+◌, ◌-◌, ◌/◌, ◌%◌, ◌<◌, ◌≤◌, min, List, [], ◌∷◌, length, get_or, drop, refl, sym, ◌∙◌, ap, subst, arith}
use Rattle.std.specs.Int.{w32, to_be_bytes}
use Rattle.std.proofs.lemmas.List.{get_or-take, get_or-drop, get_or-replicate, take_all}
use Rattle.dcr_base.specs.Disk.{bytes_at}
use Rattle.dcr_base.proofs.DiskLemmas.{bytes_at-part, length-bytes_at}
use Rattle.dcr_tape.specs.Tape.{record_bytes, size_of, tail_of, two_bytes, zeros}
use Rattle.dcr_tape.specs.Opening.{IsBad, is_cut, is_soiled, is_misnumbered}
use Rattle.dcr_tape.specs.Found.{IsRecord}
use Rattle.dcr_tape.specs.declared.record.Record.{Record}
use Rattle.dcr_tape.specs.declared.record.Record.TheVariants.{Shut, Bad, Sound}
use Rattle.dcr_tape.specs.declared.width.Width.{Width}
use Rattle.dcr_tape.specs.declared.width.Width.TheVariants.{Eight, Twelve}
use Rattle.dcr_tape.proofs.PartLemmas.{one_there}

pub eight_of : (l : List ℕ) → length l ≡ 8 → l ≡ get_or l 0 0 ∷ get_or l 1 0 ∷ get_or l 2 0 ∷ get_or l 3 0 ∷ get_or l 4 0 ∷ get_or l 5 0 ∷ get_or l 6 0 ∷ get_or l 7 0 ∷ []
eight_of (a ∷ b ∷ c ∷ d ∷ e ∷ f ∷ g ∷ h ∷ []) long = refl
eight_of _ long = absurd (omega arith)

pub twelve_of : (l : List ℕ) → length l ≡ 12
    → l ≡ get_or l 0 0 ∷ get_or l 1 0 ∷ get_or l 2 0 ∷ get_or l 3 0 ∷ get_or l 4 0 ∷ get_or l 5 0 ∷ get_or l 6 0 ∷ get_or l 7 0 ∷ get_or l 8 0 ∷ get_or l 9 0 ∷ get_or l 10 0 ∷ get_or l 11 0 ∷ []
twelve_of (a ∷ b ∷ c ∷ d ∷ e ∷ f ∷ g ∷ h ∷ i ∷ j ∷ k ∷ l ∷ []) long = refl
twelve_of _ long = absurd (omega arith)

-- one of three bytes isn't zero
not_zeros : (bytes : List ℕ) (at i : ℕ) → i < 3 → get_or bytes (at + i) 0 ≢ 0 → bytes_at bytes at 3 ≢ zeros 3
not_zeros bytes at i lt soiled same =
    soiled (sym (get_or-take 3 (drop at bytes) i 0 lt ∙ get_or-drop at bytes i 0) ∙ ap (λ (l : List ℕ). get_or l i 0) same ∙ get_or-replicate 3 i 0 0 lt)

module _ (bytes : List ℕ) (width : Width) (long : length bytes ≡ size_of width) (opened : get_or bytes 0 0 ≡ 1) where
  gate_open : bytes_at bytes 0 1 ≡ 1 ∷ []
  gate_open = one_there bytes 0 (some width long) ∙ ap (λ (g : ℕ). g ∷ []) opened
    where
      some : (w : Width) → length bytes ≡ size_of w → 0 < length bytes
      some Eight is = omega (arith, is)
      some Twelve is = omega (arith, is)

  pub soiled : (number i : ℕ) → i < 3 → get_or bytes (tail_of width + i) 0 ≢ 0 → IsBad bytes width number 0
  soiled number i lt is = inr (gate_open, is_soiled (λ same. not_zeros bytes (tail_of width) i lt is (ap (λ (k : ℕ). bytes_at bytes k 3) (omega arith) ∙ same)))

  pub misnumbered : (number : ℕ) → width ≡ Twelve → bytes_at bytes 5 4 ≢ to_be_bytes w32 number → IsBad bytes width number 0
  misnumbered number wide is = inr (gate_open, is_misnumbered wide is)

pub sound_eight : (bytes : List ℕ) (event site : ℕ) → length bytes ≡ 8 → get_or bytes 0 0 ≡ 1
    → two_bytes event ≡ get_or bytes 1 0 ∷ get_or bytes 2 0 ∷ [] → two_bytes site ≡ get_or bytes 3 0 ∷ get_or bytes 4 0 ∷ []
    → get_or bytes 5 0 ≡ 0 → get_or bytes 6 0 ≡ 0 → get_or bytes 7 0 ≡ 0
    → (number : ℕ) → bytes_at bytes 0 8 ≡ record_bytes Eight number (record { event = event; site = site })
sound_eight bytes event site long opened is_event is_site a b c number =
    let whole = take_all 8 bytes (omega (arith, long)) ∙ eight_of bytes long in
    let e1 : event / 256 ≡ get_or bytes 1 0 = cc is_event in
    let e2 : event % 256 ≡ get_or bytes 2 0 = cc is_event in
    let s1 : site / 256 ≡ get_or bytes 3 0 = cc is_site in
    let s2 : site % 256 ≡ get_or bytes 4 0 = cc is_site in
    whole ∙ cc (e1, e2, s1, s2, opened, a, b, c)

pub sound_twelve : (bytes : List ℕ) (event site number : ℕ) → length bytes ≡ 12 → get_or bytes 0 0 ≡ 1
    → two_bytes event ≡ get_or bytes 1 0 ∷ get_or bytes 2 0 ∷ [] → two_bytes site ≡ get_or bytes 3 0 ∷ get_or bytes 4 0 ∷ []
    → get_or bytes 5 0 ∷ get_or bytes 6 0 ∷ get_or bytes 7 0 ∷ get_or bytes 8 0 ∷ [] ≡ to_be_bytes w32 number
    → get_or bytes 9 0 ≡ 0 → get_or bytes 10 0 ≡ 0 → get_or bytes 11 0 ≡ 0
    → bytes_at bytes 0 12 ≡ record_bytes Twelve number (record { event = event; site = site })
sound_twelve bytes event site number long opened is_event is_site is_number a b c =
    let whole = take_all 12 bytes (omega (arith, long)) ∙ twelve_of bytes long in
    let e1 : event / 256 ≡ get_or bytes 1 0 = cc is_event in
    let e2 : event % 256 ≡ get_or bytes 2 0 = cc is_event in
    let s1 : site / 256 ≡ get_or bytes 3 0 = cc is_site in
    let s2 : site % 256 ≡ get_or bytes 4 0 = cc is_site in
    whole ∙ cc (e1, e2, s1, s2, opened, is_number, a, b, c)

-- ---- in a content

module _ (content bytes : List ℕ) (width : Width) (at number : ℕ) (read : bytes ≡ bytes_at content at (size_of width)) where
  part : (k m : ℕ) → k + m ≤ size_of width → bytes_at bytes k m ≡ bytes_at content (at + k) m
  part k m within = ap (λ (l : List ℕ). bytes_at l k m) read ∙ bytes_at-part content at (size_of width) k m within

  here : (m : ℕ) → m ≤ size_of width → bytes_at bytes 0 m ≡ bytes_at content at m
  here m within = part 0 m (omega (arith, within)) ∙ ap (λ (k : ℕ). bytes_at content k m) (omega arith)

  long : length bytes ≡ min (size_of width) (length content - at)
  long = ap length read ∙ length-bytes_at content at (size_of width)

  one : (w : Width) → 1 ≤ size_of w
  one Eight = omega arith
  one Twelve = omega arith

  tail : (w : Width) → tail_of w + 3 ≤ size_of w
  tail Eight = omega arith
  tail Twelve = omega arith

  bad : IsBad bytes width number 0 → IsBad content width number at
  bad (inl none) = inl (omega (arith, none, long, one width))
  bad (inr (gate, is_cut cut)) = inr (sym (here 1 (one width)) ∙ gate, is_cut (omega (arith, cut, long, one width)))
  bad (inr (gate, is_soiled soiled)) =
      inr (sym (here 1 (one width)) ∙ gate, is_soiled (λ same. soiled (ap (λ (k : ℕ). bytes_at bytes k 3) (omega arith) ∙ part (tail_of width) 3 (tail width) ∙ same)))
  bad (inr (gate, is_misnumbered wide is)) =
      inr (sym (here 1 (one width)) ∙ gate, is_misnumbered wide (λ same. is (part 5 4 (subst (λ w. 5 + 4 ≤ size_of w) (sym wide) (omega arith)) ∙ same)))

  pub in_content : (found : Record) → IsRecord bytes width number 0 found → IsRecord content width number at found
  in_content Shut is = record { gate = is.gate; there = sym (here 1 (one width)) ∙ is.there; not_open = is.not_open }
  in_content Bad is = bad is
  in_content (Sound entry) is = sym (here (size_of width) (omega arith)) ∙ is
