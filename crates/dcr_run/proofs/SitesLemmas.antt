-- Lists of sites that take in an execution, and what they tell together.
use Rattle.std.proofs.Common.{◌≡◌, ℕ, ◌<◌, ◌≤◌, Bool, true, false, List, [], ◌∷◌, length, get_or, take, Some, refl, sym, ap, subst, ◌∙◌, arith}
use Rattle.std.proofs.lemmas.Option.{slice_get_within, get_or_from_slice_get, slice_get-get_or}
use Rattle.std.proofs.lemmas.List.{ext_get_or, get_or-map, length-map}
use Rattle.std.specs.Prelude.{slice_get}
use Rattle.dcr_set.specs.EventSet.{Set, has}
use Rattle.dcr_graph.specs.Rules.{Rules}
use Rattle.dcr_graph.specs.Rows.{row}
use Rattle.dcr_graph.specs.Step.{step}
use Rattle.dcr_graph.specs.declared.marking.Marking.{Marking}
use Rattle.dcr_proj.specs.CoverValue.{atoms_of}
use Rattle.dcr_proj.specs.NetworkValue.{IsNetwork, participants_of}
use Rattle.dcr_proj.proofs.NetworkLemmas.{hears}
use Rattle.dcr_site.proofs.SiteLemmas.{unheard}
use Rattle.dcr_site.specs.Seen.{Seen}
use Rattle.dcr_run.specs.SitesModel.{alphabets_in}
use Rattle.dcr_site.specs.Together.{AllStand, IsOver, AreOver}
use Rattle.dcr_run.specs.Engine.{AreOverMore, Heard, HeardEach}
use Rattle.dcr_run.proofs.HearingLemmas.{HeardBy, next_hears, next_kept, heard_by_all}

-- ---- sites that take in an execution

-- the sites told took in an execution, and the others stayed as they were
abbrev pub HeardSites : ℕ → List ℕ → List Seen → List Seen → Type 0
HeardSites e told before after = HeardBy (Heard e) told before after

-- a site's alphabet is the one that its place has among the alphabets
alphabet_at : (e : ℕ) (sites : List Seen) (j : ℕ) (site : Seen) → slice_get sites j ≡ Some site → hears (alphabets_in sites) e j ≡ has site.projection.alphabet e
alphabet_at e sites j site here =
    ap (λ a. has a e) (get_or-map (λ (s : Seen). s.projection.alphabet) sites j site [] (slice_get_within sites j site here)
    ∙ ap (λ (s : Seen). s.projection.alphabet) (get_or_from_slice_get sites j site site here))

-- the next participant hears of the event
pub participant_may : (e k : ℕ) (list : List ℕ) (before after : List Seen) → HeardSites e (take k list) before after → list ≡ participants_of (alphabets_in before) e → k < length list
    → (p : ℕ) → get_or list k 0 ≡ p → (site : Seen) → slice_get after p ≡ Some site → has site.projection.alphabet e ≡ true
participant_may e k list before after so_far is within p at site here =
    let kept : slice_get before p ≡ Some site = next_kept (Heard e) (alphabets_in before) e k list before after so_far is within p at site here in
    sym (alphabet_at e before p site kept) ∙ next_hears (alphabets_in before) e k list is within p at

-- a site that doesn't hear of an event stands after it where it stood
pub deaf : (n e : ℕ) (site : Seen) → e < n → IsOver n site → has site.projection.alphabet e ≡ false → Heard e site site
deaf n e site below over out = record {
  projection = refl;
  stepped = λ G S M at. unheard G S M site e at (over.alphabet ∙ sym over.own) (let room = over.own in omega arith) out;
}

told_or_deaf : (n e : ℕ) (old site : Seen) (b : Bool) → has old.projection.alphabet e ≡ b → (has old.projection.alphabet e ≡ true → Heard e old site)
    → (has old.projection.alphabet e ≡ false → site ≡ old) → e < n → IsOver n old → Heard e old site
told_or_deaf n e old site true h heard same below over = heard h
told_or_deaf n e old site false h heard same below over = subst (Heard e old) (sym (same h)) (deaf n e old below over h)

pub heard_all : (e k : ℕ) (list : List ℕ) (before after : List Seen) → length list ≤ k → list ≡ participants_of (alphabets_in before) e → AreOverMore e before
    → HeardSites e (take k list) before after → HeardEach e before after
heard_all e k list before after all is over so_far = record {
  as_many = so_far.as_many;
  each = λ j site found.
      let was = heard_by_all (Heard e) (alphabets_in before) e k list before after all is so_far j site found in
      (was.0, was.1, told_or_deaf over.0 e was.0 site (has was.0.projection.alphabet e) refl (λ h. was.2 (alphabet_at e before j was.0 was.1 ∙ h)) (λ h. was.3 (alphabet_at e before j was.0 was.1 ∙ h)) over.1 (over.2 j was.0 was.1));
}

pub heard_stand : (G : Rules) (C : List Set) (M : Marking) (e : ℕ) (before after : List Seen) → HeardEach e before after → AllStand G C M before → AllStand G C (step G M e) after
heard_stand G C M e before after heard stand = record {
  as_many = heard.as_many ∙ stand.as_many;
  each = λ j site is. let was = heard.each j site is in was.2.stepped G (row C j) M (stand.each j was.0 was.1);
}

pub heard_over : (n e : ℕ) (before after : List Seen) → HeardEach e before after → AreOver n before → AreOver n after
heard_over n e before after heard over = λ j site is.
    let was = heard.each j site is in let same = was.2.projection in let old = over j was.0 was.1 in
    record { own = ap (λ P. length P.own) same ∙ old.own; alphabet = ap (λ P. length P.alphabet) same ∙ old.alphabet }

site_at : (sites : List Seen) (j : ℕ) → j < length sites → (site : Seen) × (slice_get sites j ≡ Some site)
site_at [] j l = absurd (omega arith)
site_at (first ∷ sites) j l = (get_or (first ∷ sites) j first, slice_get-get_or (first ∷ sites) j first l)

alphabet_room : (n : ℕ) (sites : List Seen) → AreOver n sites → (k : ℕ) (d : Set) → k < length (alphabets_in sites) → length (get_or (alphabets_in sites) k d) ≡ n
alphabet_room n sites over k d l =
    let within : k < length sites = (let many = length-map sites (λ (s : Seen). s.projection.alphabet) in omega arith) in
    let site = site_at sites k within in
    ap (λ a. length a) (get_or-map (λ (s : Seen). s.projection.alphabet) sites k site.0 d within)
    ∙ ap (λ (s : Seen). length s.projection.alphabet) (get_or_from_slice_get sites k site.0 site.0 site.1) ∙ (over k site.0 site.1).alphabet

-- the alphabets of the sites of a cover make a network over its atoms
pub network_of : (n : ℕ) (sites : List Seen) → AreOver n sites → 1 ≤ length sites → length sites ≤ 64 → IsNetwork (alphabets_in sites) × (atoms_of (alphabets_in sites) ≡ n)
network_of n sites over some most =
    let many = length-map sites (λ (s : Seen). s.projection.alphabet) in
    let first : atoms_of (alphabets_in sites) ≡ n = alphabet_room n sites over 0 [] (omega arith) in (
      record { some_site = omega arith; most_sites = omega arith; rooms = λ k d l. alphabet_room n sites over k d l ∙ sym first },
      first,
    )

-- the alphabets stay
pub heard_alphabets : (e : ℕ) (before after : List Seen) → HeardEach e before after → alphabets_in after ≡ alphabets_in before
heard_alphabets e before after heard =
    let many_after = length-map after (λ (s : Seen). s.projection.alphabet) in let many_before = length-map before (λ (s : Seen). s.projection.alphabet) in
    ext_get_or [] (alphabets_in after) (alphabets_in before) (many_after ∙ heard.as_many ∙ sym many_before) (λ j l.
    let within : j < length after = omega arith in
    let site = site_at after j within in
    let was = heard.each j site.0 site.1 in
    get_or-map (λ (s : Seen). s.projection.alphabet) after j site.0 [] within ∙ ap (λ (s : Seen). s.projection.alphabet) (get_or_from_slice_get after j site.0 site.0 site.1)
    ∙ ap (λ P. P.alphabet) was.2.projection
    ∙ sym (get_or-map (λ (s : Seen). s.projection.alphabet) before j was.0 [] (slice_get_within before j was.0 was.1) ∙ ap (λ (s : Seen). s.projection.alphabet) (get_or_from_slice_get before j was.0 was.0 was.1)))
