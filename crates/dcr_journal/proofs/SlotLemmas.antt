-- The row of words beside the slots: that what stands there stays where words come behind, and what is put at its end.
use Rattle.std.proofs.Common.{◌≡◌, ℕ, ◌+◌, List, [], ◌∷◌, ◌++◌, length, map, take, refl, ap, ◌∙◌, arith}
use Rattle.std.specs.List.{All}
use Rattle.std.proofs.lemmas.List.{map-append, take_all}
use Rattle.std.proofs.lemmas.List.Elements.{All-head, All-tail}
use Rattle.dcr_set.specs.EventSet.{Set}
use Rattle.dcr_set.specs.Kept.{set_at, words_needed}
use Rattle.dcr_set.proofs.KeptLemmas.{set_at-front}
use Rattle.dcr_graph.specs.declared.marking.SiteMark.{SiteMark}
use Rattle.dcr_journal.specs.Slots.{outcome_at, entry_at, IsSetIn, IsIn, IsKept, IsGrown}
use Rattle.dcr_journal.specs.declared.call.Entry.{Entry}
use Rattle.dcr_journal.specs.declared.call.Outcome.TheVariants.{Marks, Can}
use Rattle.dcr_journal.specs.declared.slot.Kept.{Kept}
use Rattle.dcr_journal.specs.declared.slot.Kept.TheVariants as kept
use Rattle.dcr_journal.specs.declared.slot.Slot.{Slot}

-- ---- words behind a row

pub grown_by_none : (row : List ℕ) → IsGrown row row
grown_by_none row = record { front = take_all (length row) row (omega arith); most = omega arith }

-- a set stays the same
set_at-grown : (before after : List ℕ) (place room : ℕ) → take (length before) after ≡ before → IsSetIn before place room → set_at after place room ≡ set_at before place room
set_at-grown before after place room front h = set_at-front before after place room h.within front

-- marks by their three sets
pub marks_same : (executed pending included : Set) (mark : SiteMark) → executed ≡ mark.executed → pending ≡ mark.pending → included ≡ mark.included
    → Marks (record { executed = executed; pending = pending; included = included }) ≡ Marks mark
marks_same executed pending included mark e p i =
    ap (λ s. Marks (record { executed = s; pending = pending; included = included })) e
    ∙ (ap (λ s. Marks (record { executed = mark.executed; pending = s; included = included })) p ∙ ap (λ s. Marks (record { executed = mark.executed; pending = mark.pending; included = s })) i)

-- an outcome
pub outcome_at-front : (before after : List ℕ) (place : ℕ) (outcome : Kept) → take (length before) after ≡ before → IsIn before place outcome → outcome_at after place outcome ≡ outcome_at before place outcome
outcome_at-front before after place (kept.Marks executed pending included) front h =
    marks_same _ _ _ _ (set_at-grown before after place executed front h.0) (set_at-grown before after (place + words_needed executed) pending front h.1)
    (set_at-grown before after (place + words_needed executed + words_needed pending) included front h.2)
outcome_at-front before after place (kept.Can room) front h = ap Can (set_at-grown before after place room front h)
outcome_at-front before after place plain front h = refl

-- and an entry
pub entry_at-front : (before after : List ℕ) (slot : Slot) → take (length before) after ≡ before → IsKept before slot → entry_at after slot ≡ entry_at before slot
entry_at-front before after slot front h =
    ap (λ outcome. record { session = slot.session; seq = slot.seq; call = slot.call; outcome = outcome }) (outcome_at-front before after slot.place slot.outcome front h)

pub entries_at-front : (before after : List ℕ) (slots : List Slot) → take (length before) after ≡ before → All (IsKept before) slots → map (entry_at after) slots ≡ map (entry_at before) slots
entries_at-front before after [] front h = refl
entries_at-front before after (slot ∷ slots) front h =
    let here = entry_at-front before after slot front (All-head (IsKept before) slot slots h) in
    let rest = entries_at-front before after slots front (All-tail (IsKept before) slot slots h) in
    cc

-- ---- sets put at the end

-- a set was put at the end of a row
pub record IsPut (before after : List ℕ) (events : Set) : Type 0 where
  pub set : set_at after (length before) (length events) ≡ events
  pub front : take (length before) after ≡ before
  pub len : length after ≡ length before + words_needed (length events)

-- it stands where the row ended
pub put_at : (before after : List ℕ) (events : Set) (place room : ℕ) → IsPut before after events → place ≡ length before → room ≡ length events → set_at after place room ≡ events
put_at before after events place room put at is =
    ap (λ p. set_at after p room) at ∙ ap (set_at after (length before)) is ∙ put.set

-- one slot more is one entry more
pub entries_pushed : (before after : List ℕ) (slots more : List Slot) (slot : Slot) (entries : List Entry) (entry : Entry) → more ≡ slots ++ slot ∷ [] → take (length before) after ≡ before
    → All (IsKept before) slots → map (entry_at before) slots ≡ entries → entry_at after slot ≡ entry → map (entry_at after) more ≡ entries ++ entry ∷ []
entries_pushed before after slots more slot entries entry is front kept seen last =
    ap (map (entry_at after)) is ∙ map-append (entry_at after) slots (slot ∷ [])
    ∙ ap (λ old. old ++ entry_at after slot ∷ []) (entries_at-front before after slots front kept ∙ seen) ∙ ap (λ e. entries ++ e ∷ []) last
