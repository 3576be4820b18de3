-- The journal's record with those of the enlisted sites, when another record comes behind the first one and when one is taken out.
use Rattle.std.proofs.Common.{◌≡◌, ℕ, zero, suc, ◌<◌, Bool, true, false, List, [], ◌∷◌, ◌++◌, length, map, sym, refl, ap, ◌∙◌, subst, arith}
use Rattle.std.specs.Prelude.{◌==◌, slice_index_or, Option, Some, None}
use Rattle.std.specs.List.{Contains}
use Rattle.std.specs.Option.{option_map_or}
use Rattle.std.proofs.lemmas.Bool.{false≢true}
use Rattle.std.proofs.lemmas.Bool.Decides.{nat_tests}
use Rattle.std.proofs.lemmas.List.Elements.{All-head, All-tail}
use Rattle.dcr_set.specs.EventSet.{Set, has}
use Rattle.dcr_journal.specs.Run.{event_done}
use Rattle.dcr_journal.specs.declared.call.Call.{Call}
use Rattle.dcr_journal.specs.declared.call.Outcome.{Outcome}
use Rattle.dcr_journal.specs.declared.call.Entry.{Entry}
use Rattle.dcr_turn.specs.declared.record.Holder.{Holder}
use Rattle.dcr_turn.specs.declared.record.Holder.TheVariants.{Journal, Site, Session}
use Rattle.dcr_turn.specs.declared.record.Record.{Record}
use Rattle.dcr_turn.specs.Covers.{Covers}
use Rattle.dcr_turn.specs.Pushing.{AllHear, without_first}
use Rattle.dcr_turn.specs.Records.{concerns, is_of_turn, once, times, knowing, told, first_seen, without, only, sites_in, site_number, all_know}
use Rattle.dcr_turn.specs.Rule.{IsRight}
use Rattle.dcr_turn.specs.Steps.{Stand, joined, kept, cut}

-- the records of sites that have seen the list
abbrev pub sites_know : List Entry → List ℕ → List Record
sites_know J sites = map (λ i. knowing J (Site i)) sites

-- the journal's record, then that of a visitor, then those of the sites
abbrev pub with_visitor : List Entry → Record → List ℕ → List Record
with_visitor J r sites = knowing J Journal ∷ r ∷ sites_know J sites

pub sites_told : (H J : List Entry) (L : List ℕ) → map (told J) (sites_know H L) ≡ sites_know J L
sites_told H J [] = refl
sites_told H J (i ∷ L) = ap (λ (rs : List Record). knowing J (Site i) ∷ rs) (sites_told H J L)

sites_counted : (J : List Entry) (L : List ℕ) → map (λ (r : Record). site_number r.holder) (sites_know J L) ≡ L
sites_counted J [] = refl
sites_counted J (i ∷ L) = ap (λ (is : List ℕ). i ∷ is) (sites_counted J L)

pub enlisted_is : (records : List Record) (J : List Entry) (L : List ℕ) → records ≡ all_know J L → sites_in records ≡ L
enlisted_is records J L is = ap sites_in is ∙ sites_counted J L

pub ledger_again : (records : List Record) (J : List Entry) (L : List ℕ) → records ≡ all_know J L → records ≡ all_know J (sites_in records)
ledger_again records J L is = is ∙ ap (all_know J) (sym (enlisted_is records J L is))

module _ (H J : List Entry) (L : List ℕ) (r q : Record) (records others now : List Record) where
  pub joined_is : records ≡ all_know H L → others ≡ r ∷ [] → now ≡ joined records others → now ≡ with_visitor H r L
  joined_is is one now_is = now_is ∙ ap (λ (v : List Record). joined v others) is ∙ ap (joined (all_know H L)) one

  pub told_is : records ≡ with_visitor H r L → now ≡ map (told J) records → now ≡ with_visitor J (knowing J r.holder) L
  told_is is now_is = now_is ∙ ap (map (told J)) is ∙ ap (λ (rs : List Record). knowing J Journal ∷ knowing J r.holder ∷ rs) (sites_told H J L)

  pub heard_is : records ≡ with_visitor H r L → now ≡ map (told (first_seen records)) records → now ≡ with_visitor H (knowing H r.holder) L
  heard_is is now_is =
      now_is ∙ ap (λ (v : List Record). map (told (first_seen v)) v) is ∙ ap (λ (rs : List Record). knowing H Journal ∷ knowing H r.holder ∷ rs) (sites_told H H L)

  pub published_is : (e : Entry) → records ≡ with_visitor H r L → now ≡ map (told (first_seen records ++ e ∷ [])) records → now ≡ with_visitor (H ++ e ∷ []) (knowing (H ++ e ∷ []) r.holder) L
  published_is e is now_is =
      let M = H ++ e ∷ [] in
      now_is ∙ ap (λ (v : List Record). map (told (first_seen v ++ e ∷ [])) v) is ∙ ap (λ (rs : List Record). knowing M Journal ∷ knowing M r.holder ∷ rs) (sites_told H M L)

  pub kept_is : records ≡ with_visitor J q L → now ≡ kept records → now ≡ all_know J L
  kept_is is now_is = now_is ∙ ap kept is

  pub cut_is : records ≡ with_visitor J q L → now ≡ cut records → now ≡ q ∷ []
  cut_is is now_is = now_is ∙ ap cut is

module _ (A : List Set) (m : ℕ) (H : List Entry) (L : List ℕ) (r : Record) (records : List Record) where
  pub visitor_stands : records ≡ with_visitor H r L → Stand A m records (first_seen records) → Stand A m (with_visitor H r L) H
  visitor_stands is stand = subst (λ (v : List Record). Stand A m v (first_seen v)) is stand

  -- what a visitor has seen covers the list
  pub visitor_covers : records ≡ with_visitor H r L → Stand A m records (first_seen records) → Covers (concerns A r.holder) r.seen H
  visitor_covers is stand =
      let s = visitor_stands is stand in
      All-head (IsRight A H) r (sites_know H L) (All-tail (IsRight A H) (knowing H Journal) (r ∷ sites_know H L) s.right)

site_there_at : (J : List Entry) (L : List ℕ) (i k : ℕ) → k < length L → slice_index_or L k i ≡ i → 0 < times (Site i) (sites_know J L)
site_there_at J [] i k inside at = absurd (omega arith)
site_there_at J (j ∷ L) i zero inside at = let e : once (i == j) ≡ 1 = grind (arith, nat_tests) in omega arith
site_there_at J (j ∷ L) i (suc k) inside at = let e = site_there_at J L i k (omega arith) at in omega arith

-- an enlisted site has its record there
pub site_there : (J : List Entry) (L : List ℕ) (i : ℕ) → Contains L i → 0 < times (Site i) (sites_know J L)
site_there J L i there = site_there_at J L i there.0 there.1 there.2

-- so no other record of it comes
pub enlisted_once : (A : List Set) (m : ℕ) (H front : List Entry) (L : List ℕ) (i : ℕ) → Stand A m (with_visitor H (knowing front (Site i)) L) H → ¬ Contains L i
enlisted_once A m H front L i stand there =
    let a = site_there H L i there in
    let b = stand.once (Site i) in
    let c : once (i == i) ≡ 1 = grind (arith, nat_tests) in omega arith

without_step : (J : List Entry) (i j : ℕ) (L : List ℕ) → without (Site i) (sites_know J L) ≡ sites_know J (without_first i L) → (b : Bool) → (i == j) ≡ b
    → without (Site i) (sites_know J (j ∷ L)) ≡ sites_know J (without_first i (j ∷ L))
without_step J i j L rest true h = rw h refl
without_step J i j L rest false h = rw h (ap (λ (rs : List Record). knowing J (Site j) ∷ rs) rest)

without_sites : (J : List Entry) (i : ℕ) (L : List ℕ) → without (Site i) (sites_know J L) ≡ sites_know J (without_first i L)
without_sites J i [] = refl
without_sites J i (j ∷ L) = without_step J i j L (without_sites J i L) (i == j) refl

only_step : (J : List Entry) (i j : ℕ) (L : List ℕ) → only (Site i) (sites_know J L) ≡ knowing J (Site i) ∷ [] → (b : Bool) → (i == j) ≡ b
    → only (Site i) (sites_know J (j ∷ L)) ≡ knowing J (Site i) ∷ []
only_step J i j L rest true h = let e : j ≡ i = grind (arith, nat_tests) in rw h (ap (λ (k : ℕ). knowing J (Site k) ∷ []) e)
only_step J i j L rest false h = rw h rest

only_here : (J : List Entry) (i j : ℕ) (L : List ℕ) → j ≡ i → only (Site i) (sites_know J (j ∷ L)) ≡ knowing J (Site i) ∷ []
only_here J i j L is = let e : (i == j) ≡ true = grind (arith, nat_tests) in rw e (ap (λ (k : ℕ). knowing J (Site k) ∷ []) is)

only_at : (J : List Entry) (i : ℕ) (L : List ℕ) (k : ℕ) → k < length L → slice_index_or L k i ≡ i → only (Site i) (sites_know J L) ≡ knowing J (Site i) ∷ []
only_at J i [] k inside at = absurd (omega arith)
only_at J i (j ∷ L) zero inside at = only_here J i j L at
only_at J i (j ∷ L) (suc k) inside at = only_step J i j L (only_at J i L k (omega arith) at) (i == j) refl

module _ (J : List Entry) (i : ℕ) (L : List ℕ) (records now : List Record) (is : records ≡ all_know J L) where
  pub left_is : now ≡ without (Site i) records → now ≡ all_know J (without_first i L)
  left_is now_is = now_is ∙ ap (without (Site i)) is ∙ ap (λ (rs : List Record). knowing J Journal ∷ rs) (without_sites J i L)

  pub taken_is : Contains L i → now ≡ only (Site i) records → now ≡ knowing J (Site i) ∷ []
  taken_is there now_is = now_is ∙ ap (only (Site i)) is ∙ only_at J i L there.0 there.1 there.2

-- the event of an entry that is heard
pub event_of : (alphabet : Set) (done : Option ℕ) → option_map_or (has alphabet) done false ≡ true → (event : ℕ) × (done ≡ Some event) × (has alphabet event ≡ true)
event_of alphabet None heard = absurd (false≢true heard)
event_of alphabet (Some event) heard = (event, refl, heard)

-- each holder whom an entry of the visiting session concerns is there, where each site that hears of it is enlisted
pub all_here : (A : List Set) (m : ℕ) (H front : List Entry) (L : List ℕ) (k n : ℕ) (call : Call) (outcome : Outcome) → AllHear A L call outcome
    → (x : Holder) → is_of_turn A m x ≡ true → concerns A x record { session = k; seq = n; call = call; outcome = outcome } ≡ true
    → 0 < times x (with_visitor H (knowing front (Session k)) L)
all_here A m H front L k n call outcome hear Journal turn concerned = omega arith
all_here A m H front L k n call outcome hear (Site i) turn concerned =
    let e = event_of (slice_index_or A i []) (event_done call outcome) concerned in
    let a = site_there H L i (hear e.0 e.1 i e.2) in omega arith
all_here A m H front L k n call outcome hear (Session l) turn concerned =
    let e : once (l == k) ≡ 1 = grind (arith, nat_tests) in omega arith
