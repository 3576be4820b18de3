-- Each kind of step keeps the rule, at any number of places.
use Rattle.std.proofs.Common.{◌≡◌, ◌≢◌, ℕ, ◌+◌, ◌<◌, ◌≤◌, List, [], ◌∷◌, ◌++◌, length, set, sym, refl, ap, ◌∙◌, subst, inl, inr, arith, Option, Some, None}
use Rattle.std.proofs.lemmas.Bool.Decides.{nat_tests}
use Rattle.std.proofs.lemmas.List.{set-get_or, get_or-set_same, get_or-set_other}
use Rattle.std.proofs.Math.ListN.{length-set}
use Rattle.std.specs.Prelude.{slice_index, ◌==◌}
use mathlib.Core.Option as maybe
use mathlib.Core.Logic.{dite}
use native.Mathlib.Decide.{ℕ_discrete}
use prog.Atomic.{either}
use lib.ListN.{get_elem?}
use Rattle.atomic_table.specs.Table.{State, Me, Act, Valid, step, stepped, carried_after, takes, keeps, gives, Allows, Enters}
use Rattle.atomic_table.proofs.Lists.{set_here, set_else, set_again}
use Rattle.dcr_lock.specs.declared.steps.SeatView.{SeatView}
use Rattle.dcr_lock.specs.Rule.{knows, times, is_below, holders, knowers, IsTaken, IsEmpty, IsKept, AreKept}
use Rattle.dcr_lock.specs.Steps.{Sits, Fills, TakesOrMisses, empty_then, GivesBack}
use Rattle.dcr_lock.proofs.Counts.{total-set, total-push, total-has}

-- how often a view holds the place, and whether it knows that it is empty
abbrev holds_in : ℕ → SeatView → ℕ
holds_in p v = times p v.held

abbrev knows_in : ℕ → SeatView → ℕ
knows_in p v = is_below p v.empty

times-here : (p : ℕ) (held : List ℕ) → times p (p ∷ held) ≡ times p held + 1
times-here p held = grind (arith, nat_tests)

times-else : (p q : ℕ) (held : List ℕ) → q ≢ p → times q (p ∷ held) ≡ times q held
times-else p q held ne = grind (arith, nat_tests)

knows-below : (p empty : ℕ) → p < empty → is_below p empty ≡ 1
knows-below p empty h = grind (arith, nat_tests)

knows-none : (p : ℕ) → is_below p 0 ≡ 0
knows-none p = grind (arith, nat_tests)

knows-here : (p : ℕ) → is_below p p ≡ 0
knows-here p = grind (arith, nat_tests)

knows-else : (p q : ℕ) → q ≢ p → is_below q (p + 1) ≡ is_below q p
knows-else p q ne = grind (arith, nat_tests)

pub knows-most : (p empty : ℕ) → is_below p empty ≤ 1
knows-most p empty = grind (arith, nat_tests)

knows-then : (p q empty : ℕ) → q ≢ p → is_below q (empty_then 2 p empty) ≡ is_below q empty
knows-then p q empty ne = grind (arith, nat_tests)

module _ {T : Type 0} where
  -- at this place nothing is changed
  record Same (s t : State (Option T) SeatView) (p : ℕ) : Type 0 where
    word : slice_index t.words p ≡ slice_index s.words p
    home : get_elem? t.homes p ≡ get_elem? s.homes p
    held : holders p t.views ≡ holders p s.views
    known : knowers p t.views ≡ knowers p s.views

  kept_same : (belongs : ℕ → T → Type 0) (s t : State (Option T) SeatView) (p : ℕ) → Same s t p → IsKept belongs s p → IsKept belongs t p
  kept_same belongs s t p same (inl k) = inl record { word = same.word ∙ k.word; value = k.value; home = same.home ∙ k.home; fits = k.fits; unheld = same.held ∙ k.unheld; unknown = same.known ∙ k.unknown }
  kept_same belongs s t p same (inr (inl k)) = inr (inl record { word = same.word ∙ k.word; out = same.home ∙ k.out; held = same.held ∙ k.held; unknown = same.known ∙ k.unknown })
  kept_same belongs s t p same (inr (inr k)) = inr (inr record { word = same.word ∙ k.word; home = same.home ∙ k.home; unheld = same.held ∙ k.unheld; known = let a = same.known in let b = k.known in omega arith })

  -- a step at one place keeps the rule, where that place is free, taken or empty after it, and nothing is changed at the others
  step_at : (belongs : ℕ → T → Type 0) (s t : State (Option T) SeatView) (p : ℕ) → AreKept belongs s → length t.words ≡ length s.words → length t.homes ≡ length s.homes
      → ((q : ℕ) → q ≢ p → Same s t q) → IsKept belongs t p → AreKept belongs t
  step_at belongs s t p kept words homes same here = record {
    words = words ∙ (kept.words ∙ sym homes);
    each = λ q below. dite (ℕ_discrete q p)
        (λ e. subst (λ (r : ℕ). IsKept belongs t r) (sym e) here)
        (λ ne. kept_same belongs s t q (same q ne) (kept.each q (subst (λ (n : ℕ). q < n) homes below)));
  }

  -- the word and the slot of the place, and the view of a seat, are other ones
  abbrev changed : State (Option T) SeatView → ℕ → ℕ → maybe.Option (Option T) → ℕ → SeatView → State (Option T) SeatView
  changed s p word home id w = record { words = set s.words p word; homes = set s.homes p home; views = set s.views id w }

  same_else : (s : State (Option T) SeatView) (p word : ℕ) (home : maybe.Option (Option T)) (id : ℕ) (v w : SeatView) → get_elem? s.views id ≡ maybe.some v
      → (q : ℕ) → q ≢ p → holds_in q w ≡ holds_in q v → knows_in q w ≡ knows_in q v → Same s (changed s p word home id w) q
  same_else s p word home id v w at q ne held known = record {
    word = get_or-set_other s.words p q word 0 ne;
    home = set_else s.homes p q home ne;
    held = let e = total-set (holds_in q) s.views id v w at in omega arith;
    known = let e = total-set (knows_in q) s.views id v w at in omega arith;
  }

  -- a place that a seat knows to be empty is empty
  pub is_empty : (belongs : ℕ → T → Type 0) (s : State (Option T) SeatView) (p id : ℕ) (v : SeatView) → IsKept belongs s p → get_elem? s.views id ≡ maybe.some v → p < v.empty → IsEmpty belongs s p
  is_empty belongs s p id v (inl k) at below = let a = total-has (knows_in p) s.views id v at in let b = knows-below p v.empty below in let c = k.unknown in absurd (omega arith)
  is_empty belongs s p id v (inr (inl k)) at below = let a = total-has (knows_in p) s.views id v at in let b = knows-below p v.empty below in let c = k.unknown in absurd (omega arith)
  is_empty belongs s p id v (inr (inr k)) at below = k

  -- a place that a seat holds is taken
  is_taken : (belongs : ℕ → T → Type 0) (s : State (Option T) SeatView) (p id : ℕ) (v : SeatView) → IsKept belongs s p → get_elem? s.views id ≡ maybe.some v → 0 < times p v.held → IsTaken belongs s p
  is_taken belongs s p id v (inl k) at holds = let a = total-has (holds_in p) s.views id v at in let c = k.unheld in absurd (omega arith)
  is_taken belongs s p id v (inr (inl k)) at holds = k
  is_taken belongs s p id v (inr (inr k)) at holds = let a = total-has (holds_in p) s.views id v at in let c = k.unheld in absurd (omega arith)

  -- new seat
  pub sits : (belongs : ℕ → T → Type 0) (slots p : ℕ) → Enters (AreKept belongs) slots p (λ n w. Sits {T = T} (step slots p 0 0 maybe.none) (knows [] 0, []) n (w, []))
  sits belongs slots p s kept len bound =
      let t : State (Option T) SeatView = record { words = s.words; homes = s.homes; views = s.views ++ knows [] 0 ∷ [] } in (
        knows [] 0,
        record {
          words = kept.words;
          each = λ q below. kept_same belongs s t q
              record {
                word = refl;
                home = refl;
                held = let e = total-push (holds_in q) s.views (knows [] 0) in omega arith;
                known = let e = total-push (knows_in q) s.views (knows [] 0) in let z = knows-none q in omega arith;
              }
              (kept.each q below);
        },
        refl,
      )

  -- fill
  pub fills : (belongs : ℕ → T → Type 0) (slots id p : ℕ) (held : List ℕ) (out : List (ℕ × Option T)) → p < slots
      → Allows (AreKept belongs) slots id (knows held (p + 1), out) p (λ _. 1) (λ _. Fills (step slots p 1 0 maybe.none) (knows held (p + 1), out) 1)
  fills belongs slots id p held out below s kept len at bound =
      let v = knows held (p + 1) in
      let w = knows (p ∷ held) p in
      let here : p < length s.homes = omega arith in
      let there : p < length s.words = let e = kept.words in omega arith in
      let was = is_empty belongs s p id v (kept.each p here) at (omega arith) in
      let t = changed s p 1 maybe.none id w in (
        w,
        takes p None,
        was.home,
        step_at belongs s t p kept (length-set s.words p 1) (length-set s.homes p maybe.none)
            (λ q ne. same_else s p 1 maybe.none id v w at q ne (times-else p q held ne) (sym (knows-else p q ne)))
            (inr (inl record {
              word = get_or-set_same s.words p 1 0 there;
              out = set_here s.homes p maybe.none here;
              held = let e = total-set (holds_in p) s.views id v w at in let h = times-here p held in let z = was.unheld in omega arith;
              unknown = let e = total-set (knows_in p) s.views id v w at in let h = knows-here p in let b = knows-below p (p + 1) (omega arith) in let z = was.known in omega arith;
            })),
        refl,
      )

  -- the state after a miss is that before it
  missed : (belongs : ℕ → T → Type 0) (s : State (Option T) SeatView) (p word id : ℕ) (v : SeatView) → AreKept belongs s → get_elem? s.views id ≡ maybe.some v → slice_index s.words p ≡ word
      → AreKept belongs record { words = set s.words p word; homes = s.homes; views = set s.views id v }
  missed belongs s p word id v kept at is =
      let words : s.words ≡ set s.words p word = sym (set-get_or s.words p 0) ∙ ap (λ (n : ℕ). set s.words p n) is in
      let views : s.views ≡ set s.views id v = sym (set_again s.views id v at) in
      subst (λ (x : List ℕ × List SeatView). AreKept belongs record { words = x.0; homes = s.homes; views = x.1 }) (λ i. (words i, views i)) kept

  -- how the step goes where the word found is n
  abbrev Goes : (ℕ → T → Type 0) → State (Option T) SeatView → ℕ → ℕ → ℕ → Me (Option T) SeatView → ℕ → Type 0
  Goes belongs s slots p id me n =
      (w : SeatView) × (a : Act (Option T)) × Valid s.homes me.1 a × AreKept belongs (stepped s p (either (n == 0) 1 n) id me.1 w a)
      × TakesOrMisses belongs (step slots p 0 1 maybe.none) me n (w, carried_after me.1 a)

  goes_on : (belongs : ℕ → T → Type 0) (s : State (Option T) SeatView) (slots p id : ℕ) (me : Me (Option T) SeatView) → AreKept belongs s
      → p < length s.homes → get_elem? s.views id ≡ maybe.some me.0 → IsKept belongs s p → Goes belongs s slots p id me (slice_index s.words p)
  goes_on belongs s slots p id me kept here at (inl was) =
      let v = me.0 in
      let w = knows (p ∷ v.held) v.empty in
      let there : p < length s.words = let e = kept.words in omega arith in
      let F : ℕ → Type 0 = λ n. Goes belongs s slots p id me n in
      subst F (sym was.word) (
        w,
        takes p (Some was.value),
        was.home,
        step_at belongs s (changed s p 1 maybe.none id w) p kept (length-set s.words p 1) (length-set s.homes p maybe.none)
            (λ q ne. same_else s p 1 maybe.none id v w at q ne (times-else p q v.held ne) refl)
            (inr (inl record {
              word = get_or-set_same s.words p 1 0 there;
              out = set_here s.homes p maybe.none here;
              held = let e = total-set (holds_in p) s.views id v w at in let h = times-here p v.held in let z = was.unheld in omega arith;
              unknown = let e = total-set (knows_in p) s.views id v w at in let z = was.unknown in omega arith;
            })),
        (was.value, was.fits, refl),
      )
  goes_on belongs s slots p id me kept here at (inr (inl was)) =
      let F : ℕ → Type 0 = λ n. Goes belongs s slots p id me n in
      subst F (sym was.word) (me.0, keeps, tt, missed belongs s p 1 id me.0 kept at was.word, (omega arith, refl))
  goes_on belongs s slots p id me kept here at (inr (inr was)) =
      let F : ℕ → Type 0 = λ n. Goes belongs s slots p id me n in
      subst F (sym was.word) (me.0, keeps, tt, missed belongs s p 2 id me.0 kept at was.word, (omega arith, refl))

  -- take, and miss
  pub takes_or_misses : (belongs : ℕ → T → Type 0) (slots id p : ℕ) (me : Me (Option T) SeatView) → p < slots
      → Allows (AreKept belongs) slots id me p (λ n. either (n == 0) 1 n) (TakesOrMisses belongs (step slots p 0 1 maybe.none) me)
  takes_or_misses belongs slots id p me below s kept len at bound =
      let here : p < length s.homes = omega arith in goes_on belongs s slots p id me kept here at (kept.each p here)

  -- give back with a value that belongs there
  pub gives_back : (belongs : ℕ → T → Type 0) (slots id p empty : ℕ) (held : List ℕ) (value : T) (out : List (ℕ × Option T)) → p < slots → belongs p value
      → Allows (AreKept belongs) slots id (knows (p ∷ held) empty, (p, Some value) ∷ out) p (λ _. 0)
      (λ _. GivesBack (step slots p 0 0 maybe.none) (knows (p ∷ held) empty, (p, Some value) ∷ out) 0)
  gives_back belongs slots id p empty held value out below fits s kept len at bound =
      let v = knows (p ∷ held) empty in
      let w = knows held empty in
      let here : p < length s.homes = omega arith in
      let there : p < length s.words = let e = kept.words in omega arith in
      let h = times-here p held in
      let was = is_taken belongs s p id v (kept.each p here) at (omega arith) in (
        w,
        gives,
        tt,
        step_at belongs s (changed s p 0 (maybe.some (Some value)) id w) p kept (length-set s.words p 0) (length-set s.homes p (maybe.some (Some value)))
            (λ q ne. same_else s p 0 (maybe.some (Some value)) id v w at q ne (sym (times-else p q held ne)) refl)
            (inl record {
              word = get_or-set_same s.words p 0 0 there;
              value = value;
              home = set_here s.homes p (maybe.some (Some value)) here;
              fits = fits;
              unheld = let e = total-set (holds_in p) s.views id v w at in let z = was.held in omega arith;
              unknown = let e = total-set (knows_in p) s.views id v w at in let z = was.unknown in omega arith;
            }),
        refl,
      )

  -- give back with none
  pub leaves_empty : (belongs : ℕ → T → Type 0) (slots id p empty : ℕ) (held : List ℕ) (out : List (ℕ × Option T)) → p < slots
      → Allows (AreKept belongs) slots id (knows (p ∷ held) empty, (p, None) ∷ out) p (λ _. 2)
      (λ _. GivesBack (step slots p 2 0 maybe.none) (knows (p ∷ held) empty, (p, None) ∷ out) 2)
  leaves_empty belongs slots id p empty held out below s kept len at bound =
      let v = knows (p ∷ held) empty in
      let w = knows held (empty_then 2 p empty) in
      let here : p < length s.homes = omega arith in
      let there : p < length s.words = let e = kept.words in omega arith in
      let h = times-here p held in
      let was = is_taken belongs s p id v (kept.each p here) at (omega arith) in (
        w,
        gives,
        tt,
        step_at belongs s (changed s p 2 (maybe.some None) id w) p kept (length-set s.words p 2) (length-set s.homes p (maybe.some None))
            (λ q ne. same_else s p 2 (maybe.some None) id v w at q ne (sym (times-else p q held ne)) (knows-then p q empty ne))
            (inr (inr record {
              word = get_or-set_same s.words p 2 0 there;
              home = set_here s.homes p (maybe.some None) here;
              unheld = let e = total-set (holds_in p) s.views id v w at in let z = was.held in omega arith;
              known = let e = total-set (knows_in p) s.views id v w at in let z = was.unknown in let m = knows-most p (empty_then 2 p empty) in omega arith;
            })),
        refl,
      )
