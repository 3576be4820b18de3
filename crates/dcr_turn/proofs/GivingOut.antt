-- The records of all, given out one after the other: first those of the sites, then those of the sessions.
use Rattle.std.proofs.Common.{◌≡◌, ℕ, suc, ◌+◌, ◌-◌, ◌<◌, List, [], ◌∷◌, ◌++◌, sym, ap, ◌∙◌, arith}
use Rattle.std.proofs.lemmas.List.{append_assoc}
use Rattle.std.proofs.lemmas.List.FromFn.{map-range_with_len_more}
use Rattle.dcr_turn.specs.declared.record.Holder.TheVariants.{Journal, Site, Session}
use Rattle.dcr_turn.specs.declared.record.Record.{Record}
use Rattle.dcr_turn.specs.FrontValue.{FrontValue, new_fronts}
use Rattle.dcr_turn.specs.PassValue.{PassValue, new_passes}
use Rattle.dcr_turn.specs.Records.{knowing, sites_from, sessions_from, journal_and_sessions}
use Rattle.dcr_turn.specs.Steps.{kept, cut}

module _ (i n : ℕ) (rest records now : List Record) (below : i < n) (is : records ≡ knowing [] Journal ∷ sites_from i (n - i) ++ rest) where
  site_next : records ≡ knowing [] Journal ∷ knowing [] (Site i) ∷ sites_from (i + 1) (n - (i + 1)) ++ rest
  site_next =
      let e : n - i ≡ suc (n - (i + 1)) = omega arith in
      is ∙ ap (λ (k : ℕ). knowing [] Journal ∷ sites_from i k ++ rest) e

  pub site_cut : now ≡ cut records → now ≡ knowing [] (Site i) ∷ []
  site_cut now_is = now_is ∙ ap cut site_next

  pub site_kept : now ≡ kept records → now ≡ knowing [] Journal ∷ sites_from (i + 1) (n - (i + 1)) ++ rest
  site_kept now_is = now_is ∙ ap kept site_next

module _ (k n : ℕ) (records now : List Record) (below : k < n) (is : records ≡ journal_and_sessions k (n - k)) where
  session_next : records ≡ knowing [] Journal ∷ knowing [] (Session k) ∷ sessions_from (k + 1) (n - (k + 1))
  session_next =
      let e : n - k ≡ suc (n - (k + 1)) = omega arith in
      is ∙ ap (journal_and_sessions k) e

  pub session_cut : now ≡ cut records → now ≡ knowing [] (Session k) ∷ []
  session_cut now_is = now_is ∙ ap cut session_next

  pub session_kept : now ≡ kept records → now ≡ journal_and_sessions (k + 1) (n - (k + 1))
  session_kept now_is = now_is ∙ ap kept session_next

-- all are there at the start, and none is left at the end
pub sites_all : (n : ℕ) (rest : List Record) → knowing [] Journal ∷ sites_from 0 n ++ rest ≡ knowing [] Journal ∷ sites_from 0 (n - 0) ++ rest
sites_all n rest = let e : n ≡ n - 0 = omega arith in ap (λ (k : ℕ). knowing [] Journal ∷ sites_from 0 k ++ rest) e

pub sites_none : (i n : ℕ) (rest : List Record) → i ≡ n → knowing [] Journal ∷ sites_from i (n - i) ++ rest ≡ knowing [] Journal ∷ rest
sites_none i n rest is = let e : n - i ≡ 0 = omega arith in ap (λ (k : ℕ). knowing [] Journal ∷ sites_from i k ++ rest) e

pub sessions_all : (n : ℕ) → journal_and_sessions 0 n ≡ journal_and_sessions 0 (n - 0)
sessions_all n = let e : n ≡ n - 0 = omega arith in ap (journal_and_sessions 0) e

pub sessions_none : (k n : ℕ) → k ≡ n → journal_and_sessions k (n - k) ≡ knowing [] Journal ∷ []
sessions_none k n is = let e : n - k ≡ 0 = omega arith in ap (journal_and_sessions k) e

-- one front, one pass, more
pub fronts_more : (i : ℕ) (fronts more : List FrontValue) (front : FrontValue) → fronts ≡ new_fronts i → more ≡ fronts ++ front ∷ [] → front.site ≡ i → front.front ≡ [] → more ≡ new_fronts (i + 1)
fronts_more i fronts more front before pushed site seen =
    pushed ∙ ap (λ fs. fs ++ front ∷ []) before ∙ ap (λ n. new_fronts i ++ record { site = n; front = front.front } ∷ []) site
    ∙ ap (λ s. new_fronts i ++ record { site = i; front = s } ∷ []) seen ∙ sym (map-range_with_len_more (λ (k : ℕ). record { site = k; front = [] }) 0 i i (omega arith))

pub passes_more : (k : ℕ) (passes more : List PassValue) (pass : PassValue) → passes ≡ new_passes k → more ≡ passes ++ pass ∷ [] → pass.session ≡ k → pass.front ≡ [] → pass.made ≡ 0
    → more ≡ new_passes (k + 1)
passes_more k passes more pass before pushed session seen made =
    pushed ∙ ap (λ ps. ps ++ pass ∷ []) before ∙ ap (λ n. new_passes k ++ record { session = n; front = pass.front; made = pass.made } ∷ []) session
    ∙ ap (λ s. new_passes k ++ record { session = k; front = s; made = pass.made } ∷ []) seen ∙ ap (λ m. new_passes k ++ record { session = k; front = []; made = m } ∷ []) made
    ∙ sym (map-range_with_len_more (λ (l : ℕ). record { session = l; front = []; made = 0 }) 0 k k (omega arith))

-- one more was taken from the end
pub taken_more : {X : Type 0} (all left now taken : List X) (x : X) → all ≡ left ++ taken → left ≡ now ++ x ∷ [] → all ≡ now ++ (x ∷ taken)
taken_more all left now taken x whole popped = whole ∙ ap (λ l. l ++ taken) popped ∙ append_assoc now (x ∷ []) taken

-- and all were
pub taken_all : {X : Type 0} (all left taken : List X) → all ≡ left ++ taken → left ≡ [] → all ≡ taken
taken_all all left taken whole none = whole ∙ ap (λ l. l ++ taken) none
