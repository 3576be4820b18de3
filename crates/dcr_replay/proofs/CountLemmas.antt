-- What a run keeps after one entry more.
use Rattle.std.proofs.Common.{◌≡◌, ℕ, ◌+◌, ◌<◌, inl, inr, Bool, true, false, cond, eqb, List, [], ◌∷◌, ◌++◌, length, get_or, set, refl, sym, ap, ◌∙◌, arith}
use Rattle.std.proofs.Math.Nat.{add-zero}
use Rattle.std.proofs.lemmas.Bool.{cases_eq, eq-eqb, ne_eqb}
use Rattle.std.proofs.lemmas.List.{get_or_at, get_or_default, get_or-set_same, get_or-set_other, length_push}
use Rattle.std.proofs.lemmas.List.Elements.{All-push}
use Rattle.std.proofs.lemmas.List.Sums.{sum_by_push}
use Rattle.dcr_journal.specs.Run.{HasNoFault, made_by}
use Rattle.dcr_journal.specs.declared.call.Entry.{Entry}
use Rattle.dcr_journal.specs.declared.call.Outcome.{Outcome}
use Rattle.dcr_journal.specs.declared.call.Outcome.TheVariants.{Faulted}
use Rattle.dcr_replay.specs.EntryLines.{is_faulted}
use Rattle.dcr_replay.specs.Stands.{ToldFault}

-- one of the entries is a fault: the last, where there was none before
pub fault_next : (J : List Entry) (entry : Entry) → HasNoFault J → ToldFault (is_faulted entry.outcome) (J ++ entry ∷ [])
fault_next J entry none = at entry.outcome refl
  where
    at : (outcome : Outcome) → entry.outcome ≡ outcome → ToldFault (is_faulted outcome) (J ++ entry ∷ [])
    at Faulted is = λ sound. sound (length J) entry (omega (arith, length_push J entry)) (ap (λ (e : Entry). e.outcome) (get_or_at J entry [] entry (length J) refl) ∙ is)
    at _ is = All-push (λ (e : Entry). e.outcome ≡ Faulted → ⊥) J entry none (λ fault. let no = sym is ∙ fault in absurd cc)

-- how many entries a session has
made_next : (session : ℕ) (J : List Entry) (entry : Entry) (b : Bool) → eqb entry.session session ≡ b → made_by session (J ++ entry ∷ []) ≡ made_by session J + cond b 1 0
made_next session J entry b e = sum_by_push (λ (x : Entry). cond (eqb x.session session) 1 0) J entry ∙ ap (λ t. made_by session J + cond t 1 0) e

made_one : (session : ℕ) (J : List Entry) (entry : Entry) → entry.session ≡ session → made_by session (J ++ entry ∷ []) ≡ made_by session J + 1
made_one session J entry same = made_next session J entry true (eq-eqb entry.session session same)

made_none : (session : ℕ) (J : List Entry) (entry : Entry) → (entry.session ≡ session → ⊥) → made_by session (J ++ entry ∷ []) ≡ made_by session J
made_none session J entry other = made_next session J entry false (ne_eqb entry.session session other) ∙ add-zero (made_by session J)

-- the count of the entry's session is raised
pub counts_next : (made : List ℕ) (J : List Entry) (entry : Entry) (n session d : ℕ) → entry.session < length made → n ≡ get_or made entry.session d + 1
    → get_or made session 0 ≡ made_by session J → get_or (set made entry.session n) session 0 ≡ made_by session (J ++ entry ∷ [])
counts_next made J entry n session d within raised before = elim (cases_eq entry.session session) [
  | inl same ↦
      ap (λ k. get_or (set made entry.session n) k 0) (sym same) ∙ get_or-set_same made entry.session n 0 within
      ∙ raised ∙ ap (λ k. k + 1) (get_or_default made entry.session d 0 within ∙ ap (λ k. get_or made k 0) same ∙ before) ∙ sym (made_one session J entry same)
  | inr other ↦
      get_or-set_other made entry.session session n 0 (λ e. other (sym e)) ∙ before ∙ sym (made_none session J entry other)
]
