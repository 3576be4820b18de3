-- A run of the graph in which nothing failed is the one that is told of its calls.
use Rattle.std.proofs.Common.{inl, inr, ◌≡◌, ◌⊎◌, ℕ, List, [], ◌∷◌, ◌++◌, length, map, take, Some, refl, sym, ap, subst, ◌∙◌, append_assoc}
use Rattle.std.specs.Prelude.{slice_get, fold}
use Rattle.std.specs.List.{All}
use Rattle.std.proofs.lemmas.List.{append-nil, take_at}
use Rattle.std.proofs.lemmas.List.Elements.{All-head, All-tail}
use Rattle.dcr_set.specs.EventSet.{Set}
use Rattle.dcr_graph.specs.Rules.{Rules}
use Rattle.dcr_graph.specs.declared.marking.Marking.{Marking}
use Rattle.dcr_journal.specs.Answer.{answer}
use Rattle.dcr_journal.specs.Run.{HasNoFault, IsLastFault, IsLegal, after, made_by, told_next}
use Rattle.dcr_journal.specs.declared.call.Outcome.{Outcome}
use Rattle.dcr_journal.specs.declared.call.Outcome.TheVariants.{Faulted}
use Rattle.dcr_journal.specs.declared.call.Entry.{Entry}
use Rattle.dcr_engine.proofs.TurnsLemmas.{asked_by}

-- the entry behind others
at_place : (before : List Entry) (entry : Entry) (rest : List Entry) → slice_get (before ++ entry ∷ rest) (length before) ≡ Some entry
at_place [] entry rest = refl
at_place (first ∷ before) entry rest = at_place before entry rest

All-behind : (P : Entry → Type 0) (J K : List Entry) → All P (J ++ K) → All P K
All-behind P [] K all = all
All-behind P (entry ∷ J) K all = All-behind P J K (All-tail P entry (J ++ K) all)

module _ (G : Rules) (C : List Set) (M : Marking) (J : List Entry) (legal : IsLegal G C M J) (sound : HasNoFault J) where
  -- the entry behind these
  there : (before : List Entry) (entry : Entry) (rest : List Entry) → before ++ entry ∷ rest ≡ J → slice_get J (length before) ≡ Some entry
  there before entry rest is =
      subst (λ (K : List Entry). slice_get K (length before) ≡ Some entry) is
      (at_place before entry rest)

  no_fault : (before : List Entry) (entry : Entry) (rest : List Entry) → before ++ entry ∷ rest ≡ J → entry.outcome ≡ Faulted → ⊥
  no_fault before entry rest is =
      All-head (λ (x : Entry). x.outcome ≡ Faulted → ⊥) entry rest
      (All-behind (λ (x : Entry). x.outcome ≡ Faulted → ⊥) before (entry ∷ rest) (subst HasNoFault (sym is) sound))

  answered : (before : List Entry) (entry : Entry) (rest : List Entry) → before ++ entry ∷ rest ≡ J
      → (entry.outcome ≡ answer G C (after G M (take (length before) J)) entry.call) ⊎ IsLastFault G C M J (length before) entry
      → entry.outcome ≡ answer G C (after G M (take (length before) J)) entry.call
  answered before entry rest is (inl told) = told
  answered before entry rest is (inr fault) = absurd (no_fault before entry rest is fault.outcome)

  -- the entry is the one that is told
  next : (before : List Entry) (entry : Entry) (rest : List Entry) → before ++ entry ∷ rest ≡ J → told_next G C M before (asked_by entry) ≡ before ++ entry ∷ []
  next before entry rest is =
      let at = legal (length before) entry (there before entry rest is) in
      let front : take (length before) J ≡ before = ap (take (length before)) (sym is) ∙ take_at before (entry ∷ rest) (length before) refl in
      let seq : made_by entry.session before ≡ entry.seq = sym (at.seq ∙ ap (made_by entry.session) front) in
      let outcome : answer G C (after G M before) entry.call ≡ entry.outcome =
      sym (answered before entry rest is at.outcome ∙ ap (λ (K : List Entry). answer G C (after G M K) entry.call) front) in
      ap (λ (n : ℕ). before ++ record { session = entry.session; seq = n; call = entry.call; outcome = answer G C (after G M before) entry.call } ∷ []) seq
      ∙ ap (λ (o : Outcome). before ++ record { session = entry.session; seq = entry.seq; call = entry.call; outcome = o } ∷ []) outcome

  told_from : (rest before : List Entry) → before ++ rest ≡ J → fold (told_next G C M) before (map asked_by rest) ≡ J
  told_from [] before is = sym (append-nil before) ∙ is
  told_from (entry ∷ rest) before is =
      ap (λ (K : List Entry). fold (told_next G C M) K (map asked_by rest)) (next before entry rest is)
      ∙ told_from rest (before ++ entry ∷ []) (append_assoc before (entry ∷ []) rest ∙ is)

  pub told_of_asked : fold (told_next G C M) [] (map asked_by J) ≡ J
  told_of_asked = told_from J [] refl
