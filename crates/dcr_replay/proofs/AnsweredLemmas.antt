-- What a run tells of the entry that comes next.
use Rattle.std.proofs.Common.{◌≡◌, inl, inr, ℕ, Bool, true, false, ◌&&◌, Decides, List, length, Some, refl, sym, ap, subst, ◌∙◌, arith}
use Rattle.std.specs.Str.{bytes_eq}
use Rattle.std.proofs.lemmas.Bool.{and_from, and_parts, false≢true}
use Rattle.std.proofs.lemmas.Option.{same_Some}
use Rattle.std.proofs.lemmas.Slice.Eq.{bytes_eq-Decides}
use Rattle.dcr_graph.specs.GraphValue.{Flat, rules_of}
use Rattle.dcr_graph.specs.Rules.{Rules}
use Rattle.dcr_graph.specs.declared.marking.Marking.{Marking}
use Rattle.dcr_proj.specs.CoverValue.{Owners}
use Rattle.dcr_journal.specs.Answer.{answer}
use Rattle.dcr_journal.specs.Run.{IsInRange}
use Rattle.dcr_journal.specs.declared.call.Call.{Call}
use Rattle.dcr_journal.specs.declared.call.Outcome.{Outcome}
use Rattle.dcr_journal.specs.declared.call.Outcome.TheVariants.{Done, Faulted}
use Rattle.dcr_journal.specs.declared.call.Entry.{Entry}
use Rattle.dcr_line.specs.DirectoryModel.{Named}
use Rattle.dcr_line.specs.EntryLine.{entry_in}
use Rattle.dcr_line.specs.Fits.{FitsEntry, FitsOutcome, is_of_kind}
use Rattle.dcr_line.specs.Line.{entry_text}
use Rattle.dcr_line.proofs.EntryLemmas.{entry_read}
use Rattle.dcr_report.proofs.LegalLemmas.{answer-kind, answer_fits}
use Rattle.dcr_text.specs.Lines.{Line, line_of, whole}
use Rattle.dcr_replay.specs.EntryLines.{IsAnswered, IsNext, MayCome, Setting, answer_after, is_done, is_faulted, last_of, names_in, rules_in, text_next}
use Rattle.dcr_replay.specs.Stands.{HasPlace, IsSound, Stands, ToldFault}
use Rattle.dcr_replay.specs.declared.entries.Run.{Run}
use Rattle.dcr_replay.proofs.NextLemmas.{atoms_named, many_atoms, may_told, same_next, sites_named}

done_is : (outcome : Outcome) → is_done outcome ≡ true → outcome ≡ Done
done_is Done e = refl
done_is _ e = absurd (false≢true e)

faulted_is : (outcome : Outcome) → is_faulted outcome ≡ true → outcome ≡ Faulted
faulted_is Faulted e = refl
faulted_is _ e = absurd (false≢true e)

-- a fault where the answer is done
pub failed : (S : Setting) (J : List Entry) (entry : Entry) (outcome : Outcome) → outcome ≡ answer_after S J entry.call → is_done outcome && is_faulted entry.outcome ≡ true → IsAnswered S J entry
failed S J entry outcome told both =
    let parts = and_parts (is_done outcome) (is_faulted entry.outcome) both in inr (faulted_is entry.outcome parts.1, sym told ∙ done_is outcome parts.0)

-- the same entry with the answer
abbrev pub with_answer : Setting → List Entry → Entry → Entry
with_answer S J entry = record { session = entry.session; seq = entry.seq; call = entry.call; outcome = answer_after S J entry.call }

-- may come where it may with another outcome
pub answered_may : (S : Setting) (J : List Entry) (entry : Entry) → MayCome S J entry → MayCome S J (with_answer S J entry)
answered_may S J entry may = record {
  few = may.few;
  sound = may.sound;
  session = may.session;
  seq = may.seq;
  fits = record {
    call = may.fits.call;
    kind = answer-kind (rules_in S) S.cover.owned (last_of S J) entry.call;
    outcome = subst (λ n. FitsOutcome n (answer_after S J entry.call)) (sym (many_atoms S.nest)) (answer_fits (rules_in S) S.cover.owned (last_of S J) entry.call);
  };
}

-- the entry is answered where its text is that of it with the answer, unless it is such a fault
pub judged : (S : Setting) (J : List Entry) (entry : Entry) → MayCome S J entry → is_done (answer_after S J entry.call) && is_faulted entry.outcome ≡ false
    → (text wanted : List ℕ) → text ≡ text_next S J entry → wanted ≡ text_next S J (with_answer S J entry) → (is : Bool) → is ≡ bytes_eq text wanted → Decides is (IsAnswered S J entry)
judged S J entry may other text wanted said want is tested = (
  λ yes. inl (ap (λ (e : Entry). e.outcome) (same_next S J entry (with_answer S J entry) may (answered_may S J entry may)
      (ap (λ t. line_of t true) (sym said ∙ (bytes_eq-Decides text wanted).0 (sym tested ∙ yes) ∙ want)))),
  λ answered. tested ∙ (bytes_eq-Decides text wanted).1 (elim answered [
    | inl same ↦ said ∙ ap (λ o. text_next S J (record { session = entry.session; seq = entry.seq; call = entry.call; outcome = o })) same ∙ sym want
    | inr fault ↦ absurd (false≢true (sym other ∙ and_from (is_done (answer_after S J entry.call)) (is_faulted entry.outcome) (ap is_done fault.1) (ap is_faulted fault.0)))
  ]),
)

-- an entry with the answer fits the sites and the atoms
pub fits_answered : (run : Run) → IsSound run → (session seq : ℕ) (call : Call) (outcome : Outcome) → IsInRange (length run.cover.now.names) (length run.graph.now.names) call
    → outcome ≡ answer (rules_of run.plain.graph) run.cover.now.owned run.plain.marking call
    → FitsEntry (length run.cover.now.names) (length run.graph.now.names) (record { session = session; seq = seq; call = call; outcome = outcome })
fits_answered run sound session seq call outcome within told =
    let G = rules_of run.plain.graph in
    record {
      call = within;
      kind = ap (is_of_kind call) told ∙ answer-kind G run.cover.now.owned run.plain.marking call;
      outcome = subst (λ n. FitsOutcome n outcome) (ap (λ g. length g.names) sound.graph)
          (subst (FitsOutcome G.atoms) (sym told) (answer_fits G run.cover.now.owned run.plain.marking call));
    }

module _ (S : Setting) (J : List Entry) (run : Run) (stands : Stands S J run) where
  -- the text of an entry, by what the run keeps
  pub text_is : (entry : Entry) → entry_text run.cover.now.names run.graph.now.names run.len entry ≡ text_next S J entry
  text_is entry =
      ap (λ (C : Owners). entry_text C.names run.graph.now.names run.len entry) stands.over.cover
      ∙ ap (λ names. entry_text S.cover.names names run.len entry) stands.over.names ∙ ap (λ k. entry_text S.cover.names (names_in S) k entry) stands.counted

  -- the answer at its marking
  pub answer_is : IsSound run → (call : Call) (outcome : Outcome) → outcome ≡ answer (rules_of run.plain.graph) run.cover.now.owned run.plain.marking call → outcome ≡ answer_after S J call
  answer_is sound call outcome told =
      told ∙ ap (λ (g : Flat). answer (rules_of g) run.cover.now.owned run.plain.marking call) sound.graph
      ∙ ap (λ (G : Rules). answer G run.cover.now.owned run.plain.marking call) stands.over.rules
      ∙ ap (λ (C : Owners). answer (rules_in S) C.owned run.plain.marking call) stands.over.cover
      ∙ ap (λ (M : Marking). answer (rules_in S) S.cover.owned M call) stands.marking

  -- an entry with the numbers of the next one
  pub may_come : (entry : Entry) → HasPlace run entry.session entry.seq → FitsEntry (length run.cover.now.names) (length run.graph.now.names) entry → MayCome S J entry
  may_come entry has fits = let few = has.few in let counted = stands.counted in record {
    few = omega arith;
    sound = subst (λ b. ToldFault b J) has.sound stands.faulted;
    session = has.below;
    seq = has.made ∙ stands.made entry.session has.below;
    fits = subst (λ (C : Owners). FitsEntry (length C.names) (length (names_in S)) entry) stands.over.cover
        (subst (λ names. FitsEntry (length run.cover.now.names) (length names) entry) stands.over.names fits);
  }

  -- a line that tells an entry which may come next is read as it
  pub read_next : IsSound run → (line : Line) (text : List ℕ) → whole line ≡ Some text → (entry : Entry) → IsNext S J line entry
      → entry_in run.directory.now.sites run.directory.now.atoms text ≡ Some (run.len, entry)
  read_next sound line text is entry next =
      let said : text ≡ text_next S J entry = same_Some _ _ (sym is ∙ ap whole next.1) in
      ap (λ (d : Named). entry_in d.sites d.atoms text) sound.directory
      ∙ ap (λ (C : Owners). entry_in C.names run.graph.now.names text) stands.over.cover ∙ ap (λ names. entry_in S.cover.names names text) stands.over.names
      ∙ ap (entry_in S.cover.names (names_in S)) said
      ∙ entry_read S.cover.names (names_in S) (sites_named S) (atoms_named S.nest S.accepted_graph) (length J) entry (may_told S J entry next.0)
      ∙ ap (λ n. Some (n, entry)) (sym stands.counted)
