use Rattle.std.proofs.Common.{true, ◌≡◌, ℕ, ◌<◌, List, length, get_or, sym, ap, subst, ◌∙◌, arith}
use Rattle.std.specs.Prelude.{MatchOption, nat_le}
use Rattle.std.proofs.lemmas.Bool.{leb-false, or_parts}
use Rattle.std.proofs.lemmas.Option.{same_Some}
use Rattle.dcr_line.specs.DirectoryModel.{Named}
use Rattle.dcr_line.specs.Fits.{FitsEntry}
use Rattle.dcr_line.specs.Line.{entry_text}
use Rattle.dcr_line.proofs.EntryLemmas.{entry_told}
use Rattle.dcr_journal.specs.declared.call.Entry.{Entry}
use Rattle.dcr_text.specs.Lines.{line_of}
use Rattle.dcr_replay.specs.EntryLines.{IsNext, IsWrongNext}
use Rattle.dcr_replay.specs.declared.verdict.Wrong.TheVariants as wrong
use Rattle.dcr_replay.proofs.AnsweredLemmas.{may_come, read_next, text_is}
use Rattle.dcr_replay.proofs.HeadLemmas.{whole_told}
use Rattle.dcr_replay.proofs.entries.Run.next_entry.Goals as goal
use Rattle.dcr_replay.proofs.entries.Run.next_entry.Goals.{then-place-self-via-then-place-self, then-place-self-via-else-place-self+then-entry-made}

pub returns-in_err-place-clause-entry : goal.returns-in_err-place-clause-entry
returns-in_err-place-clause-entry c = λ S J stands.
    let line = line_of c.args.line.text.now c.args.line.ended in
    subst (λ o. MatchOption o (IsWrongNext S J line wrong.Entry) (IsNext S J line)) (sym c.from_residual-in_err-place.ensures) (λ entry next.
    let no = sym c.in_err-place.was ∙ c.read_entry.ensures.entry ∙ read_next S J c.args.self.now stands c.requires line c.in_ok-whole.field-0.now (sym c.in_ok-whole.ensures) entry next in absurd cc)

pub returns-in_err-made-clause-entry : goal.returns-in_err-made-clause-entry
returns-in_err-made-clause-entry c = λ S J stands.
    let line = line_of c.args.line.text.now c.args.line.ended in
    subst (λ o. MatchOption o (IsWrongNext S J line wrong.Entry) (IsNext S J line)) (sym c.from_residual-in_err-made.ensures) (λ entry next.
    let run = c.args.self.now in
    let same = same_Some _ _ (sym c.in_ok-place.was ∙ c.read_entry.ensures.entry ∙ read_next S J run stands c.requires line c.in_ok-whole.field-0.now (sym c.in_ok-whole.ensures) entry next) in
    let session : c.in_ok-place.entry.session ≡ entry.session = ap (λ (t : ℕ × Entry). t.1.session) same in
    let past = c.in_err-made.ensures.lookup.3 in let below = next.0.session in
    omega (arith, ap (λ (l : List ℕ). length l) c.deref.ensures.value, c.requires.sessions))

pub returns-then-place-self-clause-entry : goal.returns-then-place-self-clause-entry
returns-then-place-self-clause-entry c = λ S J stands entry next.
    let run = c.args.self.now in let line = line_of c.args.line.text.now c.args.line.ended in
    let same = same_Some _ _ (sym c.in_ok-place.was ∙ c.read_entry.ensures.entry ∙ read_next S J run stands c.requires line c.in_ok-whole.field-0.now (sym c.in_ok-whole.ensures) entry next) in
    elim c.then-place-self.branch [
      | then-place-self-via-then-place-self w ↦ let different = w.if-place-self.true in different (ap (λ (t : ℕ × Entry). t.0) same)
      | then-place-self-via-else-place-self+then-entry-made w ↦
          let session : c.in_ok-place.entry.session ≡ entry.session = ap (λ (t : ℕ × Entry). t.1.session) same in
          let different = w.if-entry-made.true in
          different (ap (λ (t : ℕ × Entry). t.1.seq) same ∙ next.0.seq ∙ sym (stands.made entry.session next.0.session) ∙ ap (λ n. get_or run.made.items n 0) (sym session)
          ∙ ap (λ (l : List ℕ). get_or l c.in_ok-place.entry.session 0) (sym c.deref.ensures.value) ∙ sym (c.in_ok-made.ensures.lookup.3.1 0))
    ]

pub returns-clause-entry : goal.returns-clause-entry
returns-clause-entry c = λ S J stands.
    let run = c.args.self.now in let line = line_of c.args.line.text.now c.args.line.ended in let text = c.in_ok-whole.field-0.now in
    let entry = c.in_ok-place.entry in let place = c.in_ok-place.place in
    let parts = or_parts run.faulted (nat_le 200000 run.len) (sym c.is_over.ensures ∙ c.if-is_over.false) in
    let told = (entry_told run.directory.now.sites run.directory.now.atoms text place entry (sym c.read_entry.ensures.entry ∙ c.in_ok-place.was)).1 in
    let found = c.in_ok-made.ensures.lookup.3 in
    let made : entry.seq ≡ get_or run.made.items entry.session 0 = c.if-entry-made.false ∙ found.1 0 ∙ ap (λ (l : List ℕ). get_or l entry.session 0) c.deref.ensures.value in
    let within = found.0 in let below : entry.session < 1024 = omega (arith, ap (λ (l : List ℕ). length l) c.deref.ensures.value, c.requires.sessions) in (
      may_come S J run stands entry (record { few = leb-false 200000 run.len parts.1; sound = parts.0; below = below; made = made })
          (subst (λ (d : Named). FitsEntry (length d.sites) (length d.atoms) entry) c.requires.directory c.in_ok-place.ensures.fits),
      whole_told line text (sym c.in_ok-whole.ensures) ∙ ap (λ t. line_of t true) (told ∙ ap (λ (d : Named). entry_text d.sites d.atoms place entry) c.requires.directory
          ∙ ap (λ n. entry_text run.cover.now.names run.graph.now.names n entry) c.if-place-self.false ∙ text_is S J run stands entry),
    )
