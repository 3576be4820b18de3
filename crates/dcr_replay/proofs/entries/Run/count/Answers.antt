use Rattle.std.proofs.Common.{◌+◌, [], ◌∷◌, ◌++◌, sym, ap, subst, ◌∙◌, arith}
use Rattle.std.proofs.lemmas.List.{length_push}
use Rattle.dcr_graph.specs.GraphValue.{rules_of}
use Rattle.dcr_journal.specs.Run.{stepped_by}
use Rattle.dcr_journal.proofs.RunLemmas.{after_next}
use Rattle.dcr_replay.specs.EntryLines.{rules_in}
use Rattle.dcr_replay.specs.Stands.{ToldFault}
use Rattle.dcr_replay.proofs.CountLemmas.{fault_next, counts_next}
use Rattle.dcr_replay.proofs.NextLemmas.{run_more}
use Rattle.dcr_replay.proofs.entries.Run.count.Goals as goal

pub returns-clause-stands : goal.returns-clause-stands
returns-clause-stands c = λ S J stands may answered.
    let run = c.args.self.now in
    let entry = c.args.entry.now in
    let call = entry.call in
    let outcome = entry.outcome in
    record {
      over = stands.over;
      legal = run_more S J entry stands.legal may answered;
      marking = c.step.ensures.marking
          ∙ ap (λ G. stepped_by G run.plain.marking call outcome) (ap rules_of c.requires.sound.graph ∙ stands.over.rules)
          ∙ ap (λ M. stepped_by (rules_in S) M call outcome) stands.marking
          ∙ sym (after_next (rules_in S) S.opening J entry);
      counted = ap (λ n. n + 1) stands.counted ∙ sym (length_push J entry);
      made = λ session below.
          counts_next run.made.items J entry (c.index_mut.result.now + 1) session c.index_mut.result.now (omega (arith, c.requires.session, c.requires.sound.sessions))
          (ap (λ n. n + 1) c.index_mut.ensures.value) (stands.made session below);
      faulted = subst (λ b. ToldFault b (J ++ entry ∷ [])) (sym c.is_faulted-self.ensures) (fault_next J entry may.sound);
    }
