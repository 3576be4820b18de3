use Rattle.std.proofs.Common.{get_or, sym, ap, subst, ◌∙◌, arith}
use Rattle.std.proofs.lemmas.Option.{slice_get-get_or}
use Rattle.dcr_journal.specs.declared.call.Outcome.TheVariants.{Done}
use Rattle.dcr_node.specs.JournalState.{JournalState, IsProposal, entry_of, execution, is_free, with_entry}
use Rattle.dcr_tape.specs.declared.entry.TapeEntry.{TapeEntry}
use Rattle.dcr_order.proofs.BeginLemmas.{front_free, front_next, front_proposal, old_front}
use Rattle.dcr_order.proofs.opening.enter_all.Goals as goal

pub enter-requires-clause-free : goal.enter-requires-clause-free
enter-requires-clause-free c =
    let few = c.requires.few in
    let below = c.loop-x-test.true in
    ap is_free c.loop-x.invariant ∙ front_free c.args.node.now.alphabets c.args.session c.args.old.now c.loop-x.x-index (omega arith)

pub enter-requires-clause-possible : goal.enter-requires-clause-possible
enter-requires-clause-possible c =
    let none : TapeEntry = record { event = 0; site = 0 } in
    let k = c.loop-x.x-index in
    let x = get_or c.args.old.now k none in
    let there = slice_get-get_or c.args.old.now k none c.loop-x-test.true in
    subst (λ (j : JournalState). IsProposal j (execution c.args.session x.site x.event)) (sym c.loop-x.invariant)
    (front_proposal c.args.node.now.alphabets c.args.session (old_front c.args.session c.args.old.now k) x (c.requires.possible k x there).call)

pub loop-x-preserved : goal.loop-x-preserved
loop-x-preserved c =
    let none : TapeEntry = record { event = 0; site = 0 } in
    let k = c.loop-x.x-index in
    let x = get_or c.args.old.now k none in
    let there = slice_get-get_or c.args.old.now k none c.loop-x-test.true in
    c.enter.ensures
    ∙ ap (λ (j : JournalState). with_entry j (entry_of j (execution c.args.session x.site x.event) Done)) c.loop-x.invariant
    ∙ front_next c.args.node.now.alphabets c.args.session c.args.old.now k x there
