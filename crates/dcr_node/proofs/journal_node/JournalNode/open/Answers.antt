use Rattle.std.proofs.Common.{ℕ, [], length, get_or, None, sym, ap, subst, ◌∙◌, arith}
use Rattle.std.proofs.lemmas.List.{length-replicate, get_or-replicate}
use Rattle.std.proofs.lemmas.Option.{none-some}
use Rattle.dcr_journal.specs.Run.{made_by}
use Rattle.dcr_proj.specs.NetworkValue.{IsNetwork}
use Rattle.dcr_node.specs.Gathering.{nothing_told}
use Rattle.dcr_node.specs.StreamValue.{StreamValue}
use Rattle.dcr_node.specs.Streams.{new_streams}
use Rattle.dcr_node.specs.JournalState.{JournalState}
use Rattle.dcr_node.proofs.JournalLemmas.{AreStreams, streams_new}
use Rattle.dcr_node.proofs.journal_node.JournalNode.open.Goals as goal

pub invariant_of-result : goal.invariant_of-result
invariant_of-result c =
    let capacity = c.in_ok-journal.ensures.capacity in
    let empty = c.in_ok-journal.ensures.empty in
    let j : JournalState = record { alphabets = c.in_ok-network.network; history = c.in_ok-journal.journal; sessions = length c.in_ok-made.made.items; out = None; gathered = c.in_ok-gathered.gathered.items } in
    let stream : StreamValue = record { events = []; room = c.args.capacity } in
    record {
      network = subst IsNetwork (sym c.in_ok-network.ensures.copy) c.in_ok-network.ensures.network;
      most = omega (arith, capacity);
      within = omega (arith, ap (λ es. length es) empty);
      made = λ k below.
          let zeros = c.in_ok-made.ensures.items_if_clones_equal (λ y same. same) in
          ap (λ xs. get_or xs k 0) zeros
          ∙ get_or-replicate c.args.sessions k 0 0 (let many = ap (λ xs. length xs) zeros in let room = length-replicate {A = ℕ} c.args.sessions 0 in omega arith)
          ∙ ap (made_by k) (sym empty);
      as_many = ap (λ s. length s) c.in_ok-streams.ensures ∙ length-replicate c.args.sites stream ∙ c.requires.sites ∙ ap (λ n. length n) (sym c.in_ok-network.ensures.copy);
      streams = subst (AreStreams j) (sym (c.in_ok-streams.ensures ∙ ap (new_streams c.args.sites) (sym capacity))) (streams_new j c.args.sites empty);
      out = λ p none. absurd (none-some p none);
      gathered = ap (λ g. length g) c.in_ok-gathered.ensures ∙ length-replicate c.args.sites nothing_told ∙ c.requires.sites ∙ ap (λ n. length n) (sym c.in_ok-network.ensures.copy);
    }
