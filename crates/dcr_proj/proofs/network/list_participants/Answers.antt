use Rattle.dcr_proj.proofs.NetworkLemmas.{lists_more}
use Rattle.dcr_proj.proofs.network.list_participants.Goals as goal

pub loop-number-preserved : goal.loop-number-preserved
loop-number-preserved c =
    lists_more (λ list. list.items) c.loop-number.lists.items _ c.in_ok-list.list c.args.alphabets.now c.loop-number.number
    c.in_ok-push.ensures.items c.loop-number.invariant c.in_ok-list.ensures
