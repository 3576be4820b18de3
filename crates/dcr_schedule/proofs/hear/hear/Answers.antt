use Rattle.std.proofs.Common.{◌∙◌, sym, ap, subst, length, arith}
use Rattle.dcr_node.specs.JournalState.{JournalState, stream_of}
use Rattle.dcr_schedule.proofs.HearingLemmas.{HeardTo, heard_first, heard_next}
use Rattle.dcr_schedule.proofs.PlayingLemmas.{kept_self, kept_then}
use Rattle.dcr_schedule.proofs.hear.hear.Goals as goal

pub loop-index-init : goal.loop-index-init
loop-index-init c =
    let w = c.args.world.now in record {
      kept = kept_self w;
      right = λ G C M it. it;
      heard = λ G C M it. subst (λ n. HeardTo c.args.site n w w) (sym c.count-heard.ensures) (heard_first G C M w c.args.site c.site_node.result.now it c.site_node.ensures);
    }

pub loop-index-preserved : goal.loop-index-preserved
loop-index-preserved c =
    let before = c.args.world.now in let now = c.loop-index.world in let told = c.event.new.self in let after = c.event-in-loop-index.new.self in
    let so = c.loop-index.invariant in record {
      kept = kept_then before now after so.kept (kept_then now told after c.event.ensures.kept c.event-in-loop-index.ensures.kept);
      right = λ G C M it. c.event-in-loop-index.ensures.right G C M (c.event.ensures.right G C M (so.right G C M it));
      heard = λ G C M it.
          let is_now = so.right G C M it in
          let all = c.stream_len-all.ensures ∙ ap (λ (j : JournalState). length (stream_of j c.args.site)) c.journal_node.ensures.node in
          heard_next c.proposals_are_told.ensures.hearing G C M c.args.site c.loop-index.index before now told after c.sent-sent.result is_now (so.heard G C M it)
          (let more = c.loop-index-test.true in omega (arith, more, all)) c.sent-sent.ensures
          (c.in_ok-event.ensures.happened G C M is_now) (c.in_ok-event-2.ensures.happened G C M (c.event.ensures.right G C M is_now));
    }
