use Rattle.std.proofs.Common.{◌≡◌, ◌+◌, length, arith, refl, ◌∙◌}
use Rattle.dcr_set.specs.Kept.{set_at, words_needed}
use Rattle.dcr_set.proofs.KeptLemmas.{set_at-front}
use Rattle.dcr_journal.proofs.SlotLemmas.{IsPut, marks_same, put_at}
use Rattle.dcr_journal.proofs.slot.keep_mark.Goals as goal
use Rattle.dcr_journal.proofs.slot.keep_mark.Goals.{After-put_words-3}

pub returns-clause-outcome : goal.returns-clause-outcome
returns-clause-outcome c =
    let row = c.args.row.now.items in
    let one = c.put_words.new.row.items in
    let two = c.put_words-2.new.row.items in
    let three = c.put_words-3.new.row.items in
    let first = length row in
    let second = first + words_needed c.room-executed.result in
    let third = second + words_needed c.room-pending.result in
    let executed : IsPut row one c.args.mark.now.executed = record { set = c.put_words.ensures.set; front = c.put_words.ensures.before; len = c.put_words.ensures.len } in
    let pending : IsPut one two c.args.mark.now.pending = record { set = c.put_words-2.ensures.set; front = c.put_words-2.ensures.before; len = c.put_words-2.ensures.len } in
    let included : IsPut two three c.args.mark.now.included = record { set = c.put_words-3.ensures.set; front = c.put_words-3.ensures.before; len = c.put_words-3.ensures.len } in
    let executed_at : set_at three first c.room-executed.result ≡ c.args.mark.now.executed =
    set_at-front two three first c.room-executed.result (omega arith) included.front
    ∙ (set_at-front one two first c.room-executed.result (omega arith) pending.front ∙ put_at row one c.args.mark.now.executed first c.room-executed.result executed refl c.room-executed.ensures.room)
    in
    let pending_at : set_at three second c.room-pending.result ≡ c.args.mark.now.pending =
    set_at-front two three second c.room-pending.result (omega arith) included.front
    ∙ put_at one two c.args.mark.now.pending second c.room-pending.result pending (omega arith) c.room-pending.ensures.room
    in
    let included_at : set_at three third c.room-included.result ≡ c.args.mark.now.included =
    put_at two three c.args.mark.now.included third c.room-included.result included (omega arith) c.room-included.ensures.room
    in
    marks_same _ _ _ c.args.mark.now executed_at pending_at included_at
