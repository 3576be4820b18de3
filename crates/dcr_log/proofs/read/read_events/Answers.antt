use Rattle.std.proofs.Common.{ℕ, ◌+◌, sym, ap, ◌∙◌}
use Rattle.std.specs.Option.{option_map, unwrap_or}
use Rattle.std.proofs.lemmas.Result.{err_from_is_err_and}
use Rattle.csv.specs.Reading.{expected_len}
use Rattle.csv.specs.Records.{fields_of}
use Rattle.dcr_log.specs.Left.{left_of}
use Rattle.dcr_log.proofs.LoopLemmas.{no_event_row, some_is, stop_tells, taken_all, taken_bad, taken_more, taken_none}
use Rattle.dcr_log.proofs.read.read_events.Goals as goal

pub loop-gathering-init : goal.loop-gathering-init
loop-gathering-init c =
    let start = c.args.reader.now in
    taken_none (unwrap_or (expected_len start) 0) start c.in_ok-gathering.gathering c.requires.going (some_is (expected_len start) c.requires.header) c.in_ok-gathering.ensures.gathers c.in_ok-gathering.ensures.none

pub returns-in_err-read_next-clause-bad : goal.returns-in_err-read_next-clause-bad
returns-in_err-read_next-clause-bad c =
    let start = c.args.reader.now in
    let p = err_from_is_err_and c.from_residual-in_err-read_next.result c.from_residual-in_err-read_next.ensures.1 in
    rw (p.1, p.2) (stop_tells (unwrap_or (expected_len start) 0) start c.loop-gathering.reader c.loop-gathering.count c.loop-gathering.gathering c.loop-gathering.invariant
    c.in_err-read_next.field-0.0 c.in_err-read_next.ensures.uneven)

pub returns-then-not-branch-clause-bad : goal.returns-then-not-branch-clause-bad
returns-then-not-branch-clause-bad c =
    let start = c.args.reader.now in
    let width = unwrap_or (expected_len start) 0 in
    let row = fields_of c.read_next.new.fields in
    let read = c.in_ok-read_next.ensures.found c.if-branch.true in
    ap (option_map (λ (k : ℕ). k + 1)) (taken_bad width start c.loop-gathering.reader c.loop-gathering.count c.loop-gathering.gathering row (left_of c.read_next.new.reader) c.loop-gathering.invariant
    read.first (no_event_row width row (sym c.in_ok-take_event.ensures.told ∙ c.if-not-branch.true)))

pub loop-gathering-preserved : goal.loop-gathering-preserved
loop-gathering-preserved c =
    let start = c.args.reader.now in
    let row = fields_of c.read_next.new.fields in
    let told = c.in_ok-take_event.ensures in
    taken_more (unwrap_or (expected_len start) 0) start c.loop-gathering.reader c.read_next.new.reader c.loop-gathering.count c.loop-gathering.gathering c.take_event.new.gathering row
    c.loop-gathering.invariant (c.in_ok-read_next.ensures.found c.if-branch.true) (sym told.told ∙ c.if-not-branch.false)
    (told.gathers c.if-not-branch.false) (told.added c.if-not-branch.false)

pub returns-clause-good : goal.returns-clause-good
returns-clause-good c =
    let start = c.args.reader.now in
    (taken_all (unwrap_or (expected_len start) 0) start c.loop-gathering.reader c.loop-gathering.count c.loop-gathering.gathering c.loop-gathering.invariant (c.in_ok-read_next.ensures.none c.if-branch.false)).0

pub returns-clause-traces : goal.returns-clause-traces
returns-clause-traces c =
    let start = c.args.reader.now in
    (taken_all (unwrap_or (expected_len start) 0) start c.loop-gathering.reader c.loop-gathering.count c.loop-gathering.gathering c.loop-gathering.invariant (c.in_ok-read_next.ensures.none c.if-branch.false)).1
