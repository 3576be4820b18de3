use Rattle.std.specs.Global.{Global}
use Rattle.std.specs.Prelude.{◌≡◌, ℕ, ◌+◌, ◌<◌, ◌^◌, List, drop, length, Vec, vec_len}
use Rattle.std.proofs.Common.{sym, ap, subst, ◌∙◌, arith}
use Rattle.std.specs.List.{All}
use Rattle.std.proofs.lemmas.List.Elements.{All-same}
use Rattle.std.proofs.lemmas.Result.{IfErr-weaker, IfOk-weaker, err_from_is_err_and, on_ok_weaker}
use Rattle.csv.specs.Reading.{expected_len}
use Rattle.dcr_log.specs.Left.{left_of}
use Rattle.dcr_log.specs.Records.{Record, TellsBad, first_bad, records_of}
use Rattle.dcr_log.specs.Traces.{traces_of}
use Rattle.dcr_log.specs.declared.trace.Trace.{Trace}
use Rattle.dcr_log.proofs.LeftLemmas.{at_start, log_few}
use Rattle.dcr_log.proofs.LoopLemmas.{BehindHeader, behind_header, none_bad}
use Rattle.dcr_log.proofs.TraceLemmas.{traces_few, traces_short}
use Rattle.dcr_log.proofs.read.read_log.Goals as goal
use Rattle.dcr_log.proofs.read.read_log.Goals.{After-from_reader-reader, In_ok-read_header}

-- at first all records are left
all_left : (c : After-from_reader-reader) → left_of c.from_reader-reader.result ≡ records_of c.args.bytes.now
all_left c = at_start c.from_reader-reader.result c.args.bytes.now c.from_reader-reader.ensures.state c.from_reader-reader.ensures.source

-- those behind the header are left, once it is read
rest_left : (c : In_ok-read_header) → BehindHeader (records_of c.args.bytes.now) (left_of c.read_header.new.reader) (expected_len c.read_header.new.reader)
rest_left c =
    let h = c.in_ok-read_header.ensures.read in
    behind_header (records_of c.args.bytes.now) (left_of c.read_header.new.reader) h.0 (expected_len c.read_header.new.reader)
    (sym (all_left (goal.at.In_ok-read_header c).After-from_reader-reader) ∙ h.1.first) h.2 h.1.counted

-- no more traces than bytes
few_traces : (traces : Vec Trace Global) (bytes : List ℕ) (rows : List Record) → traces.items ≡ traces_of rows → length rows + 1 ≡ length (records_of bytes) → length bytes < 2 ^ 32
    → vec_len traces < 2 ^ 32
few_traces traces bytes rows are rest short =
    let few = log_few bytes in
    let fewer = traces_few rows in
    let held = traces.ok.0 in
    omega (arith, ap (λ (ts : List Trace). length ts) are)

pub returns-in_err-read_header-clause-bad : goal.returns-in_err-read_header-clause-bad
returns-in_err-read_header-clause-bad c =
    let p = err_from_is_err_and c.from_residual.result c.from_residual.ensures.1 in
    rw (p.1, p.2) (subst (λ (rows : List Record). TellsBad (first_bad rows) c.in_err-read_header.field-0.0)
    (all_left (goal.at.returns-in_err-read_header-clause-bad c).After-from_reader-reader) c.in_err-read_header.ensures.bad)

pub read_events-requires-clause-few : goal.read_events-requires-clause-few
read_events-requires-clause-few c =
    let rest = (rest_left (goal.at.read_events-requires-clause-few c).In_ok-read_header).fewer in
    let few = log_few c.args.bytes.now in
    let short = c.requires in
    omega arith

pub returns-clause-good : goal.returns-clause-good
returns-clause-good c =
    on_ok_weaker c.read_events.result (none_bad (rest_left (goal.at.returns-clause-good c).In_ok-read_header)) c.read_events.ensures.good

pub returns-clause-traces : goal.returns-clause-traces
returns-clause-traces c =
    let rest = (rest_left (goal.at.returns-clause-traces c).In_ok-read_header).rest in
    IfOk-weaker c.read_events.result (λ traces. traces.items ≡ traces_of (left_of c.read_header.new.reader)) (λ traces. traces.items ≡ traces_of (drop 1 (records_of c.args.bytes.now)))
    (λ traces are. are ∙ ap traces_of (sym rest)) c.read_events.ensures.traces

pub returns-clause-few : goal.returns-clause-few
returns-clause-few c =
    let rest = (rest_left (goal.at.returns-clause-few c).In_ok-read_header).fewer in
    let rows = left_of c.read_header.new.reader in
    IfOk-weaker c.read_events.result (λ traces. traces.items ≡ traces_of rows) (λ traces. vec_len traces < 2 ^ 32)
    (λ traces are. few_traces traces c.args.bytes.now rows are rest c.requires) c.read_events.ensures.traces

pub returns-clause-short : goal.returns-clause-short
returns-clause-short c =
    let rest = (rest_left (goal.at.returns-clause-short c).In_ok-read_header).fewer in
    let rows = left_of c.read_header.new.reader in
    let few = log_few c.args.bytes.now in
    let short = c.requires in
    IfOk-weaker c.read_events.result (λ traces. traces.items ≡ traces_of rows) (λ traces. All (λ (trace : Trace). length trace.events < 2 ^ 32) traces.items)
    (λ traces are. All-same (λ (trace : Trace). length trace.events < 2 ^ 32) traces.items (traces_of rows) are (traces_short rows (2 ^ 32) (omega arith))) c.read_events.ensures.traces

pub returns-clause-bad : goal.returns-clause-bad
returns-clause-bad c =
    let b = rest_left (goal.at.returns-clause-bad c).In_ok-read_header in
    IfErr-weaker c.read_events.result _ (TellsBad (first_bad (records_of c.args.bytes.now)))
    (λ stop told. subst (λ o. TellsBad o stop) (sym b.bad) told) c.read_events.ensures.bad
