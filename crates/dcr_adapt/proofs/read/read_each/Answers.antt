use Rattle.std.proofs.Common.{◌≡◌, ◌≢◌, ◌-◌, List, length, Err, ap, ◌∙◌, arith, rules}
use Rattle.std.specs.List.{slice_get}
use Rattle.std.specs.Option.{option_map}
use Rattle.std.specs.Borrow.{Bor}
use Rattle.std.proofs.lemmas.Result.{err_from_is_err_and}
use Rattle.dcr_json.specs.Built.{case_of}
use Rattle.dcr_json.specs.declared.case.Case.{Case}
use Rattle.dcr_format.specs.declared.stop.CaseStop.TheVariants.{TooLong}
use Rattle.dcr_adapt.specs.Stages.{line_texts, stages_from}
use Rattle.dcr_adapt.specs.declared.stop.StageStop.TheVariants.{Stage, NoMemory}
use Rattle.dcr_adapt.proofs.ReadLemmas.{all_lines, byte_left, lent_last, long_first, more_read, stop_read}
use Rattle.dcr_adapt.proofs.read.read_each.Goals as goal

pub cut-requires : goal.cut-requires
cut-requires c = byte_left (line_texts c.args.bytes.now) c.loop-i.i c.loop-i.cases.items c.loop-i.rest.now c.loop-i.invariant (omega (arith, c.requires))

pub returns-in_err-case-clause-says : goal.returns-in_err-case-clause-says
returns-in_err-case-clause-says c =
    let texts = line_texts c.args.bytes.now in
    let items = c.loop-i.cases.items in
    let last = lent_last items c.last.result (c.last.ensures.value ∙ ap (λ (l : List Case). slice_get l (length l - 1)) c.deref.ensures.value) in
    let stopped : c.in_err-case.field-0.0 ≢ NoMemory → stages_from texts ≡ Err c.in_err-case.field-0.0 = λ want.
    stop_read texts c.loop-i.i items (line_texts c.loop-i.rest.now) c.cut.result.0.now (line_texts c.cut.result.1.now) c.loop-i.invariant (omega (arith, c.requires)) c.cut.ensures.lines
    (option_map (λ (was : Bor Case). case_of was.now) c.last.result) c.in_err-case.field-0.0 last (c.in_err-case.ensures.says want) in
    search rules

pub returns-in_err-case-clause-too_long : goal.returns-in_err-case-clause-too_long
returns-in_err-case-clause-too_long c = λ long.
    let first = long_first (line_texts c.args.bytes.now) c.loop-i.i c.loop-i.cases.items (line_texts c.loop-i.rest.now) c.cut.result.0.now (line_texts c.cut.result.1.now) c.loop-i.invariant
    (omega (arith, c.requires)) c.cut.ensures.lines long in
    let stop = c.in_err-case.ensures.too_long first.1 in
    let told : c.in_err-case.field-0.0 ≡ Stage c.loop-i.i TooLong = cc in
    let end = err_from_is_err_and c.from_residual.result c.from_residual.ensures.1 in
    rw (end.1, end.2) (ap Err (told ∙ ap (λ n. Stage n TooLong) first.0))

pub returns-in_err-push-clause-too_long : goal.returns-in_err-push-clause-too_long
returns-in_err-push-clause-too_long c = λ long.
    let first = long_first (line_texts c.args.bytes.now) c.loop-i.i c.loop-i.cases.items (line_texts c.loop-i.rest.now) c.cut.result.0.now (line_texts c.cut.result.1.now) c.loop-i.invariant
    (omega (arith, c.requires)) c.cut.ensures.lines long in
    absurd (let wrong = c.in_ok-case.ensures.too_long first.1 in cc)

pub loop-i-preserved : goal.loop-i-preserved
loop-i-preserved c =
    let texts = line_texts c.args.bytes.now in
    let items = c.loop-i.cases.items in
    let last = lent_last items c.last.result (c.last.ensures.value ∙ ap (λ (l : List Case). slice_get l (length l - 1)) c.deref.ensures.value) in
    more_read texts c.loop-i.i items (line_texts c.loop-i.rest.now) c.cut.result.0.now (line_texts c.cut.result.1.now) c.loop-i.invariant (omega (arith, c.requires)) c.cut.ensures.lines
    (option_map (λ (was : Bor Case). case_of was.now) c.last.result) c.in_ok-case.case _ last c.in_ok-case.ensures.says c.in_ok-case.ensures.spells c.in_ok-case.ensures.fits
    c.in_ok-push.ensures.items

pub returns-clause-lines : goal.returns-clause-lines
returns-clause-lines c = all_lines (line_texts c.args.bytes.now) c.loop-i.i c.loop-i.cases.items (line_texts c.loop-i.rest.now) c.loop-i.invariant (omega (arith, c.requires))
