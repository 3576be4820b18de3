use Rattle.std.proofs.Common.{sym, ap, subst, ◌∙◌}
use Rattle.csv.specs.Reading.{error_kind, expected_len}
use Rattle.csv.specs.Records.{fields_of}
use Rattle.dcr_log.specs.Left.{TellsUneven, left_of, stop_by}
use Rattle.dcr_log.proofs.LeftLemmas.{has_none, has_read, tells_uneven}
use Rattle.dcr_log.proofs.read.read_next.Goals as goal

pub returns-in-Ok-clause-found : goal.returns-in-Ok-clause-found
returns-in-Ok-clause-found c = λ e.
    let read = c.in-Ok.ensures in
    has_read c.args.reader.now c.read_byte_record.new.self (fields_of c.read_byte_record.new.row) c.requires
    (rw e at (read.reads c.requires.plain c.requires.ready)) (read.ready c.requires.plain) read.flexible

pub returns-in-Ok-clause-none : goal.returns-in-Ok-clause-none
returns-in-Ok-clause-none c = λ e.
    let read = c.in-Ok.ensures in
    has_none c.args.reader.now c.read_byte_record.new.self (fields_of c.read_byte_record.new.row) c.requires
    (rw e at (read.reads c.requires.plain c.requires.ready))

pub returns-in-Err-clause-uneven : goal.returns-in-Err-clause-uneven
returns-in-Err-clause-uneven c =
    let reader = c.args.reader.now in
    subst (TellsUneven c.args.number (expected_len reader) (left_of reader)) (sym (c.stop_of.ensures ∙ ap (stop_by c.args.number) c.kind.ensures))
    (tells_uneven reader c.read_byte_record.new.self c.args.number (error_kind c.in-Err.error) c.requires (c.in-Err.ensures.why c.requires.ready))
