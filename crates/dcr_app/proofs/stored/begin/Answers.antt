use Rattle.std.proofs.Common.{IsTrue, sym, subst}
use Rattle.dcr_tape.specs.Kept.{part_of}
use Rattle.dcr_tape.specs.Opening.{Opened}
use Rattle.dcr_tape.specs.declared.tape.Store.TheVariants.{On}
use Rattle.dcr_json.specs.Built.{case_of}
use Rattle.dcr_app.specs.Headline.{digest_of}
use Rattle.dcr_app.specs.Stored.{Begins}
use Rattle.dcr_app.proofs.TapeLemmas.{unopened}
use Rattle.dcr_app.proofs.stored.begin.Goals as goal

-- memory for the digest could not be had
pub returns-in_default-clause-refused : goal.returns-in_default-clause-refused
returns-in_default-clause-refused g c = unopened (g.D.Disk.view c.args.disk) (digest_of (case_of c.args.case.now))

pub returns-in-Ok-open_tape-clause-begun : goal.returns-in-Ok-open_tape-clause-begun
returns-in-Ok-open_tape-clause-begun g c =
    let view = g.D.Disk.view in let tape = c.in-Ok-open_tape.tape in let old = c.in-Ok-open_tape.old.items in let digest = digest_of (case_of c.args.case.now) in
    let opened = subst (λ d. Opened (view c.args.disk) (view tape.disk) d (part_of tape) old) c.in-Ok.ensures c.in-Ok-open_tape.ensures.opened in
    subst (λ s. Begins view g.D.Disk.faults digest s c.args.disk (On tape) old) (sym c.if-not-store.false) (record {
      opened = opened;
      may_begin = (c.in-Ok-open_tape.ensures.running, c.in-Ok-open_tape.ensures.keeps, λ honest. opened.steady (subst IsTrue opened.honest honest));
      no_fault = c.in-Ok-open_tape.ensures.ok_counts_none;
    })
