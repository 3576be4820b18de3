use Rattle.std.proofs.Common.{◌∙◌, rules}
use Rattle.std.proofs.lemmas.List.{take_rest}
use Rattle.dcr_base.proofs.KnownBytes.{Appends-take}
use Rattle.dcr_base.proofs.writing.write_all.Goals as goal

pub loop-written-preserved : goal.loop-written-preserved
loop-written-preserved g c =
    let before = c.loop-written.invariant in
    let written = c.loop-written.written in
    let bytes = c.args.bytes.now in
    record {
      within = search rules;
      taken = Appends-take _ _ _ bytes _ written c.in-Ok.n (take_rest bytes written) before.taken c.in-Ok.ensures.appended;
      no_fault = c.in-Ok.ensures.counts ∙ before.no_fault;
      apart = c.in-Ok.ensures.apart ∙ before.apart;
    }
