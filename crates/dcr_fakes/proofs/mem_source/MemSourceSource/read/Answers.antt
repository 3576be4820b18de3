use Rattle.std.proofs.Common.{take, drop, ap, ◌∙◌, length, arith}
use Rattle.std.proofs.lemmas.List.{drop-drop}
use Rattle.dcr_fakes.proofs.Reading.{moved, rest_of}
use Rattle.dcr_fakes.proofs.mem_source.MemSourceSource.read.Goals as goal

pub returns-clause-moved : goal.returns-clause-moved
returns-clause-moved c =
    let fields = c.self.inside in
    let bytes = fields.bytes.items in
    let n = c.min-n.result in
    let rest = rest_of c.deref.result.now bytes fields.given c.deref.ensures.value in
    rw (← ap (λ s. s.left) c.self.view_is, ← drop-drop n fields.given bytes)
    (moved (drop fields.given bytes) c.args.buf.now c.copy_from_slice.new.self n fields.step
    (c.copy_from_slice.ensures.after ∙ ap (take n) rest)
    (omega (arith, c.min-n.ensures, c.min.ensures, ap length rest))
    c.self.invariant.step)
