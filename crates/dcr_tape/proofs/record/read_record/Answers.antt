use Rattle.std.proofs.Common.{◌≡◌, ℕ, length, take, ap}
use Rattle.dcr_tape.specs.Tape.{size_of, zeros}
use Rattle.dcr_tape.specs.declared.width.Width.{Width}
use Rattle.dcr_tape.specs.declared.width.Width.TheVariants.{Eight, Twelve}
use Rattle.dcr_tape.proofs.FindLemmas.{taken_read}
use Rattle.dcr_tape.proofs.RecordLemmas.{in_content}
use Rattle.dcr_tape.proofs.record.read_record.Goals as goal

-- as many bytes are asked for as a record has
sized : (width : Width) (size : ℕ) → size ≡ size_of width → length (take size (zeros 12)) ≡ size_of width
sized Eight size is = ap (λ (k : ℕ). length (take k (zeros 12))) is
sized Twelve size is = ap (λ (k : ℕ). length (take k (zeros 12))) is

pub returns-clause-read : goal.returns-clause-read
returns-clause-read g c =
    let size = c.size-size.result in
    let read = c.in_ok-n.ensures.read in
    in_content (g.D.Disk.view c.args.disk.now).content _ c.args.width c.args.at c.args.number
    (taken_read (g.D.Disk.view c.args.disk.now).content (g.D.Disk.view c.read.new.self).content c.args.at c.in_ok-n.n (size_of c.args.width)
    (take size (zeros 12)) c.read.new.buf _ ((c.in_ok-n.ensures.stays.told c.requires.told).1) (sized c.args.width size c.size-size.ensures) read.1 read.2)
    c.judge.result c.judge.ensures
