use Rattle.std.proofs.Common.{rules, ◌≡◌, ◌+◌, ◌∙◌, ◌++◌, [], ◌∷◌, length, sym, ap, subst, arith}
use Rattle.std.proofs.lemmas.List.{length-append}
use Rattle.dcr_tape.specs.Tape.{HasRecords, size_of}
use Rattle.dcr_tape.specs.Found.{IsRecord, part_found}
use Rattle.dcr_tape.proofs.PartLemmas.{next_place, next_sound}
use Rattle.dcr_tape.proofs.StaysLemmas.{stays_trans}
use Rattle.dcr_tape.proofs.records.read_records.Goals as goal

pub loop-number-preserved : goal.loop-number-preserved
loop-number-preserved g c =
    let before = (g.D.Disk.view c.args.disk.now).content in
    let mid = (g.D.Disk.view c.loop-number.disk).content in
    let so_far = c.loop-number.invariant in
    let entries = c.loop-number.entries.items in
    let entry = c.in-Sound.entry in
    let part = part_found c.args.part in
    let pushed : c.push.new.self.items ≡ entries ++ entry ∷ [] = search rules in
    record {
      count = omega (arith, ap length pushed, length-append entries (entry ∷ []), so_far.count);
      place = next_place (c.args.part.start + 64) (size_of c.args.part.width) c.loop-number.number c.loop-number.at c.size-size.result so_far.place so_far.size;
      size = so_far.size;
      are = subst (λ es. HasRecords before part es) (sym pushed)
          (next_sound before mid part entries entry c.loop-number.at c.loop-number.number ((so_far.stays.told c.requires.told).1) so_far.count so_far.place so_far.are
          (subst (λ found. IsRecord mid c.args.part.width c.loop-number.number c.loop-number.at found) c.in-Sound.is c.in_ok-read_record.ensures.read));
      stays = stays_trans (g.D.Disk.view c.args.disk.now) (g.D.Disk.view c.loop-number.disk) (g.D.Disk.view c.read_record.new.disk) so_far.stays c.read_record.ensures.stays;
      no_fault = c.in_ok-read_record.ensures.counts ∙ so_far.no_fault;
    }
