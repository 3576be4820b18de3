use Rattle.std.proofs.Common.{rules, ◌≡◌, ◌+◌, ◌*◌, ◌≤◌, Some, ◌∙◌, ap, subst, arith}
use Rattle.dcr_tape.specs.Tape.{part_bytes}
use Rattle.dcr_tape.specs.Kept.{KeptForRenewal, part_of, width_by}
use Rattle.dcr_tape.proofs.RenewRun.{before_switch, all_leave, new_holds}
use Rattle.dcr_tape.proofs.tape.Tape.renew.Goals as goal

pub returns-in_err-write_part-clause-any_moment : goal.returns-in_err-write_part-clause-any_moment
returns-in_err-write_part-clause-any_moment g c = λ E keeps steady.
    let tape = c.args.self.now in
    let some : tape.unrenewed ≡ Some c.in-Some.entries = search rules in
    let from : c.from.result ≡ c.args.self.now.count = search rules in
    let same : c.in-Some.entries.items ≡ E = subst (λ kept. KeptForRenewal kept E) some keeps.kept in
    let near : 65 + 8 * c.from.result ≤ 4611686018427387904 = omega (arith, from, tape.within) in
    before_switch (g.D.Disk.view tape.disk) (part_of tape) E keeps.told keeps.holds (ap width_by some)
    (65 + 8 * c.from.result) (ap (λ n. 65 + 8 * n) (from ∙ keeps.count)) near
    c.deref-2.result.now (c.deref-2.ensures.value ∙ c.in_ok-part.ensures ∙ ap (part_bytes tape.digest) (c.deref.ensures.value ∙ same))
    (g.D.Disk.view c.write_part.new.disk) (c.write_part.ensures.any_moment steady)

pub returns-in_err-write_durably-clause-any_moment : goal.returns-in_err-write_durably-clause-any_moment
returns-in_err-write_durably-clause-any_moment g c = λ E keeps steady.
    let tape = c.args.self.now in
    let some : tape.unrenewed ≡ Some c.in-Some.entries = search rules in
    let from : c.from.result ≡ c.args.self.now.count = search rules in
    let same : c.in-Some.entries.items ≡ E = subst (λ kept. KeptForRenewal kept E) some keeps.kept in
    let near : 65 + 8 * c.from.result ≤ 4611686018427387904 = omega (arith, from, tape.within) in
    all_leave (g.D.Disk.view tape.disk) (part_of tape) E keeps.told keeps.holds (ap width_by some)
    (65 + 8 * c.from.result) (ap (λ n. 65 + 8 * n) (from ∙ keeps.count)) near
    c.deref-2.result.now (c.deref-2.ensures.value ∙ c.in_ok-part.ensures ∙ ap (part_bytes tape.digest) (c.deref.ensures.value ∙ same))
    (g.D.Disk.view c.write_part.new.disk) c.in_ok-write_part.ensures.wrote
    (g.D.Disk.view c.write_durably.new.disk) (c.write_part.ensures.any_moment steady) (c.write_durably.ensures.any_moment (c.in_ok-write_part.ensures.steady steady))

pub returns-clause-kept : goal.returns-clause-kept
returns-clause-kept g c = λ E keeps.
    let tape = c.args.self.now in
    let some : tape.unrenewed ≡ Some c.in-Some.entries = search rules in
    let from : c.from.result ≡ c.args.self.now.count = search rules in
    let same : c.in-Some.entries.items ≡ E = subst (λ kept. KeptForRenewal kept E) some keeps.kept in
    let near : 65 + 8 * c.from.result ≤ 4611686018427387904 = omega (arith, from, tape.within) in
    record {
      told = c.in_ok-write_durably.ensures.wrote.told;
      holds = new_holds (g.D.Disk.view tape.disk) (part_of tape) E keeps.told keeps.holds (ap width_by some)
          (65 + 8 * c.from.result) (ap (λ n. 65 + 8 * n) (from ∙ keeps.count)) near
          c.deref-2.result.now (c.deref-2.ensures.value ∙ c.in_ok-part.ensures ∙ ap (part_bytes tape.digest) (c.deref.ensures.value ∙ same))
          (g.D.Disk.view c.write_part.new.disk) c.in_ok-write_part.ensures.wrote (g.D.Disk.view c.write_durably.new.disk) c.in_ok-write_durably.ensures.wrote;
      count = keeps.count;
      kept = tt;
    }

pub returns-clause-any_moment : goal.returns-clause-any_moment
returns-clause-any_moment g c = λ E keeps steady.
    let tape = c.args.self.now in
    let some : tape.unrenewed ≡ Some c.in-Some.entries = search rules in
    let from : c.from.result ≡ c.args.self.now.count = search rules in
    let same : c.in-Some.entries.items ≡ E = subst (λ kept. KeptForRenewal kept E) some keeps.kept in
    let near : 65 + 8 * c.from.result ≤ 4611686018427387904 = omega (arith, from, tape.within) in
    all_leave (g.D.Disk.view tape.disk) (part_of tape) E keeps.told keeps.holds (ap width_by some)
    (65 + 8 * c.from.result) (ap (λ n. 65 + 8 * n) (from ∙ keeps.count)) near
    c.deref-2.result.now (c.deref-2.ensures.value ∙ c.in_ok-part.ensures ∙ ap (part_bytes tape.digest) (c.deref.ensures.value ∙ same))
    (g.D.Disk.view c.write_part.new.disk) c.in_ok-write_part.ensures.wrote
    (g.D.Disk.view c.write_durably.new.disk) (c.write_part.ensures.any_moment steady) (c.write_durably.ensures.any_moment (c.in_ok-write_part.ensures.steady steady))
