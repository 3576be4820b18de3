use Rattle.std.proofs.Common.{◌≡◌, IsTrue, ℕ, ◌+◌, ◌*◌, List, [], ◌∷◌, ◌++◌, length, Option, Some, None, is_none, refl, sym, ◌∙◌, ap, subst, arith, rules, Vec}
use Rattle.std.specs.declared.alloc.Global.{Global}
use Rattle.std.proofs.lemmas.Bool.{false≢true}
use Rattle.std.proofs.lemmas.List.{length-append}
use Rattle.dcr_tape.specs.Tape.{payload_bytes, size_of}
use Rattle.dcr_tape.specs.Kept.{KeptForRenewal, part_of, width_by}
use Rattle.dcr_tape.specs.declared.entry.TapeEntry.{TapeEntry}
use Rattle.dcr_tape.specs.declared.width.Width.{Width}
use Rattle.dcr_tape.specs.declared.width.Width.TheVariants.{Twelve}
use Rattle.dcr_tape.proofs.AppendRun.{first_leaves, both_leave, new_holds}
use Rattle.dcr_tape.proofs.tape.Tape.append.Goals as goal

-- a tape that is renewed has records of twelve bytes, and keeps nothing for its renewal
wide : (kept : Option (Vec TapeEntry Global)) → IsTrue (is_none kept) → width_by kept ≡ Twelve
wide None is = refl
wide (Some entries) is = absurd (false≢true is)

nothing_kept : (kept : Option (Vec TapeEntry Global)) → IsTrue (is_none kept) → (entries : List TapeEntry) → KeptForRenewal kept entries
nothing_kept None is entries = tt
nothing_kept (Some old) is entries = absurd (false≢true is)

-- the next record begins behind those that are counted
gate_is : (start from n : ℕ) (width : Width) → width ≡ Twelve → from ≡ n → start + 64 + 12 * from ≡ start + 64 + size_of width * n
gate_is start from n width is same = subst (λ w. start + 64 + 12 * from ≡ start + 64 + size_of w * n) (sym is) (omega (arith, same))

pub returns-in_err-write_durably-clause-any_moment : goal.returns-in_err-write_durably-clause-any_moment
returns-in_err-write_durably-clause-any_moment g c = λ E keeps steady.
    let tape = c.args.self.now in
    let from : c.from.result ≡ c.args.self.now.count = search rules in
    first_leaves (g.D.Disk.view tape.disk) (part_of tape) E c.args.entry keeps.told keeps.holds (wide tape.unrenewed c.requires.renewed)
    (tape.start + 64 + 12 * c.from.result) (gate_is tape.start c.from.result (length E) (width_by tape.unrenewed) (wide tape.unrenewed c.requires.renewed) (from ∙ keeps.count))
    c.payload-behind.result (c.payload-behind.ensures ∙ ap (λ (n : ℕ). payload_bytes n c.args.entry) keeps.count)
    (g.D.Disk.view c.write_durably.new.disk) (c.write_durably.ensures.any_moment steady)

pub returns-in_err-write_durably-2-clause-any_moment : goal.returns-in_err-write_durably-2-clause-any_moment
returns-in_err-write_durably-2-clause-any_moment g c = λ E keeps steady.
    let tape = c.args.self.now in
    let from : c.from.result ≡ c.args.self.now.count = search rules in
    both_leave (g.D.Disk.view tape.disk) (part_of tape) E c.args.entry keeps.told keeps.holds (wide tape.unrenewed c.requires.renewed)
    (tape.start + 64 + 12 * c.from.result) (gate_is tape.start c.from.result (length E) (width_by tape.unrenewed) (wide tape.unrenewed c.requires.renewed) (from ∙ keeps.count))
    c.payload-behind.result (c.payload-behind.ensures ∙ ap (λ (n : ℕ). payload_bytes n c.args.entry) keeps.count)
    (g.D.Disk.view c.write_durably.new.disk) c.in_ok-write_durably.ensures.wrote (g.D.Disk.view c.write_durably-2.new.disk)
    (c.write_durably.ensures.any_moment steady) (c.write_durably-2.ensures.any_moment (c.in_ok-write_durably.ensures.steady steady))

pub returns-clause-any_moment : goal.returns-clause-any_moment
returns-clause-any_moment g c = λ E keeps steady.
    let tape = c.args.self.now in
    let from : c.from.result ≡ c.args.self.now.count = search rules in
    both_leave (g.D.Disk.view tape.disk) (part_of tape) E c.args.entry keeps.told keeps.holds (wide tape.unrenewed c.requires.renewed)
    (tape.start + 64 + 12 * c.from.result) (gate_is tape.start c.from.result (length E) (width_by tape.unrenewed) (wide tape.unrenewed c.requires.renewed) (from ∙ keeps.count))
    c.payload-behind.result (c.payload-behind.ensures ∙ ap (λ (n : ℕ). payload_bytes n c.args.entry) keeps.count)
    (g.D.Disk.view c.write_durably.new.disk) c.in_ok-write_durably.ensures.wrote (g.D.Disk.view c.write_durably-2.new.disk)
    (c.write_durably.ensures.any_moment steady) (c.write_durably-2.ensures.any_moment (c.in_ok-write_durably.ensures.steady steady))

pub returns-clause-kept : goal.returns-clause-kept
returns-clause-kept g c = λ E keeps.
    let tape = c.args.self.now in
    let from : c.from.result ≡ c.args.self.now.count = search rules in
    let count : c.args.self.now.count + 1 ≡ length (E ++ c.args.entry ∷ []) = omega (arith, keeps.count, length-append E (c.args.entry ∷ [])) in
    record {
      told = c.in_ok-write_durably-2.ensures.wrote.told;
      holds = new_holds (g.D.Disk.view tape.disk) (part_of tape) E c.args.entry keeps.told keeps.holds (wide tape.unrenewed c.requires.renewed)
          (tape.start + 64 + 12 * c.from.result) (gate_is tape.start c.from.result (length E) (width_by tape.unrenewed) (wide tape.unrenewed c.requires.renewed) (from ∙ keeps.count))
          c.payload-behind.result (c.payload-behind.ensures ∙ ap (λ (n : ℕ). payload_bytes n c.args.entry) keeps.count)
          (g.D.Disk.view c.write_durably.new.disk) c.in_ok-write_durably.ensures.wrote (g.D.Disk.view c.write_durably-2.new.disk) c.in_ok-write_durably-2.ensures.wrote;
      count = count;
      kept = nothing_kept tape.unrenewed c.requires.renewed (E ++ c.args.entry ∷ []);
    }
