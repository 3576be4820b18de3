use Rattle.std.proofs.Common.{rules, ◌≡◌, ◌≢◌, ◌∙◌, length, sym, subst}
use Rattle.dcr_tape.specs.Opening.{Opened, Refused}
use Rattle.dcr_tape.specs.Found.{part_found}
use Rattle.dcr_tape.specs.declared.width.Width.TheVariants.{Twelve}
use Rattle.dcr_tape.proofs.OpenLemmas.{opened_making, opened_reading, refused_making}
use Rattle.dcr_tape.proofs.StaysLemmas.{stays_trans}
use Rattle.dcr_tape.proofs.open.open_disk.Goals as goal

pub returns-then-len-eq0-clause-opened : goal.returns-then-len-eq0-clause-opened
returns-then-len-eq0-clause-opened g c =
    let new = g.D.Disk.view c.make.new.disk in
    let digest = c.args.digest.now in
    let long : length digest ≡ 32 = search rules in
    let none : c.in_ok-len.len ≡ 0 = search rules in
    subst (λ entries. Opened (g.D.Disk.view c.args.disk.now) new digest (record { start = 0; width = Twelve; digest = digest }) entries) (sym c.new.ensures.items)
    (opened_making (g.D.Disk.view c.args.disk.now) (g.D.Disk.view c.sync.new.self) (g.D.Disk.view c.len.new.self) new digest long c.sync.ensures.stays c.in_ok-sync.ensures.durable c.len.ensures.stays
    (c.in_ok-len.ensures.length.0) (sym c.in_ok-len.ensures.length.1 ∙ none) c.in_ok-make.ensures.made c.in_ok-make.ensures.steady c.make.ensures.honest c.make.ensures.any_moment)

pub returns-clause-opened : goal.returns-clause-opened
returns-clause-opened g c =
    let some : c.in_ok-len.len ≢ 0 = search rules in
    opened_reading (g.D.Disk.view c.args.disk.now) (g.D.Disk.view c.sync.new.self) (g.D.Disk.view c.len.new.self) (g.D.Disk.view c.recover.new.disk) c.args.digest.now (part_found c.in_ok-found.found.part) c.in_ok-found.found.entries.items
    c.sync.ensures.stays c.in_ok-sync.ensures.durable c.len.ensures.stays c.recover.ensures.stays (c.in_ok-len.ensures.length.0)
    (λ none. some (c.in_ok-len.ensures.length.1 ∙ none)) c.in_ok-found.ensures.same_case c.in_ok-found.ensures.holds c.in_ok-found.ensures.few

pub returns-in_err-make-clause-refused : goal.returns-in_err-make-clause-refused
returns-in_err-make-clause-refused g c =
    let old = g.D.Disk.view c.args.disk.now in let synced = g.D.Disk.view c.sync.new.self in let mid = g.D.Disk.view c.len.new.self in let new = g.D.Disk.view c.make.new.disk in
    let digest = c.args.digest.now in
    let long : length digest ≡ 32 = search rules in
    let none : c.in_ok-len.len ≡ 0 = search rules in
    let refused : Refused old new digest c.in_err-make.field-0.0 =
    refused_making old mid new digest c.in_err-make.field-0.0 c.in_err-make.ensures.cause (stays_trans old synced mid c.sync.ensures.stays c.len.ensures.stays) (sym c.in_ok-len.ensures.length.1 ∙ none) long
    c.make.ensures.any_moment in
    search rules
