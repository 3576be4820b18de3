use Rattle.std.proofs.Common.{rules, ◌≤◌, List, ℕ, length, sym, subst}
use Rattle.std.proofs.lemmas.Result.{on_ok_weaker}
use Rattle.dcr_base.specs.Disk.{Torn}
use Rattle.dcr_base.proofs.DiskLemmas.{torn_written}
use Rattle.dcr_fakes.proofs.image.tear.Goals as goal

pub returns : goal.returns
returns c =
    let old = c.args.image.now.items in
    let within : c.args.at ≤ length old = search rules in
    let short : length c.deref.result.now ≤ length c.args.bytes.now = search rules in
    on_ok_weaker c.write_over.result
    (λ wrote. subst (λ (image : List ℕ). Torn c.args.at (length c.args.bytes.now) old image) (sym wrote) (torn_written c.args.at c.deref.result.now old (length c.args.bytes.now) within short))
    c.write_over.ensures.written
