use Rattle.std.proofs.Common.{rules, ◌≡◌, ◌≢◌, ◌+◌, ◌≤◌, true, false, MatchOption, [], ◌∷◌, length, get_or, ◌∙◌, ap, subst}
use Rattle.dcr_tape.specs.Found.{HasNoPartAt, IsPartAt}
use Rattle.dcr_tape.proofs.FindLemmas.{NewHead, OldHead, found_new, found_none, found_old, one_in_head, refuted, renewed_found}
use Rattle.dcr_tape.proofs.StaysLemmas.{stays_trans}
use Rattle.dcr_tape.proofs.find.find_part.Goals as goal

pub returns-then-is_new_head-clause-found : goal.returns-then-is_new_head-clause-found
returns-then-is_new_head-clause-found g c =
    let content = (g.D.Disk.view c.args.disk.now).content in
    let on : c.is_new_head.result ≡ true = search rules in
    let long : 65 ≤ length content = search rules in
    found_new content c.in_ok-head.head c.in_ok-head.ensures.read (c.is_new_head.ensures.0 on) long c.digest_in.result c.digest_in.ensures

pub returns-then-not-is_old_head-clause-found : goal.returns-then-not-is_old_head-clause-found
returns-then-not-is_old_head-clause-found g c =
    let content = (g.D.Disk.view c.args.disk.now).content in
    let head = c.in_ok-head.head in
    let not_new : c.is_new_head.result ≡ false = search rules in
    let not_old : c.is_old_head.result ≡ false = search rules in
    found_none content head c.in_ok-head.ensures.read
    (refuted c.is_new_head.result (NewHead head) c.is_new_head.ensures not_new)
    (refuted c.is_old_head.result (OldHead head) c.is_old_head.ensures not_old)

pub returns-then-head-ne1-clause-found : goal.returns-then-head-ne1-clause-found
returns-then-head-ne1-clause-found g c =
    let content = (g.D.Disk.view c.args.disk.now).content in
    let head = c.in_ok-head.head in
    let on : c.is_old_head.result ≡ true = search rules in
    let long : 65 ≤ length content = search rules in
    let there : 0 + 64 ≤ length content = search rules in
    let off : get_or head 40 0 ≢ 1 = search rules in
    found_old content head c.in_ok-head.ensures.read (c.is_old_head.ensures.0 on) long (get_or head 40 0)
    (one_in_head content head 0 c.in_ok-head.ensures.read there) off c.digest_in-then-head-ne1.result c.digest_in-then-head-ne1.ensures

pub returns-in_err-renewed-clause-stays : goal.returns-in_err-renewed-clause-stays
returns-in_err-renewed-clause-stays g c =
    stays_trans (g.D.Disk.view c.args.disk.now) (g.D.Disk.view c.read_head.new.disk) (g.D.Disk.view c.find_renewed.new.disk) c.read_head.ensures.stays c.find_renewed.ensures.stays

pub returns-clause-found : goal.returns-clause-found
returns-clause-found g c =
    let content = (g.D.Disk.view c.args.disk.now).content in
    let head = c.in_ok-head.head in
    let old : c.is_old_head.result ≡ true = search rules in
    let there : 0 + 64 ≤ length content = search rules in
    let on : get_or head 40 0 ≡ 1 = search rules in
    let found = c.in_ok-renewed.renewed in
    let start = c.start_in.result in
    renewed_found content head c.in_ok-head.ensures.read (c.is_old_head.ensures.0 old)
    (one_in_head content head 0 c.in_ok-head.ensures.read there ∙ ap (λ b. b ∷ []) on) start c.start_in.ensures found
    (subst (λ l. MatchOption found (HasNoPartAt l start) (λ part. IsPartAt l start part)) ((c.in_ok-head.ensures.stays.told c.requires.told).1) c.in_ok-renewed.ensures.found)

pub returns-clause-stays : goal.returns-clause-stays
returns-clause-stays g c =
    stays_trans (g.D.Disk.view c.args.disk.now) (g.D.Disk.view c.read_head.new.disk) (g.D.Disk.view c.find_renewed.new.disk) c.read_head.ensures.stays c.find_renewed.ensures.stays
