use Rattle.std.proofs.Common.{rules, ◌≡◌, true, false, refl}
use Rattle.dcr_tape.proofs.FindLemmas.{NewHead, new_head, new_header, refuted}
use Rattle.dcr_tape.proofs.find.find_renewed.Goals as goal

pub returns-then-not-is_new_head-clause-found : goal.returns-then-not-is_new_head-clause-found
returns-then-not-is_new_head-clause-found g c = λ digest near long header.
    let content = (g.D.Disk.view c.args.disk.now).content in
    let off : c.is_new_head.result ≡ false = search rules in
    refuted c.is_new_head.result (NewHead c.in_ok-head.head) c.is_new_head.ensures off
    (new_head content c.in_ok-head.head c.args.start c.in_ok-head.ensures.read digest header)

pub returns-clause-found : goal.returns-clause-found
returns-clause-found g c =
    let content = (g.D.Disk.view c.args.disk.now).content in
    let on : c.is_new_head.result ≡ true = search rules in
    record {
      here = refl;
      width = refl;
      near = search rules;
      long = search rules;
      header = new_header content c.in_ok-head.head c.args.start c.in_ok-head.ensures.read (c.is_new_head.ensures.0 on) c.digest_in.result c.digest_in.ensures;
    }
