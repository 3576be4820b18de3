use Rattle.std.proofs.Common.{◌≡◌, not, false, sym, ap, rules, arith}
use Rattle.dcr_set.proofs.LeastLemmas.{least-from, least-none_from}
use Rattle.dcr_proj.specs.CoverValue.{is_owned}
use Rattle.dcr_cover_json.proofs.cover.first_unowned.Goals as goal

pub returns-then-not-has_owner : goal.returns-then-not-has_owner
returns-then-not-has_owner c =
    let unowned : is_owned c.args.owned.now c.loop-number.number ≡ false = search rules in
    sym (least-from c.args.atoms (λ atom. not (is_owned c.args.owned.now atom)) c.loop-number.number (record {
      below = omega arith;
      passes = ap not unowned;
      none_before = λ k l. ap not (c.loop-number.invariant k l);
    }))

pub returns : goal.returns
returns c = sym (least-none_from c.args.atoms (λ atom. not (is_owned c.args.owned.now atom)) (λ k l. ap not (c.loop-number.invariant k (omega arith))))
