use Rattle.std.proofs.Common.{◌≡◌, ℕ, ◌-◌, ◌++◌, ◌≤◌, List, length, replicate, arith, sym, ap, ◌∙◌}
use Rattle.std.proofs.lemmas.List.{drop-replicate}
use Rattle.sha2.specs.Sha256.{sha256}
use Rattle.dcr_greet.specs.Hmac.{short_key}
use Rattle.dcr_base.specs.Disk.{written}
use Rattle.dcr_greet.proofs.mac.key_block.Goals as goal

filled : (short : List ℕ) → written 0 short (replicate 64 0) ≡ short ++ replicate (64 - length short) 0
filled short = grind (arith, drop-replicate {X = ℕ})

short : (key : List ℕ) → length key ≤ 64 → short_key key ≡ key
short key few = grind (arith)

long : (key : List ℕ) → 65 ≤ length key → short_key key ≡ sha256 key
long key many = grind (arith)

pub returns-then-key-le64 : goal.returns-then-key-le64
returns-then-key-le64 c =
    c.put.ensures ∙ filled c.args.key.now ∙ ap (λ k. k ++ replicate (64 - length k) 0) (sym (short c.args.key.now (omega arith)))

pub returns-else-key-le64 : goal.returns-else-key-le64
returns-else-key-le64 c =
    c.put-else-key-le64.ensures ∙ filled c.digest.result ∙ ap (λ k. k ++ replicate (64 - length k) 0) (c.digest.ensures ∙ sym (long c.args.key.now (omega arith)))
