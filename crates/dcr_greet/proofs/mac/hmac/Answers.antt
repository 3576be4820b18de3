use Rattle.std.proofs.Common.{◌++◌, [], ap, ◌∙◌}
use Rattle.sha2.specs.Sha256.{sha256}
use Rattle.dcr_greet.specs.Hmac.{crossed, hmac, key_block}
use Rattle.dcr_greet.proofs.mac.hmac.Goals as goal

pub returns : goal.returns
unfolding hmac
returns c =
    let message = c.args.message.now in
    let block = c.key_block-block.ensures in
    let begun = c.update.ensures [] c.new-inner.ensures in
    let within = c.finalize.ensures _ (c.update-2.ensures _ begun) in
    let around = c.finalize-2.ensures _ (c.update-4.ensures _ (c.update-3.ensures [] c.new-outer.ensures)) in
    around
    ∙ ap (λ o. sha256 (o ++ c.finalize.result)) (c.crossed-2.ensures ∙ ap (crossed 0x5c) block)
    ∙ ap (λ i. sha256 (crossed 0x5c (key_block c.args.key.now) ++ i)) (within ∙ ap (λ b. sha256 (b ++ message)) (c.crossed.ensures ∙ ap (crossed 0x36) block))
