use Rattle.std.proofs.Common.{rules, ◌≡◌, ◌<◌, length, get_or}
use Rattle.dcr_fakes.proofs.ImageLemmas.{next_content, next_image}
use Rattle.dcr_fakes.proofs.image.torn_image.Goals as goal

pub loop-call-preserved : goal.loop-call-preserved
loop-call-preserved c =
    let calls = c.args.calls.now in
    let at = c.loop-call.call-index in
    let call = c.call-item.result in
    let within : at < length calls = search rules in
    let is : get_or calls at call ≡ call = search rules in
    record {
      content = next_content c.args.first.now calls at within call is c.loop-call.content.items c.pass.new.content.items c.loop-call.invariant.content c.in_ok-pass.ensures.content;
      left = next_image c.args.first.now calls at within call is c.loop-call.content.items c.loop-call.image.items c.pass.new.image.items c.loop-call.invariant.content c.loop-call.invariant.left c.in_ok-pass.ensures.image;
    }
