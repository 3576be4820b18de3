use Rattle.std.proofs.Common.{◌≡◌, ◌+◌, [], length, drop, get_or, Result, refl, sym, ap, subst, ◌∙◌, arith}
use Rattle.std.proofs.lemmas.List.{get_or_default}
use Rattle.dcr_greet.specs.KeyText.{BeginsWithLines, IsWrongLine}
use Rattle.dcr_greet.specs.declared.stop.KeysStop.{KeysStop}
use Rattle.dcr_greet.proofs.KeyLemmas.{err_line, line_long, line_wrong, lines_next, no_lines}
use Rattle.dcr_greet.proofs.keys.Keys.read.Goals as goal

pub loop-site-init : goal.loop-site-init
loop-site-init c =
    let text = c.args.text.now in
    record { right = subst (λ k. BeginsWithLines [] text k text) (sym c.new-keys.ensures.items) (no_lines text); line = refl }

pub returns-in_default-clause-wrong : goal.returns-in_default-clause-wrong
returns-in_default-clause-wrong c =
    let items = c.site_names-site-items.result.now in
    let i = c.loop-site.site-index in
    let name : c.as_bytes-name.result.now ≡ get_or items i [] =
    c.as_bytes-name.ensures.value ∙ c.text.ensures.text ∙ c.site-item.is ∙ get_or_default items i c.site-item.result [] (omega arith) in
    λ line is.
    subst (IsWrongLine c.args.cover.now.names c.args.text.now) (ap (λ (r : Result _ KeysStop). err_line r) is)
    (line_wrong c.args.cover.now.names items c.args.text.now c.loop-site.keys.items c.loop-site.rest.now c.as_bytes-name.result.now i c.loop-site.line c.site_names-site-items.ensures.names (omega arith)
    c.loop-site.invariant.right c.loop-site.invariant.line name c.in_default.ensures)

pub from-rest-requires : goal.from-rest-requires
from-rest-requires c =
    let long = line_long c.as_bytes-name.result.now c.loop-site.rest.now c.in-Some.key _ c.in-Some.ensures in
    omega (arith, long)

pub loop-site-preserved : goal.loop-site-preserved
loop-site-preserved c =
    let items = c.site_names-site-items.result.now in
    let i = c.loop-site.site-index in
    let name : c.as_bytes-name.result.now ≡ get_or items i [] =
    c.as_bytes-name.ensures.value ∙ c.text.ensures.text ∙ c.site-item.is ∙ get_or_default items i c.site-item.result [] (omega arith) in
    record {
      right = lines_next items c.args.text.now c.loop-site.keys.items c.push.new.self.items c.loop-site.rest.now c.as_bytes-name.result.now c.in-Some.key
          (drop (length c.as_bytes-name.result.now + 66) c.loop-site.rest.now) c.from-rest.result.now i (omega arith) c.loop-site.invariant.right name c.in_ok-push.ensures.items c.from-rest.ensures
          c.in-Some.ensures;
      line = omega (arith, c.loop-site.invariant.line);
    }
