use Rattle.std.proofs.Common.{◌++◌, IsUtf8, sym, ap, subst, ◌∙◌}
use Rattle.std.proofs.lemmas.Bool.{false≢true}
use Rattle.dcr_line.specs.Line.{call_text}
use Rattle.dcr_session_json.proofs.TextLemmas.{call_utf8}
use Rattle.dcr_session_json.proofs.value.call_value.Goals as goal

pub unreachable-requires : goal.unreachable-requires
unreachable-requires c =
    let text = call_text c.args.cover.now.names c.args.graph.now.names c.args.call.now in
    let line = c.in_ok-write_call.ensures.added ∙ ap (λ bytes. bytes ++ text) c.new-line.ensures.items in
    false≢true (c.in_default.ensures.succeeds (subst IsUtf8 (sym line) (call_utf8 c.args.cover.now.names c.args.graph.now.names c.requires.sites c.requires.atoms c.args.call.now)))
