use Rattle.std.proofs.Common.{true, ◌≡◌, ◌+◌, ◌++◌, List, length, slice_get, take, Some, refl, sym, ap, subst, ◌∙◌, arith}
use Rattle.std.proofs.lemmas.Bool.{false≢true}
use Rattle.std.proofs.lemmas.List.{append-nil, drop_all, take_all, take_at}
use Rattle.dcr_graph.specs.Cause.{waits}
use Rattle.dcr_report.specs.Report.{end_lines, verdict_text}
use Rattle.dcr_report.proofs.LegalLemmas.{waits-below}
use Rattle.dcr_text.specs.Lines.{Line, line_of}
use Rattle.dcr_replay.specs.ReportLines.{ended}
use Rattle.dcr_replay.specs.Stands.{TellsEnds, ends_of, sites_of}
use Rattle.dcr_replay.specs.declared.entries.Run.{Run}
use Rattle.dcr_replay.specs.declared.lines.Line.{Line as Cut}
use Rattle.dcr_replay.proofs.EndLemmas.{is_left, last_kind, last_wanted, length_ends, length_sites, next_taken, next_wanted}
use Rattle.dcr_replay.proofs.ends.check_last.Goals as goal

pub verdict_line-requires : goal.verdict_line-requires
verdict_line-requires c =
    let run = c.args.run.now in let n = length run.graph.now.names in
    λ e found. waits-below n run.plain.marking e (sym (c.waits.ensures ∙ ap (λ g. waits (length g.names) run.plain.marking) c.requires.sound.graph) ∙ found)

-- the lines behind those of the sites
behind_sites : (run : Run) → length run.cover.now.owned ≡ length run.cover.now.names → (all lines : List Line) → all ≡ ended (sites_of run) ++ lines
    → all ≡ ended (take (length run.cover.now.names) (ends_of run)) ++ lines
behind_sites run many all lines cut =
    cut ∙ ap (λ l. ended l ++ lines) (sym (take_at (sites_of run) (end_lines run.graph.now.names (waits (length run.graph.now.names) run.plain.marking) run.len) (length run.cover.now.names) (length_sites run many)))

pub returns-then-not-takes : goal.returns-then-not-takes
returns-then-not-takes c = λ all cut number.
    let run = c.args.run.now in let n = length run.cover.now.names in let many = c.requires.sound.is_cover.as_many in let long = length_ends run many in
    let start = behind_sites run many all c.args.lines.now cut in
    let said = c.deref.ensures.value ∙ c.in_ok-verdict_line.ensures ∙ ap (verdict_text run.graph.now.names) (c.waits.ensures ∙ ap (λ g. waits (length g.names) run.plain.marking) c.requires.sound.graph)
    ∙ sym (last_wanted run many n 0 (omega arith)) in
    subst (TellsEnds run all) (sym c.wrong.ensures) (record {
      i = n;
      rest = c.args.lines.now;
      at = number;
      kind_is = last_kind n n 0 (omega arith);
      within = omega arith;
      cut = start;
      other = λ same. false≢true (sym c.if-not-takes.true ∙ c.takes.ensures.says.1 (same ∙ next_wanted (ends_of run) n (omega arith) ∙ ap (λ t. Some (line_of t true)) (sym said)));
    })

pub returns-then-not-takes-2 : goal.returns-then-not-takes-2
returns-then-not-takes-2 c = λ all cut number.
    let run = c.args.run.now in let n = length run.cover.now.names in let many = c.requires.sound.is_cover.as_many in let long = length_ends run many in
    let start = behind_sites run many all c.args.lines.now cut in
    let said = c.deref.ensures.value ∙ c.in_ok-verdict_line.ensures ∙ ap (verdict_text run.graph.now.names) (c.waits.ensures ∙ ap (λ g. waits (length g.names) run.plain.marking) c.requires.sound.graph)
    ∙ sym (last_wanted run many n 0 (omega arith)) in
    let second = next_taken (ends_of run) n all c.args.lines.now c.takes.new.lines (omega arith) (c.takes.ensures.says.0 c.if-not-takes.false ∙ ap (λ t. Some (line_of t true)) said) c.takes.ensures.taken start in
    let closed = c.deref-2.ensures.value ∙ c.in_ok-end_line.ensures ∙ sym (last_wanted run many (n + 1) 1 refl) in
    subst (TellsEnds run all) (sym c.wrong-then-not-takes-2.ensures) (record {
      i = n + 1;
      rest = c.takes.new.lines;
      at = omega (arith, number);
      kind_is = last_kind n (n + 1) 1 refl;
      within = omega arith;
      cut = second;
      other = λ same. false≢true (sym c.if-not-takes-2.true ∙ c.takes-2.ensures.says.1 (same ∙ next_wanted (ends_of run) (n + 1) (omega arith) ∙ ap (λ t. Some (line_of t true)) (sym closed)));
    })

pub returns-then-is_some : goal.returns-then-is_some
returns-then-is_some c = λ all cut number.
    let run = c.args.run.now in let n = length run.cover.now.names in let many = c.requires.sound.is_cover.as_many in let long = length_ends run many in
    let start = behind_sites run many all c.args.lines.now cut in
    let said = c.deref.ensures.value ∙ c.in_ok-verdict_line.ensures ∙ ap (verdict_text run.graph.now.names) (c.waits.ensures ∙ ap (λ g. waits (length g.names) run.plain.marking) c.requires.sound.graph)
    ∙ sym (last_wanted run many n 0 (omega arith)) in
    let second = next_taken (ends_of run) n all c.args.lines.now c.takes.new.lines (omega arith) (c.takes.ensures.says.0 c.if-not-takes.false ∙ ap (λ t. Some (line_of t true)) said) c.takes.ensures.taken start in
    let closed = c.deref-2.ensures.value ∙ c.in_ok-end_line.ensures ∙ sym (last_wanted run many (n + 1) 1 refl) in
    let third = next_taken (ends_of run) (n + 1) all c.takes.new.lines c.takes-2.new.lines (omega arith) (c.takes-2.ensures.says.0 c.if-not-takes-2.false ∙ ap (λ t. Some (line_of t true)) closed)
    c.takes-2.ensures.taken second in
    let left = is_left (λ (line : Cut). line_of line.text.now line.ended) c.first.result c.takes-2.new.lines c.is_some.result c.first.ensures c.is_some.ensures in
    subst (TellsEnds run all) (sym c.wrong-then-is_some.ensures) (record {
      i = n + 1 + 1;
      rest = c.takes-2.new.lines;
      at = omega (arith, number);
      kind_is = last_kind n (n + 1 + 1) 2 (omega arith);
      within = omega arith;
      cut = third;
      other = λ same. left.0 c.if-is_some.true (same ∙ ap (λ l. slice_get (ended l) 0) (drop_all (n + 1 + 1) (ends_of run) (omega arith)));
    })

pub returns : goal.returns
returns c = λ all cut number.
    let run = c.args.run.now in let n = length run.cover.now.names in let many = c.requires.sound.is_cover.as_many in let long = length_ends run many in
    let start = behind_sites run many all c.args.lines.now cut in
    let said = c.deref.ensures.value ∙ c.in_ok-verdict_line.ensures ∙ ap (verdict_text run.graph.now.names) (c.waits.ensures ∙ ap (λ g. waits (length g.names) run.plain.marking) c.requires.sound.graph)
    ∙ sym (last_wanted run many n 0 (omega arith)) in
    let second = next_taken (ends_of run) n all c.args.lines.now c.takes.new.lines (omega arith) (c.takes.ensures.says.0 c.if-not-takes.false ∙ ap (λ t. Some (line_of t true)) said) c.takes.ensures.taken start in
    let closed = c.deref-2.ensures.value ∙ c.in_ok-end_line.ensures ∙ sym (last_wanted run many (n + 1) 1 refl) in
    let third = next_taken (ends_of run) (n + 1) all c.takes.new.lines c.takes-2.new.lines (omega arith) (c.takes-2.ensures.says.0 c.if-not-takes-2.false ∙ ap (λ t. Some (line_of t true)) closed)
    c.takes-2.ensures.taken second in
    let left = is_left (λ (line : Cut). line_of line.text.now line.ended) c.first.result c.takes-2.new.lines c.is_some.result c.first.ensures c.is_some.ensures in
    (refl, third ∙ ap (λ l. ended (take (n + 1 + 1) (ends_of run)) ++ l) (left.1 c.if-is_some.false) ∙ append-nil (ended (take (n + 1 + 1) (ends_of run))) ∙ ap ended (take_all (n + 1 + 1) (ends_of run) (omega arith)))
