use Rattle.std.proofs.Common.{true, ℕ, ◌++◌, List, length, Some, sym, ap, subst, ◌∙◌, arith}
use Rattle.std.proofs.lemmas.Bool.{false≢true}
use Rattle.std.proofs.lemmas.List.{take_at}
use Rattle.std.proofs.lemmas.Result.{IfOk-weaker}
use Rattle.dcr_graph.specs.Cause.{waits}
use Rattle.dcr_report.specs.Report.{end_lines}
use Rattle.dcr_text.specs.Lines.{line_of}
use Rattle.dcr_replay.specs.ReportLines.{ended}
use Rattle.dcr_replay.specs.Stands.{TellsEnds, ends_of, sites_of}
use Rattle.dcr_replay.proofs.EndLemmas.{length_ends, length_sites, next_taken, next_wanted, site_kind, site_wanted}
use Rattle.dcr_replay.proofs.ends.check_ends.Goals as goal

pub returns-then-not-takes : goal.returns-then-not-takes
returns-then-not-takes c =
    let run = c.args.run.now in let i = c.loop-i.i in let lines = c.loop-i.lines in let as_many = c.requires.is_cover.as_many in
    let many = ap (λ (names : List (List ℕ)). length names) c.site_names-sites.ensures.names in let test = c.loop-i-test.true in let all = length_ends run as_many in
    let said = c.deref.ensures.value ∙ c.in_ok-line_of_site.ensures ∙ sym (site_wanted run as_many i (omega arith)) in
    subst (TellsEnds run c.args.lines.now) (sym c.wrong.ensures) (record {
      i = i;
      rest = lines;
      at = omega arith;
      kind_is = site_kind (length run.cover.now.names) i (omega arith);
      within = omega arith;
      cut = c.loop-i.invariant;
      other = λ same. false≢true (sym c.if-not-takes.true ∙ c.takes.ensures.says.1 (same ∙ next_wanted (ends_of run) i (omega arith) ∙ ap (λ t. Some (line_of t true)) (sym said)));
    })

pub loop-i-preserved : goal.loop-i-preserved
loop-i-preserved c =
    let run = c.args.run.now in let i = c.loop-i.i in let as_many = c.requires.is_cover.as_many in
    let many = ap (λ (names : List (List ℕ)). length names) c.site_names-sites.ensures.names in let test = c.loop-i-test.true in let all = length_ends run as_many in
    let said = c.deref.ensures.value ∙ c.in_ok-line_of_site.ensures ∙ sym (site_wanted run as_many i (omega arith)) in
    next_taken (ends_of run) i c.args.lines.now c.loop-i.lines c.takes.new.lines (omega arith)
    (c.takes.ensures.says.0 c.if-not-takes.false ∙ ap (λ t. Some (line_of t true)) said) c.takes.ensures.taken c.loop-i.invariant

pub returns : goal.returns
returns c = IfOk-weaker c.check_last.result _ _ (λ verdict told.
    let run = c.args.run.now in let i = c.loop-i.i in let as_many = c.requires.is_cover.as_many in
    let many = ap (λ (names : List (List ℕ)). length names) c.site_names-sites.ensures.names in let test = c.loop-i-test.false in let ends = c.loop-i.auto.i-end in let all = length_sites run as_many in
    told c.args.lines.now
    (c.loop-i.invariant ∙ ap (λ l. ended l ++ c.loop-i.lines) (take_at (sites_of run) (end_lines run.graph.now.names (waits (length run.graph.now.names) run.plain.marking) run.len) i (omega arith)))
    (omega arith)) c.check_last.ensures
