use Rattle.std.proofs.Common.{◌≢◌, ◌++◌, Some, sym, ap, ◌∙◌, rules}
use Rattle.serde_json.specs.View.{view}
use Rattle.dcr_format.specs.Facts.{first}
use Rattle.dcr_format.specs.declared.stop.CaseStop.TheVariants.{NoMemory}
use Rattle.dcr_format.proofs.FactLemmas.{append_here, append_past}
use Rattle.dcr_cover_json.specs.Build.{build_facts}
use Rattle.dcr_cover_json.specs.Limits.{limit_facts}
use Rattle.dcr_cover_json.specs.Shape.{shape_facts, sites_in}
use Rattle.dcr_cover_json.specs.Sites.{cover_in}
use Rattle.dcr_cover_json.proofs.read.try_value.Goals as goal

pub returns-in_err-cover-clause-facts : goal.returns-in_err-cover-clause-facts
returns-in_err-cover-clause-facts c =
    let d = Some (view c.args.value.now) in
    let sites = sites_in d in
    let stopped = λ (memory : c.in_err-cover.field-0.0 ≢ NoMemory). append_here (shape_facts d) (limit_facts sites ++ build_facts c.args.nested.now sites) c.in_err-cover.field-0.0 (sym c.in_err-cover.ensures.facts) in search rules

pub returns-in_err-limits-clause-facts : goal.returns-in_err-limits-clause-facts
returns-in_err-limits-clause-facts c =
    let d = Some (view c.args.value.now) in
    let sites = sites_in d in
    let stopped = λ (memory : c.in_err-limits.field-0.0 ≢ NoMemory).
    append_past (shape_facts d) (limit_facts sites ++ build_facts c.args.nested.now sites) (sym c.in_ok-cover.ensures.facts)
    ∙ append_here (limit_facts sites) (build_facts c.args.nested.now sites) c.in_err-limits.field-0.0 (ap (λ ss. first (limit_facts ss)) (sym c.in_ok-cover.ensures.written) ∙ sym c.in_err-limits.ensures.facts) in search rules

pub returns-in_err-built-clause-facts : goal.returns-in_err-built-clause-facts
returns-in_err-built-clause-facts c =
    let d = Some (view c.args.value.now) in
    let sites = sites_in d in
    let stopped = λ (memory : c.in_err-built.field-0.0 ≢ NoMemory).
    append_past (shape_facts d) (limit_facts sites ++ build_facts c.args.nested.now sites) (sym c.in_ok-cover.ensures.facts)
    ∙ append_past (limit_facts sites) (build_facts c.args.nested.now sites) (ap (λ ss. first (limit_facts ss)) (sym c.in_ok-cover.ensures.written) ∙ sym c.in_ok-limits.ensures.facts)
    ∙ (ap (λ ss. first (build_facts c.args.nested.now ss)) (sym c.in_ok-cover.ensures.written) ∙ c.in_err-built.ensures.facts memory) in search rules

pub returns-clause-facts : goal.returns-clause-facts
returns-clause-facts c =
    let d = Some (view c.args.value.now) in
    let sites = sites_in d in
    append_past (shape_facts d) (limit_facts sites ++ build_facts c.args.nested.now sites) (sym c.in_ok-cover.ensures.facts)
    ∙ append_past (limit_facts sites) (build_facts c.args.nested.now sites) (ap (λ ss. first (limit_facts ss)) (sym c.in_ok-cover.ensures.written) ∙ sym c.in_ok-limits.ensures.facts)
    ∙ (ap (λ ss. first (build_facts c.args.nested.now ss)) (sym c.in_ok-cover.ensures.written) ∙ c.in_ok-built.ensures.facts)

pub returns-clause-cover : goal.returns-clause-cover
returns-clause-cover c = c.in_ok-built.ensures.cover ∙ ap (cover_in c.args.nested.now) c.in_ok-cover.ensures.written
