use Rattle.std.proofs.Common.{◌≡◌, List, ℕ, set, ◌∙◌, sym, ap, subst}
use Rattle.dcr_graph.specs.Names.{AreDistinct}
use Rattle.dcr_log.specs.Gathered.{AreNoted, names_of, longer}
use Rattle.dcr_log.specs.declared.trace.Trace.{Trace}
use Rattle.dcr_log.proofs.GatheredLemmas.{names_stay}
use Rattle.dcr_log.proofs.gathering.Gathering.append.Goals as goal

-- a trace with these events in the place of another's
with_events : List Trace → ℕ → Trace → List (List ℕ) → List Trace
with_events traces k trace events = set traces k (record { name = trace.name; events = events })

pub returns-clause-gathers : goal.returns-clause-gathers
unfolding with_events
returns-clause-gathers c =
    let traces = c.args.self.now.traces.items in
    let k = c.args.place in
    let trace = c.index_mut-trace.result.now in
    let names : names_of (with_events traces k trace c.push.new.self) ≡ names_of traces =
    ap (λ (events : List (List ℕ)). names_of (with_events traces k trace events)) c.in_ok-push.ensures
    ∙ (ap (λ (t : Trace). names_of (set traces k (longer t c.args.event.now))) c.index_mut-trace.ensures.value ∙ names_stay traces k trace c.args.event.now) in
    record {
      distinct = subst AreDistinct (sym names) c.requires.gathers.distinct;
      noted = subst (AreNoted c.args.self.now.places) (sym names) c.requires.gathers.noted;
    }
