-- What the masks of an event do to a site's marks.
use Rattle.std.specs.Prelude.{ℕ, Bool, if◌then◌else◌}
use Rattle.dcr_set.specs.EventSet.{with_event, without_event, union, difference}
use Rattle.dcr_graph.specs.declared.marking.SiteMark.{SiteMark}
use Rattle.dcr_proj.specs.Rows.{EffectMasks}

-- the event is executed where that is tracked; it is pending no longer, nor is what it cancels, and then its
-- responses are; its includes are included, and then its excludes are not
abbrev pub marks_after : EffectMasks → Bool → SiteMark → ℕ → SiteMark
marks_after row tracked m e = record {
  executed = if tracked then with_event m.executed e else m.executed;
  pending = union (difference (without_event m.pending e) row.cancel) row.response;
  included = difference (union m.included row.include) row.exclude;
}
