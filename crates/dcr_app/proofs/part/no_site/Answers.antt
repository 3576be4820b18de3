use Rattle.std.proofs.Common.{List, ℕ, codes, ◌≡◌, ◌++◌, IfOk, refl, subst}
use Rattle.std.specs.Prelude.{⊤}
use Rattle.dcr_base.specs.declared.status.Status.TheVariants.{Refused}
use Rattle.dcr_app.specs.Parted.{no_site_line}
use Rattle.dcr_app.proofs.OutsideLemmas.{any_ok, told_line}
use Rattle.dcr_app.proofs.part.no_site.Goals as goal

pub returns : goal.returns
returns g c = (
  (refl, refl),
  told_line c.and.result (λ line. line.items) (no_site_line c.args.site.now) ⊤ Refused c.tell-status.result (g.O.Sink.takes c.args.output.now) (g.O.Sink.takes c.tell-status.new.output)
      (c.and.ensures _ (subst (λ (name : List ℕ). IfOk c.and-line.result (λ line. line.items ≡ codes "refused 18 no-site " ++ name)) c.as_bytes.ensures.value (c.and-line.ensures _ c.line.ensures)))
      (any_ok c.and.result) c.tell-status.ensures,
)
