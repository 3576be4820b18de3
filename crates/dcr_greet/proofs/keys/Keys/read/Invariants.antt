-- The lines so far are those of the first sites.
use Rattle.std.proofs.Common.{◌≡◌, ◌+◌, take}
use Rattle.dcr_greet.specs.KeyText.{BeginsWithLines}
use Rattle.dcr_greet.proofs.keys.Keys.read.Given as goal

abbrev pub invariant-loop-site : goal.invariant-loop-site
invariant-loop-site l = record {
  right : BeginsWithLines (take l.site-index l.site-items) l.fn.text l.keys.items l.rest;
  line : l.line ≡ l.site-index + 1;
}
