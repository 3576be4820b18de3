-- The image is one that a crash after the calls so far may leave.
use Rattle.std.proofs.Common.{◌≡◌, take}
use Rattle.dcr_fakes.specs.DiskLog.{LeftAfter, content_after}
use Rattle.dcr_fakes.proofs.image.torn_image.Given as goal

abbrev pub invariant-loop-call : goal.invariant-loop-call
invariant-loop-call l = record {
  content : l.content.items ≡ content_after l.first (take l.call-index l.calls);
  left : LeftAfter l.first (take l.call-index l.calls) l.image.items;
}
