use Rattle.std.proofs.Common.{◌≡◌, length, take}
use Rattle.dcr_greet.specs.Hmac.{crossed}
use Rattle.dcr_greet.proofs.mac.crossed.Given as goal

abbrev pub invariant-bytes : goal.invariant-bytes
invariant-bytes l = (length l.made ≡ 64) × (take l.i l.made ≡ crossed l.byte (take l.i l.block))
