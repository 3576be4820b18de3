-- What a `DeskShare` stands for.
use Rattle.std.specs.Prelude.{◌<◌}
use Rattle.dcr_serve.specs.ShareValue.{ShareValue}
use Rattle.dcr_serve.specs.declared.share.DeskShare.TheInside.{Inside}

abbrev pub share_of : {N : Type 0} → Inside N → ShareValue
share_of s = record { parts = s.share.parts; taken = s.share.amount }

abbrev pub HasAPart : {N : Type 0} → Inside N → Type 0
HasAPart s = 0 < s.share.parts
