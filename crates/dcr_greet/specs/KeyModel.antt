-- A key and the keys of the sites as contracts see them.
use Rattle.std.specs.Prelude.{ℕ, List}
use Rattle.dcr_greet.specs.declared.key.Key.TheInside.{Inside}

abbrev pub key_of : Inside → List ℕ
key_of key = key.bytes
