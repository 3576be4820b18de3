-- HMAC over SHA-256, as RFC 2104 has it: what shows of a message that somebody made it who knows a key.
use Rattle.std.specs.Prelude.{ℕ, ◌-◌, List, ◌++◌, length, map, replicate, bit_xor, nat_le, if◌then◌else◌}
use Rattle.sha2.specs.Sha256.{sha256}

-- a key as it is, and where it is longer than the 64 bytes of a block its digest
abbrev pub short_key : List ℕ → List ℕ
short_key key = if nat_le (length key) 64 then key else sha256 key

-- the key with zeros behind it, up to the bytes of a block
abbrev pub key_block : List ℕ → List ℕ
key_block key = short_key key ++ replicate (64 - length (short_key key)) 0

-- a block, each byte of it crossed with this one
abbrev pub crossed : ℕ → List ℕ → List ℕ
crossed byte block = map (λ b. bit_xor b byte) block

-- the digest of the outer block and of the digest of the inner block and the message
unfoldable pub hmac : List ℕ → List ℕ → List ℕ
hmac key message = sha256 (crossed 0x5c (key_block key) ++ sha256 (crossed 0x36 (key_block key) ++ message))
