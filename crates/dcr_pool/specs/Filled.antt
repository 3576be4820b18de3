-- A block as contracts see it.
use Rattle.std.specs.Prelude.{ℕ, List, [], refl}
use Rattle.std.specs.Coded.{Coded, code_by, coded×, coded_ℕ, coded_list}

pub record Filled (T : Type 0) : Type 0 where
  pub entries : List T
  -- how many entries there may be
  pub room : ℕ

-- a block is stored as the pair of its fields
abbrev pub filled_code : {T : Type 0} → Coded T → Coded (Filled T)
filled_code {T} code =
    code_by
    (List T × ℕ)
    (coded× (coded_list code) coded_ℕ)
    (λ b. (b.entries, b.room))
    (λ p. record { entries = p.0; room = p.1 })
    (λ _. refl)

-- the block with this room and no entry
abbrev pub empty_block : {T : Type 0} → ℕ → Filled T
empty_block room = record { entries = []; room = room }
