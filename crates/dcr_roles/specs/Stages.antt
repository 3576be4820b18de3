-- Stages of reading: each gives what it reads, or a refusal.
use Rattle.std.specs.Prelude.{Result, Ok, Err}

abbrev pub next_stage : {A B E : Type 0} → (A → Result B E) → Result A E → Result B E
next_stage f (Ok x) = f x
next_stage f (Err e) = Err e

infixl 10 ◌>>=◌
-- the next stage, where this one gave something
abbrev pub ◌>>=◌ : {A B E : Type 0} → Result A E → (A → Result B E) → Result B E
r >>= f = next_stage f r
