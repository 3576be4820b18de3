-- What a `StdSource` is made of.
use Rattle.std.specs.Prelude.{ℕ, Bool, true, false, IsTrue, List, [], Option, Some, None, refl}
use Rattle.std.specs.Option.{option_map}
use Rattle.std.specs.Io.KnownBytes.{IsAtEnd}
use Rattle.std.proofs.lemmas.Bool.{false≢true}
use Rattle.dcr_base.specs.declared.std_source.StdSource.{StdSource}

abbrev pub reader_of : {R : Type 0} → StdSource R → R
reader_of source = source.reader

-- a read into room has given nothing
abbrev pub HasEnded : {R : Type 0} → StdSource R → Type 0
HasEnded source = IsTrue source.has_ended

-- what is left of known bytes: none at the end
abbrev pub left_at : Bool → Option (List ℕ) → Option (List ℕ)
left_at true known = option_map (λ _. []) known
left_at false known = known

-- at the end none is left
pub left_at_end : (ended : Bool) (known : Option (List ℕ)) → IsTrue ended → IsAtEnd (left_at ended known)
left_at_end true None ended = tt
left_at_end true (Some xs) ended = refl
left_at_end false known ended = absurd (false≢true ended)

-- the bytes that the reader has left, until the source has ended
abbrev pub left_of : {R : Type 0} → (R → Option (List ℕ)) → StdSource R → Option (List ℕ)
left_of rest source = left_at source.has_ended (rest source.reader)

-- how many reads have failed, or 2^64 - 1 where there were more
abbrev pub failed_reads : {R : Type 0} → StdSource R → ℕ
failed_reads source = source.faults
