-- What the calls of a `FileDisk` do to its view.
use Rattle.std.proofs.Common.{◌≡◌, ℕ, ◌≤◌, IsTrue, List, Option, Some, length, refl, sym, ◌∙◌, ap, subst, arith}
use Rattle.std.proofs.lemmas.Bool.{false≢true}
use Rattle.dcr_base.specs.Disk.{Stays, Writes, Wrote, Torn, written}
use Rattle.dcr_base.specs.FileDisk.{is_open, content_of, view_of_file}
use Rattle.dcr_base.specs.declared.file_disk.OpenFile.{OpenFile}

-- a content that stays is one that a write may leave
pub torn_same : (at count : ℕ) (content : List ℕ) → Torn at count content content
torn_same at count content = record { before = refl; behind = refl; no_shorter = omega arith; no_longer = omega arith }

module _ (was now : Option OpenFile) (kept : IsTrue (is_open was) → now ≡ was) where
  same_content : IsTrue (is_open was) → content_of now ≡ content_of was
  same_content told = ap content_of (kept told)

  -- the file was opened where it wasn't, and nothing more
  pub stays_open : Stays (view_of_file was) (view_of_file now)
  stays_open = record {
    told = λ told. (subst (λ x. IsTrue (is_open x)) (sym (kept told)) told, same_content told);
    honest = refl;
    no_more = λ lie. absurd (false≢true lie);
    elapses = λ lie. absurd (false≢true lie);
  }

  pub writes_nothing : (at : ℕ) (bytes : List ℕ) → Writes at bytes (view_of_file was) (view_of_file now)
  writes_nothing at bytes = record {
    told = λ told. (
      subst (λ x. IsTrue (is_open x)) (sym (kept told)) told,
      subst (λ c. Torn at (length bytes) c (content_of now)) (same_content told) (torn_same at (length bytes) (content_of now)),
    );
    honest = refl;
    torn = λ lie. absurd (false≢true lie);
    elapses = λ lie. absurd (false≢true lie);
  }

  module _ (before after : OpenFile) (is : now ≡ Some before) where
    from : IsTrue (is_open was) → before.bytes.items ≡ content_of was
    from told = sym (ap content_of is) ∙ same_content told

    pub stays_same : after.bytes.items ≡ before.bytes.items → Stays (view_of_file was) (view_of_file (Some after))
    stays_same same = record {
      told = λ told. (refl, same ∙ from told);
      honest = refl;
      no_more = λ lie. absurd (false≢true lie);
      elapses = λ lie. absurd (false≢true lie);
    }

    pub writes_torn : (at : ℕ) (bytes : List ℕ) → Torn at (length bytes) before.bytes.items after.bytes.items
        → Writes at bytes (view_of_file was) (view_of_file (Some after))
    writes_torn at bytes torn = record {
      told = λ told. (refl, subst (λ c. Torn at (length bytes) c after.bytes.items) (from told) torn);
      honest = refl;
      torn = λ lie. absurd (false≢true lie);
      elapses = λ lie. absurd (false≢true lie);
    }

    pub wrote_over : (at : ℕ) (bytes : List ℕ) → at ≤ length before.bytes.items → after.bytes.items ≡ written at bytes before.bytes.items
        → Wrote at bytes (view_of_file was) (view_of_file (Some after))
    wrote_over at bytes within holds = record {
      content = before.bytes.items;
      was = λ told. sym (from told);
      within = within;
      told = refl;
      holds = holds;
    }
