-- Lists of rows: the row that stands at a place, and when two lists are one.
use Rattle.std.proofs.Common.{◌≡◌, ℕ, ◌<◌, Bool, true, false, length, get_or, cond, Some, None, refl, sym, ap, ◌∙◌, arith}
use Rattle.std.proofs.lemmas.List.{ext_get_or}
use Rattle.std.proofs.lemmas.List.FromFn.{length-map-range_with_len, get_or-map-range_with_len}
use Rattle.dcr_proj.specs.Rows.{row_where, rows_where}

pub length-rows_where : {A : Type 0} (n : ℕ) (test : ℕ → Bool) (row_of : ℕ → A) → length (rows_where n test row_of) ≡ n
length-rows_where n test row_of = length-map-range_with_len (row_where test row_of) 0 n

pub row_at : {A : Type 0} (n : ℕ) (test : ℕ → Bool) (row_of : ℕ → A) (e : ℕ) → e < n → get_or (rows_where n test row_of) e None ≡ row_where test row_of e
row_at n test row_of e below = get_or-map-range_with_len (row_where test row_of) 0 n e e None below (omega arith)

-- rows that agree below n, where they are there, are the same rows
pub rows-ext : {A : Type 0} (n : ℕ) (test other : ℕ → Bool) (row_of row_for : ℕ → A) → ((e : ℕ) → e < n → test e ≡ other e)
    → ((e : ℕ) → e < n → test e ≡ true → row_of e ≡ row_for e) → rows_where n test row_of ≡ rows_where n other row_for
rows-ext n test other row_of row_for tests rows =
    ext_get_or None (rows_where n test row_of) (rows_where n other row_for) (length-rows_where n test row_of ∙ sym (length-rows_where n other row_for)) (λ e l.
    let below : e < n = (let len = length-rows_where n test row_of in omega arith) in
    row_at n test row_of e below ∙ here e (test e) refl below ∙ ap (λ b. cond b (Some (row_for e)) None) (tests e below) ∙ sym (row_at n other row_for e below))
  where
    here : (e : ℕ) (b : Bool) → test e ≡ b → e < n → cond b (Some (row_of e)) None ≡ cond b (Some (row_for e)) None
    here e true passes below = ap Some (rows e below passes)
    here e false passes below = refl
