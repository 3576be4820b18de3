-- Equations of truth values.
use Rattle.std.proofs.Common.{◌≡◌, Bool, true, false, not, ◌&&◌, ◌||◌, refl, sym, ap, ◌∙◌}

pub and_true : (a : Bool) → (a && true) ≡ a
and_true true = refl
and_true false = refl

pub and_false : (a : Bool) → (a && false) ≡ false
and_false true = refl
and_false false = refl

pub or_false : (a : Bool) → (a || false) ≡ a
or_false true = refl
or_false false = refl

pub or_true : (a : Bool) → (a || true) ≡ true
or_true true = refl
or_true false = refl

pub or_assoc : (a b c : Bool) → ((a || b) || c) ≡ (a || (b || c))
or_assoc true b c = refl
or_assoc false b c = refl

pub or_comm : (a b : Bool) → (a || b) ≡ (b || a)
or_comm true b = sym (or_true b)
or_comm false b = sym (or_false b)

pub and_comm : (a b : Bool) → (a && b) ≡ (b && a)
and_comm true b = sym (and_true b)
and_comm false b = sym (and_false b)

-- what is cut by a test before is what is cut by it after
pub cut_or : (t a x : Bool) → ((a && t) || (x && t)) ≡ ((a || x) && t)
cut_or true true x = refl
cut_or true false x = refl
cut_or false true x = and_false x
cut_or false false x = and_false x ∙ sym (and_false x)

pub cut_pending : (t x q c r : Bool) → ((((x && t) && not q) && not (c && t)) || (r && t)) ≡ ((((x && not q) && not c) || r) && t)
cut_pending true x q c r =
    ap (λ y. ((y && not q) && not (c && true)) || (r && true)) (and_true x)
    ∙ ap (λ y. ((x && not q) && not y) || (r && true)) (and_true c)
    ∙ ap (λ y. ((x && not q) && not c) || y) (and_true r)
    ∙ sym (and_true (((x && not q) && not c) || r))
cut_pending false x q c r =
    ap (λ y. ((y && not q) && not (c && false)) || (r && false)) (and_false x)
    ∙ and_false r ∙ sym (and_false (((x && not q) && not c) || r))

pub cut_included : (t x i d : Bool) → (((x && t) || (i && t)) && not (d && t)) ≡ (((x || i) && not d) && t)
cut_included true x i d =
    ap (λ y. (y || (i && true)) && not (d && true)) (and_true x)
    ∙ ap (λ y. (x || y) && not (d && true)) (and_true i)
    ∙ ap (λ y. (x || i) && not y) (and_true d)
    ∙ sym (and_true ((x || i) && not d))
cut_included false x i d =
    ap (λ y. (y || (i && false)) && not (d && false)) (and_false x) ∙ ap (λ y. y && not (d && false)) (and_false i)
    ∙ sym (and_false ((x || i) && not d))

-- a test that is true wherever the first is can be left out behind it
pub left_out : (r x : Bool) (f g : Bool → Bool) (u v : Bool) → (r ≡ true → u ≡ true) → (r ≡ true → v ≡ true) → ((r && (f u && g v)) ≡ (r && (f true && g true)))
left_out true x f g u v hu hv = ap (λ t. f t && g v) (hu refl) ∙ ap (λ t. f true && g t) (hv refl)
left_out false x f g u v hu hv = refl

-- where a change happens only where nothing is tracked, nothing that is tracked changes
pub kept_or : (t a x : Bool) → (t ≡ true → a ≡ false) → ((a || x) && t) ≡ (x && t)
kept_or true a x h = ap (λ b. (b || x) && true) (h refl)
kept_or false a x h = and_false (a || x) ∙ sym (and_false x)

pub kept_pending : (t x q c r : Bool) → (t ≡ true → q ≡ false) → (t ≡ true → c ≡ false) → (t ≡ true → r ≡ false) → ((((x && not q) && not c) || r) && t) ≡ (x && t)
kept_pending true x q c r hq hc hr =
    ap (λ b. (((x && not b) && not c) || r) && true) (hq refl) ∙ ap (λ b. (((x && true) && not b) || r) && true) (hc refl)
    ∙ ap (λ b. (((x && true) && true) || b) && true) (hr refl)
    ∙ ap (λ b. b && true) (or_false ((x && true) && true) ∙ and_true (x && true) ∙ and_true x)
kept_pending false x q c r hq hc hr = and_false (((x && not q) && not c) || r) ∙ sym (and_false x)

pub kept_included : (t x i d : Bool) → (t ≡ true → i ≡ false) → (t ≡ true → d ≡ false) → (((x || i) && not d) && t) ≡ (x && t)
kept_included true x i d hi hd = ap (λ b. ((x || b) && not d) && true) (hi refl) ∙ ap (λ b. ((x || false) && not b) && true) (hd refl) ∙ ap (λ b. b && true) (and_true (x || false) ∙ or_false x)
kept_included false x i d hi hd = and_false ((x || i) && not d) ∙ sym (and_false x)
