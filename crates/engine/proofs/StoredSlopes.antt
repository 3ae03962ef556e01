-- Stored slopes as the code computes them, and the products that fit 64 bits.
use Rattle.std.proofs.Common.{◌≡◌, ℕ, zero, suc, ◌+◌, ◌-◌, ◌*◌, ◌/◌, ◌<◌, ◌≤◌, true, cond, ◌||◌, eqb, ◌⊎◌, List, length, ℤ, pos, negsuc, ◌+ℤ◌, w32, SFits, sym, ap, ◌∙◌, ap₂, inl, inr, le_trans, mul-le-mul_right, mul-le-mul, mul-le-mul_left, arith}
use native.Mathlib.Decide.{dec_le}
use Rattle.std.proofs.lemmas.Bool.{eq-eqb, ne_eqb, or_left, or_right, or_from}
use Rattle.engine.specs.Fraction.{whole, ◌÷◌, ◌*ᶠ◌}
use Rattle.engine.specs.Coordinates.{Coordinate}
use Rattle.engine.specs.Pieces.{width, height}
use Rattle.engine.specs.declared.knot.Knot.{Knot}
use Rattle.engine.specs.Knots.{knot_at}
use Rattle.engine.specs.Neighbours.{Neighbours, piece_width, piece_height}
use borrow.Author.Differences.{ints}
use Rattle.engine.specs.Tables.{stored, stored_at, secant, inner_slope, end_slope, slope}

-- ---- the quotients

-- 2048 a / b, rounded down
pub stored_over : (a b : ℕ) → 0 < b → pos (2048 * a / b) ≡ stored (pos a ÷ b)
unfolding ◌*ᶠ◌
stored_over a b h = ap (λ n. pos (2048 * a / n)) same
  where
    same : b ≡ suc (1 * suc (b - 1) - 1)
    same = omega arith

pub quotient_small : (a b n : ℕ) → 0 < b → a ≤ n * b → a / b ≤ n
quotient_small a b n h l =
    elim (dec_le (a / b) n) [ yes k ↦ k | no m ↦ absurd (omega (arith, mul-le-mul_right b (over m))) ]
  where
    over : ¬ (a / b ≤ n) → suc n ≤ a / b
    over m = omega arith

module _ (ha da hb db : ℕ) where
  -- the mean of two secants, by its numerator and its denominator
  abbrev top : ℕ
  top = 3 * (ha + hb) * da * db

  abbrev bottom : ℕ
  bottom = (2 * hb + ha) * ha * db + (hb + 2 * ha) * hb * da

  -- 0 where a piece is flat
  pub mean_flat : (da ≡ 0) ⊎ (db ≡ 0) → pos 0 ≡ stored (inner_slope ha da hb db)
  unfolding inner_slope ◌*ᶠ◌
  mean_flat e = ap (λ t. stored (cond t (whole (pos 0)) (pos top ÷ bottom))) (sym flat)
    where
      flat : (eqb da 0 || eqb db 0) ≡ true
      flat = elim e [
        | inl p ↦ or_left (eqb da 0) (eqb db 0) (eq-eqb da 0 p)
        | inr p ↦ or_right (eqb da 0) (eqb db 0) (eq-eqb db 0 p)
      ]

  pub bottom_some : 0 < ha → 0 < db → 0 < bottom
  bottom_some p q = omega (arith, mul-le-mul (mul-le-mul p p) q)

  pub mean_is : 0 < ha → ¬ (da ≡ 0) → ¬ (db ≡ 0) → pos (2048 * top / bottom) ≡ stored (inner_slope ha da hb db)
  unfolding inner_slope
  mean_is p q r =
      stored_over top bottom (bottom_some p (omega arith))
      ∙ ap (λ t. stored (cond t (whole (pos 0)) (pos top ÷ bottom)))
      (sym (or_from (eqb da 0) (eqb db 0) (ne_eqb da 0 q) (ne_eqb db 0 r)))

  -- it is at most 6144 times the height before
  pub mean_small : 0 < ha → 0 < db → da ≤ 16383 → 2048 * top / bottom ≤ 6144 * 16383
  mean_small p q l =
      le_trans (quotient_small (2048 * top) bottom (6144 * da) (bottom_some p q) bound) (mul-le-mul_left 6144 l)
    where
      times : (x : ℕ) → x ≤ x * ha
      times x = omega (arith, mul-le-mul_left x p)

      bound : 2048 * top ≤ 6144 * da * bottom
      bound = omega (arith, times (6144 * ha * da * db), times (6144 * hb * da * db))

  -- both parts fit 64 bits
  pub top_fits : ha ≤ 4096 → da ≤ 16383 → hb ≤ 4096 → db ≤ 16383 → top ≤ 3 * 8192 * 16383 * 16383
  top_fits p q r s = mul-le-mul (mul-le-mul (mul-le-mul_left 3 sum) q) s
    where
      sum : ha + hb ≤ 8192
      sum = omega arith

  pub bottom_fits : ha ≤ 4096 → da ≤ 16383 → hb ≤ 4096 → db ≤ 16383
      → ((2 * hb + ha) * ha * db ≤ 12288 * 4096 * 16383) × ((hb + 2 * ha) * hb * da ≤ 12288 * 4096 * 16383)
  bottom_fits p q r s = (mul-le-mul (mul-le-mul one p) s, mul-le-mul (mul-le-mul two r) q)
    where
      one : 2 * hb + ha ≤ 12288
      one = omega arith

      two : hb + 2 * ha ≤ 12288
      two = omega arith

-- ---- the width and the height of a piece

of_coordinate : (z : ℤ) → Coordinate z → SFits w32 z
of_coordinate (pos n) c = let high = c.high in record { sfits = omega (arith, ints) }
of_coordinate (negsuc n) c = let low = c.low in record { sfits = omega (arith, ints) }

module _ {p q : Knot} (n : Neighbours p q) where
  pub wide : 0 < piece_width p q
  wide = let r = n.rises in omega (arith, ints)

  pub narrow : piece_width p q ≤ 4096
  narrow = let r = n.near in let s = n.rises in omega (arith, ints)

  pub low : piece_height p q ≤ 16383
  low =
      let l = n.y_start.low in let h = n.y_end.high in let u = n.upward in omega (arith, ints)

  -- what is no higher than the piece ends at a coordinate
  pub climbed : (r : ℕ) → r ≤ piece_height p q → Coordinate (p.y +ℤ pos r)
  climbed r l =
      let s = n.y_start.low in
      let e = n.y_end.high in
      let u = n.upward in
      record { low = omega (arith, ints); high = omega (arith, ints, l) }

  pub climbed_fits : (r : ℕ) → r ≤ piece_height p q → SFits w32 (p.y +ℤ pos r)
  climbed_fits r l =
      of_coordinate (p.y +ℤ pos r) (climbed r l)

-- ---- the stored slope at knot i of a list: at its ends, and between

-- the stored secant of the piece from p to q; the stored slope between two pieces
abbrev end_of : (p q : Knot) → ℤ
end_of p q = stored (pos (piece_height p q) ÷ piece_width p q)

abbrev inner_of : (p q r s : Knot) → ℤ
inner_of p q r s = stored (inner_slope (piece_width p q) (piece_height p q) (piece_width r s) (piece_height r s))

module _ (ks : List Knot) where
  abbrev SlopeIs : ℕ → ℕ → Type 0
  SlopeIs i r = pos r ≡ stored_at ks i

  pub slope_first : (i r : ℕ) (p q : Knot) → i ≡ 0 → p ≡ knot_at ks 0 → q ≡ knot_at ks 1 → pos r ≡ end_of p q
      → SlopeIs i r
  unfolding slope end_slope secant width height
  slope_first zero r p q e f g h = h ∙ ap₂ end_of f g
  slope_first (suc i) r p q e f g h = absurd (omega arith)

  pub slope_last : (i r : ℕ) (p q : Knot) → 0 < i → i + 1 ≡ length ks → p ≡ knot_at ks (i - 1)
      → q ≡ knot_at ks (i - 1 + 1) → pos r ≡ end_of p q → SlopeIs i r
  unfolding slope end_slope secant width height
  slope_last zero r p q l e f g h = absurd (omega arith)
  slope_last (suc i) r p q l e f g h =
      let t = eq-eqb (suc i) (length ks - 1) (omega arith) in
      let j : suc i - 1 ≡ i = omega arith in
      let n : suc i - 1 + 1 ≡ suc i = omega arith in
      rw t (h ∙ ap₂ end_of (f ∙ ap (knot_at ks) j) (g ∙ ap (knot_at ks) n))

  pub slope_inner : (i x : ℕ) (p q r s : Knot) → 0 < i → i + 1 < length ks → p ≡ knot_at ks (i - 1)
      → q ≡ knot_at ks (i - 1 + 1) → r ≡ knot_at ks i → s ≡ knot_at ks (i + 1) → pos x ≡ inner_of p q r s → SlopeIs i x
  unfolding slope width height
  slope_inner zero x p q r s l b e f g k h = absurd (omega arith)
  slope_inner (suc i) x p q r s l b e f g k h =
      let t = ne_eqb (suc i) (length ks - 1) (λ e. omega arith) in
      let j : suc i - 1 ≡ i = omega arith in
      let m : suc i - 1 + 1 ≡ suc i = omega arith in
      let n : suc i + 1 ≡ suc (suc i) = omega arith in
      rw t
      (h
      ∙ ap₂ (λ p q. inner_of p q r s) (e ∙ ap (knot_at ks) j) (f ∙ ap (knot_at ks) m)
      ∙ ap₂ (inner_of (knot_at ks i) (knot_at ks (suc i))) g (k ∙ ap (knot_at ks) n))
