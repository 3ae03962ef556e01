-- Curves made of pieces between knots. The knots are given by index: `k i` for i from 0 to `top`.
use Rattle.std.specs.Prelude.{ℕ, zero, suc, Bool, if◌then◌else◌, pos, ◌-ℤ◌, ◌==◌, unsigned_abs}
use Rattle.engine.specs.Fraction.{Fraction, whole, ◌+ᶠ◌, ◌-ᶠ◌, ◌*ᶠ◌, ◌/ᶠ◌, leᶠ}
use Rattle.engine.specs.declared.knot.Knot.{Knot}

-- neighbouring knots are at most 4096 apart
abbrev pub widest : ℕ
widest = 4096

-- the width h and the height D of the piece from knot i to knot i + 1
unfoldable pub width : (ℕ → Knot) → ℕ → ℕ
width k i = unsigned_abs ((k (suc i)).x -ℤ (k i).x)

unfoldable pub height : (ℕ → Knot) → ℕ → ℕ
height k i = unsigned_abs ((k (suc i)).y -ℤ (k i).y)

-- The last of the knots 0..top at or below the argument gives the value: `from i` speaks for knot i and the piece after
-- it, and `first` for an argument that is below every knot.
unfoldable pub piecewise : {Q A : Type 0} → (ℕ → Q → Bool) → (Q → A) → (ℕ → Q → A) → ℕ → Q → A
piecewise below first from zero q = if below zero q then from zero q else first q
piecewise below first from (suc i) q = if below (suc i) q then from (suc i) q else piecewise below first from i q

-- the straight piece of width h and height D from the knot s: y + D × (q - x) / h
unfoldable pub line_exact : Knot → (h D : ℕ) → Fraction → Fraction
line_exact s h D q = whole s.y +ᶠ (whole (pos D) *ᶠ (q -ᶠ whole s.x)) /ᶠ h

-- from knot i on, the straight piece to the next knot; from the last on, its y
unfoldable pub line_from : (ℕ → Knot) → (top i : ℕ) → Fraction → Fraction
line_from k top i q = if i == top then whole (k i).y else line_exact (k i) (width k i) (height k i) q

-- straight lines through the knots, flat beyond the first and the last
unfoldable pub line_through : (ℕ → Knot) → ℕ → Fraction → Fraction
line_through k top = piecewise (λ i q. leᶠ (whole (k i).x) q) (λ q. whole (k 0).y) (line_from k top) top
