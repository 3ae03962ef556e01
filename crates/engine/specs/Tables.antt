-- Knot tables as curves: the value V, the exact value E, the rise S and the radius R of steps, straight lines and
-- monotone cubics through knots. The knots are given by index: `k i` for i from 0 to `top`. Piece i goes from knot i to
-- knot i + 1; h is its width and D its height.
use Rattle.std.specs.Prelude.{◌≡◌, ℕ, zero, suc, ◌+◌, ◌-◌, ◌*◌, ◌<◌, slice_index, min, max, if◌then◌else◌, ◌||◌, List, length, ℤ, pos, ◌+ℤ◌, ◌-ℤ◌, ◌*ℤ◌, ◌==◌, int_le, unsigned_abs}
use Rattle.engine.specs.Coordinates.{furthest}
use Rattle.engine.specs.Curves.{Meaning, meaning}
use Rattle.engine.specs.Fraction.{Fraction, whole, ◌÷◌, ◌+ᶠ◌, ◌-ᶠ◌, ◌*ᶠ◌, ◌/ᶠ◌, leᶠ, floorᶠ, ceilᶠ, roundᶠ}
use Rattle.engine.specs.declared.knot.Knot.{Knot}
use Rattle.engine.specs.Pieces.{width, height, piecewise, line_from}
use Rattle.engine.specs.Knots.{knot_at}
use Rattle.engine.specs.declared.kind.Kind.{Kind}
use Rattle.engine.specs.declared.kind.Kind.TheVariants.{Step, Line, Cubic}

-- ---- slopes

-- the secant of piece i: D / h
unfoldable pub secant : (ℕ → Knot) → ℕ → Fraction
secant k i = pos (height k i) ÷ width k i

-- the mean of the secants of a piece of width ha and height Da and of one of width hb and height Db, by Fritsch and
-- Butland: its numerator and its denominator
abbrev pub mean_top : (ha Da hb Db : ℕ) → ℕ
mean_top ha Da hb Db = 3 * (ha + hb) * Da * Db

abbrev pub mean_bottom : (ha Da hb Db : ℕ) → ℕ
mean_bottom ha Da hb Db = (2 * hb + ha) * ha * Db + (hb + 2 * ha) * hb * Da

-- m at a knot between two such pieces: 0 where either is flat, otherwise that mean
unfoldable pub inner_slope : (ha Da hb Db : ℕ) → Fraction
inner_slope ha Da hb Db =
    if Da == 0 || Db == 0 then whole (pos 0) else pos (mean_top ha Da hb Db) ÷ mean_bottom ha Da hb Db

-- m at an end knot, with piece i next to it: the secant of that piece
unfoldable pub end_slope : (ℕ → Knot) → ℕ → Fraction
end_slope k i = secant k i

-- m at knot i
unfoldable pub slope : (ℕ → Knot) → (top i : ℕ) → Fraction
slope k top zero = end_slope k zero
slope k top (suc i) =
    if suc i == top then end_slope k i
    else inner_slope (width k i) (height k i) (width k (suc i)) (height k (suc i))

-- the stored slope M: the greatest whole number not above 2048 m
abbrev pub stored : Fraction → ℤ
stored m = floorᶠ (whole (pos 2048) *ᶠ m)

-- m and M at knot i of a list, and an M for each knot
abbrev pub slope_of : List Knot → ℕ → Fraction
slope_of ks i = slope (knot_at ks) (length ks - 1) i

abbrev pub stored_at : List Knot → ℕ → ℤ
stored_at ks i = stored (slope_of ks i)

abbrev pub Slopes : List Knot → List ℕ → Type 0
Slopes ks slopes = (i : ℕ) → i < length ks → pos (slice_index slopes i) ≡ stored_at ks i

-- ---- cubic pieces, from the knot s

-- E, with the slopes m and m' at the ends and u = q - x:
-- y + (D u² (3h - 2u) / h³ + m u (h - u)² / h² - m' u² (h - u) / h²)
unfoldable pub cubic_exact : Knot → (h D : ℕ) (m m' : Fraction) → Fraction → Fraction
cubic_exact s h D m m' q =
    let u : Fraction = q -ᶠ whole s.x in
    let v : Fraction = whole (pos h) -ᶠ u in
    whole s.y
    +ᶠ ((whole (pos D) *ᶠ (u *ᶠ u) *ᶠ (whole (pos (3 * h)) -ᶠ whole (pos 2) *ᶠ u)) /ᶠ (h * h * h)
    +ᶠ (m *ᶠ u *ᶠ (v *ᶠ v)) /ᶠ (h * h)
    -ᶠ (m' *ᶠ (u *ᶠ u) *ᶠ v) /ᶠ (h * h))

-- N, with the stored slopes M and M': 2048 D u² (3h - 2u) + M h u (h - u)² - M' h u² (h - u)
unfoldable pub cubic_N : (h D : ℕ) (M M' u : ℤ) → ℤ
cubic_N h D M M' u =
    let v : ℤ = pos h -ℤ u in
    pos 2048 *ℤ pos D *ℤ (u *ℤ u) *ℤ (pos (3 * h) -ℤ pos 2 *ℤ u)
    +ℤ M *ℤ pos h *ℤ u *ℤ (v *ℤ v)
    -ℤ M' *ℤ pos h *ℤ (u *ℤ u) *ℤ v

-- V: y plus N / (2048 h³) rounded
unfoldable pub cubic_value : Knot → (h D : ℕ) (M M' : ℤ) → ℤ → ℤ
cubic_value s h D M M' x = s.y +ℤ roundᶠ (cubic_N h D M M' (x -ℤ s.x) ÷ (2048 * (h * h * h)))

-- ---- the exact value

-- from knot i on, up to the next; from the last on, its y
unfoldable pub exact_from : Kind → (ℕ → Knot) → (top i : ℕ) → Fraction → Fraction
exact_from Step k top i q = whole (k i).y
exact_from Line k top i q = line_from k top i q
exact_from Cubic k top i q =
    if i == top then whole (k i).y
    else cubic_exact (k i) (width k i) (height k i) (slope k top i) (slope k top (suc i)) q

-- by the last knot at or below the argument; below the first, its y
unfoldable pub table_exact : Kind → (ℕ → Knot) → ℕ → Fraction → Fraction
table_exact kind k top = piecewise (λ i q. leᶠ (whole (k i).x) q) (λ q. whole (k 0).y) (exact_from kind k top) top

-- ---- the value

-- a line rounds its exact value
unfoldable pub value_from : Kind → (ℕ → Knot) → (top i : ℕ) → ℤ → ℤ
value_from Step k top i x = (k i).y
value_from Line k top i x = roundᶠ (line_from k top i (whole x))
value_from Cubic k top i x =
    if i == top then (k i).y
    else cubic_value (k i) (width k i) (height k i) (stored (slope k top i)) (stored (slope k top (suc i))) x

unfoldable pub table_value : Kind → (ℕ → Knot) → ℕ → ℤ → ℤ
table_value kind k top = piecewise (λ i x. int_le (k i).x x) (λ x. (k 0).y) (value_from kind k top) top

-- ---- the rise and the radius

-- the greatest of f 0 .. f (n - 1)
unfoldable pub greatest : (ℕ → ℕ) → ℕ → ℕ
greatest f zero = 0
greatest f (suc n) = max (f n) (greatest f n)

-- a fraction that is not negative, rounded up
abbrev pub round_up : Fraction → ℕ
round_up q = unsigned_abs (ceilᶠ q)

-- the greatest D; the greatest D / h rounded up; the greatest 3D / h rounded up, held to 0..16383
unfoldable pub table_rise : Kind → (ℕ → Knot) → ℕ → ℕ
table_rise Step k top = greatest (height k) top
table_rise Line k top = greatest (λ i. round_up (secant k i)) top
table_rise Cubic k top = min (greatest (λ i. round_up (pos (3 * height k i) ÷ width k i)) top) furthest

abbrev pub table_radius : Kind → ℕ
table_radius Step = 0
table_radius Line = 1
table_radius Cubic = 1

-- ---- the table of a kind through a list of knots

abbrev pub table_curve : Kind → List Knot → Meaning
table_curve kind ks =
    let k : ℕ → Knot = knot_at ks in
    let top : ℕ = length ks - 1 in
    meaning (table_value kind k top) (table_exact kind k top) (table_rise kind k top) (table_radius kind)
