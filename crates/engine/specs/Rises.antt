-- The greatest of some numbers, as the rise of a table takes it, and how high a piece can be.
use Rattle.std.specs.Prelude.{◌≡◌, ℕ, zero, suc, ◌*◌, ◌<◌, ◌≤◌}
use Rattle.std.proofs.Math.Decide.{dec_lt}
use Rattle.std.proofs.Common.{mul-le-mul_right, le_trans, arith}
use Rattle.std.proofs.lemmas.Int.{ints}
use Rattle.engine.specs.Coordinates.{furthest}
use Rattle.engine.specs.Fraction.{Fraction}
use Rattle.engine.specs.declared.knot.Knot.{Knot}
use Rattle.engine.specs.Pieces.{height}
use Rattle.engine.specs.Places.{Lawful, y_is}
use Rattle.engine.specs.Terms.{Is}
use Rattle.engine.specs.Tables.{greatest, round_up}
use Rattle.engine.specs.Rounding.{round_up_holds}

-- none of them is greater
pub greatest_at : (f : ℕ → ℕ) (n i : ℕ) → i < n → f i ≤ greatest f n
unfolding greatest
greatest_at f zero i l = absurd (omega arith)
greatest_at f (suc n) i l =
    elim (dec_lt i n) [
      | yes h ↦ omega (arith, greatest_at f n i h)
      | no m ↦ let e : i ≡ n = omega arith in rw e (omega arith)
    ]

-- and it is no greater than what none of them passes
pub greatest_below : (f : ℕ → ℕ) (b n : ℕ) → ((i : ℕ) → i < n → f i ≤ b) → greatest f n ≤ b
unfolding greatest
greatest_below f b zero h = omega arith
greatest_below f b (suc n) h = omega (arith, h n (omega arith), greatest_below f b n (λ i l. h i (omega arith)))

-- the greatest of quotients rounded up is at least each quotient a / b
pub steep : (q : ℕ → Fraction) (n i a b : ℕ) → i < n → 0 < b → Is (q i) a b → a ≤ greatest (λ i. round_up (q i)) n * b
steep q n i a b l h is =
    le_trans (round_up_holds h is) (mul-le-mul_right b (greatest_at (λ i. round_up (q i)) n i l))

-- a piece is at most 16383 high
pub low_height : (k : ℕ → Knot) (top : ℕ) → Lawful k top → (i : ℕ) → i < top → height k i ≤ furthest
low_height k top law i l =
    let e = y_is k top law i l in
    let a = law.y_fits i (omega arith) in
    let b = law.y_fits (suc i) l in
    omega (arith, ints)
