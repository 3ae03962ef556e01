-- The root curve, for the flow through a nozzle.
use Rattle.std.specs.Prelude.{◌≡◌, ℕ, zero, suc, ◌*◌, ◌<◌, ◌≤◌, if◌then◌else◌, List, length, ℤ, pos, nat_le, slice_index, unsigned_abs}
use Rattle.engine.specs.Fraction.{Fraction}
use Rattle.engine.specs.Coordinates.{hold}
use Rattle.engine.specs.Curves.{Meaning, meaning}
use Rattle.engine.specs.declared.knot.Knot.{Knot}
use Rattle.engine.specs.Pieces.{line_through}

-- s is the greatest whole number whose square is at most n
pub record GreatestRoot (n s : ℕ) : Type 0 where
  pub low : s * s ≤ n
  pub greatest : (t : ℕ) → t * t ≤ n → t ≤ s

-- the greatest of 0..s whose square is at most n
unfoldable pub root_up_to : (n s : ℕ) → ℕ
root_up_to n zero = zero
root_up_to n (suc s) = if nat_le (suc s * suc s) n then suc s else root_up_to n s

-- the greatest whole number whose square is at most n
unfoldable pub root : ℕ → ℕ
root n = root_up_to n n

-- entry i: the greatest whole number whose square is at most 65536 × i
abbrev pub root_entry : ℕ → ℕ
root_entry i = root (65536 * i)

-- the value: the entry at x held to 0..1023
abbrev pub root_value : ℤ → ℤ
root_value x = pos (root_entry (unsigned_abs (hold (pos 0) (pos 1023) x)))

-- the entries as knots
abbrev pub root_knot : ℕ → Knot
root_knot i = record { x = pos i; y = pos (root_entry i) }

-- the exact value: the straight line between neighbouring entries, flat beyond
unfoldable pub root_exact : Fraction → Fraction
root_exact = line_through root_knot 1023

abbrev pub root_curve : Meaning
root_curve = meaning root_value root_exact 256 0

-- what is proved of the constant table in the code
pub record RootTable (xs : List ℕ) : Type 0 where
  pub long : length xs ≡ 1024
  pub roots : (i : ℕ) → i < 1024 → GreatestRoot (65536 * i) (slice_index xs i)
  pub rising : (i j : ℕ) → i ≤ j → j < 1024 → slice_index xs i ≤ slice_index xs j
