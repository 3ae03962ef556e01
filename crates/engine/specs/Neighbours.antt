-- Two neighbouring knots of a table, and the piece between them.
use Rattle.std.specs.Prelude.{ℕ, ◌*◌, ◌≤◌, ℤ, pos, ◌+ℤ◌, ◌-ℤ◌, ◌≤ℤ◌, ◌<ℤ◌, unsigned_abs}
use Rattle.engine.specs.Coordinates.{Coordinate}
use Rattle.engine.specs.Fraction.{whole, ◌÷◌, roundᶠ}
use Rattle.engine.specs.Pieces.{widest, line_exact}
use Rattle.engine.specs.declared.knot.Knot.{Knot}
use Rattle.engine.specs.Tables.{cubic_value, round_up}
use Rattle.engine.specs.declared.kind.Kind.{Kind}
use Rattle.engine.specs.declared.kind.Kind.TheVariants.{Step, Line, Cubic}

-- what the rules of a table say of two neighbours
pub record Neighbours (p q : Knot) : Type 0 where
  pub x_start : Coordinate p.x
  pub y_start : Coordinate p.y
  pub x_end : Coordinate q.x
  pub y_end : Coordinate q.y
  pub rises : p.x <ℤ q.x
  pub near : q.x ≤ℤ (p.x +ℤ pos widest)
  pub upward : p.y ≤ℤ q.y

-- its width h and its height D
abbrev pub piece_width : Knot → Knot → ℕ
piece_width p q = unsigned_abs (q.x -ℤ p.x)

abbrev pub piece_height : Knot → Knot → ℕ
piece_height p q = unsigned_abs (q.y -ℤ p.y)

-- its value, with the stored slopes M and M' at its ends
abbrev pub piece_value : Kind → (p q : Knot) (M M' : ℤ) → ℤ → ℤ
piece_value Step p q M M' x = p.y
piece_value Line p q M M' x = roundᶠ (line_exact p (piece_width p q) (piece_height p q) (whole x))
piece_value Cubic p q M M' x = cubic_value p (piece_width p q) (piece_height p q) M M' x

-- its rise, before it is held
abbrev pub piece_rise : Kind → (p q : Knot) → ℕ
piece_rise Step p q = piece_height p q
piece_rise Line p q = round_up (pos (piece_height p q) ÷ piece_width p q)
piece_rise Cubic p q = round_up (pos (3 * piece_height p q) ÷ piece_width p q)

-- a stored slope of at most three secants: M h ≤ 3 × 2048 D
abbrev pub Gentle : (p q : Knot) → ℕ → Type 0
Gentle p q M = M * piece_width p q ≤ 6144 * piece_height p q
