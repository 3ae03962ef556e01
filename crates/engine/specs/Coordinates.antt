-- Coordinates, the fractions between them, and holding.
use Rattle.std.specs.Prelude.{ℕ, Bool, if◌then◌else◌, ◌&&◌, ℤ, pos, negsuc, neg_ℤ, ◌≤ℤ◌, int_le, int_lt}
use Rattle.engine.specs.Fraction.{Fraction, whole, ◌≤ᶠ◌, ltᶠ}

-- the least and the greatest coordinate, -8192 and 8191
abbrev pub lowest : ℤ
lowest = negsuc 8191

abbrev pub highest : ℤ
highest = pos 8191

-- a coordinate is a whole number from -8192 to 8191
pub record Coordinate (x : ℤ) : Type 0 where
  pub low : lowest ≤ℤ x
  pub high : x ≤ℤ highest

-- the test for it
abbrev pub coordinate : ℤ → Bool
coordinate x = int_le lowest x && int_le x highest

-- a fraction from -8192 to 8191
pub record Within (q : Fraction) : Type 0 where
  pub low : whole lowest ≤ᶠ q
  pub high : q ≤ᶠ whole highest

-- x held to a..b: a below a, b above b, otherwise x
abbrev pub hold : ℤ → ℤ → ℤ → ℤ
hold a b x = if int_lt x a then a else if int_lt b x then b else x

-- the same of a fraction
abbrev pub holdᶠ : ℤ → ℤ → Fraction → Fraction
holdᶠ a b q = if ltᶠ q (whole a) then whole a else if ltᶠ (whole b) q then whole b else q

-- the greatest distance of two coordinates: no rise, radius or shift need pass it
abbrev pub furthest : ℕ
furthest = 16383

-- a shift is held to -16383..16383
abbrev pub least_shift : ℤ
least_shift = neg_ℤ (pos furthest)

abbrev pub greatest_shift : ℤ
greatest_shift = pos furthest

abbrev pub held_shift : ℤ → ℤ
held_shift c = hold least_shift greatest_shift c
