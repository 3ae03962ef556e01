-- What a curve means, the rules that every curve keeps, the bare curve and the layers.
use Rattle.std.specs.Prelude.{ℕ, ◌+◌, ◌*◌, ◌≤◌, min, ℤ, pos, ◌+ℤ◌, ◌≤ℤ◌}
use Rattle.engine.specs.Fraction.{Fraction, whole, ◌+ᶠ◌, ◌≤ᶠ◌}
use Rattle.engine.specs.Coordinates.{Coordinate, Within, lowest, highest, hold, holdᶠ, furthest}

-- A curve means a whole value V at each coordinate, an exact value E at each fraction, a rise S (E grows by at most
-- S × n over a width of n, for whole n) and a radius R (V lies within R of E).
pub record Meaning : Type 0 where
  pub V : ℤ → ℤ
  pub E : Fraction → Fraction
  pub S : ℕ
  pub R : ℕ

-- the meaning with these four parts
abbrev pub meaning : (ℤ → ℤ) → (Fraction → Fraction) → ℕ → ℕ → Meaning
meaning v e s r = record { V = v; E = e; S = s; R = r }

-- The rules that every maker of a curve owes.
pub record Rules (m : Meaning) : Type 0 where
  -- the rise and the radius are whole numbers from 0 to 16383
  pub rise_fits : m.S ≤ furthest
  pub radius_fits : m.R ≤ furthest
  -- the value is a coordinate, and does not fall
  pub value_fits : (x : ℤ) → Coordinate x → Coordinate (m.V x)
  pub value_mono : (x x' : ℤ) → Coordinate x → Coordinate x' → x ≤ℤ x' → m.V x ≤ℤ m.V x'
  -- the exact value is a fraction in range, and does not fall
  pub exact_fits : (q : Fraction) → Within q → Within (m.E q)
  pub exact_mono : (p q : Fraction) → Within p → Within q → p ≤ᶠ q → m.E p ≤ᶠ m.E q
  -- from p to at most p + n, for a whole number n, the exact value rises by at most S × n
  pub exact_rise : (n : ℕ) (p q : Fraction) → Within p → Within q → p ≤ᶠ q → q ≤ᶠ p +ᶠ whole (pos n)
      → m.E q ≤ᶠ m.E p +ᶠ whole (pos (m.S * n))
  -- the value is at most R below the exact value, and at most R above it
  pub value_low : (x : ℤ) → Coordinate x → m.E (whole x) ≤ᶠ whole (m.V x) +ᶠ whole (pos m.R)
  pub value_high : (x : ℤ) → Coordinate x → whole (m.V x) ≤ᶠ m.E (whole x) +ᶠ whole (pos m.R)

-- ---- the bare curve: every reading is its own value

abbrev pub bare : Meaning
bare = meaning (λ x. x) (λ q. q) 1 0

-- ---- the layers

-- g after f: the value of f is the argument of g
abbrev pub chain : Meaning → Meaning → Meaning
chain g f =
    meaning (λ x. g.V (f.V x)) (λ q. g.E (f.E q)) (min (g.S * f.S) furthest) (min (g.R + g.S * f.R) furthest)

-- the curve below held to the band a..b
abbrev pub clamp : ℤ → ℤ → Meaning → Meaning
clamp a b m = meaning (λ x. hold a b (m.V x)) (λ q. holdᶠ a b (m.E q)) m.S m.R

-- the curve below plus c
abbrev pub plus : ℤ → Meaning → Meaning
plus c m = meaning (λ x. m.V x +ℤ c) (λ q. m.E q +ᶠ whole c) m.S m.R

-- the same held to the coordinates
abbrev pub offset : ℤ → Meaning → Meaning
offset c m = clamp lowest highest (plus c m)
