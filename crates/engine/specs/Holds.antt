-- Holding keeps the order and widens no distance. `held_` lemmas are of fractions, `hold_` lemmas of whole numbers.
use Rattle.std.specs.Prelude.{◌≡◌, ℕ, Bool, true, false, cond, ℤ, pos, ◌*ℤ◌, ◌≤ℤ◌, int_lt, refl}
use Rattle.std.proofs.Common.{arith}
use Rattle.std.proofs.lemmas.Int.{ints}
use Rattle.engine.specs.Fraction.{Fraction, whole, ◌+ᶠ◌, ◌≤ᶠ◌, ltᶠ}
use Rattle.engine.specs.Coordinates.{Coordinate, Within, hold, holdᶠ, lowest, highest}
use Rattle.engine.specs.declared.band.Band.{Band}
use Rattle.engine.specs.Orders.{≤ᶠ_refl, ≤ᶠ_trans, whole-≤, ltᶠ_yes, ltᶠ_no}
use Rattle.engine.specs.Sums.{+ᶠ_up, +ᶠ_both}

module _ (a b : ℤ) (band : a ≤ℤ b) where
  -- what holds of a, of b, and of q where it lies between
  held_cases : (P : Fraction → Type 0) (q : Fraction) → (q ≤ᶠ whole a → P (whole a)) → (whole b ≤ᶠ q → P (whole b))
      → (whole a ≤ᶠ q → q ≤ᶠ whole b → P q) → P (holdᶠ a b q)
  held_cases P q f g h = go (ltᶠ q (whole a)) (ltᶠ (whole b) q) refl refl
    where
      go : (s t : Bool) → ltᶠ q (whole a) ≡ s → ltᶠ (whole b) q ≡ t → P (cond s (whole a) (cond t (whole b) q))
      go true t e d = f (ltᶠ_yes q (whole a) e)
      go false true e d = g (ltᶠ_yes (whole b) q d)
      go false false e d = h (ltᶠ_no q (whole a) e) (ltᶠ_no (whole b) q d)

  held_low : (q : Fraction) → whole a ≤ᶠ holdᶠ a b q
  held_low q = held_cases (λ r. whole a ≤ᶠ r) q (λ _. ≤ᶠ_refl (whole a)) (λ _. whole-≤ a b band) (λ h _. h)

  held_high : (q : Fraction) → holdᶠ a b q ≤ᶠ whole b
  held_high q = held_cases (λ r. r ≤ᶠ whole b) q (λ _. whole-≤ a b band) (λ _. ≤ᶠ_refl (whole b)) (λ _ h. h)

  -- what is at or above a and q is at or above q held
  held_least : (q r : Fraction) → whole a ≤ᶠ r → q ≤ᶠ r → holdᶠ a b q ≤ᶠ r
  held_least q r h k = held_cases (λ s. s ≤ᶠ r) q (λ _. h) (λ j. ≤ᶠ_trans j k) (λ _ _. k)

  -- holding does not widen a distance
  pub held_near : (p q : Fraction) (n : ℕ) → p ≤ᶠ q +ᶠ whole (pos n) → holdᶠ a b p ≤ᶠ holdᶠ a b q +ᶠ whole (pos n)
  held_near p q n h =
      held_cases (λ r. holdᶠ a b p ≤ᶠ r +ᶠ whole (pos n)) q
      (λ j. held_least p _ (+ᶠ_up (whole a) n) (≤ᶠ_trans h (+ᶠ_both (whole (pos n)) j)))
      (λ _. ≤ᶠ_trans (held_high p) (+ᶠ_up (whole b) n))
      (λ j _. held_least p _ (≤ᶠ_trans j (+ᶠ_up q n)) h)

  pub held_mono : (p q : Fraction) → p ≤ᶠ q → holdᶠ a b p ≤ᶠ holdᶠ a b q
  held_mono p q h =
      held_cases (λ r. holdᶠ a b p ≤ᶠ r) q
      (λ j. held_least p _ (≤ᶠ_refl (whole a)) (≤ᶠ_trans h j))
      (λ _. held_high p)
      (λ j _. held_least p _ j h)

  pub held_within : Coordinate a → Coordinate b → (q : Fraction) → Within (holdᶠ a b q)
  held_within ca cb q = record {
    low = ≤ᶠ_trans (whole-≤ lowest a ca.low) (held_low q);
    high = ≤ᶠ_trans (held_high q) (whole-≤ b highest cb.high);
  }

  -- the same of whole numbers
  pub hold_mono : (x y : ℤ) → x ≤ℤ y → hold a b x ≤ℤ hold a b y
  hold_mono x y h = grind (arith, ints)

  pub hold_low : (x : ℤ) → a ≤ℤ hold a b x
  hold_low x = grind (arith, ints)

  pub hold_high : (x : ℤ) → hold a b x ≤ℤ b
  hold_high x = grind (arith, ints)

  pub hold_fits : Coordinate a → Coordinate b → (x : ℤ) → Coordinate (hold a b x)
  hold_fits ca cb x = record { low = grind (arith, ints); high = grind (arith, ints) }

times_one : (x : ℤ) → x *ℤ pos 1 ≡ x
times_one x = omega (arith, ints)

-- holding a whole number is holding its fraction
pub hold_whole : (a b x : ℤ) → holdᶠ a b (whole x) ≡ whole (hold a b x)
hold_whole a b x = go (int_lt x a) (int_lt b x) refl refl
  where
    each : (s t : Bool) → cond s (whole a) (cond t (whole b) (whole x)) ≡ whole (cond s a (cond t b x))
    each true t = refl
    each false true = refl
    each false false = refl

    go : (s t : Bool) → int_lt x a ≡ s → int_lt b x ≡ t → holdᶠ a b (whole x) ≡ whole (cond s a (cond t b x))
    go s t e d = rw (times_one x, times_one a, times_one b, e, d) (each s t)

-- a coordinate is held to itself, and what is held to the coordinates is one
pub hold_inside : (x : ℤ) → Coordinate x → hold lowest highest x ≡ x
hold_inside x h = grind (arith, ints)

pub hold_coordinate : (x : ℤ) → Coordinate (hold lowest highest x)
hold_coordinate x = record { low = grind (arith, ints); high = grind (arith, ints) }

-- both ends of a band are coordinates
pub band_ends : (b : Band) → Coordinate b.lo × Coordinate b.hi
band_ends b =
    let low : lowest ≤ℤ b.lo = b.low in
    let order : b.lo ≤ℤ b.hi = b.order in
    let high : b.hi ≤ℤ highest = b.high in
    (record { low = low; high = omega (arith, ints) }, record { low = omega (arith, ints); high = high })
