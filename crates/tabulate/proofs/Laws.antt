-- A table of a lawful curve speaks for its exact curve.
use Rattle.std.proofs.Common.{◌≡◌, ℕ, suc, ◌+◌, ◌*◌, ◌<◌, Bool, true, false, if◌then◌else◌, ℤ, pos, ◌+ℤ◌, ◌≤ℤ◌, Some, None, Option, sym, refl, subst, nat_lt, arith, ltb-true, lt-ltb}
use Rattle.std.specs.Option.{option_map}
use Rattle.std.proofs.lemmas.Int.{ints}
use Rattle.std.proofs.lemmas.Option.{none-some, same_Some}
use Rattle.engine.specs.Fraction.{whole, ◌+ᶠ◌, ◌≤ᶠ◌}
use Rattle.engine.specs.Coordinates.{Coordinate}
use Rattle.engine.specs.Curves.{Meaning, Rules}
use Rattle.engine.specs.Orders.{≤ᶠ_trans, whole-≤, whole-≤_out}
use Rattle.engine.specs.Sums.{steps, whole_sum, whole_within}
use Rattle.tabulate.specs.Readings.{reading_of, span_of}
use Rattle.tabulate.specs.Tables.{row_at, Faithful}
use Rattle.tabulate.specs.declared.readings.Readings.{Readings}
use Rattle.tabulate.specs.declared.table.Row.{Row}
use Rattle.tabulate.proofs.Rows.{at, count, reading_fits, reading_inside, reading_there}

-- a curve that keeps the rules rises over n readings by at most its rise times n and twice its radius
value_rise : (m : Meaning) → Rules m → (x : ℤ) (n : ℕ) → Coordinate x → Coordinate (x +ℤ pos n)
    → m.V (x +ℤ pos n) ≤ℤ (m.V x +ℤ pos (m.S * n + 2 * m.R))
value_rise m k x n cx cy =
    whole-≤_out _ _
    (≤ᶠ_trans (subst (λ w. whole (m.V (x +ℤ pos n)) ≤ᶠ whole (m.V x) +ᶠ whole (pos w)) sum far)
    (whole_sum (m.V x) (pos (m.S * n + 2 * m.R))).1)
  where
    sum : m.R + (m.S * n + m.R) ≡ m.S * n + 2 * m.R
    sum = omega arith

    rise : m.E (whole (x +ℤ pos n)) ≤ᶠ m.E (whole x) +ᶠ whole (pos (m.S * n))
    rise =
        k.exact_rise n (whole x) (whole (x +ℤ pos n)) (whole_within x cx) (whole_within _ cy)
        (whole-≤ x (x +ℤ pos n) (omega (arith, ints))) (whole_sum x (pos n)).0

    far : whole (m.V (x +ℤ pos n)) ≤ᶠ whole (m.V x) +ᶠ whole (pos (m.R + (m.S * n + m.R)))
    far =
        steps m.R (m.S * n + m.R) _ _ _ (k.value_high _ cy)
        (steps (m.S * n) m.R _ _ _ rise (k.value_low x cx))

-- an answer under a test
picked : {A B : Type 0} (f : A → B) (t : Bool) (x : A) (y : B) → option_map f (if t then Some x else None) ≡ Some y
    → (t ≡ true) × (f x ≡ y)
picked f true x y e = (refl, same_Some _ _ e)
picked f false x y e = absurd (none-some _ e)

-- ---- the rows of any curve

module _ (V : ℤ → ℤ) (r : Readings) where
  abbrev pub row : ℕ → Option Row
  row i = option_map (row_at V) (reading_of (span_of r) i)

  -- what holds of the rows of the definition holds of each row that is answered
  pub each_row : (P : Row → Type 0) (i : ℕ) → (i < count r → P (row_at V (at r i))) → (w : Row) → row i ≡ Some w → P w
  each_row P i p w e =
      let a = picked (row_at V) (nat_lt i (count r)) (at r i) w e in subst P a.1 (p (ltb-true _ _ a.0))

  -- and of two neighbours
  both_rows : (P : Row → Row → Type 0) (i : ℕ)
      → (suc i < count r → P (row_at V (at r i)) (row_at V (at r (suc i))))
      → (w w' : Row) → row i ≡ Some w → row (suc i) ≡ Some w' → P w w'
  both_rows P i p w w' e d =
      each_row (P w) (suc i) (λ h. each_row (λ w. P w (row_at V (at r (suc i)))) i (λ _. p h) w e) w' d

-- ---- the rows of a lawful curve

module _ (m : Meaning) (k : Rules m) (r : Readings) where
  next_is : (i : ℕ) → at r (suc i) ≡ at r i +ℤ pos r.step
  next_is i = omega (arith, ints)

  steady : (i : ℕ) → suc i < count r → m.V (at r i) ≤ℤ m.V (at r (suc i))
  steady i h =
      k.value_mono _ _ (reading_fits r i (omega arith)) (reading_fits r (suc i) h) (omega (arith, ints, next_is i))

  gentle : (i : ℕ) → suc i < count r → m.V (at r (suc i)) ≤ℤ (m.V (at r i) +ℤ pos (m.S * r.step + 2 * m.R))
  gentle i h =
      subst (λ x. m.V x ≤ℤ (m.V (at r i) +ℤ pos (m.S * r.step + 2 * m.R))) (sym (next_is i))
      (value_rise m k (at r i) r.step (reading_fits r i (omega arith))
      (subst Coordinate (next_is i) (reading_fits r (suc i) h)))

  pub faithful : Faithful m.E m.S m.R (span_of r) (count r) (row m.V r)
  faithful = record {
    counted = λ i h. (row_at m.V (at r i), there i h);
    below_count = λ i. each_row m.V r (λ _. i < count r) i (λ h. h);
    there = λ i h. (row_at m.V (at r i), there i (reading_there r i h));
    inside = λ i. each_row m.V r (λ w. w.reading ≤ℤ r.band.hi) i (reading_inside r i);
    reads = λ i. each_row m.V r (λ w. w.reading ≡ at r i) i (λ _. refl);
    near_low =
        λ i. each_row m.V r (λ w. m.E (whole w.reading) ≤ᶠ whole w.value +ᶠ whole (pos m.R)) i
        (λ h. k.value_low _ (reading_fits r i h));
    near_high =
        λ i. each_row m.V r (λ w. whole w.value ≤ᶠ m.E (whole w.reading) +ᶠ whole (pos m.R)) i
        (λ h. k.value_high _ (reading_fits r i h));
    steady = λ i. both_rows m.V r (λ w w'. w.value ≤ℤ w'.value) i (steady i);
    gentle = λ i. both_rows m.V r (λ w w'. w'.value ≤ℤ (w.value +ℤ pos (m.S * r.step + 2 * m.R))) i (gentle i);
  }
    where
      there : (i : ℕ) → i < count r → row m.V r i ≡ Some (row_at m.V (at r i))
      there i h = let t : nat_lt i (count r) ≡ true = lt-ltb _ _ h in rw t refl
