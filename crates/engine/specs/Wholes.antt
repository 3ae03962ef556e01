-- Whole values of a table whose pieces are rounded: what each piece keeps, the whole table keeps.
use Rattle.std.specs.Prelude.{◌≡◌, ℕ, suc, ◌<◌, ◌≤◌, Bool, true, false, ℤ, pos, ◌≤ℤ◌, int_le, refl}
use Rattle.std.proofs.Common.{sym, subst, subst₂, inl, inr, eq-or-lt_of_le, arith}
use Rattle.std.specs.Int.Signed.{≤ℤ_refl}
use Rattle.engine.specs.Fraction.{Fraction, whole, ◌+ᶠ◌, ◌≤ᶠ◌, leᶠ}
use Rattle.engine.specs.Coordinates.{Coordinate}
use Rattle.engine.specs.declared.knot.Knot.{Knot}
use Rattle.engine.specs.Pieces.{piecewise}
use Rattle.engine.specs.Places.{Lawful}
use Rattle.engine.specs.Orders.{≤ℤ_trans, leZ_true, leZ_false, leZ_holds, same_test}
use Rattle.engine.specs.Sums.{+ᶠ_up}
use Rattle.engine.specs.Piecewise.{Pieces, piecewise_mono, piecewise_both}

-- a whole and an exact value at most 1 apart
abbrev pub Close : ℤ → Fraction → Type 0
Close v e = (e ≤ᶠ whole v +ᶠ whole (pos 1)) × (whole v ≤ᶠ e +ᶠ whole (pos 1))

itself : (y : ℤ) → Close y (whole y)
itself y = (+ᶠ_up (whole y) 1, +ᶠ_up (whole y) 1)

-- `value i` is the value from knot i on, and `exact i` the exact one
module _ (k : ℕ → Knot) (top : ℕ) (law : Lawful k top) (value : ℕ → ℤ → ℤ) (exact : ℕ → Fraction → Fraction) where
  abbrev under : ℕ → ℤ → Bool
  under i x = int_le (k i).x x

  abbrev V : ℤ → ℤ
  V = piecewise under (λ x. (k 0).y) value top

  abbrev E : Fraction → Fraction
  E = piecewise (λ i q. leᶠ (whole (k i).x) q) (λ q. whole (k 0).y) exact top

  -- what is asked of the values of each piece
  pub record Rounded : Type 0 where
    pub at_top : (x : ℤ) → value top x ≡ (k top).y
    pub exact_top : (q : Fraction) → exact top q ≡ whole (k top).y
    -- between its knots a piece keeps between their values, and does not fall
    pub low : (i : ℕ) (x : ℤ) → i < top → (k i).x ≤ℤ x → x ≤ℤ (k (suc i)).x → (k i).y ≤ℤ value i x
    pub high : (i : ℕ) (x : ℤ) → i < top → (k i).x ≤ℤ x → x ≤ℤ (k (suc i)).x → value i x ≤ℤ (k (suc i)).y
    pub grows : (i : ℕ) (x x' : ℤ) → i < top → (k i).x ≤ℤ x → x ≤ℤ x' → x' ≤ℤ (k (suc i)).x → value i x ≤ℤ value i x'
    -- it lies within 1 of the exact value
    pub close : (i : ℕ) (x : ℤ) → i < top → (k i).x ≤ℤ x → x ≤ℤ (k (suc i)).x → Close (value i x) (exact i (whole x))

  module _ (r : Rounded) where
    v_low : (i : ℕ) (x : ℤ) → i ≤ top → (k i).x ≤ℤ x → (i < top → x ≤ℤ (k (suc i)).x) → (k i).y ≤ℤ value i x
    v_low i x l a b =
        elim (eq-or-lt_of_le l) [
          | inl e ↦ subst (λ n. (k n).y ≤ℤ value n x) (sym e)
              (subst (λ v. (k top).y ≤ℤ v) (sym (r.at_top x)) (≤ℤ_refl (k top).y))
          | inr s ↦ r.low i x s a (b s)
        ]

    v_grows : (i : ℕ) (x x' : ℤ) → i ≤ top → (k i).x ≤ℤ x → x ≤ℤ x' → (i < top → x' ≤ℤ (k (suc i)).x)
        → value i x ≤ℤ value i x'
    v_grows i x x' l a h b =
        elim (eq-or-lt_of_le l) [
          | inl e ↦ subst (λ n. value n x ≤ℤ value n x') (sym e)
              (subst₂ ◌≤ℤ◌ (sym (r.at_top x)) (sym (r.at_top x')) (≤ℤ_refl (k top).y))
          | inr s ↦ r.grows i x x' s a h (b s)
        ]

    value_pieces : Pieces ◌≤ℤ◌ ◌≤ℤ◌ ◌≤ℤ◌ under (λ x. (k 0).y) value (λ i. (k i).x) (λ i. (k i).y) top
    value_pieces = record {
      before = λ p q h l. ≤ℤ_refl (k 0).y;
      before_high = λ p l. ≤ℤ_refl (k 0).y;
      low = v_low;
      high = r.high;
      grows = v_grows;
      trans = λ a b c h m. ≤ℤ_trans h m;
      knots = law.y_rises;
      yes_below = λ i x e. leZ_true (k i).x x e;
      not_below = λ i x e. leZ_false (k i).x x e;
      stays = λ i x x' e h. leZ_holds (k i).x x' (≤ℤ_trans (leZ_true (k i).x x e) h);
    }

    -- the value does not fall
    pub values_mono : (x x' : ℤ) → x ≤ℤ x' → V x ≤ℤ V x'
    values_mono x x' h =
        piecewise_mono ◌≤ℤ◌ ◌≤ℤ◌ ◌≤ℤ◌ under (λ x. (k 0).y) value (λ i. (k i).x) (λ i. (k i).y) top value_pieces top x x'
        (omega arith) h (λ l. absurd (omega arith))

    -- it is a coordinate
    pub values_fit : (x : ℤ) → Coordinate (V x)
    values_fit x =
        piecewise_both (λ v w. Coordinate v) under (λ x. (k 0).y) value under (λ x. (k 0).y) value top x x (λ i. refl)
        (law.y_fits 0 (omega arith)) fits top (omega arith) (λ l. absurd (omega arith))
      where
        between : (i : ℕ) → i < top → (k i).x ≤ℤ x → x ≤ℤ (k (suc i)).x → Coordinate (value i x)
        between i s a b = record {
          low = ≤ℤ_trans (law.y_fits i (omega arith)).low (r.low i x s a b);
          high = ≤ℤ_trans (r.high i x s a b) (law.y_fits (suc i) s).high;
        }

        fits : (i : ℕ) → i ≤ top → under i x ≡ true → (i < top → under (suc i) x ≡ false) → Coordinate (value i x)
        fits i l e n =
            elim (eq-or-lt_of_le l) [
              | inl p ↦ subst (λ n. Coordinate (value n x)) (sym p)
                  (subst Coordinate (sym (r.at_top x)) (law.y_fits top (omega arith)))
              | inr s ↦ between i s (leZ_true (k i).x x e) (leZ_false (k (suc i)).x x (n s))
            ]

    -- it lies within 1 of the exact value
    pub values_close : (x : ℤ) → Close (V x) (E (whole x))
    values_close x =
        piecewise_both Close under (λ x. (k 0).y) value (λ i q. leᶠ (whole (k i).x) q) (λ q. whole (k 0).y) exact top x
        (whole x) (λ i. sym (same_test (k i).x x)) (itself (k 0).y) close top (omega arith)
        (λ l. absurd (omega arith))
      where
        close : (i : ℕ) → i ≤ top → under i x ≡ true → (i < top → under (suc i) x ≡ false)
            → Close (value i x) (exact i (whole x))
        close i l e n =
            elim (eq-or-lt_of_le l) [
              | inl p ↦ subst (λ n. Close (value n x) (exact n (whole x))) (sym p)
                  (subst₂ Close (sym (r.at_top x)) (sym (r.exact_top (whole x))) (itself (k top).y))
              | inr s ↦ r.close i x s (leZ_true (k i).x x e) (leZ_false (k (suc i)).x x (n s))
            ]
