-- A curve whose pieces meet at the knots: what each piece keeps, the whole exact curve keeps.
use Rattle.std.specs.Prelude.{◌≡◌, ℕ, suc, ◌*◌, ◌<◌, ◌≤◌, Bool, true, false, pos, refl}
use Rattle.std.proofs.Common.{sym, subst, subst₂, ◌∙◌, inl, inr, eq-or-lt_of_le, arith}
use Rattle.std.proofs.lemmas.Bool.{both_ways}
use Rattle.engine.specs.Fraction.{Fraction, whole, ◌+ᶠ◌, ◌≤ᶠ◌, ◌≈ᶠ◌, leᶠ}
use Rattle.engine.specs.Coordinates.{Within}
use Rattle.engine.specs.declared.knot.Knot.{Knot}
use Rattle.engine.specs.Pieces.{piecewise}
use Rattle.engine.specs.Orders.{by_test, ≤ᶠ_refl, ≤ᶠ_trans, ≈ᶠ_same, leᶠ_true, leᶠ_false, leᶠ_holds}
use Rattle.engine.specs.Lags.{lag, lag_anti, lag_mono, rise_out}
use Rattle.engine.specs.Piecewise.{Pieces, piecewise_mono, piecewise_both, piecewise_map}
use Rattle.engine.specs.Piecewise.{piecewise_from, piecewise_before}

-- `from i` is the exact value from knot i on
module _ (k : ℕ → Knot) (top S : ℕ) (from : ℕ → Fraction → Fraction) where
  abbrev pub X : ℕ → Fraction
  X i = whole (k i).x

  abbrev pub Y : ℕ → Fraction
  Y i = whole (k i).y

  -- what is asked of the pieces
  pub record Joined : Type 0 where
    pub x_rises : (i : ℕ) → i < top → X i ≤ᶠ X (suc i)
    pub y_rises : (i : ℕ) → i < top → Y i ≤ᶠ Y (suc i)
    pub at_top : (q : Fraction) → from top q ≡ Y top
    -- the piece has the values of its two knots
    pub start : (i : ℕ) → i < top → from i (X i) ≈ᶠ Y i
    pub end : (i : ℕ) → i < top → from i (X (suc i)) ≈ᶠ Y (suc i)
    -- it does not fall, and rises by at most S for each unit
    pub grows : (i : ℕ) (p q : Fraction) → i < top → X i ≤ᶠ p → p ≤ᶠ q → q ≤ᶠ X (suc i) → from i p ≤ᶠ from i q
    pub slow : (i : ℕ) (p q : Fraction) → i < top → X i ≤ᶠ p → p ≤ᶠ q → q ≤ᶠ X (suc i)
        → lag S p (from i p) ≤ᶠ lag S q (from i q)

  -- knot i is at or below q
  abbrev under : ℕ → Fraction → Bool
  under i q = leᶠ (X i) q

  pub stays : (i : ℕ) (p q : Fraction) → under i p ≡ true → p ≤ᶠ q → under i q ≡ true
  stays i p q e h = leᶠ_holds (X i) q (≤ᶠ_trans (leᶠ_true (X i) p e) h)

  module _ (j : Joined) where
    -- between its knots a piece keeps between their values
    pub low : (i : ℕ) (q : Fraction) → i ≤ top → X i ≤ᶠ q → (i < top → q ≤ᶠ X (suc i)) → Y i ≤ᶠ from i q
    low i q l h r =
        elim (eq-or-lt_of_le l) [
          | inl e ↦ subst (λ n. Y n ≤ᶠ from n q) (sym e) (subst (λ v. Y top ≤ᶠ v) (sym (j.at_top q)) (≤ᶠ_refl (Y top)))
          | inr s ↦ ≤ᶠ_trans (j.start i s).1 (j.grows i (X i) q s (≤ᶠ_refl (X i)) h (r s))
        ]

    pub exact_high : (i : ℕ) (q : Fraction) → i < top → X i ≤ᶠ q → q ≤ᶠ X (suc i) → from i q ≤ᶠ Y (suc i)
    exact_high i q l h r = ≤ᶠ_trans (j.grows i q (X (suc i)) l h r (≤ᶠ_refl (X (suc i)))) (j.end i l).0

    -- at its own knot it has the knot's value
    pub at_knot_lem : (i : ℕ) → i ≤ top → from i (X i) ≈ᶠ Y i
    at_knot_lem i l =
        elim (eq-or-lt_of_le l) [
          | inl e ↦ subst (λ n. from n (X n) ≈ᶠ Y n) (sym e) (≈ᶠ_same (j.at_top (X top)))
          | inr s ↦ j.start i s
        ]

    exact_pieces : Pieces ◌≤ᶠ◌ ◌≤ᶠ◌ ◌≤ᶠ◌ under (λ q. Y 0) from X Y top
    exact_pieces = record {
      before = λ p q h l. ≤ᶠ_refl (Y 0);
      before_high = λ p l. ≤ᶠ_refl (Y 0);
      low = low;
      high = exact_high;
      grows =
          λ i p q l h m r. elim (eq-or-lt_of_le l) [
            | inl e ↦ subst (λ n. from n p ≤ᶠ from n q) (sym e)
                (subst₂ ◌≤ᶠ◌ (sym (j.at_top p)) (sym (j.at_top q)) (≤ᶠ_refl (Y top)))
            | inr s ↦ j.grows i p q s h m (r s)
          ];
      trans = λ a b c h m. ≤ᶠ_trans h m;
      knots = j.y_rises;
      yes_below = λ i q e. leᶠ_true (X i) q e;
      not_below = λ i q e. leᶠ_false (X i) q e;
      stays = stays;
    }

    -- the whole exact curve does not fall
    pub joined_mono : (p q : Fraction) → p ≤ᶠ q
        → piecewise under (λ q. Y 0) from top p ≤ᶠ piecewise under (λ q. Y 0) from top q
    joined_mono p q h =
        piecewise_mono ◌≤ᶠ◌ ◌≤ᶠ◌ ◌≤ᶠ◌ under (λ q. Y 0) from X Y top exact_pieces top p q (omega arith) h
        (λ l. absurd (omega arith))

    -- the lag of each piece, and of the whole
    lag_low : (i : ℕ) (q : Fraction) → i ≤ top → X i ≤ᶠ q → (i < top → q ≤ᶠ X (suc i))
        → lag S (X i) (Y i) ≤ᶠ lag S q (from i q)
    lag_low i q l h r =
        elim (eq-or-lt_of_le l) [
          | inl e ↦ subst (λ n. lag S (X n) (Y n) ≤ᶠ lag S q (from n q)) (sym e)
              (subst (λ v. lag S (X top) (Y top) ≤ᶠ lag S q v) (sym (j.at_top q))
              (lag_mono S (Y top) (subst (λ n. X n ≤ᶠ q) e h)))
          | inr s ↦ ≤ᶠ_trans (lag_anti S (X i) (j.start i s).0) (j.slow i (X i) q s (≤ᶠ_refl (X i)) h (r s))
        ]

    lag_high : (i : ℕ) (q : Fraction) → i < top → X i ≤ᶠ q → q ≤ᶠ X (suc i)
        → lag S q (from i q) ≤ᶠ lag S (X (suc i)) (Y (suc i))
    lag_high i q l h r =
        ≤ᶠ_trans (j.slow i q (X (suc i)) l h r (≤ᶠ_refl (X (suc i)))) (lag_anti S (X (suc i)) (j.end i l).1)

    lag_pieces : Pieces ◌≤ᶠ◌ ◌≤ᶠ◌ ◌≤ᶠ◌ under (λ q. lag S q (Y 0)) (λ i q. lag S q (from i q)) X
        (λ i. lag S (X i) (Y i)) top
    lag_pieces = record {
      before = λ p q h l. lag_mono S (Y 0) h;
      before_high = λ p l. lag_mono S (Y 0) l;
      low = lag_low;
      high = lag_high;
      grows =
          λ i p q l h m r. elim (eq-or-lt_of_le l) [
            | inl e ↦ subst (λ n. lag S p (from n p) ≤ᶠ lag S q (from n q)) (sym e)
                (subst₂ (λ v w. lag S p v ≤ᶠ lag S q w) (sym (j.at_top p)) (sym (j.at_top q)) (lag_mono S (Y top) m))
            | inr s ↦ j.slow i p q s h m (r s)
          ];
      trans = λ a b c h m. ≤ᶠ_trans h m;
      knots =
          λ i l. ≤ᶠ_trans (lag_low i (X i) (omega arith) (≤ᶠ_refl (X i)) (λ s. j.x_rises i s))
          (lag_high i (X i) l (≤ᶠ_refl (X i)) (j.x_rises i l));
      yes_below = λ i q e. leᶠ_true (X i) q e;
      not_below = λ i q e. leᶠ_false (X i) q e;
      stays = stays;
    }

    -- the whole exact curve rises by at most S for each unit
    pub joined_rise : (n : ℕ) (p q : Fraction) → p ≤ᶠ q → q ≤ᶠ p +ᶠ whole (pos n)
        → piecewise under (λ q. Y 0) from top q ≤ᶠ piecewise under (λ q. Y 0) from top p +ᶠ whole (pos (S * n))
    joined_rise n p q h r =
        rise_out S n p q _ _
        (subst₂ ◌≤ᶠ◌ (sym (piecewise_map under (λ q. Y 0) from (lag S) top p))
        (sym (piecewise_map under (λ q. Y 0) from (lag S) top q))
        (piecewise_mono ◌≤ᶠ◌ ◌≤ᶠ◌ ◌≤ᶠ◌ under (λ q. lag S q (Y 0)) (λ i q. lag S q (from i q)) X
        (λ i. lag S (X i) (Y i)) top lag_pieces top p q (omega arith) h (λ l. absurd (omega arith))))
        r

    -- the whole exact curve keeps between the end knots, so within the coordinates where they do
    pub joined_fits : ((i : ℕ) → i ≤ top → Within (Y i)) → (q : Fraction)
        → Within (piecewise under (λ q. Y 0) from top q)
    joined_fits knot q =
        piecewise_both (λ v _. Within v) under (λ q. Y 0) from under (λ q. Y 0) from top q q (λ i. refl)
        (knot 0 (omega arith)) fits top (omega arith) (λ l. absurd (omega arith))
      where
        between : (i : ℕ) → i < top → X i ≤ᶠ q → q ≤ᶠ X (suc i) → Within (from i q)
        between i s h r = record {
          low = ≤ᶠ_trans (knot i (omega arith)).low (low i q (omega arith) h (λ _. r));
          high = ≤ᶠ_trans (exact_high i q s h r) (knot (suc i) s).high;
        }

        fits : (i : ℕ) → i ≤ top → under i q ≡ true → (i < top → under (suc i) q ≡ false) → Within (from i q)
        fits i l e n = elim (eq-or-lt_of_le l) [
          | inl p ↦ subst (λ n. Within (from n q)) (sym p) (subst Within (sym (j.at_top q)) (knot top (omega arith)))
          | inr s ↦ between i s (leᶠ_true (X i) q e) (leᶠ_false (X (suc i)) q (n s))
        ]

    -- ---- each piece is the curve between its knots, and the ends are flat

    abbrev curve : Fraction → Fraction
    curve q = piecewise under (λ q. Y 0) from top q

    -- where knot i is above q, so is the next
    not_later : (q : Fraction) (i : ℕ) → i < top → under i q ≡ false → under (suc i) q ≡ false
    not_later q i l e = by_test (under (suc i) q)
        (λ t. absurd (both_ways (under i q) e (reached (leᶠ_true (X (suc i)) q t))))
        (λ f. f)
      where
        reached : X (suc i) ≤ᶠ q → under i q ≡ true
        reached h = leᶠ_holds (X i) q (≤ᶠ_trans (j.x_rises i l) h)

    -- from knot i on, short of the next
    reaches : (i : ℕ) (q : Fraction) → i ≤ top → under i q ≡ true → (i < top → under (suc i) q ≡ false)
        → curve q ≡ from i q
    reaches i q l e n = piecewise_from under (λ q. Y 0) from top q (not_later q) i l e n

    -- from the last knot on
    pub joined_after : (q : Fraction) → X top ≤ᶠ q → curve q ≡ Y top
    joined_after q h = reaches top q (omega arith) (leᶠ_holds (X top) q h) (λ l. absurd (omega arith)) ∙ j.at_top q

    -- below the first knot
    pub joined_before : (q : Fraction) → under 0 q ≡ false → curve q ≡ Y 0
    joined_before q e = piecewise_before under (λ q. Y 0) from top q (not_later q) e

    -- a knot that q has just reached: the pieces on both sides have its value there
    meets : (i : ℕ) (q : Fraction) → i < top → X i ≤ᶠ q → q ≤ᶠ X (suc i) → X (suc i) ≤ᶠ q
        → from (suc i) q ≈ᶠ from i q
    meets i q l h r b = (
      ≤ᶠ_trans here (≤ᶠ_trans (j.end i l).1 (j.grows i (X (suc i)) q l (j.x_rises i l) b r)),
      ≤ᶠ_trans (exact_high i q l h r) (low (suc i) q (omega arith) b next),
    )
      where
        next : suc i < top → q ≤ᶠ X (suc (suc i))
        next s = ≤ᶠ_trans r (j.x_rises (suc i) s)

        here : from (suc i) q ≤ᶠ Y (suc i)
        here = elim (eq-or-lt_of_le l) [
          | inl e ↦ subst (λ n. from n q ≤ᶠ Y n) (sym e) (subst (λ v. v ≤ᶠ Y top) (sym (j.at_top q)) (≤ᶠ_refl (Y top)))
          | inr s ↦ ≤ᶠ_trans (j.grows (suc i) q (X (suc i)) s b r (j.x_rises (suc i) s)) (j.start (suc i) s).0
        ]

    -- between two knots, where x rises strictly
    pub joined_on : ((i : ℕ) (q : Fraction) → i < top → q ≤ᶠ X i → under (suc i) q ≡ false) → (i : ℕ) (q : Fraction)
        → i < top → X i ≤ᶠ q → q ≤ᶠ X (suc i) → curve q ≈ᶠ from i q
    joined_on strict i q l h r = by_test (under (suc i) q) reached short
      where
        found : (m : ℕ) → curve q ≡ from m q → from m q ≈ᶠ from i q → curve q ≈ᶠ from i q
        found m e s = subst (λ v. v ≈ᶠ from i q) (sym e) s

        short : under (suc i) q ≡ false → curve q ≈ᶠ from i q
        short e =
            found i (reaches i q (omega arith) (leᶠ_holds (X i) q h) (λ _. e)) (≤ᶠ_refl (from i q), ≤ᶠ_refl (from i q))

        reached : under (suc i) q ≡ true → curve q ≈ᶠ from i q
        reached t =
            found (suc i) (reaches (suc i) q (omega arith) t (λ s. strict (suc i) q s r))
            (meets i q l h r (leᶠ_true (X (suc i)) q t))
