-- A table's value and exact value by the last knot that the argument has reached, with the tests as equations.
use Rattle.std.proofs.Common.{◌≡◌, ℕ, suc, ◌<◌, ◌≤◌, true, false, ℤ, ◌<ℤ◌, sym, refl, ap, ◌∙◌, subst, inl, inr, eq-or-lt_of_le, arith}
use lib.Signed.{≤ℤ_refl, le_z}
use borrow.Author.Differences.{ints}
use Rattle.engine.specs.Fraction.{Fraction, whole, ◌≈ᶠ◌, leᶠ, roundᶠ}
use Rattle.engine.specs.declared.knot.Knot.{Knot}
use Rattle.engine.specs.Orders.{≤ᶠ_refl, ≈ᶠ_same, leᶠ_false, leᶠ_holds, leZ_holds}
use Rattle.engine.specs.Piecewise.{piecewise_from, piecewise_before}
use Rattle.engine.specs.Places.{Lawful, LawfulTable, x_strict}
use Rattle.engine.specs.Joins.{at_knot_lem}
use Rattle.engine.specs.Lines.{line_top}
use Rattle.engine.specs.Tables.{exact_from, value_from, table_value, table_exact}
use Rattle.engine.specs.declared.kind.Kind.{Kind}
use Rattle.engine.specs.declared.kind.Kind.TheVariants.{Step, Line, Cubic}
use Rattle.engine.specs.Rounding.{round_whole, round_same}
use Rattle.engine.specs.LineRules as line
use Rattle.engine.specs.CubicRules as cubic

-- a knot that is above x has the next one above x
above : (a b x : ℤ) → a <ℤ b → le_z a x ≡ false → le_z b x ≡ false
above a b x h e = sym (omega (arith, ints))

module _ (kind : Kind) (k : ℕ → Knot) (top : ℕ) (law : Lawful k top) where
  -- ---- the value

  pub value_reached : (i : ℕ) (x : ℤ) → i ≤ top → le_z (k i).x x ≡ true → (i < top → le_z (k (suc i)).x x ≡ false)
      → table_value kind k top x ≡ value_from kind k top i x
  unfolding table_value
  value_reached i x l e n =
      piecewise_from (λ i x. le_z (k i).x x) (λ x. (k 0).y) (value_from kind k top) top x
      (λ i l e. above (k i).x (k (suc i)).x x (law.x_rises i l) e) i l e n

  pub value_first : (x : ℤ) → le_z (k 0).x x ≡ false → table_value kind k top x ≡ (k 0).y
  unfolding table_value
  value_first x e =
      piecewise_before (λ i x. le_z (k i).x x) (λ x. (k 0).y) (value_from kind k top) top x
      (λ i l e. above (k i).x (k (suc i)).x x (law.x_rises i l) e) e

  -- ---- the exact value

  pub exact_reached : (i : ℕ) (q : Fraction) → i ≤ top → leᶠ (whole (k i).x) q ≡ true
      → (i < top → leᶠ (whole (k (suc i)).x) q ≡ false) → table_exact kind k top q ≡ exact_from kind k top i q
  unfolding table_exact
  exact_reached i q l e n =
      piecewise_from (λ i q. leᶠ (whole (k i).x) q) (λ q. whole (k 0).y) (exact_from kind k top) top q
      (λ i l e. x_strict k top law i q l (leᶠ_false (whole (k i).x) q e)) i l e n

  pub exact_first : (q : Fraction) → leᶠ (whole (k 0).x) q ≡ false → table_exact kind k top q ≡ whole (k 0).y
  unfolding table_exact
  exact_first q e =
      piecewise_before (λ i q. leᶠ (whole (k i).x) q) (λ q. whole (k 0).y) (exact_from kind k top) top q
      (λ i l e. x_strict k top law i q l (leᶠ_false (whole (k i).x) q e)) e

-- ---- each kind from the last knot on, and at its knots

module _ (k : ℕ → Knot) (top : ℕ) (law : LawfulTable k top) where
  value_top : (kind : Kind) (x : ℤ) → value_from kind k top top x ≡ (k top).y
  unfolding value_from
  value_top Step x = refl
  value_top Line x = ap roundᶠ (line_top k top law.knots (whole x)) ∙ round_whole (k top).y
  value_top Cubic x = cubic.value_top k top law x

  exact_top : (kind : Kind) (q : Fraction) → exact_from kind k top top q ≡ whole (k top).y
  unfolding exact_from
  exact_top Step q = refl
  exact_top Line q = line_top k top law.knots q
  exact_top Cubic q = cubic.exact_top k top law q

  exact_knot : (kind : Kind) (i : ℕ) → i ≤ top → exact_from kind k top i (whole (k i).x) ≈ᶠ whole (k i).y
  unfolding exact_from
  exact_knot Step i l = ≈ᶠ_same refl
  exact_knot Line i l = at_knot_lem k top _ _ (line.lines_joined k top law.knots) i l
  exact_knot Cubic i l = at_knot_lem k top _ _ (cubic.cubics_joined k top law) i l

  value_knot : (kind : Kind) (i : ℕ) → i ≤ top → value_from kind k top i (k i).x ≡ (k i).y
  unfolding value_from exact_from
  value_knot Step i l = refl
  value_knot Line i l = round_same _ (k i).y (exact_knot Line i l)
  value_knot Cubic i l = elim (eq-or-lt_of_le l) [
    | inl e ↦ subst (λ n. value_from Cubic k top n (k n).x ≡ (k n).y) (sym e) (value_top Cubic (k top).x)
    | inr s ↦ cubic.value_is k top law i (k i).x s ∙ cubic.piece_start k top law i s
  ]

-- ---- a table at its knots, and from the last on

module _ (kind : Kind) (k : ℕ → Knot) (top : ℕ) (law : LawfulTable k top) where
  pub value_at : (i : ℕ) → i ≤ top → table_value kind k top (k i).x ≡ (k i).y
  value_at i l =
      value_reached kind k top law.knots i (k i).x l (leZ_holds (k i).x (k i).x (≤ℤ_refl (k i).x))
      (λ s. beyond (k (suc i)).x (k i).x (law.knots.x_rises i s))
      ∙ value_knot k top law kind i l
    where
      beyond : (a b : ℤ) → b <ℤ a → le_z a b ≡ false
      beyond a b h = sym (omega (arith, ints))

  pub exact_at : (i : ℕ) → i ≤ top → table_exact kind k top (whole (k i).x) ≈ᶠ whole (k i).y
  exact_at i l =
      let here = ≤ᶠ_refl (whole (k i).x) in
      subst (λ e. e ≈ᶠ whole (k i).y)
      (sym (exact_reached kind k top law.knots i (whole (k i).x) l (leᶠ_holds (whole (k i).x) (whole (k i).x) here)
      (λ s. x_strict k top law.knots i (whole (k i).x) s here)))
      (exact_knot k top law kind i l)

  pub value_last : (x : ℤ) → le_z (k top).x x ≡ true → table_value kind k top x ≡ (k top).y
  value_last x e =
      value_reached kind k top law.knots top x (omega arith) e (λ l. absurd (omega arith)) ∙ value_top k top law kind x

  pub exact_last : (q : Fraction) → leᶠ (whole (k top).x) q ≡ true → table_exact kind k top q ≡ whole (k top).y
  exact_last q e =
      exact_reached kind k top law.knots top q (omega arith) e (λ l. absurd (omega arith)) ∙ exact_top k top law kind q
