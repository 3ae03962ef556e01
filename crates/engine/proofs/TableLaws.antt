-- Every lawful table passes through its knots, keeps between them, is flat beyond, and is made of its kind's pieces.
use Rattle.std.proofs.Common.{◌≡◌, ℕ, suc, ◌-◌, ◌<◌, ◌≤◌, true, List, length, ℤ, pos, ◌≤ℤ◌, sym, ◌∙◌, subst, arith}
use lib.Signed.{le_z}
use Rattle.engine.specs.Coordinates.{Coordinate, Within, lowest, highest}
use Rattle.engine.specs.Curves.{Rules, meaning}
use Rattle.engine.specs.Fraction.{Fraction, whole, ◌*ᶠ◌, ◌≤ᶠ◌, ◌≈ᶠ◌, leᶠ}
use Rattle.engine.specs.declared.knot.Knot.{Knot}
use Rattle.engine.specs.Pieces.{width, height, line_exact}
use Rattle.engine.specs.Orders.{by_test, ≤ᶠ_trans, ≈ᶠ_trans, ≈ᶠ_same, whole-≤, leᶠ_true, leᶠ_holds}
use Rattle.engine.specs.Orders.{≤ℤ_trans, ≤ℤ_antisym, leZ_true, leZ_holds}
use Rattle.engine.specs.Terms.{Is-whole, Is-*, Is-≤}
use Rattle.engine.specs.Sums.{whole_within}
use Rattle.engine.specs.Places.{LawfulTable, wide, x_strict}
use Rattle.engine.specs.Joins.{joined_on}
use Rattle.engine.specs.Lines.{line_on}
use Rattle.engine.specs.Knots.{fewest, knot_at, lawful}
use Rattle.engine.specs.Tables.{secant, exact_from, table_value, table_exact, table_rise, table_radius}
use Rattle.engine.specs.Theorems.{TableLaw, StepLaw, LineLaw, CubicLaw, TableLaws}
use Rattle.engine.specs.declared.kind.Kind.{Kind}
use Rattle.engine.specs.declared.kind.Kind.TheVariants.{Step, Cubic}
use Rattle.engine.specs.Lawfuls.{lawful_list}
use Rattle.engine.specs.CubicPieces.{Slope}
use Rattle.engine.specs.Slopes.{secant_is, gentle_piece}
use Rattle.engine.specs.StepRules as step
use Rattle.engine.specs.LineRules as line
use Rattle.engine.specs.CubicRules as cubic
use Rattle.engine.specs.TableRules.{kind_rules, table_rules}
use Rattle.engine.proofs.Reached.{value_reached, value_first, value_last, value_at}
use Rattle.engine.proofs.Reached.{exact_reached, exact_first, exact_last, exact_at}

-- ---- every kind

-- what lies between two coordinates is one
between : {a b : ℤ} → Coordinate a → Coordinate b → (x : ℤ) → a ≤ℤ x → x ≤ℤ b → Coordinate x
between c d x h r = record { low = ≤ℤ_trans c.low h; high = ≤ℤ_trans r d.high }

between_exact : {a b : ℤ} → Coordinate a → Coordinate b → (q : Fraction) → whole a ≤ᶠ q → q ≤ᶠ whole b → Within q
between_exact {a} {b} c d q h r = record {
  low = ≤ᶠ_trans (whole-≤ lowest a c.low) h;
  high = ≤ᶠ_trans r (whole-≤ b highest d.high);
}

module _ (kind : Kind) (k : ℕ → Knot) (top : ℕ) (law : LawfulTable k top) where
  abbrev V : ℤ → ℤ
  V = table_value kind k top

  abbrev E : Fraction → Fraction
  E = table_exact kind k top

  rules : Rules (meaning V E (table_rise kind k top) (table_radius kind))
  rules = kind_rules kind k top law

  -- between two knots: neither curve falls
  value_low : (i : ℕ) (x : ℤ) → i < top → (k i).x ≤ℤ x → x ≤ℤ (k (suc i)).x → (k i).y ≤ℤ V x
  value_low i x l h r =
      let c = law.knots.x_fits i (omega arith) in
      subst (λ v. v ≤ℤ V x) (value_at kind k top law i (omega arith))
      (rules.value_mono (k i).x x c (between c (law.knots.x_fits (suc i) l) x h r) h)

  value_high : (i : ℕ) (x : ℤ) → i < top → (k i).x ≤ℤ x → x ≤ℤ (k (suc i)).x → V x ≤ℤ (k (suc i)).y
  value_high i x l h r =
      let d = law.knots.x_fits (suc i) l in
      subst (λ v. V x ≤ℤ v) (value_at kind k top law (suc i) l)
      (rules.value_mono x (k (suc i)).x (between (law.knots.x_fits i (omega arith)) d x h r) d r)

  exact_low : (i : ℕ) (q : Fraction) → i < top → whole (k i).x ≤ᶠ q → q ≤ᶠ whole (k (suc i)).x
      → whole (k i).y ≤ᶠ E q
  exact_low i q l h r =
      let c = law.knots.x_fits i (omega arith) in
      ≤ᶠ_trans (exact_at kind k top law i (omega arith)).1
      (rules.exact_mono (whole (k i).x) q (whole_within (k i).x c) (between_exact c (law.knots.x_fits (suc i) l) q h r) h)

  exact_high : (i : ℕ) (q : Fraction) → i < top → whole (k i).x ≤ᶠ q → q ≤ᶠ whole (k (suc i)).x
      → E q ≤ᶠ whole (k (suc i)).y
  exact_high i q l h r =
      let d = law.knots.x_fits (suc i) l in
      ≤ᶠ_trans
      (rules.exact_mono q (whole (k (suc i)).x) (between_exact (law.knots.x_fits i (omega arith)) d q h r)
      (whole_within (k (suc i)).x d) r)
      (exact_at kind k top law (suc i) l).0

  -- up to the first knot: below it, or just at it
  value_before : (x : ℤ) → x ≤ℤ (k 0).x → V x ≡ (k 0).y
  value_before x h = by_test (le_z (k 0).x x)
      (λ t. subst (λ z. V z ≡ (k 0).y) (≤ℤ_antisym (leZ_true (k 0).x x t) h) (value_at kind k top law 0 (omega arith)))
      (λ f. value_first kind k top law.knots x f)

  exact_before : (q : Fraction) → q ≤ᶠ whole (k 0).x → E q ≈ᶠ whole (k 0).y
  exact_before q h = by_test (leᶠ (whole (k 0).x) q)
      (λ t. ≈ᶠ_trans (at (leᶠ_true (whole (k 0).x) q t)) (exact_at kind k top law 0 (omega arith)))
      (λ f. ≈ᶠ_same (exact_first kind k top law.knots q f))
    where
      c : Coordinate (k 0).x
      c = law.knots.x_fits 0 (omega arith)

      at : whole (k 0).x ≤ᶠ q → E q ≈ᶠ E (whole (k 0).x)
      at t =
          let w = between_exact c c q t h in
          let w' = whole_within (k 0).x c in
          (rules.exact_mono q (whole (k 0).x) w w' h, rules.exact_mono (whole (k 0).x) q w' w t)

-- ---- cubics

module _ (k : ℕ → Knot) (top : ℕ) (law : LawfulTable k top) where
  cubic_exact_on : (i : ℕ) (q : Fraction) → i < top → whole (k i).x ≤ᶠ q → q ≤ᶠ whole (k (suc i)).x
      → table_exact Cubic k top q ≈ᶠ cubic.exact_piece k top law i q
  unfolding table_exact
  cubic_exact_on i q l h r =
      ≈ᶠ_trans
      (joined_on k top _ (exact_from Cubic k top) (cubic.cubics_joined k top law) (x_strict k top law.knots) i q l h r)
      (≈ᶠ_same (cubic.exact_is k top law i q l))

  -- short of the next knot, or just at it
  cubic_value_on : (i : ℕ) (x : ℤ) → i < top → (k i).x ≤ℤ x → x ≤ℤ (k (suc i)).x
      → table_value Cubic k top x ≡ cubic.value_piece k top law i x
  cubic_value_on i x l h r = by_test (le_z (k (suc i)).x x)
      (λ t. subst (λ z. table_value Cubic k top z ≡ cubic.value_piece k top law i z)
      (≤ℤ_antisym (leZ_true (k (suc i)).x x t) r)
      (value_at Cubic k top law (suc i) l ∙ sym (cubic.piece_end k top law i l)))
      (λ f. value_reached Cubic k top law.knots i x (omega arith) (leZ_holds (k i).x x h) (λ _. f)
      ∙ cubic.value_is k top law i x l)

  -- a slope of at most three secants, as an order of fractions
  three_secants : (i : ℕ) (m : Fraction) → i < top → Slope m (width k i) (height k i)
      → m ≤ᶠ whole (pos 3) *ᶠ secant k i
  three_secants i m l σ =
      let w = wide k top law.knots i l in
      Is-≤ σ.b_pos (omega arith) σ.is (Is-* (Is-whole 3) (secant_is k i w)) (omega (arith, σ.gentle))

-- ---- the laws of a list

module _ (ks : List Knot) (some : fewest ≤ length ks) (ok : lawful ks ≡ true) where
  abbrev k : ℕ → Knot
  k = knot_at ks

  abbrev top : ℕ
  top = length ks - 1

  law : LawfulTable k top
  law = lawful_list ks ok some

  table_law : (kind : Kind) → TableLaw kind ks
  table_law kind = record {
    value_at = λ i l. value_at kind k top law i (omega arith);
    exact_at = λ i l. exact_at kind k top law i (omega arith);
    value_low = λ i x l h r. value_low kind k top law i x (omega arith) h r;
    value_high = λ i x l h r. value_high kind k top law i x (omega arith) h r;
    exact_low = λ i q l h r. exact_low kind k top law i q (omega arith) h r;
    exact_high = λ i q l h r. exact_high kind k top law i q (omega arith) h r;
    value_before = λ x h. value_before kind k top law x h;
    value_after = λ x h. value_last kind k top law x (leZ_holds _ x h);
    exact_before = λ q h. exact_before kind k top law q h;
    exact_after = λ q h. ≈ᶠ_same (exact_last kind k top law q (leᶠ_holds _ q h));
  }

  step_law : StepLaw ks
  unfolding exact_from
  step_law = record {
    exact_on =
        λ i q l h s. ≈ᶠ_same (exact_reached Step k top law.knots i q (omega arith) (leᶠ_holds _ q h) (λ _. s));
    value_is = λ x. ≈ᶠ_same (sym (step.at_whole k top law.knots x));
  }

  line_law : LineLaw ks
  line_law = record {
    exact_on =
        λ i q l h r. subst (λ e. e ≈ᶠ line_exact (k i) (width k i) (height k i) q) (sym (line.exact_is k top law.knots q))
        (line_on k top law.knots _ (line.gentle k top law.knots) i q (omega arith) h r);
    value_is = λ x. line.value_is k top law.knots x;
  }

  cubic_law : CubicLaw ks
  cubic_law = record {
    exact_on = λ i q l h r. cubic_exact_on k top law i q (omega arith) h r;
    value_on = λ i x l h r. cubic_value_on k top law i x (omega arith) h r;
    gentle_start = λ i l. three_secants k top law i _ (omega arith) (gentle_piece k top law i (omega arith)).start;
    gentle_end = λ i l. three_secants k top law i _ (omega arith) (gentle_piece k top law i (omega arith)).end;
  }

pub table_laws_lem : TableLaws
table_laws_lem = record {
  keeps = table_rules;
  through = λ kind ks some ok. table_law ks some ok kind;
  steps = step_law;
  lines = line_law;
  cubics = cubic_law;
}
