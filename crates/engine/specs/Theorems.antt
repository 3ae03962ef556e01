-- What is proved of the definitions, as statements that contracts name.
use Rattle.std.specs.Prelude.{◌≡◌, ℕ, suc, ◌-◌, ◌*◌, ◌<◌, ◌≤◌, true, false, ◌⊎◌, List, [], ◌∷◌, length, ℤ, pos, negsuc, ◌+ℤ◌, ◌*ℤ◌, ◌≤ℤ◌}
use Rattle.engine.specs.Fraction.{Fraction, whole, ◌÷◌, ◌+ᶠ◌, ◌-ᶠ◌, ◌*ᶠ◌, ◌/ᶠ◌, ◌≤ᶠ◌, ◌≈ᶠ◌, leᶠ}
use Rattle.engine.specs.Fraction.{floorᶠ, ceilᶠ, roundᶠ, GreatestNotAbove, LeastNotBelow}
use Rattle.engine.specs.Coordinates.{Coordinate}
use Rattle.engine.specs.Curves.{Meaning, Rules, bare, chain, offset, clamp}
use Rattle.engine.specs.Pieces.{width, height, line_exact}
use Rattle.engine.specs.Root.{root_entry, root_knot, root_value, root_exact, root_curve, GreatestRoot}
use Rattle.engine.specs.declared.knot.Knot.{Knot}
use Rattle.engine.specs.Knots.{fewest, knot, knot_at, lawful}
use Rattle.engine.specs.Tables.{secant, stored, cubic_exact, cubic_value, table_curve, slope_of}
use Rattle.engine.specs.declared.kind.Kind.{Kind}
use Rattle.engine.specs.declared.kind.Kind.TheVariants.{Step, Line, Cubic}

-- fractions are totally ordered, and their order and arithmetic extend those of whole numbers
pub record FractionRules : Type 0 where
  pub reflexive : (p : Fraction) → p ≤ᶠ p
  pub transitive : (p q r : Fraction) → p ≤ᶠ q → q ≤ᶠ r → p ≤ᶠ r
  pub total : (p q : Fraction) → (p ≤ᶠ q) ⊎ (q ≤ᶠ p)
  pub whole_up : (a b : ℤ) → a ≤ℤ b → whole a ≤ᶠ whole b
  pub whole_down : (a b : ℤ) → whole a ≤ᶠ whole b → a ≤ℤ b
  pub whole_sum : (a b : ℤ) → whole a +ᶠ whole b ≈ᶠ whole (a +ℤ b)
  pub whole_product : (a b : ℤ) → whole a *ᶠ whole b ≈ᶠ whole (a *ℤ b)
  pub sum_keeps_order : (p q r : Fraction) → p ≤ᶠ q → p +ᶠ r ≤ᶠ q +ᶠ r
  pub difference : (p q : Fraction) → p -ᶠ q +ᶠ q ≈ᶠ p
  pub quotient : (n : ℤ) (d : ℕ) → 0 < d → n ÷ d *ᶠ whole (pos d) ≈ᶠ whole n
  pub quotient_of : (p : Fraction) (k : ℕ) → 0 < k → p /ᶠ k *ᶠ whole (pos k) ≈ᶠ p

-- rounding does what its words say
pub record RoundingRules : Type 0 where
  pub down : (q : Fraction) → GreatestNotAbove q (floorᶠ q)
  pub up : (q : Fraction) → LeastNotBelow q (ceilᶠ q)
  pub nearest : (q : Fraction) → GreatestNotAbove (q +ᶠ pos 1 ÷ 2) (roundᶠ q)

-- the plain curves keep the rules
pub record PlainCurvesKeep : Type 0 where
  pub bare_keeps : Rules bare
  pub root_keeps : Rules root_curve

-- Each entry of root is the root that it is called, and no entry is below an earlier one; the exact curve is the straight
-- piece between neighbouring entries, and flat up to the first and from the last on.
pub record RootLaw : Type 0 where
  pub entries : (i : ℕ) → GreatestRoot (65536 * i) (root_entry i)
  pub rising : (i j : ℕ) → i ≤ j → root_entry i ≤ root_entry j
  pub straight : (i : ℕ) (q : Fraction) → i < 1023 → whole (pos i) ≤ᶠ q → q ≤ᶠ whole (pos (suc i))
      → root_exact q ≈ᶠ line_exact (root_knot i) 1 (root_entry (suc i) - root_entry i) q
  pub flat_below : (q : Fraction) → q ≤ᶠ whole (pos 0) → root_exact q ≈ᶠ whole (pos (root_entry 0))
  pub flat_above : (q : Fraction) → whole (pos 1023) ≤ᶠ q → root_exact q ≈ᶠ whole (pos (root_entry 1023))

-- every layer over lawful curves is a lawful curve
pub record LayersKeep : Type 0 where
  pub chain_keeps : (g f : Meaning) → Rules g → Rules f → Rules (chain g f)
  pub offset_keeps : (c : ℤ) (m : Meaning) → Rules m → Rules (offset c m)
  pub clamp_keeps : (a b : ℤ) (m : Meaning) → Coordinate a → Coordinate b → a ≤ℤ b → Rules m
      → Rules (clamp a b m)

-- ---- knot tables of every kind

-- A table of any kind passes through its knots, keeps between the values of two neighbours, and holds the end values
-- beyond the end knots.
pub record TableLaw (kind : Kind) (ks : List Knot) : Type 0 where
  pub value_at : (i : ℕ) → i < length ks → (table_curve kind ks).V (knot_at ks i).x ≡ (knot_at ks i).y
  pub exact_at : (i : ℕ) → i < length ks → (table_curve kind ks).E (whole (knot_at ks i).x) ≈ᶠ whole (knot_at ks i).y
  pub value_low : (i : ℕ) (x : ℤ) → suc i < length ks → (knot_at ks i).x ≤ℤ x → x ≤ℤ (knot_at ks (suc i)).x
      → (knot_at ks i).y ≤ℤ (table_curve kind ks).V x
  pub value_high : (i : ℕ) (x : ℤ) → suc i < length ks → (knot_at ks i).x ≤ℤ x → x ≤ℤ (knot_at ks (suc i)).x
      → (table_curve kind ks).V x ≤ℤ (knot_at ks (suc i)).y
  pub exact_low : (i : ℕ) (q : Fraction) → suc i < length ks → whole (knot_at ks i).x ≤ᶠ q
      → q ≤ᶠ whole (knot_at ks (suc i)).x → whole (knot_at ks i).y ≤ᶠ (table_curve kind ks).E q
  pub exact_high : (i : ℕ) (q : Fraction) → suc i < length ks → whole (knot_at ks i).x ≤ᶠ q
      → q ≤ᶠ whole (knot_at ks (suc i)).x → (table_curve kind ks).E q ≤ᶠ whole (knot_at ks (suc i)).y
  pub value_before : (x : ℤ) → x ≤ℤ (knot_at ks 0).x → (table_curve kind ks).V x ≡ (knot_at ks 0).y
  pub value_after : (x : ℤ) → (knot_at ks (length ks - 1)).x ≤ℤ x
      → (table_curve kind ks).V x ≡ (knot_at ks (length ks - 1)).y
  pub exact_before : (q : Fraction) → q ≤ᶠ whole (knot_at ks 0).x
      → (table_curve kind ks).E q ≈ᶠ whole (knot_at ks 0).y
  pub exact_after : (q : Fraction) → whole (knot_at ks (length ks - 1)).x ≤ᶠ q
      → (table_curve kind ks).E q ≈ᶠ whole (knot_at ks (length ks - 1)).y

-- ---- each kind between two neighbours

-- steps: from a knot on, short of the next, its y; the value is the exact value
pub record StepLaw (ks : List Knot) : Type 0 where
  pub exact_on : (i : ℕ) (q : Fraction) → suc i < length ks → whole (knot_at ks i).x ≤ᶠ q
      → leᶠ (whole (knot_at ks (suc i)).x) q ≡ false → (table_curve Step ks).E q ≈ᶠ whole (knot_at ks i).y
  pub value_is : (x : ℤ) → whole ((table_curve Step ks).V x) ≈ᶠ (table_curve Step ks).E (whole x)

-- lines: the straight piece from knot to knot; the value is the exact value rounded
pub record LineLaw (ks : List Knot) : Type 0 where
  pub exact_on : (i : ℕ) (q : Fraction) → suc i < length ks → whole (knot_at ks i).x ≤ᶠ q
      → q ≤ᶠ whole (knot_at ks (suc i)).x
      → (table_curve Line ks).E q ≈ᶠ line_exact (knot_at ks i) (width (knot_at ks) i) (height (knot_at ks) i) q
  pub value_is : (x : ℤ) → (table_curve Line ks).V x ≡ roundᶠ ((table_curve Line ks).E (whole x))

-- cubics: the Hermite piece with the slopes at its knots, and its value with the stored slopes; no slope is more than
-- three secants of the piece before it or after it
pub record CubicLaw (ks : List Knot) : Type 0 where
  pub exact_on : (i : ℕ) (q : Fraction) → suc i < length ks → whole (knot_at ks i).x ≤ᶠ q
      → q ≤ᶠ whole (knot_at ks (suc i)).x
      → (table_curve Cubic ks).E q
      ≈ᶠ cubic_exact (knot_at ks i) (width (knot_at ks) i) (height (knot_at ks) i) (slope_of ks i)
      (slope_of ks (suc i)) q
  pub value_on : (i : ℕ) (x : ℤ) → suc i < length ks → (knot_at ks i).x ≤ℤ x → x ≤ℤ (knot_at ks (suc i)).x
      → (table_curve Cubic ks).V x
      ≡ cubic_value (knot_at ks i) (width (knot_at ks) i) (height (knot_at ks) i) (stored (slope_of ks i))
      (stored (slope_of ks (suc i))) x
  pub gentle_start : (i : ℕ) → suc i < length ks → slope_of ks i ≤ᶠ whole (pos 3) *ᶠ secant (knot_at ks) i
  pub gentle_end : (i : ℕ) → suc i < length ks → slope_of ks (suc i) ≤ᶠ whole (pos 3) *ᶠ secant (knot_at ks) i

-- All of it, of every list that a table can have; and such a table is a lawful curve.
pub record TableLaws : Type 0 where
  pub keeps : (kind : Kind) (ks : List Knot) → fewest ≤ length ks → lawful ks ≡ true → Rules (table_curve kind ks)
  pub through : (kind : Kind) (ks : List Knot) → fewest ≤ length ks → lawful ks ≡ true → TableLaw kind ks
  pub steps : (ks : List Knot) → fewest ≤ length ks → lawful ks ≡ true → StepLaw ks
  pub lines : (ks : List Knot) → fewest ≤ length ks → lawful ks ≡ true → LineLaw ks
  pub cubics : (ks : List Knot) → fewest ≤ length ks → lawful ks ≡ true → CubicLaw ks

-- ---- worked readings

-- K is (0, 0), (10, 10), (20, 40); G is the line through (0, 0), (100, 50)
abbrev pub K : List Knot
K = knot (pos 0) (pos 0) ∷ knot (pos 10) (pos 10) ∷ knot (pos 20) (pos 40) ∷ []

abbrev pub step_K : Meaning
step_K = table_curve Step K

abbrev pub cubic_K : Meaning
cubic_K = table_curve Cubic K

abbrev pub G : Meaning
G = table_curve Line (knot (pos 0) (pos 0) ∷ knot (pos 100) (pos 50) ∷ [])

-- (0, 0), (10, 10), (40, 100), and the line (-3, -1), (-1, 0)
abbrev pub uneven : List Knot
uneven = knot (pos 0) (pos 0) ∷ knot (pos 10) (pos 10) ∷ knot (pos 40) (pos 100) ∷ []

abbrev pub below_zero : Meaning
below_zero = table_curve Line (knot (negsuc 2) (negsuc 0) ∷ knot (negsuc 0) (pos 0) ∷ [])

pub record WorkedReadings : Type 0 where
  pub root_before : root_value (negsuc 0) ≡ pos 0
  pub root_0 : root_value (pos 0) ≡ pos 0
  pub root_1 : root_value (pos 1) ≡ pos 256
  pub root_2 : root_value (pos 2) ≡ pos 362
  pub root_1023 : root_value (pos 1023) ≡ pos 8187
  pub root_beyond : root_value (pos 1024) ≡ pos 8187
  pub step_before : step_K.V (negsuc 0) ≡ pos 0
  pub step_9 : step_K.V (pos 9) ≡ pos 0
  pub step_10 : step_K.V (pos 10) ≡ pos 10
  pub step_8191 : step_K.V (pos 8191) ≡ pos 40
  pub step_rise : step_K.S ≡ 30
  pub cubic_slope_0 : stored (slope_of K 0) ≡ pos 2048
  pub cubic_slope_1 : stored (slope_of K 1) ≡ pos 3072
  pub cubic_slope_2 : stored (slope_of K 2) ≡ pos 6144
  pub cubic_5 : cubic_K.V (pos 5) ≡ pos 4
  pub cubic_15 : cubic_K.V (pos 15) ≡ pos 23
  pub cubic_rise : cubic_K.S ≡ 9
  pub uneven_slope : stored (slope_of uneven 1) ≡ pos 2835
  pub line_half : below_zero.V (negsuc 1) ≡ pos 0
  pub chain_15 : (chain G cubic_K).V (pos 15) ≡ pos 12
  pub chain_rise : (chain G cubic_K).S ≡ 9
  pub chain_radius : (chain G cubic_K).R ≡ 2
