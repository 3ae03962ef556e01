-- The bare curve keeps the rules, and every layer over lawful curves does.
use Rattle.std.specs.Prelude.{◌≡◌, ℕ, zero, suc, ◌+◌, ◌*◌, ◌<◌, ◌≤◌, min, ℤ, pos, ◌+ℤ◌, ◌≤ℤ◌}
use Rattle.std.proofs.Common.{sym, subst, ◌∙◌, ⊎_elim, mul_assoc, mul-zero, arith}
use Rattle.std.proofs.lemmas.Int.{ints}
use Rattle.std.proofs.lemmas.Bool.{cases_lt}
use Rattle.engine.specs.Fraction.{Fraction, whole, ◌+ᶠ◌, ◌≤ᶠ◌}
use Rattle.engine.specs.Coordinates.{Coordinate, Within, furthest, holdᶠ, lowest, highest}
use Rattle.engine.specs.Curves.{Meaning, Rules, bare, plus, offset, clamp, chain}
use Rattle.engine.specs.Theorems.{LayersKeep}
use Rattle.engine.specs.Orders.{≤ᶠ_trans, ≤ᶠ_total}
use Rattle.engine.specs.Sums.{+ᶠ_up, +ᶠ_both, +ᶠ_moved, steps, whole_sum, apart, whole_within}
use Rattle.engine.specs.Holds.{held_near, held_mono, held_within, hold_mono, hold_fits, hold_whole}

pub bare_rules : Rules bare
bare_rules = record {
  rise_fits = omega arith;
  radius_fits = omega arith;
  value_fits = λ x c. c;
  value_mono = λ x y _ _ h. h;
  exact_fits = λ q f. f;
  exact_mono = λ p q _ _ h. h;
  exact_rise = λ n p q _ _ h w. subst (λ k. q ≤ᶠ p +ᶠ whole (pos k)) (omega arith) w;
  value_low = λ x c. +ᶠ_up (whole x) 0;
  value_high = λ x c. +ᶠ_up (whole x) 0;
}

-- ---- clamp and offset

-- the rules but for the ranges: what a clamp needs of the curve below
record Steady (m : Meaning) : Type 0 where
  rise_fits : m.S ≤ furthest
  radius_fits : m.R ≤ furthest
  value_mono : (x y : ℤ) → Coordinate x → Coordinate y → x ≤ℤ y → m.V x ≤ℤ m.V y
  exact_mono : (p q : Fraction) → Within p → Within q → p ≤ᶠ q → m.E p ≤ᶠ m.E q
  exact_rise : (n : ℕ) (p q : Fraction) → Within p → Within q → p ≤ᶠ q → q ≤ᶠ p +ᶠ whole (pos n)
      → m.E q ≤ᶠ m.E p +ᶠ whole (pos (m.S * n))
  value_low : (x : ℤ) → Coordinate x → m.E (whole x) ≤ᶠ whole (m.V x) +ᶠ whole (pos m.R)
  value_high : (x : ℤ) → Coordinate x → whole (m.V x) ≤ᶠ m.E (whole x) +ᶠ whole (pos m.R)

held_rules : (a b : ℤ) (m : Meaning) → Coordinate a → Coordinate b → a ≤ℤ b → Steady m → Rules (clamp a b m)
held_rules a b m ca cb band k = record {
  rise_fits = k.rise_fits;
  radius_fits = k.radius_fits;
  value_fits = λ x _. hold_fits a b band ca cb (m.V x);
  value_mono = λ x y cx cy h. hold_mono a b band _ _ (k.value_mono x y cx cy h);
  exact_fits = λ q _. held_within a b band ca cb (m.E q);
  exact_mono = λ p q fp fq h. held_mono a b band _ _ (k.exact_mono p q fp fq h);
  exact_rise = λ n p q fp fq h w. held_near a b band _ _ _ (k.exact_rise n p q fp fq h w);
  value_low =
      λ x c. subst (λ v. holdᶠ a b (m.E (whole x)) ≤ᶠ v +ᶠ whole (pos m.R)) (hold_whole a b (m.V x))
      (held_near a b band _ _ _ (k.value_low x c));
  value_high =
      λ x c. subst (λ v. v ≤ᶠ holdᶠ a b (m.E (whole x)) +ᶠ whole (pos m.R)) (hold_whole a b (m.V x))
      (held_near a b band _ _ _ (k.value_high x c));
}

pub clamp_rules : (a b : ℤ) (m : Meaning) → Coordinate a → Coordinate b → a ≤ℤ b → Rules m → Rules (clamp a b m)
clamp_rules a b m ca cb band k =
    held_rules a b m ca cb band
    (record {
      rise_fits = k.rise_fits;
      radius_fits = k.radius_fits;
      value_mono = k.value_mono;
      exact_mono = k.exact_mono;
      exact_rise = k.exact_rise;
      value_low = k.value_low;
      value_high = k.value_high;
    })

-- a lawful curve plus c keeps all but the ranges
plus_steady : (c : ℤ) (m : Meaning) → Rules m → Steady (plus c m)
plus_steady c m k = record {
  rise_fits = k.rise_fits;
  radius_fits = k.radius_fits;
  value_mono = λ x y cx cy h. sum_mono (m.V x) (m.V y) (k.value_mono x y cx cy h);
  exact_mono = λ p q fp fq h. +ᶠ_both (whole c) (k.exact_mono p q fp fq h);
  exact_rise = λ n p q fp fq h w. +ᶠ_moved c _ _ _ (k.exact_rise n p q fp fq h w);
  value_low =
      λ x cx. ≤ᶠ_trans (+ᶠ_moved c m.R _ _ (k.value_low x cx))
      (+ᶠ_both (whole (pos m.R)) (whole_sum (m.V x) c).1);
  value_high = λ x cx. ≤ᶠ_trans (whole_sum (m.V x) c).0 (+ᶠ_moved c m.R _ _ (k.value_high x cx));
}
  where
    sum_mono : (a b : ℤ) → a ≤ℤ b → (a +ℤ c) ≤ℤ (b +ℤ c)
    sum_mono a b h = omega (arith, ints)

pub offset_rules : (c : ℤ) (m : Meaning) → Rules m → Rules (offset c m)
offset_rules c m k =
    held_rules lowest highest (plus c m) (record { low = record { le = tt }; high = record { le = tt } })
    (record { low = record { le = tt }; high = record { le = tt } }) (record { le = tt }) (plus_steady c m k)

-- ---- chain

-- g carries what is at most n above p to what is at most S n above its exact value there
carried : (g : Meaning) → Rules g → (n : ℕ) (p q : Fraction) → Within p → Within q → q ≤ᶠ p +ᶠ whole (pos n)
    → g.E q ≤ᶠ g.E p +ᶠ whole (pos (g.S * n))
carried g k n p q fp fq h = ⊎_elim
    (λ j. k.exact_rise n p q fp fq j h)
    (λ j. ≤ᶠ_trans (k.exact_mono q p fq fp j) (+ᶠ_up _ _))
    (≤ᶠ_total p q)

-- a distance held to 16383
near_held : (p q : Fraction) (n : ℕ) → Within p → Within q → p ≤ᶠ q +ᶠ whole (pos n)
    → p ≤ᶠ q +ᶠ whole (pos (min n furthest))
near_held p q n fp fq h = ⊎_elim
    (λ j. subst (λ i. p ≤ᶠ q +ᶠ whole (pos i)) (omega arith) (apart p q furthest fp fq (omega arith)))
    (λ j. subst (λ i. p ≤ᶠ q +ᶠ whole (pos i)) (omega arith) h)
    (cases_lt furthest n)

-- a rise held to 16383
pub rise_held : (p q : Fraction) (s n : ℕ) → Within p → Within q → q ≤ᶠ p +ᶠ whole (pos (s * n))
    → q ≤ᶠ p +ᶠ whole (pos (min s furthest * n))
rise_held p q s n fp fq h =
    ⊎_elim (λ j. over n j h) (λ j. subst (λ i. q ≤ᶠ p +ᶠ whole (pos (i * n))) (omega arith) h) (cases_lt furthest s)
  where
    over : (n : ℕ) → furthest < s → q ≤ᶠ p +ᶠ whole (pos (s * n)) → q ≤ᶠ p +ᶠ whole (pos (min s furthest * n))
    over zero j h = subst (λ i. q ≤ᶠ p +ᶠ whole (pos i)) (mul-zero s ∙ sym (mul-zero (min s furthest))) h
    over (suc n) j h =
        let e : min s furthest ≡ furthest = omega arith in rw e (apart q p (furthest * suc n) fq fp (omega arith))

pub chain_rules : (g f : Meaning) → Rules g → Rules f → Rules (chain g f)
chain_rules g f kg kf = record {
  rise_fits = omega arith;
  radius_fits = omega arith;
  value_fits = λ x cx. kg.value_fits _ (kf.value_fits x cx);
  value_mono =
      λ x y cx cy h. kg.value_mono _ _ (kf.value_fits x cx) (kf.value_fits y cy) (kf.value_mono x y cx cy h);
  exact_fits = λ q fq. kg.exact_fits _ (kf.exact_fits q fq);
  exact_mono =
      λ p q fp fq h. kg.exact_mono _ _ (kf.exact_fits p fp) (kf.exact_fits q fq) (kf.exact_mono p q fp fq h);
  exact_rise = λ n p q fp fq h w.
      let ep = kf.exact_fits p fp in
      let eq = kf.exact_fits q fq in
      rise_held _ _ (g.S * f.S) n (kg.exact_fits _ ep) (kg.exact_fits _ eq)
      (rw (mul_assoc g.S f.S n)
      (kg.exact_rise (f.S * n) _ _ ep eq (kf.exact_mono p q fp fq h) (kf.exact_rise n p q fp fq h w)));
  value_low = λ x cx.
      let vx = kf.value_fits x cx in
      let fx = whole_within _ vx in
      let ex = kf.exact_fits _ (whole_within x cx) in
      near_held _ _ _ (kg.exact_fits _ ex) (whole_within _ (kg.value_fits _ vx))
      (swap g.R (g.S * f.R) _ _
      (steps (g.S * f.R) g.R _ _ _ (carried g kg f.R _ _ fx ex (kf.value_low x cx))
      (kg.value_low _ vx)));
  value_high = λ x cx.
      let vx = kf.value_fits x cx in
      let fx = whole_within _ vx in
      let ex = kf.exact_fits _ (whole_within x cx) in
      near_held _ _ _ (whole_within _ (kg.value_fits _ vx)) (kg.exact_fits _ ex)
      (steps g.R (g.S * f.R) _ _ _ (kg.value_high _ vx) (carried g kg f.R _ _ ex fx (kf.value_high x cx)));
}
  where
    swap : (a b : ℕ) (p q : Fraction) → p ≤ᶠ q +ᶠ whole (pos (b + a)) → p ≤ᶠ q +ᶠ whole (pos (a + b))
    swap a b p q h = subst (λ i. p ≤ᶠ q +ᶠ whole (pos i)) (omega arith) h

pub layers_keep : LayersKeep
layers_keep = record { chain_keeps = chain_rules; offset_keeps = offset_rules; clamp_keeps = clamp_rules }
