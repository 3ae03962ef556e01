-- The root curve keeps the rules.
use Rattle.std.specs.Prelude.{◌≡◌, ℕ, suc, ◌+◌, ◌-◌, ◌*◌, ◌<◌, ◌≤◌, false, ℤ, pos, negsuc, ◌≤ℤ◌, unsigned_abs}
use Rattle.std.proofs.Common.{sym, subst, subst₂, arith}
use Rattle.std.proofs.Math.Decide.{dec_le, dec_lt}
use Rattle.std.proofs.lemmas.Int.{ints}
use Rattle.engine.specs.Fraction.{Fraction, whole, ◌≤ᶠ◌, ◌≈ᶠ◌, leᶠ}
use Rattle.engine.specs.Coordinates.{Coordinate, hold}
use Rattle.engine.specs.Curves.{Rules}
use Rattle.engine.specs.Pieces.{width, height, line_exact, line_from, line_through}
use Rattle.engine.specs.Root.{root_entry, root_value, root_exact, root_knot, root_curve}
use Rattle.engine.specs.Theorems.{PlainCurvesKeep, RootLaw}
use Rattle.engine.specs.Orders.{by_test, ≤ᶠ_refl, ≤ᶠ_trans, ≈ᶠ_trans, ≈ᶠ_same, whole-≤, leᶠ_true, same_test}
use Rattle.engine.specs.Sums.{+ᶠ_up, whole_within}
use Rattle.engine.specs.Layers.{bare_rules}
use Rattle.engine.specs.Joins.{Joined, joined_mono, joined_rise, joined_fits, joined_before, joined_after}
use Rattle.engine.specs.Places.{Lawful, wide, inside, x_order}
use Rattle.engine.specs.Lines.{line_joined, line_on, line_start}
use Rattle.engine.specs.Roots.{squares, root_low, root_high, root_mono, root_greatest}

-- ---- the entries as knots of straight pieces

entry_mono : (i j : ℕ) → i ≤ j → root_entry i ≤ root_entry j
entry_mono i j h = root_mono (65536 * i) (65536 * j) (omega arith)

entry_small : (i : ℕ) → i ≤ 1023 → root_entry i ≤ 8191
entry_small i h =
    elim (dec_le (root_entry i) 8191)
    [ yes l ↦ l | no m ↦ absurd (omega (arith, root_low (65536 * i), squares 8192 (root_entry i) (omega arith))) ]

-- the square of (entry i) + 257 would pass 65536 × (i + 1)
entry_step : (i : ℕ) → root_entry (suc i) ≤ root_entry i + 256
entry_step i =
    elim (dec_le (root_entry (suc i)) (root_entry i + 256)) [
      | yes l ↦ l
      | no m ↦ absurd
          (omega
          (arith, root_low (65536 * suc i), root_high (65536 * i), squares (root_entry i + 257) (root_entry (suc i)) (omega arith)))
    ]

law : Lawful root_knot 1023
law = record {
  x_fits = λ i h. record { low = omega (arith, ints); high = omega (arith, ints) };
  y_fits = λ i h. let s = entry_small i h in record { low = omega (arith, ints); high = omega (arith, ints) };
  x_rises = λ i h. omega (arith, ints);
  y_rises = λ i h. let s = entry_mono i (suc i) (omega arith) in omega (arith, ints);
}

-- each piece is 1 wide, and as high as the step from entry to entry
width_is : (i : ℕ) → width root_knot i ≡ 1
unfolding width
width_is i = omega (arith, ints)

height_is : (i : ℕ) → height root_knot i ≡ root_entry (suc i) - root_entry i
unfolding height
height_is i = let s = entry_mono i (suc i) (omega arith) in omega (arith, ints)

gentle : (i : ℕ) → i < 1023 → height root_knot i ≤ 256 * width root_knot i
gentle i h = rw (width_is i, height_is i) (omega (arith, entry_step i))

joined : Joined root_knot 1023 256 (line_from root_knot 1023)
joined = line_joined root_knot 1023 law 256 gentle

-- ---- the exact curve

-- between an entry and the next it is the straight piece
straight : (i : ℕ) (q : Fraction) → i < 1023 → whole (pos i) ≤ᶠ q → q ≤ᶠ whole (pos (suc i))
    → root_exact q ≈ᶠ line_exact (root_knot i) 1 (root_entry (suc i) - root_entry i) q
unfolding root_exact
straight i q l h r =
    subst₂ (λ w d. line_through root_knot 1023 q ≈ᶠ line_exact (root_knot i) w d q) (width_is i) (height_is i)
    (line_on root_knot 1023 law 256 gentle i q l h r)

-- below the first entry, and from the last on, it is flat
below_first : (q : Fraction) → leᶠ (whole (pos 0)) q ≡ false → root_exact q ≡ whole (pos (root_entry 0))
unfolding root_exact line_through
below_first q e = joined_before root_knot 1023 256 (line_from root_knot 1023) joined q e

from_last : (q : Fraction) → whole (pos 1023) ≤ᶠ q → root_exact q ≡ whole (pos (root_entry 1023))
unfolding root_exact line_through
from_last q h = joined_after root_knot 1023 256 (line_from root_knot 1023) joined q h

exact_mono : (p q : Fraction) → p ≤ᶠ q → root_exact p ≤ᶠ root_exact q
unfolding root_exact line_through
exact_mono p q h = joined_mono root_knot 1023 256 (line_from root_knot 1023) joined p q h

-- ---- at a whole number it is the entry there

-- at an entry before the last
at_entry : (n : ℕ) → n < 1023 → root_exact (whole (pos n)) ≈ᶠ whole (pos (root_entry n))
unfolding root_exact
at_entry n h =
    let start = ≤ᶠ_refl (whole (pos n)) in
    let end = x_order root_knot 1023 law n h in
    ≈ᶠ_trans (line_on root_knot 1023 law 256 gentle n (whole (pos n)) h start end)
    (line_start (root_knot n) (width root_knot n) (height root_knot n) (wide root_knot 1023 law n h)
    (inside root_knot 1023 law n (whole (pos n)) h start end))

-- up to the first entry: below it, or just at it
flat_below : (q : Fraction) → q ≤ᶠ whole (pos 0) → root_exact q ≈ᶠ whole (pos (root_entry 0))
flat_below q h = by_test (leᶠ (whole (pos 0)) q)
    (λ t.
    ≈ᶠ_trans (exact_mono q (whole (pos 0)) h, exact_mono (whole (pos 0)) q (leᶠ_true (whole (pos 0)) q t))
    (at_entry 0 (omega arith)))
    (λ f. ≈ᶠ_same (below_first q f))

-- x held to 0..1023
slot_inside : (n : ℕ) → n < 1023 → unsigned_abs (hold (pos 0) (pos 1023) (pos n)) ≡ n
slot_inside n h = grind (arith, ints)

slot_last : (n : ℕ) → 1023 ≤ n → unsigned_abs (hold (pos 0) (pos 1023) (pos n)) ≡ 1023
slot_last n h = grind (arith, ints)

at_whole : (x : ℤ) → root_exact (whole x) ≈ᶠ whole (root_value x)
at_whole (negsuc n) = ≈ᶠ_same (below_first (whole (negsuc n)) (same_test (pos 0) (negsuc n)))
at_whole (pos n) = elim (dec_lt n 1023) [
  | yes h ↦ subst (λ i. root_exact (whole (pos n)) ≈ᶠ whole (pos (root_entry i))) (sym (slot_inside n h)) (at_entry n h)
  | no m ↦ subst (λ i. root_exact (whole (pos n)) ≈ᶠ whole (pos (root_entry i))) (sym (slot_last n (omega arith)))
      (≈ᶠ_same (from_last (whole (pos n)) (whole-≤ (pos 1023) (pos n) (omega (arith, ints)))))
]

-- ---- the rules

slot_small : (x : ℤ) → unsigned_abs (hold (pos 0) (pos 1023) x) ≤ 1023
slot_small x = grind (arith, ints)

slot_mono : (x y : ℤ) → x ≤ℤ y → unsigned_abs (hold (pos 0) (pos 1023) x) ≤ unsigned_abs (hold (pos 0) (pos 1023) y)
slot_mono x y h = grind (arith, ints)

pos_mono : (m n : ℕ) → m ≤ n → pos m ≤ℤ pos n
pos_mono m n h = omega (arith, ints)

small : (n : ℕ) → n ≤ 8191 → Coordinate (pos n)
small n h = record { low = omega (arith, ints); high = omega (arith, ints) }

pub root_rules : Rules root_curve
unfolding root_exact line_through
root_rules = record {
  rise_fits = omega arith;
  radius_fits = omega arith;
  value_fits = λ x _. small _ (entry_small (unsigned_abs (hold (pos 0) (pos 1023) x)) (slot_small x));
  value_mono = λ x y _ _ h. pos_mono _ _ (entry_mono _ _ (slot_mono x y h));
  exact_fits =
      λ q _. joined_fits root_knot 1023 256 (line_from root_knot 1023) joined
      (λ i l. whole_within (root_knot i).y (law.y_fits i l)) q;
  exact_mono = λ p q _ _ h. exact_mono p q h;
  exact_rise = λ n p q _ _ h r. joined_rise root_knot 1023 256 (line_from root_knot 1023) joined n p q h r;
  value_low = λ x _. ≤ᶠ_trans (at_whole x).0 (+ᶠ_up (whole (root_value x)) 0);
  value_high = λ x _. ≤ᶠ_trans (at_whole x).1 (+ᶠ_up _ 0);
}

pub plain_curves_keep : PlainCurvesKeep
plain_curves_keep = record { bare_keeps = bare_rules; root_keeps = root_rules }

pub root_law_lem : RootLaw
root_law_lem = record {
  entries = λ i. root_greatest (65536 * i);
  rising = entry_mono;
  straight = straight;
  flat_below = flat_below;
  flat_above = λ q h. ≈ᶠ_same (from_last q h);
}
