-- From the tests on a list of knots to the rules by index.
use Rattle.std.specs.Prelude.{◌≡◌, ℕ, zero, suc, ◌+◌, ◌-◌, ◌<◌, ◌≤◌, Bool, true, List, [], ◌∷◌, length, ℤ, ◌<ℤ◌, int_le, int_lt}
use Rattle.std.proofs.Common.{subst, arith}
use Rattle.std.proofs.lemmas.Int.{ints}
use Rattle.std.proofs.lemmas.Bool.{and_parts}
use Rattle.engine.specs.Places.{LawfulTable}
use Rattle.engine.specs.Coordinates.{Coordinate, coordinate, lowest}
use Rattle.engine.specs.declared.knot.Knot.{Knot}
use Rattle.engine.specs.Orders.{leZ_true}
use Rattle.engine.specs.Knots.{fewest, knot_at, fits, each, neighbours, rightward, near, upward, lawful}
use Rattle.engine.specs.Neighbours.{Neighbours}

-- ---- what a test says of its numbers

pub is_coordinate_lem : (x : ℤ) → coordinate x ≡ true → Coordinate x
is_coordinate_lem x h =
    let p = and_parts (int_le lowest x) _ h in
    record { low = omega (arith, ints, p.0); high = omega (arith, ints, p.1) }

ltZ_true : (a b : ℤ) → int_lt a b ≡ true → a <ℤ b
ltZ_true a b e = omega (arith, ints)

-- ---- a test of the whole list, at one index

pub each_at : (p : Knot → Bool) (ks : List Knot) → each p ks ≡ true → (i : ℕ) → i < length ks
    → p (knot_at ks i) ≡ true
each_at p [] h i l = absurd (omega arith)
each_at p (k ∷ ks) h zero l = (and_parts (p k) _ h).0
each_at p (k ∷ ks) h (suc i) l = each_at p ks (and_parts (p k) _ h).1 i (omega arith)

-- of neighbours, at knot i and the next
pub neighbours_at : (p : Knot → Knot → Bool) (ks : List Knot) → neighbours p ks ≡ true → (i : ℕ) → suc i < length ks
    → p (knot_at ks i) (knot_at ks (suc i)) ≡ true
neighbours_at p [] h i l = absurd (omega arith)
neighbours_at p (a ∷ []) h i l = absurd (omega arith)
neighbours_at p (a ∷ (b ∷ ks)) h zero l = (and_parts (p a b) _ h).0
neighbours_at p (a ∷ (b ∷ ks)) h (suc i) l = neighbours_at p (b ∷ ks) (and_parts (p a b) _ h).1 i (omega arith)

-- ---- the rules of a table

module _ (ks : List Knot) (ok : lawful ks ≡ true) where
  pub parts : (each fits ks ≡ true) × (neighbours rightward ks ≡ true) × (neighbours near ks ≡ true) ×
      (neighbours upward ks ≡ true)
  parts =
      let p = and_parts (each fits ks) _ ok in
      let q = and_parts (neighbours rightward ks) _ p.1 in
      let r = and_parts (neighbours near ks) _ q.1 in
      (p.0, q.0, r.0, r.1)

  -- both parts of a knot are coordinates
  pub fits_at : (i : ℕ) → i < length ks → Coordinate (knot_at ks i).x × Coordinate (knot_at ks i).y
  fits_at i l =
      let p = and_parts (coordinate (knot_at ks i).x) _ (each_at fits ks parts.0 i l) in
      (is_coordinate_lem _ p.0, is_coordinate_lem _ p.1)

  pub lawful_list : fewest ≤ length ks → LawfulTable (knot_at ks) (length ks - 1)
  lawful_list some = record {
    knots = record {
      x_fits = λ i l. (fits_at i (omega arith)).0;
      y_fits = λ i l. (fits_at i (omega arith)).1;
      x_rises = λ i l. ltZ_true _ _ (neighbours_at rightward ks parts.1 i (omega arith));
      y_rises = λ i l. leZ_true _ _ (neighbours_at upward ks parts.3 i (omega arith));
    };
    x_near = λ i l. leZ_true _ _ (neighbours_at near ks parts.2 i (omega arith));
  }

  -- the piece from knot i to the next
  pub piece_at_lem : (i : ℕ) → suc i < length ks → Neighbours (knot_at ks i) (knot_at ks (suc i))
  piece_at_lem i l = record {
    x_start = (fits_at i (omega arith)).0;
    y_start = (fits_at i (omega arith)).1;
    x_end = (fits_at (suc i) l).0;
    y_end = (fits_at (suc i) l).1;
    rises = ltZ_true _ _ (neighbours_at rightward ks parts.1 i l);
    near = leZ_true _ _ (neighbours_at near ks parts.2 i l);
    upward = leZ_true _ _ (neighbours_at upward ks parts.3 i l);
  }

  -- the same by the index of its end, and with i + 1
  pub piece_before : (i : ℕ) → 0 < i → i < length ks → Neighbours (knot_at ks (i - 1)) (knot_at ks i)
  piece_before zero some l = absurd (omega arith)
  piece_before (suc i) some l =
      let e : i ≡ suc i - 1 = omega arith in subst (λ j. Neighbours (knot_at ks j) (knot_at ks (suc i))) e (piece_at_lem i l)

  pub piece_after : (i : ℕ) → i + 1 < length ks → Neighbours (knot_at ks i) (knot_at ks (i + 1))
  piece_after i l =
      let e : suc i ≡ i + 1 = omega arith in
      subst (λ j. Neighbours (knot_at ks i) (knot_at ks j)) e (piece_at_lem i (omega arith))
