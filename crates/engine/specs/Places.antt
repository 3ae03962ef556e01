-- Places in a piece, and the knots of a lawful curve.
use Rattle.std.specs.Prelude.{◌≡◌, ℕ, suc, ◌+◌, ◌-◌, ◌*◌, ◌<◌, ◌≤◌, false, ℤ, pos, ◌+ℤ◌, ◌-ℤ◌, ◌≤ℤ◌, ◌<ℤ◌, unsigned_abs}
use Rattle.std.proofs.Common.{ap, mul-le-mul, arith}
use Rattle.std.proofs.Math.Nat.{le_dest}
use borrow.Author.Differences.{ints, up, down}
use Rattle.engine.specs.Coordinates.{Coordinate}
use Rattle.engine.specs.Fraction.{Fraction, den, whole, ◌+ᶠ◌, ◌-ᶠ◌, ◌≤ᶠ◌, leᶠ}
use Rattle.engine.specs.declared.knot.Knot.{Knot}
use Rattle.engine.specs.Pieces.{widest, width, height}
use Rattle.engine.specs.Orders.{by_test, ≤ᶠ_out, ≤ᶠ_refl, ≤ᶠ_trans, whole-≤, whole-≤_out, leᶠ_true}
use Rattle.engine.specs.Terms.{Is, Is-Val, Val, Val-shift, Val-≤, shifted}
use Rattle.engine.specs.Lags.{lag, Val-lag}

-- ---- one piece

-- where an argument q stands in a piece from x of width h: q - x and x + h - q, as naturals over the denominator of q
pub record Place (x : ℤ) (h : ℕ) (q : Fraction) : Type 0 where
  pub from_start : ℕ
  pub to_end : ℕ
  pub offset : Is (q -ᶠ whole x) from_start (den q)
  pub split : from_start + to_end ≡ h * den q
  pub terms : Val q (up x * den q + from_start) (down x * den q) (den q)

-- an argument between the ends of a piece has a place in it
pub place : (x x' : ℤ) (h : ℕ) (q : Fraction) → x' ≡ x +ℤ pos h → whole x ≤ᶠ q → q ≤ᶠ whole x' → Place x h q
unfolding ◌-ᶠ◌
place x x' h q e l r = record {
  from_start = u.0;
  to_end = v.0;
  offset = record { top = u.0; num_is = omega (arith, ints, u.1); same = rw one (omega arith) };
  split = omega (arith, v.1);
  terms = record { same = omega (arith, ap (λ n. n * den q) u.1) };
}
  where
    one : suc (suc q.less * 1 - 1) ≡ suc q.less
    one = omega arith

    u : (k : ℕ) × (down q.num + up x * den q + k ≡ up q.num + down x * den q)
    u = le_dest (omega (arith, ≤ᶠ_out l))

    wide : up x' + down x ≡ down x' + up x + h
    wide = omega (arith, ints, e)

    v : (k : ℕ) × (u.0 + k ≡ h * den q)
    v = le_dest (omega (arith, ≤ᶠ_out r, u.1, ap (λ n. n * den q) wide))

-- S·q less the value of a piece, from its place and what it adds to y
lag_is : (S xu xd yu yd d U W F : ℕ)
    → (S * (xu * d + U) * W + (yd * W + 0) * d ≡ (S * xu + yd) * (d * W) + S * U * W)
    × (S * (xd * d) * W + (yu * W + F) * d ≡ (S * xd + yu) * (d * W) + F * d)
lag_is S xu xd yu yd d U W F = (omega arith, omega arith)

-- within a piece the lag does not fall where what it adds to y rises slowly
pub lag_piece : (S : ℕ) (x y : ℤ) (p q w w' : Fraction) (U U' F F' W W' : ℕ) → 0 < W → 0 < W'
    → Val p (up x * den p + U) (down x * den p) (den p) → Val q (up x * den q + U') (down x * den q) (den q)
    → Is w F W → Is w' F' W'
    → S * U * W * (den q * W') + F' * den q * (den p * W) ≤ S * U' * W' * (den p * W) + F * den p * (den q * W')
    → lag S p (whole y +ᶠ w) ≤ᶠ lag S q (whole y +ᶠ w')
lag_piece S x y p q w w' U U' F F' W W' k k' i j v v' h =
    Val-≤ (mul-le-mul {n₁ = 1} {n₂ = den p} (omega arith) k) (mul-le-mul {n₁ = 1} {n₂ = den q} (omega arith) k')
    (one p w U F W i v) (one q w' U' F' W' j v')
    (shifted (S * up x + down y) (S * down x + up y) (S * U * W) (F * den p) (den p * W) (S * U' * W') (F' * den q)
    (den q * W') h)
  where
    one : (p w : Fraction) (U F W : ℕ) → Val p (up x * den p + U) (down x * den p) (den p) → Is w F W
        → Val (lag S p (whole y +ᶠ w)) ((S * up x + down y) * (den p * W) + S * U * W)
        ((S * down x + up y) * (den p * W) + F * den p) (den p * W)
    one p w U F W i v =
        let e = lag_is S (up x) (down x) (up y) (down y) (den p) U W F in
        rw (← e.0, ← e.1) (Val-lag S i (Val-shift y (Is-Val v)))

-- ---- lawful knots

-- Both parts of a knot are coordinates; each x is above the one before, and no y is below the one before.
pub record Lawful (k : ℕ → Knot) (top : ℕ) : Type 0 where
  pub x_fits : (i : ℕ) → i ≤ top → Coordinate (k i).x
  pub y_fits : (i : ℕ) → i ≤ top → Coordinate (k i).y
  pub x_rises : (i : ℕ) → i < top → (k i).x <ℤ (k (suc i)).x
  pub y_rises : (i : ℕ) → i < top → (k i).y ≤ℤ (k (suc i)).y

-- a number and its way to a greater one
pub way : (a b : ℤ) → a ≤ℤ b → b ≡ a +ℤ pos (unsigned_abs (b -ℤ a))
way a b h = omega (arith, ints)

module _ (k : ℕ → Knot) (top : ℕ) (law : Lawful k top) where
  -- a knot is its neighbour before, plus the width and the height of the piece between
  pub x_is : (i : ℕ) → i < top → (k (suc i)).x ≡ (k i).x +ℤ pos (width k i)
  unfolding width
  x_is i l = way (k i).x (k (suc i)).x (let h = law.x_rises i l in omega (arith, ints))

  pub y_is : (i : ℕ) → i < top → (k (suc i)).y ≡ (k i).y +ℤ pos (height k i)
  unfolding height
  y_is i l = way (k i).y (k (suc i)).y (law.y_rises i l)

  pub wide : (i : ℕ) → i < top → 0 < width k i
  wide i l = let h = law.x_rises i l in let e = x_is i l in omega (arith, ints)

  pub x_order : (i : ℕ) → i < top → whole (k i).x ≤ᶠ whole (k (suc i)).x
  x_order i l = let h = law.x_rises i l in whole-≤ (k i).x (k (suc i)).x (omega (arith, ints))

  -- an argument up to a knot is below the next
  pub x_strict : (i : ℕ) (q : Fraction) → i < top → q ≤ᶠ whole (k i).x → leᶠ (whole (k (suc i)).x) q ≡ false
  x_strict i q l h = by_test (leᶠ (whole (k (suc i)).x) q)
      (λ t. absurd (falls (whole-≤_out (k (suc i)).x (k i).x (≤ᶠ_trans (leᶠ_true (whole (k (suc i)).x) q t) h))))
      (λ f. f)
    where
      falls : (k (suc i)).x ≤ℤ (k i).x → ⊥
      falls g = let s = law.x_rises i l in omega (arith, ints)

  -- an argument between two neighbours has a place in their piece
  pub inside : (i : ℕ) (q : Fraction) → i < top → whole (k i).x ≤ᶠ q → q ≤ᶠ whole (k (suc i)).x
      → Place (k i).x (width k i) q
  inside i q l a b = place (k i).x (k (suc i)).x (width k i) q (x_is i l) a b

  -- and so have the two themselves
  pub start_place : (i : ℕ) → i < top → Place (k i).x (width k i) (whole (k i).x)
  start_place i l = inside i (whole (k i).x) l (≤ᶠ_refl (whole (k i).x)) (x_order i l)

  pub end_place : (i : ℕ) → i < top → Place (k i).x (width k i) (whole (k (suc i)).x)
  end_place i l = inside i (whole (k (suc i)).x) l (x_order i l) (≤ᶠ_refl (whole (k (suc i)).x))

-- the knots of a table: lawful, and neighbours are at most 4096 apart
pub record LawfulTable (k : ℕ → Knot) (top : ℕ) : Type 0 where
  pub knots : Lawful k top
  pub x_near : (i : ℕ) → i < top → (k (suc i)).x ≤ℤ ((k i).x +ℤ pos widest)

pub narrow : (k : ℕ → Knot) (top : ℕ) → LawfulTable k top → (i : ℕ) → i < top → width k i ≤ widest
narrow k top law i l = let h = law.x_near i l in let e = x_is k top law.knots i l in omega (arith, ints)
