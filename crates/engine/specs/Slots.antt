-- Where x falls among the knots of a list, and the knots on either side.
use Rattle.std.specs.Prelude.{◌≡◌, ℕ, suc, ◌-◌, ◌<◌, ◌≤◌, Bool, true, false, if◌then◌else◌, ◌&&◌, List, [], ◌∷◌, length, ℤ, Some, None, Option, int_le, nat_lt}
use Rattle.std.specs.List.{splice}
use Rattle.engine.specs.declared.knot.Knot.{Knot}
use Rattle.engine.specs.Edits.{before}
use Rattle.engine.specs.Knots.{knot, knot_at, rightward, with_knot, has_knot, without_knot}

-- n of the knots are at or below x: knot n - 1 is, and knot n is not
pub record Reached (ks : List Knot) (x : ℤ) (n : ℕ) : Type 0 where
  pub inside : n ≤ length ks
  pub from : 0 < n → int_le (knot_at ks (n - 1)).x x ≡ true
  pub short : n < length ks → int_le (knot_at ks n).x x ≡ false

-- the knot at i, where the list has one
abbrev pub knot_from : List Knot → ℕ → Option Knot
knot_from ks i = if nat_lt i (length ks) then Some (knot_at ks i) else None

-- a test of two neighbours, where there are two
abbrev pub linked : (Knot → Knot → Bool) → Option Knot → Option Knot → Bool
linked p None b = true
linked p (Some a) None = true
linked p (Some a) (Some b) = p a b

-- the same of a knot and its neighbours
abbrev pub fitted : (Knot → Knot → Bool) → Option Knot → Knot → Option Knot → Bool
fitted p a k b = linked p a (Some k) && linked p (Some k) b

-- The place of x in a list in order of x: the knots before `start` are left of x, those from `end` on are right of it,
-- and between them stands the knot at x, if there is one.
pub record Slotted (ks : List Knot) (x : ℤ) (start end : ℕ) : Type 0 where
  pub order : start ≤ end
  pub narrow : end ≤ suc start
  pub inside : end ≤ length ks
  pub left : (y : ℤ) → linked rightward (before ks start) (Some (knot x y)) ≡ true
  pub right : (y : ℤ) → linked rightward (Some (knot x y)) (knot_from ks end) ≡ true
  pub found : has_knot x ks ≡ nat_lt start end
  pub with_is : (y : ℤ) → with_knot x y ks ≡ splice ks start end (knot x y ∷ [])
  pub without_is : without_knot x ks ≡ splice ks start end []
