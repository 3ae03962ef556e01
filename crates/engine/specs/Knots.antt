-- Lists of knots: the rules of a knot table, and what its edits make of a list.
use Rattle.std.specs.Prelude.{ℕ, Bool, true, false, if◌then◌else◌, not, ◌&&◌, List, [], ◌∷◌, ℤ, pos, ◌+ℤ◌, neg_ℤ, int_le, int_lt, slice_index_or}
use Rattle.engine.specs.Coordinates.{coordinate, lowest, highest}
use Rattle.engine.specs.Pieces.{widest}
use Rattle.engine.specs.declared.knot.Knot.{Knot}

-- a table has at least 2 and at most 96 knots
abbrev pub fewest : ℕ
fewest = 2

abbrev pub most : ℕ
most = 96

-- the knot (x, y)
abbrev pub knot : ℤ → ℤ → Knot
knot x y = record { x = x; y = y }

-- the knot with index i; past the end of the list, the empty knot (0, 0)
abbrev pub empty : Knot
empty = knot (pos 0) (pos 0)

abbrev pub knot_at : List Knot → ℕ → Knot
knot_at ks i = slice_index_or ks i empty

-- ---- the rules of a table

-- both parts of a knot are coordinates
abbrev pub fits : Knot → Bool
fits k = coordinate k.x && coordinate k.y

-- b is right of a; by at most 4096; and not below it
abbrev pub rightward : Knot → Knot → Bool
rightward a b = int_lt a.x b.x

abbrev pub near : Knot → Knot → Bool
near a b = int_le b.x (a.x +ℤ pos widest)

abbrev pub upward : Knot → Knot → Bool
upward a b = int_le a.y b.y

-- a test of each knot, and of each two neighbours
abbrev pub each : (Knot → Bool) → List Knot → Bool
each p [] = true
each p (k ∷ ks) = p k && each p ks

abbrev pub neighbours : (Knot → Knot → Bool) → List Knot → Bool
neighbours p [] = true
neighbours p (a ∷ []) = true
neighbours p (a ∷ (b ∷ ks)) = p a b && neighbours p (b ∷ ks)

-- the rules, but for the number of the knots
abbrev pub lawful : List Knot → Bool
lawful ks = each fits ks && (neighbours rightward ks && (neighbours near ks && neighbours upward ks))

-- ---- lists

-- the knots of a new table, each y its x
abbrev pub start_knots : List Knot
start_knots = same lowest ∷ same (neg_ℤ (pos 4096)) ∷ same (pos 0) ∷ same (pos 4096) ∷ same highest ∷ []
  where
    same : ℤ → Knot
    same x = knot x x

-- y set at x where a knot stands there, otherwise the knot (x, y) added; the list is in order of x
abbrev pub with_knot : ℤ → ℤ → List Knot → List Knot
with_knot x y [] = knot x y ∷ []
with_knot x y (k ∷ ks) =
    if int_lt k.x x then k ∷ with_knot x y ks else knot x y ∷ (if int_lt x k.x then k ∷ ks else ks)

-- a knot stands at x
abbrev pub has_knot : ℤ → List Knot → Bool
has_knot x [] = false
has_knot x (k ∷ ks) = if int_lt k.x x then has_knot x ks else not (int_lt x k.x)

-- the knots but for the one at x
abbrev pub without_knot : ℤ → List Knot → List Knot
without_knot x [] = []
without_knot x (k ∷ ks) =
    if int_lt k.x x then k ∷ without_knot x ks else if int_lt x k.x then k ∷ ks else ks
