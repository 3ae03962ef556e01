-- The edits of a knot table: why each is refused, what it makes of the table, and what the table then has.
use Rattle.std.specs.Prelude.{◌≡◌, ℕ, zero, suc, ◌<◌, if◌then◌else◌, not, ◌&&◌, ◌||◌, ◌⊎◌, List, [], ◌∷◌, length, ℤ, Some, None, Ok, Err, Option, Result, nat_lt}
use Rattle.std.specs.Option.{option_or}
use Rattle.engine.specs.Coordinates.{coordinate}
use Rattle.engine.specs.Curves.{Meaning}
use Rattle.engine.specs.Fraction.{whole, ◌≈ᶠ◌}
use Rattle.engine.specs.Refusals.{Told, alone, at_index}
use Rattle.engine.specs.Refusals.{not_coordinate, knot_count, not_rightward, out_of_order, too_far_apart, no_knot}
use Rattle.engine.specs.Kinds.{kind_number}
use Rattle.engine.specs.declared.kind.Kind.{Kind}
use Rattle.engine.specs.declared.knot.Knot.{Knot}
use Rattle.engine.specs.Knots.{fewest, most, knot_at, fits, rightward, near, upward, neighbours}
use Rattle.engine.specs.Knots.{with_knot, has_knot, without_knot}
use Rattle.engine.specs.Tables.{table_curve}
use Rattle.engine.specs.declared.table.KnotTable.{KnotTable}
use Rattle.engine.specs.Lists.{listed}

-- ---- a table

-- its knots
abbrev pub knots_of : KnotTable → List Knot
knots_of t = listed t.list

-- what it means
abbrev pub curve_of : KnotTable → Meaning
curve_of t = table_curve t.kind (knots_of t)

-- the table of the knots ks and of a kind
pub record IsTable (ks : List Knot) (kind : Kind) (t : KnotTable) : Type 0 where
  pub knots_are : knots_of t ≡ ks
  pub kind_is : t.kind ≡ kind

-- An edit: where a refusal is due, it tells just that and leaves the table as it was; where none is, it leaves a table
-- of which P holds.
abbrev pub Edited : {U E : Type 0} → (E → Told) → Option Told → (KnotTable → Type 0) → Result U E
    → (was new : KnotTable) → Type 0
Edited tells due P (Ok _) was new = (due ≡ None) × P new
Edited tells due P (Err e) was new = (due ≡ Some (tells e)) × (new ≡ was)

-- the list has the knot k
abbrev pub Has : Knot → List Knot → Type 0
Has k [] = ⊥
Has k (j ∷ ks) = (k ≡ j) ⊎ Has k ks

-- ---- load

-- what is wrong with the place of the knot k at index i, after the knot before it: it is not right of that, then too far
-- from it, then below it; the first knot has none before it
abbrev pub order_fault : ℕ → Option Knot → Knot → Option Told
order_fault i None k = None
order_fault i (Some before) k =
    if not (rightward before k) then Some (at_index i not_rightward)
    else if not (near before k) then Some (at_index i too_far_apart)
    else if not (upward before k) then Some (at_index i out_of_order)
    else None

-- what is wrong with the knot: a part is no coordinate, then its place
abbrev pub knot_fault : ℕ → Option Knot → Knot → Option Told
knot_fault i before k = if not (fits k) then Some (at_index i not_coordinate) else order_fault i before k

-- the first fault of the knots that follow `before`, of which the first has the index i
abbrev pub first_fault : ℕ → Option Knot → List Knot → Option Told
first_fault i before [] = None
first_fault i before (k ∷ ks) = option_or (knot_fault i before k) (first_fault (suc i) (Some k) ks)

-- why a list is refused: its number of knots, then the first fault
abbrev pub load_refusal : List Knot → Option Told
load_refusal ks =
    if nat_lt (length ks) fewest || nat_lt most (length ks) then Some (alone knot_count) else first_fault zero None ks

-- the knot before knot i
abbrev pub before : List Knot → ℕ → Option Knot
before ks zero = None
before ks (suc i) = Some (knot_at ks i)

-- knot i is the first at fault, and that is what it tells
pub record FirstFault (ks : List Knot) (i : ℕ) (tells : Told) : Type 0 where
  pub inside : i < length ks
  pub at_fault : knot_fault i (before ks i) (knot_at ks i) ≡ Some tells
  pub faultless : (j : ℕ) → j < i → knot_fault j (before ks j) (knot_at ks j) ≡ None

-- where a call is refused, P holds of what the refusal tells
abbrev pub WhereRefused : {U E : Type 0} → (E → Told) → (Told → Type 0) → Result U E → Type 0
WhereRefused tells P (Ok _) = Unit {0}
WhereRefused tells P (Err e) = P (tells e)

-- a refusal that tells an index tells it of the first knot at fault
abbrev pub NamesFirst : List Knot → Told → Type 0
NamesFirst ks tells = (i : ℕ) → tells.index ≡ Some i → FirstFault ks i tells

-- a table with the knots ks and the kind that it had
pub record Loaded (ks : List Knot) (was new : KnotTable) : Type 0 where
  pub knots_are : knots_of new ≡ ks
  pub kind_kept : new.kind ≡ was.kind

-- ---- put

-- why a knot (x, y) is refused, each check over the whole list that it would leave
abbrev pub put_refusal : ℤ → ℤ → List Knot → Option Told
put_refusal x y ks =
    let new : List Knot = with_knot x y ks in
    if not (coordinate x && coordinate y) then Some (alone not_coordinate)
    else if nat_lt most (length new) then Some (alone knot_count)
    else if not (neighbours near new) then Some (alone too_far_apart)
    else if not (neighbours upward new) then Some (alone out_of_order)
    else None

-- what an honoured put leaves
pub record Put (x y : ℤ) (was new : KnotTable) : Type 0 where
  pub knots_are : knots_of new ≡ with_knot x y (knots_of was)
  pub kind_kept : new.kind ≡ was.kind
  -- the curve passes through (x, y)
  pub value_at : (curve_of new).V x ≡ y
  pub exact_at : (curve_of new).E (whole x) ≈ᶠ whole y
  -- every other knot stays, and no other knot comes
  pub others_stay : (k : Knot) → ¬ (k.x ≡ x) → Has k (knots_of was) → Has k (knots_of new)
  pub none_comes : (k : Knot) → ¬ (k.x ≡ x) → Has k (knots_of new) → Has k (knots_of was)

-- ---- drop

-- why the knot at x stays
abbrev pub drop_refusal : ℤ → List Knot → Option Told
drop_refusal x ks =
    let new : List Knot = without_knot x ks in
    if not (has_knot x ks) then Some (alone no_knot)
    else if nat_lt (length new) fewest then Some (alone knot_count)
    else if not (neighbours near new) then Some (alone too_far_apart)
    else None

-- what an honoured drop leaves
pub record Dropped (x : ℤ) (was new : KnotTable) : Type 0 where
  pub knots_are : knots_of new ≡ without_knot x (knots_of was)
  pub kind_kept : new.kind ≡ was.kind
  -- no knot stands at x, every other knot stays, and none comes
  pub gone : (k : Knot) → Has k (knots_of new) → ¬ (k.x ≡ x)
  pub others_stay : (k : Knot) → ¬ (k.x ≡ x) → Has k (knots_of was) → Has k (knots_of new)
  pub none_comes : (k : Knot) → Has k (knots_of new) → Has k (knots_of was)

-- ---- kind

-- the same knots, with the kind that has this number
pub record Rekinded (k : ℤ) (was new : KnotTable) : Type 0 where
  pub knots_kept : knots_of new ≡ knots_of was
  pub kind_is : kind_number new.kind ≡ k
