-- Why a call is turned away: the numbers, what a refusal tells, and the outcome of a call that may refuse.
use Rattle.std.specs.Prelude.{◌≡◌, ℕ, List, ◌++◌, Some, None, Ok, Err, Option, Result, codes, decimal}
use Rattle.engine.specs.declared.refusal.Refusal.{Refusal}
use Rattle.engine.specs.declared.refusal.Refusal.TheVariants.{NotCoordinate, KnotCount, NotRightward, OutOfOrder}
use Rattle.engine.specs.declared.refusal.Refusal.TheVariants.{TooFarApart, NoKnot, UnknownKind, OutOfLimits}
use Rattle.engine.specs.declared.refusal.LoadRefusal.{LoadRefusal}
use Rattle.engine.specs.declared.refusal.LoadRefusal.TheVariants.{Whole, AtKnot}

-- ---- the table of numbers

-- not a coordinate
abbrev pub not_coordinate : ℕ
not_coordinate = 1

-- knots not 2 to 96
abbrev pub knot_count : ℕ
knot_count = 2

-- a knot's x not above the x before
abbrev pub not_rightward : ℕ
not_rightward = 3

-- a knot's y out of order with a neighbour
abbrev pub out_of_order : ℕ
out_of_order = 4

-- knots more than 4096 apart
abbrev pub too_far_apart : ℕ
too_far_apart = 5

-- no knot at x
abbrev pub no_knot : ℕ
no_knot = 6

-- unknown kind of table
abbrev pub unknown_kind : ℕ
unknown_kind = 7

-- an argument outside its limits, or a band reversed
abbrev pub out_of_limits : ℕ
out_of_limits = 11

-- ---- what a refusal tells

-- its number, and the index or the place that goes with it
pub record Told : Type 0 where
  pub number : ℕ
  pub index : Option ℕ
  pub place : Option ℕ

-- a number with which nothing goes
abbrev pub alone : ℕ → Told
alone n = record { number = n; index = None; place = None }

-- a number with the index of a knot or an entry
abbrev pub at_index : ℕ → ℕ → Told
at_index i n = record { number = n; index = Some i; place = None }

-- what each refusal tells
abbrev pub told : Refusal → Told
told NotCoordinate = alone not_coordinate
told KnotCount = alone knot_count
told NotRightward = alone not_rightward
told OutOfOrder = alone out_of_order
told TooFarApart = alone too_far_apart
told NoKnot = alone no_knot
told UnknownKind = alone unknown_kind
told OutOfLimits = alone out_of_limits

-- what the refusal of a list of knots tells
abbrev pub load_told : LoadRefusal → Told
load_told (Whole cause) = told cause
load_told (AtKnot i cause) = at_index i (told cause).number

-- what `{}` writes of a refusal: its number, and the index of a knot at fault
abbrev pub refusal_text : Refusal → List ℕ
refusal_text r = codes "refused " ++ decimal (told r).number

abbrev pub load_refusal_text : LoadRefusal → List ℕ
load_refusal_text (Whole cause) = refusal_text cause
load_refusal_text (AtKnot i cause) = refusal_text cause ++ codes " index " ++ decimal i

-- ---- the outcome of a call that may refuse

-- Where a refusal is due, the call refuses and tells just that; where none is, it answers a value of which P holds.
abbrev pub Outcome : {A E : Type 0} → (E → Told) → Option Told → (A → Type 0) → Result A E → Type 0
Outcome tells due P (Ok a) = (due ≡ None) × P a
Outcome tells due P (Err e) = due ≡ Some (tells e)
