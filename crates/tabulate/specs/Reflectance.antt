-- The reflectance of a sorting head: its curve and the law of its table.
use Rattle.std.specs.Prelude.{◌≡◌, List, [], ◌∷◌, pos, neg_ℤ}
use Rattle.engine.specs.Curves.{Meaning}
use Rattle.engine.specs.declared.knot.Knot.{Knot}
use Rattle.engine.specs.Edits.{knots_of}
use Rattle.engine.specs.Knots.{knot}
use Rattle.engine.specs.Tables.{table_curve}
use Rattle.engine.specs.declared.kind.Kind.TheVariants.{Cubic}
use Rattle.engine.specs.declared.table.KnotTable.{KnotTable}
use Rattle.tabulate.specs.Readings.{span_of}
use Rattle.tabulate.specs.Tables.{count_of, row_of, Faithful}
use Rattle.tabulate.specs.declared.span.Span.{Span}
use Rattle.tabulate.specs.declared.table.Table.{Table}

-- ---- the curve

-- what the head read off twelve grey tiles of known reflectance, in hundredths of a percent
abbrev pub head_knots : List Knot
head_knots =
    knot (neg_ℤ (pos 6200)) (pos 0)
    ∷ knot (neg_ℤ (pos 5100)) (pos 210)
    ∷ knot (neg_ℤ (pos 3900)) (pos 490)
    ∷ knot (neg_ℤ (pos 2500)) (pos 980)
    ∷ knot (neg_ℤ (pos 1000)) (pos 1750)
    ∷ knot (pos 400) (pos 2840)
    ∷ knot (pos 1700) (pos 4100)
    ∷ knot (pos 2900) (pos 5360)
    ∷ knot (pos 4100) (pos 6420)
    ∷ knot (pos 5300) (pos 7150)
    ∷ knot (pos 6500) (pos 7600)
    ∷ knot (pos 7900) (pos 7600)
    ∷ []

-- the reflectance at a reading: the monotone cubic through the knots
abbrev pub reflectance : Meaning
reflectance = table_curve Cubic head_knots

-- ---- the answer

-- the table of the head's curve, which means m, at these readings
pub record ReflectanceTable (m : Meaning) (s : Span) (t : Table KnotTable) : Type 0 where
  pub means_reflectance : m ≡ reflectance
  pub knots_are : knots_of t.curve ≡ head_knots
  pub kind_is : t.curve.kind ≡ Cubic
  pub span_is : span_of t.readings ≡ s

-- ---- the law

-- the rows of a table whose curve means m speak for the exact reflectance, with its rise and its radius
abbrev pub ReflectanceLaw : Meaning → Span → Table KnotTable → Type 0
ReflectanceLaw m s t = Faithful reflectance.E reflectance.S reflectance.R s (count_of t) (row_of m t)
