-- The flow of a nozzle row: its table keeps the law.
use Rattle.std.proofs.Common.{◌≡◌, ℕ, ℤ, ◌≤ℤ◌, Some, ap, subst, subst₂}
use Rattle.engine.specs.Coordinates.{held_shift}
use Rattle.engine.specs.Curves.{Meaning}
use Rattle.engine.specs.Holds.{hold_low, hold_high}
use Rattle.tabulate.specs.Flow.{FlowCurve, FlowLaw, FlowTable, pile}
use Rattle.tabulate.specs.Readings.{span_of}
use Rattle.tabulate.specs.Tables.{Faithful, count_of, row_of, TableLaw}
use Rattle.tabulate.specs.declared.nozzle.Settings.{Settings}
use Rattle.tabulate.specs.declared.table.Row.{Row}
use Rattle.tabulate.specs.declared.table.Table.{Table}
use Rattle.tabulate.proofs.Laws.{each_row}

-- what the curve in the code means
abbrev pub flow_of : FlowCurve → Meaning
flow_of c = pile c.band.lo c.band.hi c.below.shift c.below.below.inner.shift

-- with the settings' numbers it is the flow that they ask for
pub flow_table : (s : Settings) (t : Table FlowCurve) → t.curve.band.lo ≡ s.low → t.curve.band.hi ≡ s.high
    → t.curve.below.shift ≡ held_shift s.trim → t.curve.below.below.inner.shift ≡ held_shift s.zero
    → span_of t.readings ≡ s.span → FlowTable (flow_of t.curve) s t
flow_table s t low high trim zero span = record {
  means_flow = λ i. pile (low i) (high i) (trim i) (zero i);
  zero_is = zero;
  trim_is = trim;
  low_is = low;
  high_is = high;
  span_is = span;
}

pub flow_law : (s : Settings) (t : Table FlowCurve) → FlowTable (flow_of t.curve) s t → TableLaw (flow_of t.curve) t
    → FlowLaw (flow_of t.curve) s t
flow_law s t h own = record {
  faithful = subst₂ (λ E span. Faithful E m.S m.R span (count_of t) (row_of m t)) (ap (λ m. m.E) h.means_flow) h.span_is
      own;
  not_below = values (λ v. s.low ≤ℤ v) (λ x. subst (λ a. a ≤ℤ m.V x) h.low_is (hold_low _ _ t.curve.band.order _));
  not_above = values (λ v. v ≤ℤ s.high) (λ x. subst (λ b. m.V x ≤ℤ b) h.high_is (hold_high _ _ t.curve.band.order _));
}
  where
    m : Meaning
    m = flow_of t.curve

    -- what holds of every value of the curve holds of every row's
    values : (P : ℤ → Type 0) → ((x : ℤ) → P (m.V x)) → (i : ℕ) (w : Row) → row_of m t i ≡ Some w → P w.value
    values P p i = each_row m.V t.readings (λ w. P w.value) i (λ _. p _)
