-- The flow of a nozzle row: its settings, its curve and the law of its table.
use Rattle.std.specs.Prelude.{◌≡◌, ℕ, ℤ, ◌≤ℤ◌, Some, Option}
use Rattle.std.specs.Option.{option_or}
use Rattle.engine.specs.Coordinates.{held_shift}
use Rattle.engine.specs.Curves.{Meaning, bare, chain, offset, clamp}
use Rattle.engine.specs.Root.{root_curve}
use Rattle.engine.specs.Bands.{band_refusal}
use Rattle.engine.specs.Refusals.{Told}
use Rattle.engine.specs.declared.band.Band.{Band}
use Rattle.engine.specs.declared.curve.Bare.{Bare}
use Rattle.engine.specs.declared.root.Root.{Root}
use Rattle.engine.specs.declared.layer.chain.Chain.{Chain}
use Rattle.engine.specs.declared.layer.offset.Offset.{Offset}
use Rattle.engine.specs.declared.layer.clamp.Clamp.{Clamp}
use Rattle.tabulate.specs.Readings.{span_of, span_refusal}
use Rattle.tabulate.specs.Tables.{count_of, row_of, Faithful}
use Rattle.tabulate.specs.declared.nozzle.Settings.{Settings}
use Rattle.tabulate.specs.declared.table.Row.{Row}
use Rattle.tabulate.specs.declared.table.Table.{Table}

-- ---- the curve

-- a clamp over an offset over root after an offset of the bare curve
abbrev pub pile : (low high trim zero : ℤ) → Meaning
pile low high trim zero = clamp low high (offset trim (chain root_curve (offset zero bare)))

-- the flow that the settings ask for: the root of the reading plus zero, plus trim, held to low..high
abbrev pub asked_flow : Settings → Meaning
asked_flow s = pile s.low s.high (held_shift s.trim) (held_shift s.zero)

-- the curve in the code, by its type
abbrev pub FlowCurve : Type 0
FlowCurve = Clamp (Offset (Chain Root (Offset Bare)))

-- the curve with these numbers
pub record Piled (zero trim : ℤ) (limit : Band) (c : FlowCurve) : Type 0 where
  pub zero_is : c.below.below.inner.shift ≡ held_shift zero
  pub trim_is : c.below.shift ≡ held_shift trim
  pub limit_is : c.band ≡ limit

-- ---- the answer

-- the limit is a band, then the span is lawful
abbrev pub settings_refusal : Settings → Option Told
settings_refusal s = option_or (band_refusal s.low s.high) (span_refusal s.span)

-- the table that the settings ask for, number by number; its curve means m
pub record FlowTable (m : Meaning) (s : Settings) (t : Table FlowCurve) : Type 0 where
  pub means_flow : m ≡ asked_flow s
  pub zero_is : t.curve.below.below.inner.shift ≡ held_shift s.zero
  pub trim_is : t.curve.below.shift ≡ held_shift s.trim
  pub low_is : t.curve.band.lo ≡ s.low
  pub high_is : t.curve.band.hi ≡ s.high
  pub span_is : span_of t.readings ≡ s.span

-- ---- the law

-- The rows of a table whose curve means m speak for the exact flow, with the count, the rise and the radius that the table
-- tells, and have no flow that the valves do not take.
pub record FlowLaw (m : Meaning) (s : Settings) (t : Table FlowCurve) : Type 0 where
  pub faithful : Faithful (asked_flow s).E m.S m.R s.span (count_of t) (row_of m t)
  pub not_below : (i : ℕ) (r : Row) → row_of m t i ≡ Some r → s.low ≤ℤ r.value
  pub not_above : (i : ℕ) (r : Row) → row_of m t i ≡ Some r → r.value ≤ℤ s.high
