-- Every lawful table of any kind keeps the rules of curves.
use Rattle.std.specs.Prelude.{◌≡◌, ℕ, ◌-◌, ◌≤◌, true, List, length, take}
use Rattle.std.proofs.Common.{arith}
use Rattle.std.proofs.lemmas.List.{length-take-le}
use Rattle.engine.specs.Curves.{Rules, meaning}
use Rattle.engine.specs.declared.knot.Knot.{Knot}
use Rattle.engine.specs.Places.{LawfulTable}
use Rattle.engine.specs.Knots.{fewest, most, knot_at, lawful}
use Rattle.engine.specs.Tables.{table_value, table_exact, table_rise, table_radius, table_curve}
use Rattle.engine.specs.declared.kind.Kind.{Kind}
use Rattle.engine.specs.declared.kind.Kind.TheVariants.{Step, Line, Cubic}
use Rattle.engine.specs.Lawfuls.{lawful_list}
use Rattle.engine.specs.StepRules.{step_rules}
use Rattle.engine.specs.LineRules.{line_rules}
use Rattle.engine.specs.CubicRules.{cubic_rules}

pub kind_rules : (kind : Kind) (k : ℕ → Knot) (top : ℕ) → LawfulTable k top
    → Rules (meaning (table_value kind k top) (table_exact kind k top) (table_rise kind k top) (table_radius kind))
kind_rules Step k top law = step_rules k top law.knots
kind_rules Line k top law = line_rules k top law.knots
kind_rules Cubic k top law = cubic_rules k top law

pub table_rules : (kind : Kind) (ks : List Knot) → fewest ≤ length ks → lawful ks ≡ true → Rules (table_curve kind ks)
table_rules kind ks some ok = kind_rules kind (knot_at ks) (length ks - 1) (lawful_list ks ok some)

-- the same of the first count knots of an array
pub array_rules : (kind : Kind) (knots : List Knot) (count : ℕ) → length knots ≡ most → fewest ≤ count → count ≤ most
    → lawful (take count knots) ≡ true → Rules (table_curve kind (take count knots))
array_rules kind knots count long some few ok =
    let size = length-take-le count knots (omega arith) in table_rules kind (take count knots) (omega arith) ok
