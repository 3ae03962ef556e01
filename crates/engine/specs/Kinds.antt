-- The kinds of knot tables and their numbers.
use Rattle.std.specs.Prelude.{◌≡◌, if◌then◌else◌, ◌&&◌, ℤ, pos, Some, None, Option, Result, int_le}
use Rattle.engine.specs.Refusals.{Told, Outcome, alone, told, unknown_kind}
use Rattle.engine.specs.declared.refusal.Refusal.{Refusal}
use Rattle.engine.specs.declared.kind.Kind.{Kind}
use Rattle.engine.specs.declared.kind.Kind.TheVariants.{Step, Line, Cubic}

-- the numbers of the kinds
abbrev pub kind_number : Kind → ℤ
kind_number Step = pos 0
kind_number Line = pos 1
kind_number Cubic = pos 2

-- the kinds have the numbers 0 to 2
abbrev pub kind_refusal : ℤ → Option Told
kind_refusal k = if int_le (pos 0) k && int_le k (pos 2) then None else Some (alone unknown_kind)

-- the kind that has the number k, or the refusal where none has it
abbrev pub NumberedKind : ℤ → Result Kind Refusal → Type 0
NumberedKind k = Outcome told (kind_refusal k) (λ kind. kind_number kind ≡ k)
