-- The list of knots of a table in the code.
use Rattle.std.proofs.Common.{◌≡◌, ℕ, ◌+◌, ◌-◌, ◌≤◌, List, length, take, drop, ◌∙◌, ap₂, arith}
use lib.Seq.{paste}
use borrow.Rule.Slice.PartMut.{put_mid}
use Rattle.std.specs.List.{splice}
use Rattle.std.proofs.lemmas.List.{length-take-le}
use Rattle.engine.specs.Lists.{listed}
use Rattle.engine.specs.Knots.{fewest, most}
use Rattle.engine.specs.declared.knot.Knot.{Knot}
use Rattle.engine.specs.declared.table.list.KnotList.{KnotList}
use Rattle.engine.proofs.Splices.{replaced, splice_length}

-- it has as many knots as it counts
pub size : (l : KnotList) → length (listed l) ≡ l.count
size l = length-take-le l.count l.knots (omega (arith, l.few, l.room))

pub enough : (l : KnotList) → fewest ≤ length (listed l)
enough l = omega (arith, size l, l.some)

pub not_many : (l : KnotList) → length (listed l) ≤ most
not_many l = omega (arith, size l, l.few)

-- others in the place of its knots from start to end
module _ (l : KnotList) (start end : ℕ) (others : List Knot) (order : start ≤ end) (inside : end ≤ length (listed l)) where
  abbrev count : ℕ
  count = start + length others + (l.count - end)

  pub count_is : length (splice (listed l) start end others) ≡ count
  count_is = splice_length (listed l) others start end (omega arith) ∙ omega (arith, size l)

  -- in an array whose end has moved, and into which they are copied
  pub spliced_is : length (splice (listed l) start end others) ≤ most → (moved copied : List Knot)
      → moved ≡ paste l.knots (start + length others) (drop end l.knots) (l.count - end) → copied ≡ others
      → take count (put_mid start (start + length others - start) moved copied) ≡ splice (listed l) start end others
  spliced_is few moved copied m e =
      ap₂ (λ a b. take count (put_mid start (start + length others - start) a b)) m e
      ∙ replaced l.knots others l.count start end order (omega (arith, size l)) (omega (arith, l.few, l.room))
      (omega (arith, count_is, l.room))
