use Rattle.std.proofs.Common.{rules, arith, ◌≡◌, false, int_le, ℕ, ◌<◌, ◌≤◌, w32, w64, ℤ, pos, ◌+ℤ◌, ◌-ℤ◌, ◌≤ℤ◌, ◌<ℤ◌, FitsSigned, to_z, of_z}
use Rattle.std.specs.Int.RustNames.{unsigned_abs}
use Rattle.std.proofs.lemmas.Int.{ints}
use Rattle.table_cases.proofs.Values.{begun_more, begun_all, begun_last}
use Rattle.table_cases.proofs.answers.values_at.Goals as goal
use Rattle.table_cases.proofs.answers.values_at.Goals.{else-loop-reading-test, then-loop-reading-test+in_ok-push+else-reading-step-last}

-- how far x is below last
abbrev left : ℤ → ℤ → ℕ
left x last = unsigned_abs (to_z w64 (of_z w64 (to_z w64 (of_z w64 last) -ℤ to_z w64 (of_z w64 x))))

-- the number n above x
abbrev above : ℤ → ℕ → ℤ
above x n = to_z w32 (of_z w32 (to_z w64 (of_z w64 (to_z w64 (of_z w64 x) +ℤ to_z w64 n))))

-- a step that reaches no further than the last leaves less to go
nearer : (x last : ℤ) (n : ℕ) → FitsSigned w32 x → FitsSigned w32 last → x ≤ℤ last → 0 < n → n ≤ left x last
    → unsigned_abs (last -ℤ above x n) < unsigned_abs (last -ℤ x)
nearer x last n f g l p s = omega (arith, ints)

-- and it is the sum
stepped : (x last : ℤ) (n m : ℕ) → FitsSigned w32 x → FitsSigned w32 last → x ≤ℤ last → n ≤ left x last → n ≡ m
    → above x n ≡ x +ℤ pos m
stepped x last n m f g l s e = omega (arith, ints)

-- a number of 32 bits passed on stays the same
told : (v x : ℤ) → FitsSigned w32 v → v ≡ x → to_z w32 (of_z w32 v) ≡ x
told v x f e = omega (arith, ints)

-- what is not up to the last is above it
beyond : (x last : ℤ) → FitsSigned w32 last → int_le x (to_z w32 (of_z w32 last)) ≡ false → last <ℤ x
beyond x last f h = grind (arith, ints)

-- a step that reaches further passes the last
passed : (x last : ℤ) (n m : ℕ) → FitsSigned w32 x → FitsSigned w32 last → x ≤ℤ last → left x last < n → n ≡ m
    → last <ℤ (x +ℤ pos m)
passed x last n m f g l s e = omega (arith, ints)

pub loop-reading-smaller : goal.loop-reading-smaller
loop-reading-smaller c = search (rules, nearer)

pub loop-reading-preserved : goal.loop-reading-preserved
loop-reading-preserved c =
    begun_more _ _ c.loop-reading.values.items _ (to_z w32 c.loop-reading.reading-bits) _ _ c.loop-reading.invariant
    (omega (arith, ints)) c.in_ok-push.ensures.items (search (rules, told)) (search (rules, stepped))

pub returns : goal.returns
returns c =
    elim c.loop-reading-test.branch [
      | else-loop-reading-test w ↦ simp w.values-is
          (begun_all _ _ _ (to_z w32 c.loop-reading.reading-bits) c.loop-reading.invariant (search (rules, beyond)))
      | then-loop-reading-test+in_ok-push+else-reading-step-last w ↦ simp w.values-is
          (begun_last _ _ c.loop-reading.values.items _ (to_z w32 c.loop-reading.reading-bits) _ c.loop-reading.invariant
          (omega (arith, ints)) w.in_ok-push.ensures.items (search (rules, told)) (search (rules, passed)))
    ]
