-- The values of a table so far, from reading to reading.
use Rattle.std.proofs.Common.{◌≡◌, refl, sym, ap, subst, ◌∙◌, ℕ, zero, suc, ◌<◌, List, [], ◌∷◌, ◌++◌, length, ℤ, pos, ◌+ℤ◌, ◌≤ℤ◌, ◌<ℤ◌, Some, arith, inl, inr}
use Rattle.std.proofs.Math.Nat.{mul-le-mul_right}
use Rattle.std.proofs.lemmas.Bool.{cases_lt}
use borrow.Author.Count.{below_more}
use Rattle.std.proofs.lemmas.List.{length-append}
use Rattle.std.specs.List.{slice_get}
use Rattle.std.specs.NonZero.{non_zero_u32_get}
use Rattle.std.proofs.lemmas.Int.{ints}
use Rattle.engine.specs.declared.table.KnotTable.{KnotTable}
use Rattle.table_cases.specs.declared.script.Readings.{Readings}
use Rattle.table_cases.specs.Values.{reading_at, value_at, ValuesAt}

-- The values at the first readings, none of them above last, and the reading that comes next.
pub record Begun (t : KnotTable) (r : Readings) (values : List ℤ) (next : ℤ) : Type 0 where
  pub next_is : next ≡ reading_at r (length values)
  pub each : (i : ℕ) → i < length values → slice_get values i ≡ Some (value_at t (reading_at r i))
  pub inside : (i : ℕ) → i < length values → reading_at r i ≤ℤ r.last

-- the items of a list that has one more at its end
kept : (x : ℤ) (values : List ℤ) (i : ℕ) → i < length values → slice_get (values ++ x ∷ []) i ≡ slice_get values i
kept x [] i h = absurd (omega arith)
kept x (v ∷ values) zero h = refl
kept x (v ∷ values) (suc i) h = kept x values i (omega arith)

added : (x : ℤ) (values : List ℤ) → slice_get (values ++ x ∷ []) (length values) ≡ Some x
added x [] = refl
added x (v ∷ values) = added x values

-- one more value, that at the reading that comes next
pub begun_more : (t : KnotTable) (r : Readings) (values more : List ℤ) (next after x : ℤ) → Begun t r values next
    → next ≤ℤ r.last → more ≡ values ++ x ∷ [] → x ≡ value_at t next → after ≡ next +ℤ pos (non_zero_u32_get r.step)
    → Begun t r more after
begun_more t r values more next after x b l m v a = subst (λ vs. Begun t r vs after) (sym m) record {
  next_is = simp length-append (omega (arith, ints, b.next_is));
  each = simp length-append (below_more _ _ (λ i h. kept x values i h ∙ b.each i h)
      (added x values ∙ ap Some (v ∙ ap (value_at t) b.next_is)));
  inside = simp length-append (below_more _ _ b.inside (subst (λ n. n ≤ℤ r.last) b.next_is l));
}

-- no value is missing where the next reading is above last
pub begun_all : (t : KnotTable) (r : Readings) (values : List ℤ) (next : ℤ) → Begun t r values next → r.last <ℤ next
    → ValuesAt t r values
begun_all t r values next b l = record {
  each = λ i h. b.each i (reached i h);
  none_more = b.inside;
}
  where
    reached : (i : ℕ) → reading_at r i ≤ℤ r.last → i < length values
    reached i h = elim (cases_lt i (length values)) [
      | inl k ↦ k
      | inr k ↦ absurd (omega (arith, ints, b.next_is, mul-le-mul_right (non_zero_u32_get r.step) k))
    ]

-- nor where one more value was the last
pub begun_last : (t : KnotTable) (r : Readings) (values more : List ℤ) (next x : ℤ) → Begun t r values next
    → next ≤ℤ r.last → more ≡ values ++ x ∷ [] → x ≡ value_at t next
    → r.last <ℤ (next +ℤ pos (non_zero_u32_get r.step)) → ValuesAt t r more
begun_last t r values more next x b l m v p =
    begun_all t r more _ (begun_more t r values more next _ x b l m v refl) p
