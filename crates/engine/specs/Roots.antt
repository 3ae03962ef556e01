-- The greatest whole number whose square is at most n, and the constant table of such roots.
use Rattle.std.specs.Prelude.{◌≡◌, ℕ, zero, suc, ◌+◌, ◌*◌, ◌<◌, ◌≤◌, Bool, true, ◌&&◌, List, [], ◌∷◌, length, nat_le, nat_lt, slice_index}
use Rattle.std.proofs.Common.{sym, subst, mul-le-mul, le_trans, le_antisymm, arith, leb-true, leb-false, ltb-true}
use Rattle.std.proofs.Math.Decide.{dec_le}
use Rattle.std.proofs.lemmas.Bool.{and_parts}
use Rattle.engine.specs.Root.{root_up_to, root, root_entry, GreatestRoot, RootTable}
use Rattle.engine.specs.Orders.{by_test}

-- ---- the root of a number

pub squares : (a b : ℕ) → a ≤ b → a * a ≤ b * b
squares a b h = mul-le-mul h h

low : (n s : ℕ) → root_up_to n s * root_up_to n s ≤ n
unfolding root_up_to
low n zero = omega arith
low n (suc s) = by_test (nat_le (suc s * suc s) n) (λ e. rw e (leb-true (suc s * suc s) n e)) (λ e. rw e (low n s))

high : (n s : ℕ) → n < suc s * suc s → n < suc (root_up_to n s) * suc (root_up_to n s)
unfolding root_up_to
high n zero h = h
high n (suc s) h =
    by_test (nat_le (suc s * suc s) n) (λ e. rw e h) (λ e. rw e (high n s (leb-false (suc s * suc s) n e)))

pub root_low : (n : ℕ) → root n * root n ≤ n
unfolding root
root_low n = low n n

pub root_high : (n : ℕ) → n < suc (root n) * suc (root n)
unfolding root
root_high n = high n n (omega arith)

-- a number whose square is at most n is at most the root
pub root_most : (s n : ℕ) → s * s ≤ n → s ≤ root n
root_most s n h =
    elim (dec_le s (root n))
    [ yes l ↦ l | no m ↦ absurd (omega (arith, root_high n, squares (suc (root n)) s (omega arith))) ]

-- a number whose square is at most n while the next square is above n is the root
pub root_is : (s n : ℕ) → s * s ≤ n → n < suc s * suc s → s ≡ root n
root_is s n h k = le_antisymm (root_most s n h) (elim (dec_le (root n) s) [
  | yes l ↦ l
  | no m ↦ absurd (omega (arith, root_low n, squares (suc s) (root n) (omega arith)))
])

pub root_mono : (m n : ℕ) → m ≤ n → root m ≤ root n
root_mono m n h = root_most (root m) n (le_trans (root_low m) h)

pub root_greatest : (n : ℕ) → GreatestRoot n (root n)
root_greatest n = record { low = root_low n; greatest = λ s h. root_most s n h }

-- two such numbers are the same
pub root_one : (n s : ℕ) → GreatestRoot n s → s ≡ root n
root_one n s g = le_antisymm (root_most s n g.low) (g.greatest (root n) (root_low n))

-- ---- the constant table: one test over all of it, which antt computes, carried to each entry

-- s follows p as entry i: it is not below p, its square is at most 65536 i and the next square is above that
abbrev follows : (i p s : ℕ) → Bool
follows i p s = nat_le p s && (nat_le (s * s) (65536 * i) && nat_lt (65536 * i) (suc s * suc s))

-- every entry, from entry i on and after p
abbrev pub table_test : (i p : ℕ) → List ℕ → Bool
table_test i p [] = true
table_test i p (s ∷ ss) = follows i p s && table_test (suc i) s ss

-- what the test says of one entry
pub record Entry (i p s : ℕ) : Type 0 where
  pub rising : p ≤ s
  pub low : s * s ≤ 65536 * i
  pub high : 65536 * i < suc s * suc s

follows_parts : (i p s : ℕ) → follows i p s ≡ true → Entry i p s
follows_parts i p s t =
    let a = and_parts (nat_le p s) (nat_le (s * s) (65536 * i) && nat_lt (65536 * i) (suc s * suc s)) t in
    let b = and_parts (nat_le (s * s) (65536 * i)) (nat_lt (65536 * i) (suc s * suc s)) a.1 in
    record { rising = leb-true _ _ a.0; low = leb-true _ _ b.0; high = ltb-true _ _ b.1 }

-- the entry at k is at or above p, and is the root of its place
carried : (xs : List ℕ) (i p : ℕ) → table_test i p xs ≡ true → (k : ℕ) → k < length xs → Entry (i + k) p (slice_index xs k)
carried [] i p t k h = absurd (omega arith)
carried (s ∷ ss) i p t zero h =
    let e : i ≡ i + 0 = omega arith in
    subst (λ m. Entry m p s) e (follows_parts i p s (and_parts (follows i p s) _ t).0)
carried (s ∷ ss) i p t (suc k) h =
    let a = and_parts (follows i p s) (table_test (suc i) s ss) t in
    let later = carried ss (suc i) s a.1 k (omega arith) in
    let first = follows_parts i p s a.0 in
    let e : suc i + k ≡ i + suc k = omega arith in
    subst (λ m. Entry m p (slice_index ss k)) e
    (record { rising = le_trans first.rising later.rising; low = later.low; high = later.high })

-- no entry is below an earlier one
carried_rising : (xs : List ℕ) (i p : ℕ) → table_test i p xs ≡ true → (j k : ℕ) → j ≤ k → k < length xs
    → slice_index xs j ≤ slice_index xs k
carried_rising [] i p t j k l h = absurd (omega arith)
carried_rising (s ∷ ss) i p t zero zero l h = omega arith
carried_rising (s ∷ ss) i p t zero (suc k) l h =
    (carried ss (suc i) s (and_parts (follows i p s) _ t).1 k (omega arith)).rising
carried_rising (s ∷ ss) i p t (suc j) zero l h = absurd (omega arith)
carried_rising (s ∷ ss) i p t (suc j) (suc k) l h =
    carried_rising ss (suc i) s (and_parts (follows i p s) _ t).1 j k (omega arith) (omega arith)

-- a square that the next one passes is the greatest
greatest_of : (n s : ℕ) → s * s ≤ n → n < suc s * suc s → GreatestRoot n s
greatest_of n s h k = subst (GreatestRoot n) (sym (root_is s n h k)) (root_greatest n)

pub table_holds : (xs : List ℕ) → length xs ≡ 1024 → table_test 0 0 xs ≡ true → RootTable xs
table_holds xs long t = record {
  long = long;
  roots =
      λ i h. let e = carried xs 0 0 t i (omega arith) in greatest_of (65536 * i) (slice_index xs i) (omega (arith, e.low))
      (omega (arith, e.high));
  rising = λ i j l h. carried_rising xs 0 0 t i j l (omega arith);
}

pub entry_is : (xs : List ℕ) → RootTable xs → (i : ℕ) → i < 1024 → slice_index xs i ≡ root_entry i
entry_is xs r i h = root_one (65536 * i) (slice_index xs i) (r.roots i h)
