-- From one piece to the whole curve. `piecewise` takes the value of the last knot at or below the argument, so it is
-- monotone where each piece is and the pieces meet at the knots.
use Rattle.std.specs.Prelude.{◌≡◌, ℕ, zero, suc, ◌+◌, ◌-◌, ◌<◌, ◌≤◌, Bool, true, false, refl}
use Rattle.std.proofs.Common.{sym, ◌∙◌, subst, arith}
use Rattle.std.proofs.Math.Decide.{dec_le}
use Rattle.engine.specs.Pieces.{piecewise}
use Rattle.engine.specs.Orders.{by_test}

-- Q has the order ≼ and A the order ⊑; q ◁ x i says that q is short of knot i, strictly or not; `x i` is the argument of
-- knot i and `y i` its value
module _ {Q A : Type 0} (◌≼◌ ◌◁◌ : Q → Q → Type 0) (◌⊑◌ : A → A → Type 0) (below : ℕ → Q → Bool) (first : Q → A)
    (from : ℕ → Q → A) (x : ℕ → Q) (y : ℕ → A) (top : ℕ) where
  infix 5 ◌≼◌ ◌◁◌ ◌⊑◌
  -- what the pieces keep
  pub record Pieces : Type 0 where
    pub before : (p q : Q) → p ≼ q → q ◁ x 0 → first p ⊑ first q
    pub before_high : (p : Q) → p ◁ x 0 → first p ⊑ y 0
    pub low : (i : ℕ) (q : Q) → i ≤ top → x i ≼ q → (i < top → q ◁ x (suc i)) → y i ⊑ from i q
    pub high : (i : ℕ) (q : Q) → i < top → x i ≼ q → q ◁ x (suc i) → from i q ⊑ y (suc i)
    pub grows : (i : ℕ) (p q : Q) → i ≤ top → x i ≼ p → p ≼ q → (i < top → q ◁ x (suc i)) → from i p ⊑ from i q
    pub trans : (a b c : A) → a ⊑ b → b ⊑ c → a ⊑ c
    pub knots : (i : ℕ) → i < top → y i ⊑ y (suc i)
    pub yes_below : (i : ℕ) (q : Q) → below i q ≡ true → x i ≼ q
    pub not_below : (i : ℕ) (q : Q) → below i q ≡ false → q ◁ x i
    pub stays : (i : ℕ) (p q : Q) → below i p ≡ true → p ≼ q → below i q ≡ true

  module _ (c : Pieces) where
    -- up to knot i + 1 the value is at most that knot's
    pub piecewise_high : (i : ℕ) (q : Q) → i < top → q ◁ x (suc i) → piecewise below first from i q ⊑ y (suc i)
    unfolding piecewise
    piecewise_high zero q l h =
        by_test (below zero q) (λ e. rw e (c.high zero q l (c.yes_below zero q e) h))
        (λ e. rw e (c.trans _ _ _ (c.before_high q (c.not_below zero q e)) (c.knots zero l)))
    piecewise_high (suc i) q l h =
        by_test (below (suc i) q) (λ e. rw e (c.high (suc i) q l (c.yes_below (suc i) q e) h))
        (λ e. rw e
        (c.trans _ _ _ (piecewise_high i q (omega arith) (c.not_below (suc i) q e)) (c.knots (suc i) l)))

    -- the whole curve does not fall
    pub piecewise_mono : (i : ℕ) (p q : Q) → i ≤ top → p ≼ q → (i < top → q ◁ x (suc i))
        → piecewise below first from i p ⊑ piecewise below first from i q
    unfolding piecewise
    piecewise_mono zero p q l h k = by_test (below zero p)
        (λ e. let e' = c.stays zero p q e h in rw (e, e') (c.grows zero p q l (c.yes_below zero p e) h k))
        (λ e. by_test (below zero q)
        (λ e'. rw (e, e')
        (c.trans _ _ _ (c.before_high p (c.not_below zero p e)) (c.low zero q l (c.yes_below zero q e') k)))
        (λ e'. rw (e, e') (c.before p q h (c.not_below zero q e'))))
    piecewise_mono (suc i) p q l h k = by_test (below (suc i) p)
        (λ e. let e' = c.stays (suc i) p q e h in rw (e, e') (c.grows (suc i) p q l (c.yes_below (suc i) p e) h k))
        (λ e. by_test (below (suc i) q)
        (λ e'. rw (e, e')
        (c.trans _ _ _ (piecewise_high i p (omega arith) (c.not_below (suc i) p e))
        (c.low (suc i) q l (c.yes_below (suc i) q e') k)))
        (λ e'. rw (e, e') (piecewise_mono i p q (omega arith) h (λ _. c.not_below (suc i) q e'))))

-- Two searches that go the same way, be they the same or one of a whole and one of an exact curve: what holds of the first
-- values and of each knot's values holds of the results.
pub piecewise_both : {Q A Q' A' : Type 0} (R : A → A' → Type 0) (below : ℕ → Q → Bool) (first : Q → A)
    (from : ℕ → Q → A) (below' : ℕ → Q' → Bool) (first' : Q' → A') (from' : ℕ → Q' → A') (top : ℕ) (q : Q) (q' : Q')
    → ((i : ℕ) → below i q ≡ below' i q') → R (first q) (first' q')
    → ((i : ℕ) → i ≤ top → below i q ≡ true → (i < top → below (suc i) q ≡ false) → R (from i q) (from' i q'))
    → (i : ℕ) → i ≤ top → (i < top → below (suc i) q ≡ false)
    → R (piecewise below first from i q) (piecewise below' first' from' i q')
unfolding piecewise
piecewise_both R below first from below' first' from' top q q' same f g zero l n = by_test (below zero q)
    (λ e. let e' : below' zero q' ≡ true = sym (same zero) ∙ e in rw (e, e') (g zero l e n))
    (λ e. let e' : below' zero q' ≡ false = sym (same zero) ∙ e in rw (e, e') f)
piecewise_both R below first from below' first' from' top q q' same f g (suc i) l n = by_test (below (suc i) q)
    (λ e. let e' : below' (suc i) q' ≡ true = sym (same (suc i)) ∙ e in rw (e, e') (g (suc i) l e n))
    (λ e. let e' : below' (suc i) q' ≡ false = sym (same (suc i)) ∙ e in rw (e, e')
    (piecewise_both R below first from below' first' from' top q q' same f g i (omega arith) (λ _. e)))

-- a function of the value goes through the search
pub piecewise_map : {Q A B : Type 0} (below : ℕ → Q → Bool) (first : Q → A) (from : ℕ → Q → A) (g : Q → A → B) (i : ℕ)
    (q : Q)
    → g q (piecewise below first from i q) ≡ piecewise below (λ q. g q (first q)) (λ i q. g q (from i q)) i q
unfolding piecewise
piecewise_map below first from g zero q = by_test (below zero q) (λ e. rw e refl) (λ e. rw e refl)
piecewise_map below first from g (suc i) q =
    by_test (below (suc i) q) (λ e. rw e refl) (λ e. rw e (piecewise_map below first from g i q))

-- what a search by index has found: knot i is at or below the argument and no later one is
pub piecewise_at : {Q A : Type 0} (below : ℕ → Q → Bool) (first : Q → A) (from : ℕ → Q → A) (q : Q) (i : ℕ)
    → below i q ≡ true → (top : ℕ) → i ≤ top → ((j : ℕ) → i < j → j ≤ top → below j q ≡ false)
    → piecewise below first from top q ≡ from i q
unfolding piecewise
piecewise_at below first from q i e zero l n =
    let z : i ≡ 0 = omega arith in rw z (let e' : below 0 q ≡ true = subst (λ j. below j q ≡ true) z e in rw e' refl)
piecewise_at below first from q i e (suc top) l n =
    elim (dec_le i top) [
      | yes h ↦
          (let e' : below (suc top) q ≡ false = n (suc top) (omega arith) (omega arith) in
          rw e' (piecewise_at below first from q i e top h (λ j a b. n j a (omega arith))))
      | no m ↦
          (let z : i ≡ suc top = omega arith in
          rw z (let e' : below (suc top) q ≡ true = subst (λ j. below j q ≡ true) z e in rw e' refl))
    ]

-- or that no knot is
pub piecewise_none : {Q A : Type 0} (below : ℕ → Q → Bool) (first : Q → A) (from : ℕ → Q → A) (q : Q) (top : ℕ)
    → ((j : ℕ) → j ≤ top → below j q ≡ false) → piecewise below first from top q ≡ first q
unfolding piecewise
piecewise_none below first from q zero n = let e : below 0 q ≡ false = n 0 (omega arith) in rw e refl
piecewise_none below first from q (suc top) n =
    let e : below (suc top) q ≡ false = n (suc top) (omega arith) in
    rw e (piecewise_none below first from q top (λ j l. n j (omega arith)))

-- where the knots are in order: one that is above the argument has every later one above it
module _ {Q A : Type 0} (below : ℕ → Q → Bool) (first : Q → A) (from : ℕ → Q → A) (top : ℕ) (q : Q)
    (order : (i : ℕ) → i < top → below i q ≡ false → below (suc i) q ≡ false) where
  not_later : (i : ℕ) → below i q ≡ false → (n : ℕ) → i + n ≤ top → below (i + n) q ≡ false
  not_later i e zero l = let s : i ≡ i + 0 = omega arith in subst (λ j. below j q ≡ false) s e
  not_later i e (suc n) l =
      let s : suc (i + n) ≡ i + suc n = omega arith in
      subst (λ j. below j q ≡ false) s (order (i + n) (omega arith) (not_later i e n (omega arith)))

  -- from knot i on, short of the next
  pub piecewise_from : (i : ℕ) → i ≤ top → below i q ≡ true → (i < top → below (suc i) q ≡ false)
      → piecewise below first from top q ≡ from i q
  piecewise_from i l e n = piecewise_at below first from q i e top l later
    where
      later : (j : ℕ) → i < j → j ≤ top → below j q ≡ false
      later j a b =
          let s : suc i + (j - suc i) ≡ j = omega arith in
          subst (λ j. below j q ≡ false) s (not_later (suc i) (n (omega arith)) (j - suc i) (omega arith))

  -- below the first knot
  pub piecewise_before : below 0 q ≡ false → piecewise below first from top q ≡ first q
  piecewise_before e =
      piecewise_none below first from q top
      (λ j l. let s : 0 + j ≡ j = omega arith in
      subst (λ j. below j q ≡ false) s (not_later 0 e j (omega arith)))
