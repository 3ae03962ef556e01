-- The place of x in a list of knots in order of x, and what an edit there makes of the list.
use Rattle.std.proofs.Common.{◌≡◌, ℕ, zero, suc, ◌+◌, ◌-◌, ◌<◌, ◌≤◌, Bool, true, false, ltb, List, [], ◌∷◌, ◌++◌, length, take, drop, ℤ, Some, Option, sym, refl, ap, ◌∙◌, subst, subst₂, inl, inr, arith, take-append-drop}
use lib.Signed.{le_z, lt_z}
use Rattle.std.proofs.lemmas.List.{drop_more, drop_all}
use Rattle.std.proofs.lemmas.Int.{ints}
use Rattle.std.proofs.lemmas.Bool.{and_from, and_parts, lt-ltb, le-ltb, cond-true, cases_lt, ltb-true}
use Rattle.engine.specs.declared.knot.Knot.{Knot}
use Rattle.engine.specs.Orders.{by_test}
use Rattle.engine.specs.Slots.{Reached, Slotted, knot_from, linked}
use Rattle.engine.specs.Edits.{before}
use Rattle.engine.specs.Knots.{empty, knot, knot_at, each, neighbours, rightward, with_knot, has_knot, without_knot}
use Rattle.engine.specs.Lawfuls.{neighbours_at}
use Rattle.engine.proofs.Splices.{first, first_dropped}

-- the same knot has the same x
pub same_x : (j k : Knot) → ◌≡◌ {A = Option Knot} (Some j) (Some k) → j.x ≡ k.x
same_x j k e = cc

-- k is left of x
abbrev left : ℤ → Knot → Bool
left x k = lt_z k.x x

module _ (x : ℤ) where
  -- ---- an edit passes over the knots left of x

  with_passes : (y : ℤ) (ls bs : List Knot) → each (left x) ls ≡ true
      → with_knot x y (ls ++ bs) ≡ ls ++ with_knot x y bs
  with_passes y [] bs h = refl
  with_passes y (k ∷ ls) bs h =
      let p = and_parts (left x k) (each (left x) ls) h in
      cond-true (left x k) (k ∷ with_knot x y (ls ++ bs)) _ p.0 ∙ ap (λ l. k ∷ l) (with_passes y ls bs p.1)

  without_passes : (ls bs : List Knot) → each (left x) ls ≡ true → without_knot x (ls ++ bs) ≡ ls ++ without_knot x bs
  without_passes [] bs h = refl
  without_passes (k ∷ ls) bs h =
      let p = and_parts (left x k) (each (left x) ls) h in
      cond-true (left x k) (k ∷ without_knot x (ls ++ bs)) _ p.0 ∙ ap (λ l. k ∷ l) (without_passes ls bs p.1)

  has_passes : (ls bs : List Knot) → each (left x) ls ≡ true → has_knot x (ls ++ bs) ≡ has_knot x bs
  has_passes [] bs h = refl
  has_passes (k ∷ ls) bs h =
      let p = and_parts (left x k) (each (left x) ls) h in
      cond-true (left x k) (has_knot x (ls ++ bs)) _ p.0 ∙ has_passes ls bs p.1

  -- ---- and stops at the next: at x, right of x, or at the end

  -- k stands at x
  module _ (k : Knot) (ks : List Knot) (not_left : lt_z k.x x ≡ false) (not_right : lt_z x k.x ≡ false) where
    with_at : (y : ℤ) → with_knot x y (k ∷ ks) ≡ knot x y ∷ ks
    with_at y = rw (not_left, not_right) refl

    without_at : without_knot x (k ∷ ks) ≡ ks
    without_at = rw (not_left, not_right) refl

    has_at : has_knot x (k ∷ ks) ≡ true
    has_at = rw (not_left, not_right) refl

  -- the knots ks begin right of x, or there are none
  abbrev Ahead : List Knot → Type 0
  Ahead [] = Unit {0}
  Ahead (k ∷ ks) = (lt_z k.x x ≡ false) × (lt_z x k.x ≡ true)

  with_ahead : (y : ℤ) (ks : List Knot) → Ahead ks → with_knot x y ks ≡ knot x y ∷ ks
  with_ahead y [] h = refl
  with_ahead y (k ∷ ks) h = rw (h.0, h.1) refl

  without_ahead : (ks : List Knot) → Ahead ks → without_knot x ks ≡ ks
  without_ahead [] h = refl
  without_ahead (k ∷ ks) h = rw (h.0, h.1) refl

  has_ahead : (ks : List Knot) → Ahead ks → has_knot x ks ≡ false
  has_ahead [] h = refl
  has_ahead (k ∷ ks) h = rw (h.0, h.1) refl

  ahead_right : (y : ℤ) (ks : List Knot) → Ahead ks → linked rightward (Some (knot x y)) (first ks) ≡ true
  ahead_right y [] h = refl
  ahead_right y (k ∷ ks) h = h.1

  -- ---- where knot n - 1 is left of x, so are all before it

  between : (a b : Knot) → rightward a b ≡ true → left x b ≡ true → left x a ≡ true
  between a b h l = sym (omega (arith, ints))

  all_left : (ks : List Knot) (n : ℕ) → neighbours rightward ks ≡ true → n ≤ length ks
      → (0 < n → left x (knot_at ks (n - 1)) ≡ true) → each (left x) (take n ks) ≡ true
  all_left ks zero o l h = refl
  all_left [] (suc n) o l h = absurd (omega arith)
  all_left (k ∷ ks) (suc zero) o l h = and_from (left x k) true (h (omega arith)) refl
  all_left (k ∷ []) (suc (suc n)) o l h = absurd (omega arith)
  all_left (k ∷ (j ∷ ks)) (suc (suc n)) o l h =
      let p = and_parts (rightward k j) (neighbours rightward (j ∷ ks)) o in
      let e : suc (suc n) - 1 ≡ suc n = omega arith in
      let f : suc n - 1 ≡ n = omega arith in
      let at : left x (knot_at (k ∷ (j ∷ ks)) (suc n)) ≡ true =
      subst (λ m. left x (knot_at (k ∷ (j ∷ ks)) m) ≡ true) e (h (omega arith)) in
      let rest = all_left (j ∷ ks) (suc n) p.1 (omega arith)
      (λ _. subst (λ m. left x (knot_at (j ∷ ks) m) ≡ true) (sym f) at) in
      let first = and_parts (left x j) (each (left x) (take n ks)) rest in
      and_from (left x k) (each (left x) (take (suc n) (j ∷ ks))) (between k j p.0 first.0) rest

  -- ---- the slot

  module _ (ks : List Knot) (order : neighbours rightward ks ≡ true) where
    -- the knot before place n is left of x
    before_left : (n : ℕ) (y : ℤ) → (0 < n → left x (knot_at ks (n - 1)) ≡ true)
        → linked rightward (before ks n) (Some (knot x y)) ≡ true
    before_left zero y h = refl
    before_left (suc n) y h =
        let e : suc n - 1 ≡ n = omega arith in subst (λ m. left x (knot_at ks m) ≡ true) e (h (omega arith))

    -- where knot n stands at x, the next is right of x
    next_right : (n : ℕ) (y : ℤ) → lt_z (knot_at ks n).x x ≡ false
        → linked rightward (Some (knot x y)) (knot_from ks (n + 1)) ≡ true
    next_right n y a = by_test (ltb (n + 1) (length ks))
        (λ t. rw t (inside (ltb-true (n + 1) (length ks) t)))
        (λ f. rw f refl)
      where
        onward : (j k : Knot) → rightward j k ≡ true → lt_z j.x x ≡ false → lt_z x k.x ≡ true
        onward j k h l = sym (omega (arith, ints))

        inside : n + 1 < length ks → lt_z x (knot_at ks (n + 1)).x ≡ true
        inside l =
            let e : suc n ≡ n + 1 = omega arith in
            subst (λ m. lt_z x (knot_at ks m).x ≡ true) e
            (onward (knot_at ks n) (knot_at ks (suc n)) (neighbours_at rightward ks order n (omega arith)) a)

    -- no knot at x: the n knots left of it, then those ahead
    no_knot : (n : ℕ) → n ≤ length ks → (0 < n → left x (knot_at ks (n - 1)) ≡ true) → Ahead (drop n ks)
        → Slotted ks x n n
    no_knot n l h a = record {
      order = omega arith;
      narrow = omega arith;
      inside = l;
      left = λ y. before_left n y h;
      right =
          λ y. subst (λ o. linked rightward (Some (knot x y)) o ≡ true) (first_dropped ks n)
          (ahead_right y (drop n ks) a);
      found = whole_is (has_knot x) ∙ has_passes (take n ks) (drop n ks) passed ∙ has_ahead (drop n ks) a
          ∙ sym (le-ltb n n (omega arith));
      with_is = λ y. whole_is (with_knot x y) ∙ with_passes y (take n ks) (drop n ks) passed
          ∙ ap (λ bs. take n ks ++ bs) (with_ahead y (drop n ks) a);
      without_is = whole_is (without_knot x) ∙ without_passes (take n ks) (drop n ks) passed
          ∙ ap (λ bs. take n ks ++ bs) (without_ahead (drop n ks) a);
    }
      where
        passed : each (left x) (take n ks) ≡ true
        passed = all_left ks n order l h

        whole_is : {A : Type 0} (F : List Knot → A) → F ks ≡ F (take n ks ++ drop n ks)
        whole_is F = ap F (sym (take-append-drop n ks))

    -- knot n at x
    one_knot : (n : ℕ) → n < length ks → (0 < n → left x (knot_at ks (n - 1)) ≡ true)
        → lt_z (knot_at ks n).x x ≡ false → lt_z x (knot_at ks n).x ≡ false → Slotted ks x n (n + 1)
    one_knot n l h a b = record {
      order = omega arith;
      narrow = omega arith;
      inside = omega arith;
      left = λ y. before_left n y h;
      right = λ y. next_right n y a;
      found = whole_is (has_knot x) ∙ has_passes (take n ks) _ passed ∙ has_at (knot_at ks n) (drop (n + 1) ks) a b
          ∙ sym (lt-ltb n (n + 1) (omega arith));
      with_is = λ y. whole_is (with_knot x y) ∙ with_passes y (take n ks) _ passed
          ∙ ap (λ bs. take n ks ++ bs) (with_at (knot_at ks n) (drop (n + 1) ks) a b y);
      without_is = whole_is (without_knot x) ∙ without_passes (take n ks) _ passed
          ∙ ap (λ bs. take n ks ++ bs) (without_at (knot_at ks n) (drop (n + 1) ks) a b);
    }
      where
        passed : each (left x) (take n ks) ≡ true
        passed = all_left ks n order (omega arith) h

        whole_is : {A : Type 0} (F : List Knot → A) → F ks ≡ F (take n ks ++ (knot_at ks n ∷ drop (n + 1) ks))
        whole_is F = ap F (sym (take-append-drop n ks) ∙ ap (λ bs. take n ks ++ bs) (drop_more ks n empty l))

    -- the knot before place n stands at x
    pub slot_at : (n : ℕ) (k : Knot) → Reached ks x n → before ks n ≡ Some k → k.x ≡ x → Slotted ks x (n - 1) n
    slot_at zero k r b h = cc
    slot_at (suc m) k r b h =
        let e : m ≡ suc m - 1 = omega arith in
        let f : m + 1 ≡ suc m = omega arith in
        let at : (knot_at ks m).x ≡ x = same_x (knot_at ks m) k b ∙ h in
        subst₂ (Slotted ks x) e f
        (one_knot m (omega (arith, r.inside)) (earlier m at r.inside) (not_left (knot_at ks m) at)
        (not_right (knot_at ks m) at))
      where
        not_left : (k : Knot) → k.x ≡ x → lt_z k.x x ≡ false
        not_left k e = sym (omega (arith, ints))

        not_right : (k : Knot) → k.x ≡ x → lt_z x k.x ≡ false
        not_right k e = sym (omega (arith, ints))

        left_of : (a b : Knot) → rightward a b ≡ true → b.x ≡ x → left x a ≡ true
        left_of a b r e = sym (omega (arith, ints))

        earlier : (m : ℕ) → (knot_at ks m).x ≡ x → suc m ≤ length ks → 0 < m → left x (knot_at ks (m - 1)) ≡ true
        earlier zero e i l = absurd (omega arith)
        earlier (suc j) e i l =
            let s : j ≡ suc j - 1 = omega arith in
            subst (λ n. left x (knot_at ks n) ≡ true) s
            (left_of (knot_at ks j) (knot_at ks (suc j)) (neighbours_at rightward ks order j i) e)

    -- it does not, or there is none
    pub slot_apart : (n : ℕ) → Reached ks x n → ((k : Knot) → before ks n ≡ Some k → ¬ (k.x ≡ x)) → Slotted ks x n n
    slot_apart n r h = no_knot n r.inside (beyond n r.from h) ahead
      where
        beyond : (n : ℕ) → (0 < n → le_z (knot_at ks (n - 1)).x x ≡ true)
            → ((k : Knot) → before ks n ≡ Some k → ¬ (k.x ≡ x)) → 0 < n → left x (knot_at ks (n - 1)) ≡ true
        beyond zero f h l = absurd (omega arith)
        beyond (suc m) f h l =
            let e : suc m - 1 ≡ m = omega arith in
            let apart = h (knot_at ks (suc m - 1)) (ap (λ n. Some (knot_at ks n)) (sym e)) in
            below (knot_at ks (suc m - 1)) (f l) apart
          where
            below : (k : Knot) → le_z k.x x ≡ true → ¬ (k.x ≡ x) → left x k ≡ true
            below k t n = sym (omega (arith, ints))

        short_of : (a : ℤ) → le_z a x ≡ false → (lt_z a x ≡ false) × (lt_z x a ≡ true)
        short_of a h = (sym (omega (arith, ints)), sym (omega (arith, ints)))

        ahead : Ahead (drop n ks)
        ahead = elim (cases_lt n (length ks)) [
          | inl l ↦ subst Ahead (sym (drop_more ks n empty l)) (short_of (knot_at ks n).x (r.short l))
          | inr m ↦ subst Ahead (sym (drop_all n ks m)) tt
        ]
