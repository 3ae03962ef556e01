-- Put and drop by the place of x: why they are refused, that what they leave is lawful, and which knots they leave.
use Rattle.std.proofs.Common.{◌≡◌, ℕ, ◌+◌, ◌-◌, ◌<◌, ◌≤◌, Bool, true, false, ◌&&◌, ltb, ◌⊎◌, List, [], ◌∷◌, length, ℤ, Some, None, Option, sym, refl, ap, ◌∙◌, subst, ap₂, inl, inr, arith}
use lib.Signed.{lt_z}
use Rattle.std.specs.List.{splice}
use Rattle.std.proofs.lemmas.Int.{ints}
use Rattle.std.proofs.lemmas.Bool.{and_from, and_parts, lt-ltb, le-ltb}
use Rattle.engine.specs.Coordinates.{coordinate}
use Rattle.engine.specs.Refusals.{alone, not_coordinate, knot_count, out_of_order, too_far_apart, no_knot}
use Rattle.engine.specs.declared.knot.Knot.{Knot}
use Rattle.engine.specs.Slots.{Slotted, knot_from, linked, fitted}
use Rattle.engine.specs.Orders.{by_test}
use Rattle.engine.specs.Edits.{before, Has, put_refusal, drop_refusal}
use Rattle.engine.specs.Knots.{fewest, most, knot, fits, rightward, near, upward, each, neighbours, lawful}
use Rattle.engine.specs.Knots.{with_knot, has_knot, without_knot}
use Rattle.engine.proofs.Faults.{unrefused, passes}
use Rattle.engine.specs.Lawfuls.{parts}
use Rattle.engine.proofs.Splices.{splice_length, neighbours_with, neighbours_without, skipped, each_with, each_without}

module _ (ks : List Knot) (x : ℤ) (start end : ℕ) (s : Slotted ks x start end) (ok : lawful ks ≡ true) where
  inside : start ≤ length ks
  inside = omega (arith, s.order, s.inside)

  -- ---- put

  module _ (y : ℤ) where
    pub with_length : length (with_knot x y ks) ≡ start + (length ks - end) + 1
    with_length = ap length (s.with_is y) ∙ splice_length ks (knot x y ∷ []) start end inside ∙ omega arith

    -- `b` and `a` are the knots before and after the place
    module _ (b a : Option Knot) (b_is : b ≡ before ks start) (a_is : a ≡ knot_from ks end) where
      with_tests : (p : Knot → Knot → Bool) → neighbours p ks ≡ true
          → neighbours p (with_knot x y ks) ≡ fitted p b (knot x y) a
      with_tests p h =
          neighbours_with p ks start end inside h (knot x y) (with_knot x y ks) (s.with_is y)
          ∙ ap₂ (λ b a. fitted p b (knot x y) a) (sym b_is) (sym a_is)

      near_is : neighbours near (with_knot x y ks) ≡ fitted near b (knot x y) a
      near_is = with_tests near (parts ks ok).2

      upward_is : neighbours upward (with_knot x y ks) ≡ fitted upward b (knot x y) a
      upward_is = with_tests upward (parts ks ok).3

      module _ (in_range : (coordinate x && coordinate y) ≡ true) (room : start + (length ks - end) + 1 ≤ most) where
        few : ltb most (length (with_knot x y ks)) ≡ false
        few = le-ltb most _ (omega (arith, with_length))

        pub put_apart : fitted near b (knot x y) a ≡ false → put_refusal x y ks ≡ Some (alone too_far_apart)
        put_apart h = let e = near_is ∙ h in let f = few in rw (in_range, f, e) refl

        pub put_order : fitted near b (knot x y) a ≡ true → fitted upward b (knot x y) a ≡ false
            → put_refusal x y ks ≡ Some (alone out_of_order)
        put_order h l = let e = near_is ∙ h in let g = upward_is ∙ l in let f = few in rw (in_range, f, e, g) refl

        pub put_honoured : fitted near b (knot x y) a ≡ true → fitted upward b (knot x y) a ≡ true
            → put_refusal x y ks ≡ None
        put_honoured h l = let e = near_is ∙ h in let g = upward_is ∙ l in let f = few in rw (in_range, f, e, g) refl

    pub put_count : (coordinate x && coordinate y) ≡ true → most < start + (length ks - end) + 1
        → put_refusal x y ks ≡ Some (alone knot_count)
    put_count in_range h =
        let many : ltb most (length (with_knot x y ks)) ≡ true = lt-ltb most _ (omega (arith, with_length)) in
        rw (in_range, many) refl

  -- ---- drop

  pub without_length : length (without_knot x ks) ≡ start + (length ks - end)
  without_length = ap length s.without_is ∙ splice_length ks [] start end inside ∙ omega arith

  module _ (there : ¬ (start ≡ end)) where
    present : has_knot x ks ≡ true
    present = s.found ∙ lt-ltb start end (omega (arith, s.order))

    module _ (some : fewest ≤ start + (length ks - end)) where
      enough : ltb (length (without_knot x ks)) fewest ≡ false
      enough = le-ltb _ fewest (omega (arith, without_length))

      without_near : neighbours near (without_knot x ks) ≡ linked near (before ks start) (knot_from ks end)
      without_near = neighbours_without near ks start end inside (parts ks ok).2 (without_knot x ks) s.without_is

      pub drop_apart : linked near (before ks start) (knot_from ks end) ≡ false
          → drop_refusal x ks ≡ Some (alone too_far_apart)
      drop_apart h = let e = present in let f = enough in let g = without_near ∙ h in rw (e, f, g) refl

      pub drop_honoured : linked near (before ks start) (knot_from ks end) ≡ true → drop_refusal x ks ≡ None
      drop_honoured h = let e = present in let f = enough in let g = without_near ∙ h in rw (e, f, g) refl

  -- ---- what they leave is lawful

  put_lawful : (y : ℤ) → put_refusal x y ks ≡ None → lawful (with_knot x y ks) ≡ true
  put_lawful y h =
      let a = passes (coordinate x && coordinate y) (alone not_coordinate) _ h in
      let b = unrefused (ltb most (length (with_knot x y ks))) (alone knot_count) _ a.1 in
      let c = passes (neighbours near (with_knot x y ks)) (alone too_far_apart) _ b.1 in
      let d = passes (neighbours upward (with_knot x y ks)) (alone out_of_order) None c.1 in
      let fit = each_with fits ks start end (parts ks ok).0 (knot x y) a.0 in
      and_from _ _ (subst (λ l. each fits l ≡ true) (sym (s.with_is y)) fit)
      (and_from _ _ (rightward_with y) (and_from _ _ c.0 d.0))
    where
      rightward_with : (y : ℤ) → neighbours rightward (with_knot x y ks) ≡ true
      rightward_with y =
          neighbours_with rightward ks start end inside (parts ks ok).1 (knot x y) (with_knot x y ks) (s.with_is y)
          ∙ and_from _ _ (s.left y) (s.right y)

  drop_lawful : drop_refusal x ks ≡ None → lawful (without_knot x ks) ≡ true
  drop_lawful h =
      let a = passes (has_knot x ks) (alone no_knot) _ h in
      let b = unrefused (ltb (length (without_knot x ks)) fewest) (alone knot_count) _ a.1 in
      let c = passes (neighbours near (without_knot x ks)) (alone too_far_apart) None b.1 in
      let fit = each_without fits ks start end (parts ks ok).0 in
      and_from _ _ (subst (λ l. each fits l ≡ true) (sym s.without_is) fit)
      (and_from _ _ (kept rightward rightward_through (parts ks ok).1)
      (and_from _ _ c.0 (kept upward upward_through (parts ks ok).3)))
    where
      kept : (p : Knot → Knot → Bool) → ((a b c : Knot) → p a b ≡ true → p b c ≡ true → p a c ≡ true)
          → neighbours p ks ≡ true → neighbours p (without_knot x ks) ≡ true
      kept p through h =
          neighbours_without p ks start end inside h (without_knot x ks) s.without_is
          ∙ skipped p through ks start end s.order s.narrow h

      rightward_through : (a b c : Knot) → rightward a b ≡ true → rightward b c ≡ true → rightward a c ≡ true
      rightward_through a b c h k = sym (omega (arith, ints))

      upward_through : (a b c : Knot) → upward a b ≡ true → upward b c ≡ true → upward a c ≡ true
      upward_through a b c h k = sym (omega (arith, ints))

  -- the same of the list cut open and joined
  module _ (y : ℤ) (none : put_refusal x y ks ≡ None) where
    pub put_ok : lawful (splice ks start end (knot x y ∷ [])) ≡ true
    put_ok = subst (λ l. lawful l ≡ true) (s.with_is y) (put_lawful y none)

  module _ (none : drop_refusal x ks ≡ None) where
    pub drop_ok : lawful (splice ks start end []) ≡ true
    drop_ok = subst (λ l. lawful l ≡ true) s.without_is (drop_lawful none)

-- ---- the knots that they leave

either : {A B C : Type 0} → A ⊎ B → (B → C) → A ⊎ C
either h f = elim h [ inl e ↦ inl e | inr m ↦ inr (f m) ]

module _ (x : ℤ) where
  -- a knot that is neither left nor right of x stands at x
  stands : (k : Knot) → lt_z k.x x ≡ false → lt_z x k.x ≡ false → k.x ≡ x
  stands k h l = omega (arith, ints)

  -- a knot elsewhere is among the knots after one at x
  not_at : (k j : Knot) (ks : List Knot) → ¬ (k.x ≡ x) → j.x ≡ x → (k ≡ j) ⊎ Has k ks → Has k ks
  not_at k j ks other e h = elim h [ inl p ↦ absurd (other (ap (λ k. k.x) p ∙ e)) | inr m ↦ m ]

  module _ (y : ℤ) (k : Knot) (other : ¬ (k.x ≡ x)) where
    pub put_stay : (ks : List Knot) → Has k ks → Has k (with_knot x y ks)
    put_stay [] h = absurd h
    put_stay (j ∷ ks) h = by_test (lt_z j.x x)
        (λ t. rw t (either h (put_stay ks)))
        (λ f. by_test (lt_z x j.x)
        (λ t. rw (f, t) (inr h))
        (λ g. rw (f, g) (inr (not_at k j ks other (stands j f g) h))))

    pub put_none : (ks : List Knot) → Has k (with_knot x y ks) → Has k ks
    put_none [] h = elim h [ inl p ↦ absurd (other (ap (λ k. k.x) p)) | inr m ↦ absurd m ]
    put_none (j ∷ ks) h = by_test (lt_z j.x x)
        (λ t. either (rw t at h) (put_none ks))
        (λ f. by_test (lt_z x j.x) (λ t. new (rw (f, t) at h)) (λ g. inr (new (rw (f, g) at h))))
      where
        new : {A : Type 0} → (k ≡ knot x y) ⊎ A → A
        new h = elim h [ inl p ↦ absurd (other (ap (λ k. k.x) p)) | inr m ↦ m ]

  module _ (k : Knot) where
    pub drop_stay : ¬ (k.x ≡ x) → (ks : List Knot) → Has k ks → Has k (without_knot x ks)
    drop_stay other [] h = absurd h
    drop_stay other (j ∷ ks) h = by_test (lt_z j.x x)
        (λ t. rw t (either h (drop_stay other ks)))
        (λ f. by_test (lt_z x j.x) (λ t. rw (f, t) h) (λ g. rw (f, g) (not_at k j ks other (stands j f g) h)))

    pub drop_none : (ks : List Knot) → Has k (without_knot x ks) → Has k ks
    drop_none [] h = h
    drop_none (j ∷ ks) h = by_test (lt_z j.x x)
        (λ t. either (rw t at h) (drop_none ks))
        (λ f. by_test (lt_z x j.x) (λ t. rw (f, t) at h) (λ g. inr (rw (f, g) at h)))

    -- every knot after j is right of it
    right_of : (j : Knot) (ks : List Knot) → neighbours rightward (j ∷ ks) ≡ true → Has k ks → lt_z j.x k.x ≡ true
    right_of j [] o h = absurd h
    right_of j (b ∷ ks) o h =
        let p = and_parts (rightward j b) (neighbours rightward (b ∷ ks)) o in
        elim h [
          | inl e ↦ subst (λ n. lt_z j.x n.x ≡ true) (sym e) p.0
          | inr m ↦ onward j b p.0 (right_of b ks p.1 m)
        ]
      where
        onward : (j b : Knot) → lt_z j.x b.x ≡ true → lt_z b.x k.x ≡ true → lt_z j.x k.x ≡ true
        onward j b h l = sym (omega (arith, ints))

    pub drop_gone : (ks : List Knot) → neighbours rightward ks ≡ true → Has k (without_knot x ks) → ¬ (k.x ≡ x)
    drop_gone [] o h e = h
    drop_gone (j ∷ ks) o h e = by_test (lt_z j.x x)
        (λ t. before t (rw t at h) (drop_gone ks (rest ks o)))
        (λ f. by_test (lt_z x j.x) (λ t. after t (rw (f, t) at h)) (λ g. beyond f (rw (f, g) at h)))
      where
        rest : (ks : List Knot) → neighbours rightward (j ∷ ks) ≡ true → neighbours rightward ks ≡ true
        rest [] o = refl
        rest (b ∷ ks) o = (and_parts (rightward j b) (neighbours rightward (b ∷ ks)) o).1

        before : lt_z j.x x ≡ true → (k ≡ j) ⊎ Has k (without_knot x ks)
            → (Has k (without_knot x ks) → ¬ (k.x ≡ x)) → ⊥
        before t h f = elim h [ inl p ↦ (let same = ap (λ k. k.x) p in omega (arith, ints)) | inr m ↦ f m e ]

        after : lt_z x j.x ≡ true → (k ≡ j) ⊎ Has k ks → ⊥
        after t h = elim h [
          | inl p ↦ (let same = ap (λ k. k.x) p in omega (arith, ints))
          | inr m ↦ (let r = right_of j ks o m in omega (arith, ints))
        ]

        beyond : lt_z j.x x ≡ false → Has k ks → ⊥
        beyond f m = let r = right_of j ks o m in omega (arith, ints)
