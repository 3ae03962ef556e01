-- Lists cut open and joined again: the arrays that an edit moves, and the tests of neighbours.
use Rattle.std.proofs.Common.{◌≡◌, ℕ, zero, suc, ◌+◌, ◌-◌, ◌<◌, ◌≤◌, Bool, true, false, ◌&&◌, ltb, List, [], ◌∷◌, ◌++◌, length, take, drop, Some, None, Option, sym, refl, ap, ◌∙◌, subst, ap₂, inl, inr, arith, rules}
use lib.Seq.{paste}
use borrow.Rule.Slice.PartMut.{put_mid}
use Rattle.std.specs.List.{splice}
use Rattle.std.proofs.lemmas.List.{same_lists, places, drop_more, drop_all, length-append, length-drop, length-take-le}
use Rattle.std.proofs.lemmas.Bool.{cases_eq, cases_lt, and_from, and_parts, lt-ltb, le-ltb, ltb-true, cond-true, cond-false}
use Rattle.engine.specs.declared.knot.Knot.{Knot}
use Rattle.engine.specs.Slots.{knot_from, linked}
use Rattle.engine.specs.Edits.{before}
use Rattle.engine.specs.Orders.{by_test}
use Rattle.engine.specs.Knots.{empty, knot_at, each, neighbours}
use Rattle.engine.specs.Lawfuls.{neighbours_at}

-- ---- arrays

-- the first n elements of xs with ys in the place of those from start to end: what is behind moves, then ys are copied in
pub replaced : {X : Type 0} (xs ys : List X) (n start end : ℕ) → start ≤ end → end ≤ n → n ≤ length xs
    → start + length ys + (n - end) ≤ length xs
    → take (start + length ys + (n - end))
    (put_mid start (start + length ys - start) (paste xs (start + length ys) (drop end xs) (n - end)) ys)
    ≡ splice (take n xs) start end ys
replaced xs ys n start end order inside h l =
    same_lists _ _ (search (rules, places))
    (λ i d b. grind (arith, places, cases_lt i start, cases_lt i (start + length ys)))

pub splice_length : {X : Type 0} (xs ys : List X) (start end : ℕ) → start ≤ length xs
    → length (splice xs start end ys) ≡ start + length ys + (length xs - end)
splice_length xs ys start end h = simp (length-append, length-drop) (omega (arith, length-take-le start xs h))

-- ---- tests of neighbours

-- the last and the first knot of a list
abbrev pub last : List Knot → Option Knot
last [] = None
last (a ∷ []) = Some a
last (a ∷ (b ∷ ks)) = last (b ∷ ks)

abbrev pub first : List Knot → Option Knot
first [] = None
first (k ∷ ks) = Some k

-- those of the parts of a list
pub last_taken : (ks : List Knot) (n : ℕ) → n ≤ length ks → last (take n ks) ≡ before ks n
last_taken ks zero l = refl
last_taken [] (suc n) l = absurd (omega arith)
last_taken (a ∷ ks) (suc zero) l = refl
last_taken (a ∷ []) (suc (suc n)) l = absurd (omega arith)
last_taken (a ∷ (b ∷ ks)) (suc (suc n)) l = last_taken (b ∷ ks) (suc n) (omega arith)

pub first_dropped : (ks : List Knot) (n : ℕ) → first (drop n ks) ≡ knot_from ks n
first_dropped ks n = elim (cases_lt n (length ks)) [
  | inl l ↦ ap first (drop_more ks n empty l) ∙ sym (cond-true (ltb n (length ks)) _ _ (lt-ltb n (length ks) l))
  | inr m ↦ ap first (drop_all n ks m) ∙ sym (cond-false (ltb n (length ks)) _ _ (le-ltb n (length ks) m))
]

module _ (p : Knot → Knot → Bool) where
  -- one knot before a list
  after_one : (a : Knot) (bs : List Knot) → neighbours p (a ∷ bs) ≡ (linked p (Some a) (first bs) && neighbours p bs)
  after_one a [] = refl
  after_one a (b ∷ bs) = refl

  -- two lists, the first of which passes
  joined : (ls bs : List Knot) → neighbours p ls ≡ true
      → neighbours p (ls ++ bs) ≡ (linked p (last ls) (first bs) && neighbours p bs)
  joined [] bs h = refl
  joined (a ∷ []) bs h = after_one a bs
  joined (a ∷ (b ∷ ls)) bs h =
      let q = and_parts (p a b) (neighbours p (b ∷ ls)) h in
      ap (λ t. t && neighbours p (b ∷ ls ++ bs)) q.0 ∙ joined (b ∷ ls) bs q.1

  both : (a b c : Bool) → c ≡ true → (a && (b && c)) ≡ (a && b)
  both a true c h = ap (λ t. a && t) h
  both a false c h = refl

  one : (a c : Bool) → c ≡ true → (a && c) ≡ a
  one true c h = h
  one false c h = refl

  -- parts of a list that passes
  take_passes : (ks : List Knot) (n : ℕ) → neighbours p ks ≡ true → neighbours p (take n ks) ≡ true
  take_passes ks zero h = refl
  take_passes [] (suc n) h = refl
  take_passes (a ∷ ks) (suc zero) h = refl
  take_passes (a ∷ []) (suc (suc n)) h = refl
  take_passes (a ∷ (b ∷ ks)) (suc (suc n)) h =
      let q = and_parts (p a b) (neighbours p (b ∷ ks)) h in
      and_from (p a b) (neighbours p (take (suc n) (b ∷ ks))) q.0 (take_passes (b ∷ ks) (suc n) q.1)

  drop_passes : (ks : List Knot) (n : ℕ) → neighbours p ks ≡ true → neighbours p (drop n ks) ≡ true
  drop_passes ks zero h = h
  drop_passes [] (suc n) h = refl
  drop_passes (a ∷ []) (suc n) h = drop_passes [] n refl
  drop_passes (a ∷ (b ∷ ks)) (suc n) h = drop_passes (b ∷ ks) n (and_parts (p a b) (neighbours p (b ∷ ks)) h).1

  -- a list that passes, with k in the place of the knots from start to end, and with nothing there
  module _ (ks : List Knot) (start end : ℕ) (inside : start ≤ length ks) (ok : neighbours p ks ≡ true) where
    pub neighbours_with : (k : Knot) (new : List Knot) → new ≡ take start ks ++ (k ∷ drop end ks)
        → neighbours p new ≡ (linked p (before ks start) (Some k) && linked p (Some k) (knot_from ks end))
    neighbours_with k new e =
        ap (neighbours p) e
        ∙ joined (take start ks) (k ∷ drop end ks) (take_passes ks start ok)
        ∙ ap (λ t. linked p (last (take start ks)) (Some k) && t) (after_one k (drop end ks))
        ∙ both (linked p (last (take start ks)) (Some k)) (linked p (Some k) (first (drop end ks)))
        (neighbours p (drop end ks)) (drop_passes ks end ok)
        ∙ ap₂ (λ a b. linked p a (Some k) && linked p (Some k) b) (last_taken ks start inside) (first_dropped ks end)

    pub neighbours_without : (new : List Knot) → new ≡ take start ks ++ drop end ks
        → neighbours p new ≡ linked p (before ks start) (knot_from ks end)
    neighbours_without new e =
        ap (neighbours p) e
        ∙ joined (take start ks) (drop end ks) (take_passes ks start ok)
        ∙ one (linked p (last (take start ks)) (first (drop end ks))) (neighbours p (drop end ks)) (drop_passes ks end ok)
        ∙ ap₂ (linked p) (last_taken ks start inside) (first_dropped ks end)

  -- with nothing in the place of at most one knot, where the test goes from neighbour to neighbour
  pub skipped : ((a b c : Knot) → p a b ≡ true → p b c ≡ true → p a c ≡ true) → (ks : List Knot) (start end : ℕ)
      → start ≤ end → end ≤ suc start → neighbours p ks ≡ true → linked p (before ks start) (knot_from ks end) ≡ true
  skipped through ks zero end l r ok = refl
  skipped through ks (suc i) end l r ok = by_test (ltb end (length ks))
      (λ t. rw t (inside (ltb-true end (length ks) t)))
      (λ f. rw f refl)
    where
      inside : end < length ks → p (knot_at ks i) (knot_at ks end) ≡ true
      inside h = elim (cases_eq end (suc i)) [
        | inl e ↦ subst (λ n. p (knot_at ks i) (knot_at ks n) ≡ true) (sym e) (neighbours_at p ks ok i (omega arith))
        | inr n ↦
            (let e : end ≡ suc (suc i) = omega arith in
            subst (λ n. p (knot_at ks i) (knot_at ks n) ≡ true) (sym e)
            (through (knot_at ks i) (knot_at ks (suc i)) (knot_at ks (suc (suc i))) (neighbours_at p ks ok i (omega arith))
            (neighbours_at p ks ok (suc i) (omega arith))))
      ]

-- ---- a test of each knot

module _ (p : Knot → Bool) where
  each_joined : (ls bs : List Knot) → each p ls ≡ true → each p bs ≡ true → each p (ls ++ bs) ≡ true
  each_joined [] bs h k = k
  each_joined (a ∷ ls) bs h k =
      let q = and_parts (p a) (each p ls) h in
      and_from (p a) (each p (ls ++ bs)) q.0 (each_joined ls bs q.1 k)

  each_taken : (ks : List Knot) (n : ℕ) → each p ks ≡ true → each p (take n ks) ≡ true
  each_taken ks zero h = refl
  each_taken [] (suc n) h = refl
  each_taken (a ∷ ks) (suc n) h =
      let q = and_parts (p a) (each p ks) h in
      and_from (p a) (each p (take n ks)) q.0 (each_taken ks n q.1)

  each_dropped : (ks : List Knot) (n : ℕ) → each p ks ≡ true → each p (drop n ks) ≡ true
  each_dropped ks zero h = h
  each_dropped [] (suc n) h = refl
  each_dropped (a ∷ ks) (suc n) h = each_dropped ks n (and_parts (p a) (each p ks) h).1

  -- with k in the place of some knots, and with nothing there
  module _ (ks : List Knot) (start end : ℕ) (ok : each p ks ≡ true) where
    pub each_with : (k : Knot) → p k ≡ true → each p (take start ks ++ (k ∷ drop end ks)) ≡ true
    each_with k h =
        each_joined (take start ks) (k ∷ drop end ks) (each_taken ks start ok)
        (and_from (p k) (each p (drop end ks)) h (each_dropped ks end ok))

    pub each_without : each p (take start ks ++ drop end ks) ≡ true
    each_without = each_joined (take start ks) (drop end ks) (each_taken ks start ok) (each_dropped ks end ok)
