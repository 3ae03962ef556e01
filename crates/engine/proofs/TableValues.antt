-- A table's value by the knots that its argument has reached, and its rise by its pieces, as the code finds them.
use Rattle.std.proofs.Common.{◌≡◌, ℕ, suc, ◌+◌, ◌-◌, ◌*◌, ◌<◌, ◌≤◌, min, max, true, false, eqb, List, length, ℤ, pos, ◌≤ℤ◌, sym, refl, ap, ◌∙◌, subst, ap₂, arith, [], ◌∷◌, drop, inl, inr, ◌⊎◌, subst₂}
use lib.Signed.{le_z}
use borrow.Author.Differences.{ints}
use Rattle.std.proofs.lemmas.Bool.{cases_lt, ne_eqb}
use Rattle.std.proofs.lemmas.List.{drop_all, drop_more, length-drop}
use Rattle.std.proofs.Math.Numerals.{add-one}
use Rattle.engine.specs.Coordinates.{furthest}
use Rattle.engine.specs.Fraction.{Fraction, whole, roundᶠ}
use Rattle.engine.specs.Pieces.{width, height}
use Rattle.engine.specs.Places.{LawfulTable}
use Rattle.engine.specs.declared.knot.Knot.{Knot}
use Rattle.engine.specs.Lines.{line_piece}
use Rattle.engine.specs.Orders.{leZ_false}
use Rattle.engine.specs.Slots.{Reached}
use Rattle.engine.specs.Knots.{empty, fewest, knot_at, lawful}
use Rattle.engine.specs.Neighbours.{Gentle, Neighbours, piece_value, piece_rise}
use Rattle.engine.specs.Tables.{stored_at, slope, stored, value_from, greatest, table_value, table_rise, secant}
use Rattle.engine.specs.declared.kind.Kind.{Kind}
use Rattle.engine.specs.declared.kind.Kind.TheVariants.{Step, Line, Cubic}
use Rattle.engine.specs.CubicPieces.{Slope}
use Rattle.engine.specs.CubicValues.{stored_of, stored_gentle}
use Rattle.engine.specs.Lawfuls.{lawful_list, piece_after}
use Rattle.engine.proofs.Reached.{value_first, value_last, value_reached}
use Rattle.engine.specs.Slopes.{gentle_piece}
use Rattle.engine.specs.TableRules.{kind_rules}

-- ---- one piece

-- a number that is a stored slope is at most three secants
gentle_number : {m : Fraction} {h D : ℕ} (σ : Slope m h D) (c : ℕ) → pos c ≡ stored m → c * h ≤ 6144 * D
gentle_number {h = h} {D} σ c e =
    let same : c ≡ (stored_of σ).c = number (e ∙ (stored_of σ).is) in
    subst (λ n. n * h ≤ 6144 * D) (sym same) (omega (arith, stored_gentle σ))
  where
    number : {a b : ℕ} → pos a ≡ pos b → a ≡ b
    number p = omega (arith, ints)

module _ (k : ℕ → Knot) (top : ℕ) (law : LawfulTable k top) where
  -- the value from knot i on is that of its piece
  piece_is : (kind : Kind) (i : ℕ) (x : ℤ) → i < top
      → value_from kind k top i x
      ≡ piece_value kind (k i) (k (suc i)) (stored (slope k top i)) (stored (slope k top (suc i))) x
  unfolding value_from width height
  piece_is Step i x l = refl
  piece_is Line i x l = ap roundᶠ (line_piece k top law.knots i (whole x) l)
  piece_is Cubic i x l = let e : eqb i top ≡ false = ne_eqb i top (λ n. omega arith) in rw e refl

  start_gentle : (i c : ℕ) → i < top → pos c ≡ stored (slope k top i) → Gentle (k i) (k (suc i)) c
  unfolding width height
  start_gentle i c l e = gentle_number (gentle_piece k top law i l).start c e

  end_gentle : (i c : ℕ) → i < top → pos c ≡ stored (slope k top (suc i)) → Gentle (k i) (k (suc i)) c
  unfolding width height
  end_gentle i c l e = gentle_number (gentle_piece k top law i l).end c e

-- ---- a list of knots

module _ (ks : List Knot) (some : fewest ≤ length ks) (ok : lawful ks ≡ true) where
  abbrev k : ℕ → Knot
  k = knot_at ks

  abbrev top : ℕ
  top = length ks - 1

  law : LawfulTable k top
  law = lawful_list ks ok some

  -- the stored slopes at the ends of piece i are at most three secants
  module _ (i : ℕ) (inside : i + 1 < length ks) where
    pub gentle_start : (c : ℕ) → pos c ≡ stored_at ks i → Gentle (k i) (k (i + 1)) c
    gentle_start c e =
        subst (λ j. Gentle (k i) (k j) c) (sym (add-one i)) (start_gentle k top law i c (omega arith) e)

    pub gentle_end : (c : ℕ) → pos c ≡ stored_at ks (i + 1) → Gentle (k i) (k (i + 1)) c
    gentle_end c e =
        subst (λ j. Gentle (k i) (k j) c) (sym (add-one i))
        (end_gentle k top law i c (omega arith) (subst (λ j. pos c ≡ stored_at ks j) (add-one i) e))

  -- n knots are reached
  module _ (x : ℤ) (n : ℕ) (r : Reached ks x n) where
    -- none
    pub none_reached : (kind : Kind) → n ≡ 0 → (k 0).y ≡ table_value kind k top x
    none_reached kind e =
        sym (value_first kind k top law.knots x (subst (λ i. le_z (k i).x x ≡ false) e (r.short (omega arith))))

    -- all
    pub all_reached : (kind : Kind) → n ≡ length ks → (k (n - 1)).y ≡ table_value kind k top x
    all_reached kind e =
        let last : n - 1 ≡ top = ap (λ m. m - 1) e in
        ap (λ i. (k i).y) last
        ∙ sym (value_last kind k top law x (subst (λ i. le_z (k i).x x ≡ true) last (r.from (omega arith))))

    -- some: x lies in the piece before knot n
    module _ (begun : 0 < n) (short : n < length ks) where
      next : n ≡ n - 1 + 1
      next = omega arith

      pub reached_short : x ≤ℤ (k (n - 1 + 1)).x
      reached_short = subst (λ i. x ≤ℤ (k i).x) next (leZ_false (k n).x x (r.short short))

      pub reached_value : (kind : Kind)
          → piece_value kind (k (n - 1)) (k (n - 1 + 1)) (stored_at ks (n - 1)) (stored_at ks (n - 1 + 1)) x
          ≡ table_value kind k top x
      reached_value kind =
          ap (λ i. piece_value kind (k (n - 1)) (k i) (stored_at ks (n - 1)) (stored_at ks i) x) (add-one (n - 1))
          ∙ sym (piece_is k top law kind (n - 1) x (omega arith))
          ∙ sym (value_reached kind k top law.knots (n - 1) x (omega arith) (r.from begun) beyond)
        where
          beyond : n - 1 < top → le_z (k (suc (n - 1))).x x ≡ false
          beyond l = subst (λ i. le_z (k i).x x ≡ false) (next ∙ add-one (n - 1)) (r.short short)

-- ---- the rise

-- the greatest rise of the first n pieces
unfoldable pub steepest : Kind → (ℕ → Knot) → ℕ → ℕ
steepest kind k n = greatest (λ i. piece_rise kind (k i) (k (suc i))) n

pub steepest_none : (kind : Kind) (k : ℕ → Knot) → 0 ≡ steepest kind k 0
unfolding steepest greatest
steepest_none kind k = refl

-- what two walks over the knots, one a knot ahead, have seen: n knots before them, and the greatest rise of the first n pieces
pub record Walked (kind : Kind) (ks : List Knot) (n greatest : ℕ) (behind ahead : List Knot) : Type 0 where
  pub behind_is : behind ≡ drop n ks
  pub ahead_is : ahead ≡ drop (n + 1) ks
  pub room : n + 1 ≤ length ks
  pub greatest_is : greatest ≡ steepest kind (knot_at ks) n

-- the next of some knots
next_knot : (ks : List Knot) (n : ℕ) (k : Knot) (rest xs : List Knot) → xs ≡ drop n ks → xs ≡ k ∷ rest
    → (n < length ks) × (k ≡ knot_at ks n) × (rest ≡ drop (n + 1) ks)
next_knot ks n k rest xs e f = elim (cases_lt n (length ks)) [
  | inl l ↦
      (let both : ◌≡◌ {A = List Knot} (k ∷ rest) (knot_at ks n ∷ drop (n + 1) ks) = sym f ∙ e ∙ drop_more ks n empty l in
      (l, ap (λ xs. knot_at xs 0) both, ap (drop 1) both))
  | inr m ↦ (let none : ◌≡◌ {A = List Knot} (k ∷ rest) [] = sym f ∙ e ∙ drop_all n ks m in absurd (omega (arith, ap length none)))
]

module _ (kind : Kind) (ks : List Knot) (n a : ℕ) (behind ahead : List Knot) (w : Walked kind ks n a behind ahead) where
  -- a turn, which takes the knots p and q
  module _ (p q : Knot) (ps qs : List Knot) (e : behind ≡ p ∷ ps) (f : ahead ≡ q ∷ qs) where
    pub walked_piece : lawful ks ≡ true → Neighbours p q
    walked_piece ok =
        let g = next_knot ks n p ps behind w.behind_is e in
        let h = next_knot ks (n + 1) q qs ahead w.ahead_is f in
        subst₂ Neighbours (sym g.1) (sym h.1) (piece_after ks ok n h.0)

    pub walked_on : (r s : ℕ) → r ≡ piece_rise kind p q → s ≡ max r a → Walked kind ks (n + 1) s ps qs
    unfolding steepest greatest
    walked_on r s told up =
        let g = next_knot ks n p ps behind w.behind_is e in
        let h = next_knot ks (n + 1) q qs ahead w.ahead_is f in
        record {
          behind_is = g.2;
          ahead_is = h.2;
          room = omega (arith, h.0);
          greatest_is = subst (λ m. s ≡ steepest kind (knot_at ks) m) (sym (add-one n))
              (up
              ∙ ap₂ max (told ∙ ap₂ (piece_rise kind) g.1 (h.1 ∙ ap (knot_at ks) (add-one n))) w.greatest_is);
        }

  -- its end, where either walk is over
  pub walked_all : fewest ≤ length ks → (length behind ≡ 0) ⊎ (length ahead ≡ 0) → n ≡ length ks - 1
  walked_all some over = elim over [
    | inl e ↦ omega (arith, e, ap length w.behind_is, length-drop n ks, w.room)
    | inr e ↦ omega (arith, e, ap length w.ahead_is, length-drop (n + 1) ks, w.room)
  ]

-- held, it is the table's; steps and lines need no holding
held : (a : ℕ) → a ≤ furthest → min a furthest ≡ a
held a h = omega arith

steepest_is : (kind : Kind) (k : ℕ → Knot) (top : ℕ) → LawfulTable k top
    → min (steepest kind k top) furthest ≡ table_rise kind k top
unfolding steepest table_rise width height secant
steepest_is Step k n lawful = held _ (kind_rules Step k n lawful).rise_fits
steepest_is Line k n lawful = held _ (kind_rules Line k n lawful).rise_fits
steepest_is Cubic k n lawful = refl

pub steepest_held : (kind : Kind) (ks : List Knot) → fewest ≤ length ks → lawful ks ≡ true
    → min (steepest kind (knot_at ks) (length ks - 1)) furthest ≡ table_rise kind (knot_at ks) (length ks - 1)
steepest_held kind ks some ok = steepest_is kind (knot_at ks) (length ks - 1) (lawful_list ks ok some)
