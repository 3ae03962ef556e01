-- One cubic piece: its exact value is y plus a quotient whose numerator is the Bernstein form.
use Rattle.std.specs.Prelude.{◌≡◌, ℕ, ◌+◌, ◌*◌, ◌<◌, ◌≤◌, pos, ◌+ℤ◌}
use Rattle.std.proofs.Common.{ap, ap₂, sym, ◌∙◌, subst₂, mul-le-mul, mul_assoc, add-mul, arith}
use Rattle.std.proofs.Math.Nat.{mul-le-mul_right, le_dest}
use Rattle.std.proofs.Math.IntN.{+ℤ_idr}
use borrow.Author.Differences.{ints, up, down}
use Rattle.engine.specs.Fraction.{Fraction, den, whole, ◌+ᶠ◌, ◌-ᶠ◌, ◌*ᶠ◌, ◌/ᶠ◌, ◌≤ᶠ◌, ◌≈ᶠ◌}
use Rattle.engine.specs.declared.knot.Knot.{Knot}
use Rattle.engine.specs.Pieces.{widest}
use Rattle.engine.specs.Orders.{≤ᶠ_refl}
use Rattle.engine.specs.Terms.{Is, Is-whole, Is-as, Is-*, Is-/, Is-+, Is--, Is-≤, val, Val-≤_out}
use Rattle.engine.specs.Sums.{+ᶠ_mono, shift_whole}
use Rattle.engine.specs.Lags.{lag}
use Rattle.engine.specs.Places.{Place, lag_piece}
use Rattle.engine.specs.Tables.{cubic_exact}
use Rattle.engine.specs.Forms.{form, form_mono, form_slow, form_scale, form_start, form_end}

-- ---- the terms of a piece, over one denominator

-- the form and what is taken away are the two terms that are added
pub joined : (A B C G u v : ℕ) → C + B ≡ 3 * G
    → G * (u * u * (u + 3 * v)) + A * (u * v * v) ≡ form A C G u v + B * (u * u * v)
unfolding form
joined A B C G u v h = omega (arith, ap (λ n. n * (u * u * v)) h)

pub cube_pos : {n : ℕ} → 0 < n → 0 < n * n * n
cube_pos k = mul-le-mul (mul-le-mul k k) k

-- the slopes a / b and a' / b' at the ends, and the place U / d from the start and V / d from the end
module _ (h D a b a' b' U V d : ℕ) (h_pos : 0 < h) (b_pos : 0 < b) (b'_pos : 0 < b') (d_pos : 0 < d) where
  abbrev common : ℕ
  common = b * b' * (h * h * h) * (d * d * d)

  common_pos : 0 < common
  common_pos = mul-le-mul (mul-le-mul (mul-le-mul b_pos b'_pos) (cube_pos h_pos)) (cube_pos d_pos)

  height_term : (u z : Fraction) → Is u U d → Is z (U + 3 * V) d
      → Is ((whole (pos D) *ᶠ (u *ᶠ u) *ᶠ z) /ᶠ (h * h * h)) (D * (b * b') * (U * U * (U + 3 * V))) common
  height_term u z i k =
      Is-as _ _ (Is-/ (h * h * h) (cube_pos h_pos) (Is-* (Is-* (Is-whole D) (Is-* i i)) k))
      (mul-le-mul (mul-le-mul (mul-le-mul {n₁ = 1} {n₂ = 1} (omega arith) (mul-le-mul d_pos d_pos)) d_pos)
      (cube_pos h_pos))
      (omega arith)

  start_term : (m u v : Fraction) → Is m a b → Is u U d → Is v V d
      → Is ((m *ᶠ u *ᶠ (v *ᶠ v)) /ᶠ (h * h)) (a * h * b' * (U * V * V)) common
  start_term m u v n i j =
      Is-as _ _ (Is-/ (h * h) (mul-le-mul h_pos h_pos) (Is-* (Is-* n i) (Is-* j j)))
      (mul-le-mul (mul-le-mul (mul-le-mul b_pos d_pos) (mul-le-mul d_pos d_pos)) (mul-le-mul h_pos h_pos))
      (omega arith)

  end_term : (m u v : Fraction) → Is m a' b' → Is u U d → Is v V d
      → Is ((m *ᶠ (u *ᶠ u) *ᶠ v) /ᶠ (h * h)) (a' * h * b * (U * U * V)) common
  end_term m u v n i j =
      Is-as _ _ (Is-/ (h * h) (mul-le-mul h_pos h_pos) (Is-* (Is-* n (Is-* i i)) j))
      (mul-le-mul (mul-le-mul (mul-le-mul b'_pos (mul-le-mul d_pos d_pos)) d_pos) (mul-le-mul h_pos h_pos))
      (omega arith)

  -- v = h - u, and 3h - 2u
  left : (u : Fraction) → U + V ≡ h * d → Is u U d → Is (whole (pos h) -ᶠ u) V d
  left u e i = Is-- d_pos (Is-as (V + U) d (Is-whole h) (omega arith) (omega arith)) i

  bent : (u : Fraction) → U + V ≡ h * d → Is u U d → Is (whole (pos (3 * h)) -ᶠ whole (pos 2) *ᶠ u) (U + 3 * V) d
  bent u e i =
      Is-- d_pos (Is-as (U + 3 * V + 2 * U) d (Is-whole (3 * h)) (omega arith) (omega arith))
      (Is-as (2 * U) d (Is-* (Is-whole 2) i) (omega arith) (omega arith))

  -- all three: what the piece adds to y
  all_terms : (m m' u : Fraction) (C : ℕ) → C + a' * h * b ≡ 3 * (D * (b * b')) → U + V ≡ h * d → Is m a b → Is m' a' b'
      → Is u U d
      → Is
      ((whole (pos D) *ᶠ (u *ᶠ u) *ᶠ (whole (pos (3 * h)) -ᶠ whole (pos 2) *ᶠ u)) /ᶠ (h * h * h)
      +ᶠ (m *ᶠ u *ᶠ ((whole (pos h) -ᶠ u) *ᶠ (whole (pos h) -ᶠ u))) /ᶠ (h * h)
      -ᶠ (m' *ᶠ (u *ᶠ u) *ᶠ (whole (pos h) -ᶠ u)) /ᶠ (h * h))
      (form (a * h * b') C (D * (b * b')) U V) common
  all_terms m m' u C k e n n' i =
      Is-- common_pos
      (rw (joined (a * h * b') (a' * h * b) C (D * (b * b')) U V k) at
      (Is-+ (height_term u _ i (bent u e i)) (start_term m u _ n i (left u e i))))
      (end_term m' u _ n' i (left u e i))

-- ---- two places of one piece, in the order of their arguments: the forms at the common denominator

-- a bound on a rise may be made greater
steeper : (F F' K K' X Y : ℕ) → X ≤ Y → K ≤ K' → F' + K * X ≤ F + K * Y → F' + K' * X ≤ F + K' * Y
steeper F F' K K' X Y l k h = at (le_dest l)
  where
    at : (e : ℕ) × (X + e ≡ Y) → F' + K' * X ≤ F + K' * Y
    at g = omega (arith, ap (λ n. K * n) g.1, ap (λ n. K' * n) g.1, mul-le-mul_right g.0 k)

module _ (A C G h U V d U' V' d' : ℕ) (A_small : A ≤ 3 * G) (C_small : C ≤ 3 * G) (here : U + V ≡ h * d)
    (there : U' + V' ≡ h * d') (order : U * d' ≤ U' * d) where
  meet : U * d' + V * d' ≡ U' * d + V' * d
  meet = omega (arith, ap (λ n. n * d') here, ap (λ n. n * d) there)

  span : U * d' + V * d' ≡ h * (d * d')
  span = omega (arith, ap (λ n. n * d') here)

  forms_mono : (w : ℕ) → form A C G U V * (w * (d' * d' * d')) ≤ form A C G U' V' * (w * (d * d * d))
  forms_mono w =
      go (form A C G U V) (form A C G U' V')
      (subst₂ ◌≤◌ (form_scale A C G U V d') (form_scale A C G U' V' d)
      (form_mono A C G (U * d') (V * d') (U' * d) (V' * d) A_small C_small order meet))
    where
      go : (F F' : ℕ) → F * (d' * d' * d') ≤ F' * (d * d * d) → F * (w * (d' * d' * d')) ≤ F' * (w * (d * d * d))
      go F F' k = omega (arith, mul-le-mul_right w k)

  -- where S is at least three secants, the form rises by at most S times the way
  forms_slow : (S w : ℕ) → 3 * G * (h * h) ≤ S * w
      → form A C G U' V' * (d * d * d) + S * w * (d * d * (d' * d')) * (U * d')
      ≤ form A C G U V * (d' * d' * d') + S * w * (d * d * (d' * d')) * (U' * d)
  forms_slow S w k =
      steeper (form A C G U V * (d' * d' * d')) (form A C G U' V' * (d * d * d))
      (3 * G * (h * (d * d') * (h * (d * d')))) (S * w * (d * d * (d' * d'))) (U * d') (U' * d) order
      (omega (arith, mul-le-mul_right (d * d * (d' * d')) k))
      (go (form_slow A C G (U * d') (V * d') (U' * d) (V' * d) A_small C_small order meet))
    where
      go : form A C G (U' * d) (V' * d) + 3 * G * ((U * d' + V * d') * (U * d' + V * d') * (U * d'))
          ≤ form A C G (U * d') (V * d') + 3 * G * ((U * d' + V * d') * (U * d' + V * d') * (U' * d))
          → form A C G U' V' * (d * d * d) + 3 * G * (h * (d * d') * (h * (d * d'))) * (U * d')
          ≤ form A C G U V * (d' * d' * d') + 3 * G * (h * (d * d') * (h * (d * d'))) * (U' * d)
      go l = simp mul_assoc (simp (span, form_scale, mul_assoc) at l)

-- times the denominators: each term by itself, since all at once are too many products for one `omega`
way_is : (w d d' S U : ℕ)
    → S * U * (w * (d * d * d)) * (d' * (w * (d' * d' * d'))) ≡ S * w * (d * d * (d' * d')) * (U * d') * (w * d * d')
way_is w d d' S U = omega arith

way_is' : (w d d' S U : ℕ)
    → S * U * (w * (d' * d' * d')) * (d * (w * (d * d * d))) ≡ S * w * (d * d * (d' * d')) * (U * d) * (w * d * d')
way_is' w d d' S U = omega arith

rise_is : (w d d' F : ℕ)
    → (F * d' * (d * (w * (d * d * d))) ≡ F * (d * d * d) * (w * d * d')) ×
    (F * d * (d' * (w * (d' * d' * d'))) ≡ F * (d' * d' * d') * (w * d * d'))
rise_is w d d' F = omega arith

slow_go : (w d d' S U U' F F' : ℕ)
    → F' * (d * d * d) + S * w * (d * d * (d' * d')) * (U * d')
    ≤ F * (d' * d' * d') + S * w * (d * d * (d' * d')) * (U' * d)
    → S * U * (w * (d * d * d)) * (d' * (w * (d' * d' * d'))) + F' * d' * (d * (w * (d * d * d)))
    ≤ S * U' * (w * (d' * d' * d')) * (d * (w * (d * d * d))) + F * d * (d' * (w * (d' * d' * d')))
slow_go w d d' S U U' F F' h =
    rw (way_is w d d' S U, way_is' w d d' S U', (rise_is w d d' F').0, (rise_is w d d' F).1)
    (omega (arith, simp add-mul at (mul-le-mul_right (w * d * d') h)))

-- ---- one piece

-- a slope m = a / b of at most three secants of a piece of width h and height D
pub record Slope (m : Fraction) (h D : ℕ) : Type 0 where
  pub a : ℕ
  pub b : ℕ
  pub is : Is m a b
  pub b_pos : 0 < b
  pub gentle : a * h ≤ 3 * D * b

-- a piece with such slopes m and m' at its ends
pub record Gentle (h D : ℕ) (m m' : Fraction) : Type 0 where
  pub wide : 0 < h
  pub narrow : h ≤ widest
  pub start : Slope m h D
  pub end : Slope m' h D

module _ {h D : ℕ} {m m' : Fraction} (g : Gentle h D m m') where
  -- the coefficients of its form, over the product of the slopes' denominators
  abbrev pub scale : ℕ
  scale = g.start.b * g.end.b

  abbrev pub A : ℕ
  A = g.start.a * h * g.end.b

  abbrev pub B : ℕ
  B = g.end.a * h * g.start.b

  abbrev pub G : ℕ
  G = D * scale

  A_small : A ≤ 3 * G
  A_small = omega (arith, mul-le-mul_right g.end.b g.start.gentle)

  pub rest : (C : ℕ) × (B + C ≡ 3 * G)
  rest = le_dest (omega (arith, mul-le-mul_right g.start.b g.end.gentle))

  C_small : rest.0 ≤ 3 * G
  C_small = omega (arith, rest.1)

  -- the form at a place, and its denominator
  abbrev pub F : (u v : ℕ) → ℕ
  F u v = form A rest.0 G u v

  abbrev pub W : ℕ → ℕ
  W d = scale * (h * h * h) * (d * d * d)

  pub W_pos : (q : Fraction) → 0 < W (den q)
  W_pos q =
      mul-le-mul (mul-le-mul (mul-le-mul g.start.b_pos g.end.b_pos) (cube_pos g.wide)) (cube_pos some)
    where
      some : 0 < den q
      some = omega arith

  -- the piece from the knot s
  module _ (s : Knot) where
    -- what it adds to y at q
    abbrev pub climb : Fraction → Fraction
    climb q =
        let u : Fraction = q -ᶠ whole s.x in
        let v : Fraction = whole (pos h) -ᶠ u in
        (whole (pos D) *ᶠ (u *ᶠ u) *ᶠ (whole (pos (3 * h)) -ᶠ whole (pos 2) *ᶠ u)) /ᶠ (h * h * h)
        +ᶠ (m *ᶠ u *ᶠ (v *ᶠ v)) /ᶠ (h * h)
        -ᶠ (m' *ᶠ (u *ᶠ u) *ᶠ v) /ᶠ (h * h)

    pub climb_is : (q : Fraction) (t : Place s.x h q) → Is (climb q) (F t.from_start t.to_end) (W (den q))
    climb_is q t =
        all_terms h D g.start.a g.start.b g.end.a g.end.b t.from_start t.to_end (den q) g.wide
        g.start.b_pos g.end.b_pos (omega arith) m m' _ rest.0 (omega (arith, rest.1)) t.split
        g.start.is g.end.is t.offset

    -- two arguments in order, as places
    below : (p q : Fraction) (t : Place s.x h p) (t' : Place s.x h q) → p ≤ᶠ q
        → t.from_start * den q ≤ t'.from_start * den p
    below p q t t' k = omega (arith, Val-≤_out t.terms t'.terms k)

    -- it does not fall
    pub cubic_grows : (p q : Fraction) → Place s.x h p → Place s.x h q → p ≤ᶠ q
        → cubic_exact s h D m m' p ≤ᶠ cubic_exact s h D m m' q
    unfolding cubic_exact
    cubic_grows p q t t' k =
        +ᶠ_mono s.y
        (Is-≤ (W_pos p) (W_pos q) (climb_is p t) (climb_is q t')
        (forms_mono A rest.0 G h t.from_start t.to_end (den p) t'.from_start t'.to_end (den q) A_small
        C_small t.split t'.split (below p q t t' k) (scale * (h * h * h))))

    -- and rises by at most S for each unit, where S × h is at least 3D
    pub cubic_slow : (S : ℕ) → 3 * D ≤ S * h → (p q : Fraction) → Place s.x h p → Place s.x h q → p ≤ᶠ q
        → lag S p (cubic_exact s h D m m' p) ≤ᶠ lag S q (cubic_exact s h D m m' q)
    unfolding cubic_exact
    cubic_slow S k p q t t' l =
        lag_piece S s.x s.y p q (climb p) (climb q) t.from_start t'.from_start
        (F t.from_start t.to_end) (F t'.from_start t'.to_end) (W (den p)) (W (den q)) (W_pos p)
        (W_pos q) t.terms t'.terms (climb_is p t) (climb_is q t')
        (slow_go (scale * (h * h * h)) (den p) (den q) S t.from_start t'.from_start
        (F t.from_start t.to_end) (F t'.from_start t'.to_end)
        (forms_slow A rest.0 G h t.from_start t.to_end (den p) t'.from_start t'.to_end (den q) A_small
        C_small t.split t'.split (below p q t t' l) S (scale * (h * h * h))
        (omega (arith, mul-le-mul_right (scale * (h * h)) k))))

    -- at its two ends it has the knots' values
    pub at_start : (t : Place s.x h (whole s.x)) → t.from_start ≡ 0
    at_start t = omega (arith, Val-≤_out t.terms (val (whole s.x)) (≤ᶠ_refl (whole s.x)))

    pub cubic_start : Place s.x h (whole s.x) → cubic_exact s h D m m' (whole s.x) ≈ᶠ whole s.y
    unfolding cubic_exact
    cubic_start t =
        shift_whole s.y s.y 0 (sym (+ℤ_idr s.y)) (climb_is (whole s.x) t) (W_pos (whole s.x))
        (ap (λ u. F u t.to_end) (at_start t) ∙ form_start A rest.0 G t.to_end ∙ omega arith)

    module _ (s' : Knot) (e : s'.x ≡ s.x +ℤ pos h) where
      pub at_end : (t : Place s.x h (whole s'.x)) → (t.from_start ≡ h) × (t.to_end ≡ 0)
      at_end t = (omega (arith, none, t.split), none)
        where
          moved : up s'.x + down s.x ≡ down s'.x + up s.x + h
          moved = omega (arith, ints, e)

          none : t.to_end ≡ 0
          none =
              omega (arith, moved, t.split, Val-≤_out (val (whole s'.x)) t.terms (≤ᶠ_refl (whole s'.x)))

      pub cubic_end : s'.y ≡ s.y +ℤ pos D → Place s.x h (whole s'.x)
          → cubic_exact s h D m m' (whole s'.x) ≈ᶠ whole s'.y
      unfolding cubic_exact
      cubic_end e' t =
          shift_whole s.y s'.y D e' (climb_is (whole s'.x) t) (W_pos (whole s'.x))
          (ap₂ F (at_end t).0 (at_end t).1 ∙ form_end A rest.0 G h ∙ omega arith)
