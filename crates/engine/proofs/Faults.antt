-- The first fault of a list of knots: the loop that looks for it, what it names, and that a list without one is lawful.
use Rattle.std.proofs.Common.{◌≡◌, ℕ, zero, suc, ◌+◌, ◌<◌, ◌≤◌, Bool, true, false, cond, not, List, [], ◌∷◌, length, drop, Some, None, Option, sym, refl, ap, ◌∙◌, subst, add-zero, add-one, arith}
use Rattle.std.specs.Option.{option_or}
use Rattle.std.proofs.lemmas.List.{at_drop_more, at_drop_all}
use Rattle.std.proofs.lemmas.Bool.{and_from, not-false}
use Rattle.std.specs.Prelude.{Ok, Err, Result, is_ok, MatchResult}
use Rattle.engine.specs.Refusals.{Outcome, Told, at_index, load_told, told}
use Rattle.engine.specs.declared.refusal.Refusal.{Refusal}
use Rattle.engine.specs.declared.refusal.LoadRefusal.{LoadRefusal}
use Rattle.engine.specs.declared.refusal.LoadRefusal.TheVariants.{AtKnot}
use Rattle.engine.specs.Refusals.{not_coordinate, not_rightward, out_of_order, too_far_apart}
use Rattle.engine.specs.declared.knot.Knot.{Knot}
use Rattle.engine.specs.Edits.{order_fault, knot_fault, first_fault, before, FirstFault, NamesFirst}
use Rattle.engine.specs.Knots.{empty, knot_at, fits, rightward, near, upward, each, neighbours, lawful}

-- ---- the loop

-- a turn at knot i, where the knots that are left give the fault of all
module _ (ks : List Knot) (all : Option Told) (i : ℕ) (b : Option Knot) (inside : i < length ks)
    (inv : all ≡ first_fault i b (drop i ks)) where
  turn : all ≡ option_or (knot_fault i b (knot_at ks i)) (first_fault (suc i) (Some (knot_at ks i)) (drop (i + 1) ks))
  turn = inv ∙ at_drop_more (first_fault i b) ks i empty inside

  pub fault_here : (t : Told) → knot_fault i b (knot_at ks i) ≡ Some t → all ≡ Some t
  fault_here t e =
      turn ∙ ap (λ o. option_or o (first_fault (suc i) (Some (knot_at ks i)) (drop (i + 1) ks))) e

  pub fault_later : knot_fault i b (knot_at ks i) ≡ None
      → all ≡ first_fault (i + 1) (Some (knot_at ks i)) (drop (i + 1) ks)
  fault_later e =
      turn
      ∙ ap (λ o. option_or o (first_fault (suc i) (Some (knot_at ks i)) (drop (i + 1) ks))) e
      ∙ ap (λ n. first_fault n (Some (knot_at ks i)) (drop (i + 1) ks)) (sym (add-one i))

-- the check of one knot, whose refusal is told with the index i
module _ (i : ℕ) (b : Option Knot) (k : Knot) where
  abbrev Checked : Result (Unit {0}) Refusal → Type 0
  Checked = Outcome (λ r. at_index i (told r).number) (knot_fault i b k) (λ _. Unit {0})

  pub knot_passes : (r : Result (Unit {0}) Refusal) → Checked r → true ≡ is_ok r → knot_fault i b k ≡ None
  knot_passes (Ok u) o e = o.0
  knot_passes (Err r) o e = cc

  pub knot_refused : (P : Refusal → Type 0) (r : Result (Unit {0}) Refusal) (e : LoadRefusal) → Checked r
      → MatchResult r (λ u. ◌≡◌ {A = Result (Unit {0}) LoadRefusal} (Err e) (Ok u)) P
      → ((r : Refusal) → P r → e ≡ AtKnot i r) → knot_fault i b k ≡ Some (load_told e)
  knot_refused P (Ok u) e o m at = cc
  knot_refused P (Err r) e o m at = o ∙ ap (λ e. Some (load_told e)) (sym (at r m))

-- its end
pub fault_none : (ks : List Knot) (all : Option Told) (i : ℕ) (b : Option Knot) → length ks ≤ i
    → all ≡ first_fault i b (drop i ks) → all ≡ None
fault_none ks all i b h inv = inv ∙ at_drop_all (first_fault i b) ks i h

-- ---- no fault

-- where no refusal is due, a check has not failed and no later one has
pub unrefused : (s : Bool) (t : Told) (later : Option Told) → cond s (Some t) later ≡ None
    → (s ≡ false) × (later ≡ None)
unrefused true t later h = (cc, cc)
unrefused false t later h = (refl, h)

pub passes : (s : Bool) (t : Told) (later : Option Told) → cond (not s) (Some t) later ≡ None
    → (s ≡ true) × (later ≡ None)
passes s t later h = let u = unrefused (not s) t later h in (not-false s u.0, u.1)

-- a search that finds nothing found nothing here, and finds nothing later
neither : (o later : Option Told) → option_or o later ≡ None → (o ≡ None) × (later ≡ None)
neither (Some t) later h = (cc, cc)
neither None later h = (refl, h)

after : (i : ℕ) (p : Knot) (ks : List Knot) → first_fault i (Some p) ks ≡ None
    → (each fits ks ≡ true) × (neighbours rightward (p ∷ ks) ≡ true) × (neighbours near (p ∷ ks) ≡ true)
    × (neighbours upward (p ∷ ks) ≡ true)
after i p [] h = (refl, refl, refl, refl)
after i p (k ∷ ks) h =
    let n = neither (knot_fault i (Some p) k) (first_fault (suc i) (Some k) ks) h in
    let a = passes (fits k) (at_index i not_coordinate) (order_fault i (Some p) k) n.0 in
    let b = passes (rightward p k) (at_index i not_rightward) _ a.1 in
    let c = passes (near p k) (at_index i too_far_apart) _ b.1 in
    let d = passes (upward p k) (at_index i out_of_order) None c.1 in
    let r = after (suc i) k ks n.1 in (
      and_from _ _ a.0 r.0,
      and_from _ _ b.0 r.1,
      and_from _ _ c.0 r.2,
      and_from _ _ d.0 r.3,
    )

pub faultless_lawful : (ks : List Knot) → first_fault 0 None ks ≡ None → lawful ks ≡ true
faultless_lawful [] h = refl
faultless_lawful (k ∷ ks) h =
    let n = neither (knot_fault 0 None k) (first_fault 1 (Some k) ks) h in
    let a = passes (fits k) (at_index 0 not_coordinate) None n.0 in
    let r = after 1 k ks n.1 in
    and_from _ _ (and_from _ _ a.0 r.0) (and_from _ _ r.1 (and_from _ _ r.2 r.3))

-- ---- what a fault names

-- a fault of the knot at index i tells that index
one_told : (s : Bool) (i n : ℕ) (later : Option Told) (t : Told)
    → (later ≡ Some t → t.index ≡ Some i) → cond (not s) (Some (at_index i n)) later ≡ Some t → t.index ≡ Some i
one_told true i n later t f h = f h
one_told false i n later t f h = cc

tells_index : (i : ℕ) (b : Option Knot) (k : Knot) (t : Told) → knot_fault i b k ≡ Some t → t.index ≡ Some i
tells_index i None k t =
    one_told (fits k) i not_coordinate None t (λ e. let z : ◌≡◌ {A = ℕ} 0 1 = cc in absurd (omega arith))
tells_index i (Some p) k t =
    one_told (fits k) i not_coordinate (order_fault i (Some p) k) t
    (one_told (rightward p k) i not_rightward _ t
    (one_told (near p k) i too_far_apart _ t
    (one_told (upward p k) i out_of_order None t
    (λ e. let z : ◌≡◌ {A = ℕ} 0 1 = cc in absurd (omega arith)))))

-- the knot before knot i, where b stands before the whole list
abbrev follows : Option Knot → List Knot → ℕ → Option Knot
follows b ks zero = b
follows b ks (suc i) = Some (knot_at ks i)

-- a fault is that of some knot, and the knots before it have none
record Found (n : ℕ) (b : Option Knot) (ks : List Knot) (t : Told) : Type 0 where
  at : ℕ
  inside : at < length ks
  at_fault : knot_fault (n + at) (follows b ks at) (knot_at ks at) ≡ Some t
  faultless : (j : ℕ) → j < at → knot_fault (n + j) (follows b ks j) (knot_at ks j) ≡ None

found : (n : ℕ) (b : Option Knot) (ks : List Knot) (t : Told) → first_fault n b ks ≡ Some t → Found n b ks t
found n b [] t h = let z : ◌≡◌ {A = ℕ} 0 1 = cc in absurd (omega arith)
found n b (k ∷ ks) t h = here (knot_fault n b k) refl h (found (suc n) (Some k) ks t)
  where
    zero_is : n ≡ n + 0
    zero_is = sym (add-zero n)

    next : knot_fault n b k ≡ None → Found (suc n) (Some k) ks t → Found n b (k ∷ ks) t
    next e f = record {
      at = suc f.at;
      inside = omega (arith, f.inside);
      at_fault = subst (λ m. knot_fault m (follows b (k ∷ ks) (suc f.at)) (knot_at ks f.at) ≡ Some t)
          (moved f.at)
          (before_is f.at (λ o. knot_fault (suc n + f.at) o (knot_at ks f.at) ≡ Some t) f.at_fault);
      faultless = earlier;
    }
      where
        moved : (j : ℕ) → suc n + j ≡ n + suc j
        moved j = omega arith

        before_is : (j : ℕ) (P : Option Knot → Type 0) → P (follows (Some k) ks j) → P (follows b (k ∷ ks) (suc j))
        before_is zero P p = p
        before_is (suc j) P p = p

        earlier : (j : ℕ) → j < suc f.at → knot_fault (n + j) (follows b (k ∷ ks) j) (knot_at (k ∷ ks) j) ≡ None
        earlier zero l = subst (λ m. knot_fault m b k ≡ None) zero_is e
        earlier (suc j) l =
            subst (λ m. knot_fault m (follows b (k ∷ ks) (suc j)) (knot_at ks j) ≡ None) (moved j)
            (before_is j (λ o. knot_fault (suc n + j) o (knot_at ks j) ≡ None) (f.faultless j (omega arith)))

    here : (o : Option Told) → knot_fault n b k ≡ o → option_or o (first_fault (suc n) (Some k) ks) ≡ Some t
        → (first_fault (suc n) (Some k) ks ≡ Some t → Found (suc n) (Some k) ks t) → Found n b (k ∷ ks) t
    here (Some u) e h later = record {
      at = 0;
      inside = omega arith;
      at_fault = subst (λ m. knot_fault m b k ≡ Some t) zero_is (e ∙ h);
      faultless = λ j l. absurd (omega arith);
    }
    here None e h later = next e (later h)

pub names_first : (ks : List Knot) (t : Told) → first_fault 0 None ks ≡ Some t → NamesFirst ks t
names_first ks t h i e = at (found 0 None ks t h)
  where
    plain : (j : ℕ) → 0 + j ≡ j
    plain j = omega arith

    same_before : (j : ℕ) → follows None ks j ≡ before ks j
    same_before zero = refl
    same_before (suc j) = refl

    as_it_is : (j : ℕ) (o : Option Told) → knot_fault (0 + j) (follows None ks j) (knot_at ks j) ≡ o
        → knot_fault j (before ks j) (knot_at ks j) ≡ o
    as_it_is j o p = subst (λ m. knot_fault m (before ks j) (knot_at ks j) ≡ o) (plain j)
        (subst (λ b. knot_fault (0 + j) b (knot_at ks j) ≡ o) (same_before j) p)

    at : Found 0 None ks t → FirstFault ks i t
    at f =
        let fault = as_it_is f.at (Some t) f.at_fault in
        let told = tells_index f.at (before ks f.at) (knot_at ks f.at) t fault in
        let same : f.at ≡ i = index_is f.at told in
        subst (λ m. FirstFault ks m t) same
        (record {
          inside = f.inside;
          at_fault = fault;
          faultless = λ j l. as_it_is j None (f.faultless j l);
        })
      where
        index_is : (j : ℕ) → t.index ≡ Some j → j ≡ i
        index_is j p = cc
