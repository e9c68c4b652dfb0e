-- Edits handed over one after another: a valid history stays valid throughout, so that 15 is asked once.
use Prim.Native.Nat.{ℕ, ◌+◌}
use mathlib.Core.Path.{◌≡◌, refl, sym, ap, ◌∙◌}
use mathlib.Core.Bool.{Bool, true, false, cond}
use mathlib.Core.List.{List, [], ◌∷◌}
use native.Mathlib.Omega.{arith}
use lib.Dec.{eqb}
use borrow.Author.Tests.{eqb-true, ne_eqb}
use Rattle.units.specs.Codes.{kept}
use Rattle.history.specs.Edit.{Edit, History}
use Rattle.history.specs.Arrive.{arrive}
use Rattle.history.specs.Valid.{valid}
use Rattle.history.specs.Codes.{on_units, stored, arrive_code, arrive_of}
use Rattle.history.specs.Run.{more, arrive_run, arrive_rest, rest_run}
use Rattle.history.specs.Open.{history_open}
use Rattle.history.specs.Script.{◌∶◌, text, one, new}
use Rattle.history.proofs.ArriveValid.{valid_arrive}

-- three edits, of which the last is refused: its counter is not what is held
three : ℕ × ℕ × History
three = arrive_run 65536 65536 (new 0) (text 2 1 0 0 [] ∷ one 2 0 0 [] ∷ one 1 5 0 (1 ∶ 2 ∷ []) ∷ [])

two_of_three : (three.0 ≡ 2) × (three.1 ≡ 5)
unfolding three history_open arrive_run
two_of_three = (refl, refl)

module _ (spans targets : ℕ) where
  -- ---- one edit

  pub rest_code : (h : History) → valid spans targets h ≡ true → (e : Edit) → arrive_code spans targets h e ≡ arrive_rest spans targets h e
  unfolding arrive_code arrive_rest
  rest_code h ok e = ap (λ (b : Bool). cond b (arrive_rest spans targets h e) 15) ok

  pub not_valid : (h : History) → valid spans targets h ≡ false → (e : Edit) → arrive_code spans targets h e ≡ 15
  unfolding arrive_code arrive_rest
  not_valid h bad e = ap (λ (b : Bool). cond b (arrive_rest spans targets h e) 15) bad

  left_of : (h : History) (e : Edit) → arrive_code spans targets h e ≡ 0 → (arrive_of spans targets h e).1 ≡ stored (arrive (on_units h) e)
  unfolding arrive_of
  left_of h e c = ap (λ (n : ℕ). kept n (stored (arrive (on_units h) e)) h) c

  -- ---- all

  pub run_once : (es : List Edit) (h : History) → valid spans targets h ≡ true → arrive_run spans targets h es ≡ rest_run spans targets h es
  unfolding arrive_run rest_run
  run_once [] h ok = refl
  run_once (e ∷ es) h ok = go (eqb (arrive_rest spans targets h e) 0) refl (run_once es (arrive_of spans targets h e).1 (valid_arrive spans targets h ok e))
    where
      code : arrive_code spans targets h e ≡ arrive_rest spans targets h e
      code = rest_code h ok e

      go : (b : Bool) → eqb (arrive_rest spans targets h e) 0 ≡ b → arrive_run spans targets (arrive_of spans targets h e).1 es ≡ rest_run spans targets (arrive_of spans targets h e).1 es
          → cond (eqb (arrive_code spans targets h e) 0) (more 1 (arrive_run spans targets (arrive_of spans targets h e).1 es)) (0, arrive_code spans targets h e, h)
          ≡ cond (eqb (arrive_rest spans targets h e) 0) (more 1 (rest_run spans targets (stored (arrive (on_units h) e)) es)) (0, arrive_rest spans targets h e, h)
      go true q ih =
          ap (λ (b : Bool). cond b (more 1 (arrive_run spans targets (arrive_of spans targets h e).1 es)) (0, arrive_code spans targets h e, h)) (ap (λ (n : ℕ). eqb n 0) code ∙ q)
          ∙ (ap (more 1) (ih ∙ ap (λ (z : History). rest_run spans targets z es) (left_of h e (code ∙ eqb-true (arrive_rest spans targets h e) 0 q)))
          ∙ sym (ap (λ (b : Bool). cond b (more 1 (rest_run spans targets (stored (arrive (on_units h) e)) es)) (0, arrive_rest spans targets h e, h)) q))
      go false q ih =
          ap (λ (b : Bool). cond b (more 1 (arrive_run spans targets (arrive_of spans targets h e).1 es)) (0, arrive_code spans targets h e, h)) (ap (λ (n : ℕ). eqb n 0) code ∙ q)
          ∙ (ap (λ (n : ℕ). (0, n, h)) code ∙ sym (ap (λ (b : Bool). cond b (more 1 (rest_run spans targets (stored (arrive (on_units h) e)) es)) (0, arrive_rest spans targets h e, h)) q))

  -- a history that is not valid takes none
  pub run_15 : (e : Edit) (es : List Edit) (h : History) → valid spans targets h ≡ false → arrive_run spans targets h (e ∷ es) ≡ (0, 15, h)
  unfolding arrive_run
  run_15 e es h bad = ap (λ (n : ℕ). cond (eqb n 0) (more 1 (arrive_run spans targets (arrive_of spans targets h e).1 es)) (0, n, h)) (not_valid h bad e)

  -- what is left is valid
  pub run_valid : (es : List Edit) (h : History) → valid spans targets h ≡ true → valid spans targets (arrive_run spans targets h es).2 ≡ true
  unfolding arrive_run
  run_valid [] h ok = ok
  run_valid (e ∷ es) h ok = go (eqb (arrive_code spans targets h e) 0) (run_valid es (arrive_of spans targets h e).1 (valid_arrive spans targets h ok e))
    where
      go : (b : Bool) → valid spans targets (arrive_run spans targets (arrive_of spans targets h e).1 es).2 ≡ true
          → valid spans targets (cond b (more 1 (arrive_run spans targets (arrive_of spans targets h e).1 es)) (0, arrive_code spans targets h e, h)).2 ≡ true
      go true ih = ih
      go false ih = ok

  -- ---- for a loop that has taken n edits

  pub more_zero : (h : History) (es : List Edit) → more 0 (rest_run spans targets h es) ≡ rest_run spans targets h es
  more_zero h es = ap (λ (k : ℕ). (k, r.1, r.2)) (let q : 0 + r.0 ≡ r.0 = omega arith in q)
    where
      r : ℕ × ℕ × History
      r = rest_run spans targets h es

  pub more_done : (n : ℕ) (h : History) → more n (rest_run spans targets h []) ≡ (n, 0, h)
  unfolding rest_run
  more_done n h = ap (λ (k : ℕ). (k, 0, h)) (let q : n + 0 ≡ n = omega arith in q)

  pub more_turn : (n : ℕ) (h : History) (e : Edit) (es : List Edit) → arrive_rest spans targets h e ≡ 0 → more n (rest_run spans targets h (e ∷ es)) ≡ more (n + 1) (rest_run spans targets (stored (arrive (on_units h) e)) es)
  unfolding rest_run
  more_turn n h e es c =
      ap (λ (k : ℕ). more n (cond (eqb k 0) (more 1 (rest_run spans targets (stored (arrive (on_units h) e)) es)) (0, k, h))) c
      ∙ ap (λ (k : ℕ). (k, r.1, r.2)) (let q : n + (1 + r.0) ≡ n + 1 + r.0 = omega arith in q)
    where
      r : ℕ × ℕ × History
      r = rest_run spans targets (stored (arrive (on_units h) e)) es

  pub more_stop : (n : ℕ) (h : History) (e : Edit) (es : List Edit) → (arrive_rest spans targets h e ≡ 0 → ⊥) → more n (rest_run spans targets h (e ∷ es)) ≡ (n, arrive_rest spans targets h e, h)
  unfolding rest_run
  more_stop n h e es c =
      ap (λ (b : Bool). more n (cond b (more 1 (rest_run spans targets (stored (arrive (on_units h) e)) es)) (0, arrive_rest spans targets h e, h))) (ne_eqb (arrive_rest spans targets h e) 0 c)
      ∙ ap (λ (k : ℕ). (k, arrive_rest spans targets h e, h)) (let q : n + 0 ≡ n = omega arith in q)
