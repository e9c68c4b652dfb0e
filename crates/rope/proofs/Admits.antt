-- what refuses an insert, test by test, and what an insert that is not refused may rely on
use Prim.Native.Nat.{ℕ, zero, suc, ◌+◌, ◌<◌, ◌≤◌}
use mathlib.Core.Path.{◌≡◌, refl, sym, ap, ap₂, subst, ◌∙◌}
use mathlib.Core.Bool.{Bool, true, false, not, ◌&&◌, cond}
use mathlib.Core.List.{List}
use native.Mathlib.Omega.{arith}
use lib.Dec.{leb, eqb}
use lib.ListN.{length}
use borrow.Author.Tests.{leb-true, le-leb, lt-leb, eq-eqb, ne_eqb, eqb-true, eqb-false}
use Rattle.span.specs.declared.ids.Id.{Id}
use Rattle.std.specs.Prelude.{Some as At}
use Rattle.span.specs.declared.span.FugueSpan.{FugueSpan}
use Rattle.span.specs.Chunk.{formed}
use Rattle.span.specs.Ids.{UNKNOWN_PEER, inc_id}
use Rattle.span.proofs.IdsLaws.{inc_zero, inc_inc}
use Rattle.span.specs.Span.{len_span, span_code, ids_ok}
use Rattle.span.specs.Units.{expand, join}
use Rattle.store.specs.Row.{rows}
use Rattle.store.proofs.Laws.{length-rows}
use Rattle.units.specs.Limits.{UNITS, fits}
use Rattle.units.specs.Place.{mem_id, shown, insert_units}
use Rattle.units.specs.Store.{well_formed}
use Rattle.units.specs.Codes.{unless, holds_some, insert_ids, insert_code}
use Rattle.rope.specs.Spans.{AllOk, Fresh, Good, Ready, holds_any}
use Rattle.rope.specs.Edits.{insert_first, Asked}
use Rattle.rope.proofs.Lists.{or_left, or_right, or-false, or_both}
use Rattle.rope.proofs.Apart.{shared_of, fresh_of}
use Rattle.rope.proofs.WellFormed.{formed_of, good_of}

-- ---- some id is in the list

one_on : (i : Id) (k : ℕ) → inc_id (inc_id i 1) k ≡ inc_id i (suc k)
one_on i k = inc_inc i 1 k ∙ ap (inc_id i) (let e : 1 + k ≡ suc k = omega arith in e)

some_has : (n : ℕ) (i : Id) (l : List FugueSpan) (k : ℕ) → k < n → mem_id (At (inc_id i k)) l ≡ true → holds_some n i l ≡ true
unfolding holds_some
some_has zero i l k h m = absurd (omega arith)
some_has (suc n) i l zero h m = or_left (mem_id (At i) l) (holds_some n (inc_id i 1) l) (ap (λ (j : Id). mem_id (At j) l) (sym (inc_zero i)) ∙ m)
some_has (suc n) i l (suc k) h m =
    or_right (mem_id (At i) l) (holds_some n (inc_id i 1) l) (some_has n (inc_id i 1) l k (omega arith) (ap (λ (j : Id). mem_id (At j) l) (one_on i k) ∙ m))

some_none : (n : ℕ) (i : Id) (l : List FugueSpan) → ((k : ℕ) → k < n → mem_id (At (inc_id i k)) l ≡ false) → holds_some n i l ≡ false
unfolding holds_some
some_none zero i l f = refl
some_none (suc n) i l f =
    or_both (mem_id (At i) l) (holds_some n (inc_id i 1) l) (ap (λ (j : Id). mem_id (At j) l) (sym (inc_zero i)) ∙ f 0 (omega arith))
    (some_none n (inc_id i 1) l (λ k h. ap (λ (j : Id). mem_id (At j) l) (one_on i k) ∙ f (suc k) (omega arith)))

none_fresh : (n : ℕ) (i : Id) (l : List FugueSpan) → holds_some n i l ≡ false → (k : ℕ) → k < n → mem_id (At (inc_id i k)) l ≡ false
unfolding holds_some
none_fresh zero i l e k h = absurd (omega arith)
none_fresh (suc n) i l e zero h = ap (λ (j : Id). mem_id (At j) l) (inc_zero i) ∙ (or-false (mem_id (At i) l) (holds_some n (inc_id i 1) l) e).0
none_fresh (suc n) i l e (suc k) h =
    ap (λ (j : Id). mem_id (At j) l) (sym (one_on i k)) ∙ none_fresh n (inc_id i 1) l (or-false (mem_id (At i) l) (holds_some n (inc_id i 1) l) e).1 k (omega arith)

-- the rows' test and 01's agree
pub holds_same : (l : List FugueSpan) (x : FugueSpan) → AllOk l → span_code x ≡ 0 → holds_any l x ≡ holds_some (len_span x) x.id (expand l)
unfolding Fresh
holds_same l x ok f = go (holds_any l x) refl
  where
    go : (t : Bool) → holds_any l x ≡ t → holds_any l x ≡ holds_some (len_span x) x.id (expand l)
    go true e = let w = shared_of l x ok f e in e ∙ sym (some_has (len_span x) x.id (expand l) w.k w.low w.has)
    go false e = e ∙ sym (some_none (len_span x) x.id (expand l) (λ k h. fresh_of l x ok f e k h))

-- ---- the tests in their order

module _ (l : List FugueSpan) (at : ℕ) (x : FugueSpan) where
  first_by : (a b c d : Bool) → eqb x.id.peer UNKNOWN_PEER ≡ a → holds_some (len_span x) x.id (expand l) ≡ b → leb at (shown (expand l)) ≡ c → leb (length (expand l) + len_span x) UNITS ≡ d
      → unless (not a) 2 (unless (not b) 3 (unless c 8 (unless d 10 0))) ≡ insert_first l at x
  unfolding insert_first
  first_by a b c d p q r s = rw (p, q, r, s)

  pub first_2 : eqb x.id.peer UNKNOWN_PEER ≡ true → 2 ≡ insert_first l at x
  first_2 p = first_by true _ _ _ p refl refl refl

  pub first_3 : eqb x.id.peer UNKNOWN_PEER ≡ false → holds_some (len_span x) x.id (expand l) ≡ true → 3 ≡ insert_first l at x
  first_3 p q = first_by false true _ _ p q refl refl

  pub first_8 : eqb x.id.peer UNKNOWN_PEER ≡ false → holds_some (len_span x) x.id (expand l) ≡ false → shown (expand l) < at → 8 ≡ insert_first l at x
  first_8 p q r = first_by false false false _ p q (lt-leb at (shown (expand l)) r) refl

  pub first_10 : eqb x.id.peer UNKNOWN_PEER ≡ false → holds_some (len_span x) x.id (expand l) ≡ false → at ≤ shown (expand l) → UNITS < length (expand l) + len_span x → 10 ≡ insert_first l at x
  first_10 p q r s = first_by false false true false p q (le-leb at (shown (expand l)) r) (lt-leb (length (expand l) + len_span x) UNITS s)

  pub first_0 : eqb x.id.peer UNKNOWN_PEER ≡ false → holds_some (len_span x) x.id (expand l) ≡ false → at ≤ shown (expand l) → length (expand l) + len_span x ≤ UNITS → 0 ≡ insert_first l at x
  first_0 p q r s = first_by false false true true p q (le-leb at (shown (expand l)) r) (le-leb (length (expand l) + len_span x) UNITS s)

  -- what an insert that is not refused may rely on
  pub record Admitted : Type 0 where
    pub known : eqb x.id.peer UNKNOWN_PEER ≡ false
    pub new : Fresh x (expand l)
    pub low : at ≤ shown (expand l)
    pub few : length (expand l) + len_span x ≤ 65536

  pub admitted : insert_first l at x ≡ 0 → Admitted
  unfolding Fresh
  admitted e = go (eqb x.id.peer UNKNOWN_PEER) refl (holds_some (len_span x) x.id (expand l)) refl (leb at (shown (expand l))) refl (leb (length (expand l) + len_span x) UNITS) refl
    where
      go : (a : Bool) → eqb x.id.peer UNKNOWN_PEER ≡ a → (b : Bool) → holds_some (len_span x) x.id (expand l) ≡ b → (c : Bool) → leb at (shown (expand l)) ≡ c → (d : Bool) → leb (length (expand l) + len_span x) UNITS ≡ d → Admitted
      go true p b q c r d s = absurd (let z : ◌≡◌ {A = ℕ} 2 0 = first_by true b c d p q r s ∙ e in omega (arith, z))
      go false p true q c r d s = absurd (let z : ◌≡◌ {A = ℕ} 3 0 = first_by false true c d p q r s ∙ e in omega (arith, z))
      go false p false q false r d s = absurd (let z : ◌≡◌ {A = ℕ} 8 0 = first_by false false false d p q r s ∙ e in omega (arith, z))
      go false p false q true r false s = absurd (let z : ◌≡◌ {A = ℕ} 10 0 = first_by false false true false p q r s ∙ e in omega (arith, z))
      go false p false q true r true s =
          record { known = p; new = none_fresh (len_span x) x.id (expand l) q; low = leb-true at (shown (expand l)) r; few = leb-true (length (expand l) + len_span x) UNITS s }

-- ---- the whole number

-- by what refuses the span
module _ (room : ℕ) (l : List FugueSpan) (at : ℕ) (x : FugueSpan) where
  code_15 : well_formed l ≡ false → insert_code room l at x ≡ 15
  unfolding insert_code
  code_15 e = rw e

  rest_of : ℕ
  rest_of =
      unless (not (holds_some (len_span x) x.id (expand l))) 3
      (unless (leb at (shown (expand l))) 8
      (unless (leb (length (expand l) + len_span x) UNITS && fits room (join (insert_units at x (expand l)))) 10 0))

  code_by : (a b c : Bool) → well_formed l ≡ true → formed x.content ≡ a → ids_ok x (len_span x) ≡ b → eqb x.id.peer UNKNOWN_PEER ≡ c → insert_code room l at x ≡ unless a 1 (unless (b && not c) 2 rest_of)
  unfolding insert_code insert_ids rest_of
  code_by a b c w p q r = rw (w, p, q, r)

  span_by : (a b : Bool) → formed x.content ≡ a → ids_ok x (len_span x) ≡ b → span_code x ≡ cond a (cond b 0 2) 1
  unfolding span_code
  span_by a b p q = rw (p, q)

  -- a span that is refused itself
  pub code_span : well_formed l ≡ true → (span_code x ≡ 0 → ⊥) → insert_code room l at x ≡ span_code x
  code_span w z = go (formed x.content) refl (ids_ok x (len_span x)) refl
    where
      go : (a : Bool) → formed x.content ≡ a → (b : Bool) → ids_ok x (len_span x) ≡ b → insert_code room l at x ≡ span_code x
      go false p b q = code_by false b _ w p q refl ∙ sym (span_by false b p q)
      go true p false q = code_by true false _ w p q refl ∙ sym (span_by true false p q)
      go true p true q = absurd (z (span_by true true p q))

  -- and one that is not
  pub code_rest : well_formed l ≡ true → span_code x ≡ 0 → insert_code room l at x ≡ cond (eqb (insert_first l at x) 0) (unless (fits room (join (insert_units at x (expand l)))) 10 0) (insert_first l at x)
  unfolding rest_of insert_first
  code_rest w z = go (formed x.content) refl (ids_ok x (len_span x)) refl
    where
      tests : (a b c d e : Bool) → unless (not a) 2 (unless (not b) 3 (unless c 8 (unless (d && e) 10 0)))
          ≡ cond (eqb (unless (not a) 2 (unless (not b) 3 (unless c 8 (unless d 10 0)))) 0) (unless e 10 0) (unless (not a) 2 (unless (not b) 3 (unless c 8 (unless d 10 0))))
      tests true b c d e = refl
      tests false true c d e = refl
      tests false false false d e = refl
      tests false false true false e = refl
      tests false false true true e = refl

      go : (a : Bool) → formed x.content ≡ a → (b : Bool) → ids_ok x (len_span x) ≡ b → insert_code room l at x ≡ cond (eqb (insert_first l at x) 0) (unless (fits room (join (insert_units at x (expand l)))) 10 0) (insert_first l at x)
      go false p b q = absurd (let k : ◌≡◌ {A = ℕ} 1 0 = sym (span_by false b p q) ∙ z in omega (arith, k))
      go true p false q = absurd (let k : ◌≡◌ {A = ℕ} 2 0 = sym (span_by true false p q) ∙ z in omega (arith, k))
      go true p true q =
          code_by true true _ w p q refl ∙
          tests (eqb x.id.peer UNKNOWN_PEER) (holds_some (len_span x) x.id (expand l)) (leb at (shown (expand l))) (leb (length (expand l) + len_span x) UNITS) (fits room (join (insert_units at x (expand l))))

  pub code_first : well_formed l ≡ true → span_code x ≡ 0 → (insert_first l at x ≡ 0 → ⊥) → insert_code room l at x ≡ insert_first l at x
  code_first w z n = code_rest w z ∙ ap (λ (t : Bool). cond t (unless (fits room (join (insert_units at x (expand l)))) 10 0) (insert_first l at x)) (ne_eqb (insert_first l at x) 0 n)

  pub code_room : well_formed l ≡ true → span_code x ≡ 0 → insert_first l at x ≡ 0 → room < length (join (insert_units at x (expand l))) → insert_code room l at x ≡ 10
  unfolding fits
  code_room w z n h =
      code_rest w z ∙
      ap₂ (λ (t u : Bool). cond t (unless u 10 0) (insert_first l at x)) (eq-eqb (insert_first l at x) 0 n) (lt-leb (length (join (insert_units at x (expand l)))) room h)

  pub code_done : well_formed l ≡ true → span_code x ≡ 0 → insert_first l at x ≡ 0 → length (join (insert_units at x (expand l))) ≤ room → insert_code room l at x ≡ 0
  unfolding fits
  code_done w z n h =
      code_rest w z ∙
      ap₂ (λ (t u : Bool). cond t (unless u 10 0) (insert_first l at x)) (eq-eqb (insert_first l at x) 0 n) (le-leb (length (join (insert_units at x (expand l)))) room h)

-- ---- what a number of 0 says

module _ (room : ℕ) (l : List FugueSpan) (at : ℕ) (x : FugueSpan) (e : insert_code room l at x ≡ 0) where
  pub formed_code : well_formed l ≡ true
  formed_code = go (well_formed l) refl
    where
      go : (t : Bool) → well_formed l ≡ t → well_formed l ≡ true
      go true p = p
      go false p = absurd (let z : ◌≡◌ {A = ℕ} 15 0 = sym (code_15 room l at x p) ∙ e in omega (arith, z))

  pub fine_code : well_formed l ≡ true → span_code x ≡ 0
  fine_code w = go (eqb (span_code x) 0) refl
    where
      go : (t : Bool) → eqb (span_code x) 0 ≡ t → span_code x ≡ 0
      go true p = eqb-true (span_code x) 0 p
      go false p = sym (code_span room l at x w (eqb-false (span_code x) 0 p)) ∙ e

  pub rest_code : well_formed l ≡ true → span_code x ≡ 0 → (insert_first l at x ≡ 0) × (length (join (insert_units at x (expand l))) ≤ room)
  unfolding fits
  rest_code w z = go (eqb (insert_first l at x) 0) refl (leb (length (join (insert_units at x (expand l)))) room) refl
    where
      whole : (t u : Bool) → eqb (insert_first l at x) 0 ≡ t → leb (length (join (insert_units at x (expand l)))) room ≡ u → cond t (unless u 10 0) (insert_first l at x) ≡ 0
      whole t u p q = sym (code_rest room l at x w z ∙ ap₂ (λ (a b : Bool). cond a (unless b 10 0) (insert_first l at x)) p q) ∙ e

      go : (t : Bool) → eqb (insert_first l at x) 0 ≡ t → (u : Bool) → leb (length (join (insert_units at x (expand l)))) room ≡ u → (insert_first l at x ≡ 0) × (length (join (insert_units at x (expand l))) ≤ room)
      go true p true q = (eqb-true (insert_first l at x) 0 p, leb-true (length (join (insert_units at x (expand l)))) room q)
      go true p false q = absurd (let k : ◌≡◌ {A = ℕ} 10 0 = whole true false p q in omega (arith, k))
      go false p u q = absurd (eqb-false (insert_first l at x) 0 p (whole false u p q))

-- ---- what the plan asks

pub ready_of : (n units at : ℕ) (x : FugueSpan) (s : List ℕ) → Asked n units x s → insert_first (rows n s) at x ≡ 0 → Ready n units at x s
ready_of n units at x s a e =
    let w = admitted (rows n s) at x e in
    let f = formed_of (rows n s) a.stored.formed in
    record {
      good = subst (λ (u : ℕ). Good n u s) (sym a.count) (good_of n s a.stored.long a.stored.formed);
      few = omega (arith, f.few, length-rows n s);
      low = w.low;
      fine = a.fine;
      new = w.new;
    }
