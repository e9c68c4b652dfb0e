-- The number of a call, as the code decides it: the lowest refusal of entries and units, then whether the old units suffice, then the room.
use Prim.Native.Nat.{ℕ, ◌/◌, ◌≤◌}
use mathlib.Core.Path.{◌≡◌, refl, sym, ap, ap₂, ◌∙◌}
use mathlib.Core.Bool.{Bool, true, false, cond}
use mathlib.Core.List.{List}
use native.Mathlib.Omega.{arith}
use lib.Dec.{leb, eqb}
use lib.ListN.{length}
use borrow.Author.Tests.{leb-true, eqb-true, eqb-false, eq-eqb, ne_eqb}
use Rattle.words.specs.Le.{put}
use Rattle.span.specs.Answer.{lower}
use Rattle.span.proofs.AnswerLaws.{lower_zero, is_done, is_refused}
use Rattle.apply.specs.declared.item.Item.{Item}
use Rattle.std.specs.Prelude.{Ok, Err}
use Rattle.std.specs.Result.{IsErrAnd}
use Rattle.std.proofs.lemmas.Result.{err_from_is_err_and}
use Rattle.span.specs.declared.refusal.Refusal.{Refusal}
use Rattle.span.specs.Refusal.{number_of, refused}
use Rattle.span.proofs.RefusalLaws.{number_not_zero, answer_err}
use Rattle.apply.specs.Maybe.{ApplyAnswer}
use Rattle.apply.specs.Apply.{Given, used, applied, apply_code}
use Rattle.apply.specs.Items.{item_in, items_in, items_bytes}
use Rattle.apply.specs.Given.{givens, given_code, item_code, lowest, new_len}
use Rattle.apply.specs.Called.{Allowed, Called, delta_items, delta_code}
use Rattle.apply.proofs.Tabs.{tab-length}
use Rattle.apply.proofs.Lows.{apply_code_lem}
use Rattle.apply.proofs.Fits.{length-applied}

pub length_in : (s : List ℕ) → length (items_in s) ≡ length s / 24
unfolding items_in
length_in s = tab-length (item_in s) 0 (length s / 24)

pub have_used : (es : List Given) (s : List ℕ) (t : Bool) → leb (used es) (length s / 24) ≡ t → leb (used es) (length (items_in s)) ≡ t
have_used es s t e = ap (leb (used es)) (length_in s) ∙ e

pub have_new : (es : List Given) (s out : List ℕ) (t : Bool) → leb (new_len es (length s / 24)) (length out / 24) ≡ t → leb (new_len es (length (items_in s))) (length (items_in out)) ≡ t
have_new es s out t e = ap₂ (λ (m n : ℕ). leb (new_len es m) n) (length_in s) (length_in out) ∙ e

module _ (out : List Item) (es : List Given) (old : List Item) where
  abbrev pub low_of : ℕ
  low_of = lower (lowest given_code es) (lowest item_code old)

  by : (z u v : Bool) → eqb low_of 0 ≡ z → leb (used es) (length old) ≡ u → leb (length (applied es old)) (length out) ≡ v → apply_code out es old ≡ cond z (cond u (cond v 0 13) 14) low_of
  by z u v d e f = apply_code_lem out es old u v e f ∙ ap (λ (t : Bool). cond t (cond u (cond v 0 13) 14) low_of) d

  pub code_low : (k : ℕ) → k ≡ low_of → (k ≡ 0 → ⊥) → k ≡ apply_code out es old
  code_low k e n = e ∙ sym (by false _ _ (ne_eqb low_of 0 (λ z. n (e ∙ z))) refl refl)

  module _ (z : eqb low_of 0 ≡ true) where
    pub code_few : leb (used es) (length old) ≡ false → 14 ≡ apply_code out es old
    code_few e = sym (by true false _ z e refl)

    module _ (e : leb (used es) (length old) ≡ true) where
      room_by : leb (length (applied es old)) (length out) ≡ leb (new_len es (length old)) (length out)
      room_by = ap (λ (n : ℕ). leb n (length out)) (length-applied es old (leb-true (used es) (length old) e))

      pub code_full : leb (new_len es (length old)) (length out) ≡ false → 13 ≡ apply_code out es old
      code_full f = sym (by true true false z e (room_by ∙ f))

      pub code_done : leb (new_len es (length old)) (length out) ≡ true → 0 ≡ apply_code out es old
      code_done f = sym (by true true true z e (room_by ∙ f))

  -- where nothing refuses, the writer may write
  pub record Free : Type 0 where
    pub low : low_of ≡ 0
    pub fits : used es ≤ length old
    pub holds : length (applied es old) ≤ length out

  pub free_of : apply_code out es old ≡ 0 → Free
  free_of q = go (eqb low_of 0) (leb (used es) (length old)) (leb (length (applied es old)) (length out)) refl refl refl
    where
      go : (z u v : Bool) → eqb low_of 0 ≡ z → leb (used es) (length old) ≡ u → leb (length (applied es old)) (length out) ≡ v → Free
      go false u v d e f = absurd (eqb-false low_of 0 d (sym (by false u v d e f) ∙ q))
      go true false v d e f = let h : ◌≡◌ {A = ℕ} 14 0 = sym (by true false v d e f) ∙ q in absurd (omega arith)
      go true true false d e f = let h : ◌≡◌ {A = ℕ} 13 0 = sym (by true true false d e f) ∙ q in absurd (omega arith)
      go true true true d e f = record { low = eqb-true low_of 0 d; fits = leb-true (used es) (length old) e; holds = leb-true (length (applied es old)) (length out) f }

pub allowed_of : (s : List ℕ) (es : List Given) (old : List Item) → apply_code (items_in s) es old ≡ 0 → Allowed es old (length s)
allowed_of s es old q =
    let v = free_of (items_in s) es old q in
    record {
      each = (lower_zero (lowest given_code es) (lowest item_code old) v.low).0;
      fits = v.fits;
      holds = omega (arith, v.holds, length_in s);
    }

-- the same of old units and an output in rows, as the code asks
module _ (o s : List ℕ) (es : List Given) where
  none_of : 0 ≡ lower (lowest given_code es) (lowest item_code (items_in s)) → eqb (low_of (items_in o) es (items_in s)) 0 ≡ true
  none_of e = eq-eqb (low_of (items_in o) es (items_in s)) 0 (sym e)

  pub rows_low : (k : ℕ) → k ≡ lower (lowest given_code es) (lowest item_code (items_in s)) → (k ≡ 0 → ⊥) → k ≡ apply_code (items_in o) es (items_in s)
  rows_low k e n = code_low (items_in o) es (items_in s) k e n

  pub rows_few : 0 ≡ lower (lowest given_code es) (lowest item_code (items_in s)) → leb (used es) (length s / 24) ≡ false → 14 ≡ apply_code (items_in o) es (items_in s)
  rows_few e f = code_few (items_in o) es (items_in s) (none_of e) (have_used es s false f)

  pub rows_full : 0 ≡ lower (lowest given_code es) (lowest item_code (items_in s)) → leb (used es) (length s / 24) ≡ true → leb (new_len es (length s / 24)) (length o / 24) ≡ false → 13 ≡ apply_code (items_in o) es (items_in s)
  rows_full e f g = code_full (items_in o) es (items_in s) (none_of e) (have_used es s true f) (have_new es s o false g)

  pub rows_done : 0 ≡ lower (lowest given_code es) (lowest item_code (items_in s)) → leb (used es) (length s / 24) ≡ true → leb (new_len es (length s / 24)) (length o / 24) ≡ true → 0 ≡ apply_code (items_in o) es (items_in s)
  rows_done e f g = code_done (items_in o) es (items_in s) (none_of e) (have_used es s true f) (have_new es s o true g)

-- ---- answers

pub called_done : (code n : ℕ) (new : List Item) (out t : List ℕ) → code ≡ 0 → n ≡ length new → t ≡ put 0 (items_bytes new) out → Called code new out (Ok n) t
called_done code n new out t e q p =
    record { said = is_done Ok refused code e q; left = p ∙ sym (ap (λ (k : ℕ). cond (eqb k 0) (put 0 (items_bytes new) out) out) e) }

pub called_refused : (code k : ℕ) (new : List Item) (out : List ℕ) → (k ≡ 0 → ⊥) → k ≡ code → Called code new out (refused k) out
called_refused code k new out z e =
    record {
      said = is_refused Ok refused code k (length new) z e;
      left = sym (ap (λ (t : Bool). cond t (put 0 (items_bytes new) out) out) (ne_eqb code 0 (λ w. z (e ∙ w))));
    }

pub called_err : (code : ℕ) (e : Refusal) (new : List Item) (out : List ℕ) → number_of e ≡ code → Called code new out (Err e) out
called_err code e new out q =
    record {
      said = answer_err e code (length new) q;
      left = (called_refused code (number_of e) new out (number_not_zero e) q).left;
    }

-- ---- apply: es is what the columns say

module _ (k a b p c l old out : List ℕ) (es : List Given) (es-is : es ≡ givens k a b p c l) where
  code_is : apply_code (items_in out) es (items_in old) ≡ delta_code k a b p c l old out
  unfolding delta_code
  code_is = ap (λ (x : List Given). apply_code (items_in out) x (items_in old)) es-is

  new_is : applied es (items_in old) ≡ delta_items k a b p c l old
  unfolding delta_items
  new_is = ap (λ (x : List Given). applied x (items_in old)) es-is

  pub delta_done : 0 ≡ apply_code (items_in out) es (items_in old) → (m : ℕ) (t : List ℕ) → m ≡ length (applied es (items_in old)) → t ≡ put 0 (items_bytes (applied es (items_in old))) out
      → Called (delta_code k a b p c l old out) (delta_items k a b p c l old) out (Ok m) t
  delta_done e m t w q =
      called_done (delta_code k a b p c l old out) m (delta_items k a b p c l old) out t (sym (e ∙ code_is)) (w ∙ ap length new_is) (q ∙ ap (λ (x : List Item). put 0 (items_bytes x) out) new_is)

  pub delta_refused : (r : ApplyAnswer) (e : Refusal) → IsErrAnd r (λ (d : Refusal). d ≡ e) → number_of e ≡ apply_code (items_in out) es (items_in old)
      → Called (delta_code k a b p c l old out) (delta_items k a b p c l old) out r out
  delta_refused r e h z =
      let w = err_from_is_err_and r h in
      rw (w.1 ∙ ap Err w.2) (called_err (delta_code k a b p c l old out) e (delta_items k a b p c l old) out (z ∙ code_is))

-- what the code decides, test by test
pub ruleset rows_codes = (rows_low, rows_few, rows_full, rows_done)
