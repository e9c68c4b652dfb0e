-- the bytes of a store: what its check and its openings say of them
use Prim.Native.Nat.{ℕ, zero, suc, ◌-◌, ◌*◌, ◌<◌, ◌≤◌}
use mathlib.Core.Path.{◌≡◌, refl, sym, ap, ap₂, ◌∙◌}
use mathlib.Core.Bool.{Bool, true, false, not, ◌&&◌, cond}
use mathlib.Core.List.{List}
use native.Mathlib.Omega.{arith}
use lib.Dec.{leb, eqb}
use lib.ListN.{length, take, drop, length-drop}
use lib.Seq.{take_all}
use borrow.Author.Tests.{leb-true, le-leb, lt-leb, eq-eqb, ne_eqb}
use Rattle.words.specs.Le.{put}
use Rattle.span.specs.Answer.{answer}
use Rattle.span.proofs.AnswerLaws.{is_done, is_refused}
use Rattle.store.specs.Row.{rows, row_bytes}
use Rattle.store.specs.Header.{header_bytes}
use Rattle.units.specs.Limits.{fits}
use Rattle.units.specs.Store.{count, room, spans_of, well_formed, is_state, state_code}
use Rattle.units.specs.Query.{placeholder}
use Rattle.units.specs.Codes.{kept, placeholder_code}
use Rattle.rope.specs.Entries.{open_code, open_bytes, open_with_code, open_with_bytes}
use Rattle.rope.specs.Spans.{Stored}
use Rattle.rope.proofs.Lists.{and-true}

module _ (s : List ℕ) where
  -- the rows, as they are lent
  abbrev pub part : List ℕ
  part = take (length s - 72) (drop 72 s)

  pub part_rest : part ≡ drop 72 s
  part_rest = take_all (length s - 72) (drop 72 s) (rw length-drop (omega arith))

  pub part_length : length part ≡ length s - 72
  part_length = ap length part_rest ∙ length-drop 72 s

  pub part_spans : rows (count s) part ≡ spans_of s
  unfolding spans_of
  part_spans = ap (rows (count s)) part_rest

  -- ---- the check

  pub state_short : length s < 72 → is_state s ≡ false
  unfolding is_state
  state_short h = ap (λ (t : Bool). t && (leb (count s) (room s) && well_formed (spans_of s))) (lt-leb 72 (length s) h)

  pub state_over : 72 ≤ length s → room s < count s → is_state s ≡ false
  unfolding is_state
  state_over h k = ap₂ (λ (t u : Bool). t && (u && well_formed (spans_of s))) (le-leb 72 (length s) h) (lt-leb (count s) (room s) k)

  pub state_rows : 72 ≤ length s → count s ≤ room s → is_state s ≡ well_formed (spans_of s)
  unfolding is_state
  state_rows h k = ap₂ (λ (t u : Bool). t && (u && well_formed (spans_of s))) (le-leb 72 (length s) h) (le-leb (count s) (room s) k)

  pub room_most : room s ≤ 65536
  unfolding room
  room_most = omega arith

  pub room_long : room s * 72 ≤ length s - 72
  unfolding room
  room_long = omega arith

  -- ---- what it gives

  pub record State : Type 0 where
    pub head : 72 ≤ length s
    pub fits : count s ≤ room s
    pub stored : Stored (count s) part

  pub state_of : is_state s ≡ true → State
  unfolding is_state
  state_of e =
      let a = and-true (leb 72 (length s)) (leb (count s) (room s) && well_formed (spans_of s)) e in
      let b = and-true (leb (count s) (room s)) (well_formed (spans_of s)) a.1 in
      let k : count s ≤ room s = leb-true (count s) (room s) b.0 in
      let m : room s * 72 ≤ length s - 72 = room_long in
      let l : length part ≡ length s - 72 = part_length in
      record {
        head = leb-true 72 (length s) a.0;
        fits = k;
        stored = record { long = omega arith; formed = ap well_formed part_spans ∙ b.1 };
      }

  pub code_state : is_state s ≡ true → state_code s ≡ 0
  unfolding state_code
  code_state e = ap (λ (t : Bool). cond t 0 15) e

  pub code_none : is_state s ≡ false → state_code s ≡ 15
  unfolding state_code
  code_none e = ap (λ (t : Bool). cond t 0 15) e

  -- an answer of an entry that asks 15 and nothing else
  pub answer_none : {X A : Type 0} (d : X → A) (r : ℕ → A) (x : X) → is_state s ≡ false → r 15 ≡ answer d r (state_code s) x
  answer_none d r x e = is_refused d r (state_code s) 15 x (λ z. omega arith) (sym (code_none e))

  pub answer_state : {X A : Type 0} (d : X → A) (r : ℕ → A) {x y : X} → is_state s ≡ true → x ≡ y → d x ≡ answer d r (state_code s) y
  answer_state d r e p = is_done d r (state_code s) (code_state e) p

  -- ---- opening

  pub open_short : length s < 72 → (open_code s ≡ 13) × (open_bytes s ≡ s)
  unfolding open_code open_bytes
  open_short h =
      let e : leb 72 (length s) ≡ false = lt-leb 72 (length s) h in
      (ap (λ (t : Bool). cond t 0 13) e, ap (λ (t : Bool). kept (cond t 0 13) (put 0 (header_bytes 0) s) s) e)

  pub open_done : 72 ≤ length s → (open_code s ≡ 0) × (open_bytes s ≡ put 0 (header_bytes 0) s)
  unfolding open_code open_bytes
  open_done h =
      let e : leb 72 (length s) ≡ true = le-leb 72 (length s) h in
      (ap (λ (t : Bool). cond t 0 13) e, ap (λ (t : Bool). kept (cond t 0 13) (put 0 (header_bytes 0) s) s) e)

  -- by its code
  with_kept : (n k : ℕ) → open_with_code n s ≡ k → open_with_bytes n s ≡ kept k (put 72 (row_bytes (placeholder n)) (put 0 (header_bytes 1) s)) s
  unfolding open_with_bytes
  with_kept n k e = ap (λ (c : ℕ). kept c (put 72 (row_bytes (placeholder n)) (put 0 (header_bytes 1) s)) s) e

  with_code : (n : ℕ) (t u v : Bool) → eqb n 0 ≡ t → leb n 65536 ≡ u → leb 1 (room s) ≡ v → open_with_code n s ≡ cond (not t) (cond (u && v) 0 10) 1
  unfolding open_with_code placeholder_code fits
  with_code n t u v e f g =
      ap (λ (b : Bool). cond (not b) (cond (leb n 65536 && leb 1 (room s)) 0 10) 1) e ∙
      ap₂ (λ (a b : Bool). cond (not t) (cond (a && b) 0 10) 1) f g

  pub with_none : (n : ℕ) → n ≡ 0 → (open_with_code n s ≡ 1) × (open_with_bytes n s ≡ s)
  with_none n h = let e : open_with_code n s ≡ 1 = with_code n true _ _ (eq-eqb n 0 h) refl refl in (e, with_kept n 1 e)

  pub with_many : (n : ℕ) → 65536 < n → (open_with_code n s ≡ 10) × (open_with_bytes n s ≡ s)
  with_many n h = let e : open_with_code n s ≡ 10 = with_code n false false _ (ne_eqb n 0 (λ z. omega arith)) (lt-leb n 65536 h) refl in (e, with_kept n 10 e)

  pub with_full : (n : ℕ) → (n ≡ 0 → ⊥) → n ≤ 65536 → room s ≡ 0 → (open_with_code n s ≡ 10) × (open_with_bytes n s ≡ s)
  with_full n z h r = let e : open_with_code n s ≡ 10 = with_code n false true false (ne_eqb n 0 z) (le-leb n 65536 h) (lt-leb 1 (room s) (omega arith)) in (e, with_kept n 10 e)

  pub with_done : (n : ℕ) → (n ≡ 0 → ⊥) → n ≤ 65536 → (room s ≡ 0 → ⊥) → (open_with_code n s ≡ 0) × (open_with_bytes n s ≡ put 72 (row_bytes (placeholder n)) (put 0 (header_bytes 1) s))
  with_done n z h r = let e : open_with_code n s ≡ 0 = with_code n false true true (ne_eqb n 0 z) (le-leb n 65536 h) (le-leb 1 (room s) (some (room s) r)) in (e, with_kept n 0 e)
    where
      some : (k : ℕ) → (k ≡ 0 → ⊥) → 1 ≤ k
      some zero f = absurd (f refl)
      some (suc k) f = omega arith

  pub room_head : (room s ≡ 0 → ⊥) → 144 ≤ length s
  unfolding room
  room_head r = go (room s) refl r
    where
      go : (k : ℕ) → room s ≡ k → (k ≡ 0 → ⊥) → 144 ≤ length s
      go zero e f = absurd (f refl)
      go (suc k) e f = omega arith
