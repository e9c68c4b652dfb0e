-- what is held, as a line is taken off its front
use Rattle.std.proofs.Common.{◌≡◌, ℕ, zero, suc, ◌+◌, ◌-◌, ◌<◌, ◌≤◌, Bool, true, false, cond, ltb, leb, List, [], ◌∷◌, length, take, drop, sym, refl, ap, ◌∙◌, arith, length-drop, drop_of_length-le, length-take-le, drop-drop, ltb-false, le-ltb, lt-ltb, le-leb, leb-false, leb-true}
use native.Mathlib.Numerals.{unary_clauses}
use borrow.Author.Tests.{lt-leb}
use lib.Seq.{take-nil, drop-nil}
use Rattle.std.specs.List.{copy_within}
use Rattle.std.specs.Prelude.{Option, Some, None}
use Rattle.std.specs.Option.{UnwrapsOrElse}
use Rattle.std.specs.Slice.{IsGetRangeResult}
use mathlib.Core.Logic.{◌⊎◌, inl, inr}
use denote.Bor.{Bor}
use Rattle.text.specs.Bytes.{index_of}
use Rattle.text.specs.Parts.{after}
use Rattle.words.specs.Le.{put}
use Rattle.words.proofs.Puts.{put-nil}
use Rattle.words.proofs.Moves.{moved_to}
use Rattle.session.specs.declared.input.Reader.{Reader}
use Rattle.session.specs.declared.input.Filled.{Filled}
use Rattle.session.specs.Input.{between, held, first_line, past_line, past_first, ReadBehind, kept_of, cut_of}

drop_take : {A : Type 0} (n m : ℕ) (l : List A) → drop n (take m l) ≡ take (m - n) (drop n l)
drop_take n m [] = rw (take-nil m, drop-nil n) (sym (take-nil (m - n)))
drop_take zero m (x ∷ l) = simp unary_clauses
drop_take (suc n) zero (x ∷ l) = let e : 0 - suc n ≡ 0 = omega arith in rw e
drop_take (suc n) (suc m) (x ∷ l) = simp unary_clauses (drop_take n m l)

module _ (s : List ℕ) (from to : ℕ) where
  pub between_in : to ≤ length s → between s from to ≡ take (to - from) (drop from s)
  unfolding between
  between_in h = rw (le-leb to (length s) h)

  pub between_out : length s < to → between s from to ≡ []
  unfolding between
  between_out h = rw (lt-leb to (length s) h)

  pub between_none : to ≤ from → between s from to ≡ []
  unfolding between
  between_none h = rw (let e : to - from ≡ 0 = omega arith in e) (go (leb to (length s)))
    where
      go : (b : Bool) → cond b (take 0 (drop from s)) [] ≡ []
      go true = refl
      go false = refl

  between_missing : (to < from) ⊎ (length s < to) → between s from to ≡ []
  between_missing (inl h) = between_none (omega arith)
  between_missing (inr h) = between_out h

  -- a part that may be missing
  pub between_get : (o : Option (Bor (List ℕ))) (r : Bor (List ℕ)) → IsGetRangeResult s from to o → UnwrapsOrElse o (λ (x : Bor (List ℕ)). x.now ≡ []) r → r.now ≡ between s from to
  between_get None r g e = e ∙ sym (between_missing g.0)
  between_get (Some x) r g e = let h = g.0 in ap (λ (y : Bor (List ℕ)). y.now) e ∙ h.2 ∙ sym (between_in h.1)

  pub length-between : to ≤ length s → length (between s from to) ≡ to - from
  length-between h = ap length (between_in h) ∙ length-take-le (to - from) (drop from s) (rw length-drop (omega arith))

  -- moved to the front
  pub front_some : {t : List ℕ} → from ≤ to → to ≤ length s → t ≡ copy_within s from to 0
      → (to - from ≡ length (between s from to)) × (t ≡ put 0 (between s from to) s)
  front_some f h e = (sym (length-between h), e ∙ moved_to s from to 0 f h ∙ ap (λ (l : List ℕ). put 0 l s) (sym (between_in h)))

  pub front_none : between s from to ≡ [] → (0 ≡ length (between s from to)) × (s ≡ put 0 (between s from to) s)
  front_none e = rw e (refl, sym (put-nil s 0))

module _ (r : Reader) (n : ℕ) where
  pub past_some : n < r.to - r.from → record { from = r.from + n + 1; to = r.to; cut = false } ≡ past_line r n
  unfolding past_line
  past_some h = rw (lt-ltb n (r.to - r.from) h)

  pub past_none : r.to - r.from ≤ n → record { from = 0; to = 0; cut = false } ≡ past_line r n
  unfolding past_line
  past_none h = rw (le-ltb n (r.to - r.from) h)

-- n bytes read behind the first h
module _ (h : ℕ) (cut : Bool) (s t : List ℕ) where
  more_after : (n : ℕ) → ltb 0 n ≡ ltb h (h + n)
  more_after zero = sym (le-ltb h (h + 0) (omega arith))
  more_after (suc n) = lt-ltb 0 (suc n) (omega arith) ∙ sym (lt-ltb h (h + suc n) (omega arith))

  pub read_behind : (n : ℕ) {to : ℕ} → to ≡ h + n → take h t ≡ take h s → h + n ≤ length s
      → ReadBehind h cut s (record { reader = record { from = 0; to = to; cut = cut }; more = ltb 0 n }) t
  read_behind n e stays l =
      record {
        start = refl;
        same_cut = refl;
        stays = stays;
        up_to_lem = λ k. (omega arith, omega arith);
        more = rw e (more_after n);
      }

  pub read_none : length s < h → ReadBehind h cut s (record { reader = record { from = 0; to = 0; cut = cut }; more = false }) s
  read_none l =
      record {
        start = refl;
        same_cut = refl;
        stays = refl;
        up_to_lem = λ k. absurd (omega arith);
        more = sym (le-ltb h 0 (omega arith));
      }

-- more read behind what is kept
module _ (h s : List ℕ) (cut : Bool) {s1 t : List ℕ} {f : Filled} (e : s1 ≡ put 0 h s) where
  pub refill_kept : {n : ℕ} → n ≡ length h → length h < length s → ReadBehind n cut s1 f t → ReadBehind (kept_of h s) (cut_of h s cut) (put 0 h s) f t
  unfolding kept_of cut_of
  refill_kept g l b = rw (lt-ltb (length h) (length s) l, sym e, sym g) b

  pub refill_full : length s ≤ length h → ReadBehind 0 true s1 f t → ReadBehind (kept_of h s) (cut_of h s cut) (put 0 h s) f t
  unfolding kept_of cut_of
  refill_full l b = rw (le-ltb (length h) (length s) l, sym e) b

-- past n bytes and one more
pub past_held : (s : List ℕ) (r : Reader) (n : ℕ) → held s (past_line r n) ≡ drop (suc n) (held s r)
unfolding past_line
past_held s r n = go (ltb n (r.to - r.from)) refl (leb r.to (length s)) refl
  where
    nothing : ◌≡◌ {A = List ℕ} (drop (suc n) []) []
    nothing = drop-nil (suc n)

    front : between s 0 0 ≡ []
    front = between_none s 0 0 (omega arith)

    go : (t : Bool) → ltb n (r.to - r.from) ≡ t → (u : Bool) → leb r.to (length s) ≡ u
        → held s (cond t (record { from = r.from + n + 1; to = r.to; cut = false }) (record { from = 0; to = 0; cut = false })) ≡ drop (suc n) (held s r)
    go true e true f =
        let h : r.to ≤ length s = leb-true r.to (length s) f in
        let a : r.to - (r.from + n + 1) ≡ r.to - r.from - suc n = omega arith in
        let b : r.from + n + 1 ≡ r.from + suc n = omega arith in
        between_in s (r.from + n + 1) r.to h
        ∙ rw (a, b) (sym (rw (between_in s r.from r.to h, drop_take (suc n) (r.to - r.from) (drop r.from s), drop-drop (suc n) r.from s)))
    go false e true f =
        let h : r.to ≤ length s = leb-true r.to (length s) f in
        let g : r.to - r.from ≤ n = ltb-false n (r.to - r.from) e in
        front ∙ sym (drop_of_length-le (held s r) {i = suc n} (omega (arith, length-between s r.from r.to h)))
    go true e false f =
        let h : length s < r.to = leb-false r.to (length s) f in
        between_out s (r.from + n + 1) r.to h ∙ sym (rw (between_out s r.from r.to h) nothing)
    go false e false f =
        let h : length s < r.to = leb-false r.to (length s) f in
        front ∙ sym (rw (between_out s r.from r.to h) nothing)

-- what stands after the first k bytes and one more, where there may be fewer
past_front : (k : ℕ) (h : List ℕ) → drop (suc (length (take k h))) h ≡ drop (suc k) h
past_front zero h = refl
past_front (suc k) [] = sym (drop-nil (suc (suc k)))
past_front (suc k) (x ∷ h) = past_front k h

-- past the first line held: what is left is what stands after its end
pub next_reader : (s : List ℕ) (r : Reader) {n : ℕ} {x : Reader} {h : List ℕ} → h ≡ held s r → n ≡ length (first_line h) → x ≡ past_line r n
    → (x ≡ past_first s r) × (held s x ≡ after 10 (held s r))
next_reader s r {n} {x} {h} u e p =
    let f : n ≡ length (first_line (held s r)) = e ∙ ap (λ (k : List ℕ). length (first_line k)) u in (
      p ∙ ap (past_line r) f,
      ap (held s) (p ∙ ap (past_line r) f) ∙ past_held s r (length (first_line (held s r))) ∙ past_front (index_of 10 (held s r)) (held s r),
    )
