-- a delete, span by span, is the delete on units; and it cuts at most twice
use Prim.Native.Nat.{ℕ, zero, suc, ◌+◌, ◌-◌, ◌*◌, ◌<◌, ◌≤◌, min}
use mathlib.Core.Path.{◌≡◌, refl, sym, ap, ap₂, subst, ◌∙◌}
use mathlib.Core.Bool.{Bool, true, false, cond}
use mathlib.Core.List.{List, [], ◌∷◌, ◌++◌, append_assoc, append-nil}
use mathlib.Core.Logic.{◌⊎◌, inl, inr}
use native.Mathlib.Omega.{arith}
use native.Mathlib.Nat.{add-zero, zero-add, suc-add}
use lib.ListN.{length, length-append}
use Rattle.span.specs.declared.ids.Id.{Id}
use Rattle.span.specs.Maybe.{OptId}
use Rattle.std.specs.Prelude.{None as Nothing, Some as At}
use Rattle.span.specs.declared.span.FugueSpan.{FugueSpan}
use Rattle.span.specs.Ids.{inc_id, inc_opt}
use Rattle.span.proofs.IdsLaws.{inc_zero, inc_inc}
use Rattle.span.specs.Status.{activated}
use Rattle.span.specs.Span.{len_span, span_code, shift, left_of, part_span, slice_span_code, active_len}
use Rattle.span.specs.Units.{tab, unit_at, units_of, expand, join}
use Rattle.store.specs.Row.{rows}
use Rattle.store.proofs.Laws.{length-rows}
use Rattle.span.proofs.ListLaws.{tab-add}
use Rattle.span.proofs.UnitLaws.{unit_part, part_length}
use Rattle.span.proofs.Unique.{in_range_lem}
use Rattle.span.proofs.ForRope.{expand-append}
use Rattle.rope.specs.declared.change.Delete.{Delete}
use Rattle.rope.specs.declared.change.Change.{Change}
use Rattle.rope.specs.declared.change.Change.TheVariants as Ch
use Rattle.rope.specs.declared.change.Part.{Part}
use Rattle.units.specs.Place.{front, behind}
use Rattle.rope.specs.Spans.{AllOk}
use Rattle.units.specs.Change.{with_state, or_real, delete_unit, delete_first, delete_units}
use Rattle.rope.specs.Pieces.{part, delete_cut, took_of, delete_after, CanDelete, CanCut, CanChange, cut_of, after_of, change_span, part_of, changed_of, pieces_of, all_pieces}
use Rattle.rope.specs.Applies.{Fit, AllFit, Applies, Deletes}
use Rattle.rope.proofs.Offsets.{unit_status}
use Rattle.rope.proofs.Seeks.{front_zero, behind_zero, front_in, behind_in, front_vis, behind_vis, front_inv, behind_inv, active_is}
use Rattle.rope.proofs.Inserts.{part_units}
use Rattle.rope.proofs.Cuts.{can_after, cut_seen}
use Rattle.rope.proofs.Queue.{lt-or, part_some, part_none, changed_some, changed_none}

-- ---- a deleted piece, unit by unit

-- the n units of a span from j on, deleted: the first is offered the real id i
dels : Id → FugueSpan → ℕ → ℕ → List FugueSpan
dels i s j zero = []
dels i s j (suc n) = delete_unit i (unit_at s j) ∷ dels (inc_id i 1) s (suc j) n

inc_suc : (i : Id) (n : ℕ) → inc_id (inc_id i 1) n ≡ inc_id i (suc n)
inc_suc i n = inc_inc i 1 n ∙ ap (inc_id i) (let e : 1 + n ≡ suc n = omega arith in e)

real_inc : (r : OptId) (i : Id) (k : ℕ) → inc_opt (or_real r i) k ≡ or_real (inc_opt r k) (inc_id i k)
unfolding inc_opt
real_inc Nothing i k = refl
real_inc (At r) i k = refl

left_same : (i : Id) (p : FugueSpan) (k : ℕ) → left_of (delete_unit i p) k ≡ left_of p k
unfolding left_of delete_unit with_state
left_same i p zero = refl
left_same i p (suc k) = refl

unit_deleted : (i : Id) (p : FugueSpan) (k : ℕ) → unit_at (delete_unit i p) k ≡ delete_unit (inc_id i k) (unit_at p k)
unfolding delete_unit with_state shift
unit_deleted i p k =
    λ t. record {
      id = inc_id p.id k;
      lamport = p.lamport + k;
      real_id = real_inc p.real_id i k t;
      status = (delete_unit i p).status;
      diff_status = p.diff_status;
      origin_left = left_same i p k t;
      origin_right = p.origin_right;
      content = (unit_at p k).content;
    }

tab_deleted : (i : Id) (p : FugueSpan) (j n : ℕ) → tab (unit_at (delete_unit i p)) j n ≡ dels (inc_id i j) p j n
unfolding tab dels
tab_deleted i p j zero = refl
tab_deleted i p j (suc n) =
    ap₂ (λ (u : FugueSpan) (l : List FugueSpan). u ∷ l) (unit_deleted i p j)
    (tab_deleted i p (suc j) n ∙ ap (λ (z : Id). dels z p (suc j) n) (sym (inc_inc i j 1 ∙ ap (inc_id i) (let e : j + 1 ≡ suc j = omega arith in e))))

len_deleted : (i : Id) (p : FugueSpan) → len_span (delete_unit i p) ≡ len_span p
unfolding delete_unit with_state
len_deleted i p = refl

dels_part : (i : Id) (s : FugueSpan) (a b : ℕ) → slice_span_code s a b ≡ 0 → (j n : ℕ) → dels i (part_span s a b) j n ≡ dels i s (a + j) n
unfolding dels
dels_part i s a b e j zero = refl
dels_part i s a b e j (suc n) =
    ap₂ (λ (u : FugueSpan) (l : List FugueSpan). delete_unit i u ∷ l) (unit_part s a b j e)
    (dels_part (inc_id i 1) s a b e (suc j) n ∙ ap (λ (k : ℕ). dels (inc_id i 1) s k n) (let q : a + suc j ≡ suc (a + j) = omega arith in q))

deleted_units : (i : Id) (s : FugueSpan) (a b : ℕ) → span_code s ≡ 0 → a < b → b ≤ len_span s → units_of (delete_unit i (part_span s a b)) ≡ dels i s a (b - a)
unfolding units_of
deleted_units i s a b ok h k =
    let r = in_range_lem s a b ok h k in
    ap (tab (unit_at (delete_unit i (part_span s a b))) 0) (len_deleted i (part_span s a b) ∙ part_length s a b r) ∙
    (tab_deleted i (part_span s a b) 0 (b - a) ∙
    (ap (λ (z : Id). dels z (part_span s a b) 0 (b - a)) (inc_zero i) ∙
    (dels_part i s a b r 0 (b - a) ∙ ap (λ (k : ℕ). dels i s k (b - a)) (add-zero a))))

-- ---- the pieces, in units

module _ (s : FugueSpan) (ok : span_code s ≡ 0) (a b : ℕ) (k : b ≤ len_span s) where
  pub part_expand : expand (part_of s a b) ≡ tab (unit_at s) a (b - a)
  unfolding expand tab
  part_expand = go (lt-or a b)
    where
      go : (a < b) ⊎ (b ≤ a) → expand (part_of s a b) ≡ tab (unit_at s) a (b - a)
      go (inl h) = ap expand (part_some s a b h) ∙ (append-nil (units_of (part_span s a b)) ∙ part_units s a b ok h k)
      go (inr h) = ap expand (part_none s a b h) ∙ ap (tab (unit_at s) a) (let z : 0 ≡ b - a = omega arith in z)

  delete_expand : (d : Delete) → expand (changed_of (Ch.Delete d) s a b) ≡ dels d.start s a (b - a)
  unfolding expand change_span dels
  delete_expand d = go (lt-or a b)
    where
      go : (a < b) ⊎ (b ≤ a) → expand (changed_of (Ch.Delete d) s a b) ≡ dels d.start s a (b - a)
      go (inl h) = ap expand (changed_some s a b (Ch.Delete d) h) ∙ (append-nil (units_of (delete_unit d.start (part_span s a b))) ∙ deleted_units d.start s a b ok h k)
      go (inr h) = ap expand (changed_none s a b (Ch.Delete d) h) ∙ ap (dels d.start s a) (let z : 0 ≡ b - a = omega arith in z)

-- ---- delete_first over the units of a span

pub first_zero : (l : List FugueSpan) (i : Id) → delete_first l 0 i ≡ l
unfolding delete_first
first_zero [] i = refl
first_zero (u ∷ l) i = refl

first_on : (u : FugueSpan) (l : List FugueSpan) (n : ℕ) (i : Id) (t : Bool) → activated u.status ≡ t → delete_first (u ∷ l) (suc n) i ≡ cond t (delete_unit i u ∷ delete_first l n (inc_id i 1)) (u ∷ delete_first l (suc n) i)
unfolding delete_first
first_on u l n i t e = ap (λ (b : Bool). cond b (delete_unit i u ∷ delete_first l n (inc_id i 1)) (u ∷ delete_first l (suc n) i)) e

seen : (s : FugueSpan) (j : ℕ) (t : Bool) → activated s.status ≡ t → activated (unit_at s j).status ≡ t
seen s j t e = ap activated (unit_status s j) ∙ e

module _ (s : FugueSpan) (X : List FugueSpan) where
  module _ (v : activated s.status ≡ true) where
    first_in : (n j k : ℕ) (i : Id) → k ≤ n → delete_first (tab (unit_at s) j n ++ X) k i ≡ dels i s j k ++ (tab (unit_at s) (j + k) (n - k) ++ X)
    unfolding tab dels
    first_in n j zero i h =
        first_zero (tab (unit_at s) j n ++ X) i ∙ ap₂ (λ (a b : ℕ). tab (unit_at s) a b ++ X) (sym (add-zero j)) (let e : n ≡ n - 0 = omega arith in e)
    first_in zero j (suc k) i h = absurd (omega arith)
    first_in (suc n) j (suc k) i h =
        first_on (unit_at s j) (tab (unit_at s) (suc j) n ++ X) k i true (seen s j true v) ∙
        ap (λ (l : List FugueSpan). delete_unit i (unit_at s j) ∷ l)
        (first_in n (suc j) k (inc_id i 1) (omega arith) ∙
        ap₂ (λ (a b : ℕ). dels (inc_id i 1) s (suc j) k ++ (tab (unit_at s) a b ++ X)) (let e : suc j + k ≡ j + suc k = omega arith in e) (let e : n - k ≡ suc n - suc k = omega arith in e))

    first_past : (n j k : ℕ) (i : Id) → delete_first (tab (unit_at s) j n ++ X) (n + k) i ≡ dels i s j n ++ delete_first X k (inc_id i n)
    unfolding tab dels
    first_past zero j k i = ap₂ (λ (m : ℕ) (z : Id). delete_first X m z) (zero-add k) (sym (inc_zero i))
    first_past (suc n) j k i =
        ap (λ (m : ℕ). delete_first (unit_at s j ∷ (tab (unit_at s) (suc j) n ++ X)) m i) (suc-add n k) ∙
        (first_on (unit_at s j) (tab (unit_at s) (suc j) n ++ X) (n + k) i true (seen s j true v) ∙
        ap (λ (l : List FugueSpan). delete_unit i (unit_at s j) ∷ l)
        (first_past n (suc j) k (inc_id i 1) ∙ ap (λ (z : Id). dels (inc_id i 1) s (suc j) n ++ delete_first X k z) (inc_suc i n)))

  first_hid : activated s.status ≡ false → (n j k : ℕ) (i : Id) → delete_first (tab (unit_at s) j n ++ X) k i ≡ tab (unit_at s) j n ++ delete_first X k i
  unfolding tab
  first_hid v n j zero i = first_zero (tab (unit_at s) j n ++ X) i ∙ ap (λ (l : List FugueSpan). tab (unit_at s) j n ++ l) (sym (first_zero X i))
  first_hid v zero j (suc k) i = refl
  first_hid v (suc n) j (suc k) i =
      first_on (unit_at s j) (tab (unit_at s) (suc j) n ++ X) k i false (seen s j false v) ∙
      ap (λ (l : List FugueSpan). unit_at s j ∷ l) (first_hid v n (suc j) (suc k) i)

-- ---- a delete over one span and the units after it

zero_law : (X : List FugueSpan) (len : ℕ) (i : Id) → delete_units 0 len i X ≡ delete_first X len i
unfolding delete_units
zero_law X len i = ap₂ (λ (f b : List FugueSpan). f ++ delete_first b len i) (front_zero X) (behind_zero X)

module _ (s : FugueSpan) (l : List FugueSpan) where
  abbrev L : ℕ
  L = len_span s

  abbrev X : List FugueSpan
  X = expand l

  module _ (v : activated s.status ≡ true) where
    past_law : (q len : ℕ) (i : Id) → delete_units (L + q) len i (units_of s ++ X) ≡ units_of s ++ delete_units q len i X
    unfolding delete_units
    past_law q len i =
        ap₂ (λ (f b : List FugueSpan). f ++ delete_first b len i) (front_vis s l v q) (behind_vis s l v q) ∙
        append_assoc (units_of s) (front X q) (delete_first (behind X q) len i)

    open_law : (at len : ℕ) (i : Id) → at ≤ L → delete_units at len i (units_of s ++ X) ≡ tab (unit_at s) 0 at ++ delete_first (tab (unit_at s) at (L - at) ++ X) len i
    unfolding delete_units units_of
    open_law at len i h =
        ap₂ (λ (f b : List FugueSpan). f ++ delete_first b len i) (front_in s X v L 0 at h)
        (behind_in s X v L 0 at h ∙ ap (λ (k : ℕ). tab (unit_at s) k (L - at) ++ X) (zero-add at))

    in_law : (at len : ℕ) (i : Id) → at + len ≤ L → delete_units at len i (units_of s ++ X) ≡ tab (unit_at s) 0 at ++ (dels i s at len ++ (tab (unit_at s) (at + len) (L - (at + len)) ++ X))
    in_law at len i h =
        open_law at len i (omega arith) ∙
        ap (λ (u : List FugueSpan). tab (unit_at s) 0 at ++ u)
        (first_in s X v (L - at) at len i (omega arith) ∙
        ap (λ (k : ℕ). dels i s at len ++ (tab (unit_at s) (at + len) k ++ X)) (let e : L - at - len ≡ L - (at + len) = omega arith in e))

    over_law : (at k : ℕ) (i : Id) → at ≤ L → delete_units at (L - at + k) i (units_of s ++ X) ≡ tab (unit_at s) 0 at ++ (dels i s at (L - at) ++ delete_first X k (inc_id i (L - at)))
    over_law at k i h =
        open_law at (L - at + k) i h ∙
        ap (λ (u : List FugueSpan). tab (unit_at s) 0 at ++ u) (first_past s X v (L - at) at k i)

  hid_law : activated s.status ≡ false → (at len : ℕ) (i : Id) → delete_units at len i (units_of s ++ X) ≡ units_of s ++ delete_units at len i X
  unfolding delete_units units_of
  hid_law v zero len i =
      ap₂ (λ (f b : List FugueSpan). f ++ delete_first b len i) (front_zero (units_of s ++ X)) (behind_zero (units_of s ++ X)) ∙
      (first_hid s X v L 0 len i ∙
      ap (λ (u : List FugueSpan). units_of s ++ u) (sym (ap₂ (λ (f b : List FugueSpan). f ++ delete_first b len i) (front_zero X) (behind_zero X))))
  hid_law v (suc q) len i =
      ap₂ (λ (f b : List FugueSpan). f ++ delete_first b len i) (front_inv s l v q) (behind_inv s l v q) ∙
      append_assoc (units_of s) (front X (suc q)) (delete_first (behind X (suc q)) len i)

-- ---- the pieces of a span

module _ (d : Delete) (s : FugueSpan) (ok : span_code s ≡ 0) (l : List FugueSpan) where
  -- the pieces of a cut from a to b, in units
  cut_expand : (a b : ℕ) → a ≤ len_span s → b ≤ len_span s → delete_cut d s ≡ part a b → expand (pieces_of (Ch.Delete d) s) ≡ tab (unit_at s) 0 a ++ (dels d.start s a (b - a) ++ tab (unit_at s) b (len_span s - b))
  unfolding pieces_of cut_of
  cut_expand a b h k e =
      ap (λ (p : Part). expand (part_of s 0 p.from ++ (changed_of (Ch.Delete d) s p.from p.to ++ part_of s p.to (len_span s)))) e ∙
      (expand-append (part_of s 0 a) (changed_of (Ch.Delete d) s a b ++ part_of s b (len_span s)) ∙
      ap₂ (λ (u w : List FugueSpan). u ++ w) (part_expand s ok 0 a h ∙ ap (tab (unit_at s) 0) (let q : a - 0 ≡ a = omega arith in q))
      (expand-append (changed_of (Ch.Delete d) s a b) (part_of s b (len_span s)) ∙
      ap₂ (λ (u w : List FugueSpan). u ++ w) (delete_expand s ok a b k d) (part_expand s ok b (len_span s) (omega arith))))

  -- what is left after such a cut
  rest_is : (a b : ℕ) → delete_cut d s ≡ part a b → delete_units (delete_after d s).at (delete_after d s).len (delete_after d s).start (expand l) ≡ delete_units (d.at - a) (d.len - (b - a)) (inc_id d.start (b - a)) (expand l)
  unfolding delete_after took_of
  rest_is a b e = ap (λ (p : Part). delete_units (d.at - p.from) (d.len - (p.to - p.from)) (inc_id d.start (p.to - p.from)) (expand l)) e

  abbrev U : List FugueSpan
  U = units_of s

  abbrev goal : Type 0
  goal = expand (pieces_of (Ch.Delete d) s) ++ delete_units (delete_after d s).at (delete_after d s).len (delete_after d s).start (expand l) ≡ delete_units d.at d.len d.start (U ++ expand l)

  -- no unit of it is taken
  none_law : (a : ℕ) → a ≤ len_span s → delete_cut d s ≡ part a a → delete_units (d.at - a) d.len d.start (expand l) ≡ delete_units (d.at - a) d.len d.start (expand l) → U ++ delete_units (d.at - a) d.len d.start (expand l) ≡ delete_units d.at d.len d.start (U ++ expand l) → goal
  unfolding units_of dels tab
  none_law a h e z f =
      ap₂ (λ (u w : List FugueSpan). u ++ w)
      (cut_expand a a h h e ∙
      (ap (λ (k : ℕ). tab (unit_at s) 0 a ++ (dels d.start s a k ++ tab (unit_at s) a (len_span s - a))) (let q : a - a ≡ 0 = omega arith in q) ∙
      (ap (λ (k : ℕ). tab (unit_at s) 0 a ++ tab (unit_at s) k (len_span s - a)) (sym (zero-add a)) ∙
      (sym (tab-add (unit_at s) 0 a (len_span s - a)) ∙ ap (tab (unit_at s) 0) (let q : a + (len_span s - a) ≡ len_span s = omega arith in q)))))
      (rest_is a a e ∙
      ap₂ (λ (n : ℕ) (i : Id). delete_units (d.at - a) n i (expand l)) (let q : d.len - (a - a) ≡ d.len = omega arith in q)
      (ap (inc_id d.start) (let q : a - a ≡ 0 = omega arith in q) ∙ inc_zero d.start)) ∙
      f

  empty : (a b : ℕ) → dels d.start s a (b - a) ++ tab (unit_at s) b 0 ≡ dels d.start s a (b - a)
  unfolding tab
  empty a b = append-nil (dels d.start s a (b - a))

  cut_is : (t : Bool) → activated s.status ≡ t → delete_cut d s ≡ part (min d.at (cond t (len_span s) 0)) (min (d.at + d.len) (cond t (len_span s) 0))
  unfolding delete_cut
  cut_is t e = ap (λ (v : ℕ). part (min d.at v) (min (d.at + d.len) v)) (active_is s t e)

  cut_to : (t : Bool) → activated s.status ≡ t → (a b : ℕ) → min d.at (cond t (len_span s) 0) ≡ a → min (d.at + d.len) (cond t (len_span s) 0) ≡ b → delete_cut d s ≡ part a b
  cut_to t e a b p q = cut_is t e ∙ ap₂ part p q

  pub span_law : goal
  span_law = go (activated s.status) refl
    where
      past : activated s.status ≡ true → len_span s ≤ d.at → goal
      past v h =
          none_law (len_span s) (omega arith) (cut_to true v (len_span s) (len_span s) (omega arith) (omega arith)) refl
          (sym (ap (λ (k : ℕ). delete_units k d.len d.start (U ++ expand l)) (let q : d.at ≡ len_span s + (d.at - len_span s) = omega arith in q) ∙ past_law s l v (d.at - len_span s) d.len d.start))

      inside : activated s.status ≡ true → d.at < len_span s → d.at + d.len ≤ len_span s → goal
      inside v h k =
          let a = d.at in
          let b = d.at + d.len in
          let e : delete_cut d s ≡ part a b = cut_to true v a b (omega arith) (omega arith) in
          let n : b - a ≡ d.len = omega arith in
          ap₂ (λ (u w : List FugueSpan). u ++ w) (cut_expand a b (omega arith) k e)
          (rest_is a b e ∙
          (ap₂ (λ (m n : ℕ). delete_units m n (inc_id d.start (b - a)) (expand l)) (let q : d.at - a ≡ 0 = omega arith in q) (let q : d.len - (b - a) ≡ 0 = omega arith in q) ∙
          (zero_law (expand l) 0 (inc_id d.start (b - a)) ∙ first_zero (expand l) (inc_id d.start (b - a))))) ∙
          (append_assoc (tab (unit_at s) 0 a) (dels d.start s a (b - a) ++ tab (unit_at s) b (len_span s - b)) (expand l) ∙
          (ap (λ (u : List FugueSpan). tab (unit_at s) 0 a ++ u) (append_assoc (dels d.start s a (b - a)) (tab (unit_at s) b (len_span s - b)) (expand l) ∙
          ap (λ (m : ℕ). dels d.start s a m ++ (tab (unit_at s) b (len_span s - b) ++ expand l)) n) ∙
          sym (in_law s l v a d.len d.start k)))

      over : activated s.status ≡ true → d.at < len_span s → len_span s ≤ d.at + d.len → goal
      over v h k =
          let a = d.at in
          let b = len_span s in
          let m = d.len - (b - a) in
          let e : delete_cut d s ≡ part a b = cut_to true v a b (omega arith) (omega arith) in
          ap₂ (λ (u w : List FugueSpan). u ++ w)
          (cut_expand a b (omega arith) (omega arith) e ∙
          (ap (λ (n : ℕ). tab (unit_at s) 0 a ++ (dels d.start s a (b - a) ++ tab (unit_at s) b n)) (let q : len_span s - b ≡ 0 = omega arith in q) ∙
          ap (λ (u : List FugueSpan). tab (unit_at s) 0 a ++ u) (empty a b)))
          (rest_is a b e ∙
          (ap (λ (n : ℕ). delete_units n m (inc_id d.start (b - a)) (expand l)) (let q : d.at - a ≡ 0 = omega arith in q) ∙ zero_law (expand l) m (inc_id d.start (b - a)))) ∙
          (append_assoc (tab (unit_at s) 0 a) (dels d.start s a (b - a)) (delete_first (expand l) m (inc_id d.start (b - a))) ∙
          (sym (over_law s l v a m d.start (omega arith)) ∙
          ap (λ (n : ℕ). delete_units d.at n d.start (U ++ expand l)) (let q : len_span s - d.at + m ≡ d.len = omega arith in q)))

      hid : activated s.status ≡ false → goal
      hid v =
          none_law 0 (omega arith) (cut_to false v 0 0 (omega arith) (omega arith)) refl
          (ap (λ (k : ℕ). U ++ delete_units k d.len d.start (expand l)) (let q : d.at - 0 ≡ d.at = omega arith in q) ∙ sym (hid_law s l v d.at d.len d.start))

      pick : activated s.status ≡ true → (d.at < len_span s) ⊎ (len_span s ≤ d.at) → goal
      pick v (inl h) = side (lt-or (len_span s) (d.at + d.len))
        where
          side : (len_span s < d.at + d.len) ⊎ (d.at + d.len ≤ len_span s) → goal
          side (inl k) = over v h (omega arith)
          side (inr k) = inside v h k
      pick v (inr h) = past v h

      go : (t : Bool) → activated s.status ≡ t → goal
      go true v = pick v (lt-or d.at (len_span s))
      go false v = hid v

-- a delete on a list of spans is the delete on their units
pub delete_law : (d : Delete) (l : List FugueSpan) → AllOk l → expand (all_pieces (Ch.Delete d) l) ≡ delete_units d.at d.len d.start (expand l)
unfolding all_pieces AllOk expand after_of delete_units front behind delete_first
delete_law d [] ok = refl
delete_law d (s ∷ l) ok =
    expand-append (pieces_of (Ch.Delete d) s) (all_pieces (Ch.Delete (delete_after d s)) l) ∙
    (ap (λ (u : List FugueSpan). expand (pieces_of (Ch.Delete d) s) ++ u) (delete_law (delete_after d s) l ok.1) ∙ span_law d s ok.0 l)

-- ---- a delete can be made, and cuts at most twice

fit_delete : (d : Delete) (s : FugueSpan) → CanDelete d → span_code s ≡ 0 → Fit (Ch.Delete d) s
unfolding CanCut CanChange cut_of shift
fit_delete d s c ok = record { can = c; fine = ok; able = λ h. cut_seen d s h }

pub delete_fits : (d : Delete) (l : List FugueSpan) → CanDelete d → AllOk l → AllFit (Ch.Delete d) l
unfolding AllFit AllOk after_of
delete_fits d [] c ok = tt
delete_fits d (s ∷ l) c ok = (fit_delete d s c ok.0, delete_fits (delete_after d s) l (can_after d s c) ok.1)

pub part_size : (s : FugueSpan) (i j : ℕ) → length (part_of s i j) ≡ min 1 (j - i)
part_size s i j = go (lt-or i j)
  where
    go : (i < j) ⊎ (j ≤ i) → length (part_of s i j) ≡ min 1 (j - i)
    go (inl h) = ap length (part_some s i j h) ∙ (let z : 1 ≡ min 1 (j - i) = omega arith in z)
    go (inr h) = ap length (part_none s i j h) ∙ (let z : 0 ≡ min 1 (j - i) = omega arith in z)

changed_size : (e : Change) (s : FugueSpan) (i j : ℕ) → length (changed_of e s i j) ≡ min 1 (j - i)
changed_size e s i j = go (lt-or i j)
  where
    go : (i < j) ⊎ (j ≤ i) → length (changed_of e s i j) ≡ min 1 (j - i)
    go (inl h) = ap length (changed_some s i j e h) ∙ (let z : 1 ≡ min 1 (j - i) = omega arith in z)
    go (inr h) = ap length (changed_none s i j e h) ∙ (let z : 0 ≡ min 1 (j - i) = omega arith in z)

pub pieces_size : (e : Change) (s : FugueSpan) → length (pieces_of e s) ≡ min 1 (cut_of e s).from + (min 1 ((cut_of e s).to - (cut_of e s).from) + min 1 (len_span s - (cut_of e s).to))
unfolding pieces_of
pieces_size e s =
    length-append (part_of s 0 (cut_of e s).from) (changed_of e s (cut_of e s).from (cut_of e s).to ++ part_of s (cut_of e s).to (len_span s)) ∙
    ap₂ (λ (a b : ℕ). a + b) (part_size s 0 (cut_of e s).from ∙ ap (min 1) (let z : (cut_of e s).from - 0 ≡ (cut_of e s).from = omega arith in z))
    (length-append (changed_of e s (cut_of e s).from (cut_of e s).to) (part_of s (cut_of e s).to (len_span s)) ∙
    ap₂ (λ (a b : ℕ). a + b) (changed_size e s (cut_of e s).from (cut_of e s).to) (part_size s (cut_of e s).to (len_span s)))

-- a cut in a span uses up what cuts it
less : (x y : ℕ) → x ≤ y → min 1 x ≤ min 1 y
less x y h = omega arith

pub none : (x : ℕ) → x ≡ 0 → min 1 x ≡ 0
none x h = omega arith

pub once : (x : ℕ) → min 1 x ≤ 1
once x = omega arith

full : (x : ℕ) → 0 < x → min 1 x ≡ 1
full x h = omega arith

module _ (at len v n : ℕ) where
  abbrev f : ℕ
  f = min at v

  abbrev t : ℕ
  t = min (at + len) v

  abbrev bound : Type 0
  bound = min 1 f + (min 1 (t - f) + min 1 (n - t)) + (min 1 (at - f) + min 1 (len - (t - f))) ≤ 1 + (min 1 at + min 1 len)

  at_less : min 1 (at - f) ≤ min 1 at
  at_less = less (at - f) at (omega arith)

  len_less : min 1 (len - (t - f)) ≤ min 1 len
  len_less = less (len - (t - f)) len (omega arith)

  hid : v ≡ 0 → bound
  hid e =
      add (min 1 f) (min 1 (t - f)) (min 1 (n - t)) (min 1 (at - f)) (min 1 (len - (t - f))) (min 1 at) (min 1 len)
      (none f (omega arith)) (none (t - f) (omega arith)) (once (n - t)) at_less len_less
    where
      add : (a b c d e p q : ℕ) → a ≡ 0 → b ≡ 0 → c ≤ 1 → d ≤ p → e ≤ q → a + (b + c) + (d + e) ≤ 1 + (p + q)
      add a b c d e p q h1 h2 h3 h4 h5 = omega arith

  behind_it : v ≡ n → n ≤ at → bound
  behind_it e h =
      add (min 1 f) (min 1 (t - f)) (min 1 (n - t)) (min 1 (at - f)) (min 1 (len - (t - f))) (min 1 at) (min 1 len)
      (once f) (none (t - f) (omega arith)) (none (n - t) (omega arith)) at_less len_less
    where
      add : (a b c d e p q : ℕ) → a ≤ 1 → b ≡ 0 → c ≡ 0 → d ≤ p → e ≤ q → a + (b + c) + (d + e) ≤ 1 + (p + q)
      add a b c d e p q h1 h2 h3 h4 h5 = omega arith

  within : v ≡ n → at < n → at + len ≤ n → bound
  within e h k =
      add (min 1 f) (min 1 (t - f)) (min 1 (n - t)) (min 1 (at - f)) (min 1 (len - (t - f))) (min 1 at) (min 1 len)
      (less f at (omega arith)) (less (t - f) len (omega arith)) (once (n - t)) (none (at - f) (omega arith)) (none (len - (t - f)) (omega arith))
    where
      add : (a b c d e p q : ℕ) → a ≤ p → b ≤ q → c ≤ 1 → d ≡ 0 → e ≡ 0 → a + (b + c) + (d + e) ≤ 1 + (p + q)
      add a b c d e p q h1 h2 h3 h4 h5 = omega arith

  past_it : v ≡ n → at < n → n ≤ at + len → bound
  past_it e h k =
      add (min 1 f) (min 1 (t - f)) (min 1 (n - t)) (min 1 (at - f)) (min 1 (len - (t - f))) (min 1 at) (min 1 len)
      (less f at (omega arith)) (once (t - f)) (none (n - t) (omega arith)) (none (at - f) (omega arith)) (once (len - (t - f))) (full len (omega arith))
    where
      add : (a b c d e p q : ℕ) → a ≤ p → b ≤ 1 → c ≡ 0 → d ≡ 0 → e ≤ 1 → q ≡ 1 → a + (b + c) + (d + e) ≤ 1 + (p + q)
      add a b c d e p q h1 h2 h3 h4 h5 h6 = omega arith

  cut_once : (v ≡ n) ⊎ (v ≡ 0) → bound
  cut_once (inl e) = pick (lt-or at n)
    where
      pick : (at < n) ⊎ (n ≤ at) → bound
      pick (inl h) = side (lt-or n (at + len))
        where
          side : (n < at + len) ⊎ (at + len ≤ n) → bound
          side (inl k) = past_it e h (omega arith)
          side (inr k) = within e h k
      pick (inr h) = behind_it e h
  cut_once (inr e) = hid e

span_cuts : (d : Delete) (s : FugueSpan) → span_code s ≡ 0 → length (pieces_of (Ch.Delete d) s) + (min 1 (delete_after d s).at + min 1 (delete_after d s).len) ≤ 1 + (min 1 d.at + min 1 d.len)
unfolding delete_after took_of delete_cut cut_of
span_cuts d s ok =
    let z = pieces_size (Ch.Delete d) s in
    let y = cut_once d.at d.len (active_len s) (len_span s) (side (activated s.status) refl) in
    subst (λ (k : ℕ). k + (min 1 (delete_after d s).at + min 1 (delete_after d s).len) ≤ 1 + (min 1 d.at + min 1 d.len)) (sym z) y
  where
    side : (t : Bool) → activated s.status ≡ t → (active_len s ≡ len_span s) ⊎ (active_len s ≡ 0)
    side true e = inl (active_is s true e)
    side false e = inr (active_is s false e)

few_cuts : (d : Delete) (l : List FugueSpan) → AllOk l → length (all_pieces (Ch.Delete d) l) ≤ length l + (min 1 d.at + min 1 d.len)
unfolding AllOk all_pieces after_of
few_cuts d [] ok = omega arith
few_cuts d (s ∷ l) ok =
    let a = span_cuts d s ok.0 in
    let b = few_cuts (delete_after d s) l ok.1 in
    let e : length (pieces_of (Ch.Delete d) s ++ all_pieces (Ch.Delete (delete_after d s)) l) ≡ length (pieces_of (Ch.Delete d) s) + length (all_pieces (Ch.Delete (delete_after d s)) l) = length-append (pieces_of (Ch.Delete d) s) (all_pieces (Ch.Delete (delete_after d s)) l) in
    omega (arith, a, b, e)

pub delete_cuts : (d : Delete) (l : List FugueSpan) → AllOk l → length (all_pieces (Ch.Delete d) l) ≤ length l + 2
delete_cuts d l ok = omega (arith, few_cuts d l ok)

pub deletes : (n at len : ℕ) (start : Id) (s : List ℕ) → Deletes n at len start s → Applies (Ch.Delete (record { at = at; len = len; start = start })) n s
deletes n at len start s w =
    let d : Delete = record { at = at; len = len; start = start } in
    record {
      long = w.long;
      fit = delete_fits d (rows n s) (record { fits = w.fits; room = w.ids }) w.each;
      cuts = omega (arith, delete_cuts d (rows n s) w.each, length-rows n s);
      room = subst (λ (l : List FugueSpan). length (join l) * 72 ≤ length s) (sym (delete_law d (rows n s) w.each)) w.room;
    }
