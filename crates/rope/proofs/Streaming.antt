-- a list written again in place: the start, a span pushed on, a row done, the end
use Prim.Native.Nat.{ℕ, ◌+◌, ◌-◌, ◌*◌, ◌<◌, ◌≤◌}
use mathlib.Core.Path.{◌≡◌, refl, sym, ap, ap₂, subst, ◌∙◌}
use mathlib.Core.Bool.{true, false}
use mathlib.Core.List.{List, [], ◌∷◌, ◌++◌, append_assoc, append-nil}
use mathlib.Core.Logic.{◌⊎◌, inl, inr}
use native.Mathlib.Omega.{arith}
use lib.ListN.{length, set, take, drop}
use lib.Seq.{drop-set-lt, drop-drop}
use Rattle.span.specs.declared.span.FugueSpan.{FugueSpan}
use Rattle.span.specs.Span.{span_code, joins_span, merged_span}
use Rattle.span.specs.Units.{units_of, expand, Apart, Joined, join}
use Rattle.span.proofs.Unique.{AllUnits, join_joined, expand-join}
use Rattle.span.proofs.ForRope.{span_units, list_units, joined_is}
use Rattle.store.specs.Row.{rows, row_at, PutRow}
use Rattle.rope.specs.Spans.{AllOk}
use Rattle.rope.specs.Streams.{Pushable, Pushed, Stream}
use Rattle.rope.proofs.Lists.{le-or}
use Rattle.rope.proofs.Rights.{row_drop, row_none}
use Rattle.rope.proofs.Borders.{merge_law, own_law, first_law, split, set_row}
use Rattle.rope.proofs.Whole.{ok_drop}
use Rattle.rope.proofs.Twice.{rows_take}

-- ---- one span pushed on to a joined list

pub units_append : (us vs : List FugueSpan) → AllUnits us → AllUnits vs → AllUnits (us ++ vs)
unfolding AllUnits
units_append [] vs a b = b
units_append (u ∷ us) vs a b = (a.0, (a.1.0, units_append us vs a.1.1 b))

module _ (l : List FugueSpan) (y : FugueSpan) (j : Joined l) (ok : span_code y ≡ 0) where
  more : AllUnits (expand l ++ units_of y)
  more = units_append (expand l) (units_of y) (list_units l j) (span_units y ok)

  pub push_joined : Joined (join (expand l ++ units_of y))
  push_joined = join_joined (expand l ++ units_of y) more

  pub push_units : expand (join (expand l ++ units_of y)) ≡ expand l ++ units_of y
  push_units = expand-join (expand l ++ units_of y) more

bare : (A : List FugueSpan) (y : FugueSpan) → join (expand A ++ (units_of y ++ expand [])) ≡ join (expand A ++ units_of y)
unfolding expand
bare A y = ap (λ (u : List FugueSpan). join (expand A ++ u)) (append-nil (units_of y))

module _ (w : ℕ) (s : List ℕ) (y : FugueSpan) (p : Pushable w y s) where
  -- the first w rows of w + 1
  own_rows : set (rows (w + 1) s) w y ≡ rows w s ++ y ∷ []
  own_rows =
      set_row (w + 1) s w (omega arith) y ∙
      ap₂ (λ (a b : List FugueSpan). a ++ y ∷ b) (sym (rows_take w (w + 1) s (omega arith))) (row_none (w + 1) s (w + 1) (omega arith))

  module _ (some : 0 < w) where
    i : ℕ
    i = w - 1

    here : i < w
    unfolding i
    here = omega arith

    ends : rows w s ≡ take i (rows w s) ++ row_at s (i * 72) ∷ []
    unfolding i
    ends = split w s i here ∙ ap (λ (b : List FugueSpan). take i (rows w s) ++ row_at s (i * 72) ∷ b) (row_none w s (i + 1) (omega arith))

    whole : Joined (take i (rows w s) ++ row_at s (i * 72) ∷ [])
    whole = subst Joined ends p.joined

    pub push_merge : joins_span (row_at s ((w - 1) * 72)) y ≡ true → set (rows w s) (w - 1) (merged_span (row_at s ((w - 1) * 72)) y) ≡ join (expand (rows w s) ++ units_of y)
    unfolding i Apart
    push_merge e =
        set_row w s i here (merged_span (row_at s (i * 72)) y) ∙
        (ap (λ (b : List FugueSpan). take i (rows w s) ++ merged_span (row_at s (i * 72)) y ∷ b) (row_none w s (i + 1) (omega arith)) ∙
        (merge_law (take i (rows w s)) (row_at s (i * 72)) y [] whole p.fine tt e ∙
        (bare (take i (rows w s) ++ row_at s (i * 72) ∷ []) y ∙ ap (λ (l : List FugueSpan). join (expand l ++ units_of y)) (sym ends))))

    pub push_own : joins_span (row_at s ((w - 1) * 72)) y ≡ false → set (rows (w + 1) s) w y ≡ join (expand (rows w s) ++ units_of y)
    unfolding i Apart
    push_own e =
        own_rows ∙
        (ap (λ (l : List FugueSpan). l ++ y ∷ []) ends ∙
        (own_law (take i (rows w s)) (row_at s (i * 72)) y [] whole p.fine tt e ∙
        (bare (take i (rows w s) ++ row_at s (i * 72) ∷ []) y ∙ ap (λ (l : List FugueSpan). join (expand l ++ units_of y)) (sym ends))))

  pub push_first : w ≡ 0 → set (rows (w + 1) s) w y ≡ join (expand (rows w s) ++ units_of y)
  unfolding rows expand Joined Apart
  push_first e =
      own_rows ∙
      (ap (λ (k : ℕ). rows k s ++ y ∷ []) e ∙
      (first_law y [] tt p.fine tt ∙ (bare [] y ∙ ap (λ (k : ℕ). join (expand (rows k s) ++ units_of y)) (sym e))))

-- ---- what `push` leaves, in its three ways

module _ (w : ℕ) (y : FugueSpan) (s t : List ℕ) (p : Pushable w y s) where
  -- a row before row i is written
  kept : (j : ℕ) (x : FugueSpan) → PutRow j x s t → j ≤ w → (n i : ℕ) → n * 72 ≤ length s → w < i → drop i (rows n t) ≡ drop i (rows n s)
  kept j x put low n i h k = go (le-or n i)
    where
      go : (n ≤ i) ⊎ (i ≤ n) → drop i (rows n t) ≡ drop i (rows n s)
      go (inl q) = row_none n t i q ∙ sym (row_none n s i q)
      go (inr q) = ap (drop i) (put.list n h (omega arith)) ∙ drop-set-lt i (rows n s) j x (omega arith)

  pub pushed_merge : (left both : FugueSpan) → 0 < w → left ≡ row_at s ((w - 1) * 72) → joins_span left y ≡ true → both ≡ merged_span left y → PutRow (w - 1) both s t → Pushed w y w s t
  pushed_merge left both some e h f put =
      record {
        few = omega arith;
        list = put.list w (omega (arith, p.room)) (omega arith) ∙
            (ap (set (rows w s) (w - 1)) (f ∙ ap (λ (l : FugueSpan). merged_span l y) e) ∙
            push_merge w s y p some (ap (λ (l : FugueSpan). joins_span l y) (sym e) ∙ h));
        rest = kept (w - 1) both put (omega arith);
      }

  pub pushed_own : (left : FugueSpan) → 0 < w → left ≡ row_at s ((w - 1) * 72) → joins_span left y ≡ false → PutRow w y s t → Pushed w y (w + 1) s t
  pushed_own left some e h put =
      record {
        few = omega arith;
        list = put.list (w + 1) (omega (arith, p.room)) (omega arith) ∙ push_own w s y p some (ap (λ (l : FugueSpan). joins_span l y) (sym e) ∙ h);
        rest = kept w y put (omega arith);
      }

  pub pushed_first : w ≡ 0 → PutRow w y s t → Pushed w y (w + 1) s t
  pushed_first e put =
      record {
        few = omega arith;
        list = put.list (w + 1) (omega (arith, p.room)) (omega arith) ∙ push_first w s y p e;
        rest = kept w y put (omega arith);
      }

-- ---- the whole list

module _ (n : ℕ) (s : List ℕ) (goal : List FugueSpan) (still : List FugueSpan → List FugueSpan) where
  pub stream_start : n * 72 ≤ length s → still (rows n s) ≡ goal → Stream n 0 0 (rows n s) goal still s
  unfolding rows Joined expand
  stream_start h e = record { long = h; low = omega arith; most = omega arith; done = tt; to_come = refl; all = e }

module _ (n w i : ℕ) (l goal : List FugueSpan) (still : List FugueSpan → List FugueSpan) (s : List ℕ) (v : Stream n w i l goal still s) where
  later : drop (i + 1) (rows n s) ≡ drop (i + 1) l
  later = sym (drop-drop 1 i (rows n s)) ∙ (ap (drop 1) v.to_come ∙ drop-drop 1 i l)

  -- the row to read is as it was
  pub stream_row : i < n → drop i l ≡ row_at s (i * 72) ∷ drop (i + 1) l
  stream_row h = sym v.to_come ∙ (row_drop n s i h ∙ ap (λ (r : List FugueSpan). row_at s (i * 72) ∷ r) later)

  pub stream_ok : i < n → AllOk l → span_code (row_at s (i * 72)) ≡ 0
  unfolding AllOk
  stream_ok h ok = (subst AllOk (stream_row h) (ok_drop i l ok)).0

  -- there is room to push what it gives
  pub stream_room : i < n → (y : FugueSpan) → span_code y ≡ 0 → Pushable w y s
  stream_room h y ok = record { room = omega (arith, v.long, v.low); joined = v.done; fine = ok }

  -- what row i gives is pushed on
  pub stream_next : (k : ℕ) (y : FugueSpan) (t : List ℕ) → length t ≡ length s → i < n → span_code y ≡ 0 → still (drop i l) ≡ units_of y ++ still (drop (i + 1) l) → Pushed w y k s t → Stream n k (i + 1) l goal still t
  stream_next k y t len h ok e p =
      record {
        long = omega (arith, v.long, len);
        low = omega (arith, v.low, p.few);
        most = omega (arith, h);
        done = subst Joined (sym p.list) (push_joined (rows w s) y v.done ok);
        to_come = p.rest n (i + 1) v.long (omega (arith, v.low)) ∙ later;
        all = ap (λ (r : List FugueSpan). expand r ++ still (drop (i + 1) l)) p.list ∙
            (ap (λ (r : List FugueSpan). r ++ still (drop (i + 1) l)) (push_units (rows w s) y v.done ok) ∙
            (append_assoc (expand (rows w s)) (units_of y) (still (drop (i + 1) l)) ∙
            (ap (λ (r : List FugueSpan). expand (rows w s) ++ r) (sym e) ∙ v.all)));
      }

  -- no row is left
  pub stream_end : n ≤ i → still [] ≡ [] → rows w s ≡ join goal
  stream_end h e =
      joined_is (rows w s) goal v.done
      (sym (append-nil (expand (rows w s))) ∙
      (ap (λ (r : List FugueSpan). expand (rows w s) ++ r) (sym (ap still (sym v.to_come ∙ row_none n s i h) ∙ e)) ∙ v.all))
