-- the pieces that a delete removes, row by row
use Prim.Native.Nat.{ℕ, zero, suc, ◌+◌, ◌-◌, ◌*◌, ◌<◌, ◌≤◌, min}
use mathlib.Core.Path.{◌≡◌, refl, sym, ap, ap₂, subst, ◌∙◌}
use mathlib.Core.Bool.{Bool, true, false, ◌&&◌, cond}
use mathlib.Core.List.{List, [], ◌∷◌, ◌++◌, append_assoc, append-nil, reverse, reverse-append}
use mathlib.Core.Logic.{◌⊎◌, inl, inr}
use native.Mathlib.Omega.{arith}
use native.Mathlib.Numerals.{add-one}
use native.Mathlib.Nat.{add-zero, zero-add}
use lib.Dec.{leb, ltb}
use lib.ListN.{length, set, take, drop, length-append, length-reverse}
use lib.Seq.{set_split, drop_at, drop-drop, length-take-le}
use borrow.Author.Tests.{leb-true, leb-false, lt-ltb, le-ltb}
use Rattle.words.specs.Le.{bytes_of}
use Rattle.words.proofs.Puts.{drop-put}
use Rattle.span.specs.declared.span.FugueSpan.{FugueSpan}
use Rattle.span.specs.Span.{len_span, span_code, part_span, active_len}
use Rattle.span.specs.Units.{tab, unit_at, expand}
use Rattle.span.proofs.ListLaws.{tab-add}
use Rattle.span.proofs.ForRope.{expand-append}
use Rattle.store.specs.Row.{rows, row_at, row_bytes, word_bytes, PutRow}
use Rattle.store.proofs.Laws.{length-rows}
use Rattle.rope.specs.declared.change.Delete.{Delete}
use Rattle.rope.specs.declared.change.Part.{Part}
use Rattle.units.specs.Place.{shown}
use Rattle.rope.specs.Spans.{AllOk}
use Rattle.units.specs.Change.{touched, pieces}
use Rattle.rope.specs.Pieces.{delete_cut, took_of, delete_after, CanDelete, part_of}
use Rattle.rope.specs.Reports.{Report, PutPart, PutUnits, Listed}
use Rattle.rope.proofs.Seeks.{shown_row}
use Rattle.rope.proofs.Rights.{row_drop, row_none, row_ok}
use Rattle.rope.proofs.Cuts.{took_most, delete_low, delete_most, can_after}
use Rattle.rope.proofs.Queue.{rows_on, part_some, part_none}
use Rattle.rope.proofs.Deletes.{part_expand, part_size}

-- ---- what a delete takes of each span

pub takes : Delete → List FugueSpan → List FugueSpan
takes d [] = []
takes d (s ∷ l) = part_of s (delete_cut d s).from (delete_cut d s).to ++ takes (delete_after d s) l

pub touched_none : (l : List FugueSpan) (at : ℕ) → touched l at 0 ≡ []
unfolding touched
touched_none [] at = refl
touched_none (s ∷ l) at = refl

touched_on : (s : FugueSpan) (l : List FugueSpan) (at n : ℕ) (b : Bool) → leb (active_len s) at ≡ b → touched (s ∷ l) at (suc n) ≡ cond b (touched l (at - active_len s) (suc n)) (part_span s at (min (active_len s) (at + suc n)) ∷ touched l 0 (at + suc n - active_len s))
unfolding touched
touched_on s l at n b e = ap (λ (t : Bool). cond t (touched l (at - active_len s) (suc n)) (part_span s at (min (active_len s) (at + suc n)) ∷ touched l 0 (at + suc n - active_len s))) e

module _ (d : Delete) (s : FugueSpan) where
  -- nothing of it is taken
  pass : (n : ℕ) → d.len ≡ n → (active_len s ≤ d.at) ⊎ (n ≡ 0) → (part_of s (delete_cut d s).from (delete_cut d s).to ≡ []) × ((delete_after d s).len ≡ n)
  unfolding delete_cut delete_after took_of
  pass n e (inl h) = (part_none s (min d.at (active_len s)) (min (d.at + d.len) (active_len s)) (omega arith), omega arith)
  pass n e (inr h) = (part_none s (min d.at (active_len s)) (min (d.at + d.len) (active_len s)) (omega arith), omega arith)

  pass_at : active_len s ≤ d.at → (delete_after d s).at ≡ d.at - active_len s
  unfolding delete_cut delete_after
  pass_at h = omega arith

  -- some of it is
  hit : (n : ℕ) → d.len ≡ suc n → d.at < active_len s → (part_of s (delete_cut d s).from (delete_cut d s).to ≡ part_span s d.at (min (active_len s) (d.at + suc n)) ∷ []) × (((delete_after d s).at ≡ 0) × ((delete_after d s).len ≡ d.at + suc n - active_len s))
  unfolding delete_cut delete_after took_of
  hit n e h = (
    ap₂ (part_of s) (let q : min d.at (active_len s) ≡ d.at = omega arith in q) (let q : min (d.at + d.len) (active_len s) ≡ min (active_len s) (d.at + suc n) = omega arith in q) ∙
        part_some s d.at (min (active_len s) (d.at + suc n)) (omega arith),
    (omega arith, omega arith),
  )

touched_law : (d : Delete) (l : List FugueSpan) → touched l d.at d.len ≡ takes d l
unfolding takes touched
touched_law d [] = refl
touched_law d (s ∷ l) = go d.len refl (touched_law (delete_after d s) l)
  where
    go : (n : ℕ) → d.len ≡ n → touched l (delete_after d s).at (delete_after d s).len ≡ takes (delete_after d s) l → touched (s ∷ l) d.at d.len ≡ part_of s (delete_cut d s).from (delete_cut d s).to ++ takes (delete_after d s) l
    go zero e rec =
        let p = pass d s 0 e (inr refl) in
        ap (touched (s ∷ l) d.at) e ∙
        sym (ap₂ (λ (a b : List FugueSpan). a ++ b) p.0 (sym rec ∙ (ap (touched l (delete_after d s).at) p.1 ∙ touched_none l (delete_after d s).at)))
    go (suc n) e rec = ap (touched (s ∷ l) d.at) e ∙ pick (leb (active_len s) d.at) refl
      where
        pick : (b : Bool) → leb (active_len s) d.at ≡ b → touched (s ∷ l) d.at (suc n) ≡ part_of s (delete_cut d s).from (delete_cut d s).to ++ takes (delete_after d s) l
        pick true f =
            let h = leb-true (active_len s) d.at f in
            let p = pass d s (suc n) e (inl h) in
            touched_on s l d.at n true f ∙
            sym (ap₂ (λ (a b : List FugueSpan). a ++ b) p.0 (sym rec ∙ ap₂ (touched l) (pass_at d s h) p.1))
        pick false f =
            let h = leb-false (active_len s) d.at f in
            let p = hit d s n e (omega (arith, h)) in
            touched_on s l d.at n false f ∙
            sym (ap₂ (λ (a b : List FugueSpan). a ++ b) p.0 (sym rec ∙ ap₂ (touched l) p.1.0 p.1.1))

-- ---- the number of rows touched

pub record Touch (d : Delete) (n : ℕ) (s : List ℕ) (left : Delete) (i k : ℕ) : Type 0 where
  pub low : i ≤ n
  pub can : CanDelete left
  pub few : k ≤ i
  pub sum : k + length (takes left (drop i (rows n s))) ≡ length (takes d (rows n s))

module _ (d : Delete) (n : ℕ) (s : List ℕ) where
  pub touch_start : CanDelete d → Touch d n s d 0 0
  touch_start c = record { low = omega arith; can = c; few = omega arith; sum = zero-add (length (takes d (rows n s))) }

  module _ (left : Delete) (i k : ℕ) (v : Touch d n s left i k) where
    pub touch_turn : i < n → (m : ℕ) (p : Part) (next : Delete) → p ≡ delete_cut left (row_at s (i * 72)) → m ≡ min 1 (p.to - p.from) → next ≡ delete_after left (row_at s (i * 72)) → Touch d n s next (i + 1) (k + m)
    unfolding takes
    touch_turn h m p next ep em en =
        let x = row_at s (i * 72) in
        let D = drop (i + 1) (rows n s) in
        let a : length (takes left (drop i (rows n s))) ≡ length (part_of x (delete_cut left x).from (delete_cut left x).to) + length (takes (delete_after left x) D) =
        ap (λ (l : List FugueSpan). length (takes left l)) (row_drop n s i h) ∙ length-append (part_of x (delete_cut left x).from (delete_cut left x).to) (takes (delete_after left x) D)
        in
        let b : length (part_of x (delete_cut left x).from (delete_cut left x).to) ≡ m =
        part_size x (delete_cut left x).from (delete_cut left x).to ∙ (ap (λ (q : Part). min 1 (q.to - q.from)) (sym ep) ∙ sym em)
        in
        let one : m ≤ 1 = omega (arith, em) in
        record {
          low = omega (arith, h);
          can = subst CanDelete (sym en) (can_after left x v.can);
          few = omega (arith, v.few, one);
          sum = (let q : k + m + length (takes next D) ≡ length (takes d (rows n s)) = (let r : length (takes next D) ≡ length (takes (delete_after left x) D) = ap (λ (z : Delete). length (takes z D)) en in omega (arith, v.sum, a, b, r)) in q);
        }

    pub touch_done : n ≤ i → k ≡ length (touched (rows n s) d.at d.len)
    unfolding takes
    touch_done h =
        let a : length (takes left (drop i (rows n s))) ≡ 0 = ap (λ (l : List FugueSpan). length (takes left l)) (row_none n s i h) in
        let b : length (touched (rows n s) d.at d.len) ≡ length (takes d (rows n s)) = ap length (touched_law d (rows n s)) in
        omega (arith, v.sum, a, b)

-- ---- one row written

row_long : (x : FugueSpan) → length (row_bytes x) ≡ 72
unfolding word_bytes bytes_of
row_long x = refl

-- what is past a row that is written
module _ (k : ℕ) (x : FugueSpan) (o t : List ℕ) (room : k * 72 + 72 ≤ length o) (w : PutRow k x o t) where
  past_row : (n : ℕ) → k < n → drop (n * 72) t ≡ drop (n * 72) o
  past_row n h =
      let e : k * 72 + length (row_bytes x) + (n - (k + 1)) * 72 ≡ n * 72 = omega (arith, row_long x) in
      ap (λ (m : ℕ). drop m t) (sym e) ∙
      (sym (drop-drop ((n - (k + 1)) * 72) (k * 72 + length (row_bytes x)) t) ∙
      (ap (drop ((n - (k + 1)) * 72)) (ap (drop (k * 72 + length (row_bytes x))) w.bytes ∙ drop-put o (row_bytes x) (k * 72) (omega arith)) ∙
      (drop-drop ((n - (k + 1)) * 72) (k * 72 + length (row_bytes x)) o ∙ ap (λ (m : ℕ). drop m o) e)))

pub put_some : (k : ℕ) (x y : FugueSpan) (i j : ℕ) (o t : List ℕ) → i < j → k * 72 + 72 ≤ length o → y ≡ part_span x i j → PutRow k y o t → PutPart k x i j (k + 1) o t
put_some k x y i j o t h room e w =
    record {
      number = ap (λ (m : ℕ). k + m) (sym (ap length (part_some x i j h)));
      list = w.list (k + 1) (omega arith) (omega arith) ∙ (rows_on k o y ∙ ap (λ (l : List FugueSpan). rows k o ++ l) (ap (λ (z : FugueSpan). z ∷ []) e ∙ sym (part_some x i j h)));
      kept = past_row k y o t room w (k + 1) (omega arith);
    }

pub put_none : (k : ℕ) (x : FugueSpan) (i j : ℕ) (o : List ℕ) → j ≤ i → PutPart k x i j k o o
put_none k x i j o h =
    record {
      number = sym (ap (λ (l : List FugueSpan). k + length l) (part_none x i j h) ∙ add-zero k);
      list = sym (ap (λ (l : List FugueSpan). rows k o ++ l) (part_none x i j h) ∙ append-nil (rows k o));
      kept = refl;
    }

-- ---- the pieces, forward

pub record Listing (d : Delete) (n : ℕ) (s o : List ℕ) (left : Delete) (i k : ℕ) (out : List ℕ) : Type 0 where
  pub low : i ≤ n
  pub can : CanDelete left
  pub few : k ≤ i
  pub same : length out ≡ length o
  pub list : rows k out ++ takes left (drop i (rows n s)) ≡ takes d (rows n s)
  pub kept : drop (k * 72) out ≡ drop (k * 72) o

module _ (d : Delete) (n : ℕ) (s o : List ℕ) where
  pub listing_start : CanDelete d → Listing d n s o d 0 0 o
  unfolding rows
  listing_start c = record { low = omega arith; can = c; few = omega arith; same = refl; list = refl; kept = refl }

  module _ (left : Delete) (i k : ℕ) (out : List ℕ) (v : Listing d n s o left i k out) where
    module _ (h : i < n) where
      abbrev x : FugueSpan
      x = row_at s (i * 72)

      abbrev D : List FugueSpan
      D = drop (i + 1) (rows n s)

      next_takes : takes left (drop i (rows n s)) ≡ part_of x (delete_cut left x).from (delete_cut left x).to ++ takes (delete_after left x) D
      unfolding takes
      next_takes = ap (takes left) (row_drop n s i h)

      pub listing_room : (p : Part) → p ≡ delete_cut left x → length (touched (rows n s) d.at d.len) * 72 ≤ length o → (k + min 1 (p.to - p.from)) * 72 ≤ length out
      listing_room p ep room =
          let a : length (rows k out ++ takes left (drop i (rows n s))) ≡ length (takes d (rows n s)) = ap length v.list in
          let b : length (rows k out ++ takes left (drop i (rows n s))) ≡ k + length (takes left (drop i (rows n s))) = length-append (rows k out) (takes left (drop i (rows n s))) ∙ ap (λ (m : ℕ). m + length (takes left (drop i (rows n s)))) (length-rows k out) in
          let c : length (takes left (drop i (rows n s))) ≡ length (part_of x (delete_cut left x).from (delete_cut left x).to) + length (takes (delete_after left x) D) = ap length next_takes ∙ length-append (part_of x (delete_cut left x).from (delete_cut left x).to) (takes (delete_after left x) D) in
          let e : length (part_of x (delete_cut left x).from (delete_cut left x).to) ≡ min 1 (p.to - p.from) = part_size x (delete_cut left x).from (delete_cut left x).to ∙ ap (λ (q : Part). min 1 (q.to - q.from)) (sym ep) in
          let f : length (touched (rows n s) d.at d.len) ≡ length (takes d (rows n s)) = ap length (touched_law d (rows n s)) in
          sums (length (takes d (rows n s))) (length (touched (rows n s) d.at d.len)) (length (takes left (drop i (rows n s)))) (length (part_of x (delete_cut left x).from (delete_cut left x).to)) (length (takes (delete_after left x) D)) (min 1 (p.to - p.from)) (length o) (length out)
          (sym b ∙ a) c e f room v.same
        where
          sums : (a b c e f g lo lt : ℕ) → k + c ≡ a → c ≡ e + f → e ≡ g → b ≡ a → b * 72 ≤ lo → lt ≡ lo → (k + g) * 72 ≤ lt
          sums a b c e f g lo lt h1 h2 h3 h4 h5 h6 = omega arith

      pub listing_turn : (p : Part) (next : Delete) (r : ℕ) (t : List ℕ) → p ≡ delete_cut left x → next ≡ delete_after left x → length t ≡ length out → PutPart k x p.from p.to r out t → Listing d n s o next (i + 1) r t
      listing_turn p next r t ep en len w =
          record {
            low = omega (arith, h);
            can = subst CanDelete (sym en) (can_after left x v.can);
            few = (let z = part_size x p.from p.to in more (length (part_of x p.from p.to)) (omega (arith, z)) w.number);
            same = len ∙ v.same;
            list = ap₂ (λ (a : List FugueSpan) (z : Delete). a ++ takes z D) w.list en ∙
                (append_assoc (rows k out) (part_of x p.from p.to) (takes (delete_after left x) D) ∙
                (ap (λ (q : Part). rows k out ++ (part_of x q.from q.to ++ takes (delete_after left x) D)) ep ∙
                (ap (λ (l : List FugueSpan). rows k out ++ l) (sym next_takes) ∙ v.list)));
            kept = w.kept ∙ past;
          }
        where
          more : (m : ℕ) → m ≤ 1 → r ≡ k + m → r ≤ i + 1
          more m a b = omega (arith, v.few, a, b)

          past : drop (r * 72) out ≡ drop (r * 72) o
          past =
              let e : k * 72 + (r - k) * 72 ≡ r * 72 = omega (arith, w.number) in
              ap (λ (m : ℕ). drop m out) (sym e) ∙ (sym (drop-drop ((r - k) * 72) (k * 72) out) ∙ (ap (drop ((r - k) * 72)) v.kept ∙ (drop-drop ((r - k) * 72) (k * 72) o ∙ ap (λ (m : ℕ). drop m o) e)))

    pub listing_done : n ≤ i → Listed (touched (rows n s) d.at d.len) k o out
    unfolding takes
    listing_done h =
        let e : rows k out ≡ touched (rows n s) d.at d.len =
        sym (append-nil (rows k out)) ∙ (ap (λ (l : List FugueSpan). rows k out ++ takes left l) (sym (row_none n s i h)) ∙ (v.list ∙ sym (touched_law d (rows n s))))
        in
        let m : k ≡ length (touched (rows n s) d.at d.len) = sym (length-rows k out) ∙ ap length e in
        record {
          number = m;
          list = ap (λ (a : ℕ). rows a out) (sym m) ∙ e;
          kept = ap (λ (a : ℕ). drop (a * 72) out) (sym m) ∙ (v.kept ∙ ap (λ (a : ℕ). drop (a * 72) o) m);
        }

-- ---- units, from the top down

drop-set : (l : List FugueSpan) (i : ℕ) (x : FugueSpan) → i < length l → drop i (set l i x) ≡ x ∷ drop (suc i) l
drop-set l i x h =
    ap (drop i) (set_split l i x h) ∙ drop_at (take i l) (x ∷ drop (suc i) l) i (length-take-le i l (omega arith))

turn_back : (f : ℕ → FugueSpan) (i n : ℕ) → reverse (tab f i (n + 1)) ≡ f (i + n) ∷ reverse (tab f i n)
unfolding tab
turn_back f i n = ap reverse (tab-add f i n 1) ∙ reverse-append (tab f i n) (f (i + n) ∷ [])

pub record Down (top : ℕ) (x : FugueSpan) (from to : ℕ) (o : List ℕ) (u t : ℕ) (out : List ℕ) : Type 0 where
  pub low : from ≤ u
  pub most : u ≤ to
  pub sum : t + (u - from) ≡ top
  pub same : length out ≡ length o
  pub list : (n : ℕ) → n * 72 ≤ length o → top ≤ n → drop t (rows n out) ≡ reverse (tab (unit_at x) from (u - from)) ++ drop top (rows n o)
  pub kept : (n : ℕ) → n * 72 ≤ length o → top ≤ n → drop (n * 72) out ≡ drop (n * 72) o

module _ (top : ℕ) (x : FugueSpan) (from to : ℕ) (o : List ℕ) where
  pub down_start : from ≤ to → Down top x from to o from top o
  unfolding tab
  down_start h =
      record {
        low = omega arith;
        most = h;
        sum = omega arith;
        same = refl;
        list = λ n k m. ap (λ (a : ℕ). reverse (tab (unit_at x) from a) ++ drop top (rows n o)) (let z : 0 ≡ from - from = omega arith in z);
        kept = λ n k m. refl;
      }

  module _ (u t : ℕ) (out : List ℕ) (v : Down top x from to o u t out) where
    pub down_turn : u < to → 0 < t → top * 72 ≤ length o → (y : FugueSpan) (r : List ℕ) → y ≡ part_span x u (u + 1) → length r ≡ length out → PutRow (t - 1) y out r → Down top x from to o (u + 1) (t - 1) r
    down_turn h p room y r e len w =
        record {
          low = omega (arith, v.low);
          most = omega (arith, h);
          sum = omega (arith, v.sum, v.low, p);
          same = len ∙ v.same;
          list = λ n k m. (
              let lt : t - 1 < n = omega (arith, v.sum, p, m) in
              let z : u + 1 - from ≡ u - from + 1 = omega (arith, v.low) in
              let a : from + (u - from) ≡ u = omega (arith, v.low) in
              let b : suc (t - 1) ≡ t = omega (arith, p) in
              ap (drop (t - 1)) (w.list n (omega (arith, k, v.same)) lt) ∙
              (drop-set (rows n out) (t - 1) y (subst (λ (q : ℕ). t - 1 < q) (sym (length-rows n out)) lt) ∙
              (ap₂ (λ (q : FugueSpan) (c : ℕ). q ∷ drop c (rows n out)) (e ∙ ap (part_span x u) (add-one u)) b ∙
              (ap (λ (l : List FugueSpan). unit_at x u ∷ l) (v.list n k m) ∙
              sym (ap (λ (c : ℕ). reverse (tab (unit_at x) from c) ++ drop top (rows n o)) z ∙
              (ap (λ (l : List FugueSpan). l ++ drop top (rows n o)) (turn_back (unit_at x) from (u - from)) ∙
              ap (λ (c : ℕ). unit_at x c ∷ (reverse (tab (unit_at x) from (u - from)) ++ drop top (rows n o))) a)))))
              );
          kept = λ n k m. past_row (t - 1) y out r (omega (arith, v.sum, v.same, p, room)) w n (omega (arith, v.sum, p, m)) ∙ v.kept n k m;
        }

    pub down_done : to ≤ u → PutUnits top x from to o out
    down_done h =
        let e : u ≡ to = omega (arith, h, v.most) in
        record {
          list = λ n k m. ap (λ (c : ℕ). drop c (rows n out)) (let z : top - (to - from) ≡ t = omega (arith, v.sum, e) in z) ∙ (v.list n k m ∙ ap (λ (c : ℕ). reverse (tab (unit_at x) from (c - from)) ++ drop top (rows n o)) e);
          kept = v.kept;
        }

-- ---- the units, the last first

took : (d : Delete) (s : FugueSpan) → (delete_cut d s).to - (delete_cut d s).from ≤ d.len
unfolding took_of
took d s = took_most d s

after_len : (d : Delete) (s : FugueSpan) → (delete_after d s).len ≡ d.len - ((delete_cut d s).to - (delete_cut d s).from)
unfolding delete_after took_of
after_len d s = refl

tab-length : (f : ℕ → FugueSpan) (i n : ℕ) → length (tab f i n) ≡ n
unfolding tab
tab-length f i zero = refl
tab-length f i (suc n) = ap suc (tab-length f (suc i) n)

seen_cut : (at len v X : ℕ) → at + len ≤ v + X → at - min at v + (len - (min (at + len) v - min at v)) ≤ X
seen_cut at len v X h = omega arith

after_seen : (left : Delete) (x : FugueSpan) (X : ℕ) → left.at + left.len ≤ active_len x + X → (delete_after left x).at + (delete_after left x).len ≤ X
unfolding delete_after took_of delete_cut
after_seen left x X h = seen_cut left.at left.len (active_len x) X h

pub record Back (d : Delete) (n : ℕ) (s o : List ℕ) (left : Delete) (i : ℕ) (out : List ℕ) : Type 0 where
  pub low : i ≤ n
  pub can : CanDelete left
  pub few : left.len ≤ d.len
  pub same : length out ≡ length o
  pub seen : left.at + left.len ≤ shown (expand (drop i (rows n s)))
  pub list : reverse (expand (takes left (drop i (rows n s)))) ++ drop left.len (rows d.len out) ≡ reverse (expand (takes d (rows n s)))
  pub kept : drop (d.len * 72) out ≡ drop (d.len * 72) o

module _ (d : Delete) (n : ℕ) (s o : List ℕ) where
  pub back_start : Report d n s → Back d n s o d 0 o
  back_start w =
      record {
        low = omega arith;
        can = w.taken.can;
        few = omega arith;
        same = refl;
        seen = w.low;
        list = ap (λ (l : List FugueSpan). reverse (expand (takes d (rows n s))) ++ l) (row_none d.len o d.len (omega arith)) ∙ append-nil (reverse (expand (takes d (rows n s))));
        kept = refl;
      }

  module _ (left : Delete) (i : ℕ) (out : List ℕ) (v : Back d n s o left i out) where
    module _ (h : i < n) (ok : AllOk (rows n s)) where
      abbrev y : FugueSpan
      y = row_at s (i * 72)

      abbrev E : List FugueSpan
      E = drop (i + 1) (rows n s)

      fine : span_code y ≡ 0
      fine = row_ok n s i h ok

      then : takes left (drop i (rows n s)) ≡ part_of y (delete_cut left y).from (delete_cut left y).to ++ takes (delete_after left y) E
      unfolding takes
      then = ap (takes left) (row_drop n s i h)

      -- what waits is what comes later, and then the units of this row
      turned : reverse (expand (takes left (drop i (rows n s)))) ≡ reverse (expand (takes (delete_after left y) E)) ++ reverse (tab (unit_at y) (delete_cut left y).from ((delete_cut left y).to - (delete_cut left y).from))
      turned =
          ap (λ (l : List FugueSpan). reverse (expand l)) then ∙
          (ap reverse (expand-append (part_of y (delete_cut left y).from (delete_cut left y).to) (takes (delete_after left y) E) ∙ ap (λ (u : List FugueSpan). u ++ expand (takes (delete_after left y) E)) (part_expand y fine (delete_cut left y).from (delete_cut left y).to (delete_most left y))) ∙
          reverse-append (tab (unit_at y) (delete_cut left y).from ((delete_cut left y).to - (delete_cut left y).from)) (expand (takes (delete_after left y) E)))

      shown_now : shown (expand (drop i (rows n s))) ≡ active_len y + shown (expand E)
      unfolding expand
      shown_now = ap (λ (l : List FugueSpan). shown (expand l)) (row_drop n s i h) ∙ shown_row y E

      pub back_asks : (p : Part) → p ≡ delete_cut left y → d.len * 72 ≤ length o → (p.from ≤ p.to) × ((p.to ≤ len_span y) × ((p.to - p.from ≤ left.len) × (left.len * 72 ≤ length out)))
      back_asks p e room = (
        subst (λ (q : Part). q.from ≤ q.to) (sym e) (delete_low left y),
        (
          subst (λ (q : Part). q.to ≤ len_span y) (sym e) (delete_most left y),
          (subst (λ (q : Part). q.to - q.from ≤ left.len) (sym e) (took left y), omega (arith, v.few, v.same, room)),
        ),
      )

      pub back_turn : (p : Part) (next : Delete) (t : List ℕ) → p ≡ delete_cut left y → next ≡ delete_after left y → length t ≡ length out → d.len * 72 ≤ length o → PutUnits left.len y p.from p.to out t → Back d n s o next (i + 1) t
      back_turn p next t ep en len room w =
          let N = d.len in
          let q : PutUnits left.len y (delete_cut left y).from (delete_cut left y).to out t = subst (λ (z : Part). PutUnits left.len y z.from z.to out t) ep w in
          let b : N * 72 ≤ length out = omega (arith, v.same, room) in
          let nl : next.len ≡ left.len - ((delete_cut left y).to - (delete_cut left y).from) = ap (λ (z : Delete). z.len) en ∙ after_len left y in
          record {
            low = omega (arith, h);
            can = subst CanDelete (sym en) (can_after left y v.can);
            few = omega (arith, nl, v.few);
            same = len ∙ v.same;
            seen = subst (λ (z : Delete). z.at + z.len ≤ shown (expand E)) (sym en) (after_seen left y (shown (expand E)) (subst (λ (k : ℕ). left.at + left.len ≤ k) shown_now v.seen));
            list = ap₂ (λ (z : Delete) (c : ℕ). reverse (expand (takes z E)) ++ drop c (rows N t)) en nl ∙
                (ap (λ (l : List FugueSpan). reverse (expand (takes (delete_after left y) E)) ++ l) (q.list N b v.few) ∙
                (sym (append_assoc (reverse (expand (takes (delete_after left y) E))) (reverse (tab (unit_at y) (delete_cut left y).from ((delete_cut left y).to - (delete_cut left y).from))) (drop left.len (rows N out))) ∙
                (ap (λ (l : List FugueSpan). l ++ drop left.len (rows N out)) (sym turned) ∙ v.list)));
            kept = q.kept N b v.few ∙ v.kept;
          }

    pub back_done : n ≤ i → Listed (reverse (expand (touched (rows n s) d.at d.len))) d.len o out
    unfolding takes expand shown
    back_done h =
        let none = row_none n s i h in
        let z : left.at + left.len ≤ 0 = subst (λ (l : List FugueSpan). left.at + left.len ≤ shown (expand l)) none v.seen in
        let e : rows d.len out ≡ reverse (expand (touched (rows n s) d.at d.len)) =
        ap (λ (k : ℕ). drop k (rows d.len out)) (let q : 0 ≡ left.len = omega (arith, z) in q) ∙
        (ap (λ (l : List FugueSpan). reverse (expand (takes left l)) ++ drop left.len (rows d.len out)) (sym none) ∙
        (v.list ∙ ap (λ (l : List FugueSpan). reverse (expand l)) (sym (touched_law d (rows n s)))))
        in
        let m : d.len ≡ length (reverse (expand (touched (rows n s) d.at d.len))) = sym (length-rows d.len out) ∙ ap length e in
        record {
          number = m;
          list = ap (λ (a : ℕ). rows a out) (sym m) ∙ e;
          kept = ap (λ (a : ℕ). drop (a * 72) out) (sym m) ∙ (v.kept ∙ ap (λ (a : ℕ). drop (a * 72) o) m);
        }

-- ---- both ways

-- how many units a delete takes
taken_length : (d : Delete) (l : List FugueSpan) → AllOk l → d.at + d.len ≤ shown (expand l) → length (expand (takes d l)) ≡ d.len
unfolding takes expand shown AllOk
taken_length d [] ok h = omega arith
taken_length d (s ∷ l) ok h =
    let rec = taken_length (delete_after d s) l ok.1 (after_seen d s (shown (expand l)) (subst (λ (k : ℕ). d.at + d.len ≤ k) (shown_row s l) h)) in
    let a : length (expand (part_of s (delete_cut d s).from (delete_cut d s).to ++ takes (delete_after d s) l)) ≡ length (expand (part_of s (delete_cut d s).from (delete_cut d s).to)) + length (expand (takes (delete_after d s) l)) =
    ap length (expand-append (part_of s (delete_cut d s).from (delete_cut d s).to) (takes (delete_after d s) l)) ∙ length-append (expand (part_of s (delete_cut d s).from (delete_cut d s).to)) (expand (takes (delete_after d s) l))
    in
    let b : length (expand (part_of s (delete_cut d s).from (delete_cut d s).to)) ≡ (delete_cut d s).to - (delete_cut d s).from = ap length (part_expand s ok.0 (delete_cut d s).from (delete_cut d s).to (delete_most d s)) ∙ tab-length (unit_at s) (delete_cut d s).from ((delete_cut d s).to - (delete_cut d s).from) in
    omega (arith, rec, a, b, after_len d s, took d s)

module _ (d : Delete) (l : List FugueSpan) (reversed : Bool) where
  pieces_by : (t : Bool) → (reversed && ltb 1 d.len) ≡ t → pieces l d.at d.len reversed ≡ cond t (reverse (expand (touched l d.at d.len))) (touched l d.at d.len)
  unfolding pieces
  pieces_by t e = ap (λ (b : Bool). cond b (reverse (expand (touched l d.at d.len))) (touched l d.at d.len)) e

  pub pieces_back : reversed ≡ true → 1 < d.len → pieces l d.at d.len reversed ≡ reverse (expand (touched l d.at d.len))
  pieces_back e h = pieces_by true (ap₂ (λ (a b : Bool). a && b) e (lt-ltb 1 d.len h))

  pub pieces_single : reversed ≡ true → d.len ≤ 1 → pieces l d.at d.len reversed ≡ touched l d.at d.len
  pieces_single e h = pieces_by false (ap₂ (λ (a b : Bool). a && b) e (le-ltb 1 d.len h))

  pub pieces_forward : reversed ≡ false → pieces l d.at d.len reversed ≡ touched l d.at d.len
  pieces_forward e = pieces_by false (ap (λ (a : Bool). a && ltb 1 d.len) e)

pub back_length : (d : Delete) (n : ℕ) (s : List ℕ) (reversed : Bool) → Report d n s → reversed ≡ true → 1 < d.len → d.len ≡ length (pieces (rows n s) d.at d.len reversed)
back_length d n s reversed w e h =
    sym (ap length (pieces_back d (rows n s) reversed e h) ∙
    (length-reverse (expand (touched (rows n s) d.at d.len)) ∙ (ap (λ (l : List FugueSpan). length (expand l)) (touched_law d (rows n s)) ∙ taken_length d (rows n s) w.taken.each w.low)))
