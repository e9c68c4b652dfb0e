-- the rows that a change would leave, counted with a queue: what holds between two rows, a row done, the end
use Prim.Native.Nat.{ℕ, ◌+◌, ◌-◌, ◌*◌, ◌<◌, ◌≤◌}
use mathlib.Core.Path.{◌≡◌, refl, sym, ap, ap₂, subst, ◌∙◌}
use mathlib.Core.List.{List, [], ◌∷◌, ◌++◌, append_assoc, append-nil}
use mathlib.Core.Logic.{◌⊎◌, inl, inr}
use native.Mathlib.Omega.{arith}
use lib.ListN.{length, take, drop, length-append}
use lib.Seq.{length-take-le}
use Rattle.span.specs.declared.span.FugueSpan.{FugueSpan}
use Rattle.span.specs.Units.{expand, Joined, join}
use Rattle.span.proofs.ForRope.{expand-append, joined_is}
use Rattle.store.specs.Row.{rows, row_at, PutRow}
use Rattle.store.proofs.Laws.{length-rows}
use Rattle.rope.specs.declared.change.Change.{Change}
use Rattle.rope.specs.Pieces.{after_of, pieces_of, all_pieces}
use Rattle.rope.specs.Applies.{Fit, AllFit, Grown, Kept, Counts}
use Rattle.rope.proofs.Rights.{row_drop, row_none}
use Rattle.rope.proofs.Borders.{split}
use Rattle.rope.proofs.Edges.{joined_right}
use Rattle.rope.proofs.Queue.{lt-or, rows_on, pieces_fine, grown_units, short}
use Rattle.rope.proofs.Working.{joined_grow, grown_some}

-- the last of m rows is put first
pub kept_last : (m : ℕ) (q r : List ℕ) (x : FugueSpan) → 1 < m → m * 72 ≤ length q → x ≡ row_at q ((m - 1) * 72) → PutRow 0 x q r → Kept m (m - 1) q r
unfolding rows
kept_last m q r x h room e put =
    record {
      most = omega arith;
      few = omega arith;
      last = λ k. omega arith;
      list = split m q (m - 1) (omega arith) ∙
          ap₂ (λ (z : FugueSpan) (l : List FugueSpan). take (m - 1) (rows m q) ++ z ∷ l) (sym e) (row_none m q (m - 1 + 1) (omega arith)) ∙
          ap (λ (l : List FugueSpan). take (m - 1) (rows m q) ++ l)
          (sym (ap (λ (k : ℕ). rows k r) (let z : m - (m - 1) ≡ 0 + 1 = omega arith in z) ∙ (put.list (0 + 1) (omega arith) (omega arith) ∙ rows_on 0 q x)));
    }

pub kept_all : (m : ℕ) (q : List ℕ) → m ≤ 1 → Kept m 0 q q
kept_all m q h =
    record {
      most = omega arith;
      few = omega arith;
      last = λ k. omega arith;
      list = ap (λ (k : ℕ). rows k q) (let z : m ≡ m - 0 = omega arith in z);
    }

pub record Tally (e : Change) (n : ℕ) (s : List ℕ) (left : Change) (i gone m : ℕ) (q : List ℕ) : Type 0 where
  pub front : List FugueSpan
  pub size : length front ≡ gone
  pub queue : 432 ≤ length q
  pub most : i ≤ n
  pub one : m ≤ 1
  pub sum : gone + m ≤ i * 3
  pub some : 0 < i → 0 < m
  pub joined : Joined (front ++ rows m q)
  pub all : expand (front ++ rows m q) ++ expand (all_pieces left (drop i (rows n s))) ≡ expand (all_pieces e (rows n s))
  pub fit : AllFit left (drop i (rows n s))

pub tally_start : (e : Change) (n : ℕ) (s q : List ℕ) → Counts e n s → 432 ≤ length q → Tally e n s e 0 0 0 q
unfolding rows Joined expand
tally_start e n s q a h =
    record {
      front = [];
      size = refl;
      queue = h;
      most = omega arith;
      one = omega arith;
      sum = omega arith;
      some = λ k. absurd (omega arith);
      joined = tt;
      all = refl;
      fit = a.fit;
    }

module _ (e : Change) (n : ℕ) (s : List ℕ) (left : Change) (i gone m : ℕ) (q : List ℕ) (v : Tally e n s left i gone m q) where
  pub tally_joined : Joined (rows m q)
  tally_joined = joined_right v.front (rows m q) v.joined

  module _ (h : i < n) where
    abbrev x : FugueSpan
    x = row_at s (i * 72)

    abbrev D : List FugueSpan
    D = drop (i + 1) (rows n s)

    fits : Fit left x × AllFit (after_of left x) D
    unfolding AllFit
    fits = subst (AllFit left) (row_drop n s i h) v.fit

    pub tally_fit : Fit left x
    tally_fit = fits.0

    pieces_now : all_pieces left (drop i (rows n s)) ≡ pieces_of left x ++ all_pieces (after_of left x) D
    unfolding all_pieces
    pieces_now = ap (all_pieces left) (row_drop n s i h)

    module _ (m2 k : ℕ) (q2 r : List ℕ) (g : Grown m (pieces_of left x) m2 q q2) (kp : Kept m2 k q2 r) where
      abbrev P : List FugueSpan
      P = pieces_of left x

      side : (0 < m) ⊎ (v.front ≡ [])
      side = go (lt-or 0 m)
        where
          none : (l : List FugueSpan) → length l ≡ 0 → l ≡ []
          none [] z = refl
          none (a ∷ l) z = absurd (omega arith)

          go : (0 < m) ⊎ (m ≤ 0) → (0 < m) ⊎ (v.front ≡ [])
          go (inl z) = inl z
          go (inr z) = last (lt-or 0 i)
            where
              last : (0 < i) ⊎ (i ≤ 0) → (0 < m) ⊎ (v.front ≡ [])
              last (inl y) = absurd (omega (arith, v.some y, z))
              last (inr y) = inr (none v.front (omega (arith, v.size, v.sum, y)))

      more : List FugueSpan
      more = v.front ++ take k (rows m2 q2)

      list : more ++ rows (m2 - k) r ≡ v.front ++ join (expand (rows m q) ++ expand P)
      unfolding more
      list = append_assoc v.front (take k (rows m2 q2)) (rows (m2 - k) r) ∙ ap (λ (l : List FugueSpan). v.front ++ l) (sym kp.list ∙ g.list)

      more_size : length more ≡ gone + k
      unfolding more
      more_size =
          length-append v.front (take k (rows m2 q2)) ∙
          ap₂ (λ (a b : ℕ). a + b) v.size (length-take-le k (rows m2 q2) (rw (length-rows m2 q2) kp.most))

      pub tally_turn : length r ≡ length q → Tally e n s (after_of left x) (i + 1) (gone + k) (m2 - k) r
      tally_turn kept =
          record {
            front = more;
            size = more_size;
            queue = omega (arith, v.queue, kept);
            most = omega (arith, h);
            one = kp.few;
            sum = (let a = short left x in omega (arith, v.sum, g.few, a, kp.most));
            some = λ z. kp.last (grown_some left x tally_fit m m2 q q2 g);
            joined = subst Joined (sym list) (joined_grow v.front P m q v.joined (pieces_fine left x tally_fit) side);
            all = ap (λ (l : List FugueSpan). expand l ++ expand (all_pieces (after_of left x) D)) list ∙
                (ap (λ (u : List FugueSpan). u ++ expand (all_pieces (after_of left x) D))
                (expand-append v.front (join (expand (rows m q) ++ expand P)) ∙
                (ap (λ (u : List FugueSpan). expand v.front ++ u) (grown_units (rows m q) P tally_joined (pieces_fine left x tally_fit)) ∙
                (sym (append_assoc (expand v.front) (expand (rows m q)) (expand P)) ∙
                ap (λ (u : List FugueSpan). u ++ expand P) (sym (expand-append v.front (rows m q)))))) ∙
                (append_assoc (expand (v.front ++ rows m q)) (expand P) (expand (all_pieces (after_of left x) D)) ∙
                (ap (λ (u : List FugueSpan). expand (v.front ++ rows m q) ++ u) (sym (ap expand pieces_now ∙ expand-append P (all_pieces (after_of left x) D))) ∙ v.all)));
            fit = fits.1;
          }

  module _ (h : n ≤ i) where
    pub tally_done : gone + m ≡ length (join (expand (all_pieces e (rows n s))))
    unfolding all_pieces expand
    tally_done =
        let done : v.front ++ rows m q ≡ join (expand (all_pieces e (rows n s))) =
        joined_is (v.front ++ rows m q) (expand (all_pieces e (rows n s))) v.joined
        (sym (append-nil (expand (v.front ++ rows m q))) ∙
        (ap (λ (l : List FugueSpan). expand (v.front ++ rows m q) ++ expand (all_pieces left l)) (sym (row_none n s i h)) ∙ v.all))
        in
        sym (length-append v.front (rows m q) ∙ ap₂ (λ (a b : ℕ). a + b) v.size (length-rows m q)) ∙ ap length done
