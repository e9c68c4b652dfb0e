-- a change that goes through a list: what holds between two rows, a row done, the end
use Prim.Native.Nat.{ℕ, ◌+◌, ◌-◌, ◌*◌, ◌<◌, ◌≤◌}
use mathlib.Core.Path.{◌≡◌, refl, sym, ap, ap₂, subst, ◌∙◌}
use mathlib.Core.Bool.{Bool, true, false, cond}
use mathlib.Core.List.{List, [], ◌∷◌, ◌++◌, append_assoc, append-nil}
use mathlib.Core.Logic.{◌⊎◌, inl, inr}
use native.Mathlib.Omega.{arith}
use lib.ListN.{length, take, drop, length-append, length-drop}
use lib.Seq.{drop-drop}
use Rattle.span.specs.declared.span.FugueSpan.{FugueSpan}
use Rattle.span.specs.Span.{len_span, span_code, joins_span, merged_span}
use Rattle.span.proofs.SpanLaws.{span_ok}
use Rattle.span.proofs.Views.{len_pos}
use Rattle.span.specs.Units.{units_of, expand, Apart, Joined, join_on, join}
use Rattle.span.proofs.ForRope.{expand-append, joined_is}
use Rattle.store.specs.Row.{rows, row_at}
use Rattle.store.proofs.Laws.{length-rows}
use Rattle.rope.specs.declared.change.Change.{Change}
use Rattle.rope.specs.Spans.{AllOk}
use Rattle.rope.specs.Pieces.{cut_of, after_of, part_of, changed_of, pieces_of, all_pieces}
use Rattle.rope.specs.Applies.{Fit, AllFit, Grown, Applies, Moved}
use Rattle.rope.proofs.Rights.{row_drop, row_none}
use Rattle.rope.proofs.Borders.{merge_law, own_law, split}
use Rattle.rope.proofs.Edges.{joined_right}
use Rattle.rope.proofs.Streaming.{push_joined, push_units}
use Rattle.rope.proofs.Queue.{lt-or, part_some, changed_some, pieces_fine, grown_joined, grown_units}
use Rattle.rope.proofs.WellFormed.{few_rows}

-- ---- a push touches the last row only

-- the span y after the list B, whose last span is s: what comes of the last span
record One (A B : List FugueSpan) (y : FugueSpan) : Type 0 where
  init : List FugueSpan
  end : FugueSpan
  whole : join (expand (A ++ B) ++ units_of y) ≡ A ++ (init ++ end ∷ [])
  own : join (expand B ++ units_of y) ≡ init ++ end ∷ []

bare : (A : List FugueSpan) (y : FugueSpan) → join (expand A ++ (units_of y ++ expand [])) ≡ join (expand A ++ units_of y)
unfolding expand
bare A y = ap (λ (u : List FugueSpan). join (expand A ++ u)) (append-nil (units_of y))

module _ (A I : List FugueSpan) (s y : FugueSpan) (j : Joined (A ++ (I ++ s ∷ []))) (ok : span_code y ≡ 0) where
  j1 : Joined ((A ++ I) ++ s ∷ [])
  j1 = subst Joined (sym (append_assoc A I (s ∷ []))) j

  j2 : Joined (I ++ s ∷ [])
  j2 = joined_right A (I ++ s ∷ []) j

  again : join (expand ((A ++ I) ++ s ∷ []) ++ units_of y) ≡ join (expand (A ++ (I ++ s ∷ [])) ++ units_of y)
  again = ap (λ (l : List FugueSpan). join (expand l ++ units_of y)) (append_assoc A I (s ∷ []))

  grow_one : One A (I ++ s ∷ []) y
  unfolding Apart
  grow_one = go (joins_span s y) refl
    where
      go : (t : Bool) → joins_span s y ≡ t → One A (I ++ s ∷ []) y
      go true e =
          record {
            init = I;
            end = merged_span s y;
            whole = sym (sym (append_assoc A I (merged_span s y ∷ [])) ∙ (merge_law (A ++ I) s y [] j1 ok tt e ∙ (bare ((A ++ I) ++ s ∷ []) y ∙ again)));
            own = sym (merge_law I s y [] j2 ok tt e ∙ bare (I ++ s ∷ []) y);
          }
      go false e =
          record {
            init = I ++ s ∷ [];
            end = y;
            whole = sym (sym (append_assoc A (I ++ s ∷ []) (y ∷ [])) ∙
                (ap (λ (l : List FugueSpan). l ++ y ∷ []) (sym (append_assoc A I (s ∷ []))) ∙ (own_law (A ++ I) s y [] j1 ok tt e ∙ (bare ((A ++ I) ++ s ∷ []) y ∙ again))));
            own = sym (own_law I s y [] j2 ok tt e ∙ bare (I ++ s ∷ []) y);
          }

-- and so do many
grow_all : (P A I : List FugueSpan) (s : FugueSpan) → Joined (A ++ (I ++ s ∷ [])) → AllOk P → join (expand (A ++ (I ++ s ∷ [])) ++ expand P) ≡ A ++ join (expand (I ++ s ∷ []) ++ expand P)
unfolding AllOk expand
grow_all [] A I s j ok =
    ap join (append-nil (expand (A ++ (I ++ s ∷ [])))) ∙
    (sym (joined_is (A ++ (I ++ s ∷ [])) (expand (A ++ (I ++ s ∷ []))) j refl) ∙
    ap (λ (l : List FugueSpan). A ++ l) (joined_is (I ++ s ∷ []) (expand (I ++ s ∷ []) ++ []) (joined_right A (I ++ s ∷ []) j) (sym (append-nil (expand (I ++ s ∷ []))))))
grow_all (y ∷ P) A I s j ok =
    let B = I ++ s ∷ [] in
    let o = grow_one A I s y j ok.0 in
    let jn : Joined (A ++ (o.init ++ o.end ∷ [])) = subst Joined o.whole (push_joined (A ++ B) y j ok.0) in
    let u1 : expand (A ++ (o.init ++ o.end ∷ [])) ≡ expand (A ++ B) ++ units_of y = ap expand (sym o.whole) ∙ push_units (A ++ B) y j ok.0 in
    let u2 : expand (o.init ++ o.end ∷ []) ≡ expand B ++ units_of y = ap expand (sym o.own) ∙ push_units B y (joined_right A B j) ok.0 in
    ap join (sym (append_assoc (expand (A ++ B)) (units_of y) (expand P))) ∙
    (ap (λ (u : List FugueSpan). join (u ++ expand P)) (sym u1) ∙
    (grow_all P A o.init o.end jn ok.1 ∙
    (ap (λ (u : List FugueSpan). A ++ join (u ++ expand P)) u2 ∙
    ap (λ (u : List FugueSpan). A ++ join u) (append_assoc (expand B) (units_of y) (expand P)))))

-- rows that wait behind written ones, with pieces pushed on
pub joined_grow : (A P : List FugueSpan) (m : ℕ) (q : List ℕ) → Joined (A ++ rows m q) → AllOk P → (0 < m) ⊎ (A ≡ []) → Joined (A ++ join (expand (rows m q) ++ expand P))
joined_grow A P m q j ok (inl h) =
    let is : rows m q ≡ take (m - 1) (rows m q) ++ row_at q ((m - 1) * 72) ∷ [] =
    split m q (m - 1) (omega arith) ∙ ap (λ (b : List FugueSpan). take (m - 1) (rows m q) ++ row_at q ((m - 1) * 72) ∷ b) (row_none m q (m - 1 + 1) (omega arith))
    in
    let j1 : Joined (A ++ (take (m - 1) (rows m q) ++ row_at q ((m - 1) * 72) ∷ [])) = subst (λ (l : List FugueSpan). Joined (A ++ l)) is j in
    subst (λ (l : List FugueSpan). Joined (A ++ join (expand l ++ expand P))) (sym is)
    (subst Joined (grow_all P A (take (m - 1) (rows m q)) (row_at q ((m - 1) * 72)) j1 ok)
    (grown_joined (A ++ (take (m - 1) (rows m q) ++ row_at q ((m - 1) * 72) ∷ [])) P j1 ok))
joined_grow A P m q j ok (inr e) =
    subst (λ (l : List FugueSpan). Joined (l ++ join (expand (rows m q) ++ expand P))) (sym e) (grown_joined (rows m q) P (joined_right A (rows m q) j) ok)

-- ---- each span has a piece

module _ (e : Change) (s : FugueSpan) (ok : span_code s ≡ 0) where
  abbrev F : List FugueSpan
  F = part_of s 0 (cut_of e s).from

  abbrev M : List FugueSpan
  M = changed_of e s (cut_of e s).from (cut_of e s).to

  abbrev E : List FugueSpan
  E = part_of s (cut_of e s).to (len_span s)

  sum : length (F ++ (M ++ E)) ≡ length F + (length M + length E)
  sum = length-append F (M ++ E) ∙ ap (λ (k : ℕ). length F + k) (length-append M E)

  pub pieces_some : 0 < length (pieces_of e s)
  unfolding pieces_of
  pieces_some = go (lt-or 0 (cut_of e s).from) (lt-or (cut_of e s).from (cut_of e s).to)
    where
      p : 0 < len_span s
      p = len_pos s.content (span_ok s ok).form

      go : (0 < (cut_of e s).from) ⊎ ((cut_of e s).from ≤ 0) → ((cut_of e s).from < (cut_of e s).to) ⊎ ((cut_of e s).to ≤ (cut_of e s).from) → 0 < length (F ++ (M ++ E))
      go (inl h) k = let z : length F ≡ 1 = ap length (part_some s 0 (cut_of e s).from h) in omega (arith, sum, z)
      go (inr h) (inl k) = let z : length M ≡ 1 = ap length (changed_some s (cut_of e s).from (cut_of e s).to e k) in omega (arith, sum, z)
      go (inr h) (inr k) = let z : length E ≡ 1 = ap length (part_some s (cut_of e s).to (len_span s) (omega (arith, p, h, k))) in omega (arith, sum, z)

pieces_most : (e : Change) (l : List FugueSpan) → AllFit e l → length l ≤ length (all_pieces e l)
unfolding AllFit all_pieces
pieces_most e [] f = omega arith
pieces_most e (s ∷ l) f =
    let a = pieces_some e s f.0.fine in
    let b = pieces_most (after_of e s) l f.1 in
    let k : length (pieces_of e s ++ all_pieces (after_of e s) l) ≡ length (pieces_of e s) + length (all_pieces (after_of e s) l) = length-append (pieces_of e s) (all_pieces (after_of e s) l) in
    omega arith

join_some : (us : List FugueSpan) → 0 < length us → 0 < length (join us)
unfolding join join_on
join_some [] h = absurd (omega arith)
join_some (u ∷ us) h = go (join us)
  where
    go : (l : List FugueSpan) → 0 < length (join_on u l)
    go [] = omega arith
    go (s ∷ l) = pick (joins_span u s)
      where
        pick : (t : Bool) → 0 < length (cond t (merged_span u s ∷ l) (u ∷ (s ∷ l)))
        pick true = omega arith
        pick false = omega arith

-- a row leaves rows that wait
pub grown_some : (e : Change) (x : FugueSpan) → Fit e x → (m k : ℕ) (s t : List ℕ) → Grown m (pieces_of e x) k s t → 0 < k
grown_some e x f m k s t g =
    let P = pieces_of e x in
    let a : k ≡ length (join (expand (rows m s) ++ expand P)) = sym (length-rows k t) ∙ ap length g.list in
    let b = few_rows P (pieces_fine e x f) in
    let d = pieces_some e x f.fine in
    let z : length (expand (rows m s) ++ expand P) ≡ length (expand (rows m s)) + length (expand P) = length-append (expand (rows m s)) (expand P) in
    let y = join_some (expand (rows m s) ++ expand P) (omega (arith, b, d, z)) in
    omega (arith, a, y)

-- ---- between two rows

pub record Work (e : Change) (n : ℕ) (s0 : List ℕ) (left : Change) (i w m : ℕ) (s q : List ℕ) : Type 0 where
  pub long : n * 72 ≤ length s
  pub same : length s ≡ length s0
  pub queue : 432 ≤ length q
  pub low : w ≤ i
  pub most : i ≤ n
  pub some : 0 < i → 0 < m
  pub joined : Joined (rows w s ++ rows m q)
  pub to_come : drop i (rows n s) ≡ drop i (rows n s0)
  pub all : expand (rows w s ++ rows m q) ++ expand (all_pieces left (drop i (rows n s0))) ≡ expand (all_pieces e (rows n s0))
  pub fit : AllFit left (drop i (rows n s0))
  pub few : m + length (all_pieces left (drop i (rows n s0))) ≤ n - i + 3
  pub rest : length (all_pieces left (drop i (rows n s0))) ≤ n - i + 2

pub work_start : (e : Change) (n : ℕ) (s q : List ℕ) → Applies e n s → 432 ≤ length q → Work e n s e 0 0 0 s q
unfolding rows Joined expand
work_start e n s q a h =
    record {
      long = a.long;
      same = refl;
      queue = h;
      low = omega arith;
      most = omega arith;
      some = λ k. absurd (omega arith);
      joined = tt;
      to_come = refl;
      all = refl;
      fit = a.fit;
      few = omega (arith, a.cuts);
      rest = omega (arith, a.cuts);
    }

module _ (e : Change) (n : ℕ) (s0 : List ℕ) (left : Change) (i w m : ℕ) (s q : List ℕ) (v : Work e n s0 left i w m s q) where
  abbrev R : List FugueSpan
  R = drop i (rows n s0)

  pub wait_few : m ≤ 3
  wait_few = omega (arith, v.few, pieces_most left R v.fit, length-drop i (rows n s0), length-rows n s0)

  pub wait_joined : Joined (rows m q)
  wait_joined = joined_right (rows w s) (rows m q) v.joined

  module _ (h : i < n) where
    abbrev x : FugueSpan
    x = row_at s (i * 72)

    abbrev D : List FugueSpan
    D = drop (i + 1) (rows n s0)

    later : drop (i + 1) (rows n s) ≡ D
    later = sym (drop-drop 1 i (rows n s)) ∙ (ap (drop 1) v.to_come ∙ drop-drop 1 i (rows n s0))

    now : R ≡ x ∷ D
    now = sym v.to_come ∙ (row_drop n s i h ∙ ap (λ (l : List FugueSpan). x ∷ l) later)

    fits : Fit left x × AllFit (after_of left x) D
    unfolding AllFit
    fits = subst (AllFit left) now v.fit

    pub row_fit : Fit left x
    row_fit = fits.0

    pieces_now : all_pieces left R ≡ pieces_of left x ++ all_pieces (after_of left x) D
    unfolding all_pieces
    pieces_now = ap (all_pieces left) now

    counts : length (all_pieces left R) ≡ length (pieces_of left x) + length (all_pieces (after_of left x) D)
    counts = ap length pieces_now ∙ length-append (pieces_of left x) (all_pieces (after_of left x) D)

    module _ (m2 k : ℕ) (q2 t r : List ℕ) (g : Grown m (pieces_of left x) m2 q q2) (mv : Moved w m2 k s q2 t r) where
      abbrev P : List FugueSpan
      P = pieces_of left x

      side : (0 < m) ⊎ (rows w s ≡ [])
      unfolding rows
      side = go (lt-or 0 i)
        where
          go : (0 < i) ⊎ (i ≤ 0) → (0 < m) ⊎ (rows w s ≡ [])
          go (inl z) = inl (v.some z)
          go (inr z) = inr (ap (λ (k : ℕ). rows k s) (let y : w ≡ 0 = omega (arith, v.low, z) in y))

      list : rows (w + k) t ++ rows (m2 - k) r ≡ rows w s ++ join (expand (rows m q) ++ expand P)
      list = mv.list ∙ ap (λ (l : List FugueSpan). rows w s ++ l) g.list

      pub waits : 0 < m2
      waits = grown_some left x row_fit m m2 q q2 g

      pub work_turn : length t ≡ length s → length r ≡ length q → Work e n s0 (after_of left x) (i + 1) (w + k) (m2 - k) t r
      work_turn kept kept2 =
          record {
            long = omega (arith, v.long, kept);
            same = kept ∙ v.same;
            queue = omega (arith, v.queue, kept2);
            low = omega (arith, v.low, mv.one);
            most = omega (arith, h);
            some = λ z. mv.last waits;
            joined = subst Joined (sym list) (joined_grow (rows w s) P m q v.joined (pieces_fine left x row_fit) side);
            to_come = mv.rest n (i + 1) v.long (omega (arith, v.low)) ∙ later;
            all = ap (λ (l : List FugueSpan). expand l ++ expand (all_pieces (after_of left x) D)) list ∙
                (ap (λ (u : List FugueSpan). u ++ expand (all_pieces (after_of left x) D))
                (expand-append (rows w s) (join (expand (rows m q) ++ expand P)) ∙
                (ap (λ (u : List FugueSpan). expand (rows w s) ++ u) (grown_units (rows m q) P wait_joined (pieces_fine left x row_fit)) ∙
                (sym (append_assoc (expand (rows w s)) (expand (rows m q)) (expand P)) ∙
                ap (λ (u : List FugueSpan). u ++ expand P) (sym (expand-append (rows w s) (rows m q)))))) ∙
                (append_assoc (expand (rows w s ++ rows m q)) (expand P) (expand (all_pieces (after_of left x) D)) ∙
                (ap (λ (u : List FugueSpan). expand (rows w s ++ rows m q) ++ u) (sym (ap expand pieces_now ∙ expand-append P (all_pieces (after_of left x) D))) ∙ v.all)));
            fit = fits.1;
            few = few2 (lt-or 1 m2);
            rest = omega (arith, v.rest, counts, pieces_some left x row_fit.fine, h);
          }
        where
          few2 : (1 < m2) ⊎ (m2 ≤ 1) → m2 - k + length (all_pieces (after_of left x) D) ≤ n - (i + 1) + 3
          few2 (inl z) = let y : k ≡ 1 = mv.next z in omega (arith, v.few, counts, g.few, h, y)
          few2 (inr z) = omega (arith, v.rest, counts, pieces_some left x row_fit.fine, h, z)

  module _ (h : n ≤ i) where
    done : rows w s ++ rows m q ≡ join (expand (all_pieces e (rows n s0)))
    unfolding all_pieces expand
    done =
        joined_is (rows w s ++ rows m q) (expand (all_pieces e (rows n s0))) v.joined
        (sym (append-nil (expand (rows w s ++ rows m q))) ∙
        (ap (λ (l : List FugueSpan). expand (rows w s ++ rows m q) ++ expand (all_pieces left l)) (sym (row_none n s0 i h)) ∙ v.all))

    pub end_room : length (join (expand (all_pieces e (rows n s0)))) * 72 ≤ length s0 → (w + m) * 72 ≤ length s
    end_room room =
        let z : w + m ≡ length (join (expand (all_pieces e (rows n s0)))) = sym (length-append (rows w s) (rows m q) ∙ ap₂ (λ (a b : ℕ). a + b) (length-rows w s) (length-rows m q)) ∙ ap length done in
        omega (arith, z, room, v.same)

    pub work_done : (t : List ℕ) → rows (w + m) t ≡ rows w s ++ rows m q → rows (w + m) t ≡ join (expand (all_pieces e (rows n s0)))
    work_done t f = f ∙ done
