-- the list put at a version in place: the units of a row pushed piece by piece, the rows one by one, and the whole call
use Prim.Native.Nat.{ℕ, zero, suc, ◌+◌, ◌-◌, ◌*◌, ◌<◌, ◌≤◌}
use mathlib.Core.Path.{◌≡◌, refl, sym, ap, ap₂, subst, ◌∙◌}
use mathlib.Core.Bool.{Bool}
use mathlib.Core.List.{List, [], ◌∷◌, ◌++◌, append_assoc, append-nil}
use native.Mathlib.Omega.{arith}
use lib.ListN.{length, take, drop, length-drop, take-append-drop}
use lib.Seq.{take-add, take_all}
use Rattle.span.specs.declared.span.FugueSpan.{FugueSpan}
use Rattle.span.specs.Span.{len_span, span_code, ids_ok}
use Rattle.span.specs.Units.{units_of, expand, Joined, join}
use Rattle.span.proofs.Unique.{AllUnits, join-expand, join_joined, expand-join}
use Rattle.span.proofs.ForRope.{units_length, span_units, list_units, joined_is}
use Rattle.store.specs.Row.{rows, row_at}
use Rattle.store.specs.Limits.{UNITS}
use Rattle.store.proofs.Laws.{length-rows}
use Rattle.units.specs.Change.{with_state}
use Rattle.rope.specs.Spans.{AllOk, Stored}
use Rattle.rope.proofs.Rights.{row_drop, row_none}
use Rattle.rope.proofs.Counts.{length_span}
use Rattle.rope.proofs.Streaming.{units_append}
use Rattle.rope.proofs.WellFormed.{formed_of}
use Rattle.history.specs.Edit.{Version, Held}
use Rattle.tracker.specs.Looks.{seen, Piece}
use Rattle.tracker.specs.Restate.{bare_span, bare_units, AllBare, Fits, Grown, Refine}
use Rattle.tracker.proofs.Cuts.{join_more}
use Rattle.tracker.proofs.Sights.{units_seen, seen_bare, bare_join, bare_few, row_bound}
use Rattle.tracker.proofs.Nexts.{seen-append}

take_units : (c : ℕ) (us : List FugueSpan) → AllUnits us → AllUnits (take c us)
unfolding AllUnits
take_units zero us a = tt
take_units (suc c) [] a = tt
take_units (suc c) (u ∷ us) a = (a.0, (a.1.0, take_units c us a.1.1))

-- ---- the units of a row

-- the first c units of a row are pushed on to the first w rows, which are k now
pub record Pushing (both : Bool) (a b : Version) (held : List Held) (w : ℕ) (row : FugueSpan) (s₀ : List ℕ) (k c : ℕ) (s : List ℕ) : Type 0 where
  pub low : c ≤ len_span row
  pub same : length s ≡ length s₀
  pub grown : Grown w (seen both a b held (take c (units_of row))) k s₀ s

module _ (both : Bool) (a b : Version) (held : List Held) (w : ℕ) (row : FugueSpan) (s₀ : List ℕ) (p : Fits w (seen both a b held (units_of row)) s₀) (ok : span_code row ≡ 0) where
  abbrev S : List FugueSpan → List FugueSpan
  S us = seen both a b held us

  abbrev P : List FugueSpan
  P = expand (rows w s₀)

  abbrev U : List FugueSpan
  U = units_of row

  part_units : (c : ℕ) → AllUnits (P ++ S (take c U))
  part_units c = units_append P (S (take c U)) (list_units (rows w s₀) p.joined) (units_seen both a b held (take c U) (take_units c U (span_units row ok)))

  part_fits : (c : ℕ) → length (join (P ++ S (take c U))) * 72 ≤ length s₀
  part_fits c =
      let e : (P ++ S (take c U)) ++ S (drop c U) ≡ P ++ S U =
      append_assoc P (S (take c U)) (S (drop c U)) ∙ ap (λ (us : List FugueSpan). P ++ us) (sym (seen-append both a b held (take c U) (drop c U)) ∙ ap S (take-append-drop c U))
      in
      let m : length (join ((P ++ S (take c U)) ++ S (drop c U))) ≡ length (join (P ++ S U)) = ap (λ (us : List FugueSpan). length (join us)) e in
      omega (arith, join_more (P ++ S (take c U)) (S (drop c U)), m, p.room)

  pub push_start : Pushing both a b held w row s₀ w 0 s₀
  unfolding seen
  push_start =
      record {
        low = omega arith;
        same = refl;
        grown = record { list = sym (ap join (append-nil P) ∙ join-expand (rows w s₀) p.joined); rest = λ n i h l. refl };
      }

  module _ (k c : ℕ) (s : List ℕ) (v : Pushing both a b held w row s₀ k c s) where
    now_units : expand (rows k s) ≡ P ++ S (take c U)
    now_units = ap expand v.grown.list ∙ expand-join (P ++ S (take c U)) (part_units c)

    now_joined : Joined (rows k s)
    now_joined = subst Joined (sym v.grown.list) (join_joined (P ++ S (take c U)) (part_units c))

    number : k ≡ length (join (P ++ S (take c U)))
    number = sym (length-rows k s) ∙ ap length v.grown.list

    module _ (x : FugueSpan) (q : Piece both a b held row c x) where
      next : expand (rows k s) ++ units_of x ≡ P ++ S (take (c + len_span x) U)
      next =
          ap₂ (λ (us vs : List FugueSpan). us ++ vs) now_units q.units ∙
          (append_assoc P (S (take c U)) (S (take (len_span x) (drop c U))) ∙
          ap (λ (us : List FugueSpan). P ++ us) (sym (seen-append both a b held (take c U) (take (len_span x) (drop c U))) ∙ ap S (sym (take-add c (len_span x) U))))

      pub push_fits : Fits k (units_of x) s
      push_fits =
          record {
            long = omega (arith, number, part_fits c, v.same);
            joined = now_joined;
            room = (let e : length (join (expand (rows k s) ++ units_of x)) ≡ length (join (P ++ S (take (c + len_span x) U))) = ap (λ (us : List FugueSpan). length (join us)) next in omega (arith, e, part_fits (c + len_span x), v.same));
          }

      pub push_next : (m : ℕ) (t : List ℕ) → length t ≡ length s → Grown k (units_of x) m s t → Pushing both a b held w row s₀ m (c + len_span x) t
      push_next m t len g =
          let d : k ≡ length (join (expand (rows k s))) = sym (length-rows k s) ∙ ap length (sym (join-expand (rows k s) now_joined)) in
          let e : m ≡ length (join (expand (rows k s) ++ units_of x)) = sym (length-rows m t) ∙ ap length g.list in
          let less : k ≤ m = omega (arith, d, e, join_more (expand (rows k s)) (units_of x)) in
          record {
            low = q.few;
            same = len ∙ v.same;
            grown = record {
              list = g.list ∙ ap join next;
              rest = λ n i h l. g.rest n i (let z : n * 72 ≤ length s = omega (arith, h, v.same) in z) l ∙ v.grown.rest n i h (let z : k ≤ i = omega (arith, l, less) in z);
            };
          }

    pub push_done : len_span row ≤ c → Grown w (S U) k s₀ s
    push_done h = subst (λ (us : List FugueSpan). Grown w (S us) k s₀ s) (take_all c U (let e = units_length row in omega (arith, e, h))) v.grown

-- ---- the rows

module _ (both : Bool) (a b : Version) (held : List Held) (k w i : ℕ) (goal : List FugueSpan) (s : List ℕ) (v : Refine both a b held k w i goal s) where
  abbrev T : List FugueSpan → List FugueSpan
  T us = seen both a b held us

  module _ (h : i < k) where
    abbrev r : FugueSpan
    r = row_at s (i * 72)

    abbrev D : List FugueSpan
    D = drop (i + 1) (rows k s)

    now : drop i (rows k s) ≡ r ∷ D
    now = row_drop k s i h

    j : Joined (r ∷ D)
    j = subst Joined now v.joined

    e : AllBare (r ∷ D)
    e = subst AllBare now v.bare

    refine_ok : span_code r ≡ 0
    unfolding Joined
    refine_ok = j.0

    joined_rest : Joined D
    unfolding Joined
    joined_rest = j.1.1

    bare_rest : AllBare D
    unfolding AllBare
    bare_rest = e.1

    all : expand (rows w s) ++ T (expand (r ∷ D)) ≡ goal
    all = ap (λ (l : List FugueSpan). expand (rows w s) ++ T (expand l)) (sym now) ∙ v.all

    bound : length (join (expand (rows w s) ++ T (units_of r))) + length D ≤ k
    bound =
        let m : length (join (expand (rows w s) ++ T (expand (r ∷ D)))) ≡ k = ap (λ (us : List FugueSpan). length (join us)) all ∙ v.count in
        omega (arith, row_bound both a b held (expand (rows w s)) r D j e, m)

    size : length D ≡ k - (i + 1)
    size = length-drop (i + 1) (rows k s) ∙ ap (λ (n : ℕ). n - (i + 1)) (length-rows k s)

    units : length (expand (drop i (rows k s))) ≡ len_span r + length (expand D)
    units = ap (λ (l : List FugueSpan). length (expand l)) now ∙ length_span r D

    refine_few : len_span r ≤ UNITS
    refine_few = omega (arith, units, v.few)

    refine_fits : Fits w (T (units_of r)) s
    refine_fits = record { long = omega (arith, v.long, v.low, v.most); joined = v.done; room = omega (arith, bound, v.long) }

    refine_next : (m : ℕ) (t : List ℕ) → length t ≡ length s → Grown w (T (units_of r)) m s t → Refine both a b held k m (i + 1) goal t
    refine_next m t len g =
        let each : AllUnits (expand (rows w s) ++ T (units_of r)) = units_append (expand (rows w s)) (T (units_of r)) (list_units (rows w s) v.done) (units_seen both a b held (units_of r) (span_units r refine_ok)) in
        let z : m ≡ length (join (expand (rows w s) ++ T (units_of r))) = sym (length-rows m t) ∙ ap length g.list in
        let low : m ≤ i + 1 = omega (arith, z, bound, size, h) in
        let rest : drop (i + 1) (rows k t) ≡ D = g.rest k (i + 1) v.long low in
        record {
          long = omega (arith, v.long, len);
          low = low;
          most = omega (arith, h);
          done = subst Joined (sym g.list) (join_joined (expand (rows w s) ++ T (units_of r)) each);
          joined = subst Joined (sym rest) joined_rest;
          bare = subst AllBare (sym rest) bare_rest;
          few = subst (λ (l : List FugueSpan). length (expand l) ≤ UNITS) (sym rest) (omega (arith, units, v.few));
          all = ap₂ (λ (us vs : List FugueSpan). us ++ vs) (ap expand g.list ∙ expand-join (expand (rows w s) ++ T (units_of r)) each) (ap (λ (l : List FugueSpan). T (expand l)) rest) ∙
              (append_assoc (expand (rows w s)) (T (units_of r)) (T (expand D)) ∙
              (ap (λ (us : List FugueSpan). expand (rows w s) ++ us) (sym (seen-append both a b held (units_of r) (expand D))) ∙ together));
          count = v.count;
        }
      where
        together : expand (rows w s) ++ T (units_of r ++ expand D) ≡ goal
        together = cons ∙ all
          where
            cons : expand (rows w s) ++ T (units_of r ++ expand D) ≡ expand (rows w s) ++ T (expand (r ∷ D))
            cons = ap (λ (us : List FugueSpan). expand (rows w s) ++ T us) (sym (expand_cons r D))
              where
                expand_cons : (x : FugueSpan) (l : List FugueSpan) → expand (x ∷ l) ≡ units_of x ++ expand l
                expand_cons x l = unfold expand in refl

    -- the same of the row that was read
    pub refine_asks : (row : FugueSpan) → row ≡ r → Fits w (T (units_of row)) s × (span_code row ≡ 0) × (len_span row ≤ UNITS)
    refine_asks row q = subst (λ (x : FugueSpan). Fits w (T (units_of x)) s × (span_code x ≡ 0) × (len_span x ≤ UNITS)) (sym q) (refine_fits, refine_ok, refine_few)

    pub refine_turn : (row : FugueSpan) → row ≡ r → (m : ℕ) (t : List ℕ) → length t ≡ length s → Grown w (T (units_of row)) m s t → Refine both a b held k m (i + 1) goal t
    refine_turn row q m t len g = refine_next m t len (subst (λ (x : FugueSpan). Grown w (T (units_of x)) m s t) q g)

  pub refine_done : k ≤ i → rows k s ≡ join goal
  unfolding seen expand
  refine_done h =
      let none : drop i (rows k s) ≡ [] = row_none k s i h in
      let e : expand (rows w s) ≡ goal = sym (append-nil (expand (rows w s))) ∙ (ap (λ (l : List FugueSpan). expand (rows w s) ++ T (expand l)) (sym none) ∙ v.all) in
      let f : rows w s ≡ join goal = joined_is (rows w s) goal v.done e in
      let n : k ≡ w = sym v.count ∙ (ap length (sym f) ∙ length-rows w s) in
      ap (λ (z : ℕ). rows z s) n ∙ f

-- ---- the call

bare_units_lem : (us : List FugueSpan) → AllUnits us → AllUnits (bare_units us)
unfolding AllUnits bare_units bare_span with_state span_code ids_ok
bare_units_lem [] a = tt
bare_units_lem (u ∷ us) a = (a.0, (a.1.0, bare_units_lem us a.1.1))

module _ (both : Bool) (a b : Version) (held : List Held) (n k : ℕ) (s : List ℕ) (st : Stored n s) (number : k ≡ length (join (seen both a b held (expand (rows n s))))) (room : k * 72 ≤ length s) where
  abbrev R : List FugueSpan
  R = expand (rows n s)

  abbrev B : List FugueSpan
  B = join (bare_units R)

  pub rows_fine : AllOk (rows n s)
  rows_fine = (formed_of (rows n s) st.formed).each

  each : AllUnits (bare_units R)
  each = bare_units_lem R (list_units (rows n s) (formed_of (rows n s) st.formed).joined)

  B-units : expand B ≡ bare_units R
  B-units = expand-join (bare_units R) each

  B-joined : Joined B
  B-joined = join_joined (bare_units R) each

  B-seen : seen both a b held (expand B) ≡ seen both a b held R
  B-seen = ap (seen both a b held) B-units ∙ seen_bare both a b held R

  bare_length : (us : List FugueSpan) → length (bare_units us) ≡ length us
  unfolding bare_units
  bare_length [] = refl
  bare_length (u ∷ us) = ap suc (bare_length us)

  module _ (m : ℕ) (t : List ℕ) (e : rows m t ≡ B) where
    pub no_more : m ≤ k
    no_more =
        let f : m ≡ length B = sym (length-rows m t) ∙ ap length e in
        let g : length (join (seen both a b held (expand B))) ≡ k = ap (λ (us : List FugueSpan). length (join us)) B-seen ∙ sym number in
        omega (arith, f, g, bare_few both a b held B B-joined (bare_join R))

    module _ (x : List ℕ) (len : length x ≡ length s) (up : drop (k - m) (rows k x) ≡ rows m t) where
      there : drop (k - m) (rows k x) ≡ B
      there = up ∙ e

      pub same_goal : seen both a b held (expand (drop (k - m) (rows k x))) ≡ seen both a b held R
      same_goal = ap (λ (l : List FugueSpan). seen both a b held (expand l)) there ∙ B-seen

      pub refine_start : Refine both a b held k 0 (k - m) (seen both a b held (expand (drop (k - m) (rows k x)))) x
      refine_start =
          record {
            long = omega (arith, room, len);
            low = omega arith;
            most = omega arith;
            done = none;
            joined = subst Joined (sym there) B-joined;
            bare = subst AllBare (sym there) (bare_join R);
            few = (let f : length (expand (drop (k - m) (rows k x))) ≡ length R = ap (λ (l : List FugueSpan). length (expand l)) there ∙ (ap length B-units ∙ bare_length R) in omega (arith, f, (formed_of (rows n s) st.formed).units));
            all = empty;
            count = ap (λ (us : List FugueSpan). length (join us)) same_goal ∙ sym number;
          }
        where
          none : Joined (rows 0 x)
          none = unfold rows Joined in tt

          empty : expand (rows 0 x) ++ seen both a b held (expand (drop (k - m) (rows k x))) ≡ seen both a b held (expand (drop (k - m) (rows k x)))
          empty = unfold rows expand in refl
