-- no span has an id of one before it: no id stands twice
use Prim.Native.Nat.{ℕ, zero, suc, ◌+◌, ◌*◌, ◌<◌, ◌≤◌}
use mathlib.Core.Path.{◌≡◌, refl, sym, ap, ap₂, subst, ◌∙◌}
use mathlib.Core.Bool.{Bool, true, false, not, ◌&&◌, cond, true≢false, false≢true}
use mathlib.Core.List.{List, [], ◌∷◌, ◌++◌, append_assoc, append-nil}
use native.Mathlib.Omega.{arith}
use lib.ListN.{take, drop}
use borrow.Author.Tests.{not-true}
use Rattle.span.specs.Maybe.{OptId}
use Rattle.std.specs.Prelude.{Some as At}
use Rattle.span.specs.declared.span.FugueSpan.{FugueSpan}
use Rattle.span.specs.Ids.{inc_id, same_opt}
use Rattle.span.proofs.Same.{same_opt_refl}
use Rattle.span.specs.Span.{len_span, span_code}
use Rattle.span.proofs.SpanLaws.{span_ok}
use Rattle.span.specs.Units.{tab, unit_at, units_of, expand}
use Rattle.span.proofs.ForRope.{expand-append}
use Rattle.store.specs.Row.{rows, row_at}
use Rattle.rope.specs.Maybe.{Offset}
use Rattle.std.specs.Prelude.{Some, None}
use Rattle.units.specs.Place.{mem_id, Distinct}
use Rattle.units.specs.Store.{distinct_ids}
use Rattle.rope.specs.Spans.{offset_of, AllOk, Fresh, holds_any, apart_rows}
use Rattle.rope.proofs.Offsets.{unit_id, unit_off, not_unit, inc_ne, covers_units}
use Rattle.rope.proofs.Lists.{or_left, or_right, or_both, and-true, mem_append, distinct_apart}
use Rattle.rope.proofs.Rights.{row_drop, row_take, row_none}
use Rattle.rope.proofs.Apart.{fresh_of, covered_unit, shared_of}

pub rows_take : (i n : ℕ) (s : List ℕ) → i ≤ n → rows i s ≡ take i (rows n s)
unfolding rows
rows_take zero n s h = refl
rows_take (suc i) zero s h = absurd (omega arith)
rows_take (suc i) (suc n) s h = ap (λ (l : List FugueSpan). row_at s 0 ∷ l) (rows_take i n (drop 72 s) (omega arith))

-- ---- the loop

module _ (n : ℕ) (s : List ℕ) (i : ℕ) where
  pub apart_turn : i < n → (t : Bool) → holds_any (rows i s) (row_at s (i * 72)) ≡ t → apart_rows (take i (rows n s)) (drop i (rows n s)) ≡ cond t false (apart_rows (take (i + 1) (rows n s)) (drop (i + 1) (rows n s)))
  unfolding apart_rows
  apart_turn h t e =
      ap (apart_rows (take i (rows n s))) (row_drop n s i h) ∙
      (ap (λ (b : Bool). cond b false (apart_rows (take i (rows n s) ++ (row_at s (i * 72) ∷ [])) (drop (i + 1) (rows n s)))) (ap (λ (l : List FugueSpan). holds_any l (row_at s (i * 72))) (sym (rows_take i n s (omega arith))) ∙ e) ∙
      ap (λ (l : List FugueSpan). cond t false (apart_rows l (drop (i + 1) (rows n s)))) (sym (row_take n s i h)))

  pub apart_done : n ≤ i → apart_rows (take i (rows n s)) (drop i (rows n s)) ≡ true
  unfolding apart_rows
  apart_done h = ap (apart_rows (take i (rows n s))) (row_none n s i h)

-- ---- the law

pub distinct_append : (A B : List FugueSpan) → Distinct A → Distinct B → ((o : OptId) → mem_id o A ≡ true → mem_id o B ≡ false) → Distinct (A ++ B)
unfolding Distinct mem_id
distinct_append [] B a b f = b
distinct_append (u ∷ A) B a b f = (
  mem_append (At u.id) A B ∙ or_both (mem_id (At u.id) A) (mem_id (At u.id) B) a.0 (f (At u.id) (or_left (same_opt (At u.id) (At u.id)) (mem_id (At u.id) A) (same_opt_refl (At u.id)))),
  distinct_append A B a.1 b (λ o m. f o (or_right (same_opt o (At u.id)) (mem_id o A) m)),
)

module _ (s : FugueSpan) (ok : span_code s ≡ 0) where
  later : (j i n : ℕ) → j < i → mem_id (At (inc_id s.id j)) (tab (unit_at s) i n) ≡ false
  unfolding tab mem_id
  later j i zero h = refl
  later j i (suc n) h =
      or_both (same_opt (At (inc_id s.id j)) (At (unit_at s i).id)) (mem_id (At (inc_id s.id j)) (tab (unit_at s) (suc i) n))
      (ap (λ (o : OptId). same_opt (At (inc_id s.id j)) o) (ap At (unit_id s i)) ∙ inc_ne s.id (len_span s) j i (span_ok s ok).own (λ e. omega arith))
      (later j (suc i) n (omega arith))

  tab_distinct : (j n : ℕ) → Distinct (tab (unit_at s) j n)
  unfolding tab Distinct
  tab_distinct j zero = tt
  tab_distinct j (suc n) = (ap (λ (o : OptId). mem_id o (tab (unit_at s) (suc j) n)) (ap At (unit_id s j)) ∙ later j (suc j) n (omega arith), tab_distinct (suc j) n)

  pub units_distinct : Distinct (units_of s)
  unfolding units_of
  units_distinct = tab_distinct 0 (len_span s)

  pub disjoint : (us : List FugueSpan) → Fresh s us → (o : OptId) → mem_id o us ≡ true → mem_id o (units_of s) ≡ false
  unfolding Fresh
  disjoint us new o m = pick (offset_of s o) refl
    where
      pick : (f : Offset) → offset_of s o ≡ f → mem_id o (units_of s) ≡ false
      pick None e = not_unit s ok o e
      pick (Some k) e = absurd (let w = unit_off s ok o k e in true≢false (sym m ∙ (ap (λ (r : OptId). mem_id r us) w.1 ∙ new k w.0)))

ok_snoc : (S : List FugueSpan) (v : FugueSpan) → AllOk S → span_code v ≡ 0 → AllOk (S ++ (v ∷ []))
unfolding AllOk
ok_snoc [] v a e = (e, tt)
ok_snoc (s ∷ S) v a e = (a.0, ok_snoc S v a.1 e)

one_more : (S : List FugueSpan) (v : FugueSpan) → expand (S ++ (v ∷ [])) ≡ expand S ++ units_of v
unfolding expand
one_more S v = expand-append S (v ∷ []) ∙ ap (λ (l : List FugueSpan). expand S ++ l) (append-nil (units_of v))

pub apart_distinct : (l S : List FugueSpan) → AllOk l → AllOk S → Distinct (expand S) → apart_rows S l ≡ true → Distinct (expand (S ++ l))
unfolding apart_rows AllOk
apart_distinct [] S okl ok_s d e = subst (λ (q : List FugueSpan). Distinct (expand q)) (sym (append-nil S)) d
apart_distinct (v ∷ l) S okl ok_s d e = go (λ a b c. apart_distinct l (S ++ (v ∷ [])) okl.1 a b c) (holds_any S v) refl e
  where
    go : (AllOk (S ++ (v ∷ [])) → Distinct (expand (S ++ (v ∷ []))) → apart_rows (S ++ (v ∷ [])) l ≡ true → Distinct (expand ((S ++ (v ∷ [])) ++ l)))
        → (t : Bool) → holds_any S v ≡ t → cond t false (apart_rows (S ++ (v ∷ [])) l) ≡ true → Distinct (expand (S ++ (v ∷ l)))
    go rec true p q = absurd (false≢true q)
    go rec false p q =
        subst (λ (z : List FugueSpan). Distinct (expand z)) (append_assoc S (v ∷ []) l)
        (rec (ok_snoc S v ok_s okl.0)
        (subst Distinct (sym (one_more S v)) (distinct_append (expand S) (units_of v) d (units_distinct v okl.0) (disjoint v okl.0 (expand S) (fresh_of S v ok_s okl.0 p))))
        q)

-- ---- the converse

-- an id of a span is one of its units'
own_unit : (v : FugueSpan) (l : List FugueSpan) → span_code v ≡ 0 → (k : ℕ) → k < len_span v → mem_id (At (inc_id v.id k)) (expand (v ∷ l)) ≡ true
unfolding expand
own_unit v l ok k h =
    mem_append (At (inc_id v.id k)) (units_of v) (expand l) ∙
    or_left (mem_id (At (inc_id v.id k)) (units_of v)) (mem_id (At (inc_id v.id k)) (expand l))
    (covers_units v ok (At (inc_id v.id k)) ∙ covered_unit v ok k h)

pub distinct_apart_rows : (l S : List FugueSpan) → AllOk l → AllOk S → Distinct (expand (S ++ l)) → apart_rows S l ≡ true
unfolding apart_rows AllOk
distinct_apart_rows [] S okl ok_s d = refl
distinct_apart_rows (v ∷ l) S okl ok_s d = go (holds_any S v) refl (distinct_apart_rows l (S ++ (v ∷ [])) okl.1 (ok_snoc S v ok_s okl.0) (subst (λ (z : List FugueSpan). Distinct (expand z)) (sym (append_assoc S (v ∷ []) l)) d))
  where
    go : (t : Bool) → holds_any S v ≡ t → apart_rows (S ++ (v ∷ [])) l ≡ true → cond t false (apart_rows (S ++ (v ∷ [])) l) ≡ true
    go false p rec = rec
    go true p rec =
        let w = shared_of S v ok_s okl.0 p in
        absurd (true≢false (sym (own_unit v l okl.0 w.k w.low) ∙ distinct_apart (At (inc_id v.id w.k)) (expand S) (expand (v ∷ l)) (subst Distinct (expand-append S (v ∷ l)) d) w.has))

-- the two tests agree
pub distinct_of : (us : List FugueSpan) → distinct_ids us ≡ true → Distinct us
unfolding distinct_ids Distinct
distinct_of [] e = tt
distinct_of (u ∷ us) e = let w = and-true (not (mem_id (At u.id) us)) (distinct_ids us) e in (not-true (mem_id (At u.id) us) w.0, distinct_of us w.1)

pub of_distinct : (us : List FugueSpan) → Distinct us → distinct_ids us ≡ true
unfolding distinct_ids Distinct
of_distinct [] d = refl
of_distinct (u ∷ us) d = ap₂ (λ (a b : Bool). not a && b) d.0 (of_distinct us d.1)

pub apart_same : (l : List FugueSpan) → AllOk l → apart_rows [] l ≡ distinct_ids (expand l)
unfolding AllOk expand Distinct
apart_same l ok = go (apart_rows [] l) refl (distinct_ids (expand l)) refl
  where
    go : (t : Bool) → apart_rows [] l ≡ t → (u : Bool) → distinct_ids (expand l) ≡ u → t ≡ u
    go true p true q = refl
    go false p false q = refl
    go true p false q = sym (of_distinct (expand l) (apart_distinct l [] ok tt tt p)) ∙ q
    go false p true q = sym p ∙ distinct_apart_rows l [] ok tt (distinct_of (expand l) q)
