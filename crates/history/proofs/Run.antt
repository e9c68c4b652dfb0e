-- The invariant of a history (§8): after every arrival the list is good, each unit is what its edit makes at its position in the units of its context alone,
-- and each delete took what its position gives there.
use Prim.Native.Nat.{ℕ, zero, suc, ◌+◌, ◌<◌, ◌≤◌}
use mathlib.Core.Path.{◌≡◌, refl, sym, ap, subst, ◌∙◌}
use mathlib.Core.Logic.{◌⊎◌, inl, inr}
use mathlib.Core.Bool.{Bool, true, false, not, true≢false}
use mathlib.Core.List.Memᴰ
use mathlib.Core.List.{List, [], map, Memᴰ}
use lib.ListN.{length}
use native.Mathlib.Omega.{arith}
use borrow.Author.Tests.{leb-true}
use Rattle.std.specs.Prelude.{None, Some}
use Rattle.span.specs.declared.chunk.RichtextChunk.{RichtextChunk}
use Rattle.span.specs.declared.ids.Id.{Id}
use Rattle.span.specs.Maybe.{OptId}
use Rattle.span.specs.declared.span.FugueSpan.{FugueSpan}
use Rattle.span.specs.Chunk.{len_of}
use Rattle.span.specs.Ids.{UNKNOWN_PEER, inc_id}
use Rattle.span.specs.Span.{new_span, shift, left_of}
use Rattle.span.specs.Units as Units
use Rattle.units.specs.Place.{last_id, front, origin_left, origin_right, with_origins, shown}
use Rattle.units.specs.Change.{with_state}
use Rattle.fugue.specs.Tree.{ref, ol, or}
use Rattle.fugue.proofs.Keys.{Key}
use Rattle.fugue.proofs.ScanPlace.{Mem}
use Rattle.fugue.proofs.Insert.{In, Good}
use Rattle.fugue.proofs.Past.{not_future, origin_left_in}
use Rattle.fugue.proofs.Rising.{keep_if_in}
use Rattle.fugue.proofs.Clocks.{cnt, Fits, Causal, in_range_lem}
use Rattle.fugue.proofs.Counting.{NoTwice}
use Rattle.history.specs.Edit.{Version, Act, Insert, Delete, Edit, size_of, Held, History}
use Rattle.history.specs.Version.{number}
use Rattle.history.specs.Checkout.{units_at}
use Rattle.history.specs.Checkout as Co
use Rattle.history.specs.Arrive.{act_took}
use Rattle.history.specs.Codes.{inside}
use Rattle.history.proofs.Plain.{plain, view, sees}
use Rattle.history.proofs.Context.{count, holds, clock, Known, before, holds_known, before_known, before_unknown, known_or, Natural, natural_inc, past_of_lem, in_past}

abbrev pub MemE : Edit → List Edit → Type 0
MemE e l = Memᴰ e l

abbrev pub MemH : Held → List Held → Type 0
MemH x l = Memᴰ x l

-- the counter of a unit, the first of an edit
abbrev pub num : FugueSpan → ℕ
num w = number w.id.counter

abbrev pub first : Edit → ℕ
first e = number e.id.counter

-- the span that an insert makes where it sees the list l
abbrev pub span_of : Edit → ℕ → RichtextChunk → List FugueSpan → FugueSpan
span_of e lam c l = with_origins (new_span e.id lam c) (origin_left e.at l) (origin_right e.at l)

-- w is unit k of what the edit e inserts
pub record Made (h : History) (e : Edit) (w : FugueSpan) : Type 0 where
  pub lam : ℕ
  pub c : RichtextChunk
  pub act : e.act ≡ Insert lam c
  pub k : ℕ
  pub small : k < len_of c
  pub is : plain w ≡ plain (Units.unit_at (span_of e lam c (before e h)) k)

module _ {h : History} {e : Edit} {w : FugueSpan} (m : Made h e w) where
  pub made_id : w.id ≡ inc_id e.id m.k
  unfolding plain with_state shift with_origins new_span
  made_id = ap (λ (z : FugueSpan). z.id) m.is

  made_left : ol w ≡ left_of (span_of e m.lam m.c (before e h)) m.k
  unfolding plain with_state shift with_origins new_span
  made_left = ap ol m.is

  pub made_first : m.k ≡ 0 → ol w ≡ origin_left e.at (before e h)
  unfolding left_of with_origins
  made_first d = made_left ∙ ap (left_of (span_of e m.lam m.c (before e h))) d

  pub made_later : (j : ℕ) → m.k ≡ suc j → ol w ≡ Some (inc_id e.id j)
  unfolding left_of with_origins new_span
  made_later j d = made_left ∙ ap (left_of (span_of e m.lam m.c (before e h))) d

  pub made_right : or w ≡ origin_right e.at (before e h)
  unfolding plain with_state shift with_origins new_span
  made_right = ap or m.is

  pub made_peer : w.id.peer ≡ e.id.peer
  unfolding inc_id
  made_peer = ap (λ (i : Id). i.peer) made_id

  pub made_natural : Natural e.id → Natural w.id
  made_natural n = subst Natural (sym made_id) (natural_inc e.id m.k n).0

  pub made_num : Natural e.id → num w ≡ first e + m.k
  made_num n = ap (λ (i : Id). number i.counter) made_id ∙ (natural_inc e.id m.k n).1

  pub made_small : m.k < size_of e.act
  unfolding size_of
  made_small = subst (λ (a : Act). m.k < size_of a) (sym m.act) m.small

pub record Src (done : List Edit) (h : History) (w : FugueSpan) : Type 0 where
  pub e : Edit
  pub is_in : MemE e done
  pub made : Made h e w

-- done: the edits that arrived, the last first, and a placeholder of n units before all
pub record Run (n : ℕ) (done : List Edit) (h : History) (key : OptId → Key) : Type 0 where
  pub causal : Causal (clock n) done
  pub natural : (e : Edit) → MemE e done → Natural e.id
  pub base : cnt (clock n) done UNKNOWN_PEER ≡ n
  pub holding : (e : Edit) → MemE e done → (p : ℕ) → holds n e p ≤ cnt (clock n) done p
  pub fit : (e : Edit) → MemE e done → inside e.act e.at (before e h) ≡ true
  pub good : Good key h.list
  pub deep : (w : FugueSpan) → Mem w h.list → length (key (ref w)) ≤ length h.list
  pub src : (w : FugueSpan) → Mem w h.list → Src done h w
  pub has : (e : Edit) (lam : ℕ) (c : RichtextChunk) → MemE e done → e.act ≡ Insert lam c → (k : ℕ) → k < len_of c → (w : FugueSpan) × Mem w h.list × (w.id ≡ inc_id e.id k)
  pub no_twice : NoTwice h.held
  pub tooks : (x : Held) → MemH x h.held → MemE x.edit done × Known x.edit × (x.took ≡ act_took x.edit.act x.edit (before x.edit h))
  pub has_t : (e : Edit) → MemE e done → Known e → (x : Held) × MemH x h.held × (x.edit ≡ e)

-- the position is inside what is visible
pub inside-at : (a : Act) (at : ℕ) (l : List FugueSpan) → inside a at l ≡ true → at ≤ shown l
unfolding inside
inside-at (Insert lam c) at l e = leb-true at (shown l) e
inside-at (Delete n reversed target) at l e = omega (arith, leb-true (at + n) (shown l) e)

module _ (n : ℕ) (done : List Edit) (h : History) (key : OptId → Key) (r : Run n done h key) where
  pub unit_natural : (w : FugueSpan) → Mem w h.list → Natural w.id
  unit_natural w m = let s : Src done h w = r.src w m in made_natural s.made (r.natural s.e s.is_in)

  -- a unit is below the count held for its peer
  pub bound : (w : FugueSpan) → Mem w h.list → num w < cnt (clock n) done w.id.peer
  bound w m =
      let s : Src done h w = r.src w m in
      let a : num w ≡ first s.e + s.made.k = made_num s.made (r.natural s.e s.is_in) in
      let b : s.made.k < size_of s.e.act = made_small s.made in
      subst (λ (p : ℕ). num w < cnt (clock n) done p) (sym (made_peer s.made)) (omega (arith, (in_range_lem (clock n) done r.causal s.e s.is_in).0))

  pub holder_small : (w : FugueSpan) → Mem w h.list → w.id.peer ≡ UNKNOWN_PEER → num w < n
  holder_small w m d = subst (λ (z : ℕ). num w < z) (ap (cnt (clock n) done) d ∙ r.base) (bound w m)

  -- a unit that a version shows
  pub seen_from : (v : Version) (w : FugueSpan) → Mem w (sees v h) → (a : FugueSpan) × Mem a h.list × (view v h.held a ≡ w) × (num a < count n v a.id.peer) × (not_future w ≡ true)
  unfolding view with_state
  seen_from v w m =
      let k : Mem w (map (view v h.held) h.list) × (not_future w ≡ true) = keep_if_in not_future (map (view v h.held) h.list) w m in
      let t : (a : FugueSpan) × Mem a h.list × (view v h.held a ≡ w) = Memᴰ.of_map (view v h.held) h.list k.0 in
      (t.0, t.1, t.2, in_past n v h.held t.0.id (unit_natural t.0 t.1) (holder_small t.0 t.1) (not-not w.status.future k.1 (ap (λ (z : FugueSpan). z.status.future) t.2)), k.1)
    where
      not-not : {b : Bool} (c : Bool) → not c ≡ true → b ≡ c → b ≡ false
      not-not true e d = absurd (true≢false (sym e))
      not-not false e d = d

  -- L8.2: the units of a context that fits are closed under origin left
  pub context_closed : (e : Edit) → Known e → Fits (clock n) done e → (v : FugueSpan) → Mem v (units_at e.context h) → v.status.future ≡ false
      → (ol v ≡ None) ⊎ ((w : FugueSpan) × Mem w (units_at e.context h) × (ref w ≡ ol v) × (w.status.future ≡ false))
  unfolding units_at Co.unit_at with_state
  context_closed e ke fits v m fut = top (Memᴰ.of_map co h.list m)
    where
      co : FugueSpan → FugueSpan
      co = Co.unit_at e.context h.held

      R : OptId → Type 0
      R x = (x ≡ None) ⊎ ((w : FugueSpan) × Mem w (map co h.list) × (ref w ≡ x) × (w.status.future ≡ false))

      found : (x : OptId) (w : FugueSpan) → Mem w h.list → ref w ≡ x → num w < count n e.context w.id.peer → R x
      found x w mw d k = inr (co w, Memᴰ.map co mw, d, past_of_lem n e.context h.held w.id (unit_natural w mw) k)

      of_known : (f : Edit) → MemE f done → Known f → first f < holds n e f.id.peer → R (origin_left f.at (sees f.context h))
      of_known f mf kf k = go (origin_left_in (sees f.context h) f.at (inside-at f.act f.at (sees f.context h)
          (subst (λ (z : List FugueSpan). inside f.act f.at z ≡ true) (before_known f h kf) (r.fit f mf))))
        where
          x : OptId
          x = origin_left f.at (sees f.context h)

          go : (x ≡ None) ⊎ ((w : FugueSpan) × Mem w (sees f.context h) × (ref w ≡ x) × (w.status.future ≡ false)) → R x
          go (inl d) = inl d
          go (inr t) =
              let s : (a : FugueSpan) × Mem a h.list × (view f.context h.held a ≡ t.0) × (num a < count n f.context a.id.peer) × (not_future t.0 ≡ true) = seen_from f.context t.0 t.1 in
              let b : holds n f s.0.id.peer ≤ holds n e s.0.id.peer = fits.closed f mf k s.0.id.peer in
              let c : num s.0 < count n f.context s.0.id.peer = s.3 in
              found x s.0 s.1 (view-ref s.0 t.0 s.2 ∙ t.2) (omega (arith, holds_known n f s.0.id.peer kf, holds_known n e s.0.id.peer ke))
            where
              view-ref : (a w : FugueSpan) → view f.context h.held a ≡ w → ref a ≡ ref w
              view-ref a w d = unfold view in ap ref d

      of_first : (f : Edit) → MemE f done → first f < holds n e f.id.peer → R (origin_left f.at (before f h))
      of_first f mf k = pick (known_or f)
        where
          none : (l : List FugueSpan) → l ≡ [] → origin_left f.at l ≡ None
          none l d = ap (origin_left f.at) d ∙ (unfold origin_left front last_id in refl)

          pick : Known f ⊎ (f.id.peer ≡ UNKNOWN_PEER) → R (origin_left f.at (before f h))
          pick (inl kf) = subst (λ (z : List FugueSpan). R (origin_left f.at z)) (sym (before_known f h kf)) (of_known f mf kf k)
          pick (inr d) = inl (none (before f h) (before_unknown f h d))

      of_later : (f : Edit) (u : FugueSpan) (j : ℕ) → MemE f done → Mem u h.list → ol u ≡ Some (inc_id f.id j) → u.id.peer ≡ f.id.peer → num u ≡ first f + suc j
          → num u < count n e.context u.id.peer → In (ol u) h.list → R (ol u)
      of_later f u j mf mu d p q k (inl x) = inl x
      of_later f u j mf mu d p q k (inr t) =
          let i : ref t.0 ≡ Some (inc_id f.id j) = t.2 ∙ d in
          let i2 : t.0.id ≡ inc_id f.id j = cc in
          let a : num t.0 ≡ first f + j = ap (λ (z : Id). number z.counter) i2 ∙ (natural_inc f.id j (r.natural f mf)).1 in
          let b : t.0.id.peer ≡ u.id.peer = ap (λ (z : Id). z.peer) i2 ∙ (unfold inc_id in sym p) in
          found (ol u) t.0 t.1 t.2 (subst (λ (z : ℕ). num t.0 < count n e.context z) (sym b) (omega arith))

      by_source : (u : FugueSpan) → Mem u h.list → num u < count n e.context u.id.peer → (s : Src done h u) → (k : ℕ) → s.made.k ≡ k → R (ol u)
      by_source u mu b s zero d =
          subst R (sym (made_first s.made d)) (of_first s.e s.is_in
          (let q : num u ≡ first s.e + s.made.k = made_num s.made (r.natural s.e s.is_in) in
          let p : u.id.peer ≡ s.e.id.peer = made_peer s.made in
          let b2 : num u < holds n e s.e.id.peer = subst (λ (z : ℕ). num u < z) (sym (holds_known n e s.e.id.peer ke)) (subst (λ (z : ℕ). num u < count n e.context z) p b) in
          omega arith))
      by_source u mu b s (suc j) d =
          of_later s.e u j s.is_in mu (made_later s.made j d) (made_peer s.made) (made_num s.made (r.natural s.e s.is_in) ∙ ap (λ (z : ℕ). first s.e + z) d) b (r.good.ol_in u mu)

      top : (a : FugueSpan) × Mem a h.list × (co a ≡ v) → R (ol v)
      top t = subst (λ (z : FugueSpan). R (ol z)) t.2
          (by_source t.0 t.1 (in_past n e.context h.held t.0.id (unit_natural t.0 t.1) (holder_small t.0 t.1) (ap (λ (z : FugueSpan). z.status.future) t.2 ∙ fut))
          (r.src t.0 t.1) (r.src t.0 t.1).made.k refl)
