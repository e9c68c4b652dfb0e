-- The list that is the walk, with the keys (`Good`, §3), and that 01's rule as computed is the rule as stated (L5.1).
use Prim.Native.Nat.{ℕ, ◌<◌}
use mathlib.Core.Path.{◌≡◌, refl, sym, ap, ap₂, subst, subst₂, ◌∙◌}
use mathlib.Core.Logic.{◌⊎◌, inl, inr}
use mathlib.Core.Bool.{Bool, true, false, cond}
use mathlib.Core.List.{List, []}
use lib.Dec.{eqb, ltb}
use borrow.Author.Tests.{lt-ltb, le-ltb, eq-eqb, ne_eqb}
use native.Mathlib.Omega.{arith}
use Rattle.std.specs.Prelude.{None}
use Rattle.span.specs.declared.ids.Id.{Id}
use Rattle.span.specs.Maybe.{OptId}
use Rattle.span.specs.declared.span.FugueSpan.{FugueSpan}
use Rattle.span.specs.Ids.{same_opt}
use Rattle.units.specs.declared.place.Verdict.{Verdict}
use Rattle.units.specs.declared.place.Verdict.TheVariants.{Stop, Clear, Keep}
use Rattle.units.specs.Place.{mem_id, has_ol, pos_of, pr_pos, parent_right, by_pos, sibling, verdict}
use Rattle.fugue.specs.Tree.{ref, ol, or, pr_of}
use Rattle.fugue.proofs.Order.{Tri, tlt, teq, tgt}
use Rattle.fugue.proofs.Keys.{Key, Lt, tri}
use Rattle.fugue.proofs.Hang.{Hung, PLt, last_of_lem, last_of}
use Rattle.fugue.proofs.ScanPlace.{Mem, Sorted, Says, s_hold, s_stopeq, s_cleareq, s_cleargt, s_keep, s_stop}
use Rattle.fugue.proofs.Tests.{Test, pass, fail, ltb_test, same_opt_test, mem_id_test, has_ol_test, pos_none, pos_in, pos_mono}

-- Nothing, or a unit of the list
abbrev pub In : OptId → List FugueSpan → Type 0
In r l = (r ≡ None) ⊎ ((w : FugueSpan) × Mem w l × (ref w ≡ r))

-- A list that is the walk, with the keys.
pub record Good (key : OptId → Key) (l : List FugueSpan) : Type 0 where
  pub none_key : key None ≡ []
  pub sorted : Sorted key l
  pub wf : (v : FugueSpan) → Mem v l → Hung key (ol v) v.id (pr_of l v)
  pub ol_in : (v : FugueSpan) → Mem v l → In (ol v) l
  pub or_in : (v : FugueSpan) → Mem v l → In (or v) l
  pub rooted : (v : FugueSpan) → Mem v l → Lt (key (ref v)) [] → ⊥

pub pr_in_lem : (key : OptId → Key) (l : List FugueSpan) → Sorted key l → (x o : OptId) → In (parent_right l x o) l
unfolding parent_right
pr_in_lem key l srt x o = go (has_ol_test key l o x srt)
  where
    go : Test (has_ol l o x) ((w : FugueSpan) × Mem w l × (ref w ≡ o) × (ol w ≡ x)) → In (cond (has_ol l o x) o None) l
    go (pass e t) = inr (t.0, t.1, t.2 ∙ ap (λ (b : Bool). cond b o None) (sym e))
    go (fail e n) = inl (ap (λ (b : Bool). cond b o None) e)

data Cmp (key : OptId → Key) (l : List FugueSpan) (a b : OptId) : Type 0 where
  c_lt : PLt key a b → ltb (pos_of l a) (pos_of l b) ≡ true → Cmp key l a b
  c_eq : a ≡ b → ltb (pos_of l a) (pos_of l b) ≡ false → eqb (pos_of l a) (pos_of l b) ≡ true → Cmp key l a b
  c_gt : PLt key b a → ltb (pos_of l a) (pos_of l b) ≡ false → eqb (pos_of l a) (pos_of l b) ≡ false → Cmp key l a b

module _ (key : OptId → Key) (l : List FugueSpan) (g : Good key l) where
  ref_inj : (u w : FugueSpan) → Mem u l → Mem w l → key (ref u) ≡ key (ref w) → ref u ≡ ref w
  ref_inj u w mu mw e = sym (last_of_lem key (g.wf u mu)) ∙ (ap (last_of None) e ∙ last_of_lem key (g.wf w mw))

  cmp2 : (u w : FugueSpan) → Mem u l → Mem w l → Cmp key l (ref u) (ref w)
  cmp2 u w mu mw = go (tri (key (ref u)) (key (ref w)))
    where
      go : Tri (Lt (key (ref u)) (key (ref w))) (key (ref u) ≡ key (ref w)) (Lt (key (ref w)) (key (ref u))) → Cmp key l (ref u) (ref w)
      go (tlt k) = c_lt k (lt-ltb (pos_of l (ref u)) (pos_of l (ref w)) (pos_mono key l g.sorted u w mu mw k))
      go (teq e) =
          let p : pos_of l (ref u) ≡ pos_of l (ref w) = ap (pos_of l) (ref_inj u w mu mw e) in
          c_eq (ref_inj u w mu mw e) (le-ltb (pos_of l (ref u)) (pos_of l (ref w)) (omega arith)) (eq-eqb (pos_of l (ref u)) (pos_of l (ref w)) p)
      go (tgt k) =
          let p : pos_of l (ref w) < pos_of l (ref u) = pos_mono key l g.sorted w u mw mu k in
          c_gt k (le-ltb (pos_of l (ref u)) (pos_of l (ref w)) (omega arith)) (ne_eqb (pos_of l (ref u)) (pos_of l (ref w)) (λ (d : pos_of l (ref u) ≡ pos_of l (ref w)). omega arith))

  cmp : (a b : OptId) → In a l → In b l → Cmp key l a b
  cmp a b (inl ea) (inl eb) = subst₂ (Cmp key l) (sym ea) (sym eb)
      (c_eq refl (le-ltb (pos_of l None) (pos_of l None) (omega arith)) (eq-eqb (pos_of l None) (pos_of l None) refl))
  cmp a b (inl ea) (inr t) =
      let p : pos_of l (ref t.0) < pos_of l None = subst (λ (n : ℕ). pos_of l (ref t.0) < n) (sym (pos_none l)) (pos_in l t.0 t.1) in
      subst₂ (Cmp key l) (sym ea) t.2 (c_gt tt (le-ltb (pos_of l None) (pos_of l (ref t.0)) (omega arith)) (ne_eqb (pos_of l None) (pos_of l (ref t.0)) (λ (d : pos_of l None ≡ pos_of l (ref t.0)). omega arith)))
  cmp a b (inr t) (inl eb) =
      let p : pos_of l (ref t.0) < pos_of l None = subst (λ (n : ℕ). pos_of l (ref t.0) < n) (sym (pos_none l)) (pos_in l t.0 t.1) in
      subst₂ (Cmp key l) t.2 (sym eb) (c_lt tt (lt-ltb (pos_of l (ref t.0)) (pos_of l None) p))
  cmp a b (inr t) (inr s) = subst₂ (Cmp key l) t.2 s.2 (cmp2 t.0 s.0 t.1 s.1)

  module _ (me : Id) (x o : OptId) where
    -- the rule as computed says what the rule as stated says
    pub says : (s : List FugueSpan) (v : FugueSpan) → Mem v l → Says key (pr_of l) me x (parent_right l x o) s v (verdict l x o (pr_pos l x o) me.peer s v)
    unfolding verdict sibling pr_pos pr_of by_pos
    says s v m = go (same_opt_test (ol v) x) (same_opt_test (or v) o) (ltb_test me.peer v.id.peer) (mem_id_test (ol v) s)
        (cmp pv (parent_right l x o) (pr_in_lem key l g.sorted (ol v) (or v)) (pr_in_lem key l g.sorted x o))
      where
        pv : OptId
        pv = parent_right l (ol v) (or v)

        pm : OptId
        pm = parent_right l x o

        S : Verdict → Type 0
        S k = Says key (λ (u : FugueSpan). parent_right l (ol u) (or u)) me x pm s v k

        ver : Bool → Bool → Bool → Bool → Bool → Bool → Verdict
        ver same_ol same_or larger scanned lt eq = cond same_ol (cond same_or (cond larger Stop Clear) (by_pos lt eq larger)) (cond scanned Keep Stop)

        inner : ol v ≡ x → Test (ltb me.peer v.id.peer) (me.peer < v.id.peer) → Cmp key l pv pm → S (by_pos (ltb (pos_of l pv) (pos_of l pm)) (eqb (pos_of l pv) (pos_of l pm)) (ltb me.peer v.id.peer))
        inner d t (c_lt k e) = subst (λ (b : Bool). S (by_pos b (eqb (pos_of l pv) (pos_of l pm)) (ltb me.peer v.id.peer))) (sym e) (s_hold d k)
        inner d (pass e g) (c_eq k e1 e2) = rw (e1, e2, e) (s_stopeq d k g)
        inner d (fail e g) (c_eq k e1 e2) = rw (e1, e2, e) (s_cleareq d k (omega arith))
        inner d t (c_gt k e1 e2) = rw (e1, e2) (s_cleargt d k)

        go : Test (same_opt (ol v) x) (ol v ≡ x) → Test (same_opt (or v) o) (or v ≡ o) → Test (ltb me.peer v.id.peer) (me.peer < v.id.peer)
            → Test (mem_id (ol v) s) ((w : FugueSpan) × Mem w s × (ref w ≡ ol v)) → Cmp key l pv pm
            → S (ver (same_opt (ol v) x) (same_opt (or v) o) (ltb me.peer v.id.peer) (mem_id (ol v) s) (ltb (pos_of l pv) (pos_of l pm)) (eqb (pos_of l pv) (pos_of l pm)))
        go (pass e d) (pass e' d') (pass e'' h) t k = rw (e, e', e'') (s_stopeq d (ap₂ (parent_right l) d d') h)
        go (pass e d) (pass e' d') (fail e'' h) t k = rw (e, e', e'') (s_cleareq d (ap₂ (parent_right l) d d') (omega arith))
        go (pass e d) (fail e' d') h t k = rw (e, e') (inner d h k)
        go (fail e n) b h (pass e' t) k = rw (e, e') (s_keep t.0 n t.1 t.2)
        go (fail e n) b h (fail e' t) k = rw (e, e') (s_stop n (λ (w : FugueSpan) (mw : Mem w s) (d : ref w ≡ ol v). t (w, mw, d)))
