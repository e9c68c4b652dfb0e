-- What a version shows is in order; where origins lie; the edit that covers a unit's counter made it, and a held edit took what it says.
use Prim.Native.Nat.{ℕ, zero, suc, ◌+◌, ◌<◌, ◌≤◌}
use mathlib.Core.Path.{◌≡◌, refl, sym, ap, subst, ◌∙◌}
use mathlib.Core.Logic.{◌⊎◌, inl, inr}
use mathlib.Core.Bool.{Bool, true, false, ◌&&◌, cond}
use mathlib.Core.List.Memᴰ
use mathlib.Core.List.{List, [], ◌∷◌, ◌++◌, map}
use native.Mathlib.Omega.{arith}
use Rattle.std.specs.Prelude.{None, Some}
use Rattle.span.specs.declared.ids.Id.{Id}
use Rattle.span.specs.Maybe.{OptId}
use Rattle.span.specs.declared.span.FugueSpan.{FugueSpan}
use Rattle.span.specs.Status.{activated}
use Rattle.units.specs.Lists.{keep_if}
use Rattle.units.specs.Place.{behind, first_past, origin_right}
use Rattle.fugue.specs.Tree.{ref}
use Rattle.fugue.proofs.Keys.{Key, sl, sr}
use Rattle.fugue.proofs.Hang.{Hung, hung_r, hung_l, none≢at}
use Rattle.fugue.proofs.ScanPlace.{Mem, Sorted}
use Rattle.fugue.proofs.Tests.{Test, pass, fail, eqb_test}
use Rattle.fugue.proofs.Past.{not_future}
use Rattle.fugue.proofs.Alike.{alike_map, sorted_alike}
use Rattle.fugue.proofs.Rising.{keep_if_in}
use Rattle.fugue.proofs.Counting.{count_if}
use Rattle.fugue.proofs.Clocks.{cnt, disjoint}
use Rattle.history.specs.Edit.{Version, Edit, size_of, Held, History}
use Rattle.history.specs.Version.{below}
use Rattle.history.specs.Checkout.{in_ranges, deletes_in}
use Rattle.history.specs.Arrive.{act_took}
use Rattle.history.proofs.Plain.{view, view_same, sees}
use Rattle.history.proofs.Context.{clock, before}
use Rattle.history.proofs.Run.{MemE, MemH, num, first, Made, made_peer, made_num, made_small, Src, Run}
use lib.Dec.{eqb}

pub sorted_keep : (key : OptId → Key) (t : FugueSpan → Bool) (l : List FugueSpan) → Sorted key l → Sorted key (keep_if t l)
unfolding keep_if
sorted_keep key t [] s = tt
sorted_keep key t (v ∷ l) s = go (t v) (sorted_keep key t l s.1)
  where
    go : (b : Bool) → Sorted key (keep_if t l) → Sorted key (cond b (v ∷ keep_if t l) (keep_if t l))
    go true ih = (λ (w : FugueSpan) (m : Mem w (keep_if t l)). s.0 w (keep_if_in t l w m).0, ih)
    go false ih = ih

pub sorted_sees : (key : OptId → Key) (v : Version) (h : History) → Sorted key h.list → Sorted key (sees v h)
sorted_sees key v h s = sorted_keep key not_future (map (view v h.held) h.list)
    (sorted_alike key h.list (map (view v h.held) h.list) (alike_map (view v h.held) (view_same v h.held) h.list) s)

pub behind_sub : (l : List FugueSpan) (n : ℕ) (w : FugueSpan) → Mem w (behind l n) → Mem w l
unfolding behind
behind_sub [] n w m = m
behind_sub (v ∷ l) zero w m = m
behind_sub (v ∷ l) (suc n) w m = Memᴰ.tail (behind_sub l (cond (activated v.status) n (suc n)) w m)

first_past_in : (l : List FugueSpan) → (first_past l ≡ None) ⊎ ((w : FugueSpan) × Mem w l × (ref w ≡ first_past l))
unfolding first_past
first_past_in [] = inl refl
first_past_in (v ∷ l) = go v.status.future (first_past_in l)
  where
    go : (b : Bool) → (first_past l ≡ None) ⊎ ((w : FugueSpan) × Mem w l × (ref w ≡ first_past l)) → (cond b (first_past l) (ref v) ≡ None) ⊎ ((w : FugueSpan) × Mem w (v ∷ l) × (ref w ≡ cond b (first_past l) (ref v)))
    go true (inl e) = inl e
    go true (inr t) = inr (t.0, Memᴰ.tail t.1, t.2)
    go false s = inr (v, Memᴰ.head refl, refl)

pub origin_right_in : (l : List FugueSpan) (n : ℕ) → (origin_right n l ≡ None) ⊎ ((w : FugueSpan) × Mem w l × (ref w ≡ origin_right n l))
unfolding origin_right
origin_right_in l n = go (first_past_in (behind l n))
  where
    go : (first_past (behind l n) ≡ None) ⊎ ((w : FugueSpan) × Mem w (behind l n) × (ref w ≡ first_past (behind l n))) → (first_past (behind l n) ≡ None) ⊎ ((w : FugueSpan) × Mem w l × (ref w ≡ first_past (behind l n)))
    go (inl e) = inl e
    go (inr t) = inr (t.0, behind_sub l n t.0 t.1, t.2)

pub at_id : {i j : Id} → Some i ≡ Some j → i ≡ j
at_id {i} {j} e = cc

pub hung_same : (k1 k2 : OptId → Key) {x : OptId} {p : Id} {r : OptId} → Hung k1 x p r → {r2 : OptId} → Hung k2 x p r2 → r ≡ r2 → k1 x ≡ k2 x → k1 r ≡ k2 r → k1 (Some p) ≡ k2 (Some p)
hung_same k1 k2 {x} {p} (hung_r e) (hung_r d) q ex er = e ∙ (ap (λ (z : Key). z ++ sr p ∷ []) ex ∙ sym d)
hung_same k1 k2 {x} {p} (hung_r e) (hung_l s ms ir al er2 ek) q ex er = absurd (none≢at q)
hung_same k1 k2 {x} {p} (hung_l s ms ir al er2 ek) (hung_r d) q ex er = absurd (none≢at (sym q))
hung_same k1 k2 {x} {p} (hung_l s ms ir al er2 ek) (hung_l s2 ms2 ir2 al2 er3 ek2) q ex er = ek ∙ (ap (λ (z : Key). z ++ sl p ∷ []) (er ∙ ap k2 q) ∙ sym ek2)

pub deletes_count : (v : Version) (l : List Held) (i : Id) → deletes_in v l i ≡ count_if (λ (x : Held). below v x.edit.id && in_ranges i x.took) l
unfolding deletes_in count_if
deletes_count v [] i = refl
deletes_count v (x ∷ l) i = ap (λ (k : ℕ). cond (below v x.edit.id && in_ranges i x.took) (suc k) k) (deletes_count v l i)

pub cnt_other : (n : ℕ) (d : List Edit) (e : Edit) (p c : ℕ) → cnt (clock n) d e.id.peer ≡ first e → c < cnt (clock n) (e ∷ d) p → (c < cnt (clock n) d p → ⊥) → (p ≡ e.id.peer) × (first e ≤ c) × (c < first e + size_of e.act)
unfolding cnt
cnt_other n d e p c own h out = go (eqb_test e.id.peer p)
  where
    go : Test (eqb e.id.peer p) (e.id.peer ≡ p) → (p ≡ e.id.peer) × (first e ≤ c) × (c < first e + size_of e.act)
    go (pass t k) =
        let o : cnt (clock n) d p ≡ first e = subst (λ (z : ℕ). cnt (clock n) d z ≡ first e) k own in
        let h2 : c < first e + size_of e.act = subst (λ (b : Bool). c < cond b (first e + size_of e.act) (cnt (clock n) d p)) t h in
        (sym k, omega arith, h2)
    go (fail t k) = absurd (out (subst (λ (b : Bool). c < cond b (first e + size_of e.act) (cnt (clock n) d p)) t h))

-- the edit that covers a unit's counter made it
module _ (n : ℕ) (done : List Edit) (h : History) (key : OptId → Key) (r : Run n done h key) where
  pub made_by : (u : FugueSpan) → Mem u h.list → (e : Edit) → MemE e done → e.id.peer ≡ u.id.peer → first e ≤ num u → num u < first e + size_of e.act → Made h e u
  made_by u m e me p lo hi =
      let s : Src done h u = r.src u m in
      let a : num u ≡ first s.e + s.made.k = made_num s.made (r.natural s.e s.is_in) in
      let b : s.made.k < size_of s.e.act = made_small s.made in
      let q : s.e ≡ e = disjoint (clock n) done r.causal s.e e s.is_in me (sym (made_peer s.made) ∙ sym p) (num u) (omega arith) (omega arith) lo hi in
      subst (λ (z : Edit). Made h z u) q s.made

  -- a held edit is its own source
  pub took_by : (x y : Held) → MemH x h.held → MemH y h.held → x.edit ≡ y.edit → x ≡ y
  took_by x y mx my e =
      let t : x.took ≡ y.took = (r.tooks x mx).2 ∙ (ap (λ (z : Edit). act_took z.act z (before z h)) e ∙ sym (r.tooks y my).2) in
      λ i. record { edit = e i; took = t i }
