-- What an edit sees does not change by later arrivals (L8.1): units and deletes that are not in its context add nothing to it. And an edit that arrives
-- finds at its context the origins, targets and visible length that the units of the context alone give (§6).
use Prim.Native.Nat.{ℕ, zero, suc, ◌+◌, ◌≤◌}
use mathlib.Core.Path.{◌≡◌, refl, sym, ap, ap₂, subst, ◌∙◌}
use mathlib.Core.Logic.{◌⊎◌, inl, inr}
use mathlib.Core.Bool.{Bool, true, false, not, ◌&&◌, cond}
use mathlib.Core.List.Memᴰ
use mathlib.Core.List.{List, [], ◌∷◌, ◌++◌, map, nil≢cons, head-eq_of_cons-eq, tail-eq_of_cons-eq}
use lib.Dec.{leb, eqb}
use lib.IntN.{pos}
use Rattle.std.specs.Prelude.{None, Some}
use Rattle.span.specs.declared.ids.Id.{Id}
use Rattle.span.specs.Maybe.{OptId}
use Rattle.span.specs.declared.span.FugueSpan.{FugueSpan}
use Rattle.span.specs.Ids.{UNKNOWN_PEER, inc_id}
use Rattle.span.specs.Status.{status, activated}
use Rattle.units.specs.Lists.{keep_if}
use Rattle.units.specs.Place.{front, behind, origin_left, origin_right, shown}
use Rattle.units.specs.Change.{with_state, or_real, delete_unit, delete_first, delete_units, taken}
use Rattle.fugue.proofs.ScanPlace.{Mem}
use Rattle.fugue.proofs.Cursor.{front-behind}
use Rattle.fugue.proofs.Past.{not_future, past_of, shown_past, origin_left_past, origin_right_past, taken_past}
use Rattle.fugue.proofs.Alike.{Alike}
use Rattle.fugue.proofs.Sorts.{Splice}
use Rattle.history.specs.Edit.{Version, Act, Insert, Delete, Edit, Held, History}
use Rattle.history.specs.Version.{number, count_of, below}
use Rattle.history.specs.Checkout.{in_ranges, ranges_of, deletes_in, units_at}
use Rattle.history.specs.Checkout as Co
use Rattle.history.specs.Arrive.{act_took}
use Rattle.history.specs.Codes.{inside}
use Rattle.history.specs.Demand.{real_plain, no_real}
use Rattle.history.proofs.Plain.{plain, plain_same, plain_at, view, view-plain, sees, no_real_reads, view_at, shown_map, past_map, origin_left_map, origin_right_map, taken_map}
use Rattle.history.proofs.Context.{Natural, future_of}

-- ---- lists

pub map-app : (f : FugueSpan → FugueSpan) (A B : List FugueSpan) → map f (A ++ B) ≡ map f A ++ map f B
map-app f [] B = refl
map-app f (v ∷ A) B = ap (λ (z : List FugueSpan). f v ∷ z) (map-app f A B)

past_app : (A B : List FugueSpan) → past_of (A ++ B) ≡ past_of A ++ past_of B
unfolding keep_if
past_app [] B = refl
past_app (v ∷ A) B = go (not_future v) (past_app A B)
  where
    go : (b : Bool) → past_of (A ++ B) ≡ past_of A ++ past_of B → cond b (v ∷ past_of (A ++ B)) (past_of (A ++ B)) ≡ cond b (v ∷ past_of A) (past_of A) ++ past_of B
    go true ih = ap (λ (z : List FugueSpan). v ∷ z) ih
    go false ih = ih

past_none : (l : List FugueSpan) → ((w : FugueSpan) → Mem w l → w.status.future ≡ true) → past_of l ≡ []
unfolding keep_if
past_none [] f = refl
past_none (v ∷ l) f = ap (λ (b : Bool). cond (not b) (v ∷ past_of l) (past_of l)) (f v (Memᴰ.head refl)) ∙ past_none l (λ (w : FugueSpan) (m : Mem w l). f w (Memᴰ.tail m))

-- ---- lists that are plainly the same

pub plain_list_at : (v : Version) (held : List Held) (l : List FugueSpan) → map plain (map (Co.unit_at v held) l) ≡ map plain l
plain_list_at v held [] = refl
plain_list_at v held (u ∷ l) = ap₂ ◌∷◌ (plain_at v held u) (plain_list_at v held l)

pub view_list : (v : Version) (held : List Held) (l m : List FugueSpan) → map plain l ≡ map plain m → map (view v held) l ≡ map (view v held) m
view_list v held [] [] e = refl
view_list v held [] (w ∷ m) e = absurd (nil≢cons e)
view_list v held (u ∷ l) [] e = absurd (nil≢cons (sym e))
view_list v held (u ∷ l) (w ∷ m) e =
    let d : plain u ≡ plain w = head-eq_of_cons-eq e in
    ap₂ ◌∷◌ (view-plain v held held u w d (ap (deletes_in v held) (plain_same u w d).id)) (view_list v held l m (tail-eq_of_cons-eq e))

pub plain_alike : (l m : List FugueSpan) → map plain l ≡ map plain m → Alike l m
plain_alike [] [] e = tt
plain_alike [] (w ∷ m) e = nil≢cons e
plain_alike (u ∷ l) [] e = nil≢cons (sym e)
plain_alike (u ∷ l) (w ∷ m) e = (plain_same u w (head-eq_of_cons-eq e), plain_alike l m (tail-eq_of_cons-eq e))

pub plain_mem : (l m : List FugueSpan) → map plain l ≡ map plain m → (w : FugueSpan) → Mem w m → (u : FugueSpan) × Mem u l × (plain u ≡ plain w)
plain_mem l m e w k = Memᴰ.of_map plain l (subst (λ (z : List FugueSpan). Mem (plain w) z) (sym e) (Memᴰ.map plain k))

-- ---- a delete: each unit has a real id or is a placeholder's, so deletes change nothing that is plain

abbrev pub Real : FugueSpan → Type 0
Real u = (u.id.peer ≡ UNKNOWN_PEER) ⊎ ((i : Id) × (u.real_id ≡ Some i))

plain_deleted : (i : Id) (u : FugueSpan) → Real u → plain (delete_unit i u) ≡ plain u
unfolding plain delete_unit with_state real_plain
plain_deleted i u (inl e) = ap (λ (r : OptId). with_state u (status false (pos 0)) None r) (gone (or_real u.real_id i) ∙ sym (gone u.real_id))
  where
    gone : (r : OptId) → cond (eqb u.id.peer UNKNOWN_PEER) None r ≡ None
    gone r = ap (λ (p : ℕ). cond (eqb p UNKNOWN_PEER) None r) e
plain_deleted i u (inr t) = ap (λ (r : OptId). with_state u (status false (pos 0)) None (cond (eqb u.id.peer UNKNOWN_PEER) None r))
    (ap (λ (r : OptId). or_real r i) t.1 ∙ sym t.1)

plain_first : (l : List FugueSpan) (n : ℕ) (i : Id) → ((u : FugueSpan) → Mem u l → Real u) → map plain (delete_first l n i) ≡ map plain l
unfolding delete_first
plain_first [] n i f = refl
plain_first (u ∷ l) zero i f = refl
plain_first (u ∷ l) (suc n) i f = go (activated u.status) (λ (m : ℕ) (j : Id). plain_first l m j (λ (w : FugueSpan) (k : Mem w l). f w (Memᴰ.tail k)))
  where
    go : (b : Bool) → ((m : ℕ) (j : Id) → map plain (delete_first l m j) ≡ map plain l)
        → map plain (cond b (delete_unit i u ∷ delete_first l n (inc_id i 1)) (u ∷ delete_first l (suc n) i)) ≡ plain u ∷ map plain l
    go true ih = ap₂ ◌∷◌ (plain_deleted i u (f u (Memᴰ.head refl))) (ih n (inc_id i 1))
    go false ih = ap (λ (z : List FugueSpan). plain u ∷ z) (ih (suc n) i)

pub plain_deletes : (at n : ℕ) (i : Id) (l : List FugueSpan) → ((u : FugueSpan) → Mem u l → Real u) → map plain (delete_units at n i l) ≡ map plain l
unfolding delete_units
plain_deletes at n i l f =
    map-app plain (front l at) (delete_first (behind l at) n i)
    ∙ (ap (λ (z : List FugueSpan). map plain (front l at) ++ z) (plain_first (behind l at) n i (λ (u : FugueSpan) (m : Mem u (behind l at)).
    f u (subst (λ (z : List FugueSpan). Mem u z) (front-behind l at) (Memᴰ.append_right (front l at) m))))
    ∙ (sym (map-app plain (front l at) (behind l at)) ∙ ap (map plain) (front-behind l at)))

-- ---- later arrivals

deletes_skip : (v : Version) (l : List Held) (x : Held) (i : Id) → below v x.edit.id ≡ false → deletes_in v (l ++ (x ∷ [])) i ≡ deletes_in v l i
unfolding deletes_in
deletes_skip v [] x i e = ap (λ (b : Bool). cond (b && in_ranges i x.took) 1 0) e
deletes_skip v (y ∷ l) x i e = ap (λ (k : ℕ). cond (below v y.edit.id && in_ranges i y.took) (suc k) k) (deletes_skip v l x i e)

pub view_skip : (v : Version) (held : List Held) (x : Held) → below v x.edit.id ≡ false → (l : List FugueSpan) → map (view v (held ++ (x ∷ []))) l ≡ map (view v held) l
view_skip v held x e [] = refl
view_skip v held x e (u ∷ l) = ap₂ ◌∷◌ (view-plain v (held ++ (x ∷ [])) held u u refl (deletes_skip v held x u.id e)) (view_skip v held x e l)

pub view_splice : (v : Version) (held : List Held) (l new l' m : List FugueSpan) → Splice l new l' → map plain l ≡ map plain m
    → ((w : FugueSpan) → Mem w new → Natural w.id × ¬ (w.id.peer ≡ UNKNOWN_PEER) × (count_of v w.id.peer ≤ number w.id.counter))
    → past_of (map (view v held) l') ≡ past_of (map (view v held) m)
unfolding view with_state
view_splice v held l new l' m s e out =
    ap (λ (z : List FugueSpan). past_of (map f z)) s.now
    ∙ (ap past_of (map-app f A (new ++ B) ∙ ap (λ (z : List FugueSpan). map f A ++ z) (map-app f new B))
    ∙ (past_app (map f A) (map f new ++ map f B)
    ∙ (ap (λ (z : List FugueSpan). past_of (map f A) ++ z) (past_app (map f new) (map f B) ∙ ap (λ (z : List FugueSpan). z ++ past_of (map f B)) gone)
    ∙ (sym (past_app (map f A) (map f B))
    ∙ (ap past_of (sym (map-app f A B) ∙ (ap (map f) (sym s.old) ∙ view_list v held l m e)))))))
  where
    f : FugueSpan → FugueSpan
    f = view v held

    A : List FugueSpan
    A = s.before

    B : List FugueSpan
    B = s.rest

    each : (w : FugueSpan) → (a : FugueSpan) × Mem a new × (f a ≡ w) → w.status.future ≡ true
    each w t =
        let k : Natural t.0.id × ¬ (t.0.id.peer ≡ UNKNOWN_PEER) × (count_of v t.0.id.peer ≤ number t.0.id.counter) = out t.0 t.1 in
        subst (λ (z : FugueSpan). z.status.future ≡ true) t.2 (future_of 0 v held t.0.id k.0 k.1 k.2)

    gone : past_of (map f new) ≡ []
    gone = past_none (map f new) (λ (w : FugueSpan) (k : Mem w (map f new)). each w (Memᴰ.of_map f new k))

-- ---- what an arriving edit finds

module _ (v : Version) (h : History) where
  sees_at : sees v h ≡ map no_real (past_of (units_at v h))
  unfolding units_at
  sees_at = ap past_of (view_at v h.held h.list) ∙ past_map no_real no_real_reads (map (Co.unit_at v h.held) h.list)

  pub shown-sees : shown (units_at v h) ≡ shown (sees v h)
  shown-sees = shown_past (units_at v h) ∙ (sym (shown_map no_real no_real_reads (past_of (units_at v h))) ∙ ap shown (sym sees_at))

  pub left_sees : (at : ℕ) → at ≤ shown (units_at v h) → origin_left at (units_at v h) ≡ origin_left at (sees v h)
  left_sees at b = origin_left_past (units_at v h) at b ∙ (sym (origin_left_map no_real no_real_reads at (past_of (units_at v h))) ∙ ap (origin_left at) (sym sees_at))

  pub right_sees : (at : ℕ) → origin_right at (units_at v h) ≡ origin_right at (sees v h)
  right_sees at = origin_right_past (units_at v h) at ∙ (sym (origin_right_map no_real no_real_reads at (past_of (units_at v h))) ∙ ap (origin_right at) (sym sees_at))

  pub took_sees : (a : Act) (e : Edit) → act_took a e (units_at v h) ≡ act_took a e (sees v h)
  unfolding act_took
  took_sees (Insert lam c) e = refl
  took_sees (Delete n reversed target) e = ap ranges_of
      (ap (map (λ (u : FugueSpan). u.id)) (taken_past (units_at v h) e.at n)
      ∙ (sym (taken_map no_real no_real_reads e.at n (past_of (units_at v h))) ∙ ap (λ (z : List FugueSpan). map (λ (u : FugueSpan). u.id) (taken e.at n z)) (sym sees_at)))

  pub inside-sees : (a : Act) (at : ℕ) → inside a at (units_at v h) ≡ inside a at (sees v h)
  unfolding inside
  inside-sees (Insert lam c) at = ap (leb at) shown-sees
  inside-sees (Delete n reversed target) at = ap (leb (at + n)) shown-sees
