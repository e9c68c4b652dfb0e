-- the cursor of a visible position, found piece by piece in the list at a version
use Prim.Native.Nat.{ℕ, zero, suc, ◌+◌, ◌-◌, ◌<◌, ◌≤◌}
use mathlib.Core.Path.{◌≡◌, refl, sym, ap, ap₂, subst, ◌∙◌}
use mathlib.Core.Bool.{Bool, true, false}
use mathlib.Core.List.{List, [], ◌++◌, append_assoc}
use mathlib.Core.Logic.{◌⊎◌, inl, inr}
use native.Mathlib.Omega.{arith}
use lib.ListN.{drop}
use Rattle.span.specs.declared.span.FugueSpan.{FugueSpan}
use Rattle.span.specs.Status.{activated}
use Rattle.span.specs.Span.{len_span, active_len}
use Rattle.span.specs.Units.{tab, unit_at, units_of, expand}
use Rattle.span.proofs.ListLaws.{take_tab, drop-tab}
use Rattle.units.specs.Place.{front, behind, shown}
use Rattle.rope.specs.Spans.{Stored}
use Rattle.rope.proofs.Seeks.{front_in, behind_in, front_vis, behind_vis, front_inv, behind_inv, active_is, shown_row}
use Rattle.history.specs.Edit.{Version, Held}
use Rattle.tracker.specs.declared.seen.Step.{Step}
use Rattle.tracker.specs.declared.fits.Left.{Left}
use Rattle.tracker.specs.Looks.{seen}
use Rattle.tracker.specs.Ahead.{ahead, Place, Next}
use Rattle.tracker.specs.Fits.{list_at, Sought}
use Rattle.tracker.proofs.Nexts.{ahead_start, ahead_end, place_start, still_self}

-- `left` visible units are still to be passed from a place on
pub record Seek (v : Version) (l : List Held) (n : ℕ) (s : List ℕ) (at i from left : ℕ) : Type 0 where
  pub place : Place n s i from
  pub low : i < n
  pub some : 0 < left
  pub most : left ≤ shown (seen false v v l (ahead n s i from))
  pub first : List FugueSpan
  pub before : front (list_at v l n s) at ≡ first ++ front (seen false v v l (ahead n s i from)) left
  pub after : behind (list_at v l n s) at ≡ behind (seen false v v l (ahead n s i from)) left

lt-or : (i n : ℕ) → (i < n) ⊎ (n ≤ i)
lt-or i zero = inr (omega arith)
lt-or zero (suc n) = inl (omega arith)
lt-or (suc i) (suc n) = go (lt-or i n)
  where
    go : (i < n) ⊎ (n ≤ i) → (suc i < suc n) ⊎ (suc n ≤ suc i)
    go (inl h) = inl (omega arith)
    go (inr h) = inr (omega arith)

module _ (v : Version) (l : List Held) (n : ℕ) (s : List ℕ) (w : Stored n s) where
  more_rows : (i from left : ℕ) → 0 < left → left ≤ shown (seen false v v l (ahead n s i from)) → i < n
  unfolding seen shown
  more_rows i from left h k = go (lt-or i n)
    where
      go : (i < n) ⊎ (n ≤ i) → i < n
      go (inl m) = m
      go (inr m) = absurd (let e : shown (seen false v v l (ahead n s i from)) ≡ 0 = ap (λ (r : List FugueSpan). shown (seen false v v l r)) (ahead_end n s i from m) in omega (arith, e, h, k))

  pub seek_start : (at : ℕ) → 0 < at → at ≤ shown (list_at v l n s) → Seek v l n s at 0 0 at
  seek_start at h k =
      let e : list_at v l n s ≡ seen false v v l (ahead n s 0 0) = ap (seen false v v l) (sym (ahead_start n s)) in
      let m : at ≤ shown (seen false v v l (ahead n s 0 0)) = subst (λ (us : List FugueSpan). at ≤ shown us) e k in
      record {
        place = place_start n s w;
        low = more_rows 0 0 at h m;
        some = h;
        most = m;
        first = [];
        before = ap (λ (us : List FugueSpan). front us at) e;
        after = ap (λ (us : List FugueSpan). behind us at) e;
      }

  module _ (at i from left : ℕ) (q : Seek v l n s at i from left) (r : Step) (x : Next false v v l n s i from r) where
    abbrev P : FugueSpan
    P = r.piece

    abbrev R : List FugueSpan
    R = seen false v v l (ahead n s r.row r.from)

    self : expand R ≡ R
    self = still_self false v v l n s w i from r x

    units : seen false v v l (ahead n s i from) ≡ units_of P ++ expand R
    units = x.units ∙ ap (λ (us : List FugueSpan). units_of P ++ us) (sym self)

    shows : shown (seen false v v l (ahead n s i from)) ≡ active_len P + shown R
    shows = ap shown units ∙ (shown_row P R ∙ ap (λ (us : List FugueSpan). active_len P + shown us) self)

    visible : left ≤ active_len P → activated P.status ≡ true
    visible h = go (activated P.status) refl
      where
        go : (t : Bool) → activated P.status ≡ t → activated P.status ≡ true
        go true e = e
        go false e = absurd (let z : active_len P ≡ 0 = active_is P false e in omega (arith, z, h, q.some))

    abbrev found : Left
    found = record { piece = P; skip = left; row = r.row; from = r.from }

    pub seek_found : left ≤ active_len P → Sought v l n s at found
    unfolding units_of
    seek_found h =
        let vis = visible h in
        let a : active_len P ≡ len_span P = active_is P true vis in
        let k : left ≤ len_span P = omega (arith, h, a) in
        record {
          cut = record { place = x.place; fine = x.fine; some = q.some; most = k };
          first = q.first;
          before = q.before ∙ ap (λ (us : List FugueSpan). q.first ++ us)
              (ap (λ (us : List FugueSpan). front us left) units ∙ (front_in P (expand R) vis (len_span P) 0 left k ∙ sym (take_tab (unit_at P) 0 left (len_span P) k)));
          after = q.after ∙ (ap (λ (us : List FugueSpan). behind us left) units ∙
              (behind_in P (expand R) vis (len_span P) 0 left k ∙
              ap₂ (λ (A B : List FugueSpan). A ++ B)
              (sym (ap (λ (m : ℕ). drop left (tab (unit_at P) 0 m)) (let e : len_span P ≡ left + (len_span P - left) = omega (arith, k) in e) ∙ drop-tab (unit_at P) 0 left (len_span P - left)))
              self));
        }

    pub seek_on : active_len P < left → Seek v l n s at r.row r.from (left - active_len P)
    seek_on h =
        let m : left - active_len P ≤ shown R = omega (arith, shows, q.most) in
        let p : 0 < left - active_len P = omega (arith, h) in
        record {
          place = x.place;
          low = more_rows r.row r.from (left - active_len P) p m;
          some = p;
          most = m;
          first = q.first ++ units_of P;
          before = q.before ∙ (ap (λ (us : List FugueSpan). q.first ++ us) fr ∙ sym (append_assoc q.first (units_of P) (front R (left - active_len P))));
          after = q.after ∙ bh;
        }
      where
        both : (front (seen false v v l (ahead n s i from)) left ≡ units_of P ++ front R (left - active_len P)) × (behind (seen false v v l (ahead n s i from)) left ≡ behind R (left - active_len P))
        both = go (activated P.status) refl
          where
            go : (t : Bool) → activated P.status ≡ t → (front (seen false v v l (ahead n s i from)) left ≡ units_of P ++ front R (left - active_len P)) × (behind (seen false v v l (ahead n s i from)) left ≡ behind R (left - active_len P))
            go true e =
                let a : active_len P ≡ len_span P = active_is P true e in
                let z : left ≡ len_span P + (left - active_len P) = omega (arith, a, h) in (
                  ap₂ front units z ∙ (front_vis P R e (left - active_len P) ∙ ap (λ (us : List FugueSpan). units_of P ++ front us (left - active_len P)) self),
                  ap₂ behind units z ∙ (behind_vis P R e (left - active_len P) ∙ ap (λ (us : List FugueSpan). behind us (left - active_len P)) self),
                )
            go false e =
                let a : active_len P ≡ 0 = active_is P false e in
                let z : left ≡ suc (left - 1) = omega (arith, h) in
                let y : suc (left - 1) ≡ left - active_len P = omega (arith, a, h) in (
                  ap₂ front units z ∙ (front_inv P R e (left - 1) ∙ ap₂ (λ (us : List FugueSpan) (k : ℕ). units_of P ++ front us k) self y),
                  ap₂ behind units z ∙ (behind_inv P R e (left - 1) ∙ ap₂ behind self y),
                )

        fr : front (seen false v v l (ahead n s i from)) left ≡ units_of P ++ front R (left - active_len P)
        fr = both.0

        bh : behind (seen false v v l (ahead n s i from)) left ≡ behind R (left - active_len P)
        bh = both.1
