-- THE DEMAND. From a well formed set of edits within the limits, each position inside what is visible at its context, and an empty or placeholder list with room:
-- every arrival order that puts an edit after its context is accepted throughout, and checked out at the whole set it gives the units of the tree built from the
-- set alone, in its order, which is the walk of the tree; real ids of placeholder units excepted.
use Prim.Native.Nat.{ℕ, zero, suc, ◌+◌, ◌≤◌}
use mathlib.Core.Path.{◌≡◌, refl, sym, ap, ◌∙◌}
use mathlib.Core.Bool.{Bool, true, cond}
use mathlib.Core.List.{List, [], map, Memᴰ, append-nil}
use native.Mathlib.Omega.{arith}
use lib.Dec.{eqb, leb}
use lib.ListN.{length, length-map}
use borrow.Author.Tests.{le-leb, ne_eqb}
use Rattle.span.specs.Maybe.{OptId}
use Rattle.span.specs.Ids.{UNKNOWN_PEER}
use Rattle.span.specs.Units.{expand, join}
use Rattle.span.proofs.Unique.{expand-join}
use Rattle.units.specs.Limits.{UNITS, fits}
use Rattle.units.specs.Codes.{placeholder_code}
use Rattle.fugue.proofs.Keys.{Key}
use Rattle.fugue.proofs.Tests.{Test, pass, fail, eqb_test}
use Rattle.fugue.proofs.Clocks.{cnt, done_of, in_range_lem}
use Rattle.history.specs.Edit.{Count, Version, Edit, size, Held, History}
use Rattle.history.specs.Version.{number, count_of, held_count, named, closed}
use Rattle.history.specs.Checkout.{units_at, checkout}
use Rattle.history.specs.Checkout as Co
use Rattle.history.specs.Arrive.{start, replay}
use Rattle.history.specs.Tree.{sort_rank}
use Rattle.history.specs.Valid.{valid}
use Rattle.history.specs.Codes.{on_units, stored, open_code, made, checkout_code, checkout_of}
use Rattle.history.specs.Demand.{InSet, first_of, WellFormedSet, Inside, Limits, ArrivalOrder, arrive_all, whole_of, no_real, sum, Promise}
use Rattle.history.proofs.Context.{count, clock, holds_known, count_known, count_unknown, base}
use Rattle.history.proofs.Run.{MemH, Run}
use Rattle.history.proofs.Start.{run_start}
use Rattle.history.proofs.OnUnits.{arrives, run, units_same, tree_walk}
use Rattle.history.proofs.Sets.{sound, some_of}
use Rattle.history.proofs.WellUnits.{units_at_lem, all_of, join-length}
use Rattle.history.proofs.Valid.{Store, read_back}
use Rattle.history.proofs.Codes.{named_of, pair_some, pair_known, held_sum, closed_whole}
use Rattle.history.proofs.Whole.{Whole, whole_of_lem}
use Rattle.history.proofs.Stored.{totals, no_15, held_in, Done, all_done, store_start}

four : (v k c f : Bool) → v ≡ true → k ≡ true → c ≡ true → f ≡ true → ◌≡◌ {A = ℕ} (cond v (cond k (cond c (cond f 0 10) 7) 6) 15) 0
four v k c f hv hk hc hf = rw (hv, hk, hc, hf)

-- a placeholder of so many units is opened
opens : (spans n : ℕ) → n ≤ UNITS → n ≤ spans → open_code spans n ≡ 0
unfolding open_code placeholder_code fits
opens spans zero a b = refl
opens spans (suc m) a b = rw (ne_eqb (suc m) 0 (λ (d : suc m ≡ 0). omega arith), le-leb (suc m) UNITS a, le-leb 1 spans (omega arith))

module _ (n spans targets : ℕ) (S : List Edit) (wf : WellFormedSet S) (lim : Limits n spans targets S) (inside : Inside (start n) (sort_rank S S))
    (fs : List Edit) (ord : ArrivalOrder S fs) where
  abbrev v : Version
  v = whole_of S

  whole : Whole S (whole_of S)
  whole = whole_of_lem S (some_of n S wf)

  abbrev h : History
  h = replay (start n) fs

  abbrev D : List Edit
  D = done_of (clock n) (base n) fs

  final : (key : OptId → Key) × Run n D h key
  final = run n S wf inside fs ord

  done : Done n spans targets S wf lim fs ord [] (base n) (start n) fs
  done = all_done n spans targets S wf lim fs ord fs [] (base n) (start n) (run_start n).0 (run_start n).1 (store_start n (omega (arith, lim.units))) refl (arrives n S wf inside fs ord)

  st : Store n D fs h
  st = done.store

  -- the version has what the history holds
  held : (p : ℕ) → count_of v p ≡ held_count h.held p
  held p = whole.counts p ∙ (sym (totals n spans targets S wf lim fs ord (λ (e : Edit). cond (eqb e.id.peer p) (size e) 0))
      ∙ (ap (sum (λ (e : Edit). cond (eqb e.id.peer p) (size e) 0)) (sym st.order) ∙ sym (held_sum h.held p)))

  counts : (p : ℕ) → count n v p ≡ cnt (clock n) D p
  counts p = go (eqb_test p UNKNOWN_PEER)
    where
      go : Test (eqb p UNKNOWN_PEER) (p ≡ UNKNOWN_PEER) → count n v p ≡ cnt (clock n) D p
      go (pass b d) = ap (count n v) d ∙ (count_unknown n v ∙ (sym final.1.base ∙ ap (cnt (clock n) D) (sym d)))
      go (fail b d) = count_known n v p d ∙ (held p ∙ st.counts p d)

  of_set : (x : Held) → MemH x h.held → InSet x.edit S
  of_set = held_in n spans targets S wf lim fs ord fs D h final.0 final.1 st [] (append-nil fs)

  -- 6 and 7 are not given
  named-v : named h.held v ≡ true
  named-v = named_of h.held v whole.pairs (λ (k : Count) (m : Memᴰ k v). omega (arith, (pair_some v whole.pairs k m).1, held k.peer))

  ctx_le : (x : Held) → MemH x h.held → (k : Count) → Memᴰ k x.edit.context → number k.many ≤ count_of v k.peer
  ctx_le x m k j =
      let me : InSet x.edit S = of_set x m in
      let kn : ¬ (k.peer ≡ UNKNOWN_PEER) = pair_known n S wf x.edit me k j in
      omega (
        arith,
        (pair_some x.edit.context (wf.pairs x.edit me) k j).1,
        count_known n x.edit.context k.peer kn,
        holds_known n x.edit k.peer (sound n S wf x.edit me).0,
        final.1.holding x.edit (final.1.tooks x m).0 k.peer,
        st.counts k.peer kn,
        held k.peer,
      )

  whole_le : (x : Held) → MemH x h.held → first_of x.edit + size x.edit ≤ count_of v x.edit.id.peer
  whole_le x m = omega (arith, (in_range_lem (clock n) D final.1.causal x.edit (final.1.tooks x m).0).0, st.counts x.edit.id.peer (sound n S wf x.edit (of_set x m)).0, held x.edit.id.peer)

  closed-v : closed h.held v ≡ true
  closed-v = closed_whole n S wf h.held v of_set ctx_le whole_le

  back : on_units (stored h) ≡ h
  back = read_back n D fs h final.0 final.1 st

  at_length : length (units_at v h) ≡ length h.list
  unfolding units_at
  at_length = length-map h.list (Co.unit_at v h.held)

  fits-v : fits spans (join (units_at v (on_units (stored h)))) ≡ true
  unfolding fits
  fits-v = ap (λ (z : History). leb (length (join (units_at v z))) spans) back ∙ le-leb (length (join (units_at v h))) spans
      (omega (arith, join-length (units_at v h), at_length, st.many, totals n spans targets S wf lim fs ord (λ (e : Edit). made e.act), lim.span_room))

  code : checkout_code spans targets (stored h) v ≡ 0
  unfolding checkout_code stored
  code = four (valid spans targets (stored h)) (named h.held v) (closed h.held v) (fits spans (join (units_at v (on_units (stored h)))))
      (no_15 n spans targets S wf lim fs ord fs D h final.0 final.1 st [] (append-nil fs)) named-v closed-v fits-v

  list : expand (checkout_of spans targets (stored h) v).1.list ≡ units_at v h
  unfolding checkout_of
  list = ap (λ (k : ℕ). expand (cond (eqb k 0) (stored (checkout v (on_units (stored h)))) (stored h)).list) code
      ∙ (ap (λ (z : History). expand (stored (checkout v z)).list) back ∙ units)
    where
      units : expand (stored (checkout v h)).list ≡ units_at v h
      units = unfold stored checkout in expand-join (units_at v h) (all_of (units_at v h) (units_at_lem v h st.units))

  pub demand3 : Promise n spans targets S fs
  demand3 = record {
    opened = opens spans n (omega (arith, lim.units)) (omega (arith, lim.span_room));
    accepted = done.accepted;
    checked = ap (λ (z : History). checkout_code spans targets z v) done.left ∙ code;
    same = ap (λ (z : History). map no_real (expand (checkout_of spans targets z v).1.list)) done.left ∙ (ap (map no_real) list ∙ units_same n S wf inside fs ord v counts);
    walked = tree_walk n S wf inside fs ord v;
  }

-- so any two arrival orders end with the same units in the same order
pub orders_agree : (n spans targets : ℕ) (S : List Edit) → WellFormedSet S → Limits n spans targets S → Inside (start n) (sort_rank S S) → (fs gs : List Edit) → ArrivalOrder S fs → ArrivalOrder S gs
    → map no_real (expand (checkout_of spans targets (arrive_all spans targets (stored (start n)) fs) (whole_of S)).1.list)
    ≡ map no_real (expand (checkout_of spans targets (arrive_all spans targets (stored (start n)) gs) (whole_of S)).1.list)
orders_agree n spans targets S wf lim inside fs gs a b = (demand3 n spans targets S wf lim inside fs a).same ∙ sym (demand3 n spans targets S wf lim inside gs b).same
