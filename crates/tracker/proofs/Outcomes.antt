-- What holds of every call of a history's entries. A refused call changes no byte, the outcome is one, and buffers that calls lead to from an opening say a history
-- made by calls: so 15 and 12 are never given for them.
use Prim.Native.Nat.{ℕ, ◌≤◌}
use mathlib.Core.Path.{◌≡◌, refl, sym, ap, subst, ◌∙◌}
use mathlib.Core.Bool.{Bool, true, false, not, ◌&&◌, ◌||◌, cond, true≢false}
use mathlib.Core.List.{List, ◌∷◌}
use native.Mathlib.Omega.{arith}
use lib.Dec.{eqb, leb, ltb}
use lib.IntN.{pos}
use lib.ListN.{length}
use borrow.Author.Tests.{eqb-true, eq-eqb}
use Rattle.std.specs.Prelude.{Some as At}
use Rattle.span.specs.Ids.{room_opt}
use Rattle.span.specs.Status.{eq_z}
use Rattle.span.specs.Units.{join}
use Rattle.store.specs.Header.{room}
use Rattle.units.specs.declared.diff.Entry.{Entry}
use Rattle.units.specs.Limits.{PEERS, EDITS, fits}
use Rattle.units.specs.Lists.{every}
use Rattle.units.specs.Delta.{insertable}
use Rattle.units.specs.Codes.{unless, kept}
use Rattle.history.specs.Edit.{Version, Edit, size, Held, History}
use Rattle.history.specs.Version.{held_count, named, closed}
use Rattle.history.specs.Checkout.{units_at, checkout}
use Rattle.history.specs.Arrive.{arrive}
use Rattle.history.specs.Deltas.{spans_between, delta}
use Rattle.history.specs.Valid.{act_formed, act_ids, has_peer, peer_count, own_count, edit_code, valid}
use Rattle.history.specs.Codes.{on_units, stored, or_else, inside, arrival_fits, arrive_code, arrive_of, checkout_code, checkout_of, delta_code, delta_of}
use Rattle.history.specs.Demand.{arrive_all}
use Rattle.history.specs.ByCalls.{ByCalls, opened, edited, checked_out, compared}
use Rattle.history.proofs.Histories.{never_15, never_12}
use Rattle.tracker.specs.Rows.{target_room}
use Rattle.tracker.specs.Calls.{Lent, said, is_well, Calls, Call, Arrive, Checkout, Delta, Ran, none, next, numbers, Reaches, by_open, by_call}
use Rattle.tracker.proofs.Leaving.{kept_not, leaves_one}
use Rattle.tracker.proofs.Calling.{Holds, Fresh, fresh, arrive_number_lem, arrive_said, arrive_holds, checkout_number_lem, checkout_said, checkout_holds, delta_number, delta_said, delta_holds}

-- ---- a refused call changes no byte of the three buffers

kept_bytes : (code : ℕ) (after : History) (r : ℕ) (a b : Lent) → Calls code after r a b → (r ≡ 0 → ⊥) → b ≡ a
kept_bytes code after r a b c z =
    let same = c.leaves.bytes (λ (d : code ≡ 0). z (c.leaves.number ∙ d)) in
    λ i. record { spans = same.0 i; targets = same.1 i; edits = same.2 i }

pub refused_keeps : (r : ℕ) (a b : Lent) → Call r a b → (r ≡ 0 → ⊥) → b ≡ a
refused_keeps r a b (Arrive x c) z = kept_bytes _ _ r a b c z
refused_keeps r a b (Checkout v c) z = kept_bytes _ _ r a b c z
refused_keeps r a b (Delta out v w c) z = kept_bytes _ _ r a b c z

-- ---- the outcome of a call is one: the number, and the history

pub one_outcome : (code : ℕ) (after : History) (p r : ℕ) (a b c : Lent) → Calls code after p a b → Calls code after r a c → (p ≡ r) × (said b ≡ said c)
one_outcome code after p r a b c x y = leaves_one code after p r a.spans a.targets a.edits b.spans b.targets b.edits c.spans c.targets c.edits x.leaves y.leaves

-- ---- and that of a run: what the definitions have, refused edits included

pub run_is : (spans targets : ℕ) (es : List Edit) (rs : List ℕ) (a b : Lent) → Ran es rs a b → Holds spans targets a
    → (rs ≡ numbers spans targets (said a) es) × (said b ≡ arrive_all spans targets (said a) es)
unfolding numbers arrive_all
run_is spans targets es rs a b (none c) h = (refl, refl)
run_is spans targets es rs a b (next x fs r ts c d f call rest) h =
    let left : said d ≡ (arrive_of spans targets (said c) x).1 = arrive_said spans targets x r c d call h in
    let k : (ts ≡ numbers spans targets (said d) fs) × (said f ≡ arrive_all spans targets (said d) fs) = run_is spans targets fs ts d f rest (arrive_holds spans targets x r c d call h) in (
      ap (λ (z : ℕ). z ∷ ts) (arrive_number_lem spans targets x r c d call h) ∙ ap (λ (z : List ℕ). arrive_code spans targets (said c) x ∷ z) (k.0 ∙ ap (λ (z : History). numbers spans targets z fs) left),
      k.1 ∙ ap (λ (z : History). arrive_all spans targets z fs) left,
    )

-- ---- buffers that calls lead to say a history made by calls

pub record Made (n : ℕ) (a : Lent) : Type 0 where
  pub spans : ℕ
  pub targets : ℕ
  pub holds : Holds spans targets a
  pub calls : ByCalls n spans targets (said a)

-- a call is taken and makes a history, or is refused and leaves it
by_kept : (n spans targets code : ℕ) (new old : History) → ByCalls n spans targets old → (code ≡ 0 → ByCalls n spans targets (kept code new old)) → ByCalls n spans targets (kept code new old)
by_kept n spans targets code new old b f = go (eqb code 0) refl
  where
    go : (z : Bool) → eqb code 0 ≡ z → ByCalls n spans targets (kept code new old)
    go true q = f (eqb-true code 0 q)
    go false q = subst (ByCalls n spans targets) (sym (kept_not code new old (λ (d : code ≡ 0). true≢false (sym (eq-eqb code 0 d) ∙ q)))) b

module _ (n : ℕ) where
  step : (r : ℕ) (a b : Lent) → Call r a b → Made n a → Made n b
  unfolding arrive_of checkout_of delta_of
  step r a b (Arrive x c) m = record {
    spans = m.spans;
    targets = m.targets;
    holds = arrive_holds m.spans m.targets x r a b c m.holds;
    calls = subst (ByCalls n m.spans m.targets) (sym (arrive_said m.spans m.targets x r a b c m.holds))
        (by_kept n m.spans m.targets (arrive_code m.spans m.targets (said a) x) (stored (arrive (on_units (said a)) x)) (said a) m.calls (edited (said a) x m.calls));
  }
  step r a b (Checkout v c) m = record {
    spans = m.spans;
    targets = m.targets;
    holds = checkout_holds m.spans m.targets v r a b c m.holds;
    calls = subst (ByCalls n m.spans m.targets) (sym (checkout_said m.spans m.targets v r a b c m.holds))
        (by_kept n m.spans m.targets (checkout_code m.spans m.targets (said a) v) (stored (checkout v (on_units (said a)))) (said a) m.calls (checked_out (said a) v m.calls));
  }
  step r a b (Delta out v w c) m = record {
    spans = m.spans;
    targets = m.targets;
    holds = delta_holds m.spans m.targets out v w r a b c m.holds;
    calls = subst (ByCalls n m.spans m.targets) (sym (delta_said m.spans m.targets out v w r a b c m.holds))
        (by_kept n m.spans m.targets (delta_code m.spans m.targets out (said a) v w) (stored (checkout v (on_units (said a)))) (said a) m.calls (compared (said a) v w out m.calls));
  }

  pub made : (a : Lent) → Reaches n a → Made n a
  made a (by_open c b o) =
      let f : Fresh n b = fresh n 0 c b o refl in
      record { spans = room b.spans; targets = target_room b.targets; holds = f.holds; calls = subst (ByCalls n (room b.spans) (target_room b.targets)) (sym f.history) (opened f.code) }
  made a (by_call r c b k call) = step r c b call (made c k)

  -- every history that calls reach is made by calls, and well formed
  pub by_calls : (a : Lent) → Reaches n a → ByCalls n (room a.spans) (target_room a.targets) (said a)
  by_calls a k = on (made a k)
    where
      on : Made n a → ByCalls n (room a.spans) (target_room a.targets) (said a)
      on m = subst (λ (z : ℕ). ByCalls n (room a.spans) z (said a)) (sym m.holds.range_room) (subst (λ (z : ℕ). ByCalls n z m.targets (said a)) (sym m.holds.span_room) m.calls)

  pub always_well : (a : Lent) → Reaches n a → is_well a ≡ true
  always_well a k = (made a k).holds.well

  pub run_reaches : (es : List Edit) (rs : List ℕ) (a b : Lent) → Ran es rs a b → Reaches n a → Reaches n b
  run_reaches es rs a b (none c) k = k
  run_reaches es rs a b (next x fs r ts c d f call rest) k = run_reaches fs ts d f rest (by_call r c d k (Arrive x call))

-- ---- 15 and 12 are never given for them

record Fine (r : ℕ) : Type 0 where
  not15 : r ≡ 15 → ⊥
  not12 : r ≡ 12 → ⊥

low : (m : ℕ) → m ≤ 11 → Fine m
low m p = record { not15 = λ (d : m ≡ 15). omega arith; not12 = λ (d : m ≡ 12). omega arith }

by : (b : Bool) (m rest : ℕ) → Fine m → Fine rest → Fine (unless b m rest)
by true m rest p q = q
by false m rest p q = p

past : (b : Bool) (m rest : ℕ) → b ≡ true → Fine rest → Fine (unless b m rest)
past b m rest d q = subst (λ (z : Bool). Fine (unless z m rest)) (sym d) q

or : (code rest : ℕ) → Fine code → Fine rest → Fine (or_else code rest)
or code rest p q = go (eqb code 0)
  where
    go : (b : Bool) → Fine (cond b rest code)
    go true = q
    go false = p

edit_fine : (l : List Held) (x : Edit) → Fine (edit_code l x)
unfolding edit_code
edit_fine l x =
    by (act_formed x.act) 1 _ (low 1 (omega arith))
    (by (room_opt (At x.id) (size x) && act_ids x.act) 2 _ (low 2 (omega arith))
    (by (has_peer l x.id.peer || not (leb PEERS (peer_count l))) 4 _ (low 4 (omega arith))
    (by (eq_z x.id.counter (pos (held_count l x.id.peer))) 5 _ (low 5 (omega arith))
    (by (named l x.context) 6 _ (low 6 (omega arith))
    (by (closed l x.context && own_count x) 7 0 (low 7 (omega arith)) (low 0 (omega arith)))))))

module _ (spans targets : ℕ) (h : History) (ok : valid spans targets h ≡ true) where
  arrive_fine : (x : Edit) → Fine (arrive_code spans targets h x)
  unfolding arrive_code
  arrive_fine x =
      past (valid spans targets h) 15 _ ok
      (or (edit_code h.held x) _ (edit_fine h.held x)
      (by (inside x.act x.at (units_at x.context (on_units h))) 8 _ (low 8 (omega arith))
      (by (ltb (length h.held) EDITS) 9 _ (low 9 (omega arith))
      (by (arrival_fits spans targets (on_units h) x) 10 0 (low 10 (omega arith)) (low 0 (omega arith))))))

  checkout_fine : (v : Version) → Fine (checkout_code spans targets h v)
  unfolding checkout_code
  checkout_fine v =
      past (valid spans targets h) 15 _ ok
      (by (named h.held v) 6 _ (low 6 (omega arith))
      (by (closed h.held v) 7 _ (low 7 (omega arith))
      (by (fits spans (join (units_at v (on_units h)))) 10 0 (low 10 (omega arith)) (low 0 (omega arith)))))

  delta_fine : (out : List Entry) (v w : Version) → every insertable (spans_between v w (on_units h)) ≡ true → Fine (delta_code spans targets out h v w)
  unfolding delta_code
  delta_fine out v w d =
      past (valid spans targets h) 15 _ ok
      (by (named h.held v && named h.held w) 6 _ (low 6 (omega arith))
      (by (closed h.held v && closed h.held w) 7 _ (low 7 (omega arith))
      (by (fits spans (spans_between v w (on_units h))) 10 _ (low 10 (omega arith))
      (past (every insertable (spans_between v w (on_units h))) 12 _ d
      (by (leb (length (delta v w (on_units h))) (length out)) 13 0 (record { not15 = λ (e : 13 ≡ 15). omega arith; not12 = λ (e : 13 ≡ 12). omega arith }) (low 0 (omega arith)))))))

module _ (n r : ℕ) (a b : Lent) (k : Reaches n a) where
  fine : Call r a b → Fine r
  fine c = on (made n a k) c
    where
      on : Made n a → Call r a b → Fine r
      on m (Arrive x c) = subst Fine (sym (arrive_number_lem m.spans m.targets x r a b c m.holds)) (arrive_fine m.spans m.targets (said a) (never_15 n m.spans m.targets (said a) m.calls) x)
      on m (Checkout v c) = subst Fine (sym (checkout_number_lem m.spans m.targets v r a b c m.holds)) (checkout_fine m.spans m.targets (said a) (never_15 n m.spans m.targets (said a) m.calls) v)
      on m (Delta out v w c) = subst Fine (sym (delta_number m.spans m.targets out v w r a b c m.holds))
          (delta_fine m.spans m.targets (said a) (never_15 n m.spans m.targets (said a) m.calls) out v w (never_12 n m.spans m.targets (said a) m.calls v w))

  pub never_15_calls : Call r a b → r ≡ 15 → ⊥
  never_15_calls c = (fine c).not15

  pub never_12_calls : Call r a b → r ≡ 12 → ⊥
  never_12_calls c = (fine c).not12
