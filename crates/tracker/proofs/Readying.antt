-- the delta of a well formed history, step by step: what each step may ask, and what each way out leaves
use Prim.Native.Nat.{ℕ, ◌*◌, ◌<◌, ◌≤◌}
use mathlib.Core.Path.{◌≡◌, refl, sym, ap, ap₂, subst, ◌∙◌}
use mathlib.Core.Bool.{Bool, true, false, cond}
use mathlib.Core.List.{List, map}
use native.Mathlib.Omega.{arith}
use lib.ListN.{length, drop}
use borrow.Author.Tests.{le-leb, lt-leb}
use Rattle.span.specs.declared.span.FugueSpan.{FugueSpan}
use Rattle.span.specs.Units.{expand, join}
use Rattle.span.specs.declared.refusal.Refusal.{Refusal}
use Rattle.span.specs.declared.refusal.Refusal.TheVariants as Refuse
use Rattle.span.proofs.AnswerLaws.{is_done}
use Rattle.span.proofs.RefusalLaws.{number_not_zero, answer_err}
use Rattle.store.specs.Row.{rows}
use Rattle.store.specs.Header.{count, room, spans_of}
use Rattle.rope.specs.Maybe.{DiffAnswer}
use Rattle.std.specs.Prelude.{Result, Ok, Err, IfOk}
use Rattle.span.specs.Refusal.{number_of, code_of, refused}
use Rattle.rope.specs.declared.diff.EntryNumbers.{EntryNumbers}
use Rattle.units.specs.Limits.{EDITS, PEERS}
use Rattle.units.specs.Lists.{every, over}
use Rattle.units.specs.Codes.{unless}
use Rattle.units.specs.Delta.{entries}
use Rattle.rope.specs.Edits.{WrittenIn}
use Rattle.rope.specs.Columns.{diff_rows_code, diff_number, column, column_of, Diffed}
use Rattle.rope.proofs.Keeps.{UnitsOk, units_ok}
use Rattle.rope.proofs.States.{part}
use Rattle.rope.proofs.Entering.{state_formed, rows_are}
use Rattle.history.specs.Edit.{Version, Held, History}
use Rattle.history.specs.Version.{named, rising, above, is_held}
use Rattle.history.specs.Checkout.{units_at, units_between, unit_between, checkout}
use Rattle.history.specs.Checkout as C
use Rattle.history.specs.Deltas.{spans_between}
use Rattle.history.specs.Valid.{valid}
use Rattle.history.specs.Codes.{on_units, stored}
use Rattle.history.proofs.Shorter.{one_version}
use Rattle.history.proofs.WellUnits.{Units1, of_all, units_between_lem}
use Rattle.history.proofs.StaysValid.{at_valid}
use Rattle.tracker.specs.declared.delta.Ready.{Ready}
use Rattle.tracker.specs.declared.measure.Measure.{Measure}
use Rattle.tracker.specs.Rows.{pairs, held, broken, target_room, edit_count, placeholder_in, history_in, is_history}
use Rattle.tracker.specs.Looks.{Sees, unit_seen, seen}
use Rattle.tracker.specs.Entries.{version_in, Leaves, checked_out}
use Rattle.tracker.specs.Measures.{Measures}
use Rattle.tracker.specs.Between.{versions_code, rooms_code, delta_code_in, delta_number, between, Deltas, both_of, one_of, Between, Done, Readied}
use Rattle.tracker.proofs.Leaving.{well_of, history_well, kept_not, leaves_refused, leaves_done}
use Rattle.tracker.proofs.Checking.{edit_rows, edit_rows_lem, room_same, well_head, held_are, well_rows, well_looks, well_stored}
use Rattle.tracker.proofs.Betweens.{code_versions, code_rooms, versions_six, versions_six_b, rooms_zero, both_formed}

-- ---- versions

pub broken_not : (l : List Held) → named l broken ≡ false
unfolding named rising above every is_held
broken_not l = refl

version_many : (m : ℕ) (v : List ℕ) → 16 < m → version_in m v ≡ broken
unfolding version_in
version_many m v l = ap (λ (b : Bool). cond b (pairs m v) broken) (lt-leb m PEERS l)

version_is : (m : ℕ) (v : List ℕ) → m ≤ 16 → pairs m v ≡ version_in m v
unfolding version_in
version_is m v few = sym (ap (λ (b : Bool). cond b (pairs m v) broken) (le-leb m PEERS few))

-- ---- the lists that the rows show

module _ (s t e : List ℕ) (w : is_history s t e ≡ true) (a b : List ℕ) (ka kb : ℕ) where
  abbrev A : Version
  A = version_in ka a

  abbrev B : Version
  B = version_in kb b

  abbrev H : History
  H = history_in s t e

  module _ (fa : ka ≤ 16) (h : ℕ) (eh : h ≡ edit_count e) where
    pub one_is : one_of h (edit_rows e) t ka a (spans_of s) ≡ join (units_at A (on_units H))
    unfolding seen unit_seen units_at on_units history_in
    one_is = ap₂ (λ (v : Version) (l : List Held). join (map (C.unit_at v l) (expand (spans_of s)))) (version_is ka a fa) (held_are s t e w h eh t)

    module _ (fb : kb ≤ 16) where
      pub both_is : both_of h (edit_rows e) t ka a kb b (spans_of s) ≡ spans_between A B (on_units H)
      unfolding seen unit_seen spans_between units_between on_units history_in
      both_is =
          ap₂ (λ (v : Version) (l : List Held). join (map (unit_between v (pairs kb b) l) (expand (spans_of s)))) (version_is ka a fa) (held_are s t e w h eh t) ∙
          ap (λ (v : Version). join (map (unit_between A v (held (edit_count e) (drop 64 e) t)) (expand (spans_of s)))) (version_is kb b fb)

-- ---- what refuses

module _ (s t e : List ℕ) (w : is_history s t e ≡ true) (a b : List ℕ) (ka kb most : ℕ) (la : 192 ≤ length a) (lb : 192 ≤ length b) where
  abbrev number : ℕ
  number = delta_number s t e most (A s t e w a b ka kb) (B s t e w a b ka kb)

  number_is : number ≡ delta_code_in (room s) (target_room t) most (history_in s t e) (A s t e w a b ka kb) (B s t e w a b ka kb)
  unfolding delta_number
  number_is = ap (λ (q : Bool). unless q 15 (delta_code_in (room s) (target_room t) most (history_in s t e) (A s t e w a b ka kb) (B s t e w a b ka kb))) w

  by_versions : (c : ℕ) → versions_code (history_in s t e).held (A s t e w a b ka kb) (B s t e w a b ka kb) ≡ c → (c ≡ 0 → ⊥) → c ≡ number
  by_versions c q z = sym (number_is ∙ (code_versions (room s) (target_room t) most (history_in s t e) (A s t e w a b ka kb) (B s t e w a b ka kb) (well_of s t e w).valid (λ y. z (sym q ∙ y)) ∙ q))

  pub ready_refused : (x : Refusal) → number_of x ≡ number → Readied s t e ka a kb b most (Err x)
  ready_refused x n = record { number = n; done = tt }

  pub ready_from : 16 < ka → Readied s t e ka a kb b most (Err Refuse.Version)
  ready_from l = ready_refused Refuse.Version
      (by_versions 6 (versions_six (history_in s t e).held (A s t e w a b ka kb) (B s t e w a b ka kb) (ap (named (history_in s t e).held) (version_many ka a l) ∙ broken_not (history_in s t e).held)) (λ z. omega (arith, z)))

  pub ready_to : 16 < kb → Readied s t e ka a kb b most (Err Refuse.Version)
  ready_to l = ready_refused Refuse.Version
      (by_versions 6 (versions_six_b (history_in s t e).held (A s t e w a b ka kb) (B s t e w a b ka kb) (ap (named (history_in s t e).held) (version_many kb b l) ∙ broken_not (history_in s t e).held)) (λ z. omega (arith, z)))

  module _ (fa : ka ≤ 16) (fb : kb ≤ 16) (h : ℕ) (eh : h ≡ edit_count e) where
    pub ready_asks : (h * 256 ≤ length (edit_rows e)) × (h ≤ EDITS) × (ka * 12 ≤ length a) × (kb * 12 ≤ length b)
    ready_asks = let k = well_rows s t e w h eh in (k.0, k.1, omega (arith, fa, la), omega (arith, fb, lb))

    module _ (c : ℕ) (ec : (u : List ℕ) → c ≡ versions_code (held h (edit_rows e) u) (pairs ka a) (pairs kb b)) where
      versions_is : versions_code (history_in s t e).held (A s t e w a b ka kb) (B s t e w a b ka kb) ≡ c
      unfolding history_in
      versions_is = sym (ec t ∙ (ap₂ (λ (v : Version) (l : List Held). versions_code l v (pairs kb b)) (version_is ka a fa) (held_are s t e w h eh t) ∙ ap (versions_code (held (edit_count e) (drop 64 e) t) (A s t e w a b ka kb)) (version_is kb b fb)))

      pub ready_versions : (x : Refusal) → c ≡ number_of x → Readied s t e ka a kb b most (Err x)
      ready_versions x q = ready_refused x (sym q ∙ by_versions c versions_is (λ z. number_not_zero x (sym q ∙ z)))

      module _ (zc : c ≡ 0) (n : ℕ) (en : n ≡ count s) where
        pub ready_sees : Sees n (part s) h (edit_rows e) t ka a kb b
        ready_sees = record { stored = well_stored s t e w n en; first = well_looks s t e w h eh ka a ready_asks.2; second = well_looks s t e w h eh kb b ready_asks.3 }

        pub ready_sees_one : Sees n (part s) h (edit_rows e) t ka a ka a
        ready_sees_one = let l = well_looks s t e w h eh ka a ready_asks.2 in record { stored = well_stored s t e w n en; first = l; second = l }

        module _ (x : Measure) (ex : Measures (both_of h (edit_rows e) t ka a kb b (rows n (part s))) x) (spans : ℕ) (es : spans ≡ room s)
            (d : ℕ) (ed : (l : List FugueSpan) → Measures l x → d ≡ rooms_code spans most l) where
          abbrev k : ℕ
          k = x.rows

          list_is : rows n (part s) ≡ spans_of s
          list_is = rows_are s (well_of s t e w).state n en

          rooms_is : d ≡ rooms_code (room s) most (both_of h (edit_rows e) t ka a kb b (spans_of s))
          rooms_is = ed (both_of h (edit_rows e) t ka a kb b (rows n (part s))) ex ∙ ap₂ (λ (j : ℕ) (l : List FugueSpan). rooms_code j most (both_of h (edit_rows e) t ka a kb b l)) es list_is

          rooms_number : d ≡ number
          rooms_number =
              rooms_is ∙ (ap (rooms_code (room s) most) (both_is s t e w a b ka kb fa h eh fb) ∙
              sym (number_is ∙ code_rooms (room s) (target_room t) most (history_in s t e) (A s t e w a b ka kb) (B s t e w a b ka kb) (well_of s t e w).valid (versions_is ∙ zc)))

          pub ready_rooms : (y : Refusal) → d ≡ number_of y → Readied s t e ka a kb b most (Err y)
          ready_rooms y q = ready_refused y (sym q ∙ rooms_number)

          module _ (zd : d ≡ 0) (m : ℕ) (em : m ≡ length (one_of h (edit_rows e) t ka a (rows n (part s)))) where
            zero : (length (both_of h (edit_rows e) t ka a kb b (spans_of s)) ≤ room s) × (diff_rows_code most (both_of h (edit_rows e) t ka a kb b (spans_of s)) ≡ 0)
            zero = rooms_zero (room s) most (both_of h (edit_rows e) t ka a kb b (spans_of s)) (sym rooms_is ∙ zd)

            formed_list : UnitsOk (expand (spans_of s))
            formed_list = units_ok (spans_of s) (state_formed s (well_of s t e w).state n en)

            counted : k ≡ length (both_of h (edit_rows e) t ka a kb b (spans_of s))
            counted = ex.rows ∙ ap (λ (l : List FugueSpan). length (both_of h (edit_rows e) t ka a kb b l)) list_is

            one : m ≡ length (one_of h (edit_rows e) t ka a (spans_of s))
            one = em ∙ ap (λ (l : List FugueSpan). length (one_of h (edit_rows e) t ka a l)) list_is

            units1 : Units1 (on_units (history_in s t e)).list
            unfolding on_units history_in
            units1 = of_all (expand (spans_of s)) formed_list.each

            less : m ≤ k
            less =
                let v = one_version (A s t e w a b ka kb) (B s t e w a b ka kb) (on_units (history_in s t e)) (units_between_lem (A s t e w a b ka kb) (B s t e w a b ka kb) (on_units (history_in s t e)) units1) in
                let y : m ≡ length (join (units_at (A s t e w a b ka kb) (on_units (history_in s t e)))) = one ∙ ap length (one_is s t e w a b ka kb fa h eh) in
                let z : k ≡ length (spans_between (A s t e w a b ka kb) (B s t e w a b ka kb) (on_units (history_in s t e))) = counted ∙ ap length (both_is s t e w a b ka kb fa h eh fb) in
                omega (arith, v, y, z)

            asks : Between n k m s h (edit_rows e) t ka a kb b
            asks =
                record {
                  stands = record { state = (well_of s t e w).state; rows = en; first = ready_sees.first; second = ready_sees.second; counted = counted; room = omega (arith, zero.0, counted) };
                  formed = both_formed (pairs ka a) (pairs kb b) (held h (edit_rows e) t) (expand (spans_of s)) formed_list;
                  one = one;
                  few = omega (arith, less, zero.0, counted);
                }

            pub ready_done : Readied s t e ka a kb b most (Ok (record { edits = h; rows = n; both = k; one = m }))
            ready_done =
                record {
                  number = sym zd ∙ rooms_number;
                  done = record {
                    from = fa;
                    to = fb;
                    edits = eh;
                    asks = subst (λ (E : List ℕ). Between n k m s h E t ka a kb b) (edit_rows_lem e) asks;
                    diff = subst (λ (E : List ℕ). diff_rows_code most (both_of h E t ka a kb b (spans_of s)) ≡ 0) (edit_rows_lem e) zero.1;
                  };
                }

-- ---- what the columns are after a refusal

pub diffed_refused : (x : Refusal) (code : ℕ) (l : List FugueSpan) (c1 c2 c3 c4 c5 c6 : List ℕ) → number_of x ≡ code → Diffed code l (Err x) c1 c2 c3 c4 c5 c6 c1 c2 c3 c4 c5 c6
diffed_refused x code l c1 c2 c3 c4 c5 c6 q =
    let z : code ≡ 0 → ⊥ = λ y. number_not_zero x (q ∙ y) in
    let f : (g : EntryNumbers → ℕ) (c : List ℕ) → c ≡ column_of code g (entries l) c = λ g c. sym (kept_not code (over (column g (entries l)) c) c z) in
    record {
      said = answer_err x code (length (entries l)) q;
      kind = f (λ (x : EntryNumbers). x.kind) c1;
      first = f (λ (x : EntryNumbers). x.a) c2;
      second = f (λ (x : EntryNumbers). x.b) c3;
      peer = f (λ (x : EntryNumbers). x.peer) c4;
      counter = f (λ (x : EntryNumbers). x.counter) c5;
      lamport = f (λ (x : EntryNumbers). x.lamport) c6;
    }

pub deltas_refused : (s t e : List ℕ) (a b : Version) (most : ℕ) (x : Refusal) (c1 c2 c3 c4 c5 c6 : List ℕ) → number_of x ≡ delta_number s t e most a b → Deltas s t e a b most (Err x) s c1 c2 c3 c4 c5 c6 c1 c2 c3 c4 c5 c6
deltas_refused s t e a b most x c1 c2 c3 c4 c5 c6 n =
    record {
      leaves = leaves_refused (delta_number s t e most a b) (checked_out s t e a) (number_of x) s t e n (number_not_zero x);
      diffed = diffed_refused x (delta_number s t e most a b) (between s t e a b) c1 c2 c3 c4 c5 c6 n;
    }

-- ---- the delta, from what was made ready

module _ (s t e : List ℕ) (w : is_history s t e ≡ true) (a b : List ℕ) (ka kb most : ℕ) (o : Result Ready Refusal) (y : Readied s t e ka a kb b most o) where
  pub to_refused : (x : Refusal) → o ≡ Err x → (c1 c2 c3 c4 c5 c6 : List ℕ) → Deltas s t e (version_in ka a) (version_in kb b) most (Err x) s c1 c2 c3 c4 c5 c6 c1 c2 c3 c4 c5 c6
  to_refused x z c1 c2 c3 c4 c5 c6 = deltas_refused s t e (version_in ka a) (version_in kb b) most x c1 c2 c3 c4 c5 c6 (sym (ap code_of z) ∙ y.number)

  module _ (r : Ready) (z : o ≡ Ok r) where
    d : Done s t e ka a kb b most r
    d = subst (λ (q : Result Ready Refusal). IfOk q (Done s t e ka a kb b most)) z y.done

    pub to_asks : Between r.rows r.both r.one s r.edits (edit_rows e) t ka a kb b
    to_asks = subst (λ (E : List ℕ). Between r.rows r.both r.one s r.edits E t ka a kb b) (sym (edit_rows_lem e)) d.asks

    zero_number : delta_number s t e most (version_in ka a) (version_in kb b) ≡ 0
    zero_number = sym y.number ∙ ap code_of z

    list : both_of r.edits (edit_rows e) t ka a kb b (spans_of s) ≡ between s t e (version_in ka a) (version_in kb b)
    unfolding between
    list = both_is s t e w a b ka kb d.from r.edits d.edits d.to

    diff_zero : diff_rows_code most (both_of r.edits (edit_rows e) t ka a kb b (spans_of s)) ≡ 0
    diff_zero = subst (λ (E : List ℕ). diff_rows_code most (both_of r.edits E t ka a kb b (spans_of s)) ≡ 0) (sym (edit_rows_lem e)) d.diff

    list_changed : (u : List ℕ) → spans_of u ≡ join (units_at (version_in ka a) (on_units (history_in s t e))) → history_in u t e ≡ checked_out s t e (version_in ka a)
    unfolding history_in checked_out stored checkout on_units
    list_changed u q = ap (λ (l : List FugueSpan). record { placeholder = placeholder_in e; list = l; held = held (edit_count e) (drop 64 e) t }) q

    after_is : checked_out s t e (version_in ka a) ≡ stored (checkout (version_in ka a) (on_units (history_in s t e)))
    unfolding checked_out
    after_is = refl

    module _ (u : List ℕ) (len : length u ≡ length s) (x : WrittenIn (one_of r.edits (edit_rows e) t ka a (spans_of s)) s u) where
      at : spans_of u ≡ join (units_at (version_in ka a) (on_units (history_in s t e)))
      at = x.written.list ∙ one_is s t e w a b ka kb d.from r.edits d.edits

      fit : length (join (units_at (version_in ka a) (on_units (history_in s t e)))) ≤ room s
      fit = let q = one_is s t e w a b ka kb d.from r.edits d.edits in let p = ap length q in let k = to_asks in omega (arith, p, k.one, k.few)

      left : (q : ℕ) → q ≡ 0 → Leaves (delta_number s t e most (version_in ka a) (version_in kb b)) (checked_out s t e (version_in ka a)) q s t e u t e
      left q p =
          leaves_done (delta_number s t e most (version_in ka a) (version_in kb b)) (checked_out s t e (version_in ka a)) q s t e u t e (p ∙ sym zero_number) zero_number (list_changed u at)
          (history_well u t e (well_of s t e w).long (let k = well_head s t e w in omega (arith, len, k))
          (ap₂ (λ (j : ℕ) (l : History). valid j (target_room t) l) (room_same s u len) (list_changed u at ∙ after_is) ∙ at_valid (room s) (target_room t) (history_in s t e) (well_of s t e w).valid (version_in ka a) fit))
          (record { head = x.written.head; spans = x.past; targets = refl; edits = refl })

      pub to_done : (q : DiffAnswer) (c1 c2 c3 c4 c5 c6 d1 d2 d3 d4 d5 d6 : List ℕ)
          → Diffed (diff_rows_code most (both_of r.edits (edit_rows e) t ka a kb b (spans_of s))) (both_of r.edits (edit_rows e) t ka a kb b (spans_of s)) q c1 c2 c3 c4 c5 c6 d1 d2 d3 d4 d5 d6
          → Deltas s t e (version_in ka a) (version_in kb b) most q u c1 c2 c3 c4 c5 c6 d1 d2 d3 d4 d5 d6
      to_done q c1 c2 c3 c4 c5 c6 d1 d2 d3 d4 d5 d6 v =
          let f : Diffed (delta_number s t e most (version_in ka a) (version_in kb b)) (between s t e (version_in ka a) (version_in kb b)) q c1 c2 c3 c4 c5 c6 d1 d2 d3 d4 d5 d6 =
          subst (λ (l : List FugueSpan). Diffed (delta_number s t e most (version_in ka a) (version_in kb b)) l q c1 c2 c3 c4 c5 c6 d1 d2 d3 d4 d5 d6) list
          (subst (λ (j : ℕ). Diffed j (both_of r.edits (edit_rows e) t ka a kb b (spans_of s)) q c1 c2 c3 c4 c5 c6 d1 d2 d3 d4 d5 d6) (diff_zero ∙ sym zero_number) v)
          in
          let g : diff_number q ≡ 0 = ap diff_number (f.said ∙ sym (is_done Ok refused (delta_number s t e most (version_in ka a) (version_in kb b)) {x = length (entries (between s t e (version_in ka a) (version_in kb b)))} zero_number refl)) in
          record { leaves = left (diff_number q) g; diffed = f }
