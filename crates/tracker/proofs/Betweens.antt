-- the list with both statuses: its number by its tests, the list at A behind it, and both written in turn
use Prim.Native.Nat.{ℕ, ◌<◌, ◌≤◌}
use mathlib.Core.Path.{◌≡◌, refl, sym, ap, subst, ◌∙◌}
use mathlib.Core.Bool.{Bool, true, false, cond, ◌&&◌}
use mathlib.Core.List.{List, [], ◌∷◌}
use native.Mathlib.Omega.{arith}
use lib.Dec.{leb}
use lib.ListN.{length, drop}
use borrow.Author.Tests.{eq-eqb, ne_eqb, leb-true, le-leb, lt-leb}
use Rattle.span.specs.declared.span.FugueSpan.{FugueSpan}
use Rattle.span.specs.Units.{expand, join}
use Rattle.span.proofs.Unique.{AllUnits, expand-join}
use Rattle.store.specs.Row.{rows}
use Rattle.store.specs.Header.{count, room, spans_of}
use Rattle.store.proofs.Laws.{length-rows}
use Rattle.rope.specs.Maybe.{DiffAnswer}
use Rattle.units.specs.declared.diff.Entry.{Entry}
use Rattle.units.specs.Limits.{fits}
use Rattle.units.specs.Lists.{every}
use Rattle.units.specs.Change.{with_state}
use Rattle.units.specs.Store.{well_formed, is_state}
use Rattle.units.specs.Codes.{unless}
use Rattle.rope.specs.Spans.{Stored}
use Rattle.rope.specs.Edits.{WrittenIn}
use Rattle.units.specs.Delta.{insertable, entries}
use Rattle.rope.specs.Columns.{diff_rows_code, Diffed}
use Rattle.rope.proofs.Alikes.{Alike, alike_ok}
use Rattle.rope.proofs.Keeps.{UnitsOk, units_ok, join_formed}
use Rattle.rope.proofs.States.{part, state_rows}
use Rattle.rope.proofs.Entering.{state_head, state_stored, state_formed, rows_are}
use Rattle.history.specs.Edit.{Version, Held, History}
use Rattle.history.specs.Version.{named, closed}
use Rattle.history.specs.Checkout.{unit_between}
use Rattle.history.specs.Checkout as C
use Rattle.history.specs.Deltas.{spans_between, delta}
use Rattle.history.specs.Valid.{valid}
use Rattle.history.specs.Codes.{on_units, or_else, delta_code}
use Rattle.tracker.specs.Rows.{pairs, held}
use Rattle.tracker.specs.Looks.{unit_seen, seen}
use Rattle.tracker.specs.Entries.{Stands}
use Rattle.tracker.specs.Between.{versions_code, rooms_code, delta_code_in, both_of, one_of, Between}
use Rattle.tracker.proofs.Nexts.{seen_units}
use Rattle.tracker.proofs.Checking.{room_same}

-- ---- the numbers

unless_both : (n c : Bool) (rest : ℕ) → unless n 6 (unless c 7 rest) ≡ or_else (unless n 6 (unless c 7 0)) rest
unless_both false c rest = refl
unless_both true false rest = refl
unless_both true true rest = refl

-- the number is that of crate history
pub delta_code_lem : (spans targets : ℕ) (out : List Entry) (h : History) (a b : Version) → delta_code spans targets out h a b ≡ delta_code_in spans targets (length out) h a b
unfolding delta_code delta_code_in versions_code rooms_code diff_rows_code delta
delta_code_lem spans targets out h a b =
    ap (λ (k : ℕ). unless (valid spans targets h) 15 k)
    (unless_both (named h.held a && named h.held b) (closed h.held a && closed h.held b)
    (unless (fits spans (spans_between a b (on_units h))) 10 (unless (every insertable (spans_between a b (on_units h))) 12 (unless (leb (length (entries (spans_between a b (on_units h)))) (length out)) 13 0))))

module _ (spans targets most : ℕ) (h : History) (a b : Version) (ok : valid spans targets h ≡ true) where
  code_is : delta_code_in spans targets most h a b ≡ or_else (versions_code h.held a b) (rooms_code spans most (spans_between a b (on_units h)))
  unfolding delta_code_in
  code_is = ap (λ (t : Bool). unless t 15 (or_else (versions_code h.held a b) (rooms_code spans most (spans_between a b (on_units h))))) ok

  pub code_versions : (versions_code h.held a b ≡ 0 → ⊥) → delta_code_in spans targets most h a b ≡ versions_code h.held a b
  code_versions z = code_is ∙ ap (λ (t : Bool). cond t (rooms_code spans most (spans_between a b (on_units h))) (versions_code h.held a b)) (ne_eqb (versions_code h.held a b) 0 z)

  pub code_rooms : versions_code h.held a b ≡ 0 → delta_code_in spans targets most h a b ≡ rooms_code spans most (spans_between a b (on_units h))
  code_rooms z = code_is ∙ ap (λ (t : Bool). cond t (rooms_code spans most (spans_between a b (on_units h))) (versions_code h.held a b)) (eq-eqb (versions_code h.held a b) 0 z)

-- two versions, by what is asked of each
pub versions_by : (l : List Held) (a b : Version) (n m c d : Bool) → named l a ≡ n → named l b ≡ m → closed l a ≡ c → closed l b ≡ d → unless (n && m) 6 (unless (c && d) 7 0) ≡ versions_code l a b
unfolding versions_code
versions_by l a b n m c d p q r s = rw (p, q, r, s)

and-false : (b : Bool) → (b && false) ≡ false
and-false true = refl
and-false false = refl

pub versions_six : (l : List Held) (a b : Version) → named l a ≡ false → versions_code l a b ≡ 6
unfolding versions_code
versions_six l a b e = ap (λ (t : Bool). unless (t && named l b) 6 (unless (closed l a && closed l b) 7 0)) e

pub versions_six_b : (l : List Held) (a b : Version) → named l b ≡ false → versions_code l a b ≡ 6
unfolding versions_code
versions_six_b l a b e = ap (λ (t : Bool). unless t 6 (unless (closed l a && closed l b) 7 0)) (ap (λ (t : Bool). named l a && t) e ∙ and-false (named l a))

-- rooms, test by test
module _ (spans most : ℕ) (l : List FugueSpan) where
  pub rooms_full : spans < length l → 10 ≡ rooms_code spans most l
  unfolding rooms_code fits
  rooms_full k = sym (ap (λ (t : Bool). unless t 10 (diff_rows_code most l)) (lt-leb (length l) spans k))

  module _ (k : length l ≤ spans) where
    pub rooms_rest : rooms_code spans most l ≡ diff_rows_code most l
    unfolding rooms_code fits
    rooms_rest = ap (λ (t : Bool). unless t 10 (diff_rows_code most l)) (le-leb (length l) spans k)

    pub rooms_real : every insertable l ≡ false → 12 ≡ rooms_code spans most l
    unfolding diff_rows_code
    rooms_real e = sym (rooms_rest ∙ ap (λ (t : Bool). unless t 12 (unless (leb (length (entries l)) most) 13 0)) e)

    module _ (e : every insertable l ≡ true) where
      real : diff_rows_code most l ≡ unless (leb (length (entries l)) most) 13 0
      unfolding diff_rows_code
      real = ap (λ (t : Bool). unless t 12 (unless (leb (length (entries l)) most) 13 0)) e

      pub rooms_short : most < length (entries l) → 13 ≡ rooms_code spans most l
      rooms_short j = sym (rooms_rest ∙ (real ∙ ap (λ (t : Bool). unless t 13 0) (lt-leb (length (entries l)) most j)))

      pub rooms_done : length (entries l) ≤ most → 0 ≡ rooms_code spans most l
      rooms_done j = sym (rooms_rest ∙ (real ∙ ap (λ (t : Bool). unless t 13 0) (le-leb (length (entries l)) most j)))

-- where nothing refuses, the list fits, and get_diff is not refused either
pub rooms_zero : (spans most : ℕ) (l : List FugueSpan) → rooms_code spans most l ≡ 0 → (length l ≤ spans) × (diff_rows_code most l ≡ 0)
unfolding rooms_code fits
rooms_zero spans most l e = go (leb (length l) spans) refl e
  where
    go : (t : Bool) → leb (length l) spans ≡ t → unless t 10 (diff_rows_code most l) ≡ 0 → (length l ≤ spans) × (diff_rows_code most l ≡ 0)
    go true p z = (leb-true (length l) spans p, z)
    go false p z = absurd (omega (arith, z))

-- ---- the units with both statuses, and at A

module _ (a b : Version) (l : List Held) where
  seen_twice : (us : List FugueSpan) → seen false a a l (seen true a b l us) ≡ seen false a a l us
  unfolding seen unit_seen unit_between C.unit_at with_state
  seen_twice [] = refl
  seen_twice (u ∷ us) = ap (λ (z : List FugueSpan). unit_seen false a a l u ∷ z) (seen_twice us)

  alike_both : (us : List FugueSpan) → Alike us (seen true a b l us)
  unfolding Alike seen unit_seen unit_between with_state
  alike_both [] = tt
  alike_both (u ∷ us) = ((refl, (refl, refl)), alike_both us)

  pub both_ok : (us : List FugueSpan) → UnitsOk us → UnitsOk (seen true a b l us)
  both_ok us w = alike_ok us (seen true a b l us) w (alike_both us) (seen_units true a b l us w.each)

  pub both_formed : (us : List FugueSpan) → UnitsOk us → well_formed (join (seen true a b l us)) ≡ true
  both_formed us w = join_formed (seen true a b l us) (both_ok us w)

  -- the list at A is the same behind the list with both statuses
  pub one_behind : (us : List FugueSpan) → AllUnits us → seen false a a l (expand (join (seen true a b l us))) ≡ seen false a a l us
  one_behind us ok = ap (seen false a a l) (expand-join (seen true a b l us) (seen_units true a b l us ok)) ∙ seen_twice us

-- ---- a list written, and another behind it

pub written_state : (l : List FugueSpan) (s u : List ℕ) → 72 ≤ length s → length u ≡ length s → WrittenIn l s u → length l ≤ room s → well_formed l ≡ true → (is_state u ≡ true) × (length l ≡ count u)
unfolding spans_of
written_state l s u head len w few formed =
    let c : length l ≡ count u = ap length (sym w.written.list) ∙ length-rows (count u) (drop 72 u) in
    let f : count u ≤ room u = omega (arith, c, few, room_same s u len) in
    (state_rows u (omega (arith, head, len)) f ∙ (ap well_formed w.written.list ∙ formed), c)

pub written_both : (l m : List FugueSpan) (s u v : List ℕ) → WrittenIn l s u → WrittenIn m u v → WrittenIn m s v
written_both l m s u v x y = record { written = record { list = y.written.list; head = y.written.head ∙ x.written.head }; past = y.past ∙ x.past }

module _ (n k m : ℕ) (s : List ℕ) (h : ℕ) (e t : List ℕ) (ka : ℕ) (a : List ℕ) (kb : ℕ) (b : List ℕ) (w : Between n k m s h e t ka a kb b) where
  abbrev L : List FugueSpan
  L = both_of h e t ka a kb b (spans_of s)

  head : 72 ≤ length s
  head = state_head s w.stands.state

  units : UnitsOk (expand (spans_of s))
  units = units_ok (spans_of s) (state_formed s w.stands.state n w.stands.rows)

  module _ (u : List ℕ) (len : length u ≡ length s) (x : WrittenIn L s u) where
    state : (is_state u ≡ true) × (length L ≡ count u)
    state = written_state L s u head len x (omega (arith, w.stands.counted, w.stands.room)) w.formed

    pub both_head : 72 ≤ length u
    both_head = omega (arith, head, len)

    rows_u : k ≡ count u
    rows_u = w.stands.counted ∙ state.1

    pub both_stored : Stored k (part u)
    both_stored = state_stored u state.0 k rows_u

    list_u : rows k (part u) ≡ L
    list_u = rows_are u state.0 k rows_u ∙ x.written.list

    pub both_diffed : (most : ℕ) (r : DiffAnswer) (c1 c2 c3 c4 c5 c6 d1 d2 d3 d4 d5 d6 : List ℕ)
        → Diffed (diff_rows_code most (rows k (part u))) (rows k (part u)) r c1 c2 c3 c4 c5 c6 d1 d2 d3 d4 d5 d6 → Diffed (diff_rows_code most L) L r c1 c2 c3 c4 c5 c6 d1 d2 d3 d4 d5 d6
    both_diffed most r c1 c2 c3 c4 c5 c6 d1 d2 d3 d4 d5 d6 z =
        subst (λ (l : List FugueSpan). Diffed (diff_rows_code most l) l r c1 c2 c3 c4 c5 c6 d1 d2 d3 d4 d5 d6) list_u z

    one_u : one_of h e t ka a (spans_of u) ≡ one_of h e t ka a (spans_of s)
    one_u =
        ap (λ (l : List FugueSpan). one_of h e t ka a l) x.written.list ∙
        ap join (one_behind (pairs ka a) (pairs kb b) (held h e t) (expand (spans_of s)) units.each)

    pub one_stands : Stands false k m u h e t ka a ka a
    one_stands =
        record {
          state = state.0;
          rows = rows_u;
          first = w.stands.first;
          second = w.stands.first;
          counted = w.one ∙ ap length (sym one_u);
          room = omega (arith, w.few, room_same s u len);
        }

    pub one_written : (v : List ℕ) → WrittenIn (one_of h e t ka a (spans_of u)) u v → WrittenIn (one_of h e t ka a (spans_of s)) s v
    one_written v y = written_both L (one_of h e t ka a (spans_of s)) s u v x (subst (λ (l : List FugueSpan). WrittenIn l u v) one_u y)
