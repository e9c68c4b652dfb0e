-- the rows of a joined list, counted as pieces are pushed on to the last of them
use Prim.Native.Nat.{ℕ, ◌+◌, ◌-◌, ◌<◌, ◌≤◌}
use mathlib.Core.Path.{◌≡◌, refl, sym, ap, ap₂, subst, ◌∙◌}
use mathlib.Core.Bool.{Bool}
use mathlib.Core.List.{List, [], ◌∷◌, ◌++◌, append_assoc, append-nil}
use mathlib.Core.Logic.{◌⊎◌, inl, inr}
use native.Mathlib.Omega.{arith}
use lib.ListN.{length, take, length-append}
use lib.Seq.{length-take-le}
use Rattle.span.specs.declared.span.FugueSpan.{FugueSpan}
use Rattle.span.specs.Units.{units_of, expand, Joined, join}
use Rattle.span.proofs.ForRope.{units_length, expand-append, joined_is}
use Rattle.store.specs.Row.{rows}
use Rattle.store.proofs.Laws.{length-rows}
use Rattle.rope.specs.Spans.{Stored, AllOk}
use Rattle.rope.specs.Streams.{Pushable, Pushed}
use Rattle.rope.specs.Applies.{Grown, Kept}
use Rattle.rope.proofs.Edges.{joined_right}
use Rattle.rope.proofs.Steps.{joined_ok}
use Rattle.rope.proofs.Queue.{lt-or, grown_one, grown_units}
use Rattle.rope.proofs.Working.{joined_grow}
use Rattle.rope.proofs.WellFormed.{few_rows}
use Rattle.history.specs.Edit.{Version, Held}
use Rattle.tracker.specs.declared.seen.Step.{Step}
use Rattle.tracker.specs.Looks.{seen}
use Rattle.tracker.specs.Ahead.{ahead, Place, Next}
use Rattle.tracker.proofs.Nexts.{ahead_start, ahead_end, place_start}

-- `gone` rows have gone by, m wait in q, and what is `still` to come has not been read: the units of all are `goal`
pub record Tally (goal still : List FugueSpan) (gone m : ℕ) (q : List ℕ) : Type 0 where
  pub front : List FugueSpan
  pub size : length front ≡ gone
  pub one : m ≤ 1
  pub some : (0 < m) ⊎ (front ≡ [])
  pub joined : Joined (front ++ rows m q)
  pub all : expand (front ++ rows m q) ++ still ≡ goal

none : (n : ℕ) (s : List ℕ) → n ≡ 0 → length (expand (rows n s)) ≡ 0
unfolding rows expand
none n s e = ap (λ (j : ℕ). length (expand (rows j s))) e

pub tally_start : (goal : List FugueSpan) (q : List ℕ) → Tally goal goal 0 0 q
unfolding rows Joined expand
tally_start goal q = record { front = []; size = refl; one = omega arith; some = inr refl; joined = tt; all = refl }

module _ (goal still : List FugueSpan) (gone m : ℕ) (q : List ℕ) (v : Tally goal still gone m q) where
  pub tally_joined : Joined (rows m q)
  tally_joined = joined_right v.front (rows m q) v.joined

  pub tally_few : gone + m ≤ length goal
  tally_few =
      let F = v.front ++ rows m q in
      let a = few_rows F (joined_ok F v.joined) in
      let b : length goal ≡ length (expand F) + length still = ap length (sym v.all) ∙ length-append (expand F) still in
      let d : length F ≡ gone + m = length-append v.front (rows m q) ∙ ap₂ (λ (x y : ℕ). x + y) v.size (length-rows m q) in
      omega (arith, a, b, d)

  -- the pieces P of the units still to come are pushed on, and only the last row is kept
  module _ (P rest : List FugueSpan) (ok : AllOk P) (some : 0 < length (expand P)) (cut : still ≡ expand P ++ rest) (m2 k : ℕ) (q2 r : List ℕ) (g : Grown m P m2 q q2) (kp : Kept m2 k q2 r) where
    more : List FugueSpan
    more = v.front ++ take k (rows m2 q2)

    list : more ++ rows (m2 - k) r ≡ v.front ++ join (expand (rows m q) ++ expand P)
    unfolding more
    list = append_assoc v.front (take k (rows m2 q2)) (rows (m2 - k) r) ∙ ap (λ (l : List FugueSpan). v.front ++ l) (sym kp.list ∙ g.list)

    more_size : length more ≡ gone + k
    unfolding more
    more_size =
        length-append v.front (take k (rows m2 q2)) ∙
        ap₂ (λ (a b : ℕ). a + b) v.size (length-take-le k (rows m2 q2) (rw (length-rows m2 q2) kp.most))

    grown : expand (join (expand (rows m q) ++ expand P)) ≡ expand (rows m q) ++ expand P
    grown = grown_units (rows m q) P tally_joined ok

    waits : 0 < m2
    waits = go m2 refl (lt-or 0 m2)
      where
        go : (n : ℕ) → m2 ≡ n → (0 < n) ⊎ (n ≤ 0) → 0 < m2
        go n e (inl h) = omega (arith, e, h)
        go n e (inr h) =
            let a : length (expand (rows m2 q2)) ≡ 0 = none m2 q2 (omega (arith, e, h)) in
            let b : length (expand (rows m2 q2)) ≡ length (expand (rows m q)) + length (expand P) =
            ap (λ (l : List FugueSpan). length (expand l)) g.list ∙ (ap length grown ∙ length-append (expand (rows m q)) (expand P))
            in
            absurd (omega (arith, a, b, some))

    pub tally_turn : Tally goal rest (gone + k) (m2 - k) r
    tally_turn =
        record {
          front = more;
          size = more_size;
          one = kp.few;
          some = inl (kp.last waits);
          joined = subst Joined (sym list) (joined_grow v.front P m q v.joined ok v.some);
          all = ap (λ (l : List FugueSpan). expand l ++ rest) list ∙
              (ap (λ (u : List FugueSpan). u ++ rest)
              (expand-append v.front (join (expand (rows m q) ++ expand P)) ∙
              (ap (λ (u : List FugueSpan). expand v.front ++ u) grown ∙
              (sym (append_assoc (expand v.front) (expand (rows m q)) (expand P)) ∙
              ap (λ (u : List FugueSpan). u ++ expand P) (sym (expand-append v.front (rows m q)))))) ∙
              (append_assoc (expand (v.front ++ rows m q)) (expand P) rest ∙
              (ap (λ (u : List FugueSpan). expand (v.front ++ rows m q) ++ u) (sym cut) ∙ v.all)));
        }

  pub tally_done : still ≡ [] → gone + m ≡ length (join goal)
  tally_done e =
      let done : v.front ++ rows m q ≡ join goal =
      joined_is (v.front ++ rows m q) goal v.joined
      (sym (append-nil (expand (v.front ++ rows m q))) ∙ (ap (λ (l : List FugueSpan). expand (v.front ++ rows m q) ++ l) (sym e) ∙ v.all))
      in
      sym (length-append v.front (rows m q) ∙ ap₂ (λ (a b : ℕ). a + b) v.size (length-rows m q)) ∙ ap length done

-- ---- the list at a version

module _ (both : Bool) (a b : Version) (l : List Held) (n : ℕ) (s : List ℕ) where
  abbrev pub goal_seen : List FugueSpan
  goal_seen = seen both a b l (expand (rows n s))

  pub record Counted (i from gone m : ℕ) (q : List ℕ) : Type 0 where
    pub place : Place n s i from
    pub tally : Tally goal_seen (seen both a b l (ahead n s i from)) gone m q

  pub counted_start : Stored n s → (q : List ℕ) → Counted 0 0 0 0 q
  counted_start w q =
      record {
        place = place_start n s w;
        tally = subst (λ (u : List FugueSpan). Tally goal_seen (seen both a b l u) 0 0 q) (sym (ahead_start n s)) (tally_start goal_seen q);
      }

  module _ (i from gone m : ℕ) (q : List ℕ) (v : Counted i from gone m q) where
    pub counted_room : (r : Step) → Next both a b l n s i from r → 144 ≤ length q → Pushable m r.piece q
    counted_room r x h =
        record {
          room = omega (arith, v.tally.one, h);
          joined = tally_joined goal_seen (seen both a b l (ahead n s i from)) gone m q v.tally;
          fine = x.fine;
        }

    pub counted_turn : (r : Step) → Next both a b l n s i from r → (m2 k : ℕ) (q2 t : List ℕ) → Pushed m r.piece m2 q q2 → Kept m2 k q2 t → Counted r.row r.from (gone + k) (m2 - k) t
    unfolding expand AllOk
    counted_turn r x m2 k q2 t p kp =
        let y = r.piece in
        let R = seen both a b l (ahead n s r.row r.from) in
        let z : units_of y ++ [] ≡ units_of y = append-nil (units_of y) in
        let some : 0 < length (units_of y ++ []) = subst (λ (u : List FugueSpan). 0 < length u) (sym z) (let w = units_length y in omega (arith, w, x.some)) in
        record {
          place = x.place;
          tally =
              tally_turn goal_seen (seen both a b l (ahead n s i from)) gone m q v.tally (y ∷ []) R (x.fine, tt) some
              (x.units ∙ ap (λ (u : List FugueSpan). u ++ R) (sym z)) m2 k q2 t (grown_one m m2 y q q2 p) kp;
        }

    pub counted_few : gone + m ≤ length goal_seen
    counted_few = tally_few goal_seen (seen both a b l (ahead n s i from)) gone m q v.tally

    pub counted_done : n ≤ i → gone + m ≡ length (join goal_seen)
    unfolding seen
    counted_done h = tally_done goal_seen (seen both a b l (ahead n s i from)) gone m q v.tally (ap (seen both a b l) (ahead_end n s i from h))
