-- the entries insert and clear_diff_status, step by step: what each step may ask, and what each way out leaves
use Prim.Native.Nat.{ℕ, ◌+◌, ◌-◌, ◌*◌, ◌<◌, ◌≤◌}
use mathlib.Core.Path.{◌≡◌, refl, sym, ap, subst, ◌∙◌}
use mathlib.Core.Bool.{Bool, true, false, cond, true≢false}
use mathlib.Core.List.{List}
use native.Mathlib.Omega.{arith}
use lib.Dec.{eqb}
use lib.ListN.{length, take, drop, length-drop}
use lib.Seq.{length-take-le}
use borrow.Author.Tests.{eqb-true, eqb-false}
use Rattle.words.specs.Le.{bytes_of, put}
use Rattle.span.specs.declared.span.FugueSpan.{FugueSpan}
use Rattle.span.specs.Maybe.{SpanAnswer}
use Rattle.std.specs.Prelude.{Ok as Done, Err}
use Rattle.span.specs.declared.refusal.Refusal.{Refusal}
use Rattle.span.specs.Refusal.{number_of, refusal_of, refused as Refused}
use Rattle.span.specs.Answer.{answer}
use Rattle.span.specs.Chunk.{formed}
use Rattle.span.specs.Span.{len_span, ids_ok, span_code}
use Rattle.span.specs.Units.{expand, join}
use Rattle.store.specs.Row.{rows}
use Rattle.rope.specs.declared.insert.Plan.{Plan}
use Rattle.units.specs.Place.{insert_units}
use Rattle.units.specs.Change.{clear_units}
use Rattle.units.specs.Store.{count, room, spans_of, well_formed, is_state, state_code}
use Rattle.units.specs.Codes.{unless, kept, insert_code, insert_of, ask_code, clear_of}
use Rattle.rope.specs.Spans.{AllOk, Stored, Ready}
use Rattle.rope.specs.Plans.{planned, plan_rows, Can, Planned}
use Rattle.rope.specs.Edits.{WrittenIn, EditedIn, insert_number, insert_list, insert_first, Asked, Writable}
use Rattle.rope.proofs.WellFormed.{formed_of}
use Rattle.rope.proofs.States.{part, part_rest, part_spans, room_most, room_long, State, state_of, code_state, code_none}
use Rattle.rope.proofs.Planning.{plan_length}
use Rattle.rope.proofs.Editing.{rows_front, can_front, back_in, written_in, refused_in, done_in, edited_in}
use Rattle.rope.proofs.Admits.{code_span, code_first, code_room, code_done, ready_of}

-- ---- a well formed store

module _ (s : List ℕ) (st : is_state s ≡ true) where
  st_of : State s
  st_of = state_of s st

  pub state_head : 72 ≤ length s
  state_head = st_of.head

  module _ (n : ℕ) (en : n ≡ count s) where
    pub rows_are : rows n (part s) ≡ spans_of s
    rows_are = ap (λ (k : ℕ). rows k (part s)) en ∙ part_spans s

    pub state_stored : Stored n (part s)
    state_stored = subst (λ (k : ℕ). Stored k (part s)) (sym en) st_of.stored

    pub state_formed : well_formed (spans_of s) ≡ true
    state_formed = ap well_formed (sym rows_are) ∙ state_stored.formed

    pub state_fits : n ≤ room s
    state_fits = omega (arith, en, st_of.fits)

    pub state_few : n ≤ 65536
    state_few = omega (arith, en, st_of.fits, room_most s)

    pub state_rows : (n * 72 ≤ length (part s)) × (n ≤ 65536)
    state_rows = (state_stored.long, state_few)

    pub state_each : AllOk (spans_of s)
    state_each = (formed_of (spans_of s) state_formed).each

-- ---- the room that is lent, where it ends at e

module _ (s : List ℕ) (h : 72 ≤ length s) (e : ℕ) (ee : e ≡ 72 + room s * 72) where
  abbrev pub lent : List ℕ
  lent = take (e - 72) (drop 72 s)

  bytes_are : e - 72 ≡ room s * 72
  bytes_are = omega (arith, ee)

  bytes_fit : e - 72 ≤ length (drop 72 s)
  bytes_fit = omega (arith, bytes_are, room_long s, length-drop 72 s)

  pub end_fits : e ≤ length s
  end_fits = omega (arith, h, ee, room_long s)

  pub lent_long : length lent ≡ e - 72
  lent_long = length-take-le (e - 72) (drop 72 s) bytes_fit

  bytes_most : e - 72 ≤ 4718592
  bytes_most = omega (arith, bytes_are, room_most s)

  pub lent-rows : (n : ℕ) → n ≤ room s → rows n lent ≡ rows n (drop 72 s)
  lent-rows n k = rows_front n (e - 72) (drop 72 s) (omega (arith, bytes_are, k)) bytes_fit

  pub lent_back : (q t : List ℕ) (k : ℕ) (l : List FugueSpan) → length q ≡ length lent → k ≤ room s → t ≡ put 0 (bytes_of 8 k) (back_in s q (e - 72) h) → rows k q ≡ l → WrittenIn l s t
  lent_back q t k l len few et f = written_in s q t (e - 72) k l h (len ∙ lent_long) bytes_most (omega (arith, bytes_are, few)) et f

-- ---- a plan carried out

module _ (p : Plan) (n : ℕ) (s : List ℕ) (w : Writable p n s) (e : ℕ) (ee : e ≡ 72 + room s * 72) where
  pub write_asks : (n * 72 ≤ length (lent s w.head e ee)) × (n ≤ 65536) × Can p n (lent s w.head e ee) × (plan_rows p n * 72 ≤ length (lent s w.head e ee))
  write_asks =
      let b : e - 72 ≡ room s * 72 = bytes_are s w.head e ee in
      let l = lent_long s w.head e ee in
      (omega (arith, b, l, w.fits), omega (arith, w.fits, room_most s), can_front p n (e - 72) (drop 72 s) (omega (arith, b, w.fits)) (bytes_fit s w.head e ee) w.can, omega (arith, b, l, w.after))

  pub write_done : (q t : List ℕ) (k : ℕ) → length q ≡ length (lent s w.head e ee) → rows (plan_rows p n) q ≡ planned p (rows n (lent s w.head e ee)) → k ≡ plan_rows p n → t ≡ put 0 (bytes_of 8 k) (back_in s q (e - 72) w.head) → WrittenIn (planned p (rows n (drop 72 s))) s t
  write_done q t k len f ek et =
      lent_back s w.head e ee q t k (planned p (rows n (drop 72 s))) len (omega (arith, ek, w.after)) et
      (ap (λ (m : ℕ). rows m q) ek ∙ (f ∙ ap (planned p) (lent-rows s w.head e ee n w.fits)))

-- ---- insert, where the store and the span are well formed

module _ (s : List ℕ) (at : ℕ) (x : FugueSpan) (st : is_state s ≡ true) (fine : span_code x ≡ 0) (n : ℕ) (en : n ≡ count s) (units : ℕ) (eu : units ≡ length (expand (rows n (part s)))) where
  abbrev code : ℕ
  code = insert_code (room s) (spans_of s) at x

  abbrev new : List FugueSpan
  new = insert_list s at x

  pub span_asked : Asked n units x (part s)
  span_asked = record { stored = state_stored s st n en; count = eu; fine = fine }

  module _ (k : ℕ) (ek : k ≡ insert_first (rows n (part s)) at x) where
    first_is : k ≡ insert_first (spans_of s) at x
    first_is = ek ∙ ap (λ (l : List FugueSpan). insert_first l at x) (rows_are s st n en)

    pub span_first : (k ≡ 0 → ⊥) → EditedIn code new k s s
    span_first z =
        refused_in code new k s
        (first_is ∙ sym (code_first (room s) (spans_of s) at x (state_formed s st n en) fine (λ e. z (first_is ∙ e))))
        z

    module _ (z : k ≡ 0) where
      pub span_ready : Ready n units at x (part s)
      span_ready = ready_of n units at x (part s) span_asked (sym ek ∙ z)

      module _ (p : Plan) (pl : Planned p n (insert_units at x (expand (rows n (part s)))) (part s)) (most m : ℕ) (er : most ≡ room s) (em : m ≡ plan_rows p n) where
        new_is : planned p (rows n (part s)) ≡ new
        new_is = pl.list ∙ ap (λ (l : List FugueSpan). join (insert_units at x (expand l))) (rows_are s st n en)

        count_is : length new ≡ m
        count_is = ap length (sym new_is) ∙ (plan_length n (part s) p pl.can ∙ sym em)

        pub span_full : most < m → EditedIn code new 10 s s
        span_full h =
            refused_in code new 10 s
            (sym (code_room (room s) (spans_of s) at x (state_formed s st n en) fine (sym first_is ∙ z) (omega (arith, h, er, count_is))))
            (λ e. omega (arith, e))

        pub span_writable : m ≤ most → Writable p n s
        span_writable h =
            record {
              head = state_head s st;
              fits = state_fits s st n en;
              can = subst (Can p n) (part_rest s) pl.can;
              after = omega (arith, h, er, em);
            }

        pub span_done : m ≤ most → (t : List ℕ) → WrittenIn (planned p (rows n (drop 72 s))) s t → EditedIn code new 0 s t
        span_done h t w =
            done_in code new 0 s t refl
            (code_done (room s) (spans_of s) at x (state_formed s st n en) fine (sym first_is ∙ z) (omega (arith, h, er, count_is)))
            (subst (λ (l : List FugueSpan). WrittenIn l s t) (ap (λ (b : List ℕ). planned p (rows n b)) (sym (part_rest s)) ∙ new_is) w)

-- ---- insert

-- the refusals of a span are 1 and 2
span_number : (x : FugueSpan) → (span_code x ≡ 0 → ⊥) → number_of (refusal_of (span_code x)) ≡ span_code x
unfolding span_code refusal_of
span_number x n = go (formed x.content) (ids_ok x (len_span x)) n
  where
    go : (a b : Bool) → (◌≡◌ {A = ℕ} (cond a (cond b 0 2) 1) 0 → ⊥) → ◌≡◌ {A = ℕ} (number_of (refusal_of (cond a (cond b 0 2) 1))) (cond a (cond b 0 2) 1)
    go false b m = refl
    go true false m = refl
    go true true m = absurd (m refl)

-- what an answer says
answer_code : SpanAnswer → ℕ
answer_code (Done x) = 0
answer_code (Err e) = number_of e

answer_span : FugueSpan → SpanAnswer → FugueSpan
answer_span d (Done x) = x
answer_span d (Err e) = d

is_span : SpanAnswer → Bool
is_span (Done x) = true
is_span (Err e) = false

module _ (a : SpanAnswer) (x : FugueSpan) (e : a ≡ answer Done Refused (span_code x) x) where
  -- by the code
  by_code : (t : Bool) → eqb (span_code x) 0 ≡ t → a ≡ cond t (Done x) (Refused (span_code x))
  unfolding answer
  by_code t q = e ∙ ap (λ (b : Bool). cond b (Done x) (Refused (span_code x))) q

  pub said_refused : (k : Refusal) → a ≡ Err k → (number_of k ≡ span_code x) × (span_code x ≡ 0 → ⊥)
  unfolding is_span answer_code
  said_refused k f = go (eqb (span_code x) 0) refl
    where
      go : (t : Bool) → eqb (span_code x) 0 ≡ t → (number_of k ≡ span_code x) × (span_code x ≡ 0 → ⊥)
      go true q = absurd (true≢false (ap is_span (sym (by_code true q) ∙ f)))
      go false q = (ap answer_code (sym f ∙ by_code false q) ∙ span_number x (eqb-false (span_code x) 0 q), eqb-false (span_code x) 0 q)

  pub said_done : (y : FugueSpan) → a ≡ Done y → (y ≡ x) × (span_code y ≡ 0)
  unfolding is_span answer_span
  said_done y f = go (eqb (span_code x) 0) refl
    where
      go : (t : Bool) → eqb (span_code x) 0 ≡ t → (y ≡ x) × (span_code y ≡ 0)
      go true q = let g : y ≡ x = ap (answer_span x) (sym f ∙ by_code true q) in (g, ap span_code g ∙ eqb-true (span_code x) 0 q)
      go false q = absurd (true≢false (ap is_span (sym f ∙ by_code false q)))

module _ (s : List ℕ) (at : ℕ) (x : FugueSpan) where
  number_none : is_state s ≡ false → 15 ≡ insert_number s at x
  unfolding insert_number
  number_none e = sym (ap (λ (b : Bool). unless b 15 (insert_code (room s) (spans_of s) at x)) e)

  pub number_state : is_state s ≡ true → insert_code (room s) (spans_of s) at x ≡ insert_number s at x
  unfolding insert_number
  number_state e = sym (ap (λ (b : Bool). unless b 15 (insert_code (room s) (spans_of s) at x)) e)

  pub insert_none : is_state s ≡ false → EditedIn (insert_number s at x) (insert_list s at x) 15 s s
  insert_none e = refused_in (insert_number s at x) (insert_list s at x) 15 s (number_none e) (λ z. omega (arith, z))

  module _ (st : is_state s ≡ true) (a : SpanAnswer) (ea : a ≡ answer Done Refused (span_code x) x) where
    pub insert_refused : (k : Refusal) → a ≡ Err k → EditedIn (insert_number s at x) (insert_list s at x) (number_of k) s s
    insert_refused k f =
        let w = said_refused a x ea k f in
        refused_in (insert_number s at x) (insert_list s at x) (number_of k) s
        (w.0 ∙ (sym (code_span (room s) (spans_of s) at x (state_formed s st (count s) refl) w.1) ∙ number_state st))
        (λ z. w.1 (sym w.0 ∙ z))

    pub insert_asks : (y : FugueSpan) → a ≡ Done y → (is_state s ≡ true) × (span_code y ≡ 0)
    insert_asks y f = (st, (said_done a x ea y f).1)

    pub insert_done : (y : FugueSpan) → a ≡ Done y → (r : ℕ) (t : List ℕ) → EditedIn (insert_code (room s) (spans_of s) at y) (insert_list s at y) r s t → EditedIn (insert_number s at x) (insert_list s at x) r s t
    insert_done y f r t v =
        let g = (said_done a x ea y f).0 in
        edited_in (insert_code (room s) (spans_of s) at y) (insert_number s at x) (insert_list s at y) (insert_list s at x) r s t
        (ap (insert_code (room s) (spans_of s) at) g ∙ number_state st) (ap (insert_list s at) g) v

  -- on a well formed store: the number and the list of the call on spans
  pub insert_is : is_state s ≡ true → (r : ℕ) (t : List ℕ) → EditedIn (insert_number s at x) (insert_list s at x) r s t → (r ≡ (insert_of (room s) (spans_of s) at x).0) × (spans_of t ≡ (insert_of (room s) (spans_of s) at x).1)
  unfolding insert_of
  insert_is st r t v =
      let e = sym (number_state st) in
      (v.edited.number ∙ e, v.edited.list ∙ ap (λ (c : ℕ). kept c (insert_list s at x) (spans_of s)) e)

-- ---- clear_diff_status

module _ (s : List ℕ) where
  abbrev clear : List FugueSpan
  clear = join (clear_units (expand (spans_of s)))

  pub clear_refused : is_state s ≡ false → EditedIn (state_code s) clear 15 s s
  clear_refused e = refused_in (state_code s) clear 15 s (sym (code_none s e)) (λ z. omega (arith, z))

  module _ (st : is_state s ≡ true) (n : ℕ) (en : n ≡ count s) (e : ℕ) (ee : e ≡ 72 + room s * 72) where
    lent_spans : rows n (lent s (state_head s st) e ee) ≡ spans_of s
    unfolding spans_of
    lent_spans = lent-rows s (state_head s st) e ee n (state_fits s st n en) ∙ ap (λ (k : ℕ). rows k (drop 72 s)) en

    pub clear_asks : (n * 72 ≤ length (lent s (state_head s st) e ee)) × AllOk (rows n (lent s (state_head s st) e ee))
    clear_asks =
        (omega (arith, lent_long s (state_head s st) e ee, bytes_are s (state_head s st) e ee, state_fits s st n en), subst AllOk (sym lent_spans) (state_each s st n en))

    pub clear_done : (q t : List ℕ) (k : ℕ) → length q ≡ length (lent s (state_head s st) e ee) → (rows k q ≡ join (clear_units (expand (rows n (lent s (state_head s st) e ee))))) × (k ≤ n) → t ≡ put 0 (bytes_of 8 k) (back_in s q (e - 72) (state_head s st)) → EditedIn (state_code s) clear 0 s t
    clear_done q t k len f et =
        done_in (state_code s) clear 0 s t refl (code_state s st)
        (lent_back s (state_head s st) e ee q t k clear len (omega (arith, f.1, state_fits s st n en)) et
        (f.0 ∙ ap (λ (l : List FugueSpan). join (clear_units (expand l))) lent_spans))

  pub clear_is : is_state s ≡ true → (r : ℕ) (t : List ℕ) → EditedIn (state_code s) clear r s t → (r ≡ (clear_of (spans_of s)).0) × (spans_of t ≡ (clear_of (spans_of s)).1)
  unfolding clear_of ask_code
  clear_is st r t v =
      let e : state_code s ≡ unless (well_formed (spans_of s)) 15 0 = code_state s st ∙ sym (ap (λ (b : Bool). unless b 15 0) (state_formed s st (count s) refl)) in
      (v.edited.number ∙ e, v.edited.list ∙ ap (λ (c : ℕ). kept c clear (spans_of s)) e)
