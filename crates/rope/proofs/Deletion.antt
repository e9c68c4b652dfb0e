-- the entry delete, step by step: what each step may ask, and what each way out leaves
use Prim.Native.Nat.{ℕ, zero, suc, ◌+◌, ◌-◌, ◌*◌, ◌/◌, ◌<◌, ◌≤◌}
use mathlib.Core.Path.{◌≡◌, refl, sym, ap, ap₂, subst, ◌∙◌}
use mathlib.Core.Bool.{Bool, true, false, cond}
use mathlib.Core.List.{List, [], ◌∷◌, ◌++◌}
use native.Mathlib.Omega.{arith}
use lib.Dec.{leb}
use lib.ListN.{length, drop}
use borrow.Author.Tests.{le-leb, lt-leb, leb-true, eq-eqb, ne_eqb}
use Rattle.words.specs.Le.{bytes_of, put}
use Rattle.span.specs.declared.ids.Id.{Id}
use Rattle.std.specs.Prelude.{Some as At}
use Rattle.span.specs.declared.span.FugueSpan.{FugueSpan}
use Rattle.span.proofs.AnswerLaws.{is_done, is_refused}
use Rattle.span.proofs.RefusalLaws.{number_not_zero, answer_err}
use Rattle.span.specs.Ids.{room_opt}
use Rattle.span.specs.Status.{activated}
use Rattle.span.specs.Units.{expand, join}
use Rattle.span.proofs.Unique.{join-expand}
use Rattle.store.specs.Row.{rows}
use Rattle.store.proofs.Laws.{length-rows}
use Rattle.rope.specs.declared.change.Delete.{Delete}
use Rattle.rope.specs.declared.change.Change.TheVariants as Ch
use Rattle.rope.specs.Maybe.{DeleteAnswer}
use Rattle.std.specs.Prelude.{Ok as Done, Err}
use Rattle.span.specs.declared.refusal.Refusal.{Refusal}
use Rattle.span.specs.Refusal.{number_of, refused as Refused}
use Rattle.units.specs.Limits.{fits}
use Rattle.units.specs.Place.{front, behind, shown}
use Rattle.units.specs.Store.{count, room, spans_of, well_formed, is_state}
use Rattle.units.specs.Change.{delete_units, pieces}
use Rattle.units.specs.Codes.{unless, delete_code}
use Rattle.rope.specs.Spans.{AllOk, Stored}
use Rattle.rope.specs.Pieces.{all_pieces}
use Rattle.rope.specs.Applies.{Counts, Deletes}
use Rattle.rope.specs.Reports.{Report, Listed}
use Rattle.rope.specs.Edits.{head_rest, WrittenIn}
use Rattle.rope.specs.Deletions.{out_rows, delete_number, delete_list, delete_rest, Deleted, Removes}
use Rattle.rope.proofs.WellFormed.{Formed, formed_of}
use Rattle.rope.proofs.States.{part, part_rest}
use Rattle.rope.proofs.Editing.{back_in, refused_in, done_in}
use Rattle.rope.proofs.Entering.{state_head, state_stored, state_formed, state_few, state_fits, rows_are, lent, lent_long, lent-rows, lent_back}
use Rattle.rope.proofs.Deletes.{delete_law, delete_fits, first_zero}
use Rattle.rope.proofs.Reporting.{touched_none}

-- ---- the refusals

shown_most : (us : List FugueSpan) → shown us ≤ length us
unfolding shown
shown_most [] = omega arith
shown_most (u ∷ us) = go (activated u.status) (shown_most us)
  where
    go : (t : Bool) → shown us ≤ length us → cond t (suc (shown us)) (shown us) ≤ suc (length us)
    go true h = omega arith
    go false h = omega arith

module _ (most places : ℕ) (l : List FugueSpan) (d : Delete) (reversed : Bool) where
  abbrev new : List FugueSpan
  new = join (delete_units d.at d.len d.start (expand l))

  abbrev ps : List FugueSpan
  ps = pieces l d.at d.len reversed

  rest_by : (a b c e : Bool) → room_opt (At d.start) d.len ≡ a → leb (d.at + d.len) (shown (expand l)) ≡ b → leb (length new) most ≡ c → leb (length ps) places ≡ e → unless a 2 (unless b 8 (unless c 10 (unless e 13 0))) ≡ delete_rest most places l d reversed
  unfolding delete_rest fits
  rest_by a b c e p q r t = rw (p, q, r, t)

  pub rest_ids : room_opt (At d.start) d.len ≡ false → 2 ≡ delete_rest most places l d reversed
  rest_ids p = rest_by false _ _ _ p refl refl refl

  module _ (p : room_opt (At d.start) d.len ≡ true) where
    pub rest_past : shown (expand l) < d.at + d.len → 8 ≡ delete_rest most places l d reversed
    rest_past h = rest_by true false _ _ p (lt-leb (d.at + d.len) (shown (expand l)) h) refl refl

    module _ (h : d.at + d.len ≤ shown (expand l)) where
      pub rest_full : most < length new → 10 ≡ delete_rest most places l d reversed
      rest_full k = rest_by true true false _ p (le-leb (d.at + d.len) (shown (expand l)) h) (lt-leb (length new) most k) refl

      pub rest_short : length new ≤ most → places < length ps → 13 ≡ delete_rest most places l d reversed
      rest_short k m = rest_by true true true false p (le-leb (d.at + d.len) (shown (expand l)) h) (le-leb (length new) most k) (lt-leb (length ps) places m)

      pub rest_none : length new ≤ most → length ps ≤ places → 0 ≡ delete_rest most places l d reversed
      rest_none k m = rest_by true true true true p (le-leb (d.at + d.len) (shown (expand l)) h) (le-leb (length new) most k) (le-leb (length ps) places m)

  pub record Free : Type 0 where
    pub ids : room_opt (At d.start) d.len ≡ true
    pub low : d.at + d.len ≤ shown (expand l)
    pub fit : length new ≤ most
    pub out : length ps ≤ places

  pub free_of : delete_rest most places l d reversed ≡ 0 → Free
  free_of z =
      go (room_opt (At d.start) d.len) (leb (d.at + d.len) (shown (expand l))) (leb (length new) most) (leb (length ps) places) refl refl refl refl
      (rest_by (room_opt (At d.start) d.len) (leb (d.at + d.len) (shown (expand l))) (leb (length new) most) (leb (length ps) places) refl refl refl refl ∙ z)
    where
      go : (a b c e : Bool) → room_opt (At d.start) d.len ≡ a → leb (d.at + d.len) (shown (expand l)) ≡ b → leb (length new) most ≡ c → leb (length ps) places ≡ e → unless a 2 (unless b 8 (unless c 10 (unless e 13 0))) ≡ 0 → Free
      go false b c e p q r t z = absurd (omega arith)
      go true false c e p q r t z = absurd (omega arith)
      go true true false e p q r t z = absurd (omega arith)
      go true true true false p q r t z = absurd (omega arith)
      go true true true true p q r t z =
          record {
            ids = p;
            low = leb-true (d.at + d.len) (shown (expand l)) q;
            fit = leb-true (length new) most r;
            out = leb-true (length ps) places t;
          }

-- the whole number, of some units in a well formed list
pub code_rest : (most : ℕ) (out l : List FugueSpan) (d : Delete) (reversed : Bool) → well_formed l ≡ true → (d.len ≡ 0 → ⊥) → delete_code most out l d.at d.len d.start reversed ≡ delete_rest most (length out) l d reversed
unfolding delete_code delete_rest
code_rest most out l d reversed w z = rw (w, ne_eqb d.len 0 z)

code_empty : (most : ℕ) (out l : List FugueSpan) (at len : ℕ) (start : Id) (reversed : Bool) → well_formed l ≡ true → len ≡ 0 → delete_code most out l at len start reversed ≡ 0
unfolding delete_code
code_empty most out l at len start reversed w z = rw (w, eq-eqb len 0 z)

-- ---- what may be asked

module _ (n : ℕ) (s : List ℕ) (d : Delete) (w : Stored n s) (few : n ≤ 65536) (ids : room_opt (At d.start) d.len ≡ true) (low : d.at + d.len ≤ shown (expand (rows n s))) where
  f : Formed (rows n s)
  f = formed_of (rows n s) w.formed

  pub report_of : Report d n s
  report_of =
      record {
        taken = record { few = few; long = w.long; each = f.each; can = record { fits = omega (arith, low, shown_most (expand (rows n s)), f.units); room = ids } };
        low = low;
      }

pub counts_of : (n : ℕ) (s : List ℕ) (d : Delete) → Report d n s → Counts (Ch.Delete d) n s
counts_of n s d w = record { few = w.taken.few; long = w.taken.long; fit = delete_fits d (rows n s) w.taken.can w.taken.each }

pub count_is : (n : ℕ) (s : List ℕ) (d : Delete) → Report d n s → (k : ℕ) → k ≡ length (join (expand (all_pieces (Ch.Delete d) (rows n s)))) → k ≡ length (join (delete_units d.at d.len d.start (expand (rows n s))))
count_is n s d w k e = e ∙ ap (λ (l : List FugueSpan). length (join l)) (delete_law d (rows n s) w.taken.each)

-- ---- the rows of a store, in the room that is lent, which ends at e

module _ (d : Delete) (n : ℕ) (s : List ℕ) (w : Removes d n s) (e : ℕ) (ee : e ≡ 72 + room s * 72) where
  abbrev lend : List ℕ
  lend = lent s w.head e ee

  same : rows n lend ≡ rows n (drop 72 s)
  same = lent-rows s w.head e ee n w.fits

  pub removes_asks : Deletes n d.at d.len d.start lend
  removes_asks =
      let l = lent_long s w.head e ee in
      record {
        long = omega (arith, l, ee, w.fits);
        each = subst AllOk (sym same) w.ready.taken.each;
        fits = w.ready.taken.can.fits;
        ids = w.ready.taken.can.room;
        room = (let a = subst (λ (r : List FugueSpan). length (join (delete_units d.at d.len d.start (expand r))) ≤ room s) (sym same) w.after in omega (arith, a, l, ee));
      }

  pub removes_done : (q t : List ℕ) (k m : ℕ) → length q ≡ length lend → rows k q ≡ join (delete_units d.at d.len d.start (expand (rows n lend))) → m ≡ k → t ≡ put 0 (bytes_of 8 m) (back_in s q (e - 72) w.head) → WrittenIn (join (delete_units d.at d.len d.start (expand (rows n (drop 72 s))))) s t
  removes_done q t k m len f em et =
      let g : rows k q ≡ join (delete_units d.at d.len d.start (expand (rows n (drop 72 s)))) = f ∙ ap (λ (r : List FugueSpan). join (delete_units d.at d.len d.start (expand r))) same in
      let z : k ≡ length (join (delete_units d.at d.len d.start (expand (rows n (drop 72 s))))) = sym (length-rows k q) ∙ ap length g in
      lent_back s w.head e ee q t m (join (delete_units d.at d.len d.start (expand (rows n (drop 72 s))))) len (omega (arith, em, z, w.after)) et (ap (λ (a : ℕ). rows a q) em ∙ g)

-- ---- delete_some

module _ (s o : List ℕ) (d : Delete) (reversed : Bool) (st : is_state s ≡ true) (some : 0 < d.len) (n : ℕ) (en : n ≡ count s) (most : ℕ) (em : most ≡ room s) (places : ℕ) (ep : places ≡ length o / 72) where
  abbrev code : ℕ
  code = delete_code (room s) (out_rows o) (spans_of s) d.at d.len d.start reversed

  abbrev list : List FugueSpan
  list = delete_list s d.at d.len d.start

  abbrev gone : List FugueSpan
  gone = pieces (spans_of s) d.at d.len reversed

  pub some_asks : Stored n (part s) × (n ≤ 65536)
  some_asks = (state_stored s st n en, state_few s st n en)

  code_is : code ≡ delete_rest most places (rows n (part s)) d reversed
  code_is =
      code_rest (room s) (out_rows o) (spans_of s) d reversed (state_formed s st n en) (λ z. omega (arith, z, some)) ∙
      (ap₂ (λ (a b : ℕ). delete_rest a b (spans_of s) d reversed) (sym em) (length-rows (length o / 72) o ∙ sym ep) ∙
      ap (λ (l : List FugueSpan). delete_rest most places l d reversed) (sym (rows_are s st n en)))

  pub some_refused : (r : Refusal) → number_of r ≡ delete_rest most places (rows n (part s)) d reversed → Deleted code list gone (Err r) s o s o
  some_refused r er =
      let z = number_not_zero r in
      let same : number_of r ≡ code = er ∙ sym code_is in
      record {
        answered = answer_err r code (length gone) same;
        store = refused_in code list code s refl (λ e. z (same ∙ e));
        output = λ e. absurd (z (same ∙ e));
        kept = λ e. refl;
      }

  module _ (k : ℕ) (ek : k ≡ delete_rest most places (rows n (part s)) d reversed) where
    same_code : k ≡ code
    same_code = ek ∙ sym code_is

    module _ (z : k ≡ 0) where
      free : Free most places (rows n (part s)) d reversed
      free = free_of most places (rows n (part s)) d reversed (sym ek ∙ z)

      pub some_report : Report d n (part s)
      some_report = report_of n (part s) d some_asks.0 some_asks.1 free.ids free.low

      pub some_room : length (pieces (rows n (part s)) d.at d.len reversed) * 72 ≤ length o
      some_room = omega (arith, free.out, ep)

      pub some_removes : Removes d n s
      some_removes =
          record {
            head = state_head s st;
            ready = subst (Report d n) (part_rest s) some_report;
            fits = state_fits s st n en;
            after = (let a = subst (λ (b : List ℕ). length (join (delete_units d.at d.len d.start (expand (rows n b)))) ≤ most) (part_rest s) free.fit in omega (arith, a, em));
          }

      pub some_done : (r : ℕ) (t p : List ℕ) → Listed (pieces (rows n (part s)) d.at d.len reversed) r o p → WrittenIn (join (delete_units d.at d.len d.start (expand (rows n (drop 72 s))))) s t → Deleted code list gone (Done r) s o t p
      some_done r t p ls wr =
          let c0 : code ≡ 0 = sym same_code ∙ z in
          let ls2 : Listed gone r o p = subst (λ (l : List FugueSpan). Listed (pieces l d.at d.len reversed) r o p) (rows_are s st n en) ls in
          record {
            answered = is_done Done Refused code c0 ls2.number;
            store =
                done_in code list code s t c0 c0
                (subst (λ (l : List FugueSpan). WrittenIn l s t) (ap (λ (b : List ℕ). join (delete_units d.at d.len d.start (expand (rows n b)))) (sym (part_rest s)) ∙ ap (λ (l : List FugueSpan). join (delete_units d.at d.len d.start (expand l))) (rows_are s st n en)) wr);
            output = λ e. record { number = refl; list = ls2.list; kept = ls2.kept };
            kept = λ e. absurd (e c0);
          }

-- ---- delete

pub front-behind : (l : List FugueSpan) (n : ℕ) → front l n ++ behind l n ≡ l
unfolding front behind
front-behind [] n = refl
front-behind (v ∷ l) zero = refl
front-behind (v ∷ l) (suc n) = ap (λ (m : List FugueSpan). v ∷ m) (front-behind l (cond (activated v.status) n (suc n)))

pub empty_units : (at : ℕ) (start : Id) (l : List FugueSpan) → delete_units at 0 start l ≡ l
unfolding delete_units
empty_units at start l = ap (λ (m : List FugueSpan). front l at ++ m) (first_zero (behind l at) start) ∙ front-behind l at

rows_zero : (b : List ℕ) → rows 0 b ≡ []
unfolding rows
rows_zero b = refl

nothing : (l : List FugueSpan) (at len : ℕ) (reversed : Bool) → len ≡ 0 → pieces l at len reversed ≡ []
unfolding pieces
nothing l at len reversed z = ap (λ (n : ℕ). pieces l at n reversed) z ∙ go reversed
  where
    go : (b : Bool) → pieces l at 0 b ≡ []
    go true = touched_none l at
    go false = touched_none l at

module _ (s o : List ℕ) (at len : ℕ) (start : Id) (reversed : Bool) where
  abbrev number : ℕ
  number = delete_number s o at len start reversed

  abbrev left : List FugueSpan
  left = delete_list s at len start

  abbrev out : List FugueSpan
  out = pieces (spans_of s) at len reversed

  number_none : is_state s ≡ false → number ≡ 15
  unfolding delete_number
  number_none e = ap (λ (b : Bool). unless b 15 (delete_code (room s) (out_rows o) (spans_of s) at len start reversed)) e

  pub number_state : is_state s ≡ true → number ≡ delete_code (room s) (out_rows o) (spans_of s) at len start reversed
  unfolding delete_number
  number_state e = ap (λ (b : Bool). unless b 15 (delete_code (room s) (out_rows o) (spans_of s) at len start reversed)) e

  pub delete_none : is_state s ≡ false → Deleted number left out (Refused 15) s o s o
  delete_none e =
      let z : number ≡ 0 → ⊥ = (λ q. let w : ◌≡◌ {A = ℕ} 15 0 = sym (number_none e) ∙ q in omega (arith, w)) in
      record {
        answered = is_refused Done Refused number 15 (length out) (λ q. omega (arith, q)) (sym (number_none e));
        store = refused_in number left number s refl z;
        output = λ q. absurd (z q);
        kept = λ q. refl;
      }

  pub delete_empty : is_state s ≡ true → len ≡ 0 → Deleted number left out (Done 0) s o s o
  delete_empty e z =
      let w : well_formed (spans_of s) ≡ true = state_formed s e (count s) refl in
      let c : number ≡ 0 = number_state e ∙ code_empty (room s) (out_rows o) (spans_of s) at len start reversed w z in
      let no : out ≡ [] = nothing (spans_of s) at len reversed z in
      let same : left ≡ spans_of s = ap (λ (n : ℕ). join (delete_units at n start (expand (spans_of s)))) z ∙ (ap join (empty_units at start (expand (spans_of s))) ∙ join-expand (spans_of s) (formed_of (spans_of s) w).joined) in
      record {
        answered = is_done Done Refused number c (sym (ap length no));
        store = done_in number left number s s c c (record { written = record { list = sym same; head = refl }; past = refl });
        output = λ q. record { number = refl; list = ap (λ (l : List FugueSpan). rows (length l) o) no ∙ (rows_zero o ∙ sym no); kept = refl };
        kept = λ q. refl;
      }

  pub delete_some : is_state s ≡ true → (r : DeleteAnswer) (t p : List ℕ) → Deleted (delete_code (room s) (out_rows o) (spans_of s) at len start reversed) left out r s o t p → Deleted number left out r s o t p
  delete_some e r t p w = subst (λ (c : ℕ). Deleted c left out r s o t p) (sym (number_state e)) w

-- Two outcomes that meet the contract are the same answer, the same list and the same output; a refused one leaves the same bytes.
pub deleted_same : (code : ℕ) (l ps : List FugueSpan) (q r : DeleteAnswer) (s o t p t2 p2 : List ℕ) → Deleted code l ps q s o t p → Deleted code l ps r s o t2 p2 → (q ≡ r) × (spans_of t ≡ spans_of t2) × (head_rest t ≡ head_rest t2) × (code ≡ 0 → (rows (length ps) p ≡ rows (length ps) p2) × (drop (length ps * 72) p ≡ drop (length ps * 72) p2)) × ((code ≡ 0 → ⊥) → (t ≡ t2) × (p ≡ p2))
deleted_same code l ps q r s o t p t2 p2 v w = (
  v.answered ∙ sym w.answered,
  v.store.edited.list ∙ sym w.store.edited.list,
  v.store.edited.head ∙ sym w.store.edited.head,
  λ z. ((v.output z).list ∙ sym (w.output z).list, (v.output z).kept ∙ sym (w.output z).kept),
  λ z. (v.store.edited.bytes z ∙ sym (w.store.edited.bytes z), v.kept z ∙ sym (w.kept z)),
)
