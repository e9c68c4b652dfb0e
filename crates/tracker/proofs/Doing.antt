-- what an accepted edit does, step by step
use Prim.Native.Nat.{ℕ, ◌+◌, ◌-◌, ◌*◌, ◌≤◌}
use mathlib.Core.Path.{◌≡◌, refl, sym, ap, subst, ◌∙◌}
use mathlib.Core.Bool.{Bool, cond}
use mathlib.Core.List.{List, [], ◌∷◌, ◌++◌, append-nil}
use native.Mathlib.Omega.{arith}
use lib.ListN.{length, take, drop, length-drop, drop_of_length-le}
use lib.Seq.{length-take-le, take-append-le, drop-append-le, drop_at, drop-drop}
use borrow.Author.Tests.{eq-eqb}
use Rattle.words.specs.Le.{le, bytes_of, put}
use Rattle.span.specs.declared.span.FugueSpan.{FugueSpan}
use Rattle.span.specs.Units.{expand, join}
use Rattle.store.specs.Row.{rows}
use Rattle.store.specs.Header.{count, room, spans_of}
use Rattle.rope.specs.declared.change.Delete.{Delete}
use Rattle.units.specs.Place.{shown}
use Rattle.units.specs.Change.{delete_units}
use Rattle.rope.specs.Spans.{AllOk}
use Rattle.rope.specs.Reports.{Taken}
use Rattle.rope.specs.Deletions.{Removes}
use Rattle.rope.specs.Edits.{WrittenIn, EditedIn}
use Rattle.rope.proofs.WellFormed.{formed_of}
use Rattle.rope.proofs.States.{part, part_rest}
use Rattle.rope.proofs.Entering.{state_head, state_rows, state_fits, state_few, state_formed, rows_are}
use Rattle.tracker.specs.Rows.{ranges, edit_in, held, used, edit_count, placeholder_in, EDIT_BYTES}
use Rattle.tracker.specs.Writes.{Appended}
use Rattle.tracker.proofs.Appends.{set_count, count_placeholder, count_rows}
use Rattle.tracker.specs.Targets.{targets_of, Wrote}
use Rattle.tracker.specs.Arrivals.{Gives, Ranged, Logged}
use Rattle.tracker.proofs.Logs.{part_of_front}
use Rattle.tracker.proofs.Checking.{edit_rows, edit_rows_lem}
use Rattle.words.proofs.Puts.{drop-put}
use Rattle.history.proofs.Arriving.{shown_most}

pub edited_written : (code : ℕ) (l : List FugueSpan) (r : ℕ) (s t : List ℕ) → EditedIn code l r s t → code ≡ 0 → WrittenIn l s t
edited_written code l r s t d z =
    record {
      written = record { list = d.edited.list ∙ ap (λ (b : Bool). cond b l (spans_of s)) (eq-eqb code 0 z); head = d.edited.head };
      past = d.past;
    }

-- no ranges are written
pub ranged_none : (had : ℕ) (t : List ℕ) → Ranged [] had 0 t t
unfolding ranges
ranged_none had t = record { ranges = refl; front = refl; past = refl }

-- a delete of a store
module _ (s t : List ℕ) (had : ℕ) (d : Delete) (g : Gives s t had d) where
  pub gives_head : 72 ≤ length s
  gives_head = state_head s g.state

  module _ (n : ℕ) (en : n ≡ count s) where
    abbrev l : List FugueSpan
    l = spans_of s

    part_is : rows n (part s) ≡ l
    part_is = rows_are s g.state n en

    rest_is : rows n (drop 72 s) ≡ l
    rest_is = ap (rows n) (sym (part_rest s)) ∙ part_is

    taken_of : (b : List ℕ) → length b ≡ length s - 72 → rows n b ≡ l → Taken d n b
    taken_of b len e =
        let f = formed_of l (state_formed s g.state n en) in
        record {
          few = state_few s g.state n en;
          long = omega (arith, len, (state_rows s g.state n en).0, part_long);
          each = subst AllOk (sym e) f.each;
          can = record { fits = omega (arith, g.low, shown_most (expand l), f.units); room = g.ids };
        }
      where
        part_long : length (part s) ≡ length s - 72
        part_long = ap length (part_rest s) ∙ length-drop 72 s

    pub gives_targets : Taken d n (part s) × ((had + length (targets_of d (expand (rows n (part s))))) * 16 ≤ length t)
    gives_targets = (taken_of (part s) (ap length (part_rest s) ∙ length-drop 72 s) part_is, subst (λ (z : List FugueSpan). (had + length (targets_of d (expand z))) * 16 ≤ length t) (sym part_is) g.ranges)

    pub gives_removes : Removes d n s
    gives_removes =
        record {
          head = gives_head;
          ready = record { taken = taken_of (drop 72 s) (length-drop 72 s) rest_is; low = subst (λ (z : List FugueSpan). d.at + d.len ≤ shown (expand z)) (sym rest_is) g.low };
          fits = state_fits s g.state n en;
          after = subst (λ (z : List FugueSpan). length (join (delete_units d.at d.len d.start (expand z))) ≤ room s) (sym rest_is) g.room;
        }

    pub gives_done : (k : ℕ) (s' t' : List ℕ) → Wrote had (targets_of d (expand (rows n (part s)))) k t t' → WrittenIn (join (delete_units d.at d.len d.start (expand (rows n (drop 72 s))))) s s'
        → WrittenIn (join (delete_units d.at d.len d.start (expand l))) s s' × Ranged (targets_of d (expand l)) had k t t'
    gives_done k s' t' w v = (
      subst (λ (z : List FugueSpan). WrittenIn (join (delete_units d.at d.len d.start (expand z))) s s') rest_is v,
      record { ranges = w.list ∙ ap (λ (z : List FugueSpan). targets_of d (expand z)) part_is; front = w.before; past = w.past },
    )

-- what stands past the bytes that are put
drop_past : (s bs : List ℕ) (at m : ℕ) → at + length bs ≤ m → at ≤ length s → drop m (put at bs s) ≡ drop m s
drop_past s bs at m k l =
    let d = m - (at + length bs) in
    let e : m ≡ at + length bs + d = omega (arith, k) in
    ap (λ (j : ℕ). drop j (put at bs s)) e ∙ (sym (drop-drop d (at + length bs) (put at bs s)) ∙ (ap (drop d) (drop-put s bs at l) ∙ (drop-drop d (at + length bs) s ∙ ap (λ (j : ℕ). drop j s) (sym e))))

-- ---- one edit more in the log: the rows behind the header, and then the header's number

module _ (e q : List ℕ) (long : EDIT_BYTES ≤ length e) where
  abbrev pub rows_back : List ℕ
  rows_back = take 64 e ++ (q ++ drop (length e - 64) (drop 64 e))

  head_long : length (take 64 e) ≡ 64
  head_long = length-take-le 64 e (omega (arith, long))

  rows_back_lem : drop 64 rows_back ≡ q
  rows_back_lem = drop_at (take 64 e) (q ++ drop (length e - 64) (drop 64 e)) 64 head_long ∙ (ap (λ (l : List ℕ). q ++ l) (drop_of_length-le (drop 64 e) {i = length e - 64} (omega (arith, length-drop 64 e))) ∙ append-nil q)

  placeholder_back : placeholder_in rows_back ≡ placeholder_in e
  unfolding placeholder_in
  placeholder_back = ap le
      (ap (take 8) (drop-append-le 8 (take 64 e) (q ++ drop (length e - 64) (drop 64 e)) (omega (arith, head_long)))
      ∙ (take-append-le 8 (drop 8 (take 64 e)) (q ++ drop (length e - 64) (drop 64 e)) (omega (arith, head_long, length-drop 8 (take 64 e))) ∙ part_of_front e 64 8 8 (omega arith)))

  module _ (h : ℕ) (few : h + 1 ≤ 2000) (row : List ℕ) (took : ℕ) (a : Appended h row took (edit_rows e) q) (f : List ℕ) (ef : f ≡ put 0 (bytes_of 8 (h + 1)) rows_back) where
    rows_new : drop 64 f ≡ q
    rows_new = ap (drop 64) ef ∙ (count_rows (h + 1) rows_back ∙ rows_back_lem)

    past_rows : drop 512000 q ≡ drop 512000 (drop 64 e)
    past_rows =
        ap (drop 512000) a.bytes
        ∙ (drop_past (edit_rows e) a.row (h * 256) 512000 (omega (arith, few, a.few)) (omega (arith, few, long, ap length (edit_rows_lem e), length-drop 64 e))
        ∙ ap (drop 512000) (edit_rows_lem e))

    pub logged : Logged h row took e f
    logged =
        record {
          count = ap edit_count ef ∙ set_count (h + 1) (omega (arith, few)) rows_back;
          placeholder = ap placeholder_in ef ∙ (count_placeholder (h + 1) rows_back ∙ placeholder_back);
          list = λ (t : List ℕ). ap (λ (b : List ℕ). held (h + 1) b t) rows_new ∙ (a.list t ∙ ap (λ (b : List ℕ). held h b t ++ (record { edit = edit_in row; took = ranges took (drop (used h b * 16) t) } ∷ [])) (edit_rows_lem e));
          past = sym (drop-drop 512000 64 f) ∙ (ap (drop 512000) rows_new ∙ (past_rows ∙ drop-drop 512000 64 e));
        }
