-- a run of edits, one after another
use Prim.Native.Nat.{ℕ, zero, suc, ◌+◌, ◌-◌, ◌*◌, ◌/◌, ◌<◌, ◌≤◌, min}
use mathlib.Core.Path.{◌≡◌, refl, sym, ap, ap₂, subst, ◌∙◌}
use mathlib.Core.Bool.{Bool, true, false, cond, true≢false}
use mathlib.Core.List.{List, [], ◌∷◌}
use native.Mathlib.Omega.{arith}
use lib.ListN.{length, take, drop, length-drop}
use lib.Seq.{take_all, drop-drop}
use Rattle.span.specs.Refusal.{code_of}
use Rattle.store.specs.Header.{room}
use Rattle.units.specs.Limits.{ROWS}
use Rattle.units.specs.Codes.{unless}
use Rattle.history.specs.Edit.{Edit, History}
use Rattle.history.specs.Arrive.{arrive}
use Rattle.history.specs.Codes.{on_units, stored, arrive_code}
use Rattle.history.specs.Run.{more, arrive_run, arrive_rest, rest_run}
use Rattle.history.proofs.Runs.{rest_code, run_once, more_zero, more_done, more_turn, more_stop}
use Rattle.tracker.specs.declared.run.Run.{Run}
use Rattle.tracker.specs.Rows.{edit_in, target_room, history_in, is_history}
use Rattle.tracker.specs.Entries.{Beside, Leaves, arrive_number, arrived}
use Rattle.tracker.specs.Batches.{edits, batch, no_run, run_of, RunLeaves}
use Rattle.tracker.proofs.Leaving.{well_of, same_beside, kept_not, kept_done}
use Rattle.tracker.proofs.Checking.{room_same}

-- the edits from row i on
edits_turn : (n i : ℕ) (b : List ℕ) → i < n → edits (n - i) (drop (i * 256) b) ≡ edit_in (drop (i * 256) b) ∷ edits (n - (i + 1)) (drop ((i + 1) * 256) b)
unfolding edits
edits_turn n i b l =
    let k = n - (i + 1) in
    let q : n - i ≡ suc k = omega (arith, l) in
    ap (λ (j : ℕ). edits j (drop (i * 256) b)) q
    ∙ ap (λ (c : List ℕ). edit_in (drop (i * 256) b) ∷ edits k c) (drop-drop 256 (i * 256) b ∙ ap (λ (j : ℕ). drop j b) (let r : i * 256 + 256 ≡ (i + 1) * 256 = omega arith in r))

-- the row as it is lent
pub row_lent : (b : List ℕ) (a : ℕ) → take (length b - a) (drop a b) ≡ drop a b
row_lent b a = take_all (length b - a) (drop a b) (omega (arith, length-drop a b))

module _ (S T E : List ℕ) (n : ℕ) (b : List ℕ) where
  -- i edits are taken, and the rest comes to what the whole run comes to
  pub record Going (i : ℕ) (s t e : List ℕ) : Type 0 where
    pub few : i ≤ n
    pub well : is_history s t e ≡ true
    pub spans : length s ≡ length S
    pub targets : length t ≡ length T
    pub log : length e ≡ length E
    pub rest : rest_run (room S) (target_room T) (history_in S T E) (edits n b) ≡ more i (rest_run (room S) (target_room T) (history_in s t e) (edits (n - i) (drop (i * 256) b)))
    pub none : i ≡ 0 → (s ≡ S) × (t ≡ T) × (e ≡ E)
    pub beside : Beside S T E s t e

  pub going_start : is_history S T E ≡ true → Going 0 S T E
  going_start w =
      record {
        few = omega arith;
        well = w;
        spans = refl;
        targets = refl;
        log = refl;
        rest = sym (ap (λ (j : ℕ). more 0 (rest_run (room S) (target_room T) (history_in S T E) (edits j b))) (let q : n - 0 ≡ n = omega arith in q) ∙ more_zero (room S) (target_room T) (history_in S T E) (edits n b));
        none = λ _. (refl, refl, refl);
        beside = same_beside S T E;
      }

  beside_on : (s t e s' t' e' : List ℕ) → Beside S T E s t e → Beside s t e s' t' e' → Beside S T E s' t' e'
  beside_on s t e s' t' e' p q = record { head = q.head ∙ p.head; spans = q.spans ∙ p.spans; targets = q.targets ∙ p.targets; edits = q.edits ∙ p.edits }

  room_t : (t : List ℕ) → length t ≡ length T → target_room t ≡ target_room T
  unfolding target_room
  room_t t q = ap (λ (k : ℕ). min ROWS (k / 16)) q

  module _ (i : ℕ) (s t e : List ℕ) (g : Going i s t e) (l : i < n) (row : List ℕ) (er : row ≡ drop (i * 256) b) (c : ℕ) (s' t' e' : List ℕ)
      (v : Leaves (arrive_number s t e (edit_in row)) (arrived s t e (edit_in row)) c s t e s' t' e') where
    abbrev X : Edit
    X = edit_in row

    number_is : arrive_number s t e X ≡ arrive_rest (room S) (target_room T) (history_in s t e) X
    unfolding arrive_number
    number_is =
        ap (λ (z : Bool). unless z 15 (arrive_code (room s) (target_room t) (history_in s t e) X)) g.well
        ∙ (rest_code (room s) (target_room t) (history_in s t e) (well_of s t e g.well).valid X
        ∙ ap₂ (λ (p q : ℕ). arrive_rest p q (history_in s t e) X) (room_same S s g.spans) (room_t t g.targets))

    code_is : c ≡ arrive_rest (room S) (target_room T) (history_in s t e) X
    code_is = v.number ∙ number_is

    turn : rest_run (room S) (target_room T) (history_in S T E) (edits n b) ≡ more i (rest_run (room S) (target_room T) (history_in s t e) (X ∷ edits (n - (i + 1)) (drop ((i + 1) * 256) b)))
    turn = g.rest ∙ ap (λ (es : List Edit). more i (rest_run (room S) (target_room T) (history_in s t e) es)) (edits_turn n i b l ∙ ap (λ (r : List ℕ). edit_in r ∷ edits (n - (i + 1)) (drop ((i + 1) * 256) b)) (sym er))

    pub going_on : c ≡ 0 → length s' ≡ length s → length t' ≡ length t → length e' ≡ length e → Going (i + 1) s' t' e'
    unfolding arrived
    going_on z ls lt le =
        let zero : arrive_number s t e X ≡ 0 = sym v.number ∙ z in
        let after : history_in s' t' e' ≡ stored (arrive (on_units (history_in s t e)) X) = v.history ∙ kept_done (arrive_number s t e X) (stored (arrive (on_units (history_in s t e)) X)) (history_in s t e) zero in
        record {
          few = omega (arith, l);
          well = v.well zero;
          spans = ls ∙ g.spans;
          targets = lt ∙ g.targets;
          log = le ∙ g.log;
          rest = turn ∙ (more_turn (room S) (target_room T) i (history_in s t e) X (edits (n - (i + 1)) (drop ((i + 1) * 256) b)) (sym code_is ∙ z)
              ∙ ap (λ (h : History). more (i + 1) (rest_run (room S) (target_room T) h (edits (n - (i + 1)) (drop ((i + 1) * 256) b)))) (sym after));
          none = λ (q : i + 1 ≡ 0). absurd (omega (arith, q));
          beside = beside_on s t e s' t' e' g.beside v.beside;
        }

    pub going_stop : (w : is_history S T E ≡ true) → (c ≡ 0 → ⊥) → (r : Run) → r.taken ≡ i → code_of r.outcome ≡ c → RunLeaves (edits n b) r S T E s' t' e'
    unfolding run_of
    going_stop w z r et ec =
        let no : arrive_number s t e X ≡ 0 → ⊥ = λ (q : arrive_number s t e X ≡ 0). z (v.number ∙ q) in
        let same : history_in s' t' e' ≡ history_in s t e = v.history ∙ kept_not (arrive_number s t e X) (arrived s t e X) (history_in s t e) no in
        let y = v.bytes no in
        record {
          said = ap₂ (λ (p : ℕ) (q : ℕ). (p, q, history_in s' t' e')) et (ec ∙ code_is)
              ∙ (ap (λ (h : History). (i, arrive_rest (room S) (target_room T) (history_in s t e) X, h)) same
              ∙ (sym (more_stop (room S) (target_room T) i (history_in s t e) X (edits (n - (i + 1)) (drop ((i + 1) * 256) b)) (λ (q : arrive_rest (room S) (target_room T) (history_in s t e) X ≡ 0). z (code_is ∙ q)))
              ∙ (sym turn ∙ whole w)));
          well = λ _. subst (λ (a : List ℕ). is_history a t' e' ≡ true) (sym y.0) (subst (λ (a : List ℕ). is_history s a e' ≡ true) (sym y.1) (subst (λ (a : List ℕ). is_history s t a ≡ true) (sym y.2) g.well));
          none = λ (q : r.taken ≡ 0). let k = g.none (sym et ∙ q) in (y.0 ∙ k.0, y.1 ∙ k.1, y.2 ∙ k.2);
          beside = beside_on s t e s' t' e' g.beside v.beside;
        }
      where
        whole : is_history S T E ≡ true → rest_run (room S) (target_room T) (history_in S T E) (edits n b) ≡ cond (is_history S T E) (arrive_run (room S) (target_room T) (history_in S T E) (edits n b)) (no_run (history_in S T E) (edits n b))
        whole w = sym (ap (λ (a : Bool). cond a (arrive_run (room S) (target_room T) (history_in S T E) (edits n b)) (no_run (history_in S T E) (edits n b))) w ∙ run_once (room S) (target_room T) (edits n b) (history_in S T E) (well_of S T E w).valid)

  pub going_end : (w : is_history S T E ≡ true) (i : ℕ) (s t e : List ℕ) → Going i s t e → n ≤ i → (r : Run) → r.taken ≡ n → code_of r.outcome ≡ 0 → RunLeaves (edits n b) r S T E s t e
  unfolding run_of edits
  going_end w i s t e g l r et ec =
      let q : i ≡ n = omega (arith, l, g.few) in
      record {
        said = ap₂ (λ (p : ℕ) (c : ℕ). (p, c, history_in s t e)) (et ∙ sym q) ec
            ∙ (sym (ap (λ (j : ℕ). more i (rest_run (room S) (target_room T) (history_in s t e) (edits j (drop (i * 256) b)))) (let z : n - i ≡ 0 = omega (arith, q) in z) ∙ more_done (room S) (target_room T) i (history_in s t e))
            ∙ (sym g.rest ∙ sym (ap (λ (a : Bool). cond a (arrive_run (room S) (target_room T) (history_in S T E) (edits n b)) (no_run (history_in S T E) (edits n b))) w ∙ run_once (room S) (target_room T) (edits n b) (history_in S T E) (well_of S T E w).valid)));
        well = λ _. g.well;
        none = λ (z : r.taken ≡ 0). g.none (q ∙ (sym et ∙ z));
        beside = g.beside;
      }

-- ---- no edits, and no history

run_empty : (s t e : List ℕ) → run_of s t e [] ≡ (0, 0, history_in s t e)
unfolding run_of arrive_run
run_empty s t e = go (is_history s t e)
  where
    go : (a : Bool) → cond a (arrive_run (room s) (target_room t) (history_in s t e) []) (no_run (history_in s t e) []) ≡ (0, 0, history_in s t e)
    go true = refl
    go false = refl

pub batch_empty : (s t e b : List ℕ) (n : ℕ) → n ≡ length b / 256 → n ≡ 0 → (r : Run) → r.taken ≡ 0 → code_of r.outcome ≡ 0 → RunLeaves (batch b) r s t e s t e
unfolding edits
batch_empty s t e b n en z r et ec =
    record {
      said = ap₂ (λ (p q : ℕ). (p, q, history_in s t e)) et ec ∙ (sym (run_empty s t e) ∙ ap (λ (j : ℕ). run_of s t e (edits j b)) (sym (sym en ∙ z)));
      well = λ w. w;
      none = λ _. (refl, refl, refl);
      beside = same_beside s t e;
    }

pub batch_none : (s t e b : List ℕ) (n : ℕ) → n ≡ length b / 256 → (n ≡ 0 → ⊥) → is_history s t e ≡ false → (r : Run) → r.taken ≡ 0 → code_of r.outcome ≡ 15 → RunLeaves (batch b) r s t e s t e
batch_none s t e b n en z w r et ec =
    record {
      said = ap₂ (λ (p q : ℕ). (p, q, history_in s t e)) et ec ∙ sym (some n en z);
      well = λ k. absurd (true≢false (sym k ∙ w));
      none = λ _. (refl, refl, refl);
      beside = same_beside s t e;
    }
  where
    some : (m : ℕ) → m ≡ length b / 256 → (m ≡ 0 → ⊥) → run_of s t e (edits (length b / 256) b) ≡ (0, 15, history_in s t e)
    some zero q k = absurd (k refl)
    some (suc m) q k = ap (λ (j : ℕ). run_of s t e (edits j b)) (sym q) ∙ (unfold run_of in unfold edits in ap (λ (a : Bool). cond a (arrive_run (room s) (target_room t) (history_in s t e) (edit_in b ∷ edits m (drop 256 b))) (0, 15, history_in s t e)) w)
