-- DEMAND 3 OF THE ENTRIES, on lent bytes: every lane that hands over an arrival order of the set, each call as its entry's contract has it, is accepted throughout,
-- and checked out at the whole set its list has the units of the tree built from the set alone, in its order, which is the walk of the tree; real ids of
-- placeholder units excepted. So any two lanes end alike.
use Prim.Native.Nat.{ℕ}
use mathlib.Core.Path.{◌≡◌, refl, sym, ap, subst, ◌∙◌}
use mathlib.Core.Logic.{◌⊎◌, inl, inr}
use mathlib.Core.List.Memᴰ
use mathlib.Core.List.{List, [], ◌∷◌, map, Memᴰ}
use Rattle.span.specs.Units.{expand}
use Rattle.store.specs.Header.{room, spans_of}
use Rattle.history.specs.Edit.{Edit, History}
use Rattle.history.specs.Arrive.{start}
use Rattle.history.specs.Tree.{sort_rank}
use Rattle.history.specs.Codes.{stored, arrive_of, checkout_code, checkout_of}
use Rattle.history.specs.Demand.{WellFormedSet, Inside, ArrivalOrder, Accepted, arrive_all, whole_of, no_real, Promise}
use Rattle.history.proofs.Demand.{demand3}
use Rattle.tracker.specs.Rows.{target_room, history_in}
use Rattle.tracker.specs.Calls.{Lent, said, Ran, none, next, Lane, HasRoom, Promised}
use Rattle.tracker.proofs.Calling.{Holds, fresh_holds, arrive_number_lem, arrive_said, arrive_holds, checkout_number_lem, checkout_said, checkout_holds}

-- ---- edits that are accepted one after another, on the definitions, are accepted by the entry one after another

pub record Merged (spans targets : ℕ) (es : List Edit) (rs : List ℕ) (a b : Lent) : Type 0 where
  pub answers : (r : ℕ) → Memᴰ r rs → r ≡ 0
  pub history : said b ≡ arrive_all spans targets (said a) es
  pub holds : Holds spans targets b

pub merges : (spans targets : ℕ) (es : List Edit) (rs : List ℕ) (a b : Lent) → Ran es rs a b → Holds spans targets a → Accepted spans targets (said a) es → Merged spans targets es rs a b
unfolding Accepted arrive_all
merges spans targets es rs a b (none c) h k = record { answers = λ (r : ℕ) (m : Memᴰ r []). absurd (Memᴰ.not-nil m); history = refl; holds = h }
merges spans targets es rs a b (next x fs r ts c d f call rest) h k = on (merges spans targets fs ts d f rest (arrive_holds spans targets x r c d call h) (subst (λ (z : History). Accepted spans targets z fs) (sym left) k.1))
  where
    left : said d ≡ (arrive_of spans targets (said c) x).1
    left = arrive_said spans targets x r c d call h

    zero : r ≡ 0
    zero = arrive_number_lem spans targets x r c d call h ∙ k.0

    on : Merged spans targets fs ts d f → Merged spans targets (x ∷ fs) (r ∷ ts) c f
    on m = record {
      answers = λ (q : ℕ) (i : Memᴰ q (r ∷ ts)). each q (Memᴰ.cases_cons i);
      history = m.history ∙ ap (λ (z : History). arrive_all spans targets z fs) left;
      holds = m.holds;
    }
      where
        each : (q : ℕ) → (q ≡ r) ⊎ Memᴰ q ts → q ≡ 0
        each q (inl d) = d ∙ zero
        each q (inr i) = m.answers q i

-- ---- the demand

module _ (n : ℕ) (S : List Edit) (wf : WellFormedSet S) (inside : Inside (start n) (sort_rank S S)) (fs : List Edit) (ord : ArrivalOrder S fs) (l : Lane n fs (whole_of S)) (has : HasRoom n S l.given) where
  abbrev spans : ℕ
  spans = room l.given.spans

  abbrev targets : ℕ
  targets = target_room l.given.targets

  p : Promise n spans targets S fs
  p = demand3 n spans targets S wf has.limits inside fs ord

  zero : l.opening ≡ 0
  zero = l.opens.number has.long ∙ p.opened

  begin : said l.fresh ≡ stored (start n)
  begin = l.opens.history zero

  m : Merged spans targets fs l.answers l.fresh l.merged
  m = merges spans targets fs l.answers l.fresh l.merged l.runs (fresh_holds n l.opening l.given l.fresh l.opens zero)
      (subst (λ (z : History). Accepted spans targets z fs) (sym begin) p.accepted)

  left : said l.merged ≡ arrive_all spans targets (stored (start n)) fs
  left = m.history ∙ ap (λ (z : History). arrive_all spans targets z fs) begin

  out : said l.last ≡ (checkout_of spans targets (arrive_all spans targets (stored (start n)) fs) (whole_of S)).1
  out = checkout_said spans targets (whole_of S) l.checking l.merged l.last l.checks m.holds ∙ ap (λ (z : History). (checkout_of spans targets z (whole_of S)).1) left

  pub demand3_calls : Promised n S fs l
  unfolding history_in
  demand3_calls = record {
    opened = zero;
    accepted = m.answers;
    checked = checkout_number_lem spans targets (whole_of S) l.checking l.merged l.last l.checks m.holds ∙ (ap (λ (z : History). checkout_code spans targets z (whole_of S)) left ∙ p.checked);
    well = (checkout_holds spans targets (whole_of S) l.checking l.merged l.last l.checks m.holds).well;
    same = ap (λ (z : History). map no_real (expand z.list)) out ∙ p.same;
    walked = p.walked;
  }

-- two lanes with buffers and arrival orders of their own end with the same units in the same order
pub lanes_agree : (n : ℕ) (S : List Edit) → WellFormedSet S → Inside (start n) (sort_rank S S) → (fs gs : List Edit) → ArrivalOrder S fs → ArrivalOrder S gs
    → (l : Lane n fs (whole_of S)) (k : Lane n gs (whole_of S)) → HasRoom n S l.given → HasRoom n S k.given
    → map no_real (expand (spans_of l.last.spans)) ≡ map no_real (expand (spans_of k.last.spans))
lanes_agree n S wf inside fs gs a b l k hl hk = (demand3_calls n S wf inside fs a l hl).same ∙ sym (demand3_calls n S wf inside gs b k hk).same
