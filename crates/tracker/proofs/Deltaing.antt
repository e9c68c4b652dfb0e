-- the delta of versions in columns: what is no history, and a version of more pairs than peers
use Prim.Native.Nat.{ℕ, ◌≤◌}
use mathlib.Core.Path.{◌≡◌, refl, sym, ap, subst, ◌∙◌}
use mathlib.Core.Bool.{Bool, true, false}
use mathlib.Core.List.{List}
use mathlib.Core.Logic.{◌⊎◌, inl, inr}
use native.Mathlib.Omega.{arith}
use lib.ListN.{length}
use Rattle.span.specs.declared.span.FugueSpan.{FugueSpan}
use Rattle.span.proofs.AnswerLaws.{is_refused}
use Rattle.store.specs.Header.{room}
use Rattle.rope.specs.Maybe.{DiffAnswer}
use Rattle.std.specs.Prelude.{Ok, Err}
use Rattle.span.specs.declared.refusal.Refusal.TheVariants as Refuse
use Rattle.span.specs.Refusal.{refused}
use Rattle.units.specs.declared.diff.Entry.{Entry}
use Rattle.rope.specs.declared.diff.EntryNumbers.{EntryNumbers}
use Rattle.units.specs.Lists.{over}
use Rattle.units.specs.Codes.{unless, kept}
use Rattle.units.specs.Delta.{entries}
use Rattle.rope.specs.Columns.{diff_number, column, column_of, Diffed}
use Rattle.history.specs.Edit.{Version, Held}
use Rattle.history.specs.Version.{named}
use Rattle.history.specs.Checkout.{checkout}
use Rattle.history.specs.Codes.{on_units, stored, delta_code, delta_of}
use Rattle.history.proofs.Sound.{sound_of}
use Rattle.history.proofs.Pairs.{pairs_most}
use Rattle.tracker.specs.Rows.{target_room, history_in, is_history}
use Rattle.tracker.specs.Entries.{version_of, short_of, checked_out}
use Rattle.tracker.specs.Between.{versions_code, delta_code_in, delta_number, between, Deltas}
use Rattle.tracker.proofs.Leaving.{well_of, kept_not, leaves_as}
use Rattle.tracker.proofs.Shorts.{Either, short_either}
use Rattle.tracker.proofs.Betweens.{delta_code_lem, code_versions, versions_six, versions_six_b}
use Rattle.tracker.proofs.Readying.{deltas_refused}

number_none : (s t e : List ℕ) (a b : Version) (most : ℕ) → is_history s t e ≡ false → 15 ≡ delta_number s t e most a b
unfolding delta_number
number_none s t e a b most w = sym (ap (λ (q : Bool). unless q 15 (delta_code_in (room s) (target_room t) most (history_in s t e) a b)) w)

pub delta_none : (s t e : List ℕ) (a b : Version) (most : ℕ) (c1 c2 c3 c4 c5 c6 : List ℕ) → is_history s t e ≡ false → Deltas s t e a b most (Err Refuse.Store) s c1 c2 c3 c4 c5 c6 c1 c2 c3 c4 c5 c6
delta_none s t e a b most c1 c2 c3 c4 c5 c6 w = deltas_refused s t e a b most Refuse.Store c1 c2 c3 c4 c5 c6 (number_none s t e a b most w)

-- ---- a call answers and leaves what crate history says, of an output with as many places as the shortest column

module _ (s t e : List ℕ) (w : is_history s t e ≡ true) (a b : Version) (most : ℕ) (out : List Entry) (size : length out ≡ most) where
  number_of : delta_number s t e most a b ≡ delta_code (room s) (target_room t) out (history_in s t e) a b
  unfolding delta_number
  number_of =
      ap (λ (q : Bool). unless q 15 (delta_code_in (room s) (target_room t) most (history_in s t e) a b)) w ∙
      (ap (λ (k : ℕ). delta_code_in (room s) (target_room t) k (history_in s t e) a b) (sym size) ∙ sym (delta_code_lem (room s) (target_room t) out (history_in s t e) a b))

  pub delta_is : (r : DiffAnswer) (u c1 c2 c3 c4 c5 c6 d1 d2 d3 d4 d5 d6 : List ℕ) → Deltas s t e a b most r u c1 c2 c3 c4 c5 c6 d1 d2 d3 d4 d5 d6
      → (diff_number r ≡ (delta_of (room s) (target_room t) out (history_in s t e) a b).0) × (history_in u t e ≡ (delta_of (room s) (target_room t) out (history_in s t e) a b).1)
  unfolding delta_of checked_out
  delta_is r u c1 c2 c3 c4 c5 c6 d1 d2 d3 d4 d5 d6 v =
      (v.leaves.number ∙ number_of, v.leaves.history ∙ ap (λ (k : ℕ). kept k (stored (checkout a (on_units (history_in s t e)))) (history_in s t e)) number_of)

-- ---- two calls that are both refused as 6 leave the same

diffed_six : (c d : ℕ) (l m : List FugueSpan) (r : DiffAnswer) (c1 c2 c3 c4 c5 c6 d1 d2 d3 d4 d5 d6 : List ℕ) → c ≡ 6 → d ≡ 6 → Diffed c l r c1 c2 c3 c4 c5 c6 d1 d2 d3 d4 d5 d6 → Diffed d m r c1 c2 c3 c4 c5 c6 d1 d2 d3 d4 d5 d6
diffed_six c d l m r c1 c2 c3 c4 c5 c6 d1 d2 d3 d4 d5 d6 p q v =
    let six : ◌≡◌ {A = ℕ} 6 0 → ⊥ = λ z. omega (arith, z) in
    let f : (g : EntryNumbers → ℕ) (x : List ℕ) → column_of c g (entries l) x ≡ column_of d g (entries m) x =
    λ g x. kept_not c (over (column g (entries l)) x) x (λ z. omega (arith, z, p)) ∙ sym (kept_not d (over (column g (entries m)) x) x (λ z. omega (arith, z, q)))
    in
    record {
      said = v.said ∙ (sym (is_refused Ok refused c 6 (length (entries l)) six (sym p)) ∙ is_refused Ok refused d 6 (length (entries m)) six (sym q));
      kind = v.kind ∙ f (λ (x : EntryNumbers). x.kind) c1;
      first = v.first ∙ f (λ (x : EntryNumbers). x.a) c2;
      second = v.second ∙ f (λ (x : EntryNumbers). x.b) c3;
      peer = v.peer ∙ f (λ (x : EntryNumbers). x.peer) c4;
      counter = v.counter ∙ f (λ (x : EntryNumbers). x.counter) c5;
      lamport = v.lamport ∙ f (λ (x : EntryNumbers). x.lamport) c6;
    }

-- one version, or two of which neither is named
either_or : (l : List Held) (v x : Version) → Either l v x → (v ≡ x) ⊎ ((named l v ≡ false) × (named l x ≡ false))
either_or l v x e = go (named l v) (named l x) refl refl
  where
    go : (a b : Bool) → named l v ≡ a → named l x ≡ b → (v ≡ x) ⊎ ((named l v ≡ false) × (named l x ≡ false))
    go true b p q = inl (e.same p)
    go false true p q = inl (e.back q)
    go false false p q = inr (p, q)

module _ (s t e : List ℕ) (w : is_history s t e ≡ true) (most : ℕ) where
  few_pairs : (v : Version) → named (history_in s t e).held v ≡ true → length v ≤ 16
  few_pairs v n = pairs_most (history_in s t e).held v (sound_of (room s) (target_room t) (history_in s t e) (well_of s t e w).valid).fit n

  number_six : (a b : Version) → versions_code (history_in s t e).held a b ≡ 6 → delta_number s t e most a b ≡ 6
  unfolding delta_number
  number_six a b c =
      ap (λ (q : Bool). unless q 15 (delta_code_in (room s) (target_room t) most (history_in s t e) a b)) w
      ∙ (code_versions (room s) (target_room t) most (history_in s t e) a b (well_of s t e w).valid (λ z. omega (arith, z, c)) ∙ c)

  module _ (r : DiffAnswer) (u c1 c2 c3 c4 c5 c6 d1 d2 d3 d4 d5 d6 : List ℕ) where
    deltas_six : (a b x y : Version) → delta_number s t e most a b ≡ 6 → delta_number s t e most x y ≡ 6 → Deltas s t e a b most r u c1 c2 c3 c4 c5 c6 d1 d2 d3 d4 d5 d6 → Deltas s t e x y most r u c1 c2 c3 c4 c5 c6 d1 d2 d3 d4 d5 d6
    deltas_six a b x y p q v =
        record {
          leaves = leaves_as (delta_number s t e most a b) (delta_number s t e most x y) (checked_out s t e a) (checked_out s t e x) (diff_number r) s t e u t e (p ∙ sym q)
              (kept_not (delta_number s t e most a b) (checked_out s t e a) (history_in s t e) (λ z. omega (arith, z, p)) ∙ sym (kept_not (delta_number s t e most x y) (checked_out s t e x) (history_in s t e) (λ z. omega (arith, z, q)))) v.leaves;
          diffed = diffed_six (delta_number s t e most a b) (delta_number s t e most x y) (between s t e a b) (between s t e x y) r c1 c2 c3 c4 c5 c6 d1 d2 d3 d4 d5 d6 p q v.diffed;
        }

    deltas_either : (a b x y : Version) → Either (history_in s t e).held a x → Either (history_in s t e).held b y → Deltas s t e a b most r u c1 c2 c3 c4 c5 c6 d1 d2 d3 d4 d5 d6 → Deltas s t e x y most r u c1 c2 c3 c4 c5 c6 d1 d2 d3 d4 d5 d6
    deltas_either a b x y f g v = go (either_or (history_in s t e).held a x f) (either_or (history_in s t e).held b y g)
      where
        go : (a ≡ x) ⊎ ((named (history_in s t e).held a ≡ false) × (named (history_in s t e).held x ≡ false)) → (b ≡ y) ⊎ ((named (history_in s t e).held b ≡ false) × (named (history_in s t e).held y ≡ false)) → Deltas s t e x y most r u c1 c2 c3 c4 c5 c6 d1 d2 d3 d4 d5 d6
        go (inl p) (inl q) = subst (λ (z : Version). Deltas s t e x z most r u c1 c2 c3 c4 c5 c6 d1 d2 d3 d4 d5 d6) q (subst (λ (z : Version). Deltas s t e z b most r u c1 c2 c3 c4 c5 c6 d1 d2 d3 d4 d5 d6) p v)
        go (inl p) (inr q) = deltas_six a b x y (number_six a b (versions_six_b (history_in s t e).held a b q.0)) (number_six x y (versions_six_b (history_in s t e).held x y q.1)) v
        go (inr p) z = deltas_six a b x y (number_six a b (versions_six (history_in s t e).held a b p.0)) (number_six x y (versions_six (history_in s t e).held x y p.1)) v

    pub delta_short : (ps cs qs ds : List ℕ) (a b : Version) → a ≡ short_of ps cs → b ≡ short_of qs ds → Deltas s t e a b most r u c1 c2 c3 c4 c5 c6 d1 d2 d3 d4 d5 d6 → Deltas s t e (version_of ps cs) (version_of qs ds) most r u c1 c2 c3 c4 c5 c6 d1 d2 d3 d4 d5 d6
    delta_short ps cs qs ds a b p q =
        deltas_either a b (version_of ps cs) (version_of qs ds)
        (subst (λ (z : Version). Either (history_in s t e).held z (version_of ps cs)) (sym p) (short_either (history_in s t e).held few_pairs ps cs))
        (subst (λ (z : Version). Either (history_in s t e).held z (version_of qs ds)) (sym q) (short_either (history_in s t e).held few_pairs qs ds))
