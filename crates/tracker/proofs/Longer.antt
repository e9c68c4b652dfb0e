-- an edit whose context has more pairs than peers, or columns of unequal length: it is refused as it would be with its context whole
use Prim.Native.Nat.{ℕ}
use mathlib.Core.Path.{◌≡◌, refl, sym, ap, subst, ◌∙◌}
use mathlib.Core.Bool.{Bool, true, false, cond, true≢false}
use mathlib.Core.List.{List}
use native.Mathlib.Omega.{arith}
use lib.Dec.{eqb, ltb}
use lib.ListN.{length}
use borrow.Author.Tests.{ne_eqb}
use Rattle.store.specs.Header.{room}
use Rattle.units.specs.Limits.{EDITS}
use Rattle.units.specs.Codes.{unless}
use Rattle.history.specs.Edit.{Version, Edit, Held, History}
use Rattle.history.specs.Version.{named}
use Rattle.history.specs.Valid.{edit_code, valid}
use Rattle.history.specs.Codes.{arrive_code}
use Rattle.history.specs.Run.{arrive_rest}
use Rattle.history.proofs.Sound.{edit_ok}
use Rattle.history.proofs.Pairs.{not_named_code}
use Rattle.history.proofs.Runs.{rest_code}
use Rattle.tracker.specs.declared.row.Head.{Head}
use Rattle.tracker.specs.Rows.{to_edit, target_room, history_in, is_history}
use Rattle.tracker.specs.Entries.{version_of, short_of, Leaves, arrive_number, arrived}
use Rattle.tracker.proofs.Leaving.{well_of, kept_not, leaves_as}
use Rattle.tracker.proofs.Shorts.{Either, short_either, few_pairs}

-- an edit whose context is not named is refused by 1 to 6
not_zero : (l : List Held) (x : Edit) → named l x.context ≡ false → edit_code l x ≡ 0 → ⊥
not_zero l x n z = true≢false (sym (edit_ok l x z).named ∙ n)

or_else_not : (c r : ℕ) → (c ≡ 0 → ⊥) → cond (eqb c 0) r c ≡ c
or_else_not c r z = ap (λ (b : Bool). cond b r c) (ne_eqb c 0 z)

rest_first : (spans targets : ℕ) (h : History) (x : Edit) → (edit_code h.held x ≡ 0 → ⊥) → arrive_rest spans targets h x ≡ edit_code h.held x
unfolding arrive_rest
rest_first spans targets h x z = or_else_not (edit_code h.held x) _ z

module _ (s t e : List ℕ) (w : is_history s t e ≡ true) (x : Head) where
  first : (v : Version) → named (history_in s t e).held v ≡ false → arrive_number s t e (to_edit x v) ≡ edit_code (history_in s t e).held (to_edit x v)
  unfolding arrive_number
  first v n =
      ap (λ (b : Bool). unless b 15 (arrive_code (room s) (target_room t) (history_in s t e) (to_edit x v))) w
      ∙ (rest_code (room s) (target_room t) (history_in s t e) (well_of s t e w).valid (to_edit x v)
      ∙ rest_first (room s) (target_room t) (history_in s t e) (to_edit x v) (not_zero (history_in s t e).held (to_edit x v) n))

  pub arrive_whole : (ps cs : List ℕ) (r : ℕ) (s' t' e' : List ℕ) → Leaves (arrive_number s t e (to_edit x (short_of ps cs))) (arrived s t e (to_edit x (short_of ps cs))) r s t e s' t' e'
      → Leaves (arrive_number s t e (to_edit x (version_of ps cs))) (arrived s t e (to_edit x (version_of ps cs))) r s t e s' t' e'
  arrive_whole ps cs r s' t' e' l = go (named (history_in s t e).held (short_of ps cs)) (named (history_in s t e).held (version_of ps cs)) refl refl
    where
      either : Either (history_in s t e).held (short_of ps cs) (version_of ps cs)
      either = short_either (history_in s t e).held (few_pairs s t e w) ps cs

      same : short_of ps cs ≡ version_of ps cs → Leaves (arrive_number s t e (to_edit x (version_of ps cs))) (arrived s t e (to_edit x (version_of ps cs))) r s t e s' t' e'
      same q = subst (λ (z : Version). Leaves (arrive_number s t e (to_edit x z)) (arrived s t e (to_edit x z)) r s t e s' t' e') q l

      go : (a b : Bool) → named (history_in s t e).held (short_of ps cs) ≡ a → named (history_in s t e).held (version_of ps cs) ≡ b
          → Leaves (arrive_number s t e (to_edit x (version_of ps cs))) (arrived s t e (to_edit x (version_of ps cs))) r s t e s' t' e'
      go true b p q = same (either.same p)
      go false true p q = same (either.back q)
      go false false p q =
          let X = to_edit x (short_of ps cs) in
          let Y = to_edit x (version_of ps cs) in
          let f : arrive_number s t e X ≡ arrive_number s t e Y = first (short_of ps cs) p ∙ (sym (not_named_code (history_in s t e).held X Y refl refl p q) ∙ sym (first (version_of ps cs) q)) in
          let no : arrive_number s t e X ≡ 0 → ⊥ = λ z. not_zero (history_in s t e).held X p (sym (first (short_of ps cs) p) ∙ z) in
          leaves_as (arrive_number s t e X) (arrive_number s t e Y) (arrived s t e X) (arrived s t e Y) r s t e s' t' e' f
          (kept_not (arrive_number s t e X) (arrived s t e X) (history_in s t e) no ∙ sym (kept_not (arrive_number s t e Y) (arrived s t e Y) (history_in s t e) (λ z. no (f ∙ z)))) l
