-- a version of more pairs than peers names a peer that has no edits: it is refused like what is no version
use Prim.Native.Nat.{ℕ, ◌<◌, ◌≤◌}
use mathlib.Core.Path.{◌≡◌, refl, sym, ap, ap₂, subst, ◌∙◌}
use mathlib.Core.Bool.{Bool, true, false, cond, true≢false}
use mathlib.Core.List.{List, [], ◌∷◌}
use native.Mathlib.Omega.{arith}
use lib.Dec.{eqb, leb}
use lib.ListN.{length}
use borrow.Author.Tests.{eqb-true, leb-true, leb-false, ne_eqb}
use Rattle.units.specs.Limits.{PEERS}
use Rattle.units.specs.Codes.{unless, kept}
use Rattle.units.specs.Lists.{every}
use Rattle.store.specs.Header.{room}
use Rattle.history.specs.Edit.{Version, Held, History}
use Rattle.history.specs.Version.{named, closed, version_code, rising, above, is_held}
use Rattle.history.specs.Valid.{valid}
use Rattle.history.specs.Codes.{checkout_code}
use Rattle.history.proofs.Sound.{sound_of}
use Rattle.history.proofs.Pairs.{pairs_most}
use Rattle.tracker.specs.Rows.{broken, target_room, history_in, is_history}
use Rattle.tracker.specs.Entries.{zipped, version_of, short_of, Leaves, checkout_number, checked_out}
use Rattle.tracker.proofs.Leaving.{well_of, leaves_refused, leaves_as, kept_not}
use Rattle.tracker.proofs.Checking.{code_not}

zipped-length : (ps cs : List ℕ) → length ps ≡ length cs → length (zipped ps cs) ≡ length ps
unfolding zipped
zipped-length [] cs e = refl
zipped-length (p ∷ ps) [] e = omega (arith, e)
zipped-length (p ∷ ps) (c ∷ cs) e = let r = zipped-length ps cs (omega (arith, e)) in omega (arith, r)

pub broken-named : (l : List Held) → named l broken ≡ false
unfolding named rising above every is_held
broken-named l = refl

-- what is shortened is as it was, or neither is named
pub record Either (l : List Held) (v w : Version) : Type 0 where
  pub same : named l v ≡ true → v ≡ w
  pub back : named l w ≡ true → v ≡ w

module _ (l : List Held) (few : (v : Version) → named l v ≡ true → length v ≤ 16) (ps cs : List ℕ) where
  unequal : (b : Bool) → eqb (length ps) (length cs) ≡ b → 16 < length ps → named l (cond b (zipped ps cs) broken) ≡ true → ⊥
  unequal false q k n = true≢false (sym n ∙ broken-named l)
  unequal true q k n = let m = few (zipped ps cs) n in let z = zipped-length ps cs (eqb-true (length ps) (length cs) q) in omega (arith, m, z, k)

  by_length : (b : Bool) → leb (length ps) PEERS ≡ b → Either l (cond b (version_of ps cs) broken) (version_of ps cs)
  unfolding version_of
  by_length true q = record { same = λ _. refl; back = λ _. refl }
  by_length false q = record {
    same = λ n. absurd (true≢false (sym n ∙ broken-named l));
    back = λ n. absurd (unequal (eqb (length ps) (length cs)) refl (leb-false (length ps) PEERS q) n);
  }

  pub short_either : Either l (short_of ps cs) (version_of ps cs)
  unfolding short_of
  short_either = by_length (leb (length ps) PEERS) refl

-- ---- checkout

-- versions that are one, or neither of which is named, have one number
version_code_six : (l : List Held) (v : Version) → named l v ≡ false → version_code l v ≡ 6
unfolding version_code
version_code_six l v n = ap (λ (b : Bool). unless b 6 (unless (closed l v) 7 0)) n

module _ (s t e : List ℕ) where
  number_none : (v : Version) → is_history s t e ≡ false → 15 ≡ checkout_number s t e v
  unfolding checkout_number
  number_none v w = sym (ap (λ (b : Bool). unless b 15 (checkout_code (room s) (target_room t) (history_in s t e) v)) w)

  pub checkout_none : (v : Version) → is_history s t e ≡ false → Leaves (checkout_number s t e v) (checked_out s t e v) 15 s t e s t e
  checkout_none v w = leaves_refused (checkout_number s t e v) (checked_out s t e v) 15 s t e (number_none v w) (λ z. omega (arith, z))

  module _ (w : is_history s t e ≡ true) where
    pub few_pairs : (v : Version) → named (history_in s t e).held v ≡ true → length v ≤ 16
    few_pairs v n = pairs_most (history_in s t e).held v (sound_of (room s) (target_room t) (history_in s t e) (well_of s t e w).valid).fit n

    number_six : (v : Version) → named (history_in s t e).held v ≡ false → checkout_number s t e v ≡ 6
    unfolding checkout_number
    number_six v n =
        let c = version_code_six (history_in s t e).held v n in
        ap (λ (b : Bool). unless b 15 (checkout_code (room s) (target_room t) (history_in s t e) v)) w
        ∙ (code_not (room s) (target_room t) (history_in s t e) v (well_of s t e w).valid (λ z. omega (arith, z, c)) ∙ c)

    pub checkout_either : (v x : Version) → Either (history_in s t e).held v x → (r : ℕ) (u : List ℕ) → Leaves (checkout_number s t e v) (checked_out s t e v) r s t e u t e → Leaves (checkout_number s t e x) (checked_out s t e x) r s t e u t e
    checkout_either v x either r u l = go (named (history_in s t e).held v) (named (history_in s t e).held x) refl refl
      where
        same : v ≡ x → Leaves (checkout_number s t e x) (checked_out s t e x) r s t e u t e
        same q = subst (λ (z : Version). Leaves (checkout_number s t e z) (checked_out s t e z) r s t e u t e) q l

        go : (a b : Bool) → named (history_in s t e).held v ≡ a → named (history_in s t e).held x ≡ b → Leaves (checkout_number s t e x) (checked_out s t e x) r s t e u t e
        go true b p q = same (either.same p)
        go false true p q = same (either.back q)
        go false false p q =
            let f = number_six v p in
            let g = number_six x q in
            leaves_as (checkout_number s t e v) (checkout_number s t e x) (checked_out s t e v) (checked_out s t e x) r s t e u t e (f ∙ sym g)
            (kept_not (checkout_number s t e v) (checked_out s t e v) (history_in s t e) (λ z. omega (arith, z, f)) ∙ sym (kept_not (checkout_number s t e x) (checked_out s t e x) (history_in s t e) (λ z. omega (arith, z, g)))) l

    pub checkout_short : (ps cs : List ℕ) (v : Version) → v ≡ short_of ps cs → (r : ℕ) (u : List ℕ) → Leaves (checkout_number s t e v) (checked_out s t e v) r s t e u t e
        → Leaves (checkout_number s t e (version_of ps cs)) (checked_out s t e (version_of ps cs)) r s t e u t e
    checkout_short ps cs v q = checkout_either v (version_of ps cs) (subst (λ (z : Version). Either (history_in s t e).held z (version_of ps cs)) (sym q) (short_either (history_in s t e).held few_pairs ps cs))
