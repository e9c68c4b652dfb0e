-- Edits as clocks, with a placeholder as one more edit that every context holds; and when a unit is in a version.
use Prim.Native.Nat.{ℕ, zero, suc, ◌+◌, ◌<◌, ◌≤◌}
use mathlib.Core.Path.{◌≡◌, refl, sym, ap, ap₂, subst, ◌∙◌}
use mathlib.Core.Logic.{◌⊎◌, inl, inr}
use mathlib.Core.Bool.{Bool, true, false, not, ◌||◌, cond, true≢false}
use mathlib.Core.List.{List, [], ◌∷◌}
use native.Mathlib.Omega.{arith}
use native.Mathlib.Decide.{dec_lt}
use lib.Dec.{eqb, ltb}
use lib.IntN.{ℤ, pos, ◌+ℤ◌}
use lib.Signed.{lt_z}
use borrow.Author.Tests.{lt-ltb, le-ltb, ltb-true, ne_eqb}
use Rattle.span.specs.declared.ids.Id.{Id}
use Rattle.span.specs.declared.span.FugueSpan.{FugueSpan}
use Rattle.span.specs.Chunk.{UNKNOWN, chunk, len_of, shape_of}
use Rattle.span.specs.Ids.{UNKNOWN_PEER, id, inc_id}
use Rattle.fugue.proofs.Tests.{Test, pass, fail, eqb_test}
use Rattle.fugue.proofs.Clocks.{Clock}
use Rattle.history.specs.Edit.{Version, Insert, Edit, size, Held, History}
use Rattle.history.specs.Version.{number, count_of, below, in_version}
use Rattle.history.specs.Checkout.{status_at}
use Rattle.history.proofs.Plain.{sees}

-- a peer's count in a version; the placeholder's n units are in every one
unfoldable pub count : ℕ → Version → ℕ → ℕ
count n v p = cond (eqb p UNKNOWN_PEER) n (count_of v p)

-- what an edit's context holds; the placeholder's, as an edit, holds nothing
unfoldable pub holds : ℕ → Edit → ℕ → ℕ
holds n e p = cond (eqb e.id.peer UNKNOWN_PEER) 0 (count n e.context p)

abbrev pub clock : ℕ → Clock Edit
clock n = record { peer = λ (e : Edit). e.id.peer; first = λ (e : Edit). number e.id.counter; size = λ (e : Edit). size e; holds = holds n }

abbrev pub Known : Edit → Type 0
Known e = ¬ (e.id.peer ≡ UNKNOWN_PEER)

-- the list that an edit sees: the units of its context; a placeholder sees nothing
unfoldable pub before : Edit → History → List FugueSpan
before e h = cond (eqb e.id.peer UNKNOWN_PEER) [] (sees e.context h)

pub count_known : (n : ℕ) (v : Version) (p : ℕ) → ¬ (p ≡ UNKNOWN_PEER) → count n v p ≡ count_of v p
unfolding count
count_known n v p h = ap (λ (b : Bool). cond b n (count_of v p)) (ne_eqb p UNKNOWN_PEER h)

pub count_unknown : (n : ℕ) (v : Version) → count n v UNKNOWN_PEER ≡ n
unfolding count
count_unknown n v = refl

pub holds_known : (n : ℕ) (e : Edit) (p : ℕ) → Known e → holds n e p ≡ count n e.context p
unfolding holds
holds_known n e p h = ap (λ (b : Bool). cond b 0 (count n e.context p)) (ne_eqb e.id.peer UNKNOWN_PEER h)

pub before_known : (e : Edit) (h : History) → Known e → before e h ≡ sees e.context h
unfolding before
before_known e h k = ap (λ (b : Bool). cond b [] (sees e.context h)) (ne_eqb e.id.peer UNKNOWN_PEER k)

-- known, or the placeholder's
pub known_or : (e : Edit) → Known e ⊎ (e.id.peer ≡ UNKNOWN_PEER)
known_or e = go (eqb_test e.id.peer UNKNOWN_PEER)
  where
    go : Test (eqb e.id.peer UNKNOWN_PEER) (e.id.peer ≡ UNKNOWN_PEER) → Known e ⊎ (e.id.peer ≡ UNKNOWN_PEER)
    go (pass b d) = inr d
    go (fail b d) = inl d

pub before_unknown : (e : Edit) (h : History) → e.id.peer ≡ UNKNOWN_PEER → before e h ≡ []
unfolding before
before_unknown e h k = ap (λ (p : ℕ). cond (eqb p UNKNOWN_PEER) [] (sees e.context h)) k

-- ---- units in a version

-- the counter is a natural number
abbrev pub Natural : Id → Type 0
Natural i = i.counter ≡ pos (number i.counter)

pub natural_inc : (i : Id) (k : ℕ) → Natural i → (Natural (inc_id i k)) × (number (inc_id i k).counter ≡ number i.counter + k)
unfolding inc_id
natural_inc i k h =
    let e : i.counter +ℤ pos k ≡ pos (number i.counter + k) = ap (λ (z : ℤ). z +ℤ pos k) h in
    (e ∙ ap (λ (z : ℤ). pos (number z)) (sym e), ap number e)

in_known : (v : Version) (i : Id) → Natural i → ¬ (i.peer ≡ UNKNOWN_PEER) → in_version v i ≡ ltb (number i.counter) (count_of v i.peer)
unfolding in_version below
in_known v i h k = ap₂ ◌||◌ (ne_eqb i.peer UNKNOWN_PEER k) (ap (λ (z : ℤ). lt_z z (pos (count_of v i.peer))) h)

in_unknown : (v : Version) (i : Id) → i.peer ≡ UNKNOWN_PEER → in_version v i ≡ true
unfolding in_version
in_unknown v i k = ap (λ (p : ℕ). eqb p UNKNOWN_PEER || below v i) k

pub below-lt : (v : Version) (i : Id) → Natural i → below v i ≡ true → number i.counter < count_of v i.peer
unfolding below
below-lt v i h e = ltb-true (number i.counter) (count_of v i.peer) (ap (λ (z : ℤ). lt_z z (pos (count_of v i.peer))) (sym h) ∙ e)

pub lt-below : (v : Version) (i : Id) → Natural i → number i.counter < count_of v i.peer → below v i ≡ true
unfolding below
lt-below v i h k = ap (λ (z : ℤ). lt_z z (pos (count_of v i.peer))) h ∙ lt-ltb (number i.counter) (count_of v i.peer) k

pub not_below : (v : Version) (i : Id) → Natural i → count_of v i.peer ≤ number i.counter → below v i ≡ false
unfolding below
not_below v i h k = ap (λ (z : ℤ). lt_z z (pos (count_of v i.peer))) h ∙ le-ltb (number i.counter) (count_of v i.peer) k

module _ (n : ℕ) (v : Version) (held : List Held) (i : Id) (nat : Natural i) where
  pub past_of_lem : number i.counter < count n v i.peer → (status_at v held i).future ≡ false
  unfolding status_at
  past_of_lem h = go (eqb_test i.peer UNKNOWN_PEER)
    where
      go : Test (eqb i.peer UNKNOWN_PEER) (i.peer ≡ UNKNOWN_PEER) → not (in_version v i) ≡ false
      go (pass b d) = ap not (in_unknown v i d)
      go (fail b d) =
          let k : number i.counter < count_of v i.peer = subst (λ (z : ℕ). number i.counter < z) (count_known n v i.peer d) h in
          ap not (in_known v i nat d ∙ lt-ltb (number i.counter) (count_of v i.peer) k)

  pub future_of : ¬ (i.peer ≡ UNKNOWN_PEER) → count_of v i.peer ≤ number i.counter → (status_at v held i).future ≡ true
  unfolding status_at
  future_of d h = ap not (in_known v i nat d ∙ le-ltb (number i.counter) (count_of v i.peer) h)

  pub in_past : (i.peer ≡ UNKNOWN_PEER → number i.counter < n) → (status_at v held i).future ≡ false → number i.counter < count n v i.peer
  in_past h f = go (eqb_test i.peer UNKNOWN_PEER) (dec_lt (number i.counter) (count_of v i.peer))
    where
      go : Test (eqb i.peer UNKNOWN_PEER) (i.peer ≡ UNKNOWN_PEER) → Dec (number i.counter < count_of v i.peer) → number i.counter < count n v i.peer
      go (pass b d) k = subst (λ (p : ℕ). number i.counter < count n v p) (sym d) (subst (λ (z : ℕ). number i.counter < z) (sym (count_unknown n v)) (h d))
      go (fail b d) (yes k) = subst (λ (z : ℕ). number i.counter < z) (sym (count_known n v i.peer d)) k
      go (fail b d) (no k) = absurd (true≢false (sym (future_of d (omega arith)) ∙ f))

-- ---- the placeholder as an edit

abbrev pub holder : ℕ → Edit
holder n = record { id = id UNKNOWN_PEER (pos 0); at = 0; act = Insert 0 (chunk UNKNOWN n); context = [] }

abbrev pub base : ℕ → List Edit
base zero = []
base (suc n) = holder (suc n) ∷ []

pub holder_size : (n : ℕ) → len_of (chunk UNKNOWN n) ≡ n
unfolding len_of shape_of
holder_size n = refl
